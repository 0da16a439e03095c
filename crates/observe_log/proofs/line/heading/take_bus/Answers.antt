use Rattle.std.proofs.Common.{subst, sym}
use Rattle.observe_log.specs.Readers.{Gives}
use Rattle.observe_log.proofs.QuickLemmas.{bus_read}
use Rattle.observe_log.proofs.line.heading.take_bus.Goals as goal

pub returns-in-Some : goal.returns-in-Some
returns-in-Some c =
    let left = c.take_number.new.self in
    subst (Gives c.bus_there.result left) (sym (bus_read c.args.board.now c.args.words.now left c.in-Some.number c.in-Some.ensures.taken)) (c.bus_there.ensures left)
