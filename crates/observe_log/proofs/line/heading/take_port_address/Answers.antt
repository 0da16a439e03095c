use Rattle.std.proofs.Common.{subst, sym}
use Rattle.observe_log.specs.Readers.{Gives}
use Rattle.observe_log.proofs.QuickLemmas.{port_read}
use Rattle.observe_log.proofs.line.heading.take_port_address.Goals as goal

pub returns-in-Some : goal.returns-in-Some
returns-in-Some c =
    let left = c.take_number.new.self in
    subst (Gives c.dword_at.result left) (sym (port_read c.args.words.now left c.in-Some.address c.in-Some.ensures.taken)) (c.dword_at.ensures left)
