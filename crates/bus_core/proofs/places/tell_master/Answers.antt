use Rattle.std.proofs.Common.{◌∙◌, sym}
use Rattle.bus_core.proofs.TellLemmas.{told, not_told}
use Rattle.bus_core.proofs.places.tell_master.Goals as goal

pub returns-in-Some : goal.returns-in-Some
returns-in-Some c =
    told c.args.board.now c.args.place c.args.step c.in-Some.outcome c.args.masters.now c.end_turn_at.new.masters (sym c.master_outcome.ensures ∙ c.in-Some.is) c.end_turn_at.ensures

pub returns-in-None : goal.returns-in-None
returns-in-None c = not_told c.args.board.now c.args.place c.args.step c.args.masters.now (sym c.master_outcome.ensures ∙ c.in-None.is)
