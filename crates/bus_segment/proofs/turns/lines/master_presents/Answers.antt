use Rattle.std.proofs.Common.{Option, subst, sym, ◌∙◌}
use Rattle.pci_command.specs.declared.op_id.OpId.{OpId}
use Rattle.bus_core.specs.Places.{WantsAt}
use Rattle.bus_segment.proofs.turns.AskLemmas.{master_silent, is_none}
use Rattle.bus_segment.proofs.turns.lines.master_presents.Goals as goal

pub returns : goal.returns
returns c = λ none.
    master_silent c.args.bus.now c.args.place c.requires.ports
    (subst (λ (turn : Option OpId). WantsAt c.args.place c.args.bus.now.masters turn) (is_none c.wants.result (sym c.is_some.ensures ∙ none)) c.wants.ensures)
