use Rattle.std.proofs.Common.{sym, subst}
use Rattle.bus_targets.specs.declared.access.Access.{Access}
use Rattle.bus_core.specs.Places.{NotesPart}
use Rattle.bus_core.proofs.NoteLemmas.{part_noted, none_noted}
use Rattle.bus_core.proofs.places.note_part.Goals as goal

pub returns-in-Part : goal.returns-in-Part
returns-in-Part c =
    subst (λ (access : Access). NotesPart c.args.through.now c.args.op access c.part.new.self) (sym c.in-Part.is)
    (part_noted c.args.through.now c.args.op c.in-Part.phases c.part.new.self c.part.ensures.stands)

pub returns-in_default : goal.returns-in_default
returns-in_default c = none_noted c.args.through.now c.args.op c.args.access c.in_default.not-Part
