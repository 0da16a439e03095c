-- How it is told that a log is not allowed, or is too much.
use Rattle.std.specs.Prelude.{ℕ, List, codes}
use Rattle.history_model.specs.WhyText.{why_text}
use Rattle.program_status.specs.declared.log.LogRefusal.{LogRefusal}
use Rattle.program_status.specs.declared.log.LogRefusal.TheVariants.{Cause, NoAct}
use Rattle.program_status.specs.declared.log.LogExcess.{LogExcess}
use Rattle.program_status.specs.declared.log.LogExcess.TheVariants.{Operations, Pieces, Events, Pairings}

-- N1 to N5 of an act; O1 where none can be named
abbrev pub refusal_text : LogRefusal → List ℕ
refusal_text (Cause why) = why_text why
refusal_text NoAct = codes "O1"

-- O2 to O5
abbrev pub excess_text : LogExcess → List ℕ
excess_text Operations = codes "O2"
excess_text Pieces = codes "O3"
excess_text Events = codes "O4"
excess_text Pairings = codes "O5"
