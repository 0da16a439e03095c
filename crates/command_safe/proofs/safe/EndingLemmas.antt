-- With which status a text of `safe` ends.
use Rattle.std.proofs.Common.{◌≡◌, ℕ, Bool, true, false, cond, List, refl, ap, ◌∙◌}
use Rattle.program_status.specs.declared.counts.SafeCounts.{SafeCounts}
use Rattle.program_status.specs.declared.status.Status.{Status}
use Rattle.program_status.specs.declared.status.Status.TheVariants.{Done, NotSafe}
use Rattle.program_status.specs.Subjects.{subject_of}
use Rattle.program_status.specs.Subjects.Subject.{Success}
use Rattle.command_safe.specs.safe.Answers.{AnswersSafe}

ends_well : (all_safe : Bool) (counts : SafeCounts) → subject_of (cond all_safe Done (NotSafe counts)) ≡ Success
ends_well true counts = refl
ends_well false counts = refl

-- one that speaks of success: the text is whole in the sink
pub safe_succeeds : (input text : List ℕ) (ending : Status) → AnswersSafe input text ending → subject_of ending ≡ Success
safe_succeeds input text ending answers = ap subject_of answers.says.ends ∙ ends_well _ _
