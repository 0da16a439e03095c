-- Of what a refusal of `import` speaks.
use Rattle.std.proofs.Common.{◌≡◌, ℕ, List, ◌⊎◌, inl, inr, ap}
use Rattle.program_status.specs.declared.status.Status.{Status}
use Rattle.program_status.specs.Subjects.{subject_of}
use Rattle.program_status.specs.Subjects.Subject.{Memory, Input}
use Rattle.program_input.specs.Refusals.{IsRefusing}
use Rattle.program_input.proofs.RefusalLemmas.{refusal_subject}
use Rattle.command_boards.specs.import.Answers.{machine_refusal, RefusesImport, IsImportedSurely}

import_subject : (input : List ℕ) (status : Status) → RefusesImport input status → (subject_of status ≡ Memory) ⊎ (subject_of status ≡ Input)
import_subject input status (inl refuses) = refusal_subject (machine_refusal input) status refuses
import_subject input status (inr given) = inr (ap subject_of given.told)

pub import_refusing : IsRefusing RefusesImport IsImportedSurely
import_refusing = record { served = λ input status surely. absurd surely; subject = import_subject }
