-- Who is refused without a cause, and of what a refusal speaks.
use Rattle.std.proofs.Common.{◌≡◌, Option, None, ◌⊎◌, inl, inr, refl}
use Rattle.program_status.specs.declared.status.Status.{Status}
use Rattle.program_status.specs.declared.status.Status.TheVariants as statuses
use Rattle.program_status.specs.Subjects.{Subject, subject_of}
use Rattle.program_status.specs.Subjects.Subject.{Success, Memory, Words, Reading, Writing, Length, Input}
use Rattle.program_input.specs.Refusals.{RefusesAs, RefusesBy, IsRefusing, board_refusal}
use Rattle.program_input.specs.Boards.{RefusesBoard, IsBoardText}

-- the one status that speaks of memory
of_memory : (status : Status) → subject_of status ≡ Memory → status ≡ statuses.NoMemory
of_memory statuses.NoMemory is = refl
of_memory _ is = cc

refused_as : (subject : Subject) (cause : Option Status) (status : Status) → subject_of status ≡ subject → cause ≡ None → RefusesAs subject cause status → status ≡ statuses.NoMemory
refused_as Success cause status is none refuses = absurd refuses
refused_as Memory cause status is none refuses = of_memory status is
refused_as Words cause status is none refuses = absurd refuses
refused_as Reading cause status is none refuses = absurd refuses
refused_as Writing cause status is none refuses = absurd refuses
refused_as Length cause status is none refuses = absurd refuses
refused_as Input cause status is none refuses = cc

-- where there is no cause, only for want of memory
pub refused_by_memory : (cause : Option Status) (status : Status) → cause ≡ None → RefusesBy cause status → status ≡ statuses.NoMemory
refused_by_memory cause status none refuses = refused_as (subject_of status) cause status refl none refuses

speaks_as : (subject : Subject) (cause : Option Status) (status : Status) → RefusesAs subject cause status → (subject ≡ Memory) ⊎ (subject ≡ Input)
speaks_as Success cause status refuses = absurd refuses
speaks_as Memory cause status refuses = inl refl
speaks_as Words cause status refuses = absurd refuses
speaks_as Reading cause status refuses = absurd refuses
speaks_as Writing cause status refuses = absurd refuses
speaks_as Length cause status refuses = absurd refuses
speaks_as Input cause status refuses = inr refl

-- a refusal speaks of memory or of the input
pub refusal_subject : (cause : Option Status) (status : Status) → RefusesBy cause status → (subject_of status ≡ Memory) ⊎ (subject_of status ≡ Input)
refusal_subject cause status refuses = speaks_as (subject_of status) cause status refuses

-- a board text that has no fault
pub board_refusing : IsRefusing RefusesBoard IsBoardText
board_refusing = record {
  served = λ input status none refuses. refused_by_memory (board_refusal input) status none refuses;
  subject = λ input status refuses. refusal_subject (board_refusal input) status refuses;
}
