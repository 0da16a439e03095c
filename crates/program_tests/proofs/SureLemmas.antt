-- Over ports that never fail.
use Rattle.std.proofs.Common.{◌≡◌, ◌≢◌, ◌⊎◌, ℕ, List, inl, inr, refl, arith}
use Rattle.io_ports.specs.Faults.{Rose}
use Rattle.program_status.specs.declared.status.Status.{Status}
use Rattle.program_status.specs.declared.status.Status.TheVariants.{Done, NoMemory, Usage, ReadFault, WriteFault, TooLong, BadBoard, BadTrace, BadMachine, TooManyEvents, NotRun, Incomplete, NotSafe, NotShown, DrawnTo, BadLog, NotTold, TooMuch, ToldTo}
use Rattle.program_status.specs.Subjects.{Serves}
use Rattle.program_words.specs.declared.Form.{Form}
use Rattle.pcitree.specs.Answers.{IsAnswered, Causes}

-- a count that is always 0 did not rise
pub never_rose : Rose 0 0 → ⊥
never_rose rose = omega (arith, rose)

module _ (form : Form) (words : List (List ℕ)) (input : List ℕ) where
  -- an input that is served is answered, where no port is at fault and there is memory
  pub answered_or_no_memory : (status : Status) → status ≢ ReadFault → status ≢ WriteFault → Serves status → Causes form words input status → IsAnswered form words input status ⊎ (status ≡ NoMemory)
  answered_or_no_memory Done reads writes serves cause = inl cause
  answered_or_no_memory (NotSafe counts) reads writes serves cause = inl cause
  answered_or_no_memory (DrawnTo event why) reads writes serves cause = inl cause
  answered_or_no_memory (ToldTo line why) reads writes serves cause = inl cause
  answered_or_no_memory NoMemory reads writes serves cause = inr refl
  answered_or_no_memory (Usage word) reads writes serves cause = absurd (serves.0 refl)
  answered_or_no_memory ReadFault reads writes serves cause = absurd (reads refl)
  answered_or_no_memory WriteFault reads writes serves cause = absurd (writes refl)
  answered_or_no_memory TooLong reads writes serves cause = absurd (serves.1 refl)
  answered_or_no_memory (BadBoard line fault) reads writes serves cause = absurd (serves.2 refl)
  answered_or_no_memory (BadTrace line fault) reads writes serves cause = absurd (serves.2 refl)
  answered_or_no_memory (BadMachine line fault) reads writes serves cause = absurd (serves.2 refl)
  answered_or_no_memory (TooManyEvents events) reads writes serves cause = absurd (serves.2 refl)
  answered_or_no_memory (NotRun event why) reads writes serves cause = absurd (serves.2 refl)
  answered_or_no_memory (Incomplete left) reads writes serves cause = absurd (serves.2 refl)
  answered_or_no_memory NotShown reads writes serves cause = absurd (serves.2 refl)
  answered_or_no_memory (BadLog line fault) reads writes serves cause = absurd (serves.2 refl)
  answered_or_no_memory (NotTold line refusal) reads writes serves cause = absurd (serves.2 refl)
  answered_or_no_memory (TooMuch line excess) reads writes serves cause = absurd (serves.2 refl)
