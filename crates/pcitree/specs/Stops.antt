-- What holds where a part of the call stops with a status.
use Rattle.std.specs.Prelude.{ℕ, ◌≡◌, List, Option, Some, None, ◌⊎◌}
use Rattle.io_ports.specs.Faults.{Rose}
use Rattle.program_status.specs.declared.status.Status.{Status}
use Rattle.program_words.specs.declared.Form.{Form}
use Rattle.program_status.specs.Subjects.{Subject, subject_of}
use Rattle.program_status.specs.Subjects.Subject.{Success, Memory, Words, Reading, Writing, Length, Input}
use Rattle.pcitree.specs.Given.{number_of, given_by, left_by}
use Rattle.pcitree.specs.Ends.{HoldsTooMuch, RefusesInput, StopsInText}

-- an input is not read, or not answered, with a status that speaks of this
abbrev pub StopsBy : Subject → Form → List (List ℕ) → Option (List ℕ) → Option (List ℕ) → ℕ → ℕ → Status → Type 0
StopsBy Success form words held left before now status = ⊥
StopsBy Memory form words held left before now status = Unit {0}
StopsBy Words form words held left before now status = ⊥
StopsBy Reading form words held left before now status = Rose before now
StopsBy Writing form words held left before now status = ⊥
StopsBy Length form words held left before now status = HoldsTooMuch form held
StopsBy Input form words held left before now status = RefusesInput form words held left status

-- an input is not read, or not answered, and this status says why
abbrev pub StopsAnswering : Form → List (List ℕ) → Option (List ℕ) → Option (List ℕ) → ℕ → ℕ → Status → Type 0
StopsAnswering form words held left before now status = StopsBy (subject_of status) form words held left before now status

module _ (S K : Type 0) (held : S → Option (List ℕ)) (read_faults : S → ℕ) (taken : K → Option (List ℕ)) (write_faults : K → ℕ) where
  -- the sink failed in the text
  pub record StopsWriting (form : Form) (words : List (List ℕ)) (number : Option (List ℕ)) (s t : S) (k l : K) (status : Status) : Type 0 where
    pub subject : subject_of status ≡ Writing
    pub rose : Rose (write_faults k) (write_faults l)
    pub text : StopsInText form words (given_by number (held s)) (left_by number (held t)) (taken k) (taken l)

  -- the serving of an input, which may be a number among the words, stops with this status: before anything is written, or as the sink failed
  abbrev pub StopsServing : Form → List (List ℕ) → Option (List ℕ) → S → S → K → K → Status → Type 0
  StopsServing form words number s t k l status =
      (StopsAnswering form words (given_by number (held s)) (left_by number (held t)) (read_faults s) (read_faults t) status × (l ≡ k))
      ⊎ StopsWriting form words number s t k l status

  -- a call with words of this form, or of none, stops with this status
  abbrev pub StopsRunning : Option Form → List (List ℕ) → S → S → K → K → Status → Type 0
  StopsRunning None words s t k l status = (subject_of status ≡ Words) × (t ≡ s) × (l ≡ k)
  StopsRunning (Some form) words s t k l status = StopsServing form words (number_of form words) s t k l status
