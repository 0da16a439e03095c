-- How a call of the program ends, seen at its words, its source and its sink.
use Rattle.std.specs.Prelude.{ℕ, Bool, ◌≤◌, ◌<◌, List, [], length, Option, IfSome}
use Rattle.std.specs.Io.KnownBytes.{Consumes, IsAtEnd, Appends}
use Rattle.program_status.specs.declared.status.Status.{Status}
use Rattle.program_input.specs.Traces.{IsCompleteTrace}
use Rattle.program_words.specs.declared.Form.{Form}
use Rattle.pcitree.specs.Words.{command_of}
use Rattle.pcitree.specs.Answers.{limit_of, AnswersTo, Refuses}
use Rattle.io_ports.specs.Writing.{WritesFront}

-- the source gave this input to its end: all that it held, where it tells it
pub record ReadsInput (form : Form) (held left : Option (List ℕ)) (input : List ℕ) : Type 0 where
  pub read : Consumes held left input
  pub at_end : IsAtEnd left
  pub within : length input ≤ limit_of form

-- the source held more than an input may have, where it tells it
abbrev pub HoldsTooMuch : Form → Option (List ℕ) → Type 0
HoldsTooMuch form held = IfSome held (λ input. limit_of form < length input)

-- the source gave an input to its end, and this text answers it and ends with this status
pub record AnswersInput (form : Form) (words : List (List ℕ)) (held left : Option (List ℕ)) (text : List ℕ) (ending : Status) : Type 0 where
  pub input : List ℕ
  pub reads : ReadsInput form held left input
  pub answers : AnswersTo form words input text ending

-- the source gave an input to its end, and this status refuses it
pub record RefusesInput (form : Form) (words : List (List ℕ)) (held left : Option (List ℕ)) (status : Status) : Type 0 where
  pub input : List ℕ
  pub reads : ReadsInput form held left input
  pub refuses : Refuses form words input status

-- the sink took the whole text that answers the input, which ends with this status
pub record Finishes (form : Form) (words : List (List ℕ)) (held left before after : Option (List ℕ)) (ending : Status) : Type 0 where
  pub text : List ℕ
  pub answers : AnswersInput form words held left text ending
  pub written : Appends before after text

-- the sink took a front of the text that answers the input
pub record StopsInText (form : Form) (words : List (List ℕ)) (held left before after : Option (List ℕ)) : Type 0 where
  pub text : List ℕ
  pub ending : Status
  pub answers : AnswersInput form words held left text ending
  pub front : WritesFront before after text

-- the forms that write the trace of a complete run
abbrev pub writes_run : Form → Bool
writes_run form = (command_of form []).writes_run

-- the sink took the text of a valid board and of a complete run of it, as `check` wants it
pub record WritesRun (before after : Option (List ℕ)) : Type 0 where
  pub text : List ℕ
  pub complete : IsCompleteTrace text
  pub written : Appends before after text
