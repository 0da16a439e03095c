-- How an input is answered for words of each form, and the cause of each answer.
use Rattle.std.specs.Prelude.{ℕ, ◌≡◌, ◌≤◌, ◌<◌, List, length, None}
use Rattle.program_status.specs.declared.status.Status.{Status}
use Rattle.program_words.specs.declared.Form.{Form}
use Rattle.program_words.specs.declared.Form.TheVariants as forms
use Rattle.command_boards.specs.import.Answers.{machine_refusal}
use Rattle.pcitree.specs.Words.{command_of}
use Rattle.program_status.specs.Subjects.{Subject, subject_of}
use Rattle.program_status.specs.Subjects.Subject.{Success, Memory, Words, Reading, Writing, Length, Input}
use Rattle.program_words.specs.Shapes.{input_limit}

-- how many bytes an input of this form may have
abbrev pub limit_of : Form → ℕ
limit_of form = input_limit form

-- the text that answers an input, and the status that it ends with
abbrev pub AnswersTo : Form → List (List ℕ) → List ℕ → List ℕ → Status → Type 0
AnswersTo form words input text ending = (command_of form words).Answers input text ending

-- the status that refuses an input
abbrev pub Refuses : Form → List (List ℕ) → List ℕ → Status → Type 0
Refuses form words input status = (command_of form words).Refuses input status

-- an input has no fault
abbrev pub IsFaultless : Form → List (List ℕ) → List ℕ → Type 0
IsFaultless form words input = (command_of form words).IsFaultless input

-- an input within its limit, without fault
abbrev pub IsServed : Form → List (List ℕ) → List ℕ → Type 0
IsServed form words input = (length input ≤ limit_of form) × IsFaultless form words input

-- what `lspci` wrote, within the limit of `import`, without fault
pub record IsServedMachine (input : List ℕ) : Type 0 where
  pub within : length input ≤ limit_of forms.Import
  pub faultless : machine_refusal input ≡ None

-- a text answers the input, and ends with this status
pub record IsAnswered (form : Form) (words : List (List ℕ)) (input : List ℕ) (ending : Status) : Type 0 where
  pub within : length input ≤ limit_of form
  pub text : List ℕ
  pub answers : AnswersTo form words input text ending

-- the cause that an input gives for an answer that speaks of this: memory and ports have their own
abbrev pub CausesBy : Subject → Form → List (List ℕ) → List ℕ → Status → Type 0
CausesBy Success form words input status = IsAnswered form words input status
CausesBy Memory form words input status = Unit {0}
CausesBy Words form words input status = ⊥
CausesBy Reading form words input status = Unit {0}
CausesBy Writing form words input status = (ending : Status) × IsAnswered form words input ending
CausesBy Length form words input status = limit_of form < length input
CausesBy Input form words input status = (length input ≤ limit_of form) × Refuses form words input status

-- the cause that an input gives for this answer
abbrev pub Causes : Form → List (List ℕ) → List ℕ → Status → Type 0
Causes form words input status = CausesBy (subject_of status) form words input status
