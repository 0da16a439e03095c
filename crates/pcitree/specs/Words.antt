-- The words that the program is called with, without its own name.
use Rattle.std.specs.Prelude.{◌≡◌, ℕ, ◌+◌, ◌==◌, ◌&&◌, not, max, Bool, true, false, List, [], ◌∷◌, Option, Some, None, nat_eq, if◌then◌else◌, find, fold, position, is_some}
use Rattle.std.specs.Option.{option_and_then}
use Rattle.std.specs.Cmp.Lexicographic.{pointwise}
use Rattle.program_status.specs.declared.status.Status.{Status}
use Rattle.program_status.specs.declared.status.Status.TheVariants.{Done}
use Rattle.program_input.specs.Boards.{RefusesBoard, IsBoardText}
use Rattle.program_input.specs.Traces.{IsCompleteTrace, IsRunTrace}
use Rattle.command_traces.specs.Runs.{RefusesRun}
use Rattle.command_runs.specs.run.Answers.{AnswersRun}
use Rattle.command_boards.specs.headers.Answers.{AnswersHeaders}
use Rattle.command_traces.specs.check.Answers.{AnswersCheck, RefusesCheck}
use Rattle.command_runs.specs.finish.Answers.{AnswersFinish, RefusesFinish}
use Rattle.command_traces.specs.audit.Answers.{AnswersAudit}
use Rattle.command_traces.specs.report.Answers.{AnswersReport}
use Rattle.command_traces.specs.waves.Answers.{AnswersWaves}
use Rattle.command_traces.specs.declared.draw.rows.Rows.{Rows}
use Rattle.command_traces.specs.draw.Rows.{rows_of, names_event, rows_asked}
use Rattle.command_traces.specs.draw.Operations.{operation_asked}
use Rattle.command_traces.specs.draw.Answers.{AnswersDraw, RefusesDraw, IsDrawable}
use Rattle.command_traces.specs.fill.Answers.{AnswersFill, RefusesFill, HasRun}
use Rattle.command_traces.specs.untagged.Answers.{AnswersUntagged, RefusesUntagged, IsUntaggedTrace}
use Rattle.command_boards.specs.combine.Answers.{AnswersCombine}
use Rattle.command_runs.specs.generate.Answers.{names_rounds, AnswersGenerate, RefusesGenerate, NamesRounds}
use Rattle.command_runs.specs.devices.Answers.{AnswersDevices}
use Rattle.program_input.specs.Devices.{RefusesDevices, IsDeviceText}
use Rattle.command_boards.specs.import.Answers.{AnswersImport, RefusesImport, IsImportedSurely}
use Rattle.command_boards.specs.tree.Answers.{AnswersTree}
use Rattle.program_input.specs.Protocols.{RefusesProtocol, IsProtocolText}
use Rattle.command_safe.specs.safe.Answers.{AnswersSafe}
use Rattle.judge_adverse.specs.Operation.{names_operation}
use Rattle.command_safe.specs.adverse.Answers.{AnswersAdverse, RefusesAdverse, IsShowable}
use Rattle.command_observe.specs.Answers.{AnswersObserve, AnswersActs, RefusesObserve, IsToldSurely}
use Rattle.program_words.specs.declared.Form.{Form}
use Rattle.program_words.specs.declared.Form.TheVariants as forms
use Rattle.program_words.specs.declared.TheConstants.{FORMS}
use Rattle.program_words.specs.Shapes.{Shape, parts_of, input_limit}
use Rattle.program_words.specs.Shapes.Shape.{Word, File, Log, Rounds, First, Last, Operation}

-- the events that the words ask for, by the number of the first and of the last: in words of the form `draw FILE FIRST LAST`
abbrev pub rows_in : List (List ℕ) → Option Rows
rows_in (draw ∷ file ∷ first ∷ last ∷ []) = rows_of first last
rows_in _ = None

-- the operation that the words name: in words of the form `draw FILE OPERATION`
abbrev pub operation_in : List (List ℕ) → List ℕ
operation_in (draw ∷ file ∷ operation ∷ []) = operation
operation_in _ = []

-- the operations that the words name: in words of the form `adverse FILE READ WRITE`
abbrev pub read_in : List (List ℕ) → List ℕ
read_in (adverse ∷ file ∷ read ∷ write ∷ []) = read
read_in _ = []

-- the second of them
abbrev pub write_in : List (List ℕ) → List ℕ
write_in (adverse ∷ file ∷ read ∷ write ∷ []) = write
write_in _ = []

-- a text that answers an input so answers it with the status that all is done
abbrev pub WithDone : (List ℕ → List ℕ → Type 0) → List ℕ → List ℕ → Status → Type 0
WithDone Answers input text ending = Answers input text × (ending ≡ Done)

-- what a form of words owes: the text that answers an input, with the status that it ends with; the status that refuses
-- one; the inputs that have no fault; and whether it writes the trace of a complete run
pub record Command : Type 1 where
  pub Answers : List ℕ → List ℕ → Status → Type 0
  pub Refuses : List ℕ → Status → Type 0
  pub IsFaultless : List ℕ → Type 0
  pub writes_run : Bool

-- of words of each form
abbrev pub command_of : Form → List (List ℕ) → Command
command_of forms.Safe words = record {
  Answers = AnswersSafe;
  Refuses = RefusesProtocol;
  IsFaultless = IsProtocolText;
  writes_run = false;
}
command_of forms.Adverse words = record {
  Answers = WithDone (AnswersAdverse (read_in words) (write_in words));
  Refuses = RefusesAdverse (read_in words) (write_in words);
  IsFaultless = IsShowable (read_in words) (write_in words);
  writes_run = true;
}
command_of forms.Run words = record {
  Answers = WithDone AnswersRun;
  Refuses = RefusesBoard;
  IsFaultless = IsBoardText;
  writes_run = true;
}
command_of forms.RunSteady words = record {
  Answers = WithDone AnswersRun;
  Refuses = RefusesBoard;
  IsFaultless = IsBoardText;
  writes_run = true;
}
command_of forms.Headers words = record {
  Answers = WithDone AnswersHeaders;
  Refuses = RefusesBoard;
  IsFaultless = IsBoardText;
  writes_run = false;
}
command_of forms.Check words = record {
  Answers = WithDone AnswersCheck;
  Refuses = RefusesCheck;
  IsFaultless = IsCompleteTrace;
  writes_run = false;
}
command_of forms.Finish words = record {
  Answers = WithDone AnswersFinish;
  Refuses = RefusesFinish;
  IsFaultless = IsRunTrace;
  writes_run = true;
}
command_of forms.Fill words = record {
  Answers = WithDone AnswersFill;
  Refuses = RefusesFill;
  IsFaultless = HasRun;
  writes_run = false;
}
command_of forms.Observe words = record {
  Answers = WithDone AnswersObserve;
  Refuses = RefusesObserve;
  IsFaultless = IsToldSurely;
  writes_run = false;
}
command_of forms.ObserveActs words = record {
  Answers = AnswersActs;
  Refuses = RefusesObserve;
  IsFaultless = IsToldSurely;
  writes_run = false;
}
command_of forms.Audit words = record {
  Answers = WithDone AnswersAudit;
  Refuses = RefusesRun;
  IsFaultless = IsRunTrace;
  writes_run = false;
}
command_of forms.Report words = record {
  Answers = WithDone AnswersReport;
  Refuses = RefusesRun;
  IsFaultless = IsRunTrace;
  writes_run = false;
}
command_of forms.Waves words = record {
  Answers = WithDone AnswersWaves;
  Refuses = RefusesRun;
  IsFaultless = IsRunTrace;
  writes_run = false;
}
command_of forms.Untagged words = record {
  Answers = WithDone AnswersUntagged;
  Refuses = RefusesUntagged;
  IsFaultless = IsUntaggedTrace;
  writes_run = false;
}
command_of forms.Combine words = record {
  Answers = WithDone AnswersCombine;
  Refuses = RefusesBoard;
  IsFaultless = IsBoardText;
  writes_run = false;
}
command_of forms.Generate words = record {
  Answers = WithDone AnswersGenerate;
  Refuses = RefusesGenerate;
  IsFaultless = NamesRounds;
  writes_run = false;
}
command_of forms.Devices words = record {
  Answers = WithDone AnswersDevices;
  Refuses = RefusesDevices;
  IsFaultless = IsDeviceText;
  writes_run = true;
}
command_of forms.Draw words = record {
  Answers = λ input text ending. AnswersDraw input (rows_asked (rows_in words)) text ending;
  Refuses = λ input status. RefusesDraw input (rows_asked (rows_in words)) status;
  IsFaultless = IsDrawable (rows_asked (rows_in words));
  writes_run = false;
}
command_of forms.DrawRows words = record {
  Answers = λ input text ending. AnswersDraw input (rows_asked (rows_in words)) text ending;
  Refuses = λ input status. RefusesDraw input (rows_asked (rows_in words)) status;
  IsFaultless = IsDrawable (rows_asked (rows_in words));
  writes_run = false;
}
command_of forms.DrawOperation words = record {
  Answers = λ input text ending. AnswersDraw input (operation_asked (operation_in words)) text ending;
  Refuses = λ input status. RefusesDraw input (operation_asked (operation_in words)) status;
  IsFaultless = IsDrawable (operation_asked (operation_in words));
  writes_run = false;
}
command_of forms.Import words = record {
  Answers = WithDone AnswersImport;
  Refuses = RefusesImport;
  IsFaultless = IsImportedSurely;
  writes_run = false;
}
command_of forms.Tree words = record {
  Answers = WithDone AnswersTree;
  Refuses = RefusesProtocol;
  IsFaultless = IsProtocolText;
  writes_run = false;
}

-- a word names a file: it is not empty, and does not begin with `-`
abbrev pub names_file : List ℕ → Bool
names_file [] = false
names_file (first ∷ _) = not (first == 45)

-- a word, behind another, is as the form has it
abbrev pub fits : Shape → List ℕ → List ℕ → Bool
fits (Word text) before word = pointwise nat_eq word text
fits File before word = names_file word
fits Log before word = names_file word
fits Rounds before word = names_rounds word
fits First before word = names_event word
fits Last before word = is_some (rows_of before word)
fits (Operation name) before word = names_operation word

-- how many words behind another, from the first on, are as the form has them
abbrev pub fitting : List Shape → List ℕ → List (List ℕ) → ℕ
fitting [] before words = 0
fitting (part ∷ parts) before [] = 0
fitting (part ∷ parts) before (word ∷ words) = if fits part before word then 1 + fitting parts word words else 0

-- the words behind another are of the form: as many as it has, and each as it has it
abbrev pub is_of : List Shape → List ℕ → List (List ℕ) → Bool
is_of [] before [] = true
is_of [] before (word ∷ words) = false
is_of (part ∷ parts) before [] = false
is_of (part ∷ parts) before (word ∷ words) = fits part before word && is_of parts word words

-- the form that the words are of
abbrev pub form_of : List (List ℕ) → Option Form
form_of words = find (λ form. is_of (parts_of form) [] words) FORMS

-- the place, from 0, of the first word that fits no form, or the number of words where one is
-- missing: the longest front of the words that some form begins with
abbrev pub misfit : List (List ℕ) → ℕ
misfit words = fold (λ longest form. max longest (fitting (parts_of form) [] words)) 0 FORMS

-- the word that names the file
abbrev pub is_file : Shape → Bool
is_file File = true
is_file Log = true
is_file _ = false

-- the word that is a number to be read
abbrev pub is_number : Shape → Bool
is_number Rounds = true
is_number _ = false

-- the place of the file, from 0, among the parts of a form
abbrev pub file_in : List Shape → Option ℕ
file_in parts = position is_file parts

-- the place, from 0, of the word that names the file
abbrev pub file_place : List (List ℕ) → Option ℕ
file_place words = option_and_then (λ form. file_in (parts_of form)) (form_of words)

-- how many bytes the input may have; of no form the words ask for none
abbrev pub limit_by : Option Form → ℕ
limit_by None = 0
limit_by (Some form) = input_limit form
