-- The table of words: what each word of a form has to be, and how many bytes its input may have.
use Rattle.std.specs.Prelude.{ℕ, ◌^◌, Bool, true, false, List, [], ◌∷◌, codes}
use Rattle.program_words.specs.declared.Part.{Part}
use Rattle.program_words.specs.declared.Part.TheVariants as parts
use Rattle.program_words.specs.declared.Form.{Form}
use Rattle.program_words.specs.declared.Form.TheVariants as forms

-- what a word has to be: just this word; the name of a file, which is not empty and does not begin with `-`, or of a log; or
-- a number of rounds; the number of an event; one that is not below the word before it; or an operation, which is called so
pub data Shape : Type 0 where
  Word : List ℕ → Shape
  File : Shape
  Log : Shape
  Rounds : Shape
  First : Shape
  Last : Shape
  Operation : List ℕ → Shape

-- what a part of a form has to be
abbrev pub shape_of : Part → Shape
shape_of (parts.Word text) = Word text.now
shape_of parts.File = File
shape_of parts.Log = Log
shape_of parts.Rounds = Rounds
shape_of parts.First = First
shape_of parts.Last = Last
shape_of (parts.Operation name) = Operation name.now

-- how such a word is shown in the help
abbrev pub shown_as : Shape → List ℕ
shown_as (Word text) = text
shown_as File = codes "FILE"
shown_as Log = codes "LOG"
shown_as Rounds = codes "N"
shown_as First = codes "FIRST"
shown_as Last = codes "LAST"
shown_as (Operation name) = name

-- the words of each form
abbrev pub parts_of : Form → List Shape
parts_of forms.Safe = Word (codes "safe") ∷ File ∷ []
parts_of forms.Adverse = Word (codes "adverse") ∷ File ∷ Operation (codes "READ") ∷ Operation (codes "WRITE") ∷ []
parts_of forms.Run = Word (codes "run") ∷ File ∷ []
parts_of forms.RunSteady = Word (codes "run") ∷ Word (codes "--steady") ∷ File ∷ []
parts_of forms.Headers = Word (codes "headers") ∷ File ∷ []
parts_of forms.Check = Word (codes "check") ∷ File ∷ []
parts_of forms.Finish = Word (codes "finish") ∷ File ∷ []
parts_of forms.Fill = Word (codes "fill") ∷ File ∷ []
parts_of forms.Observe = Word (codes "observe") ∷ Log ∷ []
parts_of forms.ObserveActs = Word (codes "observe") ∷ Word (codes "--acts") ∷ Log ∷ []
parts_of forms.Audit = Word (codes "audit") ∷ File ∷ []
parts_of forms.Report = Word (codes "report") ∷ File ∷ []
parts_of forms.Waves = Word (codes "waves") ∷ File ∷ []
parts_of forms.Draw = Word (codes "draw") ∷ File ∷ []
parts_of forms.DrawRows = Word (codes "draw") ∷ File ∷ First ∷ Last ∷ []
parts_of forms.DrawOperation = Word (codes "draw") ∷ File ∷ Operation (codes "OPERATION") ∷ []
parts_of forms.Untagged = Word (codes "untagged") ∷ File ∷ []
parts_of forms.Combine = Word (codes "combine") ∷ File ∷ []
parts_of forms.Generate = Word (codes "generate") ∷ Rounds ∷ []
parts_of forms.Devices = Word (codes "devices") ∷ File ∷ []
parts_of forms.Import = Word (codes "import") ∷ File ∷ []
parts_of forms.Tree = Word (codes "tree") ∷ File ∷ []

-- how many bytes the input may have: 1 MiB for a board text and for what lspci wrote, 64 MiB for a trace text or a log, and 10 for a number
abbrev pub input_limit : Form → ℕ
input_limit forms.Safe = 2 ^ 20
input_limit forms.Adverse = 2 ^ 20
input_limit forms.Run = 2 ^ 20
input_limit forms.RunSteady = 2 ^ 20
input_limit forms.Headers = 2 ^ 20
input_limit forms.Check = 2 ^ 26
input_limit forms.Finish = 2 ^ 26
input_limit forms.Fill = 2 ^ 26
input_limit forms.Observe = 2 ^ 26
input_limit forms.ObserveActs = 2 ^ 26
input_limit forms.Audit = 2 ^ 26
input_limit forms.Report = 2 ^ 26
input_limit forms.Waves = 2 ^ 26
input_limit forms.Draw = 2 ^ 26
input_limit forms.DrawRows = 2 ^ 26
input_limit forms.DrawOperation = 2 ^ 26
input_limit forms.Untagged = 2 ^ 26
input_limit forms.Combine = 2 ^ 20
input_limit forms.Generate = 10
input_limit forms.Devices = 2 ^ 20
input_limit forms.Import = 2 ^ 20
input_limit forms.Tree = 2 ^ 20

-- the bytes of the input are let go as soon as it is read: of `observe LOG` alone, whose log may be long and can be read again
abbrev pub lets_go : Form → Bool
lets_go forms.Observe = true
lets_go _ = false
