-- What a call reads: the source, or in its place the number among the words.
use Rattle.std.specs.Prelude.{◌≡◌, ℕ, Bool, true, false, List, [], ◌∷◌, Option, Some, None, if◌then◌else◌}
use Rattle.program_words.specs.declared.Form.{Form}
use Rattle.program_words.specs.declared.Form.TheVariants as forms
use Rattle.pcitree.specs.Words.{is_number}
use Rattle.command_runs.specs.generate.Answers.{names_rounds}
use Rattle.program_words.specs.Shapes.{Shape, parts_of}

-- the number among words of this form, if the form has one
abbrev pub number_in : List Shape → List (List ℕ) → Option (List ℕ)
number_in [] words = None
number_in (part ∷ parts) [] = None
number_in (part ∷ parts) (word ∷ words) = if is_number part then Some word else number_in parts words

-- the number among the words, if words of this form have one
abbrev pub number_of : Form → List (List ℕ) → Option (List ℕ)
number_of form words = number_in (parts_of form) words

-- what is read: a number, where there is one, or what the source holds
abbrev pub given_by : Option (List ℕ) → Option (List ℕ) → Option (List ℕ)
given_by None held = held
given_by (Some number) held = Some number

-- what is left of it then: nothing of a number
abbrev pub left_by : Option (List ℕ) → Option (List ℕ) → Option (List ℕ)
left_by None left = left
left_by (Some number) left = Some []

-- what words of this form give to be read, where the source holds this: the number, or what the source holds
abbrev pub given : Form → List (List ℕ) → Option (List ℕ) → Option (List ℕ)
given form words held = given_by (number_of form words) held

-- what is left of it behind the call: nothing of the number, or what is left in the source
abbrev pub left : Form → List (List ℕ) → Option (List ℕ) → Option (List ℕ)
left form words held = left_by (number_of form words) held

-- what is answered is as the form has it: where it has a number, one that names rounds
abbrev pub IsGiven : Form → List ℕ → Type 0
IsGiven forms.Generate input = names_rounds input ≡ true
IsGiven form input = Unit {0}

-- the form reads a file, and not a number among the words
abbrev pub reads_file : Form → Bool
reads_file forms.Generate = false
reads_file form = true
