-- The words of a line of a log, read from left to right. A reader takes words from the front of those that are left. It
-- gives a value and the words behind what it took, or the first fault with the place of its word, from 0.
use Rattle.std.specs.Prelude.{◌≡◌, ℕ, List, [], ◌∷◌, Result, Ok, Err, Option, Some, None}
use Rattle.text_faults.specs.declared.board_line.LineFault.{LineFault}
use Rattle.text_faults.specs.declared.log_line.LogLineFault.{LogLineFault}
use Rattle.text_faults.specs.declared.log_line.LogLineFault.TheVariants.{Misread, NotThere}
use Rattle.text_faults.specs.declared.or_no_memory.OrNoMemory.{OrNoMemory}
use Rattle.text_faults.specs.declared.or_no_memory.OrNoMemory.TheVariants.{Fault, NoMemory}
use Rattle.observe_log.specs.declared.fault.AtWord.{AtWord}

infixl 10 ◌>>=◌
-- takes words, and gives a value of this kind
abbrev pub Reader : Type 0 → Type 0
Reader A = List (List ℕ) → Result (A × List (List ℕ)) AtWord

-- a reader reads on behind what was read
abbrev pub read_on : {A B : Type 0} → Result (A × List (List ℕ)) AtWord → (A → Reader B) → Result (B × List (List ℕ)) AtWord
read_on (Ok read) next = next read.0 read.1
read_on (Err fault) next = Err fault

-- one reader, and behind it another that may go by the value
abbrev pub ◌>>=◌ : {A B : Type 0} → Reader A → (A → Reader B) → Reader B
(reader >>= next) words = read_on (reader words) next

-- takes no word
abbrev pub give : {A : Type 0} → A → Reader A
give value words = Ok (value, words)

-- a word that is missing or none of its kind
abbrev pub misread : ℕ → AtWord
misread place = record { word = place; fault = Misread }

-- a value of the word at a place, and the words behind it
abbrev pub with_rest : {A : Type 0} → ℕ → List (List ℕ) → Result A LogLineFault → Result (A × List (List ℕ)) AtWord
with_rest place words (Ok value) = Ok (value, words)
with_rest place words (Err fault) = Err (record { word = place; fault = fault })

-- the next word, at this place, which has to be there, as a value of its kind
abbrev pub one_word : {A : Type 0} → ℕ → (List ℕ → Result A LogLineFault) → Reader A
one_word place kind [] = Err (misread place)
one_word place kind (word ∷ words) = with_rest place words (kind word)

-- a word of a kind that a board text has too
abbrev pub as_in_boards : {A : Type 0} → ℕ → Result (A × List (List ℕ)) LineFault → Result (A × List (List ℕ)) AtWord
as_in_boards place (Ok read) = Ok read
as_in_boards place (Err fault) = Err (misread place)

-- what a function returned, and the words that it left, are what a reader gives
abbrev pub Gives : {A : Type 0} → Result A AtWord → List (List ℕ) → Result (A × List (List ℕ)) AtWord → Type 0
Gives (Ok value) words read = read ≡ Ok (value, words)
Gives (Err fault) words read = read ≡ Err fault

-- an answer is what is read, unless there was no memory
abbrev pub Answers : {A B : Type 0} → (A → B) → Result A (OrNoMemory AtWord) → Result B AtWord → Type 0
Answers seen (Ok value) read = read ≡ Ok (seen value)
Answers seen (Err (Fault fault)) read = read ≡ Err fault
Answers seen (Err NoMemory) read = Unit {0}

-- a value was found exactly where the word names one
abbrev pub Found : {A : Type 0} → Option A → Result A LogLineFault → Type 0
Found (Some value) read = read ≡ Ok value
Found None read = read ≡ Err NotThere
