-- What is read at the front of what is left of a line, without cutting a word first.
use Rattle.std.specs.Prelude.{◌≡◌, ℕ, true, false, List, [], ◌∷◌, ◌++◌, Option, Some, None, Ok, Err}
use Rattle.std.specs.Char.{is_digit}
use Rattle.std.specs.Str.Parse.{digits_value}
use Rattle.text_faults.specs.declared.board_line.LineFault.{LineFault}
use Rattle.board_statements.specs.Words.{data_word_of}
use Rattle.observe_log.specs.declared.line.data.DataWord.{DataWord}
use Rattle.observe_log.specs.declared.line.data.DataWord.TheVariants.{Data, Ends, Other}
use Rattle.observe_log.specs.Words.{is_short_numeral, times_of}
use Rattle.observe_log.specs.Lines.{ending_of}

-- a text begins with digits that write this number, of which there are no more than that; this stands behind them
pub record BeginsNumber (radix most : ℕ) (text : List ℕ) (value : ℕ) (behind : List ℕ) : Type 0 where
  pub digits : List ℕ
  pub whole : text ≡ digits ++ behind
  pub short : is_short_numeral radix most digits ≡ true
  pub written : value ≡ digits_value radix digits
  pub ended : (byte : ℕ) (rest : List ℕ) → behind ≡ byte ∷ rest → is_digit byte radix ≡ false

-- a word ends here: with the line, or before a space; this stands behind that
abbrev pub EndsWord : List ℕ → List ℕ → Type 0
EndsWord [] behind = behind ≡ []
EndsWord (byte ∷ rest) behind = (byte ≡ 32) × (behind ≡ rest)

-- the next word was taken, and is this number; or none was
abbrev pub TakesNumber : ℕ → ℕ → Option ℕ → List (List ℕ) → List (List ℕ) → Type 0
TakesNumber radix most (Some value) old new =
    (word : List ℕ) × (old ≡ word ∷ new) × (is_short_numeral radix most word ≡ true) × (value ≡ digits_value radix word)
TakesNumber radix most None old new = new ≡ old

-- the next word was taken, and is START-END or START; or none was
abbrev pub TakesTimes : Option (ℕ × ℕ) → List (List ℕ) → List (List ℕ) → Type 0
TakesTimes (Some times) old new = (word : List ℕ) × (old ≡ word ∷ new) × (times_of word ≡ Some times)
TakesTimes None old new = new ≡ old

-- what a word behind the address is
abbrev pub IsDataWord : DataWord → List ℕ → Type 0
IsDataWord (Data phase) word = (ending_of word ≡ None) × (data_word_of word ≡ Ok phase)
IsDataWord (Ends ending) word = ending_of word ≡ Some ending
IsDataWord Other word = (ending_of word ≡ None) × (fault : LineFault) × (data_word_of word ≡ Err fault)

-- the next word was taken, and is that; or there was none
abbrev pub TakesData : Option DataWord → List (List ℕ) → List (List ℕ) → Type 0
TakesData (Some item) old new = (word : List ℕ) × (old ≡ word ∷ new) × IsDataWord item word
TakesData None old new = old ≡ []
