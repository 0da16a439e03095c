-- The words of a line, read from left to right. A reader takes words from the front of those that are left. It gives
-- a value and the words behind what it took, or the first fault.
use Rattle.std.specs.Prelude.{◌≡◌, ℕ, Bool, false, ◌+◌, ◌*◌, ◌^◌, List, [], ◌∷◌, length, Result, Ok, Err, ◌==◌, ◌&&◌, nat_le, if◌then◌else◌}
use Rattle.std.specs.List.{list_any, list_all, before_first, after_first}
use Rattle.std.specs.Str.{bytes_eq}
use Rattle.std.specs.Char.{digit_value, is_digit}
use Rattle.pci_command.specs.declared.phases.Phase.{Phase}
use Rattle.board_model.specs.Names.{is_name}
use Rattle.board_text.specs.declared.numbers.NumberFault.{NumberFault}
use Rattle.board_text.specs.Numbers.{hex_answer, decimal_answer, number_fault}
use Rattle.text_faults.specs.declared.board_line.LineFault.{LineFault}
use Rattle.text_faults.specs.declared.board_line.LineFault.TheVariants.{TooWide, WrongWord, Missing, TooMany, IllFormed}

infixl 10 ◌>>=◌
infixl 10 ◌>>◌
-- Readers.

-- takes words, and gives a value of this kind
abbrev pub Reader : Type 0 → Type 0
Reader A = List (List ℕ) → Result (A × List (List ℕ)) LineFault

-- a reader reads on behind what was read
abbrev pub read_on : {A B : Type 0} → Result (A × List (List ℕ)) LineFault → (A → Reader B) → Result (B × List (List ℕ)) LineFault
read_on (Ok read) next = next read.0 read.1
read_on (Err fault) next = Err fault

-- one reader, and behind it another that may go by the value
abbrev pub ◌>>=◌ : {A B : Type 0} → Reader A → (A → Reader B) → Reader B
(reader >>= next) words = read_on (reader words) next

-- the same of one that does not go by it
abbrev pub ◌>>◌ : {A B : Type 0} → Reader A → Reader B → Reader B
(reader >> next) words = read_on (reader words) (λ _. next)

-- takes no word
abbrev pub give : {A : Type 0} → A → Reader A
give value words = Ok (value, words)

-- a value of the word that was taken, and the words behind it
abbrev pub with_rest : {A : Type 0} → Result A LineFault → List (List ℕ) → Result (A × List (List ℕ)) LineFault
with_rest (Ok value) words = Ok (value, words)
with_rest (Err fault) words = Err fault

-- the next word, which has to be there, as a value of its kind
abbrev pub one_word : {A : Type 0} → (List ℕ → Result A LineFault) → Reader A
one_word kind [] = Err Missing
one_word kind (word ∷ words) = with_rest (kind word) words

-- whether the next word is this one
abbrev pub begins_with : List ℕ → List (List ℕ) → Bool
begins_with expected [] = false
begins_with expected (word ∷ words) = bytes_eq word expected

-- the words behind the first
abbrev pub behind_first : List (List ℕ) → List (List ℕ)
behind_first [] = []
behind_first (word ∷ words) = words

-- what stands behind this word, if it is the next one, and else what stands here
abbrev pub choice : {A : Type 0} → List ℕ → Reader A → Reader A → Reader A
choice expected behind here words = if begins_with expected words then behind (behind_first words) else here words

-- what stands behind this word, which may be left out: then it is as if this value stood there
abbrev pub optional : {A : Type 0} → List ℕ → A → Reader A → Reader A
optional expected default behind = choice expected behind (give default)

-- a word behind the last one of the line is too many
abbrev pub whole : {A : Type 0} → Result (A × List (List ℕ)) LineFault → Result A LineFault
whole (Ok read) = if length read.1 == 0 then Ok read.0 else Err TooMany
whole (Err fault) = Err fault

-- what a function returned, and the words that it left, are what a reader gives
abbrev pub Gives : {A : Type 0} → Result A LineFault → List (List ℕ) → Result (A × List (List ℕ)) LineFault → Type 0
Gives (Ok value) words read = read ≡ Ok (value, words)
Gives (Err fault) words read = read ≡ Err fault

-- Kinds of words.

-- a number that was read, or that fault
abbrev pub number_of : Result ℕ NumberFault → Result ℕ LineFault
number_of (Ok n) = Ok n
number_of (Err fault) = Err (number_fault fault)

-- at most so many hexadecimal digits
unfoldable pub hex_of : ℕ → List ℕ → Result ℕ LineFault
hex_of digits word = number_of (hex_answer word digits)

-- a number within these bounds
abbrev pub within : ℕ → ℕ → Result ℕ LineFault → Result ℕ LineFault
within low high (Ok n) = if nat_le low n && nat_le n high then Ok n else Err IllFormed
within low high (Err fault) = Err fault

-- at most ten decimal digits, whose number is within these bounds
unfoldable pub decimal_of : ℕ → ℕ → List ℕ → Result ℕ LineFault
decimal_of low high word = within low high (number_of (decimal_answer word))

-- this word and no other
unfoldable pub fixed_of : List ℕ → List ℕ → Result (Unit {0}) LineFault
fixed_of expected word = if bytes_eq word expected then Ok tt else Err WrongWord

-- the name of a target or a master
unfoldable pub name_of : List ℕ → Result (List ℕ) LineFault
name_of word = if is_name word then Ok word else Err IllFormed

-- a word of two parts, with the first such mark between them: `:` (58) or `/` (47)
abbrev pub has_mark : ℕ → List ℕ → Bool
has_mark mark word = list_any (λ byte. byte == mark) word

-- the part before the first mark
abbrev pub before_mark : ℕ → List ℕ → List ℕ
before_mark mark word = before_first (λ byte. byte == mark) word

-- the part behind it
abbrev pub behind_mark : ℕ → List ℕ → List ℕ
behind_mark mark word = after_first (λ byte. byte == mark) word

-- the second part of a word whose first part was read
abbrev pub and_part : {A B : Type 0} → Result A LineFault → (A → Result B LineFault) → Result B LineFault
and_part (Ok first) second = second first
and_part (Err fault) second = Err fault

-- the lower half of a number: exactly eight digits
abbrev pub lower_of : List ℕ → Result ℕ LineFault
lower_of part = and_part (hex_of 8 part) (λ n. if length part == 8 then Ok n else Err IllFormed)

-- HEX, and in a text of 64-bit addresses also UPPER:LOWER
unfoldable pub long_of : Bool → List ℕ → Result ℕ LineFault
long_of wide word =
    if wide && has_mark 58 word
    then and_part (hex_of 8 (before_mark 58 word)) (λ upper. and_part (lower_of (behind_mark 58 word)) (λ lower. Ok (upper * 2 ^ 32 + lower)))
    else hex_of 8 word

-- one hexadecimal digit
abbrev pub digit_of : ℕ → Result ℕ LineFault
digit_of byte = if is_digit byte 16 then Ok (digit_value byte) else Err IllFormed

-- the enables of a data word: exactly one digit
abbrev pub enables_of : List ℕ → Result ℕ LineFault
enables_of [] = Err IllFormed
enables_of (byte ∷ []) = digit_of byte
enables_of (byte ∷ next ∷ part) = Err IllFormed

-- VALUE, with all bytes enabled, or VALUE/E
unfoldable pub data_word_of : List ℕ → Result Phase LineFault
data_word_of word =
    if has_mark 47 word
    then and_part (hex_of 8 (before_mark 47 word)) (λ number. and_part (enables_of (behind_mark 47 word)) (λ bits. Ok (record { value = number; enables = bits })))
    else and_part (hex_of 8 word) (λ number. Ok (record { value = number; enables = 15 }))

-- the 64 bytes of a header, each in two digits
abbrev pub in_pairs : List ℕ → List ℕ
in_pairs [] = []
in_pairs (high ∷ []) = []
in_pairs (high ∷ low ∷ word) = (16 * digit_value high + digit_value low) ∷ in_pairs word

-- the bytes of a header: 128 hexadecimal digits
unfoldable pub header_of : List ℕ → Result (List ℕ) LineFault
header_of word =
    if length word == 128 && list_all (λ byte. is_digit byte 16) word then Ok (in_pairs word) else Err IllFormed

-- The readers of one word of each kind.

-- a number of at most so many hexadecimal digits
abbrev pub hex : ℕ → Reader ℕ
hex digits = one_word (hex_of digits)

-- a decimal number within these bounds
abbrev pub decimal : ℕ → ℕ → Reader ℕ
decimal low high = one_word (decimal_of low high)

-- this word
abbrev pub fixed : List ℕ → Reader (Unit {0})
fixed expected = one_word (fixed_of expected)

-- a name
abbrev pub name : Reader (List ℕ)
name = one_word name_of

-- an address or a size, with 64 bits where the text may have them
abbrev pub long : Bool → Reader ℕ
long wide = one_word (long_of wide)

-- the data phase that a word says
abbrev pub data_word : Reader Phase
data_word = one_word data_word_of

-- the bytes of a header
abbrev pub header_bytes : Reader (List ℕ)
header_bytes = one_word header_of
