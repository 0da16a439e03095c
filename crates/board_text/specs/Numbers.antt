-- A number that stands as a token: hexadecimal with digits of either case, or decimal.
use Rattle.std.specs.Prelude.{ℕ, Bool, ◌^◌, List, length, Result, Ok, Err, nat_lt, ◌&&◌, if◌then◌else◌}
use Rattle.std.specs.List.{list_all}
use Rattle.std.specs.Char.{is_digit}
use Rattle.std.specs.Str.Parse.{digits_value}
use Rattle.board_text.specs.declared.numbers.NumberFault.{NumberFault}
use Rattle.board_text.specs.declared.numbers.NumberFault.TheVariants.{TooWide, NotDigits, OutOfRange}
use Rattle.text_faults.specs.declared.board_line.LineFault.{LineFault}
use Rattle.text_faults.specs.declared.board_line.LineFault.TheVariants.{TooWide as TooManyDigits, IllFormed}

-- one digit of the base or more, and nothing else
abbrev pub is_numeral : ℕ → List ℕ → Bool
is_numeral radix token = nat_lt 0 (length token) && list_all (λ byte. is_digit byte radix) token

-- the number that at most `digits` hexadecimal digits write; where each byte is such a digit, more of
-- them are too wide
abbrev pub hex_answer : List ℕ → ℕ → Result ℕ NumberFault
hex_answer token digits =
    if is_numeral 16 token
    then (if nat_lt digits (length token) then Err TooWide else Ok (digits_value 16 token))
    else Err NotDigits

-- the same of at most ten decimal digits, of which those of 2^32 and above are out of range
abbrev pub decimal_answer : List ℕ → Result ℕ NumberFault
decimal_answer token =
    if is_numeral 10 token
    then (if nat_lt 10 (length token) then Err TooWide
    else if nat_lt (digits_value 10 token) (2 ^ 32) then Ok (digits_value 10 token) else Err OutOfRange)
    else Err NotDigits

-- the fault of a number: too many digits, and else it is none of its kind
abbrev pub number_fault : NumberFault → LineFault
number_fault TooWide = TooManyDigits
number_fault NotDigits = IllFormed
number_fault OutOfRange = IllFormed
