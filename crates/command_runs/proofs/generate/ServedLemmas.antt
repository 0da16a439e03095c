-- A word that names rounds is short, and is refused only for want of memory.
use Rattle.std.proofs.Common.{◌≡◌, ℕ, ◌^◌, ◌≤◌, Bool, true, false, cond, nat_lt, List, length, Result, Ok, Err, inl, refl, ap, ltb-false}
use Rattle.std.specs.Str.Parse.{digits_value}
use Rattle.std.specs.Option.{is_some}
use Rattle.board_text.specs.declared.numbers.NumberFault.{NumberFault}
use Rattle.board_text.specs.declared.numbers.NumberFault.TheVariants.{TooWide, NotDigits, OutOfRange}
use Rattle.board_text.specs.Numbers.{is_numeral}
use Rattle.program_status.specs.Subjects.{subject_of}
use Rattle.program_input.specs.Refusals.{IsRefusing}
use Rattle.command_runs.specs.generate.Answers.{rounds_by, rounds_of, names_rounds, NamesRounds, RefusesGenerate}

-- it has at most ten digits
pub names_short : (word : List ℕ) → names_rounds word ≡ true → length word ≤ 10
unfolding rounds_of
names_short word names =
    let inside : Result ℕ NumberFault = cond (nat_lt (digits_value 10 word) (2 ^ 32)) (Ok (digits_value 10 word)) (Err OutOfRange) in
    let Q : Bool → Type 0 = λ b. nat_lt 10 (length word) ≡ b → is_some (rounds_by (cond b (Err TooWide) inside)) ≡ true → length word ≤ 10 in
    let P : Bool → Type 0 = λ a. is_some (rounds_by (cond a (cond (nat_lt 10 (length word)) (Err TooWide) inside) (Err NotDigits))) ≡ true → length word ≤ 10 in
    (elim (is_numeral 10 word) as P [
      | true ↦ λ e. (elim (nat_lt 10 (length word)) as Q [ true ↦ λ _ f. absurd cc | false ↦ λ few _. ltb-false 10 (length word) few ]) refl e
      | false ↦ λ e. absurd cc
    ]) names

pub generate_refusing : IsRefusing RefusesGenerate NamesRounds
generate_refusing = record { served = λ word status names refuses. refuses; subject = λ word status refuses. inl (ap subject_of refuses) }
