-- Values, outcomes and numbers of data phases, as they are printed, are read as the same.
use Rattle.std.proofs.Common.{◌≡◌, ℕ, zero, suc, ◌/◌, ◌%◌, ◌^◌, ◌<◌, ◌≤◌, Bool, true, false, eqb, ◌&&◌, [], ◌∷◌, length, Some, refl, ap, ◌∙◌, arith}
use Rattle.std.specs.Prelude.{codes}
use Rattle.std.specs.List.{list_all}
use Rattle.std.specs.Option.{option_map}
use Rattle.std.specs.Fmt.{decimal, digit_glyph}
use Rattle.std.proofs.lemmas.Bool.{le-leb}
use Rattle.std.proofs.lemmas.Bool.Decides.{nat_tests}
use Rattle.std.proofs.lemmas.List.Folds.{list_all-append}
use Rattle.pci_command.specs.declared.op_id.Outcome.{Outcome}
use Rattle.pci_command.specs.declared.op_id.Outcome.TheVariants.{Value, Written, Aborted, Nobody as NobodyClaimed}
use Rattle.board_text.specs.Numbers.{hex_answer}
use Rattle.board_printer.specs.Numbers.{hex, word_text}
use Rattle.board_roundtrip.specs.words.Printed.{is_word}
use Rattle.board_roundtrip.proofs.lines.PartTexts.{word_length}
use Rattle.trace_text.specs.Words.{outcome_word}
use Rattle.trace_text.specs.Events.{is_completion}
use Rattle.trace_reader.specs.lines.Words.{only_where, answered, is_lower_case, value_of, outcome_in, phases_in}
use Rattle.trace_roundtrip.specs.events.Fits.{OutcomeFits}
use Rattle.trace_roundtrip.proofs.names.NumberLemmas.{number_is_read}
use Rattle.trace_roundtrip.proofs.events.LaneLemmas.{lengths_differ}
use Rattle.board_roundtrip.proofs.words.Laws.{eight_again, eight_word}

-- no digit is a letter in upper case
glyph_lower : (d : ℕ) → d < 16 → is_lower_case (digit_glyph false d) ≡ true
glyph_lower d small = grind (arith, nat_tests)

-- no digit of a printed number is in upper case
hex_lower : (k n : ℕ) → list_all is_lower_case (hex k n) ≡ true
hex_lower zero n = refl
hex_lower (suc k) n =
    let last = glyph_lower (n % 16) (omega arith) in
    let front = hex_lower k (n / 16) in
    let both = list_all-append is_lower_case (hex k (n / 16)) (digit_glyph false (n % 16) ∷ []) in
    cc

-- no digit of a printed value is in upper case
word_lower : (n : ℕ) → list_all is_lower_case (word_text n) ≡ true
unfolding word_text
word_lower n = hex_lower 8 n

-- a value is read as the value
pub value_read : (n : ℕ) → n < 2 ^ 32 → value_of (word_text n) ≡ Some n
value_read n below =
    let shape : (eqb (length (word_text n)) 8 && list_all is_lower_case (word_text n)) ≡ true = rw (word_length n, word_lower n) refl in
    ap (λ (b : Bool). only_where b (answered (hex_answer (word_text n) 8))) shape ∙ ap answered (eight_again n below)

-- an outcome of a completion is read as the outcome
pub outcome_read : (outcome : Outcome) → OutcomeFits outcome → is_completion outcome ≡ true → outcome_in (outcome_word outcome) ≡ Some outcome
outcome_read (Value value) fits done =
    let size = word_length value in
    let no_write = lengths_differ (word_text value) (codes "ok") (λ same. omega (arith, size, same)) in
    let no_abort = lengths_differ (word_text value) (codes "abort") (λ same. omega (arith, size, same)) in
    rw (no_write, no_abort) (ap (option_map Value) (value_read value fits))
outcome_read Written fits done = refl
outcome_read Aborted fits done = refl
outcome_read NobodyClaimed fits done = absurd (let apart : false ≡ true = done in cc)

-- it is a word
pub outcome_plain : (outcome : Outcome) → is_word (outcome_word outcome) ≡ true
outcome_plain (Value value) = eight_word value
outcome_plain Written = refl
outcome_plain Aborted = refl
outcome_plain NobodyClaimed = refl

-- of so few bytes
pub outcome_short : (outcome : Outcome) → length (outcome_word outcome) ≤ 10
outcome_short (Value value) = let size = word_length value in omega (arith, size)
outcome_short Written = omega arith
outcome_short Aborted = omega arith
outcome_short NobodyClaimed = omega arith

-- a number of data phases is read as the number
pub phases_read : (n : ℕ) → 1 ≤ n → n ≤ 8 → phases_in (decimal n) ≡ Some n
phases_read n some few = rw (number_is_read n (omega arith), le-leb 1 n some, le-leb n 8 few) refl
