-- The ranges of what single words stand for.
use Rattle.std.proofs.Common.{subst, ap, ◌≡◌, ℕ, ◌+◌, ◌*◌, ◌^◌, ◌<◌, Bool, true, false, cond, ◌&&◌, List, [], ◌∷◌, length, refl, arith}
use Rattle.std.specs.Prelude.{Result, Ok, Err, ◌==◌, nat_le, nat_lt}
use Rattle.std.specs.List.{list_all}
use Rattle.std.specs.Char.{is_digit, digit_value}
use Rattle.std.specs.Str.Parse.{digits_value}
use Rattle.std.proofs.lemmas.Bool.{and_parts, and_from, ltb-true, ltb-false, lt-ltb, le-leb}
use Rattle.pci_command.specs.declared.phases.Phase.{Phase}
use Rattle.pci_command.specs.declared.command.Space.{Space}
use Rattle.pci_command.specs.declared.command.Space.TheVariants.{Mem, Io}
use Rattle.board_model.specs.WellFormed.{is_within, is_well_formed_phase}
use Rattle.board_text.specs.declared.numbers.NumberFault.{NumberFault}
use Rattle.board_text.specs.Numbers.{is_numeral, hex_answer, decimal_answer}
use Rattle.board_text.proofs.DigitLemmas.{hex_fits}
use Rattle.board_parser.specs.draft.Formed.{is_byte, is_target_space}
use Rattle.text_faults.specs.declared.board_line.LineFault.{LineFault}
use Rattle.board_statements.specs.Words.{number_of, hex_of, within, decimal_of, and_part, has_mark, before_mark, behind_mark, lower_of, long_of, digit_of, enables_of, data_word_of, in_pairs, header_of}
use Rattle.board_statements.specs.Targets.{space_of_word}

number-ok : (answer : Result ℕ NumberFault) (n : ℕ) → number_of answer ≡ Ok n → answer ≡ Ok n
number-ok (Ok m) n h = let same : m ≡ n = cc in ap (λ k. Ok k) same
number-ok (Err fault) n h = absurd (cc)

-- Hexadecimal.

answer-below : (numeral long : Bool) (value n : ℕ) (wide digits : NumberFault) → (numeral ≡ true → long ≡ false → value < 2 ^ 32) → cond numeral (cond long (Err wide) (Ok value)) (Err digits) ≡ Ok n → n < 2 ^ 32
answer-below true true value n wide digits below h = absurd (cc)
answer-below true false value n wide digits below h = let same : value ≡ n = cc in let P : ℕ → Type 0 = λ k. k < 2 ^ 32 in subst P same (below refl refl)
answer-below false long value n wide digits below h = absurd (cc)

pub hex-below : (word : List ℕ) (n : ℕ) → hex_of 8 word ≡ Ok n → n < 2 ^ 32
unfolding hex_of
hex-below word n h =
    answer-below (is_numeral 16 word) (nat_lt 8 (length word)) (digits_value 16 word) n _ _
    (λ numeral short. hex_fits word (and_parts _ _ numeral).1 (ltb-false 8 (length word) short))
    (number-ok (hex_answer word 8) n h)

pub part-ok : {A B : Type 0} (first : Result A LineFault) (second : A → Result B LineFault) (value : B) → and_part first second ≡ Ok value → (part : A) × ((first ≡ Ok part) × (second part ≡ Ok value))
part-ok (Ok part) second value h = (part, (refl, h))
part-ok (Err fault) second value h = absurd (cc)

kept-ok : {A F : Type 0} (test : Bool) (value given : A) (fault : F) → cond test (Ok value) (Err fault) ≡ Ok given → (test ≡ true) × (value ≡ given)
kept-ok true value given fault h = (refl, cc)
kept-ok false value given fault h = absurd (cc)

lower-below : (part : List ℕ) (n : ℕ) → lower_of part ≡ Ok n → n < 2 ^ 32
lower-below part n h =
    let read = part-ok (hex_of 8 part) _ n h in
    let kept = kept-ok (length part == 8) read.0 n _ read.1.1 in
    let P : ℕ → Type 0 = λ k. k < 2 ^ 32 in
    subst P kept.1 (hex-below part read.0 read.1.0)

halves-below : (word : List ℕ) (n : ℕ) → and_part (hex_of 8 (before_mark 58 word)) (λ upper. and_part (lower_of (behind_mark 58 word)) (λ lower. Ok (upper * 2 ^ 32 + lower))) ≡ Ok n → n < 2 ^ 64
halves-below word n h =
    let upper = part-ok (hex_of 8 (before_mark 58 word)) _ n h in
    let lower = part-ok (lower_of (behind_mark 58 word)) _ n upper.1.1 in
    let high = hex-below (before_mark 58 word) upper.0 upper.1.0 in
    let low = lower-below (behind_mark 58 word) lower.0 lower.1.0 in
    let same : upper.0 * 2 ^ 32 + lower.0 ≡ n = cc in
    omega (arith, high, low, same)

pub narrow-below : (word : List ℕ) (n : ℕ) → long_of false word ≡ Ok n → n < 2 ^ 32
unfolding long_of
narrow-below word n h = hex-below word n h

wide-cases : (test : Bool) (halves one : Result ℕ LineFault) (n : ℕ) → (halves ≡ Ok n → n < 2 ^ 64) → (one ≡ Ok n → n < 2 ^ 32) → cond test halves one ≡ Ok n → n < 2 ^ 64
wide-cases true halves one n all low h = all h
wide-cases false halves one n all low h = let below = low h in omega (arith, below)

pub long-below : (wide : Bool) (word : List ℕ) (n : ℕ) → long_of wide word ≡ Ok n → n < 2 ^ 64
unfolding long_of
long-below wide word n h = wide-cases (wide && has_mark 58 word) _ _ n (halves-below word n) (hex-below word n) h

-- Decimal.

within-ok : (low high : ℕ) (number : Result ℕ LineFault) (n : ℕ) → within low high number ≡ Ok n → (nat_le low n && nat_le n high) ≡ true
within-ok low high (Ok m) n h =
    let kept = kept-ok (nat_le low m && nat_le m high) m n _ h in
    let P : ℕ → Type 0 = λ k. (nat_le low k && nat_le k high) ≡ true in
    subst P kept.1 kept.0
within-ok low high (Err fault) n h = absurd (cc)

pub decimal-within : (low high : ℕ) (word : List ℕ) (n : ℕ) → decimal_of low high word ≡ Ok n → is_within low high n ≡ true
unfolding decimal_of
decimal-within low high word n h = within-ok low high (number_of (decimal_answer word)) n h

pub decimal-most : (low high : ℕ) (word : List ℕ) (n : ℕ) → decimal_of low high word ≡ Ok n → nat_le n high ≡ true
decimal-most low high word n h = (and_parts (nat_le low n) (nat_le n high) (decimal-within low high word n h)).1

-- Data words.

digit-few : (byte bits : ℕ) → digit_of byte ≡ Ok bits → nat_le bits 15 ≡ true
digit-few byte bits h =
    let kept = kept-ok (is_digit byte 16) (digit_value byte) bits _ h in
    let below = ltb-true (digit_value byte) 16 kept.0 in
    let P : ℕ → Type 0 = λ k. nat_le k 15 ≡ true in
    subst P kept.1 (le-leb _ _ (omega (arith, below)))

enables-few : (part : List ℕ) (bits : ℕ) → enables_of part ≡ Ok bits → nat_le bits 15 ≡ true
enables-few [] bits h = absurd (cc)
enables-few (byte ∷ []) bits h = digit-few byte bits h
enables-few (byte ∷ next ∷ part) bits h = absurd (cc)

data-cases : (test : Bool) (two one : Result Phase LineFault) (phase : Phase) → (two ≡ Ok phase → is_well_formed_phase phase ≡ true) → (one ≡ Ok phase → is_well_formed_phase phase ≡ true) → cond test two one ≡ Ok phase → is_well_formed_phase phase ≡ true
data-cases true two one phase a b h = a h
data-cases false two one phase a b h = b h

marked-phase : (word : List ℕ) (phase : Phase) → and_part (hex_of 8 (before_mark 47 word)) (λ number. and_part (enables_of (behind_mark 47 word)) (λ bits. Ok (record { value = number; enables = bits }))) ≡ Ok phase → is_well_formed_phase phase ≡ true
marked-phase word phase h =
    let number = part-ok (hex_of 8 (before_mark 47 word)) _ phase h in
    let bits = part-ok (enables_of (behind_mark 47 word)) _ phase number.1.1 in
    let P : Phase → Type 0 = λ p. is_well_formed_phase p ≡ true in
    let is : record { value = number.0; enables = bits.0 } ≡ phase = cc in
    subst P is (enables-few (behind_mark 47 word) bits.0 bits.1.0)

plain-phase : (word : List ℕ) (phase : Phase) → and_part (hex_of 8 word) (λ number. Ok (record { value = number; enables = 15 })) ≡ Ok phase → is_well_formed_phase phase ≡ true
plain-phase word phase h =
    let number = part-ok (hex_of 8 word) _ phase h in
    let P : Phase → Type 0 = λ p. is_well_formed_phase p ≡ true in
    let is : record { value = number.0; enables = 15 } ≡ phase = cc in
    subst P is refl

pub phase-formed : (word : List ℕ) (phase : Phase) → data_word_of word ≡ Ok phase → is_well_formed_phase phase ≡ true
unfolding data_word_of
phase-formed word phase h = data-cases (has_mark 47 word) _ _ phase (marked-phase word phase) (plain-phase word phase) h

-- Headers.

pair-below : (high low : ℕ) → is_digit high 16 ≡ true → is_digit low 16 ≡ true → is_byte (16 * digit_value high + digit_value low) ≡ true
pair-below high low a b =
    let upper = ltb-true (digit_value high) 16 a in
    let lower = ltb-true (digit_value low) 16 b in
    pair_few (digit_value high) (digit_value low) upper lower
  where
    pair_few : (h l : ℕ) → h < 16 → l < 16 → is_byte (16 * h + l) ≡ true
    pair_few h l a b = lt-ltb _ _ (omega arith)

pairs-below : (word : List ℕ) → list_all (λ byte. is_digit byte 16) word ≡ true → list_all is_byte (in_pairs word) ≡ true
pairs-below [] all = refl
pairs-below (high ∷ []) all = refl
pairs-below (high ∷ low ∷ word) all =
    let first = and_parts (is_digit high 16) _ all in
    let second = and_parts (is_digit low 16) _ first.1 in
    and_from _ _ (pair-below high low first.0 second.0) (pairs-below word second.1)

pub header-bytes : (word bytes : List ℕ) → header_of word ≡ Ok bytes → list_all is_byte bytes ≡ true
unfolding header_of
header-bytes word bytes h =
    let kept = kept-ok (length word == 128 && list_all (λ byte. is_digit byte 16) word) (in_pairs word) bytes _ h in
    let P : List ℕ → Type 0 = λ bs. list_all is_byte bs ≡ true in
    subst P kept.1 (pairs-below word (and_parts _ _ kept.0).1)

-- Spaces.

space-cases : (mem io : Bool) (space : Space) (fault : LineFault) → cond mem (Ok Mem) (cond io (Ok Io) (Err fault)) ≡ Ok space → is_target_space space ≡ true
space-cases true io space fault h = let is : Mem ≡ space = cc in let P : Space → Type 0 = λ s. is_target_space s ≡ true in subst P is refl
space-cases false true space fault h = let is : Io ≡ space = cc in let P : Space → Type 0 = λ s. is_target_space s ≡ true in subst P is refl
space-cases false false space fault h = absurd (cc)

pub space-of-target : (word : List ℕ) (space : Space) → space_of_word word ≡ Ok space → is_target_space space ≡ true
unfolding space_of_word
space-of-target word space h = space-cases _ _ space _ h
