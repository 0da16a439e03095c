-- Numbers that fit, words of two parts, and digits in pairs.
use Rattle.std.proofs.Common.{◌≡◌, ℕ, zero, suc, ◌+◌, ◌*◌, ◌^◌, ◌<◌, ◌≤◌, Bool, true, false, not, cond, eqb, ltb, ◌||◌, List, [], ◌∷◌, ◌++◌, append_assoc, length, take, drop, get_or, Result, Ok, Err, arith, refl, sym, ap, ◌∙◌}
use Rattle.std.proofs.lemmas.Bool.Decides.{nat_tests}
use Rattle.std.proofs.lemmas.List.{drop-drop, drop_all, take_all, append-nil}
use Rattle.std.proofs.Math.Seq.{drop-cons, take-suc-set}
use Rattle.std.proofs.Math.ListN.{set}
use Rattle.std.specs.List.{position_or_len, list_any, list_all}
use Rattle.std.specs.Char.{digit_value, is_digit}
use Rattle.std.specs.Str.Parse.{digits_value}
use Rattle.board_text.specs.declared.numbers.NumberFault.{NumberFault}
use Rattle.board_text.specs.declared.numbers.NumberFault.TheVariants.{TooWide, NotDigits}
use Rattle.board_text.specs.Numbers.{is_numeral, hex_answer}
use Rattle.board_text.proofs.DigitLemmas.{digits_below}
use Rattle.board_statements.specs.Words.{has_mark, behind_mark, in_pairs}

abbrev answer : ℕ → Result ℕ NumberFault
answer n = Ok n

-- so many digits write a number below that power of sixteen
pub hex_below : (word : List ℕ) (digits n : ℕ) → answer n ≡ hex_answer word digits → n < 16 ^ digits
hex_below word digits n read =
    let P : Bool → Type 0 = λ b. is_numeral 16 word ≡ b → answer n ≡ cond b (cond (ltb digits (length word)) (Err TooWide) (Ok (digits_value 16 word))) (Err NotDigits) → n < 16 ^ digits in
    (elim (is_numeral 16 word) as P [
      | true ↦ λ numeral taken.
          let all : list_all (λ byte. is_digit byte 16) word ≡ true = grind (arith, nat_tests) in
          let Q : Bool → Type 0 = λ b. ltb digits (length word) ≡ b → answer n ≡ cond b (Err TooWide) (Ok (digits_value 16 word)) → n < 16 ^ digits in
          (elim (ltb digits (length word)) as Q [
            | true ↦ λ long none. absurd cc
            | false ↦ λ short is.
                let value : n ≡ digits_value 16 word = cc in
                let few : length word ≤ digits = grind (arith, nat_tests) in
                rw value (digits_below 16 digits word (omega arith) all few)
          ]) refl taken
      | false ↦ λ other none. absurd cc
    ]) refl read

-- a mark is in the word where the first one stands before its end
pub mark_is_there : (p : ℕ → Bool) (word : List ℕ) → list_any p word ≡ ltb (position_or_len p word) (length word)
mark_is_there p [] = refl
mark_is_there p (byte ∷ word) =
    let P : Bool → Type 0 = λ b. (b || list_any p word) ≡ ltb (cond (not b) (1 + position_or_len p word) 0) (length (byte ∷ word)) in
    elim (p byte) as P [
      | true ↦ grind (arith, nat_tests)
      | false ↦ let rest = mark_is_there p word in grind (arith, nat_tests)
    ]

pub no_mark : (mark : ℕ) (word : List ℕ) (at : ℕ) → at ≡ position_or_len (λ byte. eqb byte mark) word → at ≡ length word → has_mark mark word ≡ false
no_mark mark word at is all = mark_is_there (λ byte. eqb byte mark) word ∙ rw (← is) (grind (arith, nat_tests))

pub one_mark : (mark : ℕ) (word : List ℕ) (at : ℕ) → at ≡ position_or_len (λ byte. eqb byte mark) word → at ≤ length word → (at ≡ length word → ⊥) → has_mark mark word ≡ true
one_mark mark word at is within inside = mark_is_there (λ byte. eqb byte mark) word ∙ rw (← is) (grind (arith, nat_tests))

pub behind_is : (mark at : ℕ) (word from behind : List ℕ) → at ≡ position_or_len (λ byte. eqb byte mark) word → from ≡ drop at word → behind ≡ drop 1 from → behind ≡ behind_mark mark word
behind_is mark at word from behind is cut last = last ∙ ap (drop 1) cut ∙ drop-drop 1 at word ∙ ap (λ (n : ℕ). drop (n + 1) word) is

pub digit_in : (word : List ℕ) (at : ℕ) → list_all (λ byte. is_digit byte 16) word ≡ true → at < length word → is_digit (get_or word at 0) 16 ≡ true
digit_in [] at all inside = absurd (omega arith)
digit_in (byte ∷ word) zero all inside = grind arith
digit_in (byte ∷ word) (suc at) all inside =
    let others : list_all (λ byte. is_digit byte 16) word ≡ true = grind arith in
    digit_in word at others (omega arith)

-- one byte more
pub pair_more : (word bytes whole : List ℕ) (i value : ℕ) → 2 * i + 1 < length word → i < length bytes → value ≡ 16 * digit_value (get_or word (2 * i) 0) + digit_value (get_or word (2 * i + 1) 0)
    → take i bytes ++ in_pairs (drop (2 * i) word) ≡ whole → take (i + 1) (set bytes i value) ++ in_pairs (drop (2 * (i + 1)) word) ≡ whole
pair_more word bytes whole i value inside within is so_far =
    let next : i + 1 ≡ suc i = omega arith in
    let after : 2 * (i + 1) ≡ suc (suc (2 * i)) = omega arith in
    let second : 2 * i + 1 ≡ suc (2 * i) = omega arith in
    let left : drop (2 * i) word ≡ get_or word (2 * i) 0 ∷ get_or word (2 * i + 1) 0 ∷ drop (2 * (i + 1)) word =
    rw (after, second) (drop-cons word (2 * i) 0 (omega arith) ∙ ap (λ (more : List ℕ). get_or word (2 * i) 0 ∷ more) (drop-cons word (suc (2 * i)) 0 (omega arith))) in
    let these : in_pairs (drop (2 * i) word) ≡ value ∷ in_pairs (drop (2 * (i + 1)) word) = ap in_pairs left ∙ ap (λ (v : ℕ). v ∷ in_pairs (drop (2 * (i + 1)) word)) (sym is) in
    let wrote : take (i + 1) (set bytes i value) ≡ take i bytes ++ value ∷ [] = rw next (take-suc-set bytes i value within) in
    let regrouped : take i bytes ++ (value ∷ in_pairs (drop (2 * (i + 1)) word)) ≡ whole = rw these at so_far in
    rw (wrote, append_assoc) regrouped

pub pairs_done : (word bytes : List ℕ) (i : ℕ) → length word ≡ 128 → length bytes ≡ 64 → i ≡ 64 → take i bytes ++ in_pairs (drop (2 * i) word) ≡ in_pairs word → bytes ≡ in_pairs word
pairs_done word bytes i size long last so_far =
    let none : drop (2 * i) word ≡ [] = drop_all (2 * i) word (omega arith) in
    let all : take i bytes ≡ bytes = take_all i bytes (omega arith) in
    let whole : bytes ++ [] ≡ in_pairs word = rw (none, all) at so_far in
    sym (append-nil bytes) ∙ whole
