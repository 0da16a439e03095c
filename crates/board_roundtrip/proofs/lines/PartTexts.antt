-- Words of two parts as they are printed are read as the same: addresses and data words.
use Rattle.std.proofs.Common.{◌≡◌, ℕ, suc, ◌+◌, ◌*◌, ◌/◌, ◌%◌, ◌^◌, ◌<◌, ◌≤◌, Bool, true, false, cond, eqb, ltb, ◌||◌, List, [], ◌∷◌, ◌++◌, length, drop, Result, Ok, arith, inl, inr, refl, sym, ap, subst, ◌∙◌}
use Rattle.std.proofs.lemmas.Bool.{cases_lt, lt-ltb, le-ltb, eqb-true}
use Rattle.std.proofs.lemmas.Bool.Decides.{nat_tests}
use Rattle.std.proofs.lemmas.List.{append-nil, take_at}
use Rattle.std.specs.List.{list_all, position_or_len}
use Rattle.std.specs.Char.{is_digit}
use Rattle.std.specs.Fmt.{digit_glyph}
use Rattle.pci_command.specs.declared.phases.Phase.{Phase}
use Rattle.board_printer.specs.Numbers.{hex, word_text, half_text, address_text, phase_text}
use Rattle.text_faults.specs.declared.board_line.LineFault.{LineFault}
use Rattle.board_statements.specs.Words.{hex_of, has_mark, before_mark, behind_mark, lower_of, long_of, digit_of, data_word_of}
use Rattle.board_roundtrip.proofs.lines.NumberTexts.{number, hex_is_read}
use Rattle.board_roundtrip.proofs.words.Laws.{glyph_value, glyph_is_digit, hex_digits, hex_length}

pub word_is_read : (n : ℕ) → n < 2 ^ 32 → hex_of 8 (word_text n) ≡ number n
unfolding word_text
word_is_read n below = hex_is_read 8 n (omega arith) below

pub half_is_read : (n : ℕ) → n < 2 ^ 16 → hex_of 4 (half_text n) ≡ number n
unfolding half_text
half_is_read n below = hex_is_read 4 n (omega arith) below

pub word_length : (n : ℕ) → length (word_text n) ≡ 8
unfolding word_text
word_length n = hex_length 8 n

-- no digit is a mark
not_digit : (mark byte : ℕ) → is_digit mark 16 ≡ false → is_digit byte 16 ≡ true → eqb byte mark ≡ false
not_digit mark byte none digit =
    let P : Bool → Type 0 = λ b. eqb byte mark ≡ b → b ≡ false in
    (elim (eqb byte mark) as P [
      | true ↦ λ same.
          let equal : byte ≡ mark = eqb-true byte mark same in
          let both : is_digit mark 16 ≡ true = subst (λ (c : ℕ). is_digit c 16 ≡ true) equal digit in
          absurd (let apart : true ≡ false = sym both ∙ none in cc)
      | false ↦ λ other. refl
    ]) refl

no_mark : (mark : ℕ) (word : List ℕ) → is_digit mark 16 ≡ false → list_all (λ byte. is_digit byte 16) word ≡ true → has_mark mark word ≡ false
no_mark mark [] none all = refl
no_mark mark (byte ∷ word) none all =
    let digit : is_digit byte 16 ≡ true = grind arith in
    let others : list_all (λ byte. is_digit byte 16) word ≡ true = grind arith in
    rw (not_digit mark byte none digit, no_mark mark word none others) refl

word_has_none : (mark n : ℕ) → is_digit mark 16 ≡ false → has_mark mark (word_text n) ≡ false
unfolding word_text
word_has_none mark n none = no_mark mark (hex 8 n) none (hex_digits 8 n)

-- the first mark stands behind a part that has none
first_mark : (mark : ℕ) (part behind : List ℕ) → has_mark mark part ≡ false → position_or_len (λ byte. eqb byte mark) (part ++ mark ∷ behind) ≡ length part
first_mark mark [] behind none =
    let same : eqb mark mark ≡ true = grind (arith, nat_tests) in
    rw same refl
first_mark mark (byte ∷ part) behind none =
    let here : eqb byte mark ≡ false = grind arith in
    let others : has_mark mark part ≡ false = grind arith in
    let before = first_mark mark part behind others in
    rw (here, before) (omega arith)

mark_stands : (mark : ℕ) (part behind : List ℕ) → has_mark mark (part ++ mark ∷ behind) ≡ true
mark_stands mark [] behind =
    let same : eqb mark mark ≡ true = grind (arith, nat_tests) in
    rw same refl
mark_stands mark (byte ∷ part) behind =
    let others = mark_stands mark part behind in
    let P : Bool → Type 0 = λ b. (b || has_mark mark (part ++ mark ∷ behind)) ≡ true in
    elim (eqb byte mark) as P [ true ↦ refl | false ↦ others ]

before_is : (mark : ℕ) (part behind : List ℕ) → has_mark mark part ≡ false → before_mark mark (part ++ mark ∷ behind) ≡ part
before_is mark part behind none = take_at part (mark ∷ behind) _ (sym (first_mark mark part behind none))

behind_step : (mark : ℕ) (part behind : List ℕ) (n : ℕ) → n ≡ length part → drop (n + 1) (part ++ mark ∷ behind) ≡ behind
behind_step mark [] behind n is = rw is refl
behind_step mark (byte ∷ part) behind n is =
    let next : n + 1 ≡ suc (length part + 1) = omega arith in
    rw next (behind_step mark part behind (length part) refl)

behind_is : (mark : ℕ) (part behind : List ℕ) → has_mark mark part ≡ false → behind_mark mark (part ++ mark ∷ behind) ≡ behind
behind_is mark part behind none = behind_step mark part behind _ (first_mark mark part behind none)

lower_is_read : (n : ℕ) → n < 2 ^ 32 → lower_of (word_text n) ≡ number n
lower_is_read n below =
    let size : eqb (length (word_text n)) 8 ≡ true = rw (word_length n) refl in
    rw (word_is_read n below, size) refl

short_is_read : (wide : Bool) (n : ℕ) → n < 2 ^ 32 → long_of wide (word_text n) ≡ number n
unfolding long_of
short_is_read wide n below =
    let none = word_has_none 58 n refl in
    let P : Bool → Type 0 = λ b. long_of b (word_text n) ≡ number n in
    elim wide as P [
      | true ↦ rw none (word_is_read n below)
      | false ↦ word_is_read n below
    ]

long_parts : (upper lower : ℕ) → upper < 2 ^ 32 → lower < 2 ^ 32 → long_of true (word_text upper ++ 58 ∷ word_text lower) ≡ number (upper * 2 ^ 32 + lower)
unfolding long_of
long_parts upper lower high low =
    let none = word_has_none 58 upper refl in
    rw (mark_stands 58 (word_text upper) (word_text lower), before_is 58 (word_text upper) (word_text lower) none, behind_is 58 (word_text upper) (word_text lower) none, word_is_read upper high, lower_is_read lower low) refl

-- an address as it is printed is read as the same, in a wide text or where it is short
pub address_is_read : (wide : Bool) (n : ℕ) → n < 2 ^ 64 → (wide || ltb n (2 ^ 32)) ≡ true → long_of wide (address_text n) ≡ number n
unfolding address_text
address_is_read wide n below fits =
    elim (cases_lt n (2 ^ 32)) [
      | inl short ↦ rw (lt-ltb n (2 ^ 32) short) (short_is_read wide n short)
      | inr long ↦
          let over : ltb n (2 ^ 32) ≡ false = le-ltb _ _ long in
          let is_wide : wide ≡ true = grind (arith, over) in
          let whole : n / 2 ^ 32 * 2 ^ 32 + n % 2 ^ 32 ≡ n = omega arith in
          rw (over, is_wide) (long_parts (n / 2 ^ 32) (n % 2 ^ 32) (omega arith) (omega arith) ∙ ap number whole)
    ]

digit_is_read : (d : ℕ) → d < 16 → digit_of (digit_glyph false d) ≡ number d
digit_is_read d below = rw (glyph_is_digit d below, glyph_value d below) refl

abbrev phase_so : Phase → Result Phase LineFault
phase_so phase = Ok phase

-- a data word as it is printed is read as the same
pub phase_is_read : (phase : Phase) → phase.value < 2 ^ 32 → phase.enables ≤ 15 → data_word_of (phase_text phase) ≡ Ok phase
unfolding data_word_of phase_text
phase_is_read phase fits few =
    let none = word_has_none 47 phase.value refl in
    let bits : phase.enables % 16 ≡ phase.enables = omega arith in
    let P : Bool → Type 0 = λ b. eqb phase.enables 15 ≡ b → data_word_of (word_text phase.value ++ cond b [] (47 ∷ digit_glyph false phase.enables ∷ [])) ≡ Ok phase in
    rw bits ((elim (eqb phase.enables 15) as P [
      | true ↦ λ all.
          let every : phase.enables ≡ 15 = eqb-true _ _ all in
          rw (append-nil (word_text phase.value), none, word_is_read phase.value fits) (ap (λ (e : ℕ). phase_so (record { value = phase.value; enables = e })) (sym every))
      | false ↦ λ some.
          let part : List ℕ = digit_glyph false phase.enables ∷ [] in
          rw (mark_stands 47 (word_text phase.value) part, before_is 47 (word_text phase.value) part none, behind_is 47 (word_text phase.value) part none, word_is_read phase.value fits, digit_is_read phase.enables (omega arith)) refl
    ]) refl)

mark-append : (mark : ℕ) (xs ys : List ℕ) → has_mark mark xs ≡ false → has_mark mark ys ≡ false → has_mark mark (xs ++ ys) ≡ false
mark-append mark [] ys front back = back
mark-append mark (x ∷ xs) ys front back =
    let here : eqb x mark ≡ false = grind arith in
    let others : has_mark mark xs ≡ false = grind arith in
    rw (here, mark-append mark xs ys others back) refl

pub address_has_none : (mark n : ℕ) → is_digit mark 16 ≡ false → eqb 58 mark ≡ false → has_mark mark (address_text n) ≡ false
unfolding address_text
address_has_none mark n none apart =
    let lower : has_mark mark (58 ∷ word_text (n % 2 ^ 32)) ≡ false = rw (apart, word_has_none mark (n % 2 ^ 32) none) refl in
    let P : Bool → Type 0 = λ b. has_mark mark (cond b (word_text n) (word_text (n / 2 ^ 32) ++ 58 ∷ word_text (n % 2 ^ 32))) ≡ false in
    elim (ltb n (2 ^ 32)) as P [
      | true ↦ word_has_none mark n none
      | false ↦ mark-append mark (word_text (n / 2 ^ 32)) (58 ∷ word_text (n % 2 ^ 32)) (word_has_none mark (n / 2 ^ 32) none) lower
    ]
