-- Numbers digit by digit, and words as boards have them: a number of at most eight digits, and any other word, which is read alone.
use Rattle.std.proofs.Common.{◌≡◌, ℕ, ◌+◌, ◌*◌, ◌^◌, ◌<◌, ◌≤◌, Bool, true, false, eqb, leb, ltb, ◌&&◌, List, [], ◌∷◌, length, take, get_or, Some, None, Result, Ok, Err, refl, ap, sym, ◌∙◌, arith}
use Rattle.std.specs.Prelude.{codes}
use Rattle.std.specs.List.{list_all}
use Rattle.std.specs.Str.{bytes_eq}
use Rattle.std.specs.Char.{is_digit, digit_value}
use Rattle.std.specs.Str.Parse.{digits_value}
use Rattle.std.proofs.lemmas.List.{length-take}
use Rattle.std.proofs.lemmas.List.Folds.{list_all_more}
use Rattle.std.proofs.lemmas.Bool.{and_parts, false≢true}
use Rattle.std.proofs.lemmas.Bool.Decides.{nat_tests}
use Rattle.std.proofs.lemmas.Slice.Eq.{bytes_eq-Decides}
use Rattle.board_text.specs.declared.numbers.NumberFault.{NumberFault}
use Rattle.board_text.specs.Numbers.{is_numeral, hex_answer, decimal_answer, number_fault}
use Rattle.board_text.specs.Tokens.{words_of}
use Rattle.board_text.proofs.DigitLemmas.{digits_step, digits_below}
use Rattle.text_faults.specs.declared.board_line.LineFault.{LineFault}
use Rattle.board_statements.specs.Words.{with_rest, one_word, hex, long, hex_of, decimal_of, has_mark, long_of, data_word_of}
use Rattle.board_model.specs.declared.board.Board.{Board}
use Rattle.observe_log.specs.Readers.{as_in_boards}
use Rattle.observe_log.specs.Plain.{StandsAlone}
use Rattle.observe_log.specs.Words.{is_short_numeral, bus_by, bus_form, dword_by}
use Rattle.observe_log.specs.Lines.{ending_of}
use Rattle.observe_log.specs.Front.{TakesNumber}

-- Numbers.

abbrev number_so : ℕ → Result ℕ NumberFault
number_so n = Ok n

abbrev number_fails : NumberFault → Result ℕ NumberFault
number_fails fault = Err fault

pub bus_number : (word : List ℕ) (n : ℕ) → decimal_answer word ≡ number_so n → n < 2 ^ 32 → decimal_of 0 4294967295 word ≡ Ok n
unfolding decimal_of
bus_number word n read small =
    let within : (leb 0 n && leb n 4294967295) ≡ true = grind (arith, nat_tests) in
    rw (read, within) refl

pub bus_fault : (word : List ℕ) (fault : NumberFault) → decimal_answer word ≡ number_fails fault → decimal_of 0 4294967295 word ≡ Err (number_fault fault)
unfolding decimal_of
bus_fault word fault read = rw read refl

pub hex_number : (word : List ℕ) (n : ℕ) → hex_answer word 8 ≡ number_so n → hex_of 8 word ≡ Ok n
unfolding hex_of
hex_number word n read = rw read refl

pub hex_fault : (word : List ℕ) (fault : NumberFault) → hex_answer word 8 ≡ number_fails fault → hex_of 8 word ≡ Err (number_fault fault)
unfolding hex_of
hex_fault word fault read = rw read refl

-- Digits have no mark between them.

pub apart : (radix mark byte : ℕ) → is_digit mark radix ≡ false → is_digit byte radix ≡ true → eqb byte mark ≡ false
apart radix mark byte none digit =
    let P : Bool → Type 0 = λ b. eqb byte mark ≡ b → b ≡ false in
    (elim (eqb byte mark) as P [
      | true ↦ λ is.
          let same : byte ≡ mark = grind (arith, nat_tests) in
          absurd (false≢true (sym none ∙ ap (λ (n : ℕ). is_digit n radix) (sym same) ∙ digit))
      | false ↦ λ is. refl
    ]) refl

no_mark : (mark : ℕ) (word : List ℕ) → is_digit mark 16 ≡ false → list_all (λ byte. is_digit byte 16) word ≡ true → has_mark mark word ≡ false
no_mark mark [] none all = refl
no_mark mark (byte ∷ word) none all =
    let parts = and_parts (is_digit byte 16) (list_all (λ byte. is_digit byte 16) word) all in
    let here : eqb byte mark ≡ false = apart 16 mark byte none parts.0 in
    rw here (no_mark mark word none parts.1)

-- Numbers of at most eight digits.

hex_is : (word : List ℕ) → is_short_numeral 16 8 word ≡ true → hex_answer word 8 ≡ number_so (digits_value 16 word)
hex_is word short =
    let parts = and_parts (is_numeral 16 word) (leb (length word) 8) short in
    let numeral = parts.0 in
    let few : ltb 8 (length word) ≡ false = grind (arith, nat_tests) in
    rw (numeral, few) refl

digits_of_short : (word : List ℕ) → is_short_numeral 16 8 word ≡ true → list_all (λ byte. is_digit byte 16) word ≡ true
digits_of_short word short = (and_parts _ _ (and_parts (is_numeral 16 word) (leb (length word) 8) short).0).1

pub long_number : (word : List ℕ) (n : ℕ) → is_short_numeral 16 8 word ≡ true → n ≡ digits_value 16 word → long_of true word ≡ Ok n
unfolding long_of
long_number word n short is =
    let unmarked : has_mark 58 word ≡ false = no_mark 58 word refl (digits_of_short word short) in
    rw unmarked (hex_number word (digits_value 16 word) (hex_is word short) ∙ ap (λ (m : ℕ). Ok m) (sym is))

pub phase_number : (word : List ℕ) (n : ℕ) → is_short_numeral 16 8 word ≡ true → n ≡ digits_value 16 word → data_word_of word ≡ Ok (record { value = n; enables = 15 })
unfolding data_word_of
phase_number word n short is =
    let unmarked : has_mark 47 word ≡ false = no_mark 47 word refl (digits_of_short word short) in
    let number : hex_of 8 word ≡ Ok n = hex_number word (digits_value 16 word) (hex_is word short) ∙ ap (λ (m : ℕ). Ok m) (sym is) in
    rw (unmarked, number) refl

pub port_number : (word : List ℕ) (n : ℕ) → is_short_numeral 16 8 word ≡ true → n ≡ digits_value 16 word → hex_of 8 word ≡ Ok n
port_number word n short is = hex_number word (digits_value 16 word) (hex_is word short) ∙ ap (λ (m : ℕ). Ok m) (sym is)

pub decimal_number : (word : List ℕ) (n : ℕ) → is_short_numeral 10 9 word ≡ true → n ≡ digits_value 10 word → decimal_of 0 4294967295 word ≡ Ok n
decimal_number word n short is =
    let parts = and_parts (is_numeral 10 word) (leb (length word) 9) short in
    let digits : list_all (λ byte. is_digit byte 10) word ≡ true = (and_parts (ltb 0 (length word)) (list_all (λ byte. is_digit byte 10) word) parts.0).1 in
    let nine : length word ≤ 9 = grind (arith, nat_tests, parts.1) in
    let small : digits_value 10 word < 1000000000 = digits_below 10 9 word (omega arith) digits nine in
    let numeral : is_numeral 10 word ≡ true = parts.0 in
    let few : ltb 10 (length word) ≡ false = grind (arith, nat_tests) in
    let low : ltb (digits_value 10 word) 4294967296 ≡ true = grind (arith, nat_tests) in
    let read : decimal_answer word ≡ number_so (digits_value 10 word) = rw (numeral, few, low) refl in
    bus_number word (digits_value 10 word) read (omega (arith, small)) ∙ ap (λ (m : ℕ). Ok m) (sym is)

-- The words of a line that begin with a number.

pub bus_read : (board : Board) (words new : List (List ℕ)) (n : ℕ) → TakesNumber 10 9 (Some n) words new → bus_form board words ≡ bus_by board (Ok (n, new))
bus_read board words new n taken =
    ap (bus_form board) taken.1 ∙ ap (λ (r : Result ℕ LineFault). bus_by board (as_in_boards 1 (with_rest r new))) (decimal_number taken.0 n taken.2 taken.3)

pub long_read : (words new : List (List ℕ)) (n : ℕ) → TakesNumber 16 8 (Some n) words new → dword_by (as_in_boards 4 (long true words)) ≡ dword_by (Ok (n, new))
long_read words new n taken =
    ap (λ (ws : List (List ℕ)). dword_by (as_in_boards 4 (long true ws))) taken.1 ∙ ap (λ (r : Result ℕ LineFault). dword_by (as_in_boards 4 (with_rest r new))) (long_number taken.0 n taken.2 taken.3)

pub port_read : (words new : List (List ℕ)) (n : ℕ) → TakesNumber 16 8 (Some n) words new → dword_by (as_in_boards 4 (hex 8 words)) ≡ dword_by (Ok (n, new))
port_read words new n taken =
    ap (λ (ws : List (List ℕ)). dword_by (as_in_boards 4 (hex 8 ws))) taken.1 ∙ ap (λ (r : Result ℕ LineFault). dword_by (as_in_boards 4 (with_rest r new))) (port_number taken.0 n taken.2 taken.3)

-- A number is no RESULT.

other_text : (word text : List ℕ) → is_short_numeral 16 8 word ≡ true → list_all (λ byte. is_digit byte 16) text ≡ false → bytes_eq word text ≡ false
other_text word text short none =
    let P : Bool → Type 0 = λ b. bytes_eq word text ≡ b → b ≡ false in
    (elim (bytes_eq word text) as P [
      | true ↦ λ is.
          let same : word ≡ text = (bytes_eq-Decides word text).0 is in
          absurd (false≢true (sym none ∙ ap (list_all (λ byte. is_digit byte 16)) (sym same) ∙ digits_of_short word short))
      | false ↦ λ is. refl
    ]) refl

pub no_ending : (word : List ℕ) → is_short_numeral 16 8 word ≡ true → ending_of word ≡ None
no_ending word short =
    rw (other_text word (codes "done") short refl, other_text word (codes "retry") short refl, other_text word (codes "tabort") short refl, other_text word (codes "nobody") short refl) refl

-- The digits so far.

pub digits_more : (radix : ℕ) (word : List ℕ) (i digit : ℕ) → i < length word → digit ≡ digit_value (get_or word i 0) → digit < radix → list_all (λ byte. is_digit byte radix) (take i word) ≡ true → list_all (λ byte. is_digit byte radix) (take (i + 1) word) ≡ true
digits_more radix word i digit inside read small so_far =
    let here : is_digit (get_or word i 0) radix ≡ true = rw (← read) (grind (arith, nat_tests)) in
    rw (list_all_more (λ byte. is_digit byte radix) word i 0 inside, so_far, here) refl

pub digits_fit : (radix most value : ℕ) (word : List ℕ) (i : ℕ) → 0 < radix → i ≤ most → list_all (λ byte. is_digit byte radix) (take i word) ≡ true → value ≡ digits_value radix (take i word) → value < radix ^ most
digits_fit radix most value word i base short all is =
    let size = length-take i word in
    rw is (digits_below radix most (take i word) base all (omega (arith, size)))

pub digits_small : (radix most value digit : ℕ) (word : List ℕ) (i : ℕ) → 0 < radix → i < length word → i < most → list_all (λ byte. is_digit byte radix) (take (i + 1) word) ≡ true
    → value ≡ digits_value radix (take i word) → digit ≡ digit_value (get_or word i 0) → value * radix + digit < radix ^ most
digits_small radix most value digit word i base inside short all is read =
    digits_fit radix most (value * radix + digit) word (i + 1) base (omega (arith, short)) all (digits_step radix value digit word i inside is read)

-- A word that is read alone.

value_of_rest : {A : Type 0} (kind : Result A LineFault) (words left : List (List ℕ)) (value : A) → with_rest kind words ≡ Ok (value, left) → kind ≡ Ok value
value_of_rest {A} (Ok other) words left value read =
    let first : Result (A × List (List ℕ)) LineFault → A = λ r. elim r [ Ok pair ↦ pair.0 | Err fault ↦ value ] in
    let same : other ≡ value = ap first read in
    ap (λ (v : A). Ok v) same
value_of_rest {A} (Err fault) words left value read = absurd cc

fault_of_rest : {A : Type 0} (kind : Result A LineFault) (words : List (List ℕ)) (fault : LineFault) → with_rest kind words ≡ Err fault → kind ≡ Err fault
fault_of_rest (Ok other) words fault read = absurd cc
fault_of_rest (Err other) words fault read = cc

pub alone_value : {A : Type 0} (kind : List ℕ → Result A LineFault) (word : List ℕ) (all left : List (List ℕ)) (value : A) → StandsAlone word → all ≡ words_of word → one_word kind all ≡ Ok (value, left) → kind word ≡ Ok value
alone_value {A} kind word all left value alone is read =
    let whole : one_word kind (word ∷ []) ≡ Ok (value, left) = ap (one_word kind) (sym (is ∙ alone.alone)) ∙ read in
    value_of_rest (kind word) [] left value whole

pub alone_fault : {A : Type 0} (kind : List ℕ → Result A LineFault) (word : List ℕ) (all : List (List ℕ)) (fault : LineFault) → StandsAlone word → all ≡ words_of word → one_word kind all ≡ Err fault → kind word ≡ Err fault
alone_fault {A} kind word all fault alone is read =
    let whole : one_word kind (word ∷ []) ≡ Err fault = ap (one_word kind) (sym (is ∙ alone.alone)) ∙ read in
    fault_of_rest (kind word) [] fault whole
