-- What stands at the front of a text: digits, a word of them, and two times.
use Rattle.std.proofs.Common.{◌≡◌, ℕ, suc, ◌+◌, ◌<◌, ◌≤◌, Bool, true, false, eqb, leb, ltb, ◌&&◌, List, [], ◌∷◌, ◌++◌, append_assoc, append-nil, length, take, drop, get_or, Some, refl, ap, sym, ◌∙◌, arith}
use Rattle.std.specs.List.{All, list_all, position_or_len, slice_split, onto_first, filter}
use Rattle.std.specs.Char.{is_digit, digit_value}
use Rattle.std.specs.Str.Parse.{digits_value}
use Rattle.std.proofs.lemmas.Bool.{and_parts}
use Rattle.std.proofs.lemmas.Bool.Decides.{nat_tests}
use Rattle.std.proofs.lemmas.List.{take-append-drop, length-take-le, length-drop, length-append, get_or-drop}
use Rattle.std.proofs.lemmas.List.Folds.{list_all-append}
use Rattle.std.proofs.lemmas.List.Splits.{slice_split-cons_no}
use Rattle.board_text.specs.Numbers.{is_numeral}
use Rattle.board_text.specs.Tokens.{is_separator, is_no_separator, words_in}
use Rattle.board_text.proofs.NextLemmas.{is_word, kept}
use Rattle.board_statements.specs.Words.{has_mark, before_mark, behind_mark}
use Rattle.observe_log.specs.Plain.{StandsAlone}
use Rattle.observe_log.specs.Words.{is_short_numeral, time_of, times_of}
use Rattle.observe_log.specs.Front.{BeginsNumber, EndsWord, TakesNumber, TakesTimes}
use Rattle.observe_log.proofs.PlainLemmas.{rest_stands}
use Rattle.observe_log.proofs.QuickLemmas.{apart}

none_with : (a b c : Bool) → b ≡ false → (a && (b && c)) ≡ false
none_with true b c is = rw is refl
none_with false b c is = refl

none_short : (a b c : Bool) → b ≡ false → ((a && b) && c) ≡ false
none_short true b c is = rw is refl
none_short false b c is = refl

-- Digits at the front of a text.

byte_at : (text rest : List ℕ) (byte count : ℕ) → drop count text ≡ byte ∷ rest → byte ≡ get_or text count 0
byte_at text rest byte count is =
    let here : count + 0 ≡ count = omega arith in
    sym (ap (λ (l : List ℕ). get_or l 0 0) is) ∙ get_or-drop count text 0 0 ∙ ap (λ (n : ℕ). get_or text n 0) here

-- none is left
pub none_left : (radix count : ℕ) (text : List ℕ) → length text ≤ count → (byte : ℕ) (rest : List ℕ) → drop count text ≡ byte ∷ rest → is_digit byte radix ≡ false
none_left radix count text past byte rest is =
    let size : length (drop count text) ≡ length (byte ∷ rest) = ap length is in
    let left = length-drop count text in
    absurd (omega (arith, size, left))

-- or the next byte is none
pub other_next : (radix count digit : ℕ) (text : List ℕ) → digit ≡ digit_value (get_or text count 0) → radix ≤ digit → (byte : ℕ) (rest : List ℕ) → drop count text ≡ byte ∷ rest → is_digit byte radix ≡ false
other_next radix count digit text read large byte rest is =
    let same : digit ≡ digit_value byte = read ∙ ap digit_value (sym (byte_at text rest byte count is)) in
    rw (← same) (grind (arith, nat_tests))

pub begins_number : (radix most value count : ℕ) (text behind : List ℕ) → count ≤ length text → count ≤ most → 0 < count → list_all (λ byte. is_digit byte radix) (take count text) ≡ true → value ≡ digits_value radix (take count text) → behind ≡ drop count text
    → ((byte : ℕ) (rest : List ℕ) → drop count text ≡ byte ∷ rest → is_digit byte radix ≡ false) → BeginsNumber radix most text value behind
begins_number radix most value count text behind within few some all is back ended =
    let size : length (take count text) ≡ count = length-take-le count text within in
    let filled : ltb 0 (length (take count text)) ≡ true = rw size (grind (arith, nat_tests)) in
    let short : leb (length (take count text)) most ≡ true = rw size (grind (arith, nat_tests)) in
    record {
      digits = take count text;
      whole = sym (take-append-drop count text) ∙ ap (λ (l : List ℕ). take count text ++ l) (sym back);
      short = rw (filled, all, short) refl;
      written = is;
      ended = λ byte rest begins. ended byte rest (sym back ∙ begins);
    }

-- the digits are all, or a byte that is none stands behind them
pub all_of : (radix most value : ℕ) (word behind : List ℕ) → BeginsNumber radix most word value behind → length behind ≡ 0 → (is_short_numeral radix most word ≡ true) × (value ≡ digits_value radix word)
all_of radix most value word [] begins none =
    let whole : begins.digits ≡ word = sym (append-nil begins.digits) ∙ sym begins.whole in
    (ap (is_short_numeral radix most) (sym whole) ∙ begins.short, begins.written ∙ ap (digits_value radix) whole)
all_of radix most value word (byte ∷ rest) begins none = absurd (omega arith)

pub not_all_of : (radix most value : ℕ) (word behind : List ℕ) → BeginsNumber radix most word value behind → 0 < length behind → is_short_numeral radix most word ≡ false
not_all_of radix most value word [] begins some = absurd (omega arith)
not_all_of radix most value word (byte ∷ rest) begins some =
    let other : is_digit byte radix ≡ false = begins.ended byte rest refl in
    let all : list_all (λ b. is_digit b radix) word ≡ false =
    ap (list_all (λ b. is_digit b radix)) begins.whole ∙ list_all-append (λ b. is_digit b radix) begins.digits (byte ∷ rest) ∙ none_with (list_all (λ b. is_digit b radix) begins.digits) (is_digit byte radix) (list_all (λ b. is_digit b radix) rest) other in
    none_short (ltb 0 (length word)) (list_all (λ b. is_digit b radix) word) (leb (length word) most) all

-- Digits are words.

no_digit : (radix mark : ℕ) → radix ≤ 36 → digit_value mark ≡ 36 → is_digit mark radix ≡ false
no_digit radix mark few is = rw is (grind (arith, nat_tests))

digit_joined : (radix byte : ℕ) → radix ≤ 36 → is_digit byte radix ≡ true → is_no_separator byte ≡ true
digit_joined radix byte few digit =
    let space : eqb byte 32 ≡ false = apart radix 32 byte (no_digit radix 32 few refl) digit in
    let tab : eqb byte 9 ≡ false = apart radix 9 byte (no_digit radix 9 few refl) digit in
    rw (space, tab) refl

digits_joined : (radix : ℕ) (w : List ℕ) → radix ≤ 36 → list_all (λ byte. is_digit byte radix) w ≡ true → list_all is_no_separator w ≡ true
digits_joined radix [] few all = refl
digits_joined radix (x ∷ w) few all =
    let parts = and_parts (is_digit x radix) (list_all (λ byte. is_digit byte radix) w) all in
    rw (digit_joined radix x few parts.0) (digits_joined radix w few parts.1)

-- A word before a space, or at the end.

is_joined : (x : ℕ) → is_no_separator x ≡ true → is_separator x ≡ false
is_joined x joined = grind (arith, nat_tests)

cut_word : (w xs : List ℕ) → list_all is_no_separator w ≡ true → slice_split is_separator (w ++ 32 ∷ xs) ≡ w ∷ slice_split is_separator xs
cut_word [] xs all = refl
cut_word (x ∷ w) xs all =
    let parts = and_parts (is_no_separator x) (list_all is_no_separator w) all in
    slice_split-cons_no is_separator x (w ++ 32 ∷ xs) (is_joined x parts.0) ∙ ap (onto_first x) (cut_word w xs parts.1)

cut_last : (w : List ℕ) → list_all is_no_separator w ≡ true → slice_split is_separator w ≡ w ∷ []
cut_last [] all = refl
cut_last (x ∷ w) all =
    let parts = and_parts (is_no_separator x) (list_all is_no_separator w) all in
    slice_split-cons_no is_separator x w (is_joined x parts.0) ∙ ap (onto_first x) (cut_last w parts.1)

word_first : (w from behind : List ℕ) → 0 < length w → list_all is_no_separator w ≡ true → EndsWord from behind → words_in (w ++ from) ≡ w ∷ words_in behind
word_first w [] behind some all ends =
    ap words_in (append-nil w) ∙ ap (filter is_word) (cut_last w all) ∙ kept w [] some ∙ ap (λ (text : List ℕ). w ∷ words_in text) (sym ends)
word_first w (byte ∷ rest) behind some all ends =
    ap (λ (b : ℕ). words_in (w ++ b ∷ rest)) ends.0 ∙ ap (filter is_word) (cut_word w rest all) ∙ kept w (slice_split is_separator rest) some ∙ ap (λ (text : List ℕ). w ∷ words_in text) (sym ends.1)

-- A number at the front.

some_digits : (radix most : ℕ) (w : List ℕ) → is_short_numeral radix most w ≡ true → (0 < length w) × (list_all (λ byte. is_digit byte radix) w ≡ true)
some_digits radix most w short =
    let numeral : is_numeral radix w ≡ true = (and_parts (is_numeral radix w) (leb (length w) most) short).0 in
    let parts = and_parts (ltb 0 (length w)) (list_all (λ byte. is_digit byte radix) w) numeral in
    let some : ltb 0 (length w) ≡ true = parts.0 in
    (grind (arith, nat_tests), parts.1)

pub number_taken : (radix most value : ℕ) (text from behind : List ℕ) → radix ≤ 36 → BeginsNumber radix most text value from → EndsWord from behind → TakesNumber radix most (Some value) (words_in text) (words_in behind)
number_taken radix most value text from behind few begins ends =
    let parts = some_digits radix most begins.digits begins.short in
    let cut = word_first begins.digits from behind parts.0 (digits_joined radix begins.digits few parts.1) ends in
    (begins.digits, ap words_in begins.whole ∙ cut, begins.short, begins.written)

-- Two times at the front.

no_dash : (byte : ℕ) → is_digit byte 10 ≡ true → eqb byte 45 ≡ false
no_dash byte digit = apart 10 45 byte refl digit

unmarked : (w : List ℕ) → list_all (λ byte. is_digit byte 10) w ≡ true → has_mark 45 w ≡ false
unmarked [] all = refl
unmarked (x ∷ w) all =
    let parts = and_parts (is_digit x 10) (list_all (λ byte. is_digit byte 10) w) all in
    rw (no_dash x parts.0) (unmarked w parts.1)

marked : (w v : List ℕ) → list_all (λ byte. is_digit byte 10) w ≡ true → has_mark 45 (w ++ 45 ∷ v) ≡ true
marked [] v all = refl
marked (x ∷ w) v all =
    let parts = and_parts (is_digit x 10) (list_all (λ byte. is_digit byte 10) w) all in
    rw (no_dash x parts.0) (marked w v parts.1)

mark_at : (w v : List ℕ) → list_all (λ byte. is_digit byte 10) w ≡ true → position_or_len (λ byte. eqb byte 45) (w ++ 45 ∷ v) ≡ length w
mark_at [] v all = refl
mark_at (x ∷ w) v all =
    let parts = and_parts (is_digit x 10) (list_all (λ byte. is_digit byte 10) w) all in
    let rest = mark_at w v parts.1 in
    rw (no_dash x parts.0) (omega (arith, rest))

front_of : (w v : List ℕ) → take (length w) (w ++ v) ≡ w
front_of [] v = refl
front_of (x ∷ w) v = ap (λ (l : List ℕ). x ∷ l) (front_of w v)

back_of : (w v : List ℕ) (x : ℕ) → drop (length w + 1) (w ++ x ∷ v) ≡ v
back_of [] v x = refl
back_of (y ∷ w) v x =
    let next : length (y ∷ w) + 1 ≡ suc (length w + 1) = omega arith in
    rw next (back_of w v x)

before_dash : (w v : List ℕ) → list_all (λ byte. is_digit byte 10) w ≡ true → before_mark 45 (w ++ 45 ∷ v) ≡ w
before_dash w v all = rw (mark_at w v all) (front_of w (45 ∷ v))

behind_dash : (w v : List ℕ) → list_all (λ byte. is_digit byte 10) w ≡ true → behind_mark 45 (w ++ 45 ∷ v) ≡ v
behind_dash w v all = rw (mark_at w v all) (back_of w v 45)

time_is : (w : List ℕ) (value : ℕ) → is_short_numeral 10 18 w ≡ true → value ≡ digits_value 10 w → time_of w ≡ Some value
time_is w value short is = rw (short, is) refl

two_times : (w v : List ℕ) (start end : ℕ) → is_short_numeral 10 18 w ≡ true → start ≡ digits_value 10 w → is_short_numeral 10 18 v ≡ true → end ≡ digits_value 10 v → start ≤ end → times_of (w ++ 45 ∷ v) ≡ Some (start, end)
two_times w v start end first is_first last is_last order =
    let all = (some_digits 10 18 w first).1 in
    let within : leb start end ≡ true = grind (arith, nat_tests) in
    rw (marked w v all, before_dash w v all, behind_dash w v all, time_is w start first is_first, time_is v end last is_last, within) refl

one_time : (w : List ℕ) (start : ℕ) → is_short_numeral 10 18 w ≡ true → start ≡ digits_value 10 w → times_of w ≡ Some (start, start)
one_time w start short is =
    rw (unmarked w (some_digits 10 18 w short).1, time_is w start short is) refl

long_word : (w v : List ℕ) → 0 < length (w ++ 45 ∷ v)
long_word w v =
    let size = length-append w (45 ∷ v) in
    omega (arith, size)

pub times_taken : (start end : ℕ) (text middle later from behind : List ℕ) → BeginsNumber 10 18 text start middle → middle ≡ 45 ∷ later → BeginsNumber 10 18 later end from → start ≤ end → EndsWord from behind → TakesTimes (Some (start, end)) (words_in text) (words_in behind)
times_taken start end text middle later from behind first is second order ends =
    let w : List ℕ = first.digits in
    let v : List ℕ = second.digits in
    let whole : text ≡ (w ++ 45 ∷ v) ++ from =
    first.whole ∙ ap (λ (l : List ℕ). w ++ l) is ∙ ap (λ (l : List ℕ). w ++ 45 ∷ l) second.whole ∙ sym (append_assoc w (45 ∷ v) from) in
    let joined : list_all is_no_separator (w ++ 45 ∷ v) ≡ true =
    list_all-append is_no_separator w (45 ∷ v) ∙ rw (digits_joined 10 w (omega arith) (some_digits 10 18 w first.short).1, digits_joined 10 v (omega arith) (some_digits 10 18 v second.short).1) refl in
    (w ++ 45 ∷ v, ap words_in whole ∙ word_first (w ++ 45 ∷ v) from behind (long_word w v) joined ends, two_times w v start end first.short first.written second.short second.written order)

pub time_taken : (start : ℕ) (text from behind : List ℕ) → BeginsNumber 10 18 text start from → EndsWord from behind → TakesTimes (Some (start, start)) (words_in text) (words_in behind)
time_taken start text from behind begins ends =
    let parts = some_digits 10 18 begins.digits begins.short in
    let cut = word_first begins.digits from behind parts.0 (digits_joined 10 begins.digits (omega arith) parts.1) ends in
    (begins.digits, ap words_in begins.whole ∙ cut, one_time begins.digits start begins.short begins.written)

-- The words that are left stand alone, as they did.

pub rest_of_number : (radix most value : ℕ) (old new : List (List ℕ)) → TakesNumber radix most (Some value) old new → All StandsAlone old → All StandsAlone new
rest_of_number radix most value old new taken all = rest_stands old new taken.0 taken.1 all

pub rest_of_times : (times : ℕ × ℕ) (old new : List (List ℕ)) → TakesTimes (Some times) old new → All StandsAlone old → All StandsAlone new
rest_of_times times old new taken all = rest_stands old new taken.0 taken.1 all
