-- Lines without a comment, and words that stand alone.
use Rattle.std.proofs.Common.{◌≡◌, ℕ, ◌+◌, ◌-◌, ◌<◌, ◌≤◌, Bool, true, false, not, cond, ltb, eq-eqb, List, [], ◌∷◌, ◌++◌, length, take, drop, get_or, refl, ap, sym, subst, ◌∙◌, arith}
use Rattle.std.specs.List.{All, position_or_len, slice_split, onto_first, filter, list_all}
use Rattle.std.proofs.lemmas.Bool.{and_parts}
use Rattle.std.proofs.lemmas.Bool.Decides.{nat_tests}
use Rattle.std.proofs.lemmas.List.{take_all, take-append-drop, length-take, length-take-le, get_or-take, get_or-drop, length-drop}
use Rattle.std.proofs.lemmas.List.Folds.{prefix_len-append}
use Rattle.std.proofs.lemmas.List.Elements.{All-nil, All-cons, All-head, All-tail}
use Rattle.std.proofs.lemmas.List.Sums.{position_or_len_is, fails_before_first, list_all-from_AllPass}
use Rattle.std.proofs.lemmas.List.Splits.{slice_split_none}
use Rattle.board_text.specs.Lines.{is_newline, is_allowed, lines_of}
use Rattle.board_text.specs.Tokens.{is_separator, is_comment, uncommented, words_in, words_of}
use Rattle.board_text.proofs.AllowedLemmas.{allowed_line}
use Rattle.board_text.proofs.CutLemmas.{next_step}
use Rattle.board_text.proofs.NextLemmas.{is_word, kept, words_few}
use Rattle.observe_log.specs.Plain.{is_plain, is_no_plain, IsPlain, StandsAlone}

-- A byte of one kind.

abbrev NoSeparator : ℕ → Type 0
NoSeparator byte = is_separator byte ≡ false

abbrev NoComment : ℕ → Type 0
NoComment byte = is_comment byte ≡ false

-- A text that is not cut.

position_all : (p : ℕ → Bool) (xs : List ℕ) → All (λ x. p x ≡ false) xs → position_or_len p xs ≡ length xs
position_all p xs all = position_or_len_is p xs (length xs) 0 (omega arith) (λ k inside. all k 0 inside) (λ less. absurd (omega arith))

uncommented_all : (text : List ℕ) → All NoComment text → uncommented text ≡ text
uncommented_all text all = rw (position_all is_comment text all) (take_all (length text) text (omega arith))

no_comment : (text : List ℕ) → uncommented text ≡ text → All NoComment text
no_comment text whole =
    let n = position_or_len is_comment text in
    let size : length (take n text) ≡ length text = ap length whole in
    let least = length-take n text in
    λ k d inside. fails_before_first is_comment text k d (omega (arith, size, least))

-- what stands before a comment has none
front_no_comment : (line : List ℕ) → All NoComment (uncommented line)
front_no_comment line =
    let n = position_or_len is_comment line in
    let least = length-take n line in
    λ k d inside.
    let before : k < n = omega (arith, least) in
    rw (get_or-take n line k d before) (fails_before_first is_comment line k d before)

pub uncommented_again : (line : List ℕ) → uncommented (uncommented line) ≡ uncommented line
uncommented_again line = uncommented_all (uncommented line) (front_no_comment line)

-- A piece of such a text.

record Sound (piece : List ℕ) : Type 0 where
  joined : All NoSeparator piece
  said : All NoComment piece

none_sound : Sound []
none_sound = record { joined = All-nil NoSeparator; said = All-nil NoComment }

one_sound : (x : ℕ) (piece : List ℕ) → is_separator x ≡ false → is_comment x ≡ false → Sound piece → Sound (x ∷ piece)
one_sound x piece within uncut sound = record {
  joined = All-cons NoSeparator x piece within sound.joined;
  said = All-cons NoComment x piece uncut sound.said;
}

onto_sound : (x : ℕ) (pieces : List (List ℕ)) → is_separator x ≡ false → is_comment x ≡ false → All Sound pieces → All Sound (onto_first x pieces)
onto_sound x [] within uncut all = All-cons Sound (x ∷ []) [] (one_sound x [] within uncut none_sound) (All-nil Sound)
onto_sound x (piece ∷ pieces) within uncut all =
    All-cons Sound (x ∷ piece) pieces (one_sound x piece within uncut (All-head Sound piece pieces all)) (All-tail Sound piece pieces all)

pieces_sound : (text : List ℕ) → All NoComment text → All Sound (slice_split is_separator text)
pieces_sound [] all = All-cons Sound [] [] none_sound (All-nil Sound)
pieces_sound (x ∷ xs) all =
    let rest : All Sound (slice_split is_separator xs) = pieces_sound xs (All-tail NoComment x xs all) in
    let here : is_comment x ≡ false = All-head NoComment x xs all in
    let P : Bool → Type 0 = λ b. is_separator x ≡ b → All Sound (cond b ([] ∷ slice_split is_separator xs) (onto_first x (slice_split is_separator xs))) in
    (elim (is_separator x) as P [
      | true ↦ λ between. All-cons Sound [] (slice_split is_separator xs) none_sound rest
      | false ↦ λ within. onto_sound x (slice_split is_separator xs) within here rest
    ]) refl

-- it stands alone, if it is a word
stands : (word : List ℕ) → Sound word → 0 < length word → StandsAlone word
stands word sound some = record {
  alone = ap words_in (uncommented_all word sound.said) ∙ ap (filter is_word) (slice_split_none is_separator word sound.joined) ∙ kept word [] some;
}

pieces_stand : (pieces : List (List ℕ)) → All Sound pieces → All StandsAlone (filter is_word pieces)
pieces_stand [] all = All-nil StandsAlone
pieces_stand (piece ∷ pieces) all =
    let rest : All StandsAlone (filter is_word pieces) = pieces_stand pieces (All-tail Sound piece pieces all) in
    let here : Sound piece = All-head Sound piece pieces all in
    let P : Bool → Type 0 = λ b. ltb 0 (length piece) ≡ b → All StandsAlone (cond b (piece ∷ filter is_word pieces) (filter is_word pieces)) in
    (elim (ltb 0 (length piece)) as P [
      | true ↦ λ is.
          let some : 0 < length piece = grind (arith, nat_tests) in
          All-cons StandsAlone piece (filter is_word pieces) (stands piece here some) rest
      | false ↦ λ none. rest
    ]) refl

pub words_stand : (text : List ℕ) → uncommented text ≡ text → All StandsAlone (words_in text)
words_stand text whole = pieces_stand (slice_split is_separator text) (pieces_sound text (no_comment text whole))

-- so do those of a line
pub front_stands : (line text : List ℕ) (n : ℕ) → n ≡ position_or_len is_comment line → text ≡ take n line → All StandsAlone (words_in text)
front_stands line text n is front =
    let whole : text ≡ uncommented line = front ∙ ap (λ (m : ℕ). take m line) is in
    words_stand text (ap uncommented whole ∙ uncommented_again line ∙ sym whole)

-- and those behind one of them
pub rest_stands : (words behind : List (List ℕ)) (word : List ℕ) → words ≡ word ∷ behind → All StandsAlone words → All StandsAlone behind
rest_stands words behind word is all = All-tail StandsAlone word behind (subst (All StandsAlone) is all)

pub first_stands : (words behind : List (List ℕ)) (word : List ℕ) → words ≡ word ∷ behind → All StandsAlone words → StandsAlone word
first_stands words behind word is all = All-head StandsAlone word behind (subst (All StandsAlone) is all)

-- No more words than bytes, but for one.

pub few_words : (line : List ℕ) → length (words_of line) ≤ length line + 1
few_words line =
    let few = words_few (uncommented line) in
    let short = length-take (position_or_len is_comment line) line in
    omega (arith, few, short)

-- A plain line, and the newline behind it.

is_so : (byte : ℕ) → is_no_plain byte ≡ false → is_plain byte ≡ true
is_so byte is = grind (arith, nat_tests)

is_no_newline : (byte : ℕ) → is_plain byte ≡ true → is_newline byte ≡ false
is_no_newline byte is = grind (arith, nat_tests)

may_stand : (byte : ℕ) → is_plain byte ≡ true → is_allowed byte ≡ true
may_stand byte is = grind (arith, nat_tests)

is_uncut : (byte : ℕ) → is_plain byte ≡ true → is_comment byte ≡ false
is_uncut byte is = grind (arith, nat_tests)

-- the bytes before the first that is not plain
plain_at : (rest : List ℕ) (k d : ℕ) → k < position_or_len is_no_plain rest → is_plain (get_or rest k d) ≡ true
plain_at rest k d before = is_so (get_or rest k d) (fails_before_first is_no_plain rest k d before)

plain_front : (rest line : List ℕ) (size : ℕ) → size ≡ position_or_len is_no_plain rest → line ≡ take size rest → All (λ byte. is_plain byte ≡ true) line
plain_front rest line size is front =
    let least = length-take size rest in
    let long : length line ≡ length (take size rest) = ap length front in
    λ k d inside.
    let before : k < size = omega (arith, least, long) in
    let within : k < position_or_len is_no_plain rest = omega (arith, is) in
    rw front (rw (get_or-take size rest k d before) (plain_at rest k d within))

pub plain_is : (rest line : List ℕ) (size : ℕ) → size ≡ position_or_len is_no_plain rest → size ≤ length rest → line ≡ take size rest → size ≤ 256 → IsPlain line
plain_is rest line size is inside front short =
    let all = plain_front rest line size is front in
    let long : length line ≡ size = ap length front ∙ length-take-le size rest inside in
    let within : ltb 256 (length line) ≡ false = grind (arith, nat_tests) in
    let allowed : list_all is_allowed line ≡ true = list_all-from_AllPass is_allowed line (λ k d here. may_stand (get_or line k d) (all k d here)) in
    record {
      readable = rw (within, allowed_line line allowed) refl;
      whole = uncommented_all line (λ k d here. is_uncut (get_or line k d) (all k d here));
      short = omega (arith, long);
    }

-- Bytes that are plain, and those behind them.

stops_not : (xs : List ℕ) → list_all is_plain xs ≡ true → position_or_len is_no_plain xs ≡ length xs
stops_not [] all = refl
stops_not (x ∷ xs) all =
    let parts = and_parts (is_plain x) (list_all is_plain xs) all in
    let rest = stops_not xs parts.1 in
    rw parts.0 (omega (arith, rest))

in_two : (left these others : List ℕ) (i : ℕ) → these ≡ take i left → others ≡ drop i left → list_all is_plain these ≡ true → position_or_len is_no_plain left ≡ length these + position_or_len is_no_plain others
in_two left these others i front back all =
    let whole : these ++ others ≡ left = ap (λ (l : List ℕ). l ++ others) front ∙ ap (λ (l : List ℕ). take i left ++ l) back ∙ take-append-drop i left in
    ap (position_or_len is_no_plain) (sym whole) ∙ prefix_len-append (λ x. not (is_no_plain x)) these others
    ∙ ap (λ (b : Bool). cond b (length these + position_or_len is_no_plain others) (position_or_len is_no_plain these)) (eq-eqb (position_or_len is_no_plain these) (length these) (stops_not these all))

-- so many more are plain
pub plain_later : (text left these others : List ℕ) (i : ℕ) → these ≡ take i left → others ≡ drop i left → i ≤ length left → list_all is_plain these ≡ true → length these ≡ i → length left ≤ length text
    → (length text - length left) + position_or_len is_no_plain left ≡ position_or_len is_no_plain text → (length text - length others) + position_or_len is_no_plain others ≡ position_or_len is_no_plain text
plain_later text left these others i front back within all few low so_far =
    let here = in_two left these others i front back all in
    let rest : length others ≡ length left - i = ap length back ∙ length-drop i left in
    omega (arith, here, rest, few, low, within, so_far)

zero_more : (n : ℕ) → n + 0 ≡ n
zero_more n = omega arith

-- such a line of a text, and the lines behind it
pub plain_step : (text rest line from behind : List ℕ) (at size stop : ℕ) → at ≤ length text → rest ≡ drop at text → size ≡ position_or_len is_no_plain rest → size ≤ length rest
    → line ≡ take size rest → from ≡ drop size rest → from ≡ stop ∷ behind → stop ≡ 10 → lines_of (drop at text) ≡ line ∷ lines_of (drop (at + size + 1) text)
plain_step text rest line from behind at size stop within is cut inside front back begins newline =
    let left : length from ≡ length rest - size = ap length back ∙ length-drop size rest in
    let more : length from ≡ length (stop ∷ behind) = ap length begins in
    let all = length-drop at text in
    let size_all : length rest ≡ length (drop at text) = ap length is in
    let here : get_or rest size 0 ≡ 10 =
    sym (ap (λ (n : ℕ). get_or rest n 0) (zero_more size)) ∙ sym (get_or-drop size rest 0 0) ∙ ap (λ (l : List ℕ). get_or l 0 0) (sym back ∙ begins) ∙ newline in
    let place : position_or_len is_newline rest ≡ size =
    position_or_len_is is_newline rest size 0 inside
    (λ k before. is_no_newline (get_or rest k 0) (plain_at rest k 0 (omega (arith, cut))))
    (λ less. rw here refl) in
    let step = next_step text at size (omega (arith, left, more, all, size_all)) (sym place ∙ ap (position_or_len is_newline) is) in
    let this : take size (drop at text) ≡ line = ap (take size) (sym is) ∙ sym front in
    step ∙ ap (λ (l : List ℕ). l ∷ lines_of (drop (at + size + 1) text)) this
