-- A text that is cut behind a newline: its lines are those of the parts.
use Rattle.std.proofs.Common.{◌≡◌, ℕ, suc, ◌+◌, ◌-◌, ◌<◌, ◌≤◌, Bool, true, false, not, cond, eqb, ltb, List, [], ◌∷◌, ◌++◌, append_assoc, append-nil, length, take, drop, get_or, Option, Some, None, codes, inl, inr, refl, sym, ap, subst, ◌∙◌, arith}
use Rattle.std.specs.List.{position_or_len, slice_split, slice_range, before_first, after_first, list_all}
use Rattle.std.proofs.lemmas.Bool.{cases_lt}
use Rattle.std.proofs.lemmas.Bool.Decides.{nat_tests}
use Rattle.std.proofs.lemmas.List.{take_all, drop_all, length-take-le, length-drop}
use Rattle.std.proofs.lemmas.List.Sums.{split_at_first, fails_before_first, prefix_len-le-length}
use Rattle.std.proofs.lemmas.List.Splits.{slice_split-cons_yes, slice_split-cons_no}
use Rattle.std.proofs.lemmas.List.Folds.{drop_split}
use Rattle.std.specs.Str.{bytes_eq}
use Rattle.std.proofs.Math.Seq.{take-append-add}
use Rattle.board_text.specs.Lines.{is_newline, without_empty_end, lines_of}
use Rattle.board_text.proofs.CutLemmas.{line_step}
use Rattle.board_roundtrip.specs.Cuts.{IsWholeTo}
use Rattle.board_roundtrip.proofs.words.Laws.{split_line, ends_behind}

-- the lines of a text that is whole, and of one behind it, are those of both
abbrev pub IsWhole : List ℕ → Type 0
IsWhole text = (more : List ℕ) → lines_of (text ++ more) ≡ lines_of text ++ lines_of more

pub empty_is_whole : IsWhole []
empty_is_whole more = refl

-- the first line of a text and its newline, where it has one
abbrev first_size : List ℕ → ℕ
first_size text = position_or_len is_newline text + 1

abbrev NoNewline : List ℕ → Type 0
NoNewline line = list_all (λ byte. not (is_newline byte)) line ≡ true

-- a line and its newline at the front of a text, and so long a line
record Cut (text : List ℕ) (long : ℕ) : Type 0 where
  line : List ℕ
  none : NoNewline line
  piece : take (long + 1) text ≡ line ++ 10 ∷ []
  front : take long text ≡ line

longer : (byte : ℕ) (bytes : List ℕ) (long : ℕ) → not (is_newline byte) ≡ true → Cut bytes long → Cut (byte ∷ bytes) (1 + long)
longer byte bytes long other cut =
    let none = cut.none in
    let both : NoNewline (byte ∷ cut.line) = rw other none in
    let size : 1 + long + 1 ≡ suc (long + 1) = omega arith in
    let less : 1 + long ≡ suc long = omega arith in
    record {
      line = byte ∷ cut.line;
      none = both;
      piece = ap (λ (n : ℕ). take n (byte ∷ bytes)) size ∙ ap (λ (l : List ℕ). byte ∷ l) cut.piece;
      front = ap (λ (n : ℕ). take n (byte ∷ bytes)) less ∙ ap (λ (l : List ℕ). byte ∷ l) cut.front;
    }

cut_line : (text : List ℕ) → position_or_len is_newline text < length text → Cut text (position_or_len is_newline text)
cut_line [] inside = absurd (omega arith)
cut_line (byte ∷ bytes) inside =
    let P : Bool → Type 0 = λ b. not (is_newline byte) ≡ b → cond b (1 + position_or_len is_newline bytes) 0 < length (byte ∷ bytes) → Cut (byte ∷ bytes) (cond b (1 + position_or_len is_newline bytes) 0) in
    (elim (not (is_newline byte)) as P [
      | true ↦ λ other within. longer byte bytes (position_or_len is_newline bytes) other (cut_line bytes (omega (arith, within)))
      | false ↦ λ newline within.
          let is : byte ≡ 10 = grind (arith, nat_tests) in
          record { line = []; none = refl; piece = ap (λ (n : ℕ). n ∷ []) is; front = refl }
    ]) refl inside

-- a line and its newline before more
line_then : (line more : List ℕ) → NoNewline line → lines_of (line ++ 10 ∷ more) ≡ line ∷ lines_of more
line_then line more none = let split = split_line line more none in let ends = ends_behind line more in cc

line_is_whole : (text : List ℕ) → position_or_len is_newline text < length text → (lines_of (take (first_size text) text) ≡ take (position_or_len is_newline text) text ∷ []) × IsWhole (take (first_size text) text)
line_is_whole text inside =
    let cut = cut_line text inside in
    let piece = cut.piece in
    let front = cut.front in
    let alone = line_then cut.line [] cut.none in
    ((let e = alone in cc), λ more. let whole = append_assoc cut.line (10 ∷ []) more in let both = line_then cut.line more cut.none in cc)

-- a text without a newline is one line
last_line : (text : List ℕ) → 0 < length text → length text ≤ position_or_len is_newline text → lines_of (take (first_size text) text) ≡ take (position_or_len is_newline text) text ∷ []
last_line text some all =
    let step = line_step text some in
    let whole = take_all (first_size text) text (omega (arith, all)) in
    let behind = drop_all (first_size text) text (omega (arith, all)) in
    ap lines_of whole ∙ step ∙ ap (λ (l : List ℕ). take (position_or_len is_newline text) text ∷ lines_of l) behind

-- one more line behind a whole text
pub one_more : (text rest : List ℕ) → IsWhole text → 0 < length rest → lines_of (text ++ take (first_size rest) rest) ≡ lines_of text ++ take (position_or_len is_newline rest) rest ∷ []
one_more text rest whole some =
    let here = whole (take (first_size rest) rest) in
    let last : lines_of (take (first_size rest) rest) ≡ take (position_or_len is_newline rest) rest ∷ [] =
    elim (cases_lt (position_or_len is_newline rest) (length rest)) [
      | inl inside ↦ (line_is_whole rest inside).0
      | inr all ↦ last_line rest some all
    ] in
    cc

pub stays_whole : (text rest : List ℕ) → IsWhole text → position_or_len is_newline rest < length rest → IsWhole (text ++ take (first_size rest) rest)
stays_whole text rest whole inside more =
    let last = line_is_whole rest inside in
    let outer = append_assoc text (take (first_size rest) rest) more in
    let first = whole (take (first_size rest) rest ++ more) in
    let second = last.1 more in
    let third = whole (take (first_size rest) rest) in
    let lines = append_assoc (lines_of text) (lines_of (take (first_size rest) rest)) (lines_of more) in
    cc

-- a part of a text, and one more line

slice_more : (text : List ℕ) (from at more : ℕ) → from ≤ at → at ≤ length text → slice_range text from (at + more) ≡ slice_range text from at ++ take more (drop at text)
slice_more text from at more order within =
    let rest = length-drop from text in
    let long : length (slice_range text from at) ≡ at - from = length-take-le (at - from) (drop from text) (omega (arith, rest)) in
    let size : at + more - from ≡ length (slice_range text from at) + more = omega (arith, long) in
    ap (λ (n : ℕ). take n (drop from text)) size ∙ ap (take (length (slice_range text from at) + more)) (drop_split text from at order) ∙ take-append-add (slice_range text from at) (drop at text) more

-- the next line of a text, its length, and where the newline stands
next_is : (text line : List ℕ) (at next : ℕ) → at < length text → lines_of (drop at text) ≡ line ∷ lines_of (drop next text) → (take (position_or_len is_newline (drop at text)) (drop at text) ≡ line) × (position_or_len is_newline (drop at text) ≡ length line)
next_is text line at next inside lines =
    let rest = length-drop at text in
    let step = line_step (drop at text) (omega (arith, rest)) in
    let front : take (position_or_len is_newline (drop at text)) (drop at text) ≡ line = cc in
    let most : position_or_len is_newline (drop at text) ≤ length (drop at text) = prefix_len-le-length _ (drop at text) in
    let long = length-take-le (position_or_len is_newline (drop at text)) (drop at text) most in
    let same = ap length front in
    (front, omega (arith, long, same))

-- the lines up to behind the next line, and whether they are whole
pub one_line_more : (text line : List ℕ) (from at next : ℕ) → from ≤ at → at < length text → IsWholeTo text from at
    → lines_of (drop at text) ≡ line ∷ lines_of (drop next text) → next ≡ at + length line + 1
    → (lines_of (slice_range text from next) ≡ lines_of (slice_range text from at) ++ line ∷ []) × IsWholeTo text from next
one_line_more text line from at next order inside whole lines is =
    let here = next_is text line at next inside lines in
    let front = here.0 in
    let place = here.1 in
    let rest = length-drop at text in
    let size : next ≡ at + first_size (drop at text) = omega (arith, place) in
    let part : slice_range text from next ≡ slice_range text from at ++ take (first_size (drop at text)) (drop at text) =
    ap (slice_range text from) size ∙ slice_more text from at (first_size (drop at text)) order (omega arith) in
    let more = one_more (slice_range text from at) (drop at text) (whole (omega arith)) (omega (arith, rest)) in
    let all : lines_of (slice_range text from next) ≡ lines_of (slice_range text from at) ++ line ∷ [] = cc in
    (all, λ within. subst IsWhole (sym part) (stays_whole (slice_range text from at) (drop at text) (whole (omega arith)) (omega (arith, rest, place))))
