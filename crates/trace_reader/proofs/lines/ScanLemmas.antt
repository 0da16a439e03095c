-- The first line of a text, word by word.
use Rattle.std.proofs.Common.{◌≡◌, ℕ, suc, ◌+◌, ◌<◌, ◌≤◌, Bool, true, false, ltb, eqb, List, [], ◌∷◌, ◌++◌, append_assoc, append-nil, length, take, drop, refl, ap, sym, ◌∙◌, arith}
use Rattle.std.specs.Prelude.{◌&&◌}
use Rattle.std.specs.List.{position_or_len, list_all, onto_first}
use Rattle.std.proofs.lemmas.Bool.{false≢true}
use Rattle.std.proofs.lemmas.Bool.Decides.{nat_tests}
use Rattle.std.proofs.lemmas.List.{length-append, length-take-le, take-append-drop}
use Rattle.std.proofs.lemmas.List.Folds.{list_all-append}
use Rattle.std.proofs.lemmas.List.Splits.{slice_split-cons_no}
use Rattle.board_text.specs.Lines.{is_newline}
use Rattle.trace_reader.specs.lines.Lines.{is_space, pieces_of, has_bytes, is_printing, is_unreadable, is_regular}
use Rattle.trace_reader.specs.lines.Scanned.{first_line, in_word, ends_word, BeginsWith}

-- how many bytes stand before the first newline
abbrev pub line_length : List ℕ → ℕ
line_length text = position_or_len is_newline text

-- One byte before the rest of a line.

length_more : (x : ℕ) (xs : List ℕ) → is_newline x ≡ false → line_length (x ∷ xs) ≡ 1 + line_length xs
length_more x xs goes = rw goes refl

first_more : (x : ℕ) (xs : List ℕ) → is_newline x ≡ false → first_line (x ∷ xs) ≡ x ∷ first_line xs
first_more x xs goes =
    let one : 1 + line_length xs ≡ suc (line_length xs) = omega arith in
    rw (length_more x xs goes, one) refl

-- A word before the rest of a line.

both_true : (a b : Bool) → (a && b) ≡ true → (a ≡ true) × (b ≡ true)
both_true true true e = (refl, refl)
both_true true false e = absurd (false≢true e)
both_true false b e = absurd (false≢true e)

word_goes : (x : ℕ) → in_word x ≡ true → is_newline x ≡ false
word_goes x word = grind (arith, nat_tests)

word_apart : (x : ℕ) → in_word x ≡ true → is_space x ≡ false
word_apart x word = grind (arith, nat_tests)

word_prints : (x : ℕ) → in_word x ≡ true → is_printing x ≡ true
word_prints x word = grind (arith, nat_tests)

length_word : (w xs : List ℕ) → list_all in_word w ≡ true → line_length (w ++ xs) ≡ length w + line_length xs
length_word [] xs all = omega arith
length_word (x ∷ w) xs all =
    let parts = both_true (in_word x) (list_all in_word w) all in
    let rest = length_word w xs parts.1 in
    let here = length_more x (w ++ xs) (word_goes x parts.0) in
    omega (arith, rest, here)

first_word_of : (w xs : List ℕ) → list_all in_word w ≡ true → first_line (w ++ xs) ≡ w ++ first_line xs
first_word_of [] xs all = refl
first_word_of (x ∷ w) xs all =
    let parts = both_true (in_word x) (list_all in_word w) all in
    first_more x (w ++ xs) (word_goes x parts.0) ∙ ap (λ (l : List ℕ). x ∷ l) (first_word_of w xs parts.1)

prints : (w : List ℕ) → list_all in_word w ≡ true → list_all is_printing w ≡ true
prints [] all = refl
prints (x ∷ w) all =
    let parts = both_true (in_word x) (list_all in_word w) all in
    rw (word_prints x parts.0) (prints w parts.1)

-- a word and a space are the first piece
pieces_word : (w xs : List ℕ) → list_all in_word w ≡ true → pieces_of (w ++ 32 ∷ xs) ≡ w ∷ pieces_of xs
pieces_word [] xs all = refl
pieces_word (x ∷ w) xs all =
    let parts = both_true (in_word x) (list_all in_word w) all in
    slice_split-cons_no is_space x (w ++ 32 ∷ xs) (word_apart x parts.0) ∙ ap (onto_first x) (pieces_word w xs parts.1)

-- and a word alone the only one
pieces_end : (w : List ℕ) → list_all in_word w ≡ true → pieces_of w ≡ w ∷ []
pieces_end [] all = refl
pieces_end (x ∷ w) all =
    let parts = both_true (in_word x) (list_all in_word w) all in
    slice_split-cons_no is_space x w (word_apart x parts.0) ∙ ap (onto_first x) (pieces_end w parts.1)

-- what stands before the first byte that ends a word is one
word_more : (x : ℕ) (xs : List ℕ) (b : Bool) → in_word x ≡ b → list_all in_word (take (position_or_len ends_word xs) xs) ≡ true → list_all in_word (take (position_or_len ends_word (x ∷ xs)) (x ∷ xs)) ≡ true
word_more x xs true word rest =
    let one : 1 + position_or_len ends_word xs ≡ suc (position_or_len ends_word xs) = omega arith in
    rw (word, one, word) rest
word_more x xs false ends rest = rw ends refl

word_of : (xs : List ℕ) → list_all in_word (take (position_or_len ends_word xs) xs) ≡ true
word_of [] = refl
word_of (x ∷ xs) = word_more x xs (in_word x) refl (word_of xs)

-- the word of a text that was cut there
pub begins_with : (text word from behind : List ℕ) (stop n : ℕ) (empty : Bool) → n ≡ position_or_len ends_word text → word ≡ take n text → from ≡ drop n text → from ≡ stop ∷ behind → empty ≡ eqb (length word) 0 → empty ≡ false → BeginsWith text word stop behind
begins_with text word from behind stop n empty is front back cut told some =
    let here : eqb (length word) 0 ≡ false = sym told ∙ some in
    record {
      whole = sym (take-append-drop n text) ∙ ap (λ (l : List ℕ). l ++ drop n text) (sym front) ∙ ap (λ (l : List ℕ). word ++ l) (sym back ∙ cut);
      printing = ap (list_all in_word) (front ∙ ap (λ (m : ℕ). take m text) is) ∙ word_of text;
      filled = rw here refl;
    }

-- what stands behind a word is shorter
pub begins_shorter : (text word behind : List ℕ) (stop : ℕ) → BeginsWith text word stop behind → length behind < length text
begins_shorter text word behind stop begins =
    let size : length text ≡ length word + length (stop ∷ behind) = ap length begins.whole ∙ length-append word (stop ∷ behind) in
    omega (arith, size)

-- one word more that has bytes
regular_more : (words more : List (List ℕ)) (word : List ℕ) → more ≡ words ++ word ∷ [] → is_regular words ≡ true → has_bytes word ≡ true → is_regular more ≡ true
regular_more words more word is regular filled =
    ap is_regular is ∙ list_all-append has_bytes words (word ∷ []) ∙ rw (regular, filled) refl

-- The words so far of the first line of a text, and the text that is left.
pub record Scans (text rest : List ℕ) (words : List (List ℕ)) : Type 0 where
  pub whole : words ++ pieces_of (first_line rest) ≡ pieces_of (first_line text)
  pub regular : is_regular words ≡ true
  pub printing : list_all is_printing (first_line text) ≡ list_all is_printing (first_line rest)
  pub passed : line_length text + length rest ≡ line_length rest + length text

pub scans_none : (text : List ℕ) → Scans text text []
scans_none text = record { whole = refl; regular = refl; printing = refl; passed = refl }

-- a word, and a space
pub scans_on : (text rest word behind : List ℕ) (words more : List (List ℕ)) (stop : ℕ) → Scans text rest words → BeginsWith rest word stop behind → stop ≡ 32 → more ≡ words ++ word ∷ [] → Scans text behind more
scans_on text rest word behind words more stop so_far begins space is =
    let all : list_all in_word word ≡ true = begins.printing in
    let here : rest ≡ word ++ 32 ∷ behind = begins.whole ∙ ap (λ (n : ℕ). word ++ n ∷ behind) space in
    let first : first_line rest ≡ word ++ 32 ∷ first_line behind = ap first_line here ∙ first_word_of word (32 ∷ behind) all ∙ ap (λ (l : List ℕ). word ++ l) (first_more 32 behind refl) in
    let cut : pieces_of (first_line rest) ≡ word ∷ pieces_of (first_line behind) = ap pieces_of first ∙ pieces_word word (first_line behind) all in
    let prints_on : list_all is_printing (first_line rest) ≡ list_all is_printing (first_line behind) = ap (list_all is_printing) first ∙ list_all-append is_printing word (32 ∷ first_line behind) ∙ rw (prints word all) refl in
    let long : line_length rest ≡ length word + (1 + line_length behind) = ap line_length here ∙ length_word word (32 ∷ behind) all ∙ ap (λ (n : ℕ). length word + n) (length_more 32 behind refl) in
    let size : length rest ≡ length word + length (32 ∷ behind) = ap length here ∙ length-append word (32 ∷ behind) in
    record {
      whole = ap (λ (ws : List (List ℕ)). ws ++ pieces_of (first_line behind)) is ∙ append_assoc words (word ∷ []) (pieces_of (first_line behind)) ∙ ap (λ (ws : List (List ℕ)). words ++ ws) (sym cut) ∙ so_far.whole;
      regular = regular_more words more word is so_far.regular begins.filled;
      printing = so_far.printing ∙ prints_on;
      passed = omega (arith, so_far.passed, long, size);
    }

-- The first line has a newline and is readable, and these are its words, between single spaces.
pub record IsScanned (text line : List ℕ) (words : List (List ℕ)) : Type 0 where
  pub first : line ≡ first_line text
  pub shorter : length line < length text
  pub readable : is_unreadable line ≡ false
  pub pieces : words ≡ pieces_of line
  pub regular : is_regular (pieces_of line) ≡ true

-- a word, and the newline, where the line is no longer than 256 bytes
pub scans_end : (text rest word behind line : List ℕ) (words more : List (List ℕ)) (stop size : ℕ) → Scans text rest words → BeginsWith rest word stop behind → stop ≡ 10 → more ≡ words ++ word ∷ [] → line ≡ take size text → size + length behind + 1 ≡ length text → size ≤ 256 → IsScanned text line more
scans_end text rest word behind line words more stop size so_far begins newline is front left short =
    let all : list_all in_word word ≡ true = begins.printing in
    let here : rest ≡ word ++ 10 ∷ behind = begins.whole ∙ ap (λ (n : ℕ). word ++ n ∷ behind) newline in
    let first : first_line rest ≡ word ++ [] = ap first_line here ∙ first_word_of word (10 ∷ behind) all in
    let last : first_line rest ≡ word = first ∙ append-nil word in
    let cut : pieces_of (first_line rest) ≡ word ∷ [] = ap pieces_of last ∙ pieces_end word all in
    let long : line_length rest ≡ length word + 0 = ap line_length here ∙ length_word word (10 ∷ behind) all in
    let rest_size : length rest ≡ length word + length (10 ∷ behind) = ap length here ∙ length-append word (10 ∷ behind) in
    let place : size ≡ line_length text = omega (arith, so_far.passed, long, rest_size, left) in
    let is_line : line ≡ first_line text = front ∙ ap (λ (n : ℕ). take n text) place in
    let line_size : length line ≡ size = ap length front ∙ length-take-le size text (omega (arith, left)) in
    let few : length line ≤ 256 = omega (arith, line_size, short) in
    let within : ltb 256 (length line) ≡ false = grind (arith, nat_tests) in
    let all_print : list_all is_printing line ≡ true = ap (list_all is_printing) is_line ∙ so_far.printing ∙ ap (list_all is_printing) last ∙ prints word all in
    let whole : more ≡ pieces_of line = is ∙ ap (λ (ws : List (List ℕ)). words ++ ws) (sym cut) ∙ so_far.whole ∙ ap pieces_of (sym is_line) in
    record {
      first = is_line;
      shorter = omega (arith, line_size, left);
      readable = rw (within, all_print) refl;
      pieces = whole;
      regular = ap is_regular (sym whole) ∙ regular_more words more word is so_far.regular begins.filled;
    }
