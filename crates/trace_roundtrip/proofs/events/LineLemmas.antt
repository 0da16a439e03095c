-- A line of words, as it is printed, is cut into these words, and read by its kind.
use Rattle.std.proofs.Common.{◌≡◌, ℕ, ◌≤◌, Bool, true, false, cond, ltb, eqb, List, [], ◌∷◌, ◌++◌, length, Some, Ok, refl, ap, ◌∙◌, arith}
use Rattle.std.specs.Prelude.{codes}
use Rattle.std.specs.List.{list_all, slice_split}
use Rattle.std.specs.Str.{bytes_eq}
use Rattle.std.proofs.lemmas.Bool.{and_parts, le-ltb}
use Rattle.std.proofs.lemmas.Bool.Decides.{nat_tests}
use Rattle.std.proofs.lemmas.List.{length-append, append-nil}
use Rattle.std.proofs.lemmas.List.Folds.{list_all-append}
use Rattle.std.proofs.lemmas.List.Splits.{slice_split-cons_yes, slice_split-cons_no}
use Rattle.board_model.specs.declared.board.Board.{Board}
use Rattle.history_model.specs.declared.event.Event.{Event}
use Rattle.board_printer.specs.Lines.{Line, spaced}
use Rattle.board_roundtrip.specs.words.Printed.{is_word_byte, is_word, has_words_alone, joined}
use Rattle.board_roundtrip.proofs.lines.AllowedTexts.{width}
use Rattle.trace_reader.specs.declared.lines.kind.EventWord.{EventWord}
use Rattle.trace_reader.specs.declared.lines.line.TraceLine.TheVariants.{Happens}
use Rattle.trace_reader.specs.lines.Events.{kind_of, has_words_for, event_in}
use Rattle.trace_reader.specs.lines.Lines.{is_space, second_word, kind_by, is_printing, is_regular, happens, end_line, event_line_by, pieces_line, line_of}

-- no byte of a word is a space
not_space : (byte : ℕ) → is_word_byte byte ≡ true → is_space byte ≡ false
not_space byte word = grind (arith, nat_tests)

-- a word before a space is cut off
split_word : (word rest : List ℕ) → list_all is_word_byte word ≡ true → slice_split is_space (word ++ 32 ∷ rest) ≡ word ∷ slice_split is_space rest
split_word [] rest good = slice_split-cons_yes is_space 32 rest refl
split_word (byte ∷ bytes) rest good =
    let parts = and_parts (is_word_byte byte) (list_all is_word_byte bytes) good in
    let later = split_word bytes rest parts.1 in
    let here = slice_split-cons_no is_space byte (bytes ++ 32 ∷ rest) (not_space byte parts.0) in
    cc

-- a last word is one piece
split_last : (word : List ℕ) → list_all is_word_byte word ≡ true → slice_split is_space word ≡ word ∷ []
split_last [] good = refl
split_last (byte ∷ bytes) good =
    let parts = and_parts (is_word_byte byte) (list_all is_word_byte bytes) good in
    let later = split_last bytes parts.1 in
    let here = slice_split-cons_no is_space byte bytes (not_space byte parts.0) in
    cc

-- the bytes of a word
pub bytes_of : (word : List ℕ) → is_word word ≡ true → list_all is_word_byte word ≡ true
bytes_of word good = (and_parts (ltb 0 (length word)) (list_all is_word_byte word) good).1

-- words with single spaces between them are cut into the words
split_words : (word : List ℕ) (words : Line) → list_all is_word_byte word ≡ true → has_words_alone words ≡ true → slice_split is_space (word ++ spaced words []) ≡ word ∷ words
split_words word [] good more = let all = append-nil word in let alone = split_last word good in cc
split_words word (next ∷ words) good more =
    let parts = and_parts (is_word next) (has_words_alone words) more in
    let later = split_words next words (bytes_of next parts.0) parts.1 in
    let here = split_word word (next ++ spaced words []) good in
    cc

-- a byte of a word is printing
byte_printing : (byte : ℕ) → is_word_byte byte ≡ true → is_printing byte ≡ true
byte_printing byte word = grind (arith, nat_tests)

-- the bytes of a word are printing
word_printing : (word : List ℕ) → list_all is_word_byte word ≡ true → list_all is_printing word ≡ true
word_printing [] good = refl
word_printing (byte ∷ bytes) good =
    let parts = and_parts (is_word_byte byte) (list_all is_word_byte bytes) good in
    rw (byte_printing byte parts.0) (word_printing bytes parts.1)

-- so are those of words with spaces before them
spaced_printing : (words : Line) → has_words_alone words ≡ true → list_all is_printing (spaced words []) ≡ true
spaced_printing [] good = refl
spaced_printing (word ∷ words) good =
    let parts = and_parts (is_word word) (has_words_alone words) good in
    let both = list_all-append is_printing word (spaced words []) in
    let here = word_printing word (bytes_of word parts.0) in
    let later = spaced_printing words parts.1 in
    cc

-- they are as many as the words have, and one for each
length-spaced : (words : Line) → length (spaced words []) ≡ width words
length-spaced [] = refl
length-spaced (word ∷ words) =
    let others = length-spaced words in
    let sum = length-append word (spaced words []) in
    omega (arith, others, sum)

-- a line of words that is not too long is read by these words
pub line_cut : (board : Board) (word : List ℕ) (words : Line) → has_words_alone (word ∷ words) ≡ true → width (word ∷ words) ≤ 257 → line_of board (joined (word ∷ words)) ≡ pieces_line board (word ∷ words)
line_cut board word words good few =
    let parts = and_parts (is_word word) (has_words_alone words) good in
    let bytes = bytes_of word parts.0 in
    let sum = length-append word (spaced words []) in
    let size = length-spaced words in
    let short : ltb 256 (length (word ++ spaced words [])) ≡ false = le-ltb _ _ (omega (arith, sum, size)) in
    let first = word_printing word bytes in
    let later = spaced_printing words parts.1 in
    let both = list_all-append is_printing word (spaced words []) in
    let printing : list_all is_printing (word ++ spaced words []) ≡ true = cc in
    let cut = split_words word words bytes parts.1 in
    rw (short, printing) (ap (pieces_line board) cut)

-- a word has a byte
pub word_some : (word : List ℕ) → is_word word ≡ true → eqb (length word) 0 ≡ false
word_some word good =
    let parts = and_parts (ltb 0 (length word)) (list_all is_word_byte word) good in
    grind (arith, nat_tests, parts.0)

-- words stand between single spaces
words_regular : (words : Line) → has_words_alone words ≡ true → is_regular words ≡ true
words_regular [] good = refl
words_regular (word ∷ words) good =
    let parts = and_parts (is_word word) (has_words_alone words) good in
    rw (word_some word parts.0) (words_regular words parts.1)

-- the words of a line of a kind are read as the event of that kind
pub event_by_kind : (board : Board) (bus word : List ℕ) (rest : Line) (kind : EventWord) (event : Event) → has_words_alone (bus ∷ word ∷ rest) ≡ true → width (bus ∷ word ∷ rest) ≤ 257 → bytes_eq bus (codes "end") ≡ false → kind_of word ≡ Some kind → has_words_for kind (bus ∷ word ∷ rest) ≡ true → event_in board kind (bus ∷ word ∷ rest) ≡ Some event → line_of board (joined (bus ∷ word ∷ rest)) ≡ Ok (Happens event)
event_by_kind board bus word rest kind event good few no_end told many read =
    let words : Line = bus ∷ word ∷ rest in
    let parts = and_parts (is_word bus) (has_words_alone (word ∷ rest)) good in
    let next = and_parts (is_word word) (has_words_alone rest) parts.1 in
    let second : second_word words ≡ Some word = rw (word_some bus parts.0, word_some word next.0) refl in
    let kind_told : kind_by (second_word words) ≡ Some kind = ap kind_by second ∙ told in
    let regular : is_regular words ≡ true = words_regular words good in
    let one : pieces_line board words ≡ event_line_by board words (kind_by (second_word words)) = ap (λ (b : Bool). cond b (end_line words) (event_line_by board words (kind_by (second_word words)))) no_end in
    let two : event_line_by board words (kind_by (second_word words)) ≡ event_line_by board words (Some kind) = ap (event_line_by board words) kind_told in
    let three : event_line_by board words (Some kind) ≡ happens (event_in board kind words) = rw (regular, many) refl in
    line_cut board bus (word ∷ rest) good few ∙ one ∙ two ∙ three ∙ ap happens read
