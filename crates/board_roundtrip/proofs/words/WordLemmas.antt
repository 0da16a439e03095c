-- The words of a line that was printed, and the lines of a text.
use Rattle.std.proofs.Common.{◌≡◌, ℕ, Bool, true, false, cond, ltb, not, ◌||◌, List, [], ◌∷◌, ◌++◌, length, map, filter, take, refl, ap, ◌∙◌, ◌==◌, arith}
use Rattle.std.specs.List.{list_all, slice_split, before_first, position_or_len, onto_first}
use Rattle.std.proofs.lemmas.Bool.{and_parts}
use Rattle.std.proofs.Math.Seq.{take-length}
use Rattle.std.proofs.lemmas.List.{append-nil, append_assoc}
use Rattle.std.proofs.lemmas.List.Folds.{list_all-append}
use Rattle.std.proofs.lemmas.Bool.Decides.{nat_tests}
use Rattle.std.proofs.lemmas.List.Splits.{slice_split-cons_yes, slice_split-cons_no}
use Rattle.board_text.specs.Lines.{is_newline, is_allowed, without_empty_end, lines_of}
use Rattle.board_text.specs.Tokens.{is_separator, is_comment, words_of}
use Rattle.board_printer.specs.Lines.{Line, spaced, line_text, text_of}
use Rattle.board_roundtrip.specs.words.Printed.{is_word_byte, is_word, has_words_alone, joined}

-- a test that no byte of a word passes
abbrev NoneOf : (ℕ → Bool) → Type 0
NoneOf test = (byte : ℕ) → is_word_byte byte ≡ true → test byte ≡ false

not_separator : NoneOf is_separator
not_separator byte word = grind (arith, nat_tests)

not_comment : NoneOf is_comment
not_comment byte word = grind (arith, nat_tests)

not_newline : NoneOf is_newline
not_newline byte word = grind (arith, nat_tests)

-- splitting a word and what follows at an element that no byte of the word is
split_word : (test : ℕ → Bool) → NoneOf test → (word rest : List ℕ) (stop : ℕ) → list_all is_word_byte word ≡ true → test stop ≡ true → slice_split test (word ++ stop ∷ rest) ≡ word ∷ slice_split test rest
split_word test none [] rest stop word stops = slice_split-cons_yes test stop rest stops
split_word test none (byte ∷ bytes) rest stop word stops =
    let parts = and_parts (is_word_byte byte) (list_all is_word_byte bytes) word in
    let later = split_word test none bytes rest stop parts.1 stops in
    let here = slice_split-cons_no test byte (bytes ++ stop ∷ rest) (none byte parts.0) in
    cc

split_last : (test : ℕ → Bool) → NoneOf test → (word : List ℕ) → list_all is_word_byte word ≡ true → slice_split test word ≡ word ∷ []
split_last test none [] word = refl
split_last test none (byte ∷ bytes) word =
    let parts = and_parts (is_word_byte byte) (list_all is_word_byte bytes) word in
    let later = split_last test none bytes parts.1 in
    let here = slice_split-cons_no test byte bytes (none byte parts.0) in
    cc

bytes_of : (word : List ℕ) → is_word word ≡ true → list_all is_word_byte word ≡ true
bytes_of word good = (and_parts (ltb 0 (length word)) (list_all is_word_byte word) good).1

split_words : (word : List ℕ) (words : Line) → list_all is_word_byte word ≡ true → has_words_alone words ≡ true → slice_split is_separator (word ++ spaced words []) ≡ word ∷ words
split_words word [] good more = let all = append-nil word in let alone = split_last is_separator not_separator word good in cc
split_words word (next ∷ words) good more =
    let parts = and_parts (is_word next) (has_words_alone words) more in
    let later = split_words next words (bytes_of next parts.0) parts.1 in
    let here = split_word is_separator not_separator word (next ++ spaced words []) 32 good refl in
    cc

-- what stands before the first that passes, where none does
position_none : {X : Type 0} (test : X → Bool) (xs : List X) → list_all (λ x. not (test x)) xs ≡ true → position_or_len test xs ≡ length xs
position_none test [] none = refl
position_none test (x ∷ xs) none =
    let parts = and_parts (not (test x)) (list_all (λ y. not (test y)) xs) none in
    let later = position_none test xs parts.1 in
    rw (parts.0) (omega (arith, later))

before_none : {X : Type 0} (test : X → Bool) (xs : List X) → list_all (λ x. not (test x)) xs ≡ true → before_first test xs ≡ xs
before_none {X} test xs none = ap (λ (n : ℕ). take n xs) (position_none test xs none) ∙ take-length xs

-- the bytes of a line that was printed: those of words, and single spaces
abbrev is_line_byte : ℕ → Bool
is_line_byte byte = byte == 32 || is_word_byte byte

words_are_bytes : (word : List ℕ) → list_all is_word_byte word ≡ true → list_all is_line_byte word ≡ true
words_are_bytes [] good = refl
words_are_bytes (byte ∷ bytes) good =
    let parts = and_parts (is_word_byte byte) (list_all is_word_byte bytes) good in
    let here : is_line_byte byte ≡ true = grind (arith, nat_tests) in
    rw here (words_are_bytes bytes parts.1)

spaced_bytes : (words : Line) → has_words_alone words ≡ true → list_all is_line_byte (spaced words []) ≡ true
spaced_bytes [] good = refl
spaced_bytes (word ∷ words) good =
    let parts = and_parts (is_word word) (has_words_alone words) good in
    let both = list_all-append is_line_byte word (spaced words []) in
    let here = words_are_bytes word (bytes_of word parts.0) in
    let later = spaced_bytes words parts.1 in
    cc

joined_bytes : (words : Line) → has_words_alone words ≡ true → list_all is_line_byte (joined words) ≡ true
joined_bytes [] good = refl
joined_bytes (word ∷ words) good =
    let parts = and_parts (is_word word) (has_words_alone words) good in
    let both = list_all-append is_line_byte word (spaced words []) in
    let here = words_are_bytes word (bytes_of word parts.0) in
    let later = spaced_bytes words parts.1 in
    cc

-- a weaker test of each
weaker : (strong weak : ℕ → Bool) → ((byte : ℕ) → strong byte ≡ true → weak byte ≡ true) → (bytes : List ℕ) → list_all strong bytes ≡ true → list_all weak bytes ≡ true
weaker strong weak follows [] all = refl
weaker strong weak follows (byte ∷ bytes) all =
    let parts = and_parts (strong byte) (list_all strong bytes) all in
    rw (follows byte parts.0) (weaker strong weak follows bytes parts.1)

line_no_comment : (byte : ℕ) → is_line_byte byte ≡ true → not (is_comment byte) ≡ true
line_no_comment byte good = grind (arith, nat_tests)

line_no_newline : (byte : ℕ) → is_line_byte byte ≡ true → not (is_newline byte) ≡ true
line_no_newline byte good = grind (arith, nat_tests)

line_allowed : (byte : ℕ) → is_line_byte byte ≡ true → is_allowed byte ≡ true
line_allowed byte good = grind (arith, nat_tests)

pub joined_allowed : (words : Line) → has_words_alone words ≡ true → list_all is_allowed (joined words) ≡ true
joined_allowed words good = weaker is_line_byte is_allowed line_allowed (joined words) (joined_bytes words good)

-- words that have bytes are kept
kept : (words : Line) → has_words_alone words ≡ true → filter (λ piece. ltb 0 (length piece)) words ≡ words
kept [] good = refl
kept (word ∷ words) good =
    let parts = and_parts (is_word word) (has_words_alone words) good in
    let long = (and_parts (ltb 0 (length word)) (list_all is_word_byte word) parts.0).0 in
    let later = kept words parts.1 in
    cc

pub words_again : (words : Line) → has_words_alone words ≡ true → words_of (joined words) ≡ words
words_again [] good = refl
words_again (word ∷ words) good =
    let whole = before_none is_comment (joined (word ∷ words)) (weaker is_line_byte (λ byte. not (is_comment byte)) line_no_comment (joined (word ∷ words)) (joined_bytes (word ∷ words) good)) in
    let parts = and_parts (is_word word) (has_words_alone words) good in
    let split = split_words word words (bytes_of word parts.0) parts.1 in
    let all = kept (word ∷ words) good in
    cc

-- lines

spaced_end : (words : Line) (rest : List ℕ) → spaced words rest ≡ spaced words [] ++ rest
spaced_end [] rest = refl
spaced_end (word ∷ words) rest = let later = spaced_end words rest in let whole = append_assoc word (spaced words []) rest in cc

pub line_is : (words : Line) → line_text words ≡ joined words ++ 10 ∷ []
line_is [] = refl
line_is (word ∷ words) = let later = spaced_end words (10 ∷ []) in let whole = append_assoc word (spaced words []) (10 ∷ []) in cc

pub split_line : (bytes rest : List ℕ) → list_all (λ byte. not (is_newline byte)) bytes ≡ true → slice_split is_newline (bytes ++ 10 ∷ rest) ≡ bytes ∷ slice_split is_newline rest
split_line [] rest none = slice_split-cons_yes is_newline 10 rest refl
split_line (byte ∷ bytes) rest none =
    let parts = and_parts (not (is_newline byte)) (list_all (λ b. not (is_newline b)) bytes) none in
    let fails : is_newline byte ≡ false = grind (arith, nat_tests) in
    let later = split_line bytes rest parts.1 in
    let here = slice_split-cons_no is_newline byte (bytes ++ 10 ∷ rest) fails in
    cc

-- what is split has a first piece
pub first_piece : (test : ℕ → Bool) (text : List ℕ) → (first : List ℕ) × (rest : List (List ℕ)) × (slice_split test text ≡ first ∷ rest)
first_piece test [] = ([], [], refl)
first_piece test (byte ∷ bytes) =
    let P : Bool → Type 0 = λ b. (first : List ℕ) × (rest : List (List ℕ)) × (cond b ([] ∷ slice_split test bytes) (onto_first byte (slice_split test bytes)) ≡ first ∷ rest) in
    let later = first_piece test bytes in
    elim (test byte) as P [
      | true ↦ ([], slice_split test bytes, refl)
      | false ↦ (byte ∷ later.0, later.1, (let e = later.2 in cc))
    ]

-- without an empty end, behind a line
pub ends_behind : (line : List ℕ) (text : List ℕ) → without_empty_end (line ∷ slice_split is_newline text) ≡ line ∷ lines_of text
ends_behind line text = let piece = first_piece is_newline text in let e = piece.2 in cc

pub lines_again : (lines : List Line) → list_all has_words_alone lines ≡ true → lines_of (text_of lines) ≡ map joined lines
lines_again [] good = refl
lines_again (line ∷ lines) good =
    let parts = and_parts (has_words_alone line) (list_all has_words_alone lines) good in
    let none = weaker is_line_byte (λ byte. not (is_newline byte)) line_no_newline (joined line) (joined_bytes line parts.0) in
    let split = split_line (joined line) (text_of lines) none in
    let here = line_is line in
    let whole = append_assoc (joined line) (10 ∷ []) (text_of lines) in
    let ends = ends_behind (joined line) (text_of lines) in
    let later = lines_again lines parts.1 in
    cc
