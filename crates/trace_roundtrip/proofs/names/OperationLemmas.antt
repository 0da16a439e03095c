-- The word of an operation is read as the operation.
use Rattle.std.proofs.Common.{◌≡◌, ℕ, ◌^◌, ◌<◌, ◌≤◌, Bool, true, false, leb, List, [], ◌∷◌, ◌++◌, length, append-nil, length-append, Some, refl, ap, sym, subst, ◌∙◌, arith}
use Rattle.std.specs.Prelude.{is_some}
use Rattle.std.specs.List.{list_all}
use Rattle.std.specs.Fmt.{decimal}
use Rattle.std.proofs.lemmas.Bool.Decides.{nat_tests}
use Rattle.std.proofs.lemmas.Bool.{and_parts}
use Rattle.std.proofs.lemmas.List.Folds.{list_all-append}
use Rattle.pci_command.specs.declared.op_id.OpId.{OpId}
use Rattle.board_model.specs.Limits.{most_ops}
use Rattle.board_model.specs.declared.agents.Master.{Master}
use Rattle.board_model.specs.declared.board.Board.{Board}
use Rattle.board_model.specs.Requests.{op_of}
use Rattle.board_model.specs.WellFormed.{is_well_formed}
use Rattle.board_roundtrip.specs.words.Printed.{is_word_byte, is_word}
use Rattle.board_model.specs.Fits.{ProgramFits, BoardFits}
use Rattle.trace_text.specs.Words.{master_name, names_poll, try_text, op_word}
use Rattle.trace_reader.specs.lines.Words.{at_most, at_dot, number_of, named, index_and_try, op_by, master_in, op_in}
use Rattle.trace_roundtrip.proofs.names.NumberLemmas.{number_is_read, number_is_short}
use Rattle.trace_roundtrip.proofs.names.NameLemmas.{NameWord, name_is_word}
use Rattle.trace_roundtrip.proofs.names.PartLemmas.{each_at}
use Rattle.trace_roundtrip.proofs.names.PlaceLemmas.{masters_apart, place_found}
use Rattle.trace_roundtrip.proofs.names.MarkLemmas.{split_at_dot, number_has_no_dot}
use Rattle.trace_roundtrip.proofs.names.ThereLemmas.{There, op_is_there}
use Rattle.board_roundtrip.proofs.words.Laws.{decimal_word}
use Rattle.board_model.proofs.Laws.{WellFormed-parts}

-- the name of the master of an operation is a name
name_of : (board : Board) (o : OpId) (there : There board o) → BoardFits board → NameWord there.master.name
name_of board o there fits = name_is_word there.master.name (each_at ProgramFits board.masters o.master there.master fits.masters there.found).begins.name

-- the name of its master is the name at that place
master_is : (board : Board) (o : OpId) (there : There board o) → master_name board o.master ≡ there.master.name
master_is board o there = rw (there.found) refl

-- the word of an operation: the name, a dot, the index, and for a poll a dot and the try
word_is : (board : Board) (o : OpId) (there : There board o) → op_word board o ≡ there.master.name ++ 46 ∷ (decimal o.index ++ try_text (names_poll board o) o.attempt)
word_is board o there = ap (λ (name : List ℕ). name ++ 46 ∷ (decimal o.index ++ try_text (names_poll board o) o.attempt)) (master_is board o there)

-- a try has a dot and at most ten digits
try_is_short : (polls : Bool) (attempt : ℕ) → attempt < 2 ^ 32 → length (try_text polls attempt) ≤ 11
try_is_short true attempt small = omega (arith, number_is_short attempt small)
try_is_short false attempt small = omega arith

-- a word of an operation is short: 16 bytes, a dot, ten digits, a dot and ten digits are 38
pub op_is_short : (board : Board) (o : OpId) → BoardFits board → is_well_formed board ≡ true → is_some (op_of board o) ≡ true → length (op_word board o) ≤ 44
op_is_short board o fits formed some =
    let there = op_is_there board o formed some in
    let rest = try_text (names_poll board o) o.attempt in
    let size = ap length (word_is board o there) in
    let whole = length-append there.master.name (46 ∷ (decimal o.index ++ rest)) in
    let digits = length-append (decimal o.index) rest in
    let name = (name_of board o there fits).short in
    let index = number_is_short o.index (omega (arith, there.index)) in
    let attempt = try_is_short (names_poll board o) o.attempt (omega (arith, there.attempt)) in
    omega (arith, size, whole, digits, name, index, attempt)

-- the bytes of a word are those of words
bytes_of : (word : List ℕ) → is_word word ≡ true → list_all is_word_byte word ≡ true
bytes_of word good = (and_parts _ _ good).1

-- so are those of a try
try_bytes : (polls : Bool) (attempt : ℕ) → attempt < 2 ^ 32 → list_all is_word_byte (try_text polls attempt) ≡ true
try_bytes true attempt small = bytes_of (decimal attempt) (decimal_word attempt small)
try_bytes false attempt small = refl

-- a word with more such bytes is a word
words_joined : (name rest : List ℕ) → is_word name ≡ true → list_all is_word_byte rest ≡ true → is_word (name ++ rest) ≡ true
words_joined [] rest good more = cc
words_joined (byte ∷ name) rest good more =
    let both = list_all-append is_word_byte (byte ∷ name) rest in
    let front = bytes_of (byte ∷ name) good in
    rw (both, front, more) (grind (arith, nat_tests))

-- the word of an operation is a word
pub op_is_word : (board : Board) (o : OpId) → BoardFits board → is_well_formed board ≡ true → is_some (op_of board o) ≡ true → is_word (op_word board o) ≡ true
op_is_word board o fits formed some =
    let there = op_is_there board o formed some in
    let rest = try_text (names_poll board o) o.attempt in
    let name = (name_of board o there fits).word in
    let index = bytes_of (decimal o.index) (decimal_word o.index (omega (arith, there.index))) in
    let attempt = try_bytes (names_poll board o) o.attempt (omega (arith, there.attempt)) in
    let behind : list_all is_word_byte (decimal o.index ++ rest) ≡ true = list_all-append is_word_byte (decimal o.index) rest ∙ rw (index, attempt) refl in
    subst (λ (word : List ℕ). is_word word ≡ true) (sym (word_is board o there)) (words_joined there.master.name (46 ∷ (decimal o.index ++ rest)) name behind)

-- The word is read.

-- an index is read as it is printed
index_is_read : (index : ℕ) → index < most_ops → at_most 65535 (number_of (decimal index)) ≡ Some index
index_is_read index small =
    let few : leb index 65535 ≡ true = grind (arith, nat_tests) in
    rw (number_is_read index (omega arith), few) refl

-- the numbers of an operation name it, where it is there and a poll or none
is_named : (board : Board) (o : OpId) (polls : Bool) → is_some (op_of board o) ≡ true → names_poll board o ≡ polls → named board polls o.master o.index o.attempt ≡ Some o
is_named board o true some is = rw (some, is) refl
is_named board o false some is = rw (some, is) refl

-- what is no poll is named with try 0
once_named : (board : Board) (o : OpId) → is_some (op_of board o) ≡ true → names_poll board o ≡ false → o.attempt ≡ 0 → named board false o.master o.index 0 ≡ Some o
once_named board o some is once = subst (λ (attempt : ℕ). named board false o.master o.index attempt ≡ Some o) once (is_named board o false some is)

-- behind the name: an index, and for a poll a try
rest_is_read : (board : Board) (o : OpId) (polls : Bool) → There board o → is_some (op_of board o) ≡ true → names_poll board o ≡ polls →
    index_and_try board o.master (at_dot (decimal o.index ++ try_text polls o.attempt)) (decimal o.index ++ try_text polls o.attempt) ≡ Some o
rest_is_read board o true there some is =
    let split = split_at_dot (decimal o.index) (decimal o.attempt) (number_has_no_dot o.index (omega (arith, there.index))) in
    let index = index_is_read o.index there.index in
    let attempt = number_is_read o.attempt (omega (arith, there.attempt)) in
    rw (split, index, attempt) (is_named board o true some is)
rest_is_read board o false there some is =
    let alone = append-nil (decimal o.index) in
    let whole = number_has_no_dot o.index (omega (arith, there.index)) in
    let index = index_is_read o.index there.index in
    rw (alone, whole, index) (once_named board o some is (there.once is))

-- the word of an operation that is there is read as the operation
pub op_is_read : (board : Board) (o : OpId) → BoardFits board → is_well_formed board ≡ true → o.master < 2 ^ 16 → is_some (op_of board o) ≡ true → op_in board (op_word board o) ≡ Some o
op_is_read board o fits formed small some =
    let there = op_is_there board o formed some in
    let rest = decimal o.index ++ try_text (names_poll board o) o.attempt in
    let split = split_at_dot there.master.name rest (name_of board o there fits).no_dot in
    let apart = masters_apart board.masters (WellFormed-parts board formed).masters_named_apart in
    let master : master_in board there.master.name ≡ Some o.master = place_found (λ (master : Master). master.name) board.masters o.master there.master apart there.found small in
    let behind = rest_is_read board o (names_poll board o) there some refl in
    ap (op_in board) (word_is board o there) ∙ ap (op_by board) split ∙ rw master behind
