-- Data words are read one after another, and the first eight are kept.
use Rattle.std.proofs.Common.{◌≡◌, ℕ, ◌<◌, ◌≤◌, Bool, true, false, ltb, ◌||◌, List, [], ◌∷◌, ◌++◌, append_assoc, length, take, Result, Ok, Err, arith, refl, sym, ap, ◌∙◌}
use Rattle.std.proofs.lemmas.Bool.{lt-ltb, le-ltb}
use Rattle.std.proofs.lemmas.List.{append-nil, length-append, take_at, take_all}
use Rattle.pci_command.specs.declared.phases.Phase.{Phase}
use Rattle.board_model.specs.Limits.{most_dwords}
use Rattle.text_faults.specs.declared.board_line.LineFault.{LineFault}
use Rattle.board_statements.specs.Words.{◌>>=◌, read_on, give, and_part, with_rest, data_word, data_word_of}
use Rattle.board_statements.specs.Masters.{data_words, other_words, as_many, burst_words}

abbrev read_so : Phase → List (List ℕ) → Result (Phase × List (List ℕ)) LineFault
read_so phase words = Ok (phase, words)

abbrev fails_so : LineFault → Result (Phase × List (List ℕ)) LineFault
fails_so fault = Err fault

-- what is kept of the phases so far and those that follow, up to the end of the line
abbrev pub finish : List Phase → Bool → Result (List Phase) LineFault → Result ((List Phase × Bool) × List (List ℕ)) LineFault
finish phases many (Ok more) = Ok ((take most_dwords (phases ++ more), many || ltb most_dwords (length (phases ++ more))), [])
finish phases many (Err fault) = Err fault

abbrev add_first : Phase → Result (List Phase) LineFault → Result (List Phase) LineFault
add_first phase more = and_part more (λ phases. Ok (phase ∷ phases))

abbrev pair : Phase → List (List ℕ) → Phase × List (List ℕ)
pair phase words = (phase, words)

abbrev kind_so : Phase → Result Phase LineFault
kind_so phase = Ok phase

-- the word that was taken, and what it was read as
taken : (kind : Result Phase LineFault) (words new : List (List ℕ)) (phase : Phase) → with_rest kind words ≡ read_so phase new → (kind ≡ Ok phase) × (words ≡ new)
taken (Ok value) words new phase read =
    let same : pair value words ≡ pair phase new = cc in
    (ap (λ (p : Phase × List (List ℕ)). kind_so p.0) same, ap (λ (p : Phase × List (List ℕ)). p.1) same)
taken (Err fault) words new phase read = absurd cc

refused : (kind : Result Phase LineFault) (words : List (List ℕ)) (fault : LineFault) → with_rest kind words ≡ fails_so fault → kind ≡ Err fault
refused (Ok value) words fault read = absurd cc
refused (Err other) words fault read = cc

pub shorter : (old new : List (List ℕ)) (phase : Phase) → data_word old ≡ read_so phase new → length new < length old
shorter [] new phase read = absurd cc
shorter (word ∷ words) new phase read =
    let same : words ≡ new = (taken (data_word_of word) words new phase read).1 in
    rw (← same) (omega arith)

step : (old new : List (List ℕ)) (phase : Phase) → data_word old ≡ read_so phase new → data_words old ≡ add_first phase (data_words new)
step [] new phase read = absurd cc
step (word ∷ words) new phase read =
    let parts = taken (data_word_of word) words new phase read in
    let same : words ≡ new = parts.1 in
    rw (parts.0, same) refl

one_more : (phases : List Phase) (many : Bool) (phase : Phase) (more : Result (List Phase) LineFault) → finish (phases ++ phase ∷ []) many more ≡ finish phases many (add_first phase more)
one_more phases many phase (Ok more) = simp append_assoc
one_more phases many phase (Err fault) = refl

or_true : (many last : Bool) → last ≡ true → (many || last) ≡ true
or_true true last is = refl
or_true false last is = is

one_past : (phases : List Phase) (many : Bool) (phase : Phase) (more : Result (List Phase) LineFault) → length phases ≡ most_dwords
    → finish phases true more ≡ finish phases many (add_first phase more)
one_past phases many phase (Ok more) full =
    let sum = length-append phases (phase ∷ more) in
    let last : ltb most_dwords (length (phases ++ phase ∷ more)) ≡ true = lt-ltb _ _ (omega (arith, sum)) in
    rw (take_at phases more most_dwords full, take_at phases (phase ∷ more) most_dwords full, or_true many _ last) refl
one_past phases many phase (Err fault) full = refl

join : (phase : Phase) (more : Result (List Phase) LineFault) → finish (phase ∷ []) false more ≡ read_on (with_rest more []) (λ others. give (as_many (phase ∷ others)))
join phase (Ok more) = refl
join phase (Err fault) = refl

pub begins : (phase : Phase) (old new : List (List ℕ)) → data_word old ≡ read_so phase new → finish (phase ∷ []) false (data_words new) ≡ burst_words old
unfolding burst_words
begins phase old new read =
    join phase (data_words new) ∙ sym (ap (λ (r : Result (Phase × List (List ℕ)) LineFault). read_on r (λ first. other_words >>= λ others. give (as_many (first ∷ others)))) read)

pub fails_first : (old : List (List ℕ)) (fault : LineFault) → data_word old ≡ fails_so fault → burst_words old ≡ Err fault
unfolding burst_words
fails_first old fault read =
    ap (λ (r : Result (Phase × List (List ℕ)) LineFault). read_on r (λ first. other_words >>= λ others. give (as_many (first ∷ others)))) read

pub keeps : (phases : List Phase) (many : Bool) (phase : Phase) (old new : List (List ℕ)) (total : Result ((List Phase × Bool) × List (List ℕ)) LineFault) → data_word old ≡ read_so phase new
    → finish phases many (data_words old) ≡ total → finish (phases ++ phase ∷ []) many (data_words new) ≡ total
keeps phases many phase old new total read so_far =
    one_more phases many phase (data_words new) ∙ ap (finish phases many) (sym (step old new phase read)) ∙ so_far

pub leaves : (phases : List Phase) (many : Bool) (phase : Phase) (old new : List (List ℕ)) (total : Result ((List Phase × Bool) × List (List ℕ)) LineFault) → data_word old ≡ read_so phase new
    → length phases ≡ most_dwords → finish phases many (data_words old) ≡ total → finish phases true (data_words new) ≡ total
leaves phases many phase old new total read full so_far =
    one_past phases many phase (data_words new) full ∙ ap (finish phases many) (sym (step old new phase read)) ∙ so_far

pub ends : (phases : List Phase) (many : Bool) (old : List (List ℕ)) (fault : LineFault) (total : Result ((List Phase × Bool) × List (List ℕ)) LineFault) → 0 < length old → data_word old ≡ fails_so fault
    → finish phases many (data_words old) ≡ total → total ≡ Err fault
ends phases many [] fault total some read so_far = absurd (omega arith)
ends phases many (word ∷ words) fault total some read so_far =
    let none : data_words (word ∷ words) ≡ Err fault = rw (refused (data_word_of word) words fault read) refl in
    sym so_far ∙ ap (finish phases many) none

or_false : (many last : Bool) → last ≡ false → (many || last) ≡ many
or_false true last is = refl
or_false false last is = is

pub is_done : (phases : List Phase) (many : Bool) (words : List (List ℕ)) (total : Result ((List Phase × Bool) × List (List ℕ)) LineFault) → length words ≡ 0 → length phases ≤ most_dwords
    → finish phases many (data_words words) ≡ total → total ≡ Ok ((phases, many), words)
is_done phases many (word ∷ words) total none few so_far = absurd (omega arith)
is_done phases many [] total none few so_far =
    let short : ltb most_dwords (length phases) ≡ false = le-ltb _ _ few in
    let last : finish phases many (Ok []) ≡ Ok ((phases, many), []) = rw (append-nil phases, take_all most_dwords phases few, or_false many _ short) refl in
    sym so_far ∙ last
