-- Data words are read one after another, up to RESULT.
use Rattle.std.proofs.Common.{◌≡◌, ℕ, ◌+◌, true, false, eqb, List, [], ◌∷◌, ◌++◌, append_assoc, length, Some, None, Ok, Err, arith, refl, sym, ap, ◌∙◌}
use Rattle.std.proofs.lemmas.List.{append-nil, length-append}
use Rattle.pci_command.specs.declared.phases.Phase.{Phase}
use Rattle.text_faults.specs.declared.board_line.LineFault.{LineFault}
use Rattle.board_statements.specs.Words.{data_word_of}
use Rattle.observe_told.specs.declared.seen.Ending.{Ending}
use Rattle.observe_log.specs.Readers.{misread}
use Rattle.observe_log.specs.Lines.{ending_of, data_read}
use Rattle.observe_log.specs.Data.{Going}

-- one data word more
one_more : (place : ℕ) (phases : List Phase) (word : List ℕ) (words : List (List ℕ)) (phase : Phase) → ending_of word ≡ None → data_word_of word ≡ Ok phase
    → data_read place phases (word ∷ words) ≡ data_read (place + 1) (phases ++ phase ∷ []) words
one_more place phases word words phase none read = rw (none, read) refl

-- a word that is no data word
pub fails : (place : ℕ) (phases : List Phase) (word : List ℕ) (words : List (List ℕ)) (fault : LineFault) → ending_of word ≡ None → data_word_of word ≡ Err fault
    → data_read place phases (word ∷ words) ≡ Err (misread place)
fails place phases word words fault none read = rw (none, read) refl

-- RESULT, as the last word or not
pub ends : (place : ℕ) (phases : List Phase) (word : List ℕ) (words : List (List ℕ)) (ending : Ending) → ending_of word ≡ Some ending → eqb (length words) 0 ≡ true
    → data_read place phases (word ∷ words) ≡ Ok (phases, ending)
ends place phases word words ending some last = rw (some, last) refl

pub goes_on : (place : ℕ) (phases : List Phase) (word : List ℕ) (words : List (List ℕ)) (ending : Ending) → ending_of word ≡ Some ending → eqb (length words) 0 ≡ false
    → data_read place phases (word ∷ words) ≡ Err (misread (place + 1))
goes_on place phases word words ending some more = rw (some, more) refl

-- what is kept of the data words so far
pub begun : (before : List Phase) (words : List (List ℕ)) → Going before before 0 words words
begun before words = record {
  shown = [];
  put = sym (append-nil before);
  counted = refl;
  reads = refl;
  few = omega arith;
}

pub gone_on : (before now : List Phase) (count : ℕ) (word : List ℕ) (words new all : List (List ℕ)) (phase : Phase) → words ≡ word ∷ new → ending_of word ≡ None → data_word_of word ≡ Ok phase
    → Going before now count words all → Going before (now ++ phase ∷ []) (count + 1) new all
gone_on before now count word words new all phase is none read old =
    let step = one_more (5 + count) old.shown word new phase none read in
    let less : length words ≡ length (word ∷ new) = ap length is in
    let long = length-append old.shown (phase ∷ []) in
    let place : 5 + count + 1 ≡ 5 + (count + 1) = omega arith in
    let here : data_read (5 + count) old.shown words ≡ data_read (5 + count) old.shown (word ∷ new) = ap (data_read (5 + count) old.shown) is in
    record {
      shown = old.shown ++ phase ∷ [];
      put = ap (λ (l : List Phase). l ++ phase ∷ []) old.put ∙ append_assoc before old.shown (phase ∷ []);
      counted = omega (arith, old.counted, long);
      reads = ap (λ (n : ℕ). data_read n (old.shown ++ phase ∷ []) new) (sym place) ∙ sym step ∙ sym here ∙ old.reads;
      few = omega (arith, old.few, less);
    }
