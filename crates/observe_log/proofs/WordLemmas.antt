-- How many words are left behind the first five of a line.
use Rattle.std.proofs.Common.{◌≡◌, ℕ, ◌+◌, ◌%◌, ◌≤◌, Bool, true, false, cond, eqb, leb, ◌&&◌, List, [], ◌∷◌, length, Result, Ok, Err, arith, refl, ap}
use Rattle.pci_command.specs.Command.{space_of}
use Rattle.pci_command.specs.declared.command.Space.{Space}
use Rattle.pci_command.specs.declared.command.Space.TheVariants.{Mem, Io, Cfg}
use Rattle.board_model.specs.declared.board.Board.{Board}
use Rattle.board_model.specs.Valid.{is_bus}
use Rattle.text_faults.specs.declared.board_line.LineFault.{LineFault}
use Rattle.board_statements.specs.Words.{with_rest as board_with_rest, one_word as board_word, decimal, hex_of, decimal_of, long_of}
use Rattle.text_faults.specs.declared.log_line.LogLineFault.{LogLineFault}
use Rattle.text_faults.specs.declared.log_line.LogLineFault.TheVariants.{NotThere}
use Rattle.observe_log.specs.declared.fault.AtWord.{AtWord}
use Rattle.observe_told.specs.declared.seen.Addressed.TheVariants.{Byte}
use Rattle.observe_log.specs.declared.line.heading.Heading.{Heading}
use Rattle.observe_log.specs.Readers.{◌>>=◌, Reader, misread, read_on, give, with_rest, one_word, as_in_boards}
use Rattle.observe_log.specs.Words.{of_kind, bus_by, bus_form, register_of, dword_by, address_in, heading_form}

-- What is read, and the words that are left.
abbrev so : {A : Type 0} → A → List (List ℕ) → Result (A × List (List ℕ)) AtWord
so value rest = Ok (value, rest)

abbrev so_in_boards : {A : Type 0} → A → List (List ℕ) → Result (A × List (List ℕ)) LineFault
so_in_boards value rest = Ok (value, rest)

abbrev Short : {A : Type 0} → List (List ℕ) → Result (A × List (List ℕ)) AtWord → Type 0
Short {A} words read = (value : A) (rest : List (List ℕ)) → read ≡ so value rest → length rest ≤ length words

-- no reader puts words back
record Shrinks {A : Type 0} (reader : Reader A) : Type 0 where
  short : (words : List (List ℕ)) → Short words (reader words)

rest_of : {A : Type 0} → List (List ℕ) → Result (A × List (List ℕ)) AtWord → List (List ℕ)
rest_of none (Ok read) = read.1
rest_of none (Err fault) = none

same_rest : {A : Type 0} (got : A × List (List ℕ)) (value : A) (rest words : List (List ℕ)) → length got.1 ≤ length words → so got.0 got.1 ≡ so value rest → length rest ≤ length words
unfolding rest_of
same_rest got value rest words short is =
    let same : got.1 ≡ rest = ap (rest_of []) is in
    let long : length got.1 ≡ length rest = ap length same in
    omega arith

shrinks_on : {A B : Type 0} (reader : Reader A) (next : A → Reader B) → Shrinks reader → ((a : A) → Shrinks (next a)) → Shrinks (reader >>= next)
shrinks_on {A} {B} reader next first later = record {
  short = λ words value rest read.
      let P : Result (A × List (List ℕ)) AtWord → Type 0 = λ r. reader words ≡ r → read_on r next ≡ so value rest → length rest ≤ length words in
      (elim (reader words) as P [
        | Ok got ↦ λ is told.
            let one = first.short words got.0 got.1 is in
            let two = (later got.0).short got.1 value rest told in
            omega (arith, one, two)
        | Err fault ↦ λ is told. absurd cc
      ]) refl read;
}

shrinks_give : {A : Type 0} (value : A) → Shrinks (give value)
shrinks_give value = record { short = λ words other rest read. same_rest (value, words) other rest words (omega arith) read }

-- a reader that takes a word
record Takes {A : Type 0} (reader : Reader A) : Type 0 where
  less : (words : List (List ℕ)) (value : A) (rest : List (List ℕ)) → reader words ≡ so value rest → length rest + 1 ≤ length words

takes_on : {A B : Type 0} (reader : Reader A) (next : A → Reader B) → Takes reader → ((a : A) → Shrinks (next a)) → Takes (reader >>= next)
takes_on {A} {B} reader next first later = record {
  less = λ words value rest read.
      let P : Result (A × List (List ℕ)) AtWord → Type 0 = λ r. reader words ≡ r → read_on r next ≡ so value rest → length rest + 1 ≤ length words in
      (elim (reader words) as P [
        | Ok got ↦ λ is told.
            let one = first.less words got.0 got.1 is in
            let two = (later got.0).short got.1 value rest told in
            omega (arith, one, two)
        | Err fault ↦ λ is told. absurd cc
      ]) refl read;
}

takes_word : {A : Type 0} (place : ℕ) (kind : List ℕ → Result A LogLineFault) → Takes (one_word place kind)
takes_word {A} place kind = record {
  less = λ words value rest read.
      let W : List (List ℕ) → Type 0 = λ ws. one_word place kind ws ≡ so value rest → length rest + 1 ≤ length ws in
      (elim words as W [
        | [] ↦ λ none. absurd cc
        | word ∷ later ↦ λ told.
            let P : Result A LogLineFault → Type 0 = λ k. with_rest place later k ≡ so value rest → length rest + 1 ≤ length (word ∷ later) in
            (elim (kind word) as P [
              | Ok got ↦ λ is.
                  let same = same_rest (got, later) value rest later (omega arith) is in
                  omega (arith, same)
              | Err fault ↦ λ is. absurd cc
            ]) told
      ]) read;
}

shrinks_word : {A : Type 0} (place : ℕ) (kind : List ℕ → Result A LogLineFault) → Shrinks (one_word place kind)
shrinks_word place kind = record { short = λ words value rest read. omega (arith, (takes_word place kind).less words value rest read) }

-- a word of a board text
board_shrinks : {A : Type 0} (kind : List ℕ → Result A LineFault) (words : List (List ℕ)) (got : A × List (List ℕ)) → board_word kind words ≡ so_in_boards got.0 got.1 → length got.1 ≤ length words
board_shrinks {A} kind [] got read = absurd cc
board_shrinks {A} kind (word ∷ later) got read =
    let P : Result A LineFault → Type 0 = λ k. board_with_rest k later ≡ so_in_boards got.0 got.1 → length got.1 ≤ length (word ∷ later) in
    (elim (kind word) as P [
      | Ok value ↦ λ is.
          let same : later ≡ got.1 = cc in
          let long : length later ≡ length got.1 = ap length same in
          omega arith
      | Err fault ↦ λ is. absurd cc
    ]) read

shrinks_bus : (board : Board) → Shrinks (bus_form board)
shrinks_bus board = record {
  short = λ words value rest read.
      let P : Result (ℕ × List (List ℕ)) LineFault → Type 0 = λ r. decimal 0 4294967295 words ≡ r → bus_by board (as_in_boards 1 r) ≡ so value rest → length rest ≤ length words in
      (elim (decimal 0 4294967295 words) as P [
        | Ok got ↦ λ is told.
            let less = board_shrinks (decimal_of 0 4294967295) words got is in
            let Q : Bool → Type 0 = λ b. cond b (so got.0 got.1) (Err (record { word = 1; fault = NotThere })) ≡ so value rest → length rest ≤ length words in
            (elim (leb got.0 255 && is_bus board got.0) as Q [
              | true ↦ λ here. same_rest got value rest words less here
              | false ↦ λ none. absurd cc
            ]) told
        | Err fault ↦ λ is told. absurd cc
      ]) refl read;
}

shrinks_dword : (words : List (List ℕ)) (kind : List ℕ → Result ℕ LineFault) → Short words (dword_by (as_in_boards 4 (board_word kind words)))
shrinks_dword words kind value rest read =
    let P : Result (ℕ × List (List ℕ)) LineFault → Type 0 = λ r. board_word kind words ≡ r → dword_by (as_in_boards 4 r) ≡ so value rest → length rest ≤ length words in
    (elim (board_word kind words) as P [
      | Ok got ↦ λ is told.
          let less = board_shrinks kind words got is in
          let Q : Bool → Type 0 = λ b. cond b (so (Byte got.0) got.1) (Err (misread 4)) ≡ so value rest → length rest ≤ length words in
          (elim (eqb (got.0 % 4) 0) as Q [
            | true ↦ λ here. same_rest (Byte got.0, got.1) value rest words less here
            | false ↦ λ none. absurd cc
          ]) told
      | Err fault ↦ λ is told. absurd cc
    ]) refl read

shrinks_address : (space : Space) → Shrinks (address_in space)
shrinks_address Mem = record { short = λ words. shrinks_dword words (long_of true) }
shrinks_address Io = record { short = λ words. shrinks_dword words (hex_of 8) }
shrinks_address Cfg = record { short = λ words. (shrinks_word 4 (λ word. of_kind (register_of word))).short words }

takes_heading : (board : Board) → Takes (heading_form board)
unfolding heading_form
takes_heading board =
    takes_on _ _ (takes_word 0 _) (λ times.
    shrinks_on _ _ (shrinks_bus board) (λ bus.
    shrinks_on _ _ (shrinks_word 2 _) (λ who.
    shrinks_on _ _ (shrinks_word 3 _) (λ command.
    shrinks_on _ _ (shrinks_address (space_of command)) (λ address. shrinks_give _)))))

-- fewer words are left behind the heading
pub heading_shrinks : (board : Board) (words rest : List (List ℕ)) (heading : Heading) → heading_form board words ≡ so heading rest → length rest + 1 ≤ length words
heading_shrinks board words rest heading read = (takes_heading board).less words heading rest read
