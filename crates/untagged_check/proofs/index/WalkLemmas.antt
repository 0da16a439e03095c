-- What is kept after the dwords of a write, and after the operations of a board, one by one.
use Rattle.std.proofs.Common.{◌≡◌, ℕ, zero, suc, ◌+◌, ◌<◌, ◌≤◌, Bool, true, List, [], ◌∷◌, ◌++◌, length, drop, get_or, refl, sym, ap, subst, ◌∙◌, arith}
use Rattle.std.proofs.Math.Seq.{drop-cons}
use Rattle.std.proofs.lemmas.Bool.{and_parts}
use Rattle.std.specs.List.{list_all}
use Rattle.pci_command.specs.declared.command.Space.{Space}
use Rattle.pci_command.specs.declared.phases.Phase.{Phase}
use Rattle.pci_command.specs.declared.op_id.OpId.{OpId}
use Rattle.board_model.specs.Limits.{most_ops}
use Rattle.board_model.specs.declared.op.Op.{Op}
use Rattle.board_model.specs.declared.agents.Master.{Master}
use Rattle.board_model.specs.declared.board.Board.{Board}
use Rattle.board_model.specs.Ways.{Dword, dwords_from}
use Rattle.board_model.specs.WellFormed.{is_well_formed_master}
use Rattle.board_model.specs.Valid.{IsValid}
use Rattle.board_model.proofs.Laws.{Master-parts, WellFormed-parts}
use Rattle.board_model.specs.declared.word.Word.{Word}
use Rattle.safe_model.specs.Ops.{ops_from, ops_by}
use Rattle.untagged_check.specs.declared.index.entry.Write.{Write}
use Rattle.untagged_check.specs.index.Entries.{Listing}
use Rattle.untagged_check.specs.index.Kept.{listings_of, written, Writes, write_of, dwords_written, listed, Lists}

-- Dwords.

-- with the rest of the dwords, what is kept now is what all of them make of what was kept
pub record Behind (write : Write) (all rest : List Dword) (old now : List (Word × List Listing)) : Type 0 where
  pub each : (word : Word) → written word write rest (listings_of word now) ≡ written word write all (listings_of word old)

pub none_yet : (write : Write) (all : List Dword) (old : List (Word × List Listing)) → Behind write all all old old
none_yet write all old = record { each = λ word. refl }

pub one_more : (write : Write) (all rest : List Dword) (d : Dword) (old now next : List (Word × List Listing)) → Behind write all (d ∷ rest) old now → Writes write (d ∷ []) now next → Behind write all rest old next
one_more write all rest d old now next so_far writes =
    record { each = λ word. ap (written word write rest) (writes.each word) ∙ so_far.each word }

pub all_over : (write : Write) (all : List Dword) (old now : List (Word × List Listing)) → Behind write all [] old now → Writes write all old now
all_over write all old now so_far = record { each = λ word. so_far.each word }

-- the dwords of data phases
pub phase_more : (write : Write) (target : ℕ) (space : Space) (all : List Dword) (phases : List Phase) (at i : ℕ) (p : Phase) (old now next : List (Word × List Listing)) → i < length phases
    → Behind write all (dwords_from target space at (drop i phases)) old now → Writes write (record { target = target; space = space; address = at } ∷ []) now next → Behind write all (dwords_from target space (at + 4) (drop (i + 1) phases)) old next
phase_more write target space all phases at i p old now next within so_far writes =
    let more : i + 1 ≡ suc i = omega arith in
    let here : dwords_from target space at (drop i phases) ≡ record { target = target; space = space; address = at } ∷ dwords_from target space (at + 4) (drop (i + 1) phases) =
    ap (dwords_from target space at) (drop-cons phases i p within) ∙ ap (λ n. record { target = target; space = space; address = at } ∷ dwords_from target space (at + 4) (drop n phases)) (sym more) in
    one_more write all (dwords_from target space (at + 4) (drop (i + 1) phases)) (record { target = target; space = space; address = at }) old now next (subst (λ ds. Behind write all ds old now) here so_far) writes

-- Operations.

pub listed-append : (board : Board) (landed : List (OpId × ℕ)) (word : Word) (xs ys : List OpId) (listings : List Listing) → listed board landed word (xs ++ ys) listings ≡ listed board landed word ys (listed board landed word xs listings)
listed-append board landed word [] ys listings = refl
listed-append board landed word (o ∷ xs) ys listings = listed-append board landed word xs ys (written word (write_of landed o) (dwords_written board o) listings)

module _ (board : Board) (landed : List (OpId × ℕ)) where
  -- the same of operations
  pub record BehindOps (all rest : List OpId) (old now : List (Word × List Listing)) : Type 0 where
    pub each : (word : Word) → listed board landed word rest (listings_of word now) ≡ listed board landed word all (listings_of word old)

  pub no_op_yet : (all : List OpId) (old : List (Word × List Listing)) → BehindOps all all old old
  no_op_yet all old = record { each = λ word. refl }

  pub ops_over : (all rest : List OpId) (old now : List (Word × List Listing)) → rest ≡ [] → BehindOps all rest old now → Lists board landed all old now
  ops_over all rest old now none so_far = record { each = λ word. ap (λ os. listed board landed word os (listings_of word now)) (sym none) ∙ so_far.each word }

  op_more : (all rest : List OpId) (o : OpId) (old now next : List (Word × List Listing)) → BehindOps all (o ∷ rest) old now → Writes (write_of landed o) (dwords_written board o) now next → BehindOps all rest old next
  op_more all rest o old now next so_far writes = record { each = λ word. ap (listed board landed word rest) (writes.each word) ∙ so_far.each word }

  ops_more : (all ops rest : List OpId) (old now next : List (Word × List Listing)) → BehindOps all (ops ++ rest) old now → Lists board landed ops now next → BehindOps all rest old next
  ops_more all ops rest old now next so_far lists =
      record { each = λ word. ap (listed board landed word rest) (lists.each word) ∙ sym (listed-append board landed word ops rest (listings_of word now)) ∙ so_far.each word }

  pub program_more : (all : List OpId) (master : ℕ) (ops : List Op) (i : ℕ) (op : Op) (old now next : List (Word × List Listing)) → i < length ops → BehindOps all (ops_from master i (drop i ops)) old now
      → Writes (write_of landed (record { master = master; index = i; attempt = 0 })) (dwords_written board (record { master = master; index = i; attempt = 0 })) now next → BehindOps all (ops_from master (i + 1) (drop (i + 1) ops)) old next
  program_more all master ops i op old now next within so_far writes =
      let o : OpId = record { master = master; index = i; attempt = 0 } in
      let more : i + 1 ≡ suc i = omega arith in
      let here : ops_from master i (drop i ops) ≡ o ∷ ops_from master (i + 1) (drop (i + 1) ops) =
      ap (ops_from master i) (drop-cons ops i op within) ∙ ap (λ n. o ∷ ops_from master (i + 1) (drop n ops)) (sym more) in
      op_more all (ops_from master (i + 1) (drop (i + 1) ops)) o old now next (subst (λ os. BehindOps all os old now) here so_far) writes

  pub master_more : (all : List OpId) (masters : List Master) (i : ℕ) (m : Master) (old now next : List (Word × List Listing)) → i < length masters → BehindOps all (ops_by i (drop i masters)) old now
      → Lists board landed (ops_from i 0 (get_or masters i m).ops) now next → BehindOps all (ops_by (i + 1) (drop (i + 1) masters)) old next
  master_more all masters i m old now next within so_far lists =
      let ops : List OpId = ops_from i 0 (get_or masters i m).ops in
      let more : i + 1 ≡ suc i = omega arith in
      let here : ops_by i (drop i masters) ≡ ops ++ ops_by (i + 1) (drop (i + 1) masters) =
      ap (ops_by i) (drop-cons masters i m within) ∙ ap (λ n. ops ++ ops_by (i + 1) (drop n masters)) (sym more) in
      ops_more all ops (ops_by (i + 1) (drop (i + 1) masters)) old now next (subst (λ os. BehindOps all os old now) here so_far) lists

-- A program has at most 1,024 operations.

all_at : (test : Master → Bool) (masters : List Master) (i : ℕ) (d : Master) → list_all test masters ≡ true → i < length masters → test (get_or masters i d) ≡ true
all_at test [] i d all within = absurd (omega (arith, within))
all_at test (m ∷ masters) zero d all within = (and_parts (test m) (list_all test masters) all).0
all_at test (m ∷ masters) (suc i) d all within = all_at test masters i d (and_parts (test m) (list_all test masters) all).1 (omega (arith, within))

pub few_at : (board : Board) (i : ℕ) (d : Master) → IsValid board → i < length board.masters → length (get_or board.masters i d).ops ≤ most_ops
few_at board i d valid within =
    (Master-parts (get_or board.masters i d) (all_at is_well_formed_master board.masters i d (WellFormed-parts board valid.well_formed).masters within)).few
