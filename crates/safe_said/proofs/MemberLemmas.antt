-- The writes of words that some run may come to, and what is said of reads by them.
use Rattle.std.proofs.Common.{◌≡◌, Bool, true, false, eq-eqb, cond, List, [], ◌∷◌, map, Option, Some, None, IfSome, is_some, refl, sym, ap, subst, ◌∙◌}
use Rattle.std.specs.List.{filter, find, AllByRecursion}
use Rattle.std.specs.Option.{option_or}
use Rattle.pci_command.specs.declared.command.Space.{Space}
use Rattle.pci_command.specs.declared.command.Space.TheVariants.{Mem, Io, Cfg}
use Rattle.pci_command.specs.declared.op_id.OpId.{OpId}
use Rattle.pci_command.specs.Same.{same_space}
use Rattle.board_model.specs.declared.board.Board.{Board}
use Rattle.board_model.specs.declared.word.Word.{Word}
use Rattle.board_model.specs.Ways.{Dword}
use Rattle.safe_model.specs.Clocks.{Table}
use Rattle.safe_model.specs.largest.Tests.{is_before, is_reached, writes_of}
use Rattle.safe_model.specs.said.Said.{Said as Verdict, members, is_beside, is_open, first_beside, said_beside}
use Rattle.audit_clocks.specs.Tables.{same_word, found_in, PutsWord, dword}
use Rattle.audit_clocks.proofs.TableLemmas.{same_word_true}
use Rattle.board_writes.specs.declared.writers.write.WordWrite.{WordWrite}
use Rattle.board_writes.specs.Writes.{op_in, IsWordWrite, AreWrites}
use Rattle.safe_said.specs.Members.{WordMembers, AreMembers, KeepsMembers, KeepsWord, said_with}

-- Some of the writes.

pub ops_filter : (test : OpId → Bool) (writes : List WordWrite) → map op_in (filter (λ (write : WordWrite). test write.op) writes) ≡ filter test (map op_in writes)
ops_filter test [] = refl
ops_filter test (w ∷ writes) =
    let rest : List WordWrite = filter (λ (write : WordWrite). test write.op) writes in
    let P : Bool → Type 0 = λ b. map op_in (cond b (w ∷ rest) rest) ≡ cond b (w.op ∷ filter test (map op_in writes)) (filter test (map op_in writes)) in
    elim (test w.op) as P [ true ↦ ap (λ (os : List OpId). w.op ∷ os) (ops_filter test writes) | false ↦ ops_filter test writes ]

pub each_filter : {X : Type 0} (P : X → Type 0) (test : X → Bool) (xs : List X) → AllByRecursion P xs → AllByRecursion P (filter test xs)
each_filter P test [] each = tt
each_filter P test (x ∷ xs) each =
    let Q : Bool → Type 0 = λ b. AllByRecursion P (cond b (x ∷ filter test xs) (filter test xs)) in
    elim (test x) as Q [ true ↦ (each.0, each_filter P test xs each.1) | false ↦ each_filter P test xs each.1 ]

pub reached_are : (board : Board) (table : Table) (word : Dword) (writes list : List WordWrite) → AreWrites board word (writes_of board word) writes → list ≡ filter (λ (write : WordWrite). is_reached board table write.op) writes
    → AreWrites board word (members board table word) list
reached_are board table word writes list are is =
    record {
      ops_are = ap (map op_in) is ∙ ops_filter (is_reached board table) writes ∙ ap (filter (is_reached board table)) are.ops_are;
      each = subst (AllByRecursion (IsWordWrite board word)) (sym is) (each_filter (IsWordWrite board word) (λ (write : WordWrite). is_reached board table write.op) writes are.each);
    }

-- What is kept of words.

space_self : (a : Space) → same_space a a ≡ true
space_self Mem = refl
space_self Io = refl
space_self Cfg = refl

same_word_self : (a : Word) → same_word a a ≡ true
same_word_self a =
    rw (eq-eqb a.target a.target refl, space_self a.space, eq-eqb a.address a.address refl) refl

pub keeps_put : (board : Board) (table : Table) (word : Word) (old new : List (Word × WordMembers)) (kept : WordMembers) → KeepsMembers board table old
    → AreMembers board table (dword word) kept → PutsWord word kept old new → KeepsWord board table word new
keeps_put board table word old new kept keeps are puts =
    let Are : Word → WordMembers → Type 0 = λ q. AreMembers board table (dword q) in
    record {
      others = record {
        each = λ q.
            let P : Bool → Type 0 = λ b. same_word word q ≡ b → IfSome (cond b (Some kept) (found_in q old)) (Are q) in
            let here : IfSome (cond (same_word word q) (Some kept) (found_in q old)) (Are q) = (elim (same_word word q) as P [
              | true ↦ λ same. subst (λ w. Are w kept) (same_word_true word q same) are
              | false ↦ λ _. keeps.each q
            ]) refl in
            subst (λ (found : Option WordMembers). IfSome found (Are q)) (sym (puts.each q)) here;
      };
      here =
          let found : found_in word new ≡ Some kept = puts.each word ∙ ap (λ b. cond b (Some kept) (found_in word old)) (same_word_self word) in
          ap (λ (f : Option WordMembers). is_some f) found;
    }

-- What is said of a read.

with_is : (board : Board) (table : Table) (word : Dword) (r : OpId) (beside : Option OpId) → said_beside board table word r beside ≡ said_with board table word (filter (λ w. is_before board table w r) (members board table word)) beside
with_is board table word r None = refl
with_is board table word r (Some w) = refl

pub read_is : (board : Board) (table : Table) (word : Dword) (r : OpId) (writes : List WordWrite) (beside : Option OpId) → AreWrites board word (members board table word) writes → beside ≡ find (is_beside board table r) (map op_in writes)
    → said_with board table word (filter (λ w. is_before board table w r) (map op_in writes))
    (option_or beside (find (is_open board table (filter (λ w. is_before board table w r) (map op_in writes))) (filter (λ w. is_before board table w r) (map op_in writes))))
    ≡ said_beside board table word r (first_beside board table word r)
read_is board table word r writes beside are is =
    let earlier : List OpId → List OpId = λ os. filter (λ w. is_before board table w r) os in
    let F : Option OpId → List OpId → Verdict = λ b os. said_with board table word (earlier os) (option_or b (find (is_open board table (earlier os)) (earlier os))) in
    let G : List OpId → Verdict = λ os. F (find (is_beside board table r) os) os in
    ap (λ b. F b (map op_in writes)) is ∙ ap G are.ops_are ∙ sym (with_is board table word r (first_beside board table word r))
