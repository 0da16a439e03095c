-- Writes of a word that are put in the order in which they land, and what they leave.
use Rattle.std.proofs.Common.{◌≡◌, ℕ, zero, suc, ◌+◌, ◌-◌, ◌<◌, ◌≤◌, Bool, true, false, List, [], ◌∷◌, ◌++◌, length, drop, take, get_or, map, fold, nat_lt, length-append, refl, sym, ap, subst, ◌∙◌, arith}
use Rattle.std.proofs.Math.Seq.{drop-cons, get_or-append_seam}
use Rattle.std.proofs.lemmas.List.{take_all, take_more, map-append}
use Rattle.std.proofs.lemmas.List.Sums.{fold-append}
use Rattle.std.proofs.lemmas.Bool.Decides.{nat_tests}
use Rattle.std.proofs.Math.ListN.{get_or-append}
use Rattle.std.specs.List.{AllByRecursion}
use Rattle.pci_command.specs.declared.phases.Phase.{Phase}
use Rattle.pci_command.specs.declared.op_id.OpId.{OpId}
use Rattle.board_model.specs.declared.board.Board.{Board}
use Rattle.board_model.specs.Ways.{Dword}
use Rattle.board_model.specs.device.Registers.{merge_of}
use Rattle.history_model.specs.Words.{Landing, mask_in, opens_as, merged}
use Rattle.safe_model.specs.Raisers.{phases_to}
use Rattle.safe_model.specs.Clocks.{Table}
use Rattle.safe_model.specs.said.Said.{put, in_order, all_landings, left_by}
use Rattle.board_writes.specs.declared.writers.write.WordWrite.{WordWrite}
use Rattle.board_writes.specs.Writes.{op_in, IsWordWrite}
use Rattle.safe_said.specs.Landing.{put_all, PutsAll, Sorts}
use Rattle.board_writes.specs.Stretches.{joined}
use Rattle.safe_said.specs.Members.{AreLeft}

-- Runs of writes, put from the last on.

pub each_get : {X : Type 0} (P : X → Type 0) (xs : List X) (j : ℕ) (d : X) → j < length xs → AllByRecursion P xs → P (get_or xs j d)
each_get P [] j d within each = absurd (omega (arith, within))
each_get P (x ∷ xs) zero d within each = each.0
each_get P (x ∷ xs) (suc j) d within each = each_get P xs j d (omega (arith, within)) each.1

each_parts : {X : Type 0} (P : X → Type 0) (xs ys : List X) → AllByRecursion P (xs ++ ys) → AllByRecursion P xs × AllByRecursion P ys
each_parts P [] ys each = (tt, each)
each_parts P (x ∷ xs) ys each = let two = each_parts P xs ys each.1 in ((each.0, two.0), two.1)

each_take : {X : Type 0} (P : X → Type 0) (n : ℕ) (xs : List X) → AllByRecursion P xs → AllByRecursion P (take n xs)
each_take P zero xs each = tt
each_take P (suc n) [] each = tt
each_take P (suc n) (x ∷ xs) each = (each.0, each_take P n xs each.1)

order_append : (board : Board) (table : Table) (xs ys : List OpId) → in_order board table (xs ++ ys) ≡ put_all board table xs (in_order board table ys)
order_append board table [] ys = refl
order_append board table (x ∷ xs) ys = ap (put board table x) (order_append board table xs ys)

pub sorts_none : (board : Board) (table : Table) (writes list : List WordWrite) → writes ≡ [] → list ≡ [] → Sorts board table writes list
sorts_none board table writes list none empty =
    let N : List WordWrite → List WordWrite → Type 0 = λ ws l. Sorts board table ws l in
    let start : Sorts board table [] [] = record { ops = refl; each = λ word each. each } in
    subst (λ ws. N ws list) (sym none) (subst (N []) (sym empty) start)

sorts_next : (board : Board) (table : Table) (run rest list next : List WordWrite) → Sorts board table rest list → PutsAll board table run list next → Sorts board table (run ++ rest) next
sorts_next board table run rest list next sorts puts =
    record {
      ops =
          puts.ops
          ∙ ap (put_all board table (map op_in run)) sorts.ops
          ∙ sym (order_append board table (map op_in run) (map op_in rest))
          ∙ ap (in_order board table) (sym (map-append op_in run rest));
      each = λ word each.
          let two = each_parts (IsWordWrite board word) run rest each in
          puts.each word two.0 (sorts.each word two.1);
    }

pub sorts_more : (board : Board) (table : Table) (runs : List (List WordWrite)) (list next : List WordWrite) (behind : ℕ) (d : List WordWrite) → behind < length runs
    → Sorts board table (joined (drop (length runs - behind) runs)) list → PutsAll board table (get_or runs (length runs - 1 - behind) d) list next
    → Sorts board table (joined (drop (length runs - (behind + 1)) runs)) next
sorts_more board table runs list next behind d within sorts puts =
    let place : ℕ = length runs - (behind + 1) in
    let inside : place < length runs = omega (arith, within) in
    let same : length runs - 1 - behind ≡ place = omega (arith, within) in
    let after : length runs - behind ≡ suc place = omega (arith, within) in
    let before : Sorts board table (joined (drop (suc place) runs)) list = subst (λ n. Sorts board table (joined (drop n runs)) list) after sorts in
    let put_here : PutsAll board table (get_or runs place d) list next = subst (λ n. PutsAll board table (get_or runs n d) list next) same puts in
    subst (λ (rs : List (List WordWrite)). Sorts board table (joined rs) next) (sym (drop-cons runs place d inside)) (sorts_next board table (get_or runs place d) (joined (drop (suc place) runs)) list next before put_here)

-- What they leave.

pub left_from : (board : Board) (word : Dword) (value : ℕ) (writes : List WordWrite) → AllByRecursion (IsWordWrite board word) writes
    → merged word value (all_landings board word (map op_in writes)) ≡ fold (λ v (write : WordWrite). merge_of v write.phase (mask_in word.space word.address)) value writes
left_from board word value [] each = refl
left_from board word value (write ∷ writes) each =
    let to : Phase → Landing = λ phase. record { op = write.op; phase = phase } in
    let F : List Phase → ℕ = λ phases. merged word value (map to phases ++ all_landings board word (map op_in writes)) in
    let here : F (phases_to board word write.op) ≡ F (write.phase ∷ []) = ap F each.0.brings in
    here ∙ left_from board word (merge_of value write.phase (mask_in word.space word.address)) writes each.1

pub left_whole : (board : Board) (word : Dword) (mask value index : ℕ) (writes : List WordWrite) → mask ≡ mask_in word.space word.address → length writes ≤ index → AllByRecursion (IsWordWrite board word) writes
    → value ≡ fold (λ v (write : WordWrite). merge_of v write.phase mask) (opens_as board word) (take index writes) → value ≡ left_by board word (map op_in writes)
left_whole board word mask value index writes mask_is over each is =
    let F : ℕ → List WordWrite → ℕ = λ m ws. fold (λ v (write : WordWrite). merge_of v write.phase m) (opens_as board word) ws in
    is ∙ ap (F mask) (take_all index writes over) ∙ ap (λ m. F m writes) mask_is ∙ sym (left_from board word (opens_as board word) writes each)

-- what the first so many of them leave, as far as it is kept
pub record LeftSo (board : Board) (word : Dword) (mask value index : ℕ) (writes : List WordWrite) (values : List ℕ) : Type 0 where
  pub here : value ≡ fold (λ v (write : WordWrite). merge_of v write.phase mask) (opens_as board word) (take index writes)
  pub all : length values ≡ suc index
  pub each : (count : ℕ) → count ≤ index → get_or values count 0 ≡ fold (λ v (write : WordWrite). merge_of v write.phase mask) (opens_as board word) (take count writes)

pub left_begins : (board : Board) (word : Dword) (mask value : ℕ) (writes : List WordWrite) (values : List ℕ) → value ≡ opens_as board word → values ≡ value ∷ [] → LeftSo board word mask value 0 writes values
left_begins board word mask value writes values opens is =
    record {
      here = opens;
      all = ap (λ (vs : List ℕ). length vs) is;
      each = λ count most.
          let none : count ≡ 0 = omega (arith, most) in
          subst (λ n. get_or values n 0 ≡ fold (λ v (write : WordWrite). merge_of v write.phase mask) (opens_as board word) (take n writes)) (sym none) (ap (λ vs. get_or vs 0 0) is ∙ opens);
    }

pub left_more : (board : Board) (word : Dword) (mask value index next : ℕ) (writes : List WordWrite) (d : WordWrite) (values more : List ℕ) → index < length writes
    → next ≡ merge_of value (get_or writes index d).phase mask → more ≡ values ++ next ∷ [] → LeftSo board word mask value index writes values → LeftSo board word mask next (index + 1) writes more
left_more board word mask value index next writes d values more within is pushed so_far =
    let F : List WordWrite → ℕ = λ ws. fold (λ v (write : WordWrite). merge_of v write.phase mask) (opens_as board word) ws in
    let one_more : suc index ≡ index + 1 = omega arith in
    let ends : next ≡ F (take (index + 1) writes) =
    is ∙ ap (λ v. merge_of v (get_or writes index d).phase mask) so_far.here ∙ sym (ap F (take_more writes index d within) ∙ fold-append (λ v (write : WordWrite). merge_of v write.phase mask) (opens_as board word) (take index writes) (get_or writes index d ∷ [])) in
    let longer : suc index + 1 ≡ suc (index + 1) = omega arith in
    record {
      here = ends;
      all = ap (λ (vs : List ℕ). length vs) pushed ∙ length-append values (next ∷ []) ∙ ap (λ n. n + 1) so_far.all ∙ longer;
      each = λ count most.
          let P : Bool → Type 0 = λ t. nat_lt count (suc index) ≡ t → get_or more count 0 ≡ F (take count writes) in
          (elim (nat_lt count (suc index)) as P [
            | true ↦ λ lt.
                let below : count < suc index = grind (arith, nat_tests) in
                ap (λ vs. get_or vs count 0) pushed ∙ get_or-append values (next ∷ []) 0 count (omega (arith, below, so_far.all)) ∙ so_far.each count (omega (arith, below))
            | false ↦ λ ge.
                let past : suc index ≤ count = grind (arith, nat_tests) in
                let at_end : count ≡ index + 1 = omega (arith, past, most) in
                let place : count ≡ length values = omega (arith, at_end, so_far.all) in
                ap (λ vs. get_or vs count 0) pushed ∙ ap (λ n. get_or (values ++ next ∷ []) n 0) place ∙ get_or-append_seam values next [] 0 ∙ ends ∙ ap (λ n. F (take n writes)) (sym at_end)
          ]) refl;
    }

pub left_ends : (board : Board) (word : Dword) (mask value index : ℕ) (writes : List WordWrite) (values : List ℕ) → mask ≡ mask_in word.space word.address → index ≡ length writes → AllByRecursion (IsWordWrite board word) writes
    → LeftSo board word mask value index writes values → AreLeft board word writes values
left_ends board word mask value index writes values mask_is over each so_far =
    record {
      all = so_far.all ∙ ap (λ n. suc n) over;
      each = λ count most.
          so_far.each count (omega (arith, most, over))
          ∙ ap (λ m. fold (λ v (write : WordWrite). merge_of v write.phase m) (opens_as board word) (take count writes)) mask_is
          ∙ sym (left_from board word (opens_as board word) (take count writes) (each_take (IsWordWrite board word) count writes each));
    }
