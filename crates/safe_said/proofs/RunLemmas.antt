-- Runs of writes, in each of which a write lands no more once the next one does: put among others, and before and behind a read.
use Rattle.std.proofs.Common.{◌≡◌, ℕ, zero, suc, ◌+◌, ◌-◌, ◌<◌, ◌≤◌, Bool, true, false, not, ◌&&◌, cond, List, [], ◌∷◌, ◌++◌, append_assoc, append-nil, nat_lt, length, take, drop, get_or, slice_get, map, Some, None, refl, sym, ap, subst, ◌∙◌, arith}
use Rattle.std.proofs.Math.Seq.{drop-cons}
use Rattle.std.proofs.lemmas.List.{map-append, take_all, take-append-drop, drop_all, get_or_default}
use Rattle.std.proofs.lemmas.Bool.Decides.{nat_tests}
use Rattle.std.proofs.lemmas.Bool.{and_parts}
use Rattle.std.specs.List.{filter, find, prefix_len, AllByRecursion}
use Rattle.std.specs.List.Sorted.{IsPartitionedBy, IsPartitionPoint}
use Rattle.list_facts.proofs.EachLemmas.{Each-weaker, Each-append, Each-push}
use Rattle.list_facts.proofs.FindLemmas.{find-append_none, find-append_found}
use Rattle.pci_command.specs.declared.op_id.OpId.{OpId}
use Rattle.board_model.specs.declared.board.Board.{Board}
use Rattle.board_model.specs.Ways.{Dword}
use Rattle.safe_model.specs.Clocks.{Table, clock_of, IsBefore, LandsNoMore, lands_once, stands_before, had_ended}
use Rattle.safe_model.specs.largest.Tests.{is_before, lands_no_more}
use Rattle.safe_model.specs.largest.Largest.{IsLargest}
use Rattle.safe_model.specs.said.Said.{put, is_beside, left_by}
use Rattle.safe_model.proofs.largest.Laws.{no_more_is, before_is, is_before_so, clock_rises, largest_rises, clocks_closed}
use Rattle.board_writes.specs.declared.writers.write.WordWrite.{WordWrite}
use Rattle.board_writes.specs.Writes.{op_in, IsWordWrite}
use Rattle.safe_said.specs.Landing.{put_all, PutsAll, no_more_next, is_chained, AreChained}
use Rattle.board_writes.specs.Stretches.{joined}
use Rattle.safe_said.specs.Members.{beside_at, WordMembers, AreMembers}
use Rattle.safe_said.proofs.ChainLemmas.{NoMore, Chain, chain_of, through}

-- Parts of lists.

pub split_front : (xs : List WordWrite) (d : WordWrite) → 1 ≤ length xs → xs ≡ get_or xs 0 d ∷ take (length xs - 1) (drop 1 xs)
split_front [] d some = absurd (omega (arith, some))
split_front (x ∷ xs) d some =
    let less : suc (length xs) - 1 ≡ length xs = omega arith in
    let whole : take (suc (length xs) - 1) xs ≡ xs = ap (λ n. take n xs) less ∙ take_all (length xs) xs (omega arith) in
    ap (λ (ws : List WordWrite). x ∷ ws) (sym whole)

pub none_left : (xs : List WordWrite) → length xs < 1 → xs ≡ []
none_left [] less = refl
none_left (x ∷ xs) less = absurd (omega (arith, less))

ops_take : (n : ℕ) (xs : List WordWrite) → map op_in (take n xs) ≡ take n (map op_in xs)
ops_take zero xs = refl
ops_take (suc n) [] = refl
ops_take (suc n) (x ∷ xs) = ap (λ (os : List OpId). x.op ∷ os) (ops_take n xs)

pub op_at : (run : List WordWrite) (count : ℕ) (w : WordWrite) → count < length run → w ≡ get_or run count w → slice_get (map op_in run) count ≡ Some w.op
op_at [] count w within is = absurd (omega (arith, within))
op_at (x ∷ run) zero w within is = ap (λ (v : WordWrite). Some v.op) (sym is)
op_at (x ∷ run) (suc count) w within is = op_at run count w (omega (arith, within)) is

pub no_op_at : (run : List WordWrite) (count : ℕ) → length run ≤ count → slice_get (map op_in run) count ≡ None
no_op_at [] count past = refl
no_op_at (x ∷ run) zero past = absurd (omega (arith, past))
no_op_at (x ∷ run) (suc count) past = no_op_at run count (omega (arith, past))

joined_append : (xs ys : List (List WordWrite)) → joined (xs ++ ys) ≡ joined xs ++ joined ys
joined_append [] ys = refl
joined_append (x ∷ xs) ys = ap (λ ws. x ++ ws) (joined_append xs ys) ∙ sym (append_assoc x (joined xs) (joined ys))

-- A run is put among others.

module _ (board : Board) (table : Table) where
  put_next : (a : OpId) (xs : List OpId) → no_more_next board table a xs ≡ true → put board table a xs ≡ a ∷ xs
  put_next a [] is = refl
  put_next a (b ∷ rest) is = ap (λ t. cond t (a ∷ b ∷ rest) (b ∷ put board table a rest)) is

  put_behind : (a b : OpId) (xs : List OpId) → lands_no_more board table a b ≡ false → put board table a (b ∷ xs) ≡ b ∷ put board table a xs
  put_behind a b xs none = ap (λ t. cond t (a ∷ b ∷ xs) (b ∷ put board table a xs)) none

  next_put : (a x : OpId) (xs : List OpId) → NoMore board table a x → no_more_next board table a xs ≡ true → no_more_next board table a (put board table x xs) ≡ true
  next_put a x [] more is = more
  next_put a x (b ∷ rest) more is =
      let P : Bool → Type 0 = λ t. no_more_next board table a (cond t (x ∷ b ∷ rest) (b ∷ put board table x rest)) ≡ true in
      elim (lands_no_more board table x b) as P [ true ↦ more | false ↦ is ]

  next_all : (a : OpId) (writes list : List OpId) → AllByRecursion (NoMore board table a) writes → no_more_next board table a list ≡ true → no_more_next board table a (put_all board table writes list) ≡ true
  next_all a [] list each is = is
  next_all a (w ∷ writes) list each is = next_put a w (put_all board table writes list) each.0 (next_all a writes list each.1 is)

  takes_first : (a : OpId) (writes list : List OpId) → Chain board table (a ∷ writes) → no_more_next board table a list ≡ true → put_all board table (a ∷ writes) list ≡ a ∷ put_all board table writes list
  takes_first a writes list chain is = put_next a (put_all board table writes list) (next_all a writes list chain.0 is)

  takes_other : (b : OpId) (writes list : List OpId) → AllByRecursion (λ (x : OpId). lands_no_more board table x b ≡ false) writes → put_all board table writes (b ∷ list) ≡ b ∷ put_all board table writes list
  takes_other b [] list each = refl
  takes_other b (w ∷ writes) list each = ap (put board table w) (takes_other b writes list each.1) ∙ put_behind w b (put_all board table writes list) each.0

  not_behind : IsLargest board table → (a b : OpId) (writes : List OpId) → Chain board table (a ∷ writes) → lands_no_more board table a b ≡ false → AllByRecursion (λ (x : OpId). lands_no_more board table x b ≡ false) (a ∷ writes)
  not_behind is_largest a b writes chain none =
      let later : (x : OpId) → NoMore board table a x → lands_no_more board table x b ≡ false = λ x more.
      let P : Bool → Type 0 = λ t. lands_no_more board table x b ≡ t → lands_no_more board table x b ≡ false in
      (elim (lands_no_more board table x b) as P [
        | true ↦ λ is. let clash : true ≡ false = sym (through board table is_largest a x b more is) ∙ none in cc
        | false ↦ λ is. is
      ]) refl in
      (none, Each-weaker (NoMore board table a) (λ (x : OpId). lands_no_more board table x b ≡ false) later writes chain.0)

  -- some writes of a run and of others are put where they land, and these are left
  pub record Merging (run list all ahead behind : List WordWrite) : Type 0 where
    pub ops : map op_in all ++ put_all board table (map op_in ahead) (map op_in behind) ≡ put_all board table (map op_in run) (map op_in list)
    pub chain : Chain board table (map op_in ahead)
    pub each : (word : Dword) → AllByRecursion (IsWordWrite board word) run → AllByRecursion (IsWordWrite board word) list
        → AllByRecursion (IsWordWrite board word) all × AllByRecursion (IsWordWrite board word) ahead × AllByRecursion (IsWordWrite board word) behind

  pub merging_begins : IsLargest board table → (run list all : List WordWrite) → is_chained board table (map op_in run) ≡ true → all ≡ [] → Merging run list all run list
  merging_begins is_largest run list all chained none =
      let start : Merging run list [] run list = record { ops = refl; chain = chain_of board table is_largest (map op_in run) chained; each = λ word here there. (tt, here, there) } in
      subst (λ ws. Merging run list ws run list) (sym none) start

  moved : (all : List WordWrite) (write : WordWrite) (rest : List OpId) → map op_in (all ++ write ∷ []) ++ rest ≡ map op_in all ++ write.op ∷ rest
  moved all write rest = ap (λ os. os ++ rest) (map-append op_in all (write ∷ [])) ∙ append_assoc (map op_in all) (write.op ∷ []) rest

  pub own_moved : (run list all ahead behind next : List WordWrite) (write : WordWrite) (others : List WordWrite) → ahead ≡ write ∷ others → no_more_next board table write.op (map op_in behind) ≡ true → next ≡ all ++ write ∷ []
      → Merging run list all ahead behind → Merging run list next others behind
  own_moved run list all ahead behind next write others split more is so_far =
      let before : Merging run list all (write ∷ others) behind = subst (λ ws. Merging run list all ws behind) split so_far in
      let rest : List OpId = put_all board table (map op_in others) (map op_in behind) in
      let moves : Merging run list (all ++ write ∷ []) others behind = record {
        ops =
            moved all write rest
            ∙ ap (λ os. map op_in all ++ os) (sym (takes_first write.op (map op_in others) (map op_in behind) before.chain more))
            ∙ before.ops;
        chain = before.chain.1;
        each = λ word here there.
            let three = before.each word here there in
            (Each-push (IsWordWrite board word) all write three.0 three.1.0, three.1.1, three.2);
      } in
      subst (λ ws. Merging run list ws others behind) (sym is) moves

  pub other_moved : IsLargest board table → (run list all ahead behind next : List WordWrite) (write : WordWrite) (others : List WordWrite) (other : WordWrite) (rest : List WordWrite) → ahead ≡ write ∷ others → behind ≡ other ∷ rest
      → no_more_next board table write.op (map op_in behind) ≡ false → next ≡ all ++ other ∷ [] → Merging run list all ahead behind → Merging run list next ahead rest
  other_moved is_largest run list all ahead behind next write others other rest split cut none is so_far =
      let at_once : Merging run list all (write ∷ others) behind = subst (λ ws. Merging run list all ws behind) split so_far in
      let before : Merging run list all (write ∷ others) (other ∷ rest) = subst (λ ws. Merging run list all (write ∷ others) ws) cut at_once in
      let not_more : lands_no_more board table write.op other.op ≡ false = subst (λ (ws : List WordWrite). no_more_next board table write.op (map op_in ws) ≡ false) cut none in
      let each : AllByRecursion (λ (x : OpId). lands_no_more board table x other.op ≡ false) (map op_in (write ∷ others)) = not_behind is_largest write.op other.op (map op_in others) before.chain not_more in
      let left : List OpId = put_all board table (map op_in (write ∷ others)) (map op_in rest) in
      let moves : Merging run list (all ++ other ∷ []) (write ∷ others) rest = record {
        ops =
            moved all other left
            ∙ ap (λ os. map op_in all ++ os) (sym (takes_other other.op (map op_in (write ∷ others)) (map op_in rest) each))
            ∙ before.ops;
        chain = before.chain;
        each = λ word here there.
            let three = before.each word here there in
            (Each-push (IsWordWrite board word) all other three.0 three.2.0, three.1, three.2.1);
      } in
      let again : Merging run list (all ++ other ∷ []) ahead rest = subst (λ ws. Merging run list (all ++ other ∷ []) ws rest) (sym split) moves in
      subst (λ ws. Merging run list ws ahead rest) (sym is) again

  pub own_first : (run list all ahead behind next : List WordWrite) (d e : WordWrite) → 1 ≤ length ahead → no_more_next board table (get_or ahead 0 e).op (map op_in behind) ≡ true → next ≡ all ++ get_or ahead 0 d ∷ []
      → Merging run list all ahead behind → Merging run list next (take (length ahead - 1) (drop 1 ahead)) behind
  own_first run list all ahead behind next d e some more is so_far =
      let same : get_or ahead 0 e ≡ get_or ahead 0 d = get_or_default ahead 0 e d (omega (arith, some)) in
      own_moved run list all ahead behind next (get_or ahead 0 d) (take (length ahead - 1) (drop 1 ahead)) (split_front ahead d some)
      (subst (λ (w : WordWrite). no_more_next board table w.op (map op_in behind) ≡ true) same more) is so_far

  pub other_first : IsLargest board table → (run list all ahead behind next : List WordWrite) (d e : WordWrite) → 1 ≤ length ahead → 1 ≤ length behind → no_more_next board table (get_or ahead 0 e).op (map op_in behind) ≡ false
      → next ≡ all ++ get_or behind 0 d ∷ [] → Merging run list all ahead behind → Merging run list next ahead (take (length behind - 1) (drop 1 behind))
  other_first is_largest run list all ahead behind next d e some more none is so_far =
      other_moved is_largest run list all ahead behind next (get_or ahead 0 e) (take (length ahead - 1) (drop 1 ahead)) (get_or behind 0 d) (take (length behind - 1) (drop 1 behind))
      (split_front ahead e some) (split_front behind d more) none is so_far

  pub merging_ends : (run list all ahead behind next : List WordWrite) → ahead ≡ [] → next ≡ all ++ behind → Merging run list all ahead behind → PutsAll board table run list next
  merging_ends run list all ahead behind next none is so_far =
      let done : Merging run list all [] behind = subst (λ ws. Merging run list all ws behind) none so_far in
      record {
        ops = ap (map op_in) is ∙ map-append op_in all behind ∙ done.ops;
        each = λ word here there.
            let three = done.each word here there in
            subst (AllByRecursion (IsWordWrite board word)) (sym is) (Each-append (IsWordWrite board word) all behind three.0 three.2);
      }

-- How long a run is.

pub chained_more : (board : Board) (table : Table) (writes : List WordWrite) (n : ℕ) (d e : WordWrite) → suc n < length writes → is_chained board table (map op_in (take (suc n) writes)) ≡ true
    → lands_no_more board table (get_or writes n d).op (get_or writes (suc n) e).op ≡ true → is_chained board table (map op_in (take (suc (suc n)) writes)) ≡ true
chained_more board table [] n d e within is more = absurd (omega (arith, within))
chained_more board table (w ∷ []) n d e within is more = absurd (omega (arith, within))
chained_more board table (w ∷ x ∷ writes) zero d e within is more = ap (λ t. t && true) more
chained_more board table (w ∷ x ∷ writes) (suc n) d e within is more =
    let two = and_parts (lands_no_more board table w.op x.op) (is_chained board table (map op_in (take (suc n) (x ∷ writes)))) is in
    let later : is_chained board table (map op_in (take (suc (suc n)) (x ∷ writes))) ≡ true = chained_more board table (x ∷ writes) n d e (omega (arith, within)) two.1 more in
    ap (λ t. t && is_chained board table (map op_in (take (suc (suc n)) (x ∷ writes)))) two.0 ∙ later

pub chained_next : (board : Board) (table : Table) (writes : List WordWrite) (count : ℕ) (d e : WordWrite) → 0 < count → count < length writes → is_chained board table (map op_in (take count writes)) ≡ true
    → lands_no_more board table (get_or writes (count - 1) d).op (get_or writes count e).op ≡ true → is_chained board table (map op_in (take (count + 1) writes)) ≡ true
chained_next board table writes count d e some within is more =
    let n : ℕ = count - 1 in
    let at : count ≡ suc n = omega (arith, some) in
    let last : suc (suc n) ≡ count + 1 = omega (arith, at) in
    let is_here : is_chained board table (map op_in (take (suc n) writes)) ≡ true = subst (λ k. is_chained board table (map op_in (take k writes)) ≡ true) at is in
    let more_here : lands_no_more board table (get_or writes n d).op (get_or writes (suc n) e).op ≡ true = subst (λ k. lands_no_more board table (get_or writes n d).op (get_or writes k e).op ≡ true) at more in
    subst (λ k. is_chained board table (map op_in (take k writes)) ≡ true) last (chained_more board table writes n d e (omega (arith, at, within)) is_here more_here)

pub runs_more : (board : Board) (table : Table) (writes left front behind : List WordWrite) (runs next : List (List WordWrite)) (run : List WordWrite) (count : ℕ) → next ≡ runs ++ run ∷ [] → run ≡ front → front ≡ take count left → behind ≡ drop count left
    → is_chained board table (map op_in (take count left)) ≡ true → joined runs ++ left ≡ writes → AreChained board table runs → (joined next ++ behind ≡ writes) × AreChained board table next
runs_more board table writes left front behind runs next run count pushed same is rest chained all each =
    let run_is : run ≡ take count left = same ∙ is in
    let Chained : List WordWrite → Type 0 = λ ws. is_chained board table (map op_in ws) ≡ true in
    let one : joined (run ∷ []) ≡ run = append-nil run in
    let whole : run ++ behind ≡ left = ap (λ ws. ws ++ behind) run_is ∙ ap (λ ws. take count left ++ ws) rest ∙ take-append-drop count left in (
      ap (λ rs. joined rs ++ behind) pushed
          ∙ ap (λ ws. ws ++ behind) (joined_append runs (run ∷ []) ∙ ap (λ ws. joined runs ++ ws) one)
          ∙ append_assoc (joined runs) run behind
          ∙ ap (λ ws. joined runs ++ ws) whole
          ∙ all,
      subst (AreChained board table) (sym pushed) (Each-push Chained runs run each (subst Chained (sym run_is) chained)),
    )

-- Before and behind a read.

module _ (board : Board) (table : Table) (is_largest : IsLargest board table) where
  -- what lands no more once a write does comes after less
  clock_up : (a b : OpId) → LandsNoMore board table a b → (other : ℕ) → clock_of board table a other ≤ clock_of board table b other
  clock_up a b (lands_once posted is) other = clocks_closed board table is_largest a b is other
  clock_up a b (stands_before masters below) other = clock_rises board table (largest_rises board table is_largest) a b masters (omega (arith, below)) other
  clock_up a b (had_ended is) other =
      let less : a.index + 1 < clock_of board table b a.master = is in
      let below : a.index < clock_of board table b a.master = omega (arith, less) in
      clocks_closed board table is_largest a b below other

  before_up : (a b r : OpId) → LandsNoMore board table a b → IsBefore board table b r → IsBefore board table a r
  before_up a b r (lands_once posted is) before =
      let less : a.index < clock_of board table b a.master = is in
      let most = clocks_closed board table is_largest b r before a.master in
      omega (arith, less, most)
  before_up a b r (stands_before masters below) before =
      let less : b.index < clock_of board table r b.master = before in
      let moved_to : b.index < clock_of board table r a.master = subst (λ m. b.index < clock_of board table r m) (sym masters) less in
      omega (arith, below, moved_to)
  before_up a b r (had_ended is) before =
      let less : a.index + 1 < clock_of board table b a.master = is in
      let most = clocks_closed board table is_largest b r before a.master in
      omega (arith, less, most)

  -- so does one before it
  pub before_through : (a b r : OpId) → NoMore board table a b → is_before board table b r ≡ true → is_before board table a r ≡ true
  before_through a b r more before = is_before_so board table a r (before_up a b r (no_more_is board table a b more) (before_is board table b r before))

  -- and who comes before the first comes before the second
  pub behind_through : (a b r : OpId) → NoMore board table a b → is_before board table r a ≡ true → is_before board table r b ≡ true
  behind_through a b r more before =
      let less : r.index < clock_of board table a r.master = before_is board table r a before in
      let most = clock_up a b (no_more_is board table a b more) r.master in
      let so : r.index < clock_of board table b r.master = omega (arith, less, most) in
      is_before_so board table r b so

  not_before : (a b r : OpId) → NoMore board table a b → is_before board table a r ≡ false → is_before board table b r ≡ false
  not_before a b r more none =
      let P : Bool → Type 0 = λ t. is_before board table b r ≡ t → is_before board table b r ≡ false in
      (elim (is_before board table b r) as P [
        | true ↦ λ is. let clash : true ≡ false = sym (before_through a b r more is) ∙ none in cc
        | false ↦ λ is. is
      ]) refl

  and_no : (b : Bool) → (b && false) ≡ false
  and_no true = refl
  and_no false = refl

  each_at : (P : OpId → Type 0) (run : List WordWrite) (j : ℕ) (d : WordWrite) → AllByRecursion P (map op_in run) → j < length run → P (get_or run j d).op
  each_at P [] j d each within = absurd (omega (arith, within))
  each_at P (w ∷ run) zero d each within = each.0
  each_at P (w ∷ run) (suc j) d each within = each_at P run j d each.1 (omega (arith, within))

  none_kept : (test : OpId → Bool) (xs : List OpId) → AllByRecursion (λ (x : OpId). test x ≡ false) xs → filter test xs ≡ []
  none_kept test [] each = refl
  none_kept test (x ∷ xs) each = ap (λ t. cond t (x ∷ filter test xs) (filter test xs)) each.0 ∙ none_kept test xs each.1

  none_found : (test : OpId → Bool) (xs : List OpId) → AllByRecursion (λ (x : OpId). test x ≡ false) xs → find test xs ≡ None
  none_found test [] each = refl
  none_found test (x ∷ xs) each = ap (λ t. cond t (Some x) (find test xs)) each.0 ∙ none_found test xs each.1

  module _ (r : OpId) where
    -- those before the read stand first
    pub front_is : (xs : List OpId) → Chain board table xs → filter (λ w. is_before board table w r) xs ≡ take (prefix_len (λ w. is_before board table w r) xs) xs
    front_is [] chain = refl
    front_is (x ∷ xs) chain =
        let n : ℕ = prefix_len (λ w. is_before board table w r) xs in
        let one_more : suc n ≡ 1 + n = omega arith in
        let P : Bool → Type 0 = λ t. is_before board table x r ≡ t → cond t (x ∷ filter (λ w. is_before board table w r) xs) (filter (λ w. is_before board table w r) xs) ≡ take (cond t (1 + n) 0) (x ∷ xs) in
        (elim (is_before board table x r) as P [
          | true ↦ λ _. subst (λ k. x ∷ filter (λ w. is_before board table w r) xs ≡ take k (x ∷ xs)) one_more (ap (λ (os : List OpId). x ∷ os) (front_is xs chain.1))
          | false ↦ λ none. none_kept (λ w. is_before board table w r) xs (Each-weaker (NoMore board table x) (λ (y : OpId). is_before board table y r ≡ false) (λ y more. not_before x y r more none) xs chain.0)
        ]) refl

    -- the first behind them is the first beside the read, or none is
    pub beside_is : (xs : List OpId) → Chain board table xs → beside_at board table r (slice_get xs (prefix_len (λ w. is_before board table w r) xs)) ≡ find (is_beside board table r) xs
    beside_is [] chain = refl
    beside_is (x ∷ xs) chain =
        let n : ℕ = prefix_len (λ w. is_before board table w r) xs in
        let one_more : suc n ≡ 1 + n = omega arith in
        let P : Bool → Type 0 = λ t. beside_at board table r (slice_get (x ∷ xs) (cond t (1 + n) 0)) ≡ cond (not t && not (is_before board table r x)) (Some x) (find (is_beside board table r) xs) in
        let Q : Bool → Type 0 = λ t. is_before board table r x ≡ t → cond t None (Some x) ≡ cond (not t) (Some x) (find (is_beside board table r) xs) in
        let here : Q (is_before board table r x) = elim (is_before board table r x) as Q [
          | true ↦ λ is. sym (none_found (is_beside board table r) xs (Each-weaker (NoMore board table x) (λ (y : OpId). is_beside board table r y ≡ false) (λ y more. ap (λ t. not (is_before board table y r) && not t) (behind_through x y r more is) ∙ and_no (not (is_before board table y r))) xs chain.0))
          | false ↦ λ _. refl
        ] in
        elim (is_before board table x r) as P [
          | true ↦ subst (λ k. beside_at board table r (slice_get (x ∷ xs) k) ≡ find (is_beside board table r) xs) one_more (beside_is xs chain.1)
          | false ↦ here refl
        ]

    -- what a binary search for them asks
    pub is_parted : (run : List WordWrite) → Chain board table (map op_in run) → IsPartitionedBy (λ (w : WordWrite). is_before board table w.op r) run
    is_parted [] chain i j d order within passed = absurd (omega (arith, within))
    is_parted (w ∷ run) chain zero zero d order within passed = passed
    is_parted (w ∷ run) chain zero (suc j) d order within passed =
        let more : NoMore board table w.op (get_or run j d).op = each_at (NoMore board table w.op) run j d chain.0 (omega (arith, within)) in
        before_through w.op (get_or run j d).op r more passed
    is_parted (w ∷ run) chain (suc i) zero d order within passed = absurd (omega (arith, order))
    is_parted (w ∷ run) chain (suc i) (suc j) d order within passed = is_parted run chain.1 i j d (omega (arith, order)) (omega (arith, within)) passed

-- what it finds
pub point_is : (test : OpId → Bool) (run : List WordWrite) (count : ℕ) → count ≤ length run → IsPartitionPoint (λ (w : WordWrite). test w.op ≡ true) (λ (w : WordWrite). test w.op ≡ false) run count
    → count ≡ prefix_len test (map op_in run)
point_is test [] zero within point = refl
point_is test [] (suc count) within point = absurd (omega (arith, within))
point_is test (w ∷ run) zero within point = sym (ap (λ t. cond t (1 + prefix_len test (map op_in run)) 0) (point.1 0 w (omega arith) (omega arith)))
point_is test (w ∷ run) (suc count) within point =
    let later : count ≡ prefix_len test (map op_in run) = point_is test run count (omega (arith, within)) (λ k d low high. point.0 (suc k) d (omega arith) (omega (arith, high)), λ k d low high. point.1 (suc k) d (omega (arith, low)) (omega (arith, high))) in
    let one_more : suc count ≡ 1 + prefix_len test (map op_in run) = omega (arith, later) in
    one_more ∙ sym (ap (λ t. cond t (1 + prefix_len test (map op_in run)) 0) (point.0 0 w (omega arith) (omega arith)))

-- By a run.

pub some_beside : (board : Board) (table : Table) → IsLargest board table → (r : OpId) (run : List WordWrite) (count : ℕ) (w : WordWrite) (b : Bool) → is_chained board table (map op_in run) ≡ true → count ≡ prefix_len (λ o. is_before board table o r) (map op_in run)
    → count < length run → w ≡ get_or run count w → is_before board table r w.op ≡ b → cond b None (Some w.op) ≡ find (is_beside board table r) (map op_in run)
some_beside board table is_largest r run count w b chained count_is within is before =
    ap (λ t. cond t None (Some w.op)) (sym before)
    ∙ ap (beside_at board table r) (sym (op_at run count w within is))
    ∙ ap (λ n. beside_at board table r (slice_get (map op_in run) n)) count_is
    ∙ beside_is board table is_largest r (map op_in run) (chain_of board table is_largest (map op_in run) chained)

pub none_beside : (board : Board) (table : Table) → IsLargest board table → (r : OpId) (run : List WordWrite) (count : ℕ) → is_chained board table (map op_in run) ≡ true → count ≡ prefix_len (λ o. is_before board table o r) (map op_in run)
    → nat_lt count (length run) ≡ false → None ≡ find (is_beside board table r) (map op_in run)
none_beside board table is_largest r run count chained count_is ge =
    let past : length run ≤ count = grind (arith, nat_tests) in
    ap (beside_at board table r) (sym (no_op_at run count past))
    ∙ ap (λ n. beside_at board table r (slice_get (map op_in run) n)) count_is
    ∙ beside_is board table is_largest r (map op_in run) (chain_of board table is_largest (map op_in run) chained)

-- By run after run.

pub found_among : (test : OpId → Bool) (runs : List (List WordWrite)) (i : ℕ) (item run : List WordWrite) (w : OpId) → i < length runs → item ≡ get_or runs i item → run ≡ item → Some w ≡ find test (map op_in run)
    → find test (map op_in (joined (drop i runs))) ≡ find test (map op_in (joined runs)) → Some w ≡ find test (map op_in (joined runs))
found_among test runs i item run w within is same some so_far =
    let first : joined (drop i runs) ≡ run ++ joined (drop (suc i) runs) = ap joined (drop-cons runs i item within) ∙ ap (λ ws. ws ++ joined (drop (suc i) runs)) (sym is ∙ sym same) in
    sym (ap (find test) (ap (map op_in) first ∙ map-append op_in run (joined (drop (suc i) runs))) ∙ find-append_found test (map op_in run) (map op_in (joined (drop (suc i) runs))) w (sym some)) ∙ so_far

pub none_among : (test : OpId → Bool) (runs : List (List WordWrite)) (i : ℕ) (item run : List WordWrite) → i < length runs → item ≡ get_or runs i item → run ≡ item → None ≡ find test (map op_in run)
    → find test (map op_in (joined (drop i runs))) ≡ find test (map op_in (joined runs)) → find test (map op_in (joined (drop (i + 1) runs))) ≡ find test (map op_in (joined runs))
none_among test runs i item run within is same none so_far =
    let first : joined (drop i runs) ≡ run ++ joined (drop (suc i) runs) = ap joined (drop-cons runs i item within) ∙ ap (λ ws. ws ++ joined (drop (suc i) runs)) (sym is ∙ sym same) in
    let one_more : suc i ≡ i + 1 = omega arith in
    let next : find test (map op_in (joined (drop (suc i) runs))) ≡ find test (map op_in (joined runs)) =
    sym (ap (find test) (ap (map op_in) first ∙ map-append op_in run (joined (drop (suc i) runs))) ∙ find-append_none test (map op_in run) (map op_in (joined (drop (suc i) runs))) (sym none)) ∙ so_far in
    subst (λ n. find test (map op_in (joined (drop n runs))) ≡ find test (map op_in (joined runs))) one_more next

pub none_at_all : (test : OpId → Bool) (runs : List (List WordWrite)) (i : ℕ) → length runs ≤ i → find test (map op_in (joined (drop i runs))) ≡ find test (map op_in (joined runs)) → None ≡ find test (map op_in (joined runs))
none_at_all test runs i past so_far = sym (ap (λ rs. find test (map op_in (joined rs))) (drop_all i runs past)) ∙ so_far

-- In a chain.

pub chain_value : (board : Board) (table : Table) → IsLargest board table → (word : Dword) (r : OpId) (kept : WordMembers) (count : ℕ) → AreMembers board table word kept → is_chained board table (map op_in kept.list) ≡ true
    → count ≡ prefix_len (λ o. is_before board table o r) (map op_in kept.list) → count ≤ length kept.list
    → get_or kept.values count 0 ≡ left_by board word (filter (λ o. is_before board table o r) (map op_in kept.list))
chain_value board table is_largest word r kept count are chained count_is within =
    are.values.each count within
    ∙ ap (left_by board word) (ops_take count kept.list ∙ ap (λ n. take n (map op_in kept.list)) count_is ∙ sym (front_is board table is_largest r (map op_in kept.list) (chain_of board table is_largest (map op_in kept.list) chained)))
