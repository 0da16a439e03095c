-- Writes that are settled, put in order, are settled each with those behind it.
use Rattle.std.proofs.Common.{◌≡◌, ◌≢◌, Bool, true, false, not, ◌&&◌, ◌||◌, cond, List, [], ◌∷◌, ◌++◌, map, None, refl, sym, ap, subst, ⊎_elim}
use Rattle.std.specs.List.{find, list_any, AllByRecursion}
use Rattle.std.proofs.lemmas.Bool.{or_left, or_right}
use Rattle.pci_command.specs.declared.phases.Phase.{Phase}
use Rattle.pci_command.specs.declared.op_id.OpId.{OpId}
use Rattle.pci_command.specs.Same.{same_op}
use Rattle.board_model.specs.declared.board.Board.{Board}
use Rattle.board_model.specs.Ways.{Dword}
use Rattle.history_model.specs.Words.{Landing}
use Rattle.history_model.specs.Knowledge.{is_write, is_landing_of}
use Rattle.list_facts.proofs.EachLemmas.{Each-weaker, Each-both}
use Rattle.list_facts.proofs.FindLemmas.{find-none_any}
use Rattle.history_model.proofs.facts.RequestLemmas.{same_op_true, same_op_self}
use Rattle.safe_model.specs.Raisers.{phases_to}
use Rattle.safe_model.specs.Clocks.{Table, IsBefore, LandsNoMore}
use Rattle.safe_model.specs.Safe.{IsMember, Settles, IsSettled}
use Rattle.safe_model.specs.largest.Tests.{lands_no_more}
use Rattle.safe_model.specs.largest.Largest.{IsLargest}
use Rattle.safe_model.specs.said.Said.{is_settled, is_open, put, in_order, landings_of, all_landings}
use Rattle.safe_model.proofs.largest.TestLemmas.{either_way, not_both, no_more_is}
use Rattle.safe_model.proofs.largest.RiseLemmas.{no_more_through}
use Rattle.safe_model.proofs.said.ApartLemmas.{Distinct, brings_one}

-- Lists.

pub none_each : {X : Type 0} (test : X → Bool) (xs : List X) → list_any test xs ≡ false → AllByRecursion (λ (x : X). test x ≡ false) xs
none_each test [] none = tt
none_each test (x ∷ xs) none =
    let P : Bool → Type 0 = λ b. test x ≡ b → (b || list_any test xs) ≡ false → (test x ≡ false) × (list_any test xs ≡ false) in
    let two : (test x ≡ false) × (list_any test xs ≡ false) = (elim (test x) as P [ true ↦ λ _ e. cc | false ↦ λ is rest. (is, rest) ]) refl none in
    (two.0, none_each test xs two.1)

-- what holds of each two holds of each and those behind it
abbrev pub Pairs : (OpId → OpId → Type 0) → List OpId → Type 0
Pairs R [] = Unit {0}
Pairs R (x ∷ xs) = AllByRecursion (R x) xs × Pairs R xs

pub pairs_of : (R : OpId → OpId → Type 0) (xs : List OpId) → AllByRecursion (λ (a : OpId). AllByRecursion (R a) xs) xs → Pairs R xs
pairs_of R [] each = tt
pairs_of R (x ∷ xs) each =
    (each.0.1, pairs_of R xs (Each-weaker (λ (a : OpId). AllByRecursion (R a) (x ∷ xs)) (λ (a : OpId). AllByRecursion (R a) xs) (λ a all. all.1) xs each.1))

-- Two writes that are two, and settled.

other_too : (a b : OpId) → same_op b a ≡ false → same_op a b ≡ false
other_too a b other =
    ⊎_elim {C = same_op a b ≡ false}
    (λ (same : same_op a b ≡ true).
    let one : a ≡ b = same_op_true a b same in
    let self : same_op b a ≡ true = subst (λ o. same_op b o ≡ true) (sym one) (same_op_self b) in
    not_both (same_op b a) self other (same_op a b ≡ false))
    (λ (none : same_op a b ≡ false). none)
    (either_way (same_op a b))

module _ (board : Board) (table : Table) (is_largest : IsLargest board table) where
  abbrev pub AreTwo : OpId → OpId → Type 0
  AreTwo a b = (same_op b a ≡ false) × (is_settled board table a b ≡ true)

  abbrev pub Sorted : List OpId → Type 0
  Sorted xs = Pairs (Settles board table) xs

  put_each : (P : OpId → Type 0) (a : OpId) (xs : List OpId) → P a → AllByRecursion P xs → AllByRecursion P (put board table a xs)
  put_each P a [] of_a each = (of_a, tt)
  put_each P a (b ∷ rest) of_a each =
      let T : Bool → Type 0 = λ t. AllByRecursion P (cond t (a ∷ b ∷ rest) (b ∷ put board table a rest)) in
      elim (lands_no_more board table a b) as T [ true ↦ (of_a, each) | false ↦ (each.0, put_each P a rest of_a each.1) ]

  pub order_each : (P : OpId → Type 0) (xs : List OpId) → AllByRecursion P xs → AllByRecursion P (in_order board table xs)
  order_each P [] each = tt
  order_each P (x ∷ xs) each = put_each P x (in_order board table xs) each.0 (order_each P xs each.1)

  put_any : (test : OpId → Bool) (a : OpId) (xs : List OpId) → (test a || list_any test xs) ≡ true → list_any test (put board table a xs) ≡ true
  put_any test a [] some = some
  put_any test a (b ∷ rest) some =
      let T : Bool → Type 0 = λ t. list_any test (cond t (a ∷ b ∷ rest) (b ∷ put board table a rest)) ≡ true in
      let later : list_any test (b ∷ put board table a rest) ≡ true = ⊎_elim {C = (test b || list_any test (put board table a rest)) ≡ true}
      (λ (here : test b ≡ true). or_left (test b) (list_any test (put board table a rest)) here)
      (λ (none : test b ≡ false).
      let less : (test a || list_any test rest) ≡ true = subst (λ t. (test a || (t || list_any test rest)) ≡ true) none some in
      or_right (test b) (list_any test (put board table a rest)) (put_any test a rest less))
      (either_way (test b)) in
      elim (lands_no_more board table a b) as T [ true ↦ some | false ↦ later ]

  pub order_any : (test : OpId → Bool) (xs : List OpId) → list_any test xs ≡ true → list_any test (in_order board table xs) ≡ true
  order_any test [] some = some
  order_any test (x ∷ xs) some =
      put_any test x (in_order board table xs) (⊎_elim {C = (test x || list_any test (in_order board table xs)) ≡ true}
      (λ (here : test x ≡ true). or_left (test x) (list_any test (in_order board table xs)) here)
      (λ (none : test x ≡ false).
      let less : list_any test xs ≡ true = subst (λ t. (t || list_any test xs) ≡ true) none some in
      or_right (test x) (list_any test (in_order board table xs)) (order_any test xs less))
      (either_way (test x)))

  -- of two that are settled, where the one does not, the other lands no more first
  settled_back : (a b : OpId) → is_settled board table a b ≡ true → lands_no_more board table a b ≡ false → LandsNoMore board table b a
  settled_back a b settled none =
      let less : lands_no_more board table b a ≡ true = subst (λ t. (t || lands_no_more board table b a) ≡ true) none settled in
      no_more_is board table b a less

  put_sorted : (a : OpId) (xs : List OpId) → AllByRecursion (AreTwo a) xs → Sorted xs → Sorted (put board table a xs)
  put_sorted a [] two sorted = (tt, tt)
  put_sorted a (b ∷ rest) two sorted =
      let T : Bool → Type 0 = λ t. lands_no_more board table a b ≡ t → Sorted (cond t (a ∷ b ∷ rest) (b ∷ put board table a rest)) in
      (elim (lands_no_more board table a b) as T [
        | true ↦ λ is.
            let first : LandsNoMore board table a b = no_more_is board table a b is in
            let others : AllByRecursion (Settles board table a) rest = Each-weaker (λ (y : OpId). AreTwo a y × Settles board table b y) (Settles board table a)
            (λ y both. (both.0.0, no_more_through board table is_largest a b y first both.1.1)) rest (Each-both (AreTwo a) (Settles board table b) rest two.1 sorted.0) in
            (((two.0.0, first), others), sorted)
        | false ↦ λ none.
            (put_each (Settles board table b) a rest (other_too a b two.0.0, settled_back a b two.0.1 none) sorted.0, put_sorted a rest two.1 sorted.1)
      ]) refl

  pub order_sorted : (xs : List OpId) → Pairs AreTwo xs → Sorted (in_order board table xs)
  order_sorted [] two = tt
  order_sorted (x ∷ xs) two = put_sorted x (in_order board table xs) (order_each (AreTwo x) xs two.0) (order_sorted xs two.1)

  -- writes of which none is open are two and settled
  open_pairs : (all xs : List OpId) → AllByRecursion (λ (a : OpId). is_open board table all a ≡ false) xs → AllByRecursion (λ (a : OpId). AllByRecursion (λ (b : OpId). same_op b a ≡ false → is_settled board table a b ≡ true) all) xs
  open_pairs all xs each =
      Each-weaker (λ (a : OpId). is_open board table all a ≡ false) (λ (a : OpId). AllByRecursion (λ (b : OpId). same_op b a ≡ false → is_settled board table a b ≡ true) all)
      (λ a none. Each-weaker (λ (b : OpId). (not (same_op a b) && not (is_settled board table a b)) ≡ false) (λ (b : OpId). same_op b a ≡ false → is_settled board table a b ≡ true)
      (λ b is other.
      ⊎_elim {C = is_settled board table a b ≡ true}
      (λ (settled : is_settled board table a b ≡ true). settled)
      (λ (none_settled : is_settled board table a b ≡ false).
      let one : same_op a b ≡ false = other_too a b other in
      let both : (not (same_op a b) && not (is_settled board table a b)) ≡ true = rw (one, none_settled) refl in
      not_both (not (same_op a b) && not (is_settled board table a b)) both is (is_settled board table a b ≡ true))
      (either_way (is_settled board table a b)))
      all (none_each (λ b. not (same_op a b) && not (is_settled board table a b)) all none)) xs each

  two_pairs : (xs : List OpId) → Distinct xs → Pairs (λ a b. same_op b a ≡ false → is_settled board table a b ≡ true) xs → Pairs AreTwo xs
  two_pairs [] distinct pairs = tt
  two_pairs (x ∷ xs) distinct pairs =
      let Other : OpId → Type 0 = λ b. same_op b x ≡ false in
      let Then : OpId → Type 0 = λ b. same_op b x ≡ false → is_settled board table x b ≡ true in
      (Each-weaker (λ (b : OpId). Other b × Then b) (AreTwo x) (λ b both. (both.0, both.1 both.0)) xs (Each-both Other Then xs distinct.0 pairs.0), two_pairs xs distinct.1 pairs.1)

  pub none_open : (xs : List OpId) → Distinct xs → find (is_open board table xs) xs ≡ None → Pairs AreTwo xs
  none_open xs distinct none =
      two_pairs xs distinct (pairs_of (λ a b. same_op b a ≡ false → is_settled board table a b ≡ true) xs (open_pairs xs xs (none_each (is_open board table xs) xs (find-none_any (is_open board table xs) xs none))))

  -- The data phases that the writes bring, in their order.

  -- what each write of the word that comes before a read is
  pub record Earlier (word : Dword) (r : OpId) (w : OpId) : Type 0 where
    pub writes : is_write board w ≡ true
    pub brings : phases_to board word w ≢ []
    pub before : IsBefore board table w r

  landing_one : (word : Dword) (w : OpId) → phases_to board word w ≢ [] → (phase : Phase) × (phases_to board word w ≡ phase ∷ []) × (landings_of board word w ≡ record { op = w; phase = phase } ∷ [])
  landing_one word w some =
      let one = brings_one board word w some in
      let to : Phase → Landing = λ phase. record { op = w; phase = phase } in
      let F : List Phase → List Landing = λ phases. map to phases in
      (one.0, one.1, ap F one.1)

  each_landing : (P : OpId → Type 0) (Q : Landing → Type 0) (word : Dword) (r : OpId) (xs : List OpId) → ((w : OpId) (phase : Phase) → phases_to board word w ≡ phase ∷ [] → P w → Q (record { op = w; phase = phase })) → AllByRecursion (λ (w : OpId). (phases_to board word w ≢ []) × P w) xs → AllByRecursion Q (all_landings board word xs)
  each_landing P Q word r [] of_one each = tt
  each_landing P Q word r (w ∷ xs) of_one each =
      let one = landing_one word w each.0.0 in
      let later = each_landing P Q word r xs of_one each.1 in
      let F : List Landing → Type 0 = λ ls. AllByRecursion Q (ls ++ all_landings board word xs) in
      subst F (sym one.2) (of_one w one.0 one.1 each.0.1, later)

  pub landings_members : (word : Dword) (r : OpId) (xs : List OpId) → AllByRecursion (Earlier word r) xs → AllByRecursion (IsMember board table word r) (all_landings board word xs)
  landings_members word r xs each =
      each_landing (Earlier word r) (IsMember board table word r) word r xs (λ w phase brings is. record { writes = is.writes; brings = brings; before = is.before })
      (Each-weaker (Earlier word r) (λ (w : OpId). (phases_to board word w ≢ []) × Earlier word r w) (λ w is. (is.brings, is)) xs each)

  pub landings_settled : (word : Dword) (r : OpId) (xs : List OpId) → AllByRecursion (Earlier word r) xs → Sorted xs → IsSettled board table (all_landings board word xs)
  landings_settled word r [] each sorted = tt
  landings_settled word r (w ∷ xs) each sorted =
      let one = landing_one word w each.0.brings in
      let Behind : OpId → Type 0 = λ v. Earlier word r v × Settles board table w v in
      let behind = each_landing (Settles board table w) (λ (l : Landing). Settles board table w l.op) word r xs (λ v phase brings is. is)
      (Each-weaker Behind (λ (v : OpId). (phases_to board word v ≢ []) × Settles board table w v) (λ v both. (both.0.brings, both.1)) xs (Each-both (Earlier word r) (Settles board table w) xs each.1 sorted.0)) in
      let F : List Landing → Type 0 = λ ls. IsSettled board table (ls ++ all_landings board word xs) in
      subst F (sym one.2) (behind, landings_settled word r xs each.1 sorted.1)

  pub landings_any : (word : Dword) (r : OpId) (w : OpId) (xs : List OpId) → AllByRecursion (Earlier word r) xs → list_any (same_op w) xs ≡ true → list_any (is_landing_of w) (all_landings board word xs) ≡ true
  landings_any word r w [] each some = cc
  landings_any word r w (x ∷ xs) each some =
      let one = landing_one word x each.0.brings in
      let rest : List Landing = all_landings board word xs in
      let F : List Landing → Type 0 = λ ls. list_any (is_landing_of w) (ls ++ rest) ≡ true in
      let P : Bool → Type 0 = λ b. same_op w x ≡ b → (b || list_any (same_op w) xs) ≡ true → (same_op x w || list_any (is_landing_of w) rest) ≡ true in
      let here : (same_op x w || list_any (is_landing_of w) rest) ≡ true = (elim (same_op w x) as P [
        | true ↦ λ same _.
            let self : same_op x w ≡ true = subst (λ o. same_op x o ≡ true) (sym (same_op_true w x same)) (same_op_self x) in
            or_left (same_op x w) (list_any (is_landing_of w) rest) self
        | false ↦ λ _ later. or_right (same_op x w) (list_any (is_landing_of w) rest) (landings_any word r w xs each.1 later)
      ]) refl some in
      subst F (sym one.2) here
