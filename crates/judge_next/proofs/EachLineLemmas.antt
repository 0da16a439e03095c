-- What holds of each line of a bus holds of each lane that ends there, and of each master on it.
use Rattle.std.proofs.Common.{◌≡◌, ℕ, zero, suc, ◌<◌, Bool, true, false, eqb, eqb-true, List, [], ◌∷◌, ◌++◌, sym, subst, slice_get, ⊎_elim, arith, if◌then◌else◌}
use Rattle.std.specs.List.{AllByRecursion}
use Rattle.std.proofs.lemmas.Bool.{and_parts}
use Rattle.board_model.specs.declared.bridge.Lane.{Lane as BridgeLane}
use Rattle.board_model.specs.declared.board.Board.{Board}
use Rattle.board_model.specs.Valid.{has_bridge_to}
use Rattle.history_model.specs.Answers.{is_on}
use Rattle.history_model.specs.Next.{down_to, up_from, ends_on}
use Rattle.law_lanes.proofs.progress.NextFirstLemmas.{below_or}
use Rattle.judge_next.specs.Lines.{listed, ups_below, lanes_ending, masters_below}

-- of each of two lists
pub each_front : {X : Type 0} (P : X → Type 0) (xs ys : List X) → AllByRecursion P (xs ++ ys) → AllByRecursion P xs
each_front P [] ys each = tt
each_front P (x ∷ xs) ys each = (each.0, each_front P xs ys each.1)

pub each_back : {X : Type 0} (P : X → Type 0) (xs ys : List X) → AllByRecursion P (xs ++ ys) → AllByRecursion P ys
each_back P [] ys each = each
each_back P (x ∷ xs) ys each = each_back P xs ys each.1

-- of a lane that is listed
listed_holds : (P : BridgeLane → Type 0) (board : Board) (bus : ℕ) (lane : BridgeLane) → AllByRecursion P (listed board bus lane) → ends_on board bus lane ≡ true → P lane
listed_holds P board bus lane each ends =
    let Q : Bool → Type 0 = λ b. AllByRecursion P (if b then lane ∷ [] else []) in
    (subst Q ends each).0

up_holds : (P : BridgeLane → Type 0) (n k : ℕ) (board : Board) (bus : ℕ) → AllByRecursion P (ups_below n board bus) → k < n → ends_on board bus (up_from k) ≡ true → P (up_from k)
up_holds P zero k board bus each below ends = absurd (omega (arith, below))
up_holds P (suc n) k board bus each below ends =
    ⊎_elim {C = P (up_from k)}
    (λ (less : k < n). up_holds P n k board bus (each_front P (ups_below n board bus) (listed board bus (up_from n)) each) less ends)
    (λ (same : k ≡ n).
    let here : P (up_from n) = listed_holds P board bus (up_from n) (each_back P (ups_below n board bus) (listed board bus (up_from n)) each) (subst (λ (m : ℕ). ends_on board bus (up_from m) ≡ true) same ends) in
    subst (λ (m : ℕ). P (up_from m)) (sym same) here)
    (below_or k n below)

-- of a lane that ends there: it is that of the own bridge of the bus, or of a bridge below
pub lane_holds : (P : BridgeLane → Type 0) (board : Board) (bus : ℕ) (lane : BridgeLane) → AllByRecursion P (lanes_ending 256 board bus) → ends_on board bus lane ≡ true → lane.bus < 256 → P lane
lane_holds P board bus lane each ends below =
    let down = each_front P (listed board bus (down_to bus)) (ups_below 256 board bus) each in
    let ups = each_back P (listed board bus (down_to bus)) (ups_below 256 board bus) each in
    let of : Bool → BridgeLane = λ up. record { bus = lane.bus; up = up } in
    let Q : Bool → Type 0 = λ up. ends_on board bus (of up) ≡ true → P (of up) in
    (elim lane.up as Q [
      | true ↦ λ is. up_holds P 256 lane.bus board bus ups below is
      | false ↦ λ is.
          let same : lane.bus ≡ bus = eqb-true lane.bus bus (and_parts (has_bridge_to board lane.bus) (eqb lane.bus bus) is).1 in
          let here : ends_on board bus (down_to bus) ≡ true = subst (λ (m : ℕ). ends_on board bus (down_to m) ≡ true) same is in
          subst (λ (m : ℕ). P (down_to m)) (sym same) (listed_holds P board bus (down_to bus) down here)
    ]) ends

-- of a master on the bus
pub master_holds : (P : ℕ → Type 0) (n m : ℕ) (board : Board) (bus : ℕ) → AllByRecursion P (masters_below n board bus) → m < n → is_on bus (slice_get board.masters m) ≡ true → P m
master_holds P zero m board bus each below there = absurd (omega (arith, below))
master_holds P (suc n) m board bus each below there =
    let one : ℕ → List ℕ = λ k. if is_on bus (slice_get board.masters k) then k ∷ [] else [] in
    ⊎_elim {C = P m}
    (λ (less : m < n). master_holds P n m board bus (each_front P (masters_below n board bus) (one n) each) less there)
    (λ (same : m ≡ n).
    let Q : Bool → Type 0 = λ b. AllByRecursion P (if b then n ∷ [] else []) in
    let its : is_on bus (slice_get board.masters n) ≡ true = subst (λ (k : ℕ). is_on bus (slice_get board.masters k) ≡ true) same there in
    subst P (sym same) (subst Q its (each_back P (masters_below n board bus) (one n) each)).0)
    (below_or m n below)
