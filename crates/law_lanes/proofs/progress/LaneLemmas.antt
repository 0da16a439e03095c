-- A look through all lanes.
use Rattle.std.proofs.Common.{◌≡◌, ℕ, zero, suc, ◌<◌, Bool, true, false, List, [], ◌∷◌, Option, Some, None, refl, subst, ◌⊎◌, inl, inr, ⊎_elim, arith}
use Rattle.std.specs.List.{AllByRecursion}
use Rattle.std.proofs.lemmas.Bool.{eqb-true}
use Rattle.list_facts.proofs.EachLemmas.{Each-find}
use Rattle.list_facts.proofs.FindLemmas.{find_passes}
use Rattle.board_model.specs.declared.bridge.Bridge.{Bridge}
use Rattle.board_model.specs.declared.bridge.Lane.{Lane as BridgeLane}
use Rattle.board_model.specs.declared.board.Board.{Board}
use Rattle.board_model.specs.WellFormed.{has_bus}
use Rattle.history_model.specs.Answers.{bridge_to}

-- the lane of a bridge down
abbrev pub lane_down : Bridge → BridgeLane
lane_down bridge = record { bus = bridge.bus; up = false }

-- and the lane up
abbrev pub lane_up : Bridge → BridgeLane
lane_up bridge = record { bus = bridge.bus; up = true }

-- where each of a list gives one of two, all give the second or some gives the first
pub look : {X : Type 0} (R : Type 0) (Q : X → Type 0) → ((x : X) → R ⊎ Q x) → (xs : List X) → R ⊎ AllByRecursion Q xs
look R Q each [] = inr tt
look R Q each (x ∷ xs) =
    let All : Type 0 = AllByRecursion Q (x ∷ xs) in
    ⊎_elim {C = R ⊎ All}
    (λ r. inl r)
    (λ (q : Q x). ⊎_elim {C = R ⊎ All} (λ r. inl r) (λ (rest : AllByRecursion Q xs). inr (q, rest)) (look R Q each xs))
    (each x)

-- where each number below a bound gives one of two, all give the second or some gives the first
pub look_below : (R : Type 0) (Q : ℕ → Type 0) (n : ℕ) → ((k : ℕ) → k < n → R ⊎ Q k) → R ⊎ ((k : ℕ) → k < n → Q k)
look_below R Q zero each = inr (λ k below. absurd (omega arith))
look_below R Q (suc n) each =
    let All : Type 0 = (k : ℕ) → k < suc n → Q k in
    ⊎_elim {C = R ⊎ All}
    (λ r. inl r)
    (λ (q : Q n). ⊎_elim {C = R ⊎ All}
    (λ r. inl r)
    (λ (rest : (k : ℕ) → k < n → Q k). inr (λ k below.
    ⊎_elim {C = Q k} (λ (less : k < n). rest k less) (λ (same : k ≡ n). subst Q (omega arith) q) (below_or k n below)))
    (look_below R Q n (λ k below. each k (omega arith))))
    (each n (omega arith))
  where
    below_or : (k n : ℕ) → k < suc n → (k < n) ⊎ (k ≡ n)
    below_or zero zero below = inr refl
    below_or zero (suc n) below = inl (omega arith)
    below_or (suc k) zero below = absurd (omega arith)
    below_or (suc k) (suc n) below = ⊎_elim {C = (suc k < suc n) ⊎ (suc k ≡ suc n)} (λ less. inl (omega arith)) (λ same. inr (omega arith)) (below_or k n (omega arith))

-- a lane is one of the two of its bridge
lane_of : (Q : BridgeLane → Type 0) (lane : BridgeLane) (bridge : Bridge) → bridge.bus ≡ lane.bus → Q (lane_down bridge) → Q (lane_up bridge) → Q lane
lane_of Q lane bridge same down up =
    let at : ℕ → Bool → Type 0 = λ bus direction. Q (record { bus = bus; up = direction }) in
    let P : Bool → Type 0 = λ direction. at lane.bus direction in
    elim lane.up as P [ true ↦ subst (λ bus. at bus true) same up | false ↦ subst (λ bus. at bus false) same down ]

-- what holds of each lane of no bridge, and of both lanes of each bridge, holds of each lane
all_lanes : (board : Board) (Q : BridgeLane → Type 0) → ((lane : BridgeLane) → bridge_to board lane.bus ≡ None → Q lane)
    → AllByRecursion (λ (bridge : Bridge). Q (lane_down bridge) × Q (lane_up bridge)) board.bridges → (lane : BridgeLane) → Q lane
all_lanes board Q none each lane =
    let F : Bridge → Type 0 = λ bridge. Q (lane_down bridge) × Q (lane_up bridge) in
    let P : Option Bridge → Type 0 = λ found. bridge_to board lane.bus ≡ found → Q lane in
    (elim (bridge_to board lane.bus) as P [
      | None ↦ λ is. none lane is
      | Some bridge ↦ λ is.
          let both : F bridge = Each-find F (has_bus lane.bus) board.bridges bridge each is in
          lane_of Q lane bridge (eqb-true bridge.bus lane.bus (find_passes (has_bus lane.bus) board.bridges bridge is)) both.0 both.1
    ]) refl

-- where each lane gives one of two, all lanes give the second or some gives the first
pub look_at_lanes : (board : Board) (R : Type 0) (Q : BridgeLane → Type 0) → ((lane : BridgeLane) → bridge_to board lane.bus ≡ None → Q lane)
    → ((lane : BridgeLane) → R ⊎ Q lane) → R ⊎ ((lane : BridgeLane) → Q lane)
look_at_lanes board R Q none each =
    let F : Bridge → Type 0 = λ bridge. Q (lane_down bridge) × Q (lane_up bridge) in
    let All : Type 0 = (lane : BridgeLane) → Q lane in
    let both : (bridge : Bridge) → R ⊎ F bridge =
    λ bridge.
    ⊎_elim {C = R ⊎ F bridge}
    (λ r. inl r)
    (λ (down : Q (lane_down bridge)). ⊎_elim {C = R ⊎ F bridge} (λ r. inl r) (λ (up : Q (lane_up bridge)). inr (down, up)) (each (lane_up bridge)))
    (each (lane_down bridge)) in
    ⊎_elim {C = R ⊎ All} (λ r. inl r) (λ (all : AllByRecursion F board.bridges). inr (all_lanes board Q none all)) (look R F both board.bridges)
