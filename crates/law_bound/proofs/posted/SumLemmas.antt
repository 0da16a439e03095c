-- Sums over masters and targets by their places, and over the lanes of a board, where one of them changes.
use Rattle.std.proofs.Common.{◌≡◌, ℕ, zero, suc, ◌+◌, ◌-◌, ◌<◌, ◌≤◌, Bool, true, false, cond, eqb, List, [], ◌∷◌, Some, refl, sym, ap, subst, arith, slice_get}
use Rattle.std.proofs.lemmas.Bool.Decides.{nat_tests}
use Rattle.list_facts.proofs.TotalLemmas.{total-le}
use Rattle.board_model.specs.declared.agents.Master.{Master as MasterAgent}
use Rattle.board_model.specs.declared.agents.Target.{Target as TargetAgent}
use Rattle.board_model.specs.declared.bridge.Bridge.{Bridge}
use Rattle.board_model.specs.declared.bridge.Lane.{Lane as BridgeLane}
use Rattle.board_model.specs.declared.board.Board.{Board}
use Rattle.history_model.specs.declared.event.Event.{Event}
use Rattle.history_model.specs.World.{same_lane}
use Rattle.history_model.specs.Program.{turn_of}
use Rattle.history_model.specs.Answers.{stalls_used, bridge_to}
use Rattle.history_model.specs.Left.{program_left, programs_left, stalls_left}
use Rattle.law_lanes.specs.Depths.{DifferentNumbers}
use Rattle.history_model.proofs.facts.BridgeLemmas.{same_lane_true}
use Rattle.law_lanes.specs.order.One.{both_lanes, over_lanes}
use Rattle.law_lanes.proofs.order.Laws.{over-plus, over-one}

-- the sum of what each element weighs by its place, from a place on
abbrev pub from : {X : Type 0} → (ℕ → X → ℕ) → ℕ → List X → ℕ
from weight place [] = 0
from weight place (x ∷ xs) = weight place x + from weight (place + 1) xs

-- where no element weighs more
pub from-le : {X : Type 0} (f g : ℕ → X → ℕ) → ((place : ℕ) (x : X) → f place x ≤ g place x) → (place : ℕ) (xs : List X) → from f place xs ≤ from g place xs
from-le f g below place [] = omega arith
from-le f g below place (x ∷ xs) = omega (arith, below place x, from-le f g below (place + 1) xs)

-- behind a place, where only that one may be greater
from-behind : {X : Type 0} (f g : ℕ → X → ℕ) (one : ℕ) → ((place : ℕ) (x : X) → eqb one place ≡ false → f place x ≤ g place x) → (place : ℕ) (xs : List X) → one < place → from f place xs ≤ from g place xs
from-behind f g one below place [] behind = omega arith
from-behind f g one below place (x ∷ xs) behind =
    let apart : eqb one place ≡ false = grind (arith, nat_tests) in
    omega (arith, below place x apart, from-behind f g one below (place + 1) xs (omega (arith, behind)))

-- where one element falls by so much and no other rises, the sum falls by so much
pub from-one : {X : Type 0} (f g : ℕ → X → ℕ) (one : ℕ) (y : X) (much : ℕ) → ((place : ℕ) (x : X) → eqb one place ≡ false → f place x ≤ g place x) → f one y + much ≤ g one y
    → (place : ℕ) (xs : List X) (more : ℕ) → place + more ≡ one → slice_get xs more ≡ Some y → from f place xs + much ≤ from g place xs
from-one f g one y much below falls place [] more at is = cc
from-one f g one y much below falls place (x ∷ xs) zero at is =
    let same : y ≡ x = cc in
    let here : place ≡ one = omega (arith, at) in
    let first : f place x + much ≤ g place x = subst (λ n. f n x + much ≤ g n x) (sym here) (subst (λ z. f one z + much ≤ g one z) same falls) in
    omega (arith, first, from-behind f g one below (place + 1) xs (omega (arith, here)))
from-one f g one y much below falls place (x ∷ xs) (suc more) at is =
    let apart : eqb one place ≡ false = grind (arith, nat_tests) in
    omega (arith, below place x apart, from-one f g one y much below falls (place + 1) xs more (omega (arith, at)) is)

-- the programs and the stall tokens are such sums
pub programs_from : (board : Board) (h : List Event) (place : ℕ) (masters : List MasterAgent) → programs_left board h place masters ≡ from (λ i master. program_left board h master (turn_of board h i)) place masters
programs_from board h place [] = refl
programs_from board h place (master ∷ masters) = ap (λ n. program_left board h master (turn_of board h place) + n) (programs_from board h (place + 1) masters)

-- and so are the stall tokens
pub stalls_from : (h : List Event) (place : ℕ) (targets : List TargetAgent) → stalls_left h place targets ≡ from (λ i (target : TargetAgent). target.stalls - stalls_used h i) place targets
stalls_from h place [] = refl
stalls_from h place (target ∷ targets) = ap (λ n. (target.stalls - stalls_used h place) + n) (stalls_from h (place + 1) targets)

-- a sum over lanes where no lane weighs more
pub over-le : (f g : BridgeLane → ℕ) (board : Board) → ((l : BridgeLane) → f l ≤ g l) → over_lanes f board ≤ over_lanes g board
over-le f g board below =
    total-le (both_lanes f) (both_lanes g)
    (λ b. omega (arith, below (record { bus = b.bus; up = false }), below (record { bus = b.bus; up = true }))) board.bridges

-- where one lane of a bridge falls by so much and no other rises, the sum falls by so much
pub over-falls : (f g : BridgeLane → ℕ) (board : Board) (at : BridgeLane) (much : ℕ) (bridge : Bridge) → DifferentNumbers board → bridge_to board at.bus ≡ Some bridge
    → ((l : BridgeLane) → f l ≤ g l) → f at + much ≤ g at → over_lanes f board + much ≤ over_lanes g board
over-falls f g board at much bridge distinct is below falls =
    let one : BridgeLane → ℕ = λ l. cond (same_lane at l) much 0 in
    let each : (l : BridgeLane) → f l + one l ≤ g l = λ l.
    let P : Bool → Type 0 = λ b. same_lane at l ≡ b → f l + cond b much 0 ≤ g l in
    (elim (same_lane at l) as P [
      | true ↦ λ same. subst (λ k. f k + much ≤ g k) (same_lane_true at l same) falls
      | false ↦ λ _. omega (arith, below l)
    ]) refl in
    omega (arith, over-plus f one (λ l. f l + one l) board (λ l. refl), over-one board at much bridge distinct is, over-le (λ l. f l + one l) g board each)
