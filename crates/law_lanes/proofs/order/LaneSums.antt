-- Sums over the lanes of a board.
use Rattle.std.proofs.Common.{◌≡◌, ℕ, ◌+◌, Bool, true, false, ◌&&◌, ◌==◌, cond, eqb, List, [], ◌∷◌, Some, refl, sym, subst, ◌∙◌, arith}
use Rattle.std.specs.List.{find, AllByRecursion, IsDistinct}
use Rattle.std.proofs.lemmas.Bool.Decides.{nat_tests}
use Rattle.std.proofs.lemmas.Map.Keys.{IsDistinct-head, IsDistinct-tail}
use Rattle.list_facts.specs.Lists.{total}
use Rattle.list_facts.proofs.TotalLemmas.{total-plus}
use Rattle.board_model.specs.declared.bridge.Bridge.{Bridge}
use Rattle.board_model.specs.declared.bridge.Lane.{Lane as BridgeLane}
use Rattle.board_model.specs.declared.board.Board.{Board}
use Rattle.board_model.specs.Ways.{lane_back}
use Rattle.history_model.specs.World.{same_direction, same_lane}
use Rattle.history_model.specs.Answers.{bridge_to}
use Rattle.history_model.proofs.facts.BridgeLemmas.{same_lane_true, same_lane_back, same_lane_symm}
use Rattle.law_lanes.specs.Depths.{same_number, DifferentNumbers}
use Rattle.law_lanes.specs.order.One.{both_lanes, over_lanes}
use Rattle.list_facts.proofs.AnyLemmas.{total_same}

pub over-same : (f g : BridgeLane → ℕ) (board : Board) → ((l : BridgeLane) → f l ≡ g l) → over_lanes f board ≡ over_lanes g board
over-same f g board same =
    total_same (both_lanes f) (both_lanes g)
    (λ b. omega (arith, same (record { bus = b.bus; up = false }), same (record { bus = b.bus; up = true }))) board.bridges

-- a sum of two counts
pub over-plus : (f g h : BridgeLane → ℕ) (board : Board) → ((l : BridgeLane) → h l ≡ f l + g l) → over_lanes h board ≡ over_lanes f board + over_lanes g board
over-plus f g h board both =
    total-plus (both_lanes f) (both_lanes g) (both_lanes h)
    (λ b. omega (arith, both (record { bus = b.bus; up = false }), both (record { bus = b.bus; up = true }))) board.bridges

pub over-zero : (f : BridgeLane → ℕ) (board : Board) → ((l : BridgeLane) → f l ≡ 0) → over_lanes f board ≡ 0
over-zero f board none =
    zero_all f none board.bridges
  where
    zero_all : (f : BridgeLane → ℕ) → ((l : BridgeLane) → f l ≡ 0) → (bridges : List Bridge) → total (both_lanes f) bridges ≡ 0
    zero_all f none [] = refl
    zero_all f none (b ∷ bridges) =
        omega (arith, none (record { bus = b.bus; up = false }), none (record { bus = b.bus; up = true }), zero_all f none bridges)

-- a lane is one of the two of its bridge
one_direction : (up : Bool) (n : ℕ) → cond (same_direction up false) n 0 + cond (same_direction up true) n 0 ≡ n
one_direction true n = omega arith
one_direction false n = omega arith

of_bridge : (at : BridgeLane) (n : ℕ) (b : Bridge) → cond (same_lane at (record { bus = b.bus; up = false })) n 0 + cond (same_lane at (record { bus = b.bus; up = true })) n 0 ≡ cond (at.bus == b.bus) n 0
of_bridge at n b =
    let P : Bool → Type 0 = λ same. cond (same && same_direction at.up false) n 0 + cond (same && same_direction at.up true) n 0 ≡ cond same n 0 in
    elim (at.bus == b.bus) as P [ true ↦ one_direction at.up n | false ↦ refl ]

eqb-symm : (a b : ℕ) → eqb a b ≡ eqb b a
eqb-symm a b = grind (arith, nat_tests)

-- of other bridges
none_of_others : (number n : ℕ) (first : Bridge) (bridges : List Bridge) → first.bus ≡ number → AllByRecursion (λ c. same_number first c ≡ false) bridges → total (λ (b : Bridge). cond (number == b.bus) n 0) bridges ≡ 0
none_of_others number n first [] same apart = refl
none_of_others number n first (b ∷ bridges) same apart =
    let here : eqb number b.bus ≡ false = subst (λ m. eqb m b.bus ≡ false) same apart.0 in
    let P : Bool → Type 0 = λ x. cond x n 0 + total (λ (c : Bridge). cond (number == c.bus) n 0) bridges ≡ 0 in
    subst P (sym here) (omega (arith, none_of_others number n first bridges same apart.1))

one_of_bridges : (number n : ℕ) (bridges : List Bridge) (found : Bridge) → IsDistinct same_number bridges → find (λ (b : Bridge). b.bus == number) bridges ≡ Some found
    → total (λ (b : Bridge). cond (number == b.bus) n 0) bridges ≡ n
one_of_bridges number n [] found distinct is = cc
one_of_bridges number n (b ∷ bridges) found distinct is =
    let rest : ℕ = total (λ (c : Bridge). cond (number == c.bus) n 0) bridges in
    let P : Bool → Type 0 = λ x. eqb b.bus number ≡ x → cond x (Some b) (find (λ (c : Bridge). c.bus == number) bridges) ≡ Some found → cond x n 0 + rest ≡ n in
    let Q : Bool → Type 0 = λ x. cond x n 0 + rest ≡ n in
    let sum = (elim (eqb b.bus number) as P [
      | true ↦ λ same _.
          let number_is : b.bus ≡ number = grind (arith, nat_tests) in
          omega (arith, none_of_others number n b bridges number_is (IsDistinct-head same_number b bridges distinct))
      | false ↦ λ _ e. omega (arith, one_of_bridges number n bridges found (IsDistinct-tail same_number b bridges distinct) e)
    ]) refl is in
    subst Q (eqb-symm b.bus number) sum

-- a lane of a bridge of the board is counted once
pub over-one : (board : Board) (at : BridgeLane) (n : ℕ) (bridge : Bridge) → DifferentNumbers board → bridge_to board at.bus ≡ Some bridge → over_lanes (λ l. cond (same_lane at l) n 0) board ≡ n
over-one board at n bridge distinct is =
    total_same (both_lanes (λ l. cond (same_lane at l) n 0)) (λ (b : Bridge). cond (at.bus == b.bus) n 0) (of_bridge at n) board.bridges
    ∙ one_of_bridges at.bus n board.bridges bridge distinct is

-- where only the two lanes of a bridge change, the sum changes as they do
pub over-moved : (f g : BridgeLane → ℕ) (board : Board) (at : BridgeLane) (bridge : Bridge) → DifferentNumbers board → bridge_to board at.bus ≡ Some bridge
    → ((l : BridgeLane) → same_lane l at ≡ false → same_lane l (lane_back at) ≡ false → f l ≡ g l)
    → over_lanes f board + (g at + g (lane_back at)) ≡ over_lanes g board + (f at + f (lane_back at))
over-moved f g board at bridge distinct is same =
    let back : BridgeLane = lane_back at in
    let one : ℕ → BridgeLane → ℕ = λ n l. cond (same_lane at l) n 0 in
    let two : ℕ → BridgeLane → ℕ = λ n l. cond (same_lane back l) n 0 in
    let F : BridgeLane → ℕ = λ l. f l + (one (g at) l + two (g back) l) in
    let G : BridgeLane → ℕ = λ l. g l + (one (f at) l + two (f back) l) in
    let each : (l : BridgeLane) → F l ≡ G l = λ l.
    let P : Bool → Type 0 = λ b. same_lane at l ≡ b → f l + (cond b (g at) 0 + two (g back) l) ≡ g l + (cond b (f at) 0 + two (f back) l) in
    let Q : Bool → Type 0 = λ b. same_lane back l ≡ b → same_lane at l ≡ false → f l + (0 + cond b (g back) 0) ≡ g l + (0 + cond b (f back) 0) in
    (elim (same_lane at l) as P [
      | true ↦ λ here.
          let R : BridgeLane → Type 0 = λ k. f k + (g at + two (g back) k) ≡ g k + (f at + two (f back) k) in
          let apart : same_lane back at ≡ false = same_lane_back at in
          let there : R at = rw apart (omega arith) in
          subst R (same_lane_true at l here) there
      | false ↦ λ apart. (elim (same_lane back l) as Q [
        | true ↦ λ here _.
            let R : BridgeLane → Type 0 = λ k. f k + (0 + g back) ≡ g k + (0 + f back) in
            let there : R back = omega arith in
            subst R (same_lane_true back l here) there
        | false ↦ λ apart_back apart. omega (arith, same l (same_lane_symm l at ∙ apart) (same_lane_symm l back ∙ apart_back))
      ]) refl apart
    ]) refl in
    let a = over-one board at (g at) bridge distinct is in
    let b = over-one board back (g back) bridge distinct is in
    let c = over-one board at (f at) bridge distinct is in
    let d = over-one board back (f back) bridge distinct is in
    omega (
      arith,
      a,
      b,
      c,
      d,
      over-plus f (λ l. one (g at) l + two (g back) l) F board (λ l. refl),
      over-plus g (λ l. one (f at) l + two (f back) l) G board (λ l. refl),
      over-plus (one (g at)) (two (g back)) (λ l. one (g at) l + two (g back) l) board (λ l. refl),
      over-plus (one (f at)) (two (f back)) (λ l. one (f at) l + two (f back) l) board (λ l. refl),
      over-same F G board each,
    )
