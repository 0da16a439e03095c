-- Where a look in order gives nothing, nothing that it looks at gives anything.
use Rattle.std.proofs.Common.{◌≡◌, ℕ, zero, suc, ◌<◌, Bool, true, false, cond, eqb, ◌||◌, List, [], ◌∷◌, Option, Some, None, refl, sym, subst, ⊎_elim, arith}
use Rattle.std.specs.List.{find, list_any}
use Rattle.std.specs.Option.{option_or}
use Rattle.std.proofs.lemmas.Bool.{and_from, and_parts, eqb-true}
use Rattle.std.proofs.lemmas.Bool.Decides.{nat_tests}
use Rattle.list_facts.proofs.EachLemmas.{Each-find}
use Rattle.list_facts.proofs.FindLemmas.{find_passes}
use Rattle.board_model.specs.declared.bridge.Bridge.{Bridge}
use Rattle.board_model.specs.declared.bridge.Lane.{Lane as BridgeLane}
use Rattle.board_model.specs.declared.board.Board.{Board}
use Rattle.board_model.specs.WellFormed.{has_bus}
use Rattle.board_model.specs.Valid.{has_bridge_to}
use Rattle.board_model.specs.Ways.{primary_in, end_of}
use Rattle.history_model.specs.Answers.{bridge_to}
use Rattle.board_model.specs.Fits.{BridgeFits, BoardFits}
use Rattle.history_model.specs.Next.{first_below, first_bus, down_to, up_from, ends_on, given_on, first_lane}
use Rattle.law_lanes.proofs.progress.NextFirstLemmas.{below_or}

-- nothing of two is nothing of each
pub or_none_both : {Y : Type 0} (a b : Option Y) → option_or a b ≡ None → (a ≡ None) × (b ≡ None)
or_none_both None b none = (refl, none)
or_none_both (Some y) b none = cc

-- of the numbers below a bound
pub below_none : {Y : Type 0} (gives : ℕ → Option Y) (n k : ℕ) → first_below n gives ≡ None → k < n → gives k ≡ None
below_none gives zero k none below = absurd (omega arith)
below_none gives (suc n) k none below =
    let both = or_none_both (first_below n gives) (gives n) none in
    ⊎_elim {C = gives k ≡ None}
    (λ (less : k < n). below_none gives n k both.0 less)
    (λ (same : k ≡ n). subst (λ (m : ℕ). gives m ≡ None) (sym same) both.1)
    (below_or k n below)

-- of the buses
pub bus_gives_none : {Y : Type 0} (gives : ℕ → Option Y) (k : ℕ) → first_bus gives ≡ None → k < 256 → gives k ≡ None
unfolding first_bus
bus_gives_none gives k none below = below_none gives 256 k none below

-- of a lane that is looked at where it ends on the bus
given_none : {Y : Type 0} (board : Board) (bus : ℕ) (gives : BridgeLane → Option Y) (lane : BridgeLane) → given_on board bus gives lane ≡ None → ends_on board bus lane ≡ true → gives lane ≡ None
given_none board bus gives lane none ends =
    subst (λ (b : Bool). cond b (gives lane) None ≡ None) ends none

-- of a lane that ends on the bus: it is that of its own bridge, or of a bridge below
lane_none : {Y : Type 0} (board : Board) (bus : ℕ) (gives : BridgeLane → Option Y) (lane : BridgeLane) → first_lane board bus gives ≡ None → ends_on board bus lane ≡ true → lane.bus < 256 → gives lane ≡ None
lane_none {Y} board bus gives lane none ends below =
    let up : ℕ → Option Y = λ child. given_on board bus gives (up_from child) in
    let both = or_none_both (given_on board bus gives (down_to bus)) (first_bus up) none in
    let of : Bool → BridgeLane = λ direction. record { bus = lane.bus; up = direction } in
    let P : Bool → Type 0 = λ direction. ends_on board bus (of direction) ≡ true → gives (of direction) ≡ None in
    (elim lane.up as P [
      | true ↦ λ is. given_none board bus gives (up_from lane.bus) (bus_gives_none up lane.bus both.1 below) is
      | false ↦ λ is.
          let same : lane.bus ≡ bus = eqb-true lane.bus bus (and_parts (has_bridge_to board lane.bus) (eqb lane.bus bus) is).1 in
          let here : given_on board bus gives (down_to lane.bus) ≡ None = subst (λ (b : ℕ). given_on board bus gives (down_to b) ≡ None) (sym same) both.0 in
          given_none board bus gives (down_to lane.bus) here is
    ]) ends

-- a lane of a bridge of the board, which ends on one of 256 buses
pub record IsOnBoard (board : Board) (lane : BridgeLane) : Type 0 where
  pub there : has_bridge_to board lane.bus ≡ true
  pub bus : lane.bus < 256
  pub end : end_of board lane < 256

-- a bridge that is found is there
found_there : (test : Bridge → Bool) (bridges : List Bridge) (bridge : Bridge) → find test bridges ≡ Some bridge → list_any test bridges ≡ true
found_there test [] bridge some = cc
found_there test (x ∷ xs) bridge some =
    let P : Bool → Type 0 = λ b. cond b (Some x) (find test xs) ≡ Some bridge → (b || list_any test xs) ≡ true in
    (elim (test x) as P [ true ↦ λ e. refl | false ↦ λ e. found_there test xs bridge e ]) some

-- so are the lanes of a bridge that is found
pub IsOnBoard-found : (board : Board) (lane : BridgeLane) (bridge : Bridge) → BoardFits board → bridge_to board lane.bus ≡ Some bridge → IsOnBoard board lane
IsOnBoard-found board lane bridge fits is =
    let both : BridgeFits bridge = Each-find BridgeFits (has_bus lane.bus) board.bridges bridge fits.bridges is in
    let same : bridge.bus ≡ lane.bus = eqb-true bridge.bus lane.bus (find_passes (has_bus lane.bus) board.bridges bridge is) in
    let bus : lane.bus < 256 = subst (λ (b : ℕ). b < 256) same both.bus in
    let above : primary_in (bridge_to board lane.bus) < 256 = subst (λ (found : Option Bridge). primary_in found < 256) (sym is) both.parent in
    let P : Bool → Type 0 = λ direction. cond direction (primary_in (bridge_to board lane.bus)) lane.bus < 256 in
    record {
      there = found_there (has_bus lane.bus) board.bridges bridge is;
      bus = bus;
      end = elim lane.up as P [ true ↦ above | false ↦ bus ];
    }

-- where no bus has anything from its lanes, no lane of the board has
pub lanes_give_none : {Y : Type 0} (board : Board) (gives : ℕ → BridgeLane → Option Y) (lane : BridgeLane) → ((bus : ℕ) → bus < 256 → first_lane board bus (gives bus) ≡ None)
    → IsOnBoard board lane → gives (end_of board lane) lane ≡ None
lanes_give_none board gives lane none is =
    let on : ℕ = end_of board lane in
    lane_none board on (gives on) lane (none on is.end) (and_from (has_bridge_to board lane.bus) (eqb on on) is.there (eqb_self on)) is.bus
  where
    -- a number is itself
    eqb_self : (n : ℕ) → eqb n n ≡ true
    eqb_self n = grind (arith, nat_tests)
