-- Sums over the lanes of a board where one bridge changes.
use Rattle.std.proofs.Common.{◌≡◌, ℕ, ◌+◌, Bool, true, false, Some, refl, arith}
use Rattle.board_model.specs.declared.bridge.Bridge.{Bridge}
use Rattle.board_model.specs.declared.bridge.Lane.{Lane as BridgeLane}
use Rattle.board_model.specs.declared.board.Board.{Board}
use Rattle.board_model.specs.Ways.{lane_back, start_of, end_of}
use Rattle.history_model.specs.Lanes.{LaneState, Both}
use Rattle.history_model.specs.World.{World, same_lane, both, moved}
use Rattle.history_model.specs.Answers.{bridge_to}
use Rattle.history_model.proofs.facts.BridgeLemmas.{same_lane_self, same_lane_back}
use Rattle.law_lanes.specs.Depths.{DifferentNumbers}
use Rattle.law_lanes.specs.order.One.{over_lanes}
use Rattle.law_lanes.proofs.order.Laws.{over-moved}

-- the lane back ends where the lane begins
pub end_back : (board : Board) (lane : BridgeLane) → end_of board (lane_back lane) ≡ start_of board lane
end_back board lane =
    let P : Bool → Type 0 = λ up. end_of board (lane_back (record { bus = lane.bus; up = up })) ≡ start_of board (record { bus = lane.bus; up = up }) in
    elim lane.up as P [ true ↦ refl | false ↦ refl ]

module _ (board : Board) (distinct : DifferentNumbers board) (f : BridgeLane → LaneState → ℕ) where
  -- a lane and the lane back
  abbrev pub pair : BridgeLane → Both → ℕ
  pair lane x = f lane x.here + f (lane_back lane) x.back

  -- a sum over all lanes changes as the two do that were moved
  pub over-move : (move : Both → Both) (lane : BridgeLane) (world : World) (bridge : Bridge) → bridge_to board lane.bus ≡ Some bridge
      → over_lanes (λ l. f l (moved move lane world l)) board + pair lane (both world lane) ≡ over_lanes (λ l. f l (world l)) board + pair lane (move (both world lane))
  over-move move lane world bridge is =
      let back : BridgeLane = lane_back lane in
      let F : BridgeLane → ℕ = λ l. f l (moved move lane world l) in
      let G : BridgeLane → ℕ = λ l. f l (world l) in
      let self : same_lane lane lane ≡ true = same_lane_self lane in
      let self_back : same_lane back back ≡ true = same_lane_self back in
      let apart : same_lane back lane ≡ false = same_lane_back lane in
      let here : F lane ≡ f lane (move (both world lane)).here = rw self refl in
      let there : F back ≡ f back (move (both world lane)).back = rw (apart, self_back) refl in
      omega (arith, over-moved F G board lane bridge distinct is (λ l no no_back. rw (no, no_back) refl), here, there)
