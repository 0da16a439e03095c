-- A fact of each lane alone after a move of one bridge.
use Rattle.std.proofs.Common.{◌≡◌, Bool, true, false, cond, refl, sym, subst}
use Rattle.board_model.specs.declared.bridge.Lane.{Lane as BridgeLane}
use Rattle.history_model.specs.Lanes.{LaneState, Both}
use Rattle.history_model.specs.World.{World, same_lane, both, moved}
use Rattle.board_model.specs.Ways.{lane_back}
use Rattle.history_model.proofs.facts.BridgeLemmas.{same_lane_true}

-- it holds at each lane where the move gives it on the lane and on the lane back, and it held on every other lane
pub moved_each : (P : BridgeLane → LaneState → Type 0) (move : Both → Both) (lane : BridgeLane) (world : World)
    → ((l : BridgeLane) → same_lane l lane ≡ false → same_lane l (lane_back lane) ≡ false → P l (world l))
    → P lane (move (both world lane)).here → P (lane_back lane) (move (both world lane)).back
    → (l : BridgeLane) → P l (moved move lane world l)
moved_each P move lane world old here back l =
    let x : Both = move (both world lane) in
    let Q : Bool → Type 0 = λ b. same_lane l lane ≡ b → P l (cond b x.here (cond (same_lane l (lane_back lane)) x.back (world l))) in
    let R : Bool → Type 0 = λ b. same_lane l (lane_back lane) ≡ b → same_lane l lane ≡ false → P l (cond b x.back (world l)) in
    (elim (same_lane l lane) as Q [
      | true ↦ λ same. subst (λ k. P k x.here) (sym (same_lane_true l lane same)) here
      | false ↦ λ apart. (elim (same_lane l (lane_back lane)) as R [
        | true ↦ λ same _. subst (λ k. P k x.back) (sym (same_lane_true l (lane_back lane) same)) back
        | false ↦ λ apart_back apart. old l apart apart_back
      ]) refl apart
    ]) refl
