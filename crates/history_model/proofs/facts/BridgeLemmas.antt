-- A move changes one bridge: its two lanes, each with the lane back, and no other lane.
use Rattle.std.proofs.Common.{◌≡◌, ℕ, Bool, true, false, not, ◌&&◌, eqb, refl, sym, ap, subst, ◌∙◌, arith}
use Rattle.std.proofs.lemmas.Bool.Decides.{nat_tests}
use Rattle.board_model.specs.declared.bridge.Lane.{Lane as BridgeLane}
use Rattle.history_model.specs.Lanes.{LaneState, Both}
use Rattle.history_model.specs.World.{World, same_direction, same_lane, both, put, moved}
use Rattle.board_model.specs.Ways.{lane_back}

-- a lane back, and the lane
abbrev pub flip : Both → Both
flip x = record { here = x.back; back = x.here }

pub direction_back : (up : Bool) → not (not up) ≡ up
direction_back true = refl
direction_back false = refl

pub lane_back_back : (lane : BridgeLane) → lane_back (lane_back lane) ≡ lane
lane_back_back lane =
    let rebuilt : Bool → BridgeLane = λ up. record { bus = lane.bus; up = up } in
    ap rebuilt (direction_back lane.up)

-- the pair at the lane back is the pair the other way round
pub both_back : (world : World) (lane : BridgeLane) → both world (lane_back lane) ≡ flip (both world lane)
both_back world lane =
    let pair : LaneState → Both = λ back. record { here = world (lane_back lane); back = back } in
    ap (λ l. pair (world l)) (lane_back_back lane)

same_direction_true : (a b : Bool) → same_direction a b ≡ true → a ≡ b
same_direction_true true true same = refl
same_direction_true true false same = cc
same_direction_true false true same = cc
same_direction_true false false same = refl

same_direction_self : (a : Bool) → same_direction a a ≡ true
same_direction_self true = refl
same_direction_self false = refl

same_direction_back : (a : Bool) → same_direction (not a) a ≡ false
same_direction_back true = refl
same_direction_back false = refl

same_direction_flip : (a b : Bool) → same_direction (not a) b ≡ same_direction a (not b)
same_direction_flip true true = refl
same_direction_flip true false = refl
same_direction_flip false true = refl
same_direction_flip false false = refl

-- lanes that test the same are one lane
pub same_lane_true : (a b : BridgeLane) → same_lane a b ≡ true → a ≡ b
same_lane_true a b same =
    let rebuilt : ℕ → Bool → BridgeLane = λ bus up. record { bus = bus; up = up } in
    let buses : a.bus ≡ b.bus = grind (arith, nat_tests) in
    let Q : Bool → Type 0 = λ p. (p && same_direction a.up b.up) ≡ true → same_direction a.up b.up ≡ true in
    let directions : a.up ≡ b.up = same_direction_true a.up b.up ((elim (eqb a.bus b.bus) as Q [ true ↦ λ e. e | false ↦ λ e. cc ]) same) in
    let joined : rebuilt a.bus a.up ≡ rebuilt b.bus b.up = cc in
    joined

pub same_lane_self : (a : BridgeLane) → same_lane a a ≡ true
same_lane_self a = let d = same_direction_self a.up in grind (arith, nat_tests)

pub same_lane_back : (a : BridgeLane) → same_lane (lane_back a) a ≡ false
same_lane_back a = let d = same_direction_back a.up in grind (arith, nat_tests)

pub same_lane_flip : (a b : BridgeLane) → same_lane (lane_back a) b ≡ same_lane a (lane_back b)
same_lane_flip a b = let d = same_direction_flip a.up b.up in rw d

-- what is put on a bridge is on its lane, on the lane back the other way round, and on no other lane
put_here : (world : World) (lane : BridgeLane) (x : Both) → both (put world lane x) lane ≡ x
put_here world lane x =
    let self = same_lane_self lane in
    let back = same_lane_back lane in
    let self_back = same_lane_self (lane_back lane) in
    rw (self, back, self_back)

put_back : (world : World) (lane : BridgeLane) (x : Both) → both (put world lane x) (lane_back lane) ≡ flip x
put_back world lane x =
    let back = same_lane_back lane in
    let self_back = same_lane_self (lane_back lane) in
    let twice : same_lane (lane_back (lane_back lane)) lane ≡ true = same_lane_flip (lane_back lane) lane ∙ self_back in
    rw (back, self_back, twice)

put_other : (world : World) (lane : BridgeLane) (x : Both) (l : BridgeLane) → same_lane l lane ≡ false → same_lane l (lane_back lane) ≡ false → both (put world lane x) l ≡ both world l
put_other world lane x l apart apart_back =
    let back : same_lane (lane_back l) lane ≡ false = same_lane_flip l lane ∙ apart_back in
    let twice : lane_back (lane_back lane) ≡ lane = lane_back_back lane in
    let back_back : same_lane (lane_back l) (lane_back lane) ≡ false = same_lane_flip l (lane_back lane) ∙ ap (same_lane l) twice ∙ apart in
    rw (apart, apart_back, back, back_back)

same_direction_symm : (a b : Bool) → same_direction a b ≡ same_direction b a
same_direction_symm true true = refl
same_direction_symm true false = refl
same_direction_symm false true = refl
same_direction_symm false false = refl

pub same_lane_symm : (a b : BridgeLane) → same_lane a b ≡ same_lane b a
same_lane_symm a b = let d = same_direction_symm a.up b.up in grind (arith, nat_tests)

-- a fact of a pair of lanes, at each lane, holds after a move of one bridge where the move gives it there both
-- ways, and it held at every lane but that one
pub moved_gives : (P : BridgeLane → Both → Type 0) (move : Both → Both) (lane : BridgeLane) (world : World)
    → ((l : BridgeLane) → same_lane l lane ≡ false → P l (both world l))
    → P lane (move (both world lane)) → P (lane_back lane) (flip (move (both world lane)))
    → (l : BridgeLane) → P l (both (moved move lane world) l)
moved_gives P move lane world old here back l =
    let x : Both = move (both world lane) in
    let Goal : BridgeLane → Type 0 = λ l. P l (both (put world lane x) l) in
    let at_lane : Goal lane = rw (put_here world lane x) here in
    let at_back : Goal (lane_back lane) = rw (put_back world lane x) back in
    let Q : Bool → Type 0 = λ b. same_lane l lane ≡ b → Goal l in
    let R : Bool → Type 0 = λ b. same_lane l (lane_back lane) ≡ b → same_lane l lane ≡ false → Goal l in
    (elim (same_lane l lane) as Q [
      | true ↦ λ same. subst Goal (sym (same_lane_true l lane same)) at_lane
      | false ↦ λ apart. (elim (same_lane l (lane_back lane)) as R [
        | true ↦ λ same _. subst Goal (sym (same_lane_true l (lane_back lane) same)) at_back
        | false ↦ λ apart_back apart. rw (put_other world lane x l apart apart_back) (old l apart)
      ]) refl apart
    ]) refl

-- it is kept where it held at each lane
pub moved_keeps : (P : BridgeLane → Both → Type 0) (move : Both → Both) (lane : BridgeLane) (world : World)
    → ((l : BridgeLane) → P l (both world l))
    → P lane (move (both world lane)) → P (lane_back lane) (flip (move (both world lane)))
    → (l : BridgeLane) → P l (both (moved move lane world) l)
moved_keeps P move lane world old here back = moved_gives P move lane world (λ l _. old l) here back
