-- What a move of one bridge does to its two lanes, seen from the bus where one of them ends.
use Rattle.std.proofs.Common.{◌≡◌, ◌≢◌, ℕ, Bool, true, false, refl, sym, ap, subst, ◌∙◌}
use Rattle.std.specs.List.{AllByRecursion}
use Rattle.pci_command.specs.declared.op_id.OpId.{OpId}
use Rattle.board_model.specs.declared.bridge.Bridge.{Bridge}
use Rattle.board_model.specs.declared.bridge.Lane.{Lane as BridgeLane}
use Rattle.board_model.specs.declared.board.Board.{Board}
use Rattle.board_model.specs.Ways.{lane_back}
use Rattle.history_model.specs.declared.event.By.{By}
use Rattle.history_model.specs.Lanes.{LaneState, Both}
use Rattle.history_model.specs.World.{World, same_lane, both, moved}
use Rattle.history_model.proofs.facts.BridgeLemmas.{lane_back_back, same_lane_true}
use Rattle.law_local.proofs.Laws.{moved_here, moved_back, moved_other}
use Rattle.bus_face.specs.State.{FaceState}
use Rattle.bus_face.specs.Stands.{AreEntries, CanStandThere, Stands}
use Rattle.bus_face.specs.OnLanes.{turned}
use Rattle.bus_agents.specs.marks.Marks.{MarksStand}
use Rattle.bus_core.specs.port.Port.{PortView}
use Rattle.bus_core.specs.port.Calls.{OtherBridgesLeave}

-- the two lanes of the lane back
pub pair_turned : (lane : BridgeLane) (w : World) → both w (lane_back lane) ≡ turned (both w lane)
pair_turned lane w =
    let F : LaneState → Both = λ back. record { here = w (lane_back lane); back = back } in
    ap (λ l. F (w l)) (lane_back_back lane)

-- a move of the lane that ends on the bus, seen from the lane that begins there
pub moved_turned : (move : Both → Both) (lane : BridgeLane) (w : World) → both (moved move lane w) (lane_back lane) ≡ turned (move (both w lane))
moved_turned move lane w =
    let next : World = moved move lane w in
    let F : LaneState → LaneState → Both = λ a b. record { here = a; back = b } in
    pair_turned lane next ∙ (ap (λ a. F a (next lane)) (moved_back move lane w) ∙ ap (F (move (both w lane)).back) (moved_here move lane w))

-- a move of the lane that begins on the bus
pub moved_pair : (move : Both → Both) (k : BridgeLane) (w : World) → both (moved move k w) k ≡ move (both w k)
moved_pair move k w =
    let F : LaneState → LaneState → Both = λ a b. record { here = a; back = b } in
    ap (λ a. F a (moved move k w (lane_back k))) (moved_here move k w) ∙ ap (F (move (both w k)).here) (moved_back move k w)

-- and what it does to the lane that ends there
pub moved_ends : (move : Both → Both) (lane : BridgeLane) (w : World) → moved move (lane_back lane) w lane ≡ (move (both w (lane_back lane))).back
moved_ends move lane w =
    let k : BridgeLane = lane_back lane in
    let P : BridgeLane → Type 0 = λ l. moved move k w l ≡ (move (both w k)).back in
    subst P (lane_back_back lane) (moved_back move k w)

-- half a bridge reads no more of its lanes than what stands on the one and is held and owed for the other
pub stands_alike : (board : Board) (bridge : Bridge) (bus : ℕ) (tags : By → OpId → ℕ) (face : FaceState) (x y : Both) → x.back.standing ≡ y.back.standing → x.here.held ≡ y.here.held → x.here.owed ≡ y.here.owed
    → Stands board bridge bus tags face x → Stands board bridge bus tags face y
stands_alike board bridge bus tags face x y standing held owed old =
    record {
      depths = old.depths;
      kinds = subst (AllByRecursion (CanStandThere board)) standing old.kinds;
      line = old.line;
      items = sym standing ∙ old.items;
      rising = old.rising;
      posts = old.posts;
      asks = old.asks;
      requests = old.requests;
      dones = old.dones;
      slots = subst (λ h. AreEntries board bus tags h face.slots.slots) held old.slots;
      owed = sym owed ∙ old.owed;
    }

-- lanes of different bridges
pub bridges_differ : (l m : BridgeLane) → l.bus ≢ m.bus → same_lane l m ≡ false
bridges_differ l m different =
    let P : Bool → Type 0 = λ b. same_lane l m ≡ b → b ≡ false in
    (elim (same_lane l m) as P [ true ↦ λ same. absurd (different (ap (λ (x : BridgeLane). x.bus) (same_lane_true l m same))) | false ↦ λ _. refl ]) refl

-- a lane of another bridge stays as it was
pub moved_apart : (move : Both → Both) (lane : BridgeLane) (w : World) (l : BridgeLane) → l.bus ≢ lane.bus → moved move lane w l ≡ w l
moved_apart move lane w l apart = moved_other move lane w l (bridges_differ l lane apart) (bridges_differ l (lane_back lane) apart)

-- so the port of another bridge stands for the same
pub other_bridge_leaves : (board : Board) (bus : ℕ) (tags : By → OpId → ℕ) (port : PortView) (world : World) → OtherBridgesLeave board bus tags port world
other_bridge_leaves board bus tags port world move lane apart old =
    let next : World = moved move lane world in
    let here : next port.lane ≡ world port.lane = moved_apart move lane world port.lane apart in
    let back : next (lane_back port.lane) ≡ world (lane_back port.lane) = moved_apart move lane world (lane_back port.lane) apart in
    let F : LaneState → LaneState → Both = λ a b. record { here = a; back = b } in
    let same : both next (lane_back port.lane) ≡ both world (lane_back port.lane) =
    pair_turned port.lane next ∙ (ap (λ a. F a (next port.lane)) back ∙ (ap (F (world (lane_back port.lane))) here ∙ sym (pair_turned port.lane world))) in
    let M : LaneState → Type 0 = λ s. MarksStand board port.lane s.asks s.dones port.marks in
    record {
      bridge = old.bridge;
      is_bridge = old.is_bridge;
      ends = old.ends;
      face = subst (Stands board old.bridge bus tags port.face) (sym same) old.face;
      marks = subst M (sym here) old.marks;
    }
