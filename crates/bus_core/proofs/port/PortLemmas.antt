-- A port before the first event, the test of an item, and an arrival.
use Rattle.std.proofs.Common.{◌≡◌, ℕ, ◌+◌, Bool, List, ◌∷◌, Option, Some, refl, sym, ap, subst, ◌∙◌}
use Rattle.pci_command.specs.declared.request.Request.{Request}
use Rattle.pci_command.specs.declared.op_id.OpId.{OpId}
use Rattle.board_model.specs.declared.bridge.Bridge.{Bridge}
use Rattle.board_model.specs.declared.bridge.Lane.{Lane as BridgeLane}
use Rattle.board_model.specs.declared.board.Board.{Board}
use Rattle.board_model.specs.Ways.{end_of, lane_back}
use Rattle.history_model.specs.declared.event.By.{By}
use Rattle.history_model.specs.declared.event.Mark.{Mark}
use Rattle.history_model.specs.declared.item.Carried.{Carried}
use Rattle.history_model.specs.Lanes.{LaneState, Both, empty_lane, asks_in, dones_in, came_off, Effect, Stands as EffectStands, Credits, Frees, Drops, effect_of, takes_effect, arrives_first, arrives}
use Rattle.history_model.specs.World.{World, both, moved}
use Rattle.history_model.specs.Answers.{bridge_to}
use Rattle.history_model.specs.Runs.{mark_of_first}
use Rattle.history_model.specs.Local.{is_lawful_at, coming}
use Rattle.history_model.proofs.facts.BridgeLemmas.{lane_back_back}
use Rattle.law_lanes.specs.Kinds.{RightKind}
use Rattle.law_local.proofs.Laws.{moved_here, moved_back}
use Rattle.lane_items.specs.declared.item.Item.{Item}
use Rattle.bus_face.specs.State.{FaceState}
use Rattle.bus_face.specs.Stands.{HasDepths, Stands}
use Rattle.bus_face.specs.OnLanes.{StandsForEmpty, IsLawfulOnLanes, IsItsRequest, turned, ArrivesOnLanes}
use Rattle.bus_agents.specs.marks.Marks.{MarksView, MarksStand, MarksArrival}
use Rattle.bus_core.specs.port.Port.{PortView, PortStands}
use Rattle.bus_core.specs.port.Calls.{PortStandsAtFirst, PortTests, Arrives, PortArrives}
use Rattle.bus_core.proofs.port.MoveLemmas.{pair_turned, moved_turned, stands_alike}

-- nothing stands yet, and nothing is held or owed
pub port_first : (board : Board) (bridge : Bridge) (port : PortView) → HasDepths bridge port.face → StandsForEmpty port.face → MarksStand board port.lane 0 0 port.marks
    → bridge_to board port.lane.bus ≡ Some bridge → PortStandsAtFirst board (end_of board port.lane) port
port_first board bridge port depths empty marks is_bridge =
    record {
      stands = λ tags came. record {
        bridge = bridge;
        is_bridge = is_bridge;
        ends = refl;
        face = stands_alike board bridge (end_of board port.lane) tags port.face (record { here = empty_lane; back = empty_lane }) (both (coming came) (lane_back port.lane)) refl refl refl
            (empty.stands board bridge (end_of board port.lane) tags depths);
        marks = marks;
      };
    }

-- the test of a half bridge is that of the port's lane
pub port_tests : (port : PortView) (item : Carried) (taken : Bool) → IsLawfulOnLanes port.face item taken → PortTests port item taken
port_tests port item taken on_lanes =
    record {
      lawful = λ board bus tags world stands.
          let back : BridgeLane = lane_back port.lane in
          on_lanes.lawful board stands.bridge bus tags (both world back) stands.face
          ∙ (ap (λ l. is_lawful_at (world l) (world back) item (Some stands.bridge)) (lane_back_back port.lane)
          ∙ ap (is_lawful_at (world port.lane) (world back) item) (sym stands.is_bridge));
    }

-- an effect leaves the counts and what is in flight of the lane on which the item came
effect_counts : (effect : Effect) (item : Carried) (x : Both) → ((takes_effect effect item x).here.asks ≡ x.here.asks) × ((takes_effect effect item x).here.dones ≡ x.here.dones) × ((takes_effect effect item x).here.flight ≡ x.here.flight)
effect_counts EffectStands item x = (refl, refl, refl)
effect_counts Credits item x = (refl, refl, refl)
effect_counts (Frees slot) item x = (refl, refl, refl)
effect_counts (Drops slot) item x = (refl, refl, refl)

-- and reads no counts
effect_off : (effect : Effect) (item : Carried) (rest : List Carried) (x : Both)
    → ((takes_effect effect item x).here.standing ≡ (takes_effect effect item (record x { here = came_off item rest x.here })).here.standing)
    × ((takes_effect effect item x).back.held ≡ (takes_effect effect item (record x { here = came_off item rest x.here })).back.held)
    × ((takes_effect effect item x).back.owed ≡ (takes_effect effect item (record x { here = came_off item rest x.here })).back.owed)
    × ((takes_effect effect item x).back.flight ≡ (takes_effect effect item (record x { here = came_off item rest x.here })).back.flight)
effect_off EffectStands item rest x = (refl, refl, refl, refl)
effect_off Credits item rest x = (refl, refl, refl, refl)
effect_off (Frees slot) item rest x = (refl, refl, refl, refl)
effect_off (Drops slot) item rest x = (refl, refl, refl, refl)

arrives_here : (board : Board) (bus : ℕ) (tags : By → OpId → ℕ) (world : World) (rest : List Carried) (old : PortView) (item : Carried) (request : Option Request) (mark : Mark) (face : FaceState) (marks : MarksView) (back : Option Item)
    → MarksArrival old.marks item mark marks → ArrivesOnLanes old.face item request mark face back → IsItsRequest board bus item request → RightKind board item
    → PortStands board bus tags old world → (world old.lane).flight ≡ item ∷ rest
    → Arrives board bus tags world old.lane rest mark (record { lane = old.lane; face = face; marks = marks }) back
arrives_here board bus tags world rest old item request mark face marks back marking arriving its kind stands came =
    let lane : BridgeLane = old.lane in
    let x : Both = both world lane in
    let effect : Effect = effect_of mark item in
    let off : Both = record x { here = came_off item rest x.here } in
    let after : Both = takes_effect effect item off in
    let next : World = moved (arrives mark) lane world in
    let arrival : arrives mark x ≡ after = ap (λ flight. arrives_first mark flight x) came in
    let next_here : next lane ≡ after.here = moved_here (arrives mark) lane world ∙ ap (λ (y : Both). y.here) arrival in
    let next_back : next (lane_back lane) ≡ after.back = moved_back (arrives mark) lane world ∙ ap (λ (y : Both). y.back) arrival in
    let seen : both next (lane_back lane) ≡ turned after = moved_turned (arrives mark) lane world ∙ ap turned arrival in
    let before : Stands board stands.bridge bus tags old.face (turned x) = subst (Stands board stands.bridge bus tags old.face) (pair_turned lane world) stands.face in
    let same = effect_off effect item rest x in
    let counts = effect_counts effect item off in
    let taken : Stands board stands.bridge bus tags face (turned after) =
    stands_alike board stands.bridge bus tags face (turned (takes_effect effect item x)) (turned after) same.0 same.1 same.2 (arriving.stands board stands.bridge bus tags (turned x) its kind before) in
    let asks : (next lane).asks ≡ (world lane).asks + asks_in item = ap (λ (s : LaneState). s.asks) next_here ∙ counts.0 in
    let dones : (next lane).dones ≡ (world lane).dones + dones_in item = ap (λ (s : LaneState). s.dones) next_here ∙ counts.1 in
    let M : ℕ → ℕ → Type 0 = λ a d. MarksStand board lane a d marks in
    record {
      marked = ap (mark_of_first board lane (world lane)) came ∙ ap Some (sym (marking.marked board lane (world lane) stands.marks));
      stands = record {
        bridge = stands.bridge;
        is_bridge = stands.is_bridge;
        ends = stands.ends;
        face = subst (Stands board stands.bridge bus tags face) (sym seen) taken;
        marks = subst (λ a. M a (next lane).dones) (sym asks)
            (subst (λ d. M ((world lane).asks + asks_in item) d) (sym dones) (marking.counted board lane (world lane).asks (world lane).dones stands.marks));
      };
      left = ap (λ (s : LaneState). s.flight) next_here ∙ counts.2;
      sent = ap (λ (s : LaneState). s.flight) next_back ∙ (sym same.3 ∙ arriving.sent (turned x));
    }

pub port_arrives : (board : Board) (old : PortView) (item : Carried) (request : Option Request) (mark : Mark) (face : FaceState) (marks : MarksView) (back : Option Item)
    → MarksArrival old.marks item mark marks → ArrivesOnLanes old.face item request mark face back
    → PortArrives board old item request mark (record { lane = old.lane; face = face; marks = marks }) back
port_arrives board old item request mark face marks back marking arriving =
    record { arrives = λ bus tags world rest its kind stands came. arrives_here board bus tags world rest old item request mark face marks back marking arriving its kind stands came }
