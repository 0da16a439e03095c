-- An item arrives at one port of the bus.
use Rattle.std.proofs.Common.{◌≡◌, ◌≢◌, ℕ, Bool, true, false, cond, not, ◌==◌, ◌&&◌, List, [], ◌∷◌, ◌++◌, map, option_to_list, Option, Some, None, IsSome, refl, sym, ap, subst, ◌∙◌, slice_get}
use Rattle.std.proofs.lemmas.Bool.{eqb-true, eqb-false}
use Rattle.std.proofs.lemmas.List.{append-nil}
use Rattle.pci_command.specs.declared.request.Request.{Request}
use Rattle.pci_command.specs.declared.op_id.OpId.{OpId}
use Rattle.board_model.specs.declared.bridge.Lane.{Lane as BridgeLane}
use Rattle.board_model.specs.declared.board.Board.{Board}
use Rattle.board_model.specs.Requests.{request_of, is_posted}
use Rattle.board_model.specs.Ways.{lane_back}
use Rattle.history_model.specs.declared.event.By.{By}
use Rattle.history_model.specs.declared.event.Mark.{Mark}
use Rattle.history_model.specs.declared.event.Event.{Event}
use Rattle.history_model.specs.declared.event.Event.TheVariants.{Arrive}
use Rattle.history_model.specs.declared.item.Carried.{Carried}
use Rattle.history_model.specs.declared.item.Carried.TheVariants.{Post, Ask, Done, Room, Gone}
use Rattle.history_model.specs.Lanes.{LaneState, arrives}
use Rattle.history_model.specs.World.{World, moved}
use Rattle.history_model.specs.Local.{is_lawful_on}
use Rattle.history_model.proofs.facts.RequestLemmas.{request_is_of}
use Rattle.law_lanes.specs.Kinds.{NamesOp, RightKind}
use Rattle.lane_items.specs.declared.item.Item.{Item}
use Rattle.bus_face.specs.Arrivals.{carried, HasRequest}
use Rattle.bus_face.specs.OnLanes.{IsItsRequest}
use Rattle.bus_core.specs.port.Port.{PortView, PortStands}
use Rattle.bus_core.specs.port.Calls.{Arrives}
use Rattle.bus_core.proofs.port.MoveLemmas.{moved_apart, other_bridge_leaves}
use Rattle.bus_agents.proofs.ThroughLemmas.{through_stays}
use Rattle.bus_targets.proofs.EventLemmas.{stands_elsewhere}
use Rattle.bus_core.specs.Bus.{BusView, Shape, shape_of, IsOf, AreLines, BusStands}
use Rattle.bus_core.specs.Places.{ComesAt, TestsAt, ask_request}
use Rattle.bus_core.specs.Serves.{is_there_as, names_its_kind, BusRefuses, ArrivesAt, BusArrives}
use Rattle.bus_core.proofs.ListLemmas.{one_map, one_each, get_map, map_get}
use Rattle.bus_core.proofs.CalmLemmas.{parts_stay}

-- an operation that is there has its kind
named_as : (board : Board) (bus : ℕ) (posted : Bool) (o : OpId) (found : Option Request) → request_of board o bus ≡ found → is_there_as posted found ≡ true → NamesOp board posted o × IsSome found
named_as board bus true o None is there = cc
named_as board bus false o None is there = cc
named_as board bus true o (Some request) is there =
    let of_op = request_is_of board o bus request is in
    (record { op = of_op.op; is_op = of_op.is_op; is_posted = sym (ap is_posted of_op.is_request) ∙ there }, refl)
named_as board bus false o (Some request) is there =
    let of_op = request_is_of board o bus request is in
    let P : Bool → Type 0 = λ b. not b ≡ true → b ≡ false in
    let delayed : is_posted request ≡ false = (elim (is_posted request) as P [ true ↦ λ e. cc | false ↦ λ _. refl ]) there in
    (record { op = of_op.op; is_op = of_op.is_op; is_posted = sym (ap is_posted of_op.is_request) ∙ delayed }, refl)

-- it comes with its request, and is of its kind
pub kind_parts : (board : Board) (bus : ℕ) (item : Carried) → names_its_kind board bus item ≡ true → HasRequest item (ask_request board bus item) × (IsItsRequest board bus item (ask_request board bus item) × RightKind board item)
kind_parts board bus (Post op) is = let named = named_as board bus true op (request_of board op bus) refl is in (tt, (tt, named.0))
kind_parts board bus (Ask op slot) is = let named = named_as board bus false op (request_of board op bus) refl is in (named.1, ((refl, named.1), named.0))
kind_parts board bus (Done op slot outcome) is = let named = named_as board bus false op (request_of board op bus) refl is in (tt, (tt, named.0))
kind_parts board bus Room is = (tt, (tt, tt))
kind_parts board bus (Gone slot) is = (tt, (tt, tt))

-- an item that the test refuses
pub refused : (board : Board) (place : ℕ) (s : BusView) (item : Item) (taken : Bool) → TestsAt place s.ports (carried item) taken → (taken && names_its_kind board s.bus (carried item)) ≡ false → BusRefuses board place s item
refused board place s item taken tests fails =
    record {
      refuses = λ tags world p lane is stands.
          let one = map_get (λ (port : PortView). port.lane) s.ports place lane is in
          let both = sym one.1.0 ∙ tests.there in
          let same : one.0 ≡ tests.port = cc in
          let own : tests.port.lane ≡ lane = sym (ap (λ (port : PortView). port.lane) same) ∙ one.1.1 in
          let lawful : taken ≡ is_lawful_on board world tests.port.lane (carried item) = tests.tests.lawful board s.bus tags world (stands.ports place tests.port tests.there) in
          let F : Bool → Bool = λ b. b && names_its_kind board s.bus (carried item) in
          ap (λ l. F (is_lawful_on board world l (carried item))) (sym own) ∙ (sym (ap F lawful) ∙ fails);
    }

-- an item that arrives
module _ (board : Board) (place : ℕ) (s : BusView) (item : Item) (mark : Mark) (back : Option Item) (ports : List PortView) (kind : names_its_kind board s.bus (carried item) ≡ true)
    (comes : ComesAt place s.ports (carried item) (ask_request board s.bus (carried item)) mark back ports)
    (tags : By → OpId → ℕ) (world : World) (p : List Event) (rest : List Carried) (lane : BridgeLane) (is : slice_get (shape_of s).lanes place ≡ Some lane) (stands : BusStands board tags world p s)
    (came : (world lane).flight ≡ carried item ∷ rest) where
  own_lane : comes.before.lane ≡ lane
  own_lane =
      let one = map_get (λ (port : PortView). port.lane) s.ports place lane is in
      let both = sym one.1.0 ∙ comes.one.was in
      let same : one.0 ≡ comes.before = cc in
      sym (ap (λ (port : PortView). port.lane) same) ∙ one.1.1

  arrived : Arrives board s.bus tags world lane rest mark comes.after back
  arrived =
      let parts = kind_parts board s.bus (carried item) kind in
      let A : BridgeLane → Type 0 = λ l. Arrives board s.bus tags world l rest mark comes.after back in
      subst A own_lane ((comes.arrives board).arrives s.bus tags world rest parts.1.0 parts.1.1 (stands.ports place comes.before comes.one.was) (ap (λ l. (world l).flight) own_lane ∙ came))

  apart_from : (n : ℕ) (port : PortView) → n ≢ place → slice_get s.ports n ≡ Some port → port.lane.bus ≢ lane.bus
  apart_from n port differ at =
      let f : PortView → BridgeLane = λ one. one.lane in
      stands.is_of.lanes_apart n place port.lane lane (get_map f s.ports n port at) is differ

  pub item_arrives : ArrivesAt board tags world p lane place s item mark back (record s { ports = ports })
  item_arrives =
      let next : World = moved (arrives mark) lane world in
      let f : PortView → BridgeLane = λ one. one.lane in
      let lanes : map f ports ≡ map f s.ports = one_map f place s.ports ports comes.before comes.after comes.one comes.lane in
      let S : List BridgeLane → Shape = λ l. record { bus = s.bus; lanes = l; masters = (shape_of s).masters; targets = (shape_of s).targets } in
      let e : Event = Arrive lane mark in
      record {
        marked = arrived.marked;
        stands = record {
          is_of = subst (λ l. IsOf board (S l)) (sym lanes) stands.is_of;
          lines = subst (λ l. AreLines board tags (S l)) (sym lanes) stands.lines;
          ports = one_each (λ _ port. PortStands board s.bus tags port next) place s.ports ports comes.before comes.after comes.one arrived.stands
              (λ n port differ at. other_bridge_leaves board s.bus tags port world (arrives mark) lane (apart_from n port differ at) (stands.ports n port at));
          masters = λ n m at. record { turn = (stands.masters n m at).turn };
          targets = λ n t at. stands_elsewhere board p t e tt (stands.targets n t at);
          through = through_stays board p s.through e (λ q. refl) stands.through;
          parts = parts_stay board s.bus p e (λ q. refl) stands.parts;
        };
        to_bus = λ n l at.
            let P : Bool → Type 0 = λ b. (place == n) ≡ b → (world l).flight ≡ cond b (carried item ∷ (next l).flight) (next l).flight in
            (elim (place == n) as P [
              | true ↦ λ same.
                  let here : slice_get (shape_of s).lanes place ≡ Some l = subst (λ m. slice_get (shape_of s).lanes m ≡ Some l) (sym (eqb-true place n same)) at in
                  let both = sym here ∙ is in
                  let own : l ≡ lane = cc in
                  let came_here : (world l).flight ≡ carried item ∷ rest = ap (λ k. (world k).flight) own ∙ came in
                  let left : (next l).flight ≡ rest = ap (λ k. (next k).flight) own ∙ arrived.left in
                  came_here ∙ ap (λ q. carried item ∷ q) (sym left)
              | false ↦ λ differ.
                  let one = map_get f s.ports n l at in
                  let differ_n : n ≢ place = λ same. eqb-false place n differ (sym same) in
                  let apart : l.bus ≢ lane.bus = subst (λ (k : BridgeLane). k.bus ≢ lane.bus) one.1.1 (apart_from n one.0 differ_n one.1.0) in
                  sym (ap (λ (x : LaneState). x.flight) (moved_apart (arrives mark) lane world l apart))
            ]) refl;
        from_bus = λ n l at.
            let P : Bool → Type 0 = λ b. (place == n) ≡ b → (next (lane_back l)).flight ≡ (world (lane_back l)).flight ++ cond b (map carried (option_to_list back)) [] in
            (elim (place == n) as P [
              | true ↦ λ same.
                  let here : slice_get (shape_of s).lanes place ≡ Some l = subst (λ m. slice_get (shape_of s).lanes m ≡ Some l) (sym (eqb-true place n same)) at in
                  let both = sym here ∙ is in
                  let own : l ≡ lane = cc in
                  subst (λ k. (next (lane_back k)).flight ≡ (world (lane_back k)).flight ++ map carried (option_to_list back)) (sym own) arrived.sent
              | false ↦ λ differ.
                  let one = map_get f s.ports n l at in
                  let differ_n : n ≢ place = λ same. eqb-false place n differ (sym same) in
                  let apart : l.bus ≢ lane.bus = subst (λ (k : BridgeLane). k.bus ≢ lane.bus) one.1.1 (apart_from n one.0 differ_n one.1.0) in
                  ap (λ (x : LaneState). x.flight) (moved_apart (arrives mark) lane world (lane_back l) apart) ∙ sym (append-nil (world (lane_back l)).flight)
            ]) refl;
      }

pub bus_arrives : (board : Board) (place : ℕ) (s : BusView) (item : Item) (mark : Mark) (back : Option Item) (ports : List PortView) → names_its_kind board s.bus (carried item) ≡ true
    → ComesAt place s.ports (carried item) (ask_request board s.bus (carried item)) mark back ports → BusArrives board place s item mark back (record s { ports = ports })
bus_arrives board place s item mark back ports kind comes =
    record { arrives = λ tags world p rest lane is stands came. item_arrives board place s item mark back ports kind comes tags world p rest lane is stands came }
