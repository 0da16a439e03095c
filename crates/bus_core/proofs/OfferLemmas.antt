-- A lane presents an item that stands.
use Rattle.std.proofs.Common.{◌≡◌, ◌≢◌, ℕ, Bool, true, false, cond, ◌==◌, List, [], ◌∷◌, ◌++◌, map, length, get_or, Option, Some, None, refl, sym, ap, subst, ◌∙◌, slice_get}
use Rattle.std.proofs.lemmas.Bool.{eqb-true, eqb-false}
use Rattle.std.proofs.lemmas.List.{append-nil, append_assoc, map-append}
use Rattle.std.proofs.lemmas.Option.{slice_get_read}
use Rattle.std.proofs.lemmas.Map.Keys.{any_passes_from_place}
use Rattle.std.specs.List.{Contains}
use Rattle.pci_command.specs.declared.op_id.OpId.{OpId}
use Rattle.pci_command.specs.declared.op_id.Outcome.{Outcome}
use Rattle.board_model.specs.declared.bridge.Lane.{Lane as BridgeLane}
use Rattle.board_model.specs.declared.bridge.Place.{Place}
use Rattle.board_model.specs.declared.board.Board.{Board}
use Rattle.board_model.specs.Ways.{lane_back}
use Rattle.history_model.specs.declared.event.By.{By}
use Rattle.history_model.specs.declared.event.By.TheVariants.{Lane as ByLane}
use Rattle.history_model.specs.declared.event.Step.{Step}
use Rattle.history_model.specs.declared.event.Event.{Event}
use Rattle.history_model.specs.declared.event.Event.TheVariants.{Act}
use Rattle.history_model.specs.declared.item.Answer.TheVariants.{Gives, Retry}
use Rattle.history_model.specs.declared.item.Cause.{Cause}
use Rattle.history_model.specs.Lanes.{LaneState, item_ends}
use Rattle.history_model.specs.World.{World, moved, leaves, lane_outcome, at_initiator}
use Rattle.history_model.specs.declared.item.Carried.{Carried}
use Rattle.history_model.specs.Answers.{wants_in}
use Rattle.history_model.proofs.facts.RequestLemmas.{same_op_self}
use Rattle.lane_items.specs.declared.item.Item.{Item}
use Rattle.bus_face.specs.declared.offer.Offer.{Offer}
use Rattle.bus_face.specs.Arrivals.{carried}
use Rattle.bus_face.specs.Offers.{offers_of, is_offer_of}
use Rattle.bus_face.proofs.EndLemmas.{offers_on_lanes}
use Rattle.bus_core.specs.port.Port.{PortView, PortStands}
use Rattle.bus_core.specs.port.Calls.{after_answer}
use Rattle.bus_core.proofs.port.MoveLemmas.{moved_apart, other_bridge_leaves}
use Rattle.bus_core.proofs.port.ReplyLemmas.{port_offers}
use Rattle.bus_agents.specs.Turns.{MasterView}
use Rattle.bus_agents.specs.Through.{ThroughStands}
use Rattle.bus_targets.specs.State.{TargetView}
use Rattle.bus_core.specs.declared.given.Sent.{Sent}
use Rattle.bus_core.specs.Bus.{BusView, Shape, shape_of, IsOf, AreLines, PartsAreOfWrites, BusStands}
use Rattle.bus_core.specs.Calls.{items_at, Flights, IsLine, BusAnswers, TurnsBack}
use Rattle.bus_core.specs.Parts.{TellsLane}
use Rattle.bus_core.specs.Places.{EndsAt}
use Rattle.bus_core.specs.Serves.{BusPresents, BusTurnsBack}
use Rattle.bus_core.proofs.ListLemmas.{one_each, get_map, map_get}

-- nothing ended
pub not_ended : (board : Board) (place : ℕ) (offer : Offer) (step : Step) (s : BusView) (port : PortView) → slice_get s.ports place ≡ Some port → lane_outcome board port.lane offer.op step ≡ None → TellsLane board place offer step s None s
not_ended board place offer step s port there none =
    let same : (world : World) (other : PortView) → slice_get s.ports place ≡ Some other → world ≡ at_initiator board (ByLane other.lane) offer.op step world =
    λ world other is.
    let both = sym there ∙ is in
    let one : port ≡ other = cc in
    let outcome : lane_outcome board other.lane offer.op step ≡ None = subst (λ (x : PortView). lane_outcome board x.lane offer.op step ≡ None) one none in
    sym (ap (λ found. leaves other.lane offer.op found world) outcome) in
    record {
      masters = refl;
      targets = refl;
      through = refl;
      stands = λ tags world other is is_of stands n x at. subst (λ (w : World). PortStands board s.bus tags x w) (same world other is) (stands n x at);
      flights = λ tags world other is is_of stands. record {
        to_bus = λ n l at. ap (λ (w : World). (w l).flight) (sym (same world other is));
        from_bus = λ n l at. ap (λ (w : World). (w (lane_back l)).flight) (sym (same world other is)) ∙ sym (append-nil (world (lane_back l)).flight);
      };
    }

-- one item ended
module _ (board : Board) (place : ℕ) (offer : Offer) (step : Step) (outcome : Outcome) (s : BusView) (ports : List PortView) (back : Item) (ends : EndsAt place s.ports offer outcome ports back)
    (is_outcome : lane_outcome board ends.before.lane offer.op step ≡ Some outcome) where
  next_is : (world : World) (port : PortView) → slice_get s.ports place ≡ Some port → moved (item_ends offer.op outcome) ends.before.lane world ≡ at_initiator board (ByLane port.lane) offer.op step world
  next_is world port is =
      let both = sym is ∙ ends.one.was in
      let one : port ≡ ends.before = cc in
      let L : PortView → World = λ x. at_initiator board (ByLane x.lane) offer.op step world in
      sym (ap L one ∙ ap (λ found. leaves ends.before.lane offer.op found world) is_outcome)

  apart_from : IsOf board (shape_of s) → (n : ℕ) (port : PortView) → n ≢ place → slice_get s.ports n ≡ Some port → port.lane.bus ≢ ends.before.lane.bus
  apart_from is_of n port differ is =
      let f : PortView → BridgeLane = λ one. one.lane in
      is_of.lanes_apart n place port.lane ends.before.lane (get_map f s.ports n port is) (get_map f s.ports place ends.before ends.one.was) differ

  pub one_ended : TellsLane board place offer step s (Some (record { place = place; item = back })) (record s { ports = ports })
  one_ended =
      let lane : BridgeLane = ends.before.lane in
      let f : PortView → BridgeLane = λ one. one.lane in
      record {
        masters = refl;
        targets = refl;
        through = refl;
        stands = λ tags world port is is_of stands.
            let next : World = moved (item_ends offer.op outcome) lane world in
            let here = ends.ends.ends board s.bus tags world (stands place ends.before ends.one.was) in
            let all : (n : ℕ) (x : PortView) → slice_get ports n ≡ Some x → PortStands board s.bus tags x next =
            one_each (λ _ x. PortStands board s.bus tags x next) place s.ports ports ends.before ends.after ends.one here.stands
            (λ n x differ at. other_bridge_leaves board s.bus tags x world (item_ends offer.op outcome) lane (apart_from is_of n x differ at) (stands n x at)) in
            λ n x at. subst (λ (w : World). PortStands board s.bus tags x w) (next_is world port is) (all n x at);
        flights = λ tags world port is is_of stands.
            let next : World = moved (item_ends offer.op outcome) lane world in
            let here = ends.ends.ends board s.bus tags world (stands place ends.before ends.one.was) in
            let move = next_is world port is in
            let F : World → Type 0 = λ w. Flights (shape_of s) world w (items_at (Some (record { place = place; item = back }))) in
            subst F move (record {
              to_bus = λ n l at.
                  let one = map_get f s.ports n l at in
                  let P : Bool → Type 0 = λ b. (n == place) ≡ b → (next l).flight ≡ (world l).flight in
                  (elim (n == place) as P [
                    | true ↦ λ same.
                        let was : slice_get s.ports place ≡ Some one.0 = subst (λ m. slice_get s.ports m ≡ Some one.0) (eqb-true n place same) one.1.0 in
                        let both = sym was ∙ ends.one.was in
                        let own_port : one.0 ≡ ends.before = cc in
                        let own : l ≡ lane = sym one.1.1 ∙ ap f own_port in
                        subst (λ k. (next k).flight ≡ (world k).flight) (sym own) here.left
                    | false ↦ λ differ.
                        let apart : l.bus ≢ lane.bus = subst (λ (k : BridgeLane). k.bus ≢ lane.bus) one.1.1 (apart_from is_of n one.0 (eqb-false n place differ) one.1.0) in
                        ap (λ (x : LaneState). x.flight) (moved_apart (item_ends offer.op outcome) lane world l apart)
                  ]) refl;
              from_bus = λ n l at.
                  let one = map_get f s.ports n l at in
                  let P : Bool → Type 0 = λ b. (place == n) ≡ b → (next (lane_back l)).flight ≡ (world (lane_back l)).flight ++ map carried (cond b (back ∷ []) []) in
                  (elim (place == n) as P [
                    | true ↦ λ same.
                        let number : place ≡ n = eqb-true place n same in
                        let was : slice_get s.ports place ≡ Some one.0 = subst (λ m. slice_get s.ports m ≡ Some one.0) (sym number) one.1.0 in
                        let both = sym was ∙ ends.one.was in
                        let own_port : one.0 ≡ ends.before = cc in
                        let own : l ≡ lane = sym one.1.1 ∙ ap f own_port in
                        subst (λ k. (next (lane_back k)).flight ≡ (world (lane_back k)).flight ++ carried back ∷ []) (sym own) here.sent
                    | false ↦ λ differ.
                        let differ_n : n ≢ place = λ e. eqb-false place n differ (sym e) in
                        let apart : l.bus ≢ lane.bus = subst (λ (k : BridgeLane). k.bus ≢ lane.bus) one.1.1 (apart_from is_of n one.0 differ_n one.1.0) in
                        ap (λ (x : LaneState). x.flight) (moved_apart (item_ends offer.op outcome) lane world (lane_back l) apart) ∙ sym (append-nil (world (lane_back l)).flight)
                  ]) refl;
            });
      }

-- A lane that presents what is offered.
offered_wants : (board : Board) (old : BusView) (place : ℕ) (port : PortView) (offer : Offer) → slice_get old.ports place ≡ Some port → Contains (offers_of port.face) offer
    → (tags : By → OpId → ℕ) (world : World) (p : List Event) → BusStands board tags world p old → wants_in board world p old.bus (ByLane port.lane) offer.op ≡ true
offered_wants board old place port offer there offered tags world p stands =
    let offers : List Offer = offers_of port.face in
    let same : offer ≡ get_or offers offered.0 offer = sym offered.2 in
    let at : slice_get offers offered.0 ≡ Some offer = slice_get_read offers (length offers) offered.0 offer refl offered.1 same in
    (port_offers port offers (offers_on_lanes port.face offers refl)).wanted board old.bus tags world p offer.op (stands.ports place port there)
    ∙ any_passes_from_place (is_offer_of offer.op) offers offered.0 offer at (same_op_self offer.op)

offered_line : (board : Board) (old : BusView) (place : ℕ) (port : PortView) (o : OpId) → slice_get old.ports place ≡ Some port
    → (tags : By → OpId → ℕ) (world : World) (p : List Event) → BusStands board tags world p old → IsLine board old.bus tags (ByLane port.lane) o place
offered_line board old place port o there tags world p stands =
    let line = stands.lines.lanes place port.lane o (get_map (λ (x : PortView). x.lane) old.ports place port there) in
    record { line_is = line.0; tells = line.1; there = (stands.ports place port there).ends }

pub offer_turns : (board : Board) (old : BusView) (place : ℕ) (port : PortView) (offer : Offer) → slice_get old.ports place ≡ Some port → Contains (offers_of port.face) offer → TurnsBack board old place offer.op → BusTurnsBack board (ByLane port.lane) offer.op old
offer_turns board old place port offer there offered turns =
    record {
      wanted = λ tags world p stands. offered_wants board old place port offer there offered tags world p stands;
      turns = λ tags world p stands. turns.turns tags world p (ByLane port.lane) (offered_line board old place port offer.op there tags world p stands) stands;
    }

pub offer_retried : (board : Board) (old new : BusView) (place : ℕ) (port : PortView) (offer : Offer) (cause : Cause) (over : Option Sent) → slice_get old.ports place ≡ Some port → Contains (offers_of port.face) offer
    → BusAnswers board old place offer.op (Retry cause) over new → BusPresents board (ByLane port.lane) offer.op old (Retry cause) None None new
offer_retried board old new place port offer cause over there offered answers =
    record {
      presents = λ tags world p stands.
          let done = answers.answers tags world p (ByLane port.lane) (offered_line board old place port offer.op there tags world p stands) stands in
          record {
            wanted = offered_wants board old place port offer there offered tags world p stands;
            answer_is = done.answer_is;
            stands = done.stands;
            flights = record { to_bus = λ n lane is. refl; from_bus = λ n lane is. sym (append-nil (world (lane_back lane)).flight) };
          };
    }

-- one after the other
flights_then : (shape : Shape) (a b c : World) (first second : ℕ → List Item) → Flights shape a b first → Flights shape b c second → Flights shape a c (λ n. first n ++ second n)
flights_then shape a b c first second one two =
    record {
      to_bus = λ n l is. two.to_bus n l is ∙ one.to_bus n l is;
      from_bus = λ n l is.
          let start : List Carried = (a (lane_back l)).flight in
          two.from_bus n l is
          ∙ (ap (λ q. q ++ map carried (second n)) (one.from_bus n l is)
          ∙ (append_assoc start (map carried (first n)) (map carried (second n))
          ∙ ap (λ q. start ++ q) (sym (map-append carried (first n) (second n)))));
    }

pub offer_did : (board : Board) (old mid new : BusView) (place : ℕ) (port : PortView) (offer : Offer) (step : Step) (at : Place) (over back : Option Sent) → slice_get old.ports place ≡ Some port → Contains (offers_of port.face) offer
    → BusAnswers board old place offer.op (Gives step at) over mid → shape_of mid ≡ shape_of old → mid.masters ≡ old.masters → slice_get mid.ports place ≡ slice_get old.ports place
    → shape_of new ≡ shape_of mid → TellsLane board place offer step mid back new
    → BusPresents board (ByLane port.lane) offer.op old (Gives step at) over back new
offer_did board old mid new place port offer step at over back there offered answers same_shape same_masters same_port new_shape tells =
    record {
      presents = λ tags world p stands.
          let done = answers.answers tags world p (ByLane port.lane) (offered_line board old place port offer.op there tags world p stands) stands in
          let w : World = after_answer board old.bus (ByLane port.lane) offer.op (Gives step at) world in
          let here : slice_get mid.ports place ≡ Some port = same_port ∙ there in
          let bus : new.bus ≡ mid.bus = ap (λ (s : Shape). s.bus) new_shape in
          let e : Event = Act old.bus (ByLane port.lane) offer.op step at in
          record {
            wanted = offered_wants board old place port offer there offered tags world p stands;
            answer_is = done.answer_is;
            stands = record {
              is_of = subst (λ s. IsOf board s) (sym new_shape) done.stands.is_of;
              lines = subst (λ s. AreLines board tags s) (sym new_shape) done.stands.lines;
              ports = λ n x is. subst (λ b. PortStands board b tags x (at_initiator board (ByLane port.lane) offer.op step w)) (sym bus) (tells.stands tags w port here done.stands.is_of done.stands.ports n x is);
              masters = λ n m is. record { turn = (done.stands.masters n m (ap (λ (ms : List MasterView). slice_get ms n) (sym tells.masters) ∙ is)).turn };
              targets = λ n t is. done.stands.targets n t (ap (λ (ts : List TargetView). slice_get ts n) (sym tells.targets) ∙ is);
              through = subst (λ gone. ThroughStands board (e ∷ p) gone) (sym tells.through) done.stands.through;
              parts = subst (λ b. PartsAreOfWrites board b (e ∷ p)) (sym bus) done.stands.parts;
            };
            flights = flights_then (shape_of old) world w (at_initiator board (ByLane port.lane) offer.op step w) (items_at over) (items_at back) done.flights
                (subst (λ s. Flights s w (at_initiator board (ByLane port.lane) offer.op step w) (items_at back)) same_shape (tells.flights tags w port here done.stands.is_of done.stands.ports));
          };
    }
