-- All segments between two phases, and in one.
use Rattle.std.proofs.Common.{◌≡◌, ℕ, List, ◌++◌, Option, Some, None, refl, sym, ap, subst, ◌∙◌, append_assoc, slice_get}
use Rattle.std.proofs.Math.Path.{fun_ext}
use Rattle.board_model.specs.declared.bridge.Lane.{Lane as BridgeLane}
use Rattle.board_model.specs.declared.board.Board.{Board}
use Rattle.board_model.specs.Ways.{end_of, lane_back}
use Rattle.history_model.specs.declared.event.Stamped.{Stamped}
use Rattle.lane_items.specs.declared.item.Item.{Item}
use Rattle.bus_face.specs.Arrivals.{carried}
use Rattle.bus_core.specs.Bus.{Shape, shape_of, IsOf}
use Rattle.bus_core.specs.Calls.{stamp_of}
use Rattle.bus_segment.specs.Segment.{SegmentView}
use Rattle.bus_segment.specs.Stands.{WorkerView, SegmentStands, IsAtPorts}
use Rattle.law_local.specs.phases.Engine.{Stands, Engine, Worked}
use Rattle.engine_phases.specs.Workers.{at_port, at_ports, back_at_ports, AreBetween, AllDidPhase}
use Rattle.engine_phases.proofs.StandLemmas.{stands_for, stands_on}

-- lists at the ports of a segment, by its lanes
by_lanes : (s : SegmentView) (items : BridgeLane → List Item) (n : ℕ) (lane : BridgeLane) → slice_get (shape_of s.bus).lanes n ≡ Some lane → at_port items (slice_get (shape_of s.bus).lanes n) ≡ items lane
by_lanes s items n lane here = ap (at_port items) here

-- a segment that stands by its ports stands by its lanes
pub stands_by_lanes : (board : Board) (s : SegmentView) (p : List Stamped) (lanes : List BridgeLane) (received put : BridgeLane → List Item) → IsOf board (shape_of s.bus) → (shape_of s.bus).lanes ≡ lanes
    → ((n : ℕ) (lane : BridgeLane) → slice_get (shape_of s.bus).lanes n ≡ Some lane → end_of board lane ≡ s.bus.bus)
    → SegmentStands board s p (λ n. at_port received (slice_get lanes n)) (λ n. at_port (λ lane. put (lane_back lane)) (slice_get lanes n))
    → Stands carried stamp_of board s.bus.bus received put p
stands_by_lanes board s p lanes received put is_of same ends stands =
    let ports : IsAtPorts board s (λ n. at_port received (slice_get lanes n)) (λ n. at_port (λ lane. put (lane_back lane)) (slice_get lanes n)) received put = record {
      ends = ends;
      received_is = λ n lane here. ap (λ (l : List BridgeLane). at_port received (slice_get l n)) (sym same) ∙ by_lanes s received n lane here;
      sent_is = λ n lane here. ap (λ (l : List BridgeLane). at_port (λ k. put (lane_back k)) (slice_get l n)) (sym same) ∙ by_lanes s (λ k. put (lane_back k)) n lane here;
    } in
    stands_for board s p (λ n. at_port received (slice_get lanes n)) (λ n. at_port (λ lane. put (lane_back lane)) (slice_get lanes n)) received put is_of ports stands

module _ {End : Type 0} (had sent got : End → List Item) (kept : End → ℕ) (paired : End → End → Type 0) (board : Board) (workers : List (WorkerView End)) (received hand : BridgeLane → List Item)
    (part : ℕ → List Stamped) (between : AreBetween had sent got kept paired board workers received hand part) where
  abbrev Put : BridgeLane → List Item
  Put lane = received lane ++ hand lane

  pub engine_of : Engine carried stamp_of board received hand part
  engine_of = record {
    each = λ bus there.
        let found = between.are_workers.each_bus bus there in
        let k : ℕ = found.0 in
        let w : WorkerView End = found.1 in
        let stands = stands_by_lanes board w.segment (part w.segment.bus.bus) (shape_of w.segment.bus).lanes received Put (between.are_workers.of_board k w found.2) refl
        (λ n lane here. between.are_workers.ends_there k w n lane found.2 here) (between.stands k w found.2) in
        subst (λ (n : ℕ). Stands carried stamp_of board n received Put (part n)) found.3 stands;
    no_other = between.no_other;
    received_there = between.received_there;
    hand_there = between.hand_there;
  }

  -- two lists at the ports, one after the other
  joined : (items more : BridgeLane → List Item) (found : Option BridgeLane) → at_port items found ++ at_port more found ≡ at_port (λ lane. items lane ++ more lane) found
  joined items more None = refl
  joined items more (Some lane) = refl

  pub worked_of : (new : List (WorkerView End)) (taken not_taken puts : BridgeLane → List Item) (later : ℕ → List Stamped) → AllDidPhase board workers new taken not_taken puts part later
      → Worked carried stamp_of board received hand (λ lane. taken lane ++ not_taken lane) puts (λ bus. later bus ++ part bus)
  worked_of new taken not_taken puts later did = record {
    taken = taken;
    not_taken = not_taken;
    got_is = λ lane. refl;
    each = λ bus there.
        let found = between.are_workers.each_bus bus there in
        let k : ℕ = found.0 in
        let w : WorkerView End = found.1 in
        let worked = did.each k w found.2 in
        let v : WorkerView End = worked.0 in
        let phase = worked.2 in
        let lanes : List BridgeLane = (shape_of w.segment.bus).lanes in
        let q : List Stamped = later w.segment.bus.bus ++ part w.segment.bus.bus in
        let All : BridgeLane → List Item = λ lane. received lane ++ (hand lane ++ puts lane) in
        let shape = phase.same_shape in
        let after = stands_on board w.segment v.segment (part w.segment.bus.bus) (later w.segment.bus.bus) (at_ports w received) (back_at_ports w Put) (at_ports w taken) (back_at_ports w puts) shape (between.stands k w found.2) phase.goes in
        let came_same : (λ n. at_ports w received n ++ at_ports w taken n) ≡ (λ n. at_port (λ lane. received lane ++ taken lane) (slice_get lanes n)) =
        fun_ext (λ n. joined received taken (slice_get lanes n)) in
        let put_same : (λ n. back_at_ports w Put n ++ back_at_ports w puts n) ≡ (λ n. at_port (λ lane. All (lane_back lane)) (slice_get lanes n)) =
        fun_ext (λ n. joined (λ lane. Put (lane_back lane)) (λ lane. puts (lane_back lane)) (slice_get lanes n) ∙ regroup (slice_get lanes n)) in
        let S : (ℕ → List Item) → (ℕ → List Item) → Type 0 = λ r s. SegmentStands board v.segment q r s in
        let by_ports : S (λ n. at_port (λ lane. received lane ++ taken lane) (slice_get lanes n)) (λ n. at_port (λ lane. All (lane_back lane)) (slice_get lanes n)) =
        subst (λ (s : ℕ → List Item). S (λ n. at_port (λ lane. received lane ++ taken lane) (slice_get lanes n)) s) put_same (subst (λ (r : ℕ → List Item). S r (λ n. back_at_ports w Put n ++ back_at_ports w puts n)) came_same after) in
        let is_of : IsOf board (shape_of v.segment.bus) = subst (IsOf board) (sym shape) (between.are_workers.of_board k w found.2) in
        let bus_same : v.segment.bus.bus ≡ w.segment.bus.bus = ap (λ (x : Shape). x.bus) shape in
        let lanes_same : (shape_of v.segment.bus).lanes ≡ lanes = ap (λ (x : Shape). x.lanes) shape in
        let stands = stands_by_lanes board v.segment q lanes (λ lane. received lane ++ taken lane) All is_of lanes_same
        (λ n lane here. between.are_workers.ends_there k w n lane found.2 (ap (λ (l : List BridgeLane). slice_get l n) (sym lanes_same) ∙ here) ∙ sym bus_same) by_ports in
        let G : ℕ → ℕ → Type 0 = λ at m. Stands carried stamp_of board at (λ lane. received lane ++ taken lane) All (later m ++ part m) in
        let here : G w.segment.bus.bus w.segment.bus.bus = subst (λ (at : ℕ). G at w.segment.bus.bus) bus_same stands in
        subst (λ (m : ℕ). G m m) found.3 here;
    no_other = λ bus lacks. ap (λ (l : List Stamped). l ++ part bus) (did.no_other bus lacks) ∙ between.no_other bus lacks;
    received_there = between.received_there;
    hand_there = between.hand_there;
    got_there = λ lane missing. ap (λ (l : List Item). l ++ not_taken lane) (did.taken_there lane missing) ∙ did.not_taken_there lane missing;
    sent_there = did.sent_there;
  }
    where
      regroup : (found : Option BridgeLane) → at_port (λ lane. Put (lane_back lane) ++ puts (lane_back lane)) found ≡ at_port (λ lane. received (lane_back lane) ++ (hand (lane_back lane) ++ puts (lane_back lane))) found
      regroup None = refl
      regroup (Some lane) = append_assoc (received (lane_back lane)) (hand (lane_back lane)) (puts (lane_back lane))

  -- what was not taken is that
  pub worked_rest : (new : List (WorkerView End)) (taken not_taken puts : BridgeLane → List Item) (later : ℕ → List Stamped) (did : AllDidPhase board workers new taken not_taken puts part later) (lane : BridgeLane)
      → (worked_of new taken not_taken puts later did).not_taken lane ≡ not_taken lane
  unfolding worked_of
  worked_rest new taken not_taken puts later did lane = refl
