-- The workers when a phase begins: only their stamps are raised.
use Rattle.std.proofs.Common.{◌≡◌, ℕ, true, false, List, ◌++◌, length, map, reverse, Some, sym, ap, subst, ◌∙◌, slice_get}
use Rattle.board_model.specs.declared.bridge.Lane.{Lane as BridgeLane}
use Rattle.board_model.specs.declared.board.Board.{Board}
use Rattle.board_model.specs.Valid.{is_bus}
use Rattle.board_model.specs.Ways.{end_of, lane_back}
use Rattle.history_model.specs.declared.event.Stamped.{Stamped}
use Rattle.lane_items.specs.declared.item.Item.{Item}
use Rattle.bus_core.specs.Bus.{shape_of, IsOf}
use Rattle.bus_core.proofs.Laws.{get_map, map_get}
use Rattle.bus_segment.specs.Stands.{WorkerView, SegmentStands}
use Rattle.engine_phases.specs.Workers.{at_ports, back_at_ports, EndAt, AreBetween}
use Rattle.engine_phases.specs.Phase.{AreApart, begun}
use Rattle.engine_phases.proofs.PortLemmas.{stands_later}

module _ {End : Type 0} (had sent got : End → List Item) (kept : End → ℕ) (paired : End → End → Type 0) (board : Board) (workers : List (WorkerView End)) (from : ℕ) (received hand : BridgeLane → List Item)
    (part : ℕ → List Stamped) (between : AreBetween had sent got kept paired board workers received hand part) (apart : AreApart board workers) where
  abbrev pub Begun : List (WorkerView End)
  Begun = map (begun from) workers

  abbrev B : WorkerView End → WorkerView End
  B = begun from

  pub began : (k : ℕ) (w : WorkerView End) → slice_get Begun k ≡ Some w → (u : WorkerView End) × ((slice_get workers k ≡ Some u) × (begun from u ≡ w))
  began k w here = map_get (begun from) workers k w here

  -- the same end of a lane
  end_began : (u : WorkerView End) (lane : BridgeLane) (end : End) → EndAt (begun from u) lane end → EndAt u lane end
  end_began u lane end at = record { port = at.port; lane_is = at.lane_is; end_is = at.end_is }

  pub between_begun : AreBetween had sent got kept paired board Begun received hand part
  between_begun = record {
    are_workers = record {
      of_board = λ k w here. let was = began k w here in subst (λ (x : WorkerView End). IsOf board (shape_of x.segment.bus)) was.1.1 (between.are_workers.of_board k was.0 was.1.0);
      ends_there = λ k w n lane here at.
          let was = began k w here in
          let P : WorkerView End → Type 0 = λ x. slice_get (shape_of x.segment.bus).lanes n ≡ Some lane → end_of board lane ≡ x.segment.bus.bus in
          let then : P (B was.0) = λ there. between.are_workers.ends_there k was.0 n lane was.1.0 there in
          subst P was.1.1 then at;
      each_bus = λ bus there.
          let found = between.are_workers.each_bus bus there in
          (found.0, B found.1, get_map B workers found.0 found.1 found.2, found.3);
    };
    going = λ k w here. let was = began k w here in subst (λ (x : WorkerView End). x.segment.stopped ≡ false) was.1.1 (between.going k was.0 was.1.0);
    recorded = λ k w here. let was = began k w here in subst (λ (x : WorkerView End). part x.segment.bus.bus ≡ reverse x.events) was.1.1 (between.recorded k was.0 was.1.0);
    stands = λ k w here.
        let was = began k w here in
        let Was : BridgeLane → List Item = λ lane. received lane ++ hand lane in
        let P : WorkerView End → Type 0 = λ x. SegmentStands board x.segment (part x.segment.bus.bus) (at_ports x received) (back_at_ports x Was) in
        let then : P (B was.0) = stands_later board was.0.segment (part was.0.segment.bus.bus) (at_ports was.0 received) (back_at_ports was.0 Was) from (between.stands k was.0 was.1.0) in
        subst P was.1.1 then;
    emptied = λ k w lane end here at.
        let was = began k w here in
        let back : EndAt (B was.0) lane end = subst (λ (x : WorkerView End). EndAt x lane end) (sym was.1.1) at in
        between.emptied k was.0 lane end was.1.0 (end_began was.0 lane end back);
    in_hand = λ k w lane end here at.
        let was = began k w here in
        let back : EndAt (B was.0) lane end = subst (λ (x : WorkerView End). EndAt x lane end) (sym was.1.1) at in
        between.in_hand k was.0 lane end was.1.0 (end_began was.0 lane end back);
    pairs = λ k m w v lane end other here there at back.
        let was = began k w here in
        let were = began m v there in
        let one : EndAt (B was.0) lane end = subst (λ (x : WorkerView End). EndAt x lane end) (sym was.1.1) at in
        let two : EndAt (B were.0) (lane_back lane) other = subst (λ (x : WorkerView End). EndAt x (lane_back lane) other) (sym were.1.1) back in
        between.pairs k m was.0 were.0 lane end other was.1.0 were.1.0 (end_began was.0 lane end one) (end_began were.0 (lane_back lane) other two);
    no_other = between.no_other;
    received_there = between.received_there;
    hand_there = between.hand_there;
  }

  pub apart_begun : AreApart board Begun
  apart_begun = record {
    apart = λ k m w v here there same.
        let was = began k w here in
        let were = began m v there in
        let bus = ap (λ (x : WorkerView End). x.segment.bus.bus) was.1.1 in
        let other = ap (λ (x : WorkerView End). x.segment.bus.bus) were.1.1 in
        apart.apart k m was.0 were.0 was.1.0 were.1.0 (bus ∙ (same ∙ sym other));
    there = λ k w here. let was = began k w here in subst (λ (x : WorkerView End). is_bus board x.segment.bus.bus ≡ true) was.1.1 (apart.there k was.0 was.1.0);
    bridges = λ k w n lane here at.
        let was = began k w here in
        let back : slice_get (shape_of was.0.segment.bus).lanes n ≡ Some lane = subst (λ (x : WorkerView End). slice_get (shape_of x.segment.bus).lanes n ≡ Some lane) (sym was.1.1) at in
        apart.bridges k was.0 n lane was.1.0 back;
    one_a_port = λ k w here. let was = began k w here in subst (λ (x : WorkerView End). length x.ends ≡ length (shape_of x.segment.bus).lanes) was.1.1 (apart.one_a_port k was.0 was.1.0);
  }
