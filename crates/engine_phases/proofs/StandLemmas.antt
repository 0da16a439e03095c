-- What a segment stands for, and that its turns keep it.
use Rattle.std.proofs.Common.{◌≡◌, ℕ, List, [], ◌++◌, map, length, drop, Option, Some, None, sym, ap, subst, ◌∙◌, append_assoc, slice_get}
use Rattle.std.proofs.Math.Seq.{drop-append_seam}
use Rattle.board_model.specs.declared.bridge.Bridge.{Bridge}
use Rattle.board_model.specs.declared.bridge.Lane.{Lane as BridgeLane}
use Rattle.board_model.specs.declared.board.Board.{Board}
use Rattle.board_model.specs.Ways.{start_of, lane_back}
use Rattle.history_model.specs.declared.event.Stamped.{Stamped}
use Rattle.history_model.specs.Answers.{bridge_to}
use Rattle.history_model.specs.Local.{local_world}
use Rattle.history_model.proofs.facts.BridgeLemmas.{lane_back_back}
use Rattle.law_local.specs.Stamps.{events_of, put_stamps}
use Rattle.law_local.proofs.Laws.{end_back}
use Rattle.lane_items.specs.declared.item.Item.{Item}
use Rattle.bus_face.specs.Arrivals.{carried}
use Rattle.bus_core.specs.Bus.{Shape, shape_of, IsOf}
use Rattle.bus_core.specs.Calls.{stamp_of}
use Rattle.bus_segment.specs.Segment.{SegmentView, SegmentGoes}
use Rattle.bus_segment.specs.Stands.{ComesBehind, SegmentStands, IsAtPorts}
use Rattle.law_local.specs.phases.Engine.{GoesOn, ItemPast, Stands}

-- what comes on a lane behind what was received there
abbrev rest_on : (BridgeLane → List Item) → (BridgeLane → List Item) → Option BridgeLane → List Item
rest_on received came None = []
rest_on received came (Some lane) = drop (length (received lane)) (came lane)

module _ (board : Board) (s : SegmentView) (p : List Stamped) (received_at sent_at : ℕ → List Item) (received put : BridgeLane → List Item)
    (is_of : IsOf board (shape_of s.bus)) (ports : IsAtPorts board s received_at sent_at received put) (stands : SegmentStands board s p received_at sent_at) where
  abbrev Rest : (BridgeLane → List Item) → ℕ → List Item
  Rest came n = rest_on received came (slice_get (shape_of s.bus).lanes n)

  behind : (came : BridgeLane → List Item) → GoesOn board s.bus.bus received came → ComesBehind board s received_at (Rest came) came
  behind came goes = record {
    at_ports = λ n lane here.
        let later = goes.later lane (ports.ends n lane here) in
        let dropped : drop (length (received lane)) (came lane) ≡ later.0 = ap (drop (length (received lane))) later.1 ∙ drop-append_seam (received lane) later.0 in
        let rest : Rest came n ≡ later.0 = ap (rest_on received came) here ∙ dropped in
        later.1 ∙ (ap (λ (l : List Item). l ++ later.0) (sym (ports.received_is n lane here)) ∙ ap (λ (l : List Item). received_at n ++ l) (sym rest));
    nothing_else = goes.nothing_else;
    bridges_alone = goes.bridges_alone;
  }

  -- the port of a lane that begins on the bus, which its lane back ends at
  item_past : (came : BridgeLane → List Item) → GoesOn board s.bus.bus received came → ItemPast carried stamp_of board s.bus.bus received came put p
  item_past came goes =
      let past = stands.past came (Rest came) (behind came goes) in
      let Both : BridgeLane → Type 0 = λ lane.
      ((local_world board (λ l. map carried (came l)) (events_of p) lane).flight ≡ map carried (put lane)) × (put_stamps board (λ l. map carried (came l)) lane p ≡ map stamp_of (put lane)) in
      let at : (lane : BridgeLane) (bridge : Bridge) → bridge_to board lane.bus ≡ Some bridge → start_of board lane ≡ s.bus.bus → Both lane =
      λ lane bridge some starts.
      let back : BridgeLane = lane_back lane in
      let place = is_of.each_lane back bridge some (end_back board lane ∙ starts) in
      let port = past.ports place.0 back place.1 in
      let sent : sent_at place.0 ≡ put (lane_back back) = ports.sent_is place.0 back place.1 in
      subst Both (lane_back_back lane) (port.put ∙ ap (map carried) sent, port.stamps ∙ ap (map stamp_of) sent) in
      record {
        run = past.run;
        in_time = past.in_time;
        left = λ lane bridge rest some ends is.
            let place = is_of.each_lane lane bridge some ends in
            let port = past.ports place.0 lane place.1 in
            let dropped : Rest came place.0 ≡ rest = ap (rest_on received came) place.1 ∙ (ap (drop (length (received lane))) is ∙ drop-append_seam (received lane) rest) in
            port.left ∙ ap (map carried) dropped;
        puts = λ lane bridge some starts. (at lane bridge some starts).0;
        stamped = λ lane bridge some starts. (at lane bridge some starts).1;
      }

  pub stands_for : Stands carried stamp_of board s.bus.bus received put p
  stands_for = record { past = item_past }

-- after a turn it stands for what it did before and in the turn
pub stands_on : (board : Board) (old new : SegmentView) (p later : List Stamped) (received sent taken puts : ℕ → List Item) → shape_of new.bus ≡ shape_of old.bus → SegmentStands board old p received sent
    → SegmentGoes board old new later taken puts → SegmentStands board new (later ++ p) (λ n. received n ++ taken n) (λ n. sent n ++ puts n)
stands_on board old new p later received sent taken puts same stands goes = record {
  past = λ came rest behind.
      let before : ComesBehind board old received (λ n. taken n ++ rest n) came = record {
        at_ports = λ n lane here.
            behind.at_ports n lane (ap (λ (shape : Shape). slice_get shape.lanes n) same ∙ here) ∙ append_assoc (received n) (taken n) (rest n);
        nothing_else = λ lane apart. behind.nothing_else lane (λ ends. apart (ends ∙ ap (λ (shape : Shape). shape.bus) same));
        bridges_alone = behind.bridges_alone;
      } in
      goes.goes came p rest sent (stands.past came (λ n. taken n ++ rest n) before);
}
