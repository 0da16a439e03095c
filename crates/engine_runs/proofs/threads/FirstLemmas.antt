-- The workers before the first phase, with the new ends of each bridge in pairs.
use Rattle.std.proofs.Common.{◌≡◌, ℕ, List, [], ◌++◌, reverse, Some, refl, sym, ap, subst, ◌∙◌, arith, slice_get}
use Rattle.board_model.specs.declared.bridge.Lane.{Lane as BridgeLane}
use Rattle.board_model.specs.declared.board.Board.{Board}
use Rattle.board_model.specs.Valid.{IsValid}
use Rattle.lane_items.specs.declared.item.Item.{Item}
use Rattle.bus_core.specs.Bus.{Shape}
use Rattle.bus_core.proofs.Laws.{get_map, map_get}
use Rattle.bus_segment.specs.Stands.{WorkerView}
use Rattle.engine_segments.specs.First.{AreAtFirst}
use Rattle.engine_segments.specs.ring.Pairs.{IsEndAt, AreNewPairs}
use Rattle.engine_phases.specs.Workers.{at_port, at_ports, back_at_ports, EndAt, AreBetween}
use Rattle.engine_phases.proofs.Laws.{stands_at_ports}
use Rattle.engine_runs.specs.declared.settling.Above.{Above}
use Rattle.engine_runs.specs.First.{AreAboveOf}
use Rattle.engine_runs.proofs.Laws.{above_first, hang_first, apart_first, ready_first}
use Rattle.engine_runs.specs.threads.Rounds.{IsInRounds}

module _ {End : Type 0} (board : Board) (valid : IsValid board) (ends : List (List End)) (workers : List (WorkerView End)) (first : AreAtFirst board ends workers) where
  -- nothing is on any lane
  abbrev Nothing : BridgeLane → List Item
  Nothing lane = []

  -- where an end of a worker is on the board
  end_at : (k : ℕ) (w : WorkerView End) (lane : BridgeLane) (end : End) → slice_get workers k ≡ Some w → EndAt w lane end → IsEndAt board ends lane end
  end_at k w lane end here at = record {
    place = k;
    bus = w.segment.bus.bus;
    port = at.port;
    at = w.ends;
    bus_is = ap (λ (l : List ℕ). slice_get l k) (sym first.buses) ∙ get_map (λ (s : WorkerView End). s.segment.bus.bus) workers k w here;
    lane_is = ap (λ (s : Shape). slice_get s.lanes at.port) (sym (first.each k w here).shape) ∙ at.lane_is;
    at_is = ap (λ (l : List (List End)). slice_get l k) (sym first.ends_are) ∙ get_map (λ (s : WorkerView End). s.ends) workers k w here;
    end_is = at.end_is;
  }

  module _ (had sent got : End → List Item) (kept : End → ℕ) (paired : End → End → Type 0) (new : AreNewPairs had sent got kept paired board ends) where
    between_first : AreBetween had sent got kept paired board workers Nothing Nothing (λ bus. [])
    between_first = record {
      are_workers = record {
        of_board = λ k w here. (first.each k w here).is_of;
        ends_there = λ k w n lane here at. (first.each k w here).ends_there n lane at;
        each_bus = λ bus there.
            let place = first.each_bus bus there in
            let found = map_get (λ (s : WorkerView End). s.segment.bus.bus) workers place.0 bus (ap (λ (l : List ℕ). slice_get l place.0) first.buses ∙ place.1) in
            (place.0, found.0, found.1.0, found.1.1);
      };
      going = λ k w here. (first.each k w here).going;
      recorded = λ k w here. ap reverse (sym (first.each k w here).no_events);
      stands = λ k w here.
          stands_at_ports board w.segment [] (λ n. []) (at_ports w Nothing) (λ n. []) (back_at_ports w (λ lane. [] ++ []))
          (λ n lane at. sym (ap (at_port Nothing) at)) (λ n lane at. sym (ap (at_port (λ l. [] ++ [])) at)) (first.each k w here).stands;
      emptied = λ k w lane end here at. (new.new lane end (end_at k w lane end here at)).emptied;
      in_hand = λ k w lane end here at. (new.new lane end (end_at k w lane end here at)).none_in_hand;
      pairs = λ k m w v lane end other here there at back. new.pairs lane end other (end_at k w lane end here at) (end_at m v _ other there back);
      no_other = λ bus lacks. refl;
      received_there = λ lane missing. refl;
      hand_there = λ lane missing. refl;
    }

    pub rounds_first : (other : Board) (others : List (WorkerView End)) (above more : List Above) → other ≡ board → others ≡ workers → more ≡ above → AreAboveOf board above → IsInRounds had sent got kept paired other others more 0
    rounds_first other others above more same_board same_workers same_above hangs =
        let P : Board → List (WorkerView End) → List Above → Type 0 = λ b w a. IsInRounds had sent got kept paired b w a 0 in
        let rounds : P board workers above = record {
          after = record {
            received = Nothing;
            hand = Nothing;
            part = λ bus. [];
            between = between_first;
            apart = apart_first board valid ends workers first;
            stamps = λ k w here. let zero_is = (first.each k w here).stamp in omega (arith, zero_is);
            hand_stamps = λ lane. tt;
            many = omega arith;
          };
          ready = ready_first board valid ends workers first;
          hang = hang_first board valid ends workers first;
          linked = above_first board valid ends workers first above hangs;
        } in
        subst (λ b. P b others more) (sym same_board) (subst (λ w. P board w more) (sym same_workers) (subst (P board workers) (sym same_above) rounds))
