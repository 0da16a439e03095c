-- A phase in which what is sent may come across at once: from the workers before it to the workers after it.
use Rattle.std.proofs.Common.{◌≡◌, ℕ, zero, suc, ◌+◌, ◌^◌, ◌<◌, ◌≤◌, nat_lt, nat_le, ◌||◌, Bool, true, false, List, [], ◌++◌, length, map, reverse, Option, Some, None, refl, sym, ap, subst, ◌∙◌, append-nil, arith, slice_get}
use Rattle.std.specs.List.{AllByRecursion}
use Rattle.std.proofs.lemmas.Bool.{leb-true, le-leb}
use Rattle.std.proofs.lemmas.Bool.Decides.{nat_tests}
use Rattle.std.proofs.lemmas.Option.{slice_get_within}
use Rattle.std.proofs.lemmas.List.{length-map, map-append, append_cancel_left}
use Rattle.list_facts.specs.Lists.{total}
use Rattle.list_facts.proofs.EachLemmas.{Each-append, Each-weaker}
use Rattle.board_model.specs.declared.bridge.Bridge.{Bridge}
use Rattle.board_model.specs.declared.bridge.Lane.{Lane as BridgeLane}
use Rattle.board_model.specs.declared.board.Board.{Board}
use Rattle.board_model.specs.Valid.{IsValid}
use Rattle.board_model.specs.Ways.{bound_of, end_of, lane_back}
use Rattle.history_model.specs.declared.event.Stamped.{Stamped}
use Rattle.history_model.specs.Answers.{bridge_to}
use Rattle.history_model.proofs.facts.BridgeLemmas.{lane_back_back}
use Rattle.law_local.specs.Stamps.{events_of, put_stamps}
use Rattle.lane_items.specs.declared.item.Item.{Item}
use Rattle.lane_items.specs.Lane.{GotInOrder}
use Rattle.bus_face.specs.Arrivals.{carried}
use Rattle.bus_core.specs.Bus.{Shape, shape_of}
use Rattle.bus_core.specs.Calls.{stamp_of}
use Rattle.bus_segment.specs.Segment.{SegmentView, all_carried}
use Rattle.bus_segment.specs.Stands.{WorkerView}
use Rattle.bus_segment.specs.Steps.{AllItems}
use Rattle.bus_segment.proofs.DoesLemmas.{there_at}
use Rattle.law_local.proofs.room.Laws.{what_is_left, settled_in_order}
use Rattle.law_local.specs.phases.Engine.{NoneElsewhere, AllInOrder, ending_on}
use Rattle.law_local.proofs.phases.Laws.{end_is_bus, worked_run}
use Rattle.engine_phases.specs.merging.Merged.{merged}
use Rattle.engine_phases.specs.Workers.{at_port, at_ports, back_at_ports, EndAt, AreBetween}
use Rattle.engine_phases.specs.Phase.{AreApart, Turned, NoneStopped, AllMaySettle, OnlyEnds, AllSettled, IsCompleteRun, begun, count_all, history_of_all}
use Rattle.engine_phases.proofs.SpotLemmas.{same_there}
use Rattle.engine_phases.proofs.PortLemmas.{comes_behind}
use Rattle.engine_phases.proofs.MergeLemmas.{all_of, all_counted, parts_of_all}
use Rattle.engine_phases.proofs.RunLemmas.{RunsEnd, run_between, bound_between, count_between, parts_same, count_same}
use Rattle.engine_phases.proofs.DidLemmas.{Turns, PhaseDone, phase_done}
use Rattle.engine_phases.proofs.GoingLemmas.{Got, Came, Part, OneDone, EndFacts, worked, merged_after, are_after, apart_after, before, end_facts, puts_back, three_same, none_stopped, may_settle_all}
use Rattle.engine_phases.proofs.NextLemmas.{next, apart_settled, between_next, next_stamps, stamps_settled}
use Rattle.engine_phases.proofs.QuietLemmas.{complete_now, same_events}
use Rattle.engine_phases.specs.ring.Rounds.{AfterRounds, AllRan}
use Rattle.engine_phases.proofs.ring.CountLemmas.{each_all, each_both, each_own, each_of_map, each_parts, total_upto, total_more, below, Steps, below_upto, below_most, more_put, count_begun, count_grown}
use Rattle.engine_phases.proofs.ring.BegunLemmas.{began as began_from, between_begun, apart_begun}

in_first : (a b : ℕ) (c : Bool) → a ≤ b → (nat_le a b || c) ≡ true
in_first a b c upto = let is = le-leb a b upto in ap (λ (x : Bool). x || c) is

in_second : (a b : ℕ) (c : Bool) → a ≤ b → (c || nat_le a b) ≡ true
in_second a b true upto = refl
in_second a b false upto = le-leb a b upto

in_either : (a b c d : ℕ) → (nat_le a b || nat_le c d) ≡ true → (b < a → c ≤ d)
in_either a b c d is less = grind (arith, nat_tests)

module _ {End : Type 0} (had sent got : End → List Item) (kept : End → ℕ) (paired : End → End → Type 0) (board : Board) (valid : IsValid board) (workers : List (WorkerView End)) (phases : ℕ)
    (after : AfterRounds had sent got kept paired board workers phases) where
  -- the events are few, and so are the phases
  pub few_before : RunsEnd → count_all workers ≤ 500000
  few_before ends = count_between had sent got kept paired board valid workers after.received after.hand after.part after.between after.apart ends

  pub few_rounds : RunsEnd → phases ≤ 500000
  few_rounds ends =
      let count = few_before ends in
      let many = after.many in
      omega (arith, count, many)

  module _ (new : List (WorkerView End)) (busy : Bool) (ran : AllRan had sent got kept paired board phases workers new busy) where
    abbrev Begun : List (WorkerView End)
    Begun = map (begun ran.from) workers

    began : (k : ℕ) (w : WorkerView End) → slice_get Begun k ≡ Some w → (u : WorkerView End) × ((slice_get workers k ≡ Some u) × (begun ran.from u ≡ w))
    began = began_from had sent got kept paired board workers ran.from after.received after.hand after.part after.between after.apart

    between_now : AreBetween had sent got kept paired board Begun after.received after.hand after.part
    between_now = between_begun had sent got kept paired board workers ran.from after.received after.hand after.part after.between after.apart

    apart_now : AreApart board Begun
    apart_now = apart_begun had sent got kept paired board workers ran.from after.received after.hand after.part after.between after.apart

    turns_begun : Turns had sent got kept paired board Begun new
    turns_begun = record {
      each = λ k w here.
          let was = began k w here in
          let found = ran.turned.each k was.0 was.1.0 in
          let P : WorkerView End → Type 0 = λ x. (v : WorkerView End) × (count : ℕ) × (slice_get new k ≡ Some v) × Turned had sent got kept paired board x v count in
          subst P was.1.1 (found.0, found.1, found.2, found.3);
      many = ran.turned.many ∙ sym (length-map workers (begun ran.from));
    }

    done : PhaseDone had sent got kept paired board Begun new after.hand after.part
    done = phase_done had sent got kept paired board valid Begun new after.received after.hand after.part between_now apart_now turns_begun

    abbrev One : WorkerView End → WorkerView End → Type 0
    One w v = OneDone had sent got kept paired board valid Begun new after.received after.hand after.part between_now apart_now done w v

    abbrev GotAll : BridgeLane → List Item
    GotAll = Got had sent got kept paired board valid Begun new after.received after.hand after.part between_now apart_now done

    abbrev CameAll : BridgeLane → List Item
    CameAll = Came had sent got kept paired board valid Begun new after.received after.hand after.part between_now apart_now done

    pub may_settle : AllMaySettle had sent got kept paired new
    may_settle = may_settle_all had sent got kept paired board valid Begun new after.received after.hand after.part between_now apart_now done

    -- what a worker was when the phase began
    was_before : (k : ℕ) (v : WorkerView End) → slice_get new k ≡ Some v → (w : WorkerView End) × (slice_get Begun k ≡ Some w) × One w v
    was_before k v here = before had sent got kept paired board valid Begun new after.received after.hand after.part between_now apart_now done k v here

    facts_of : (w v : WorkerView End) (lane : BridgeLane) (end : End) → One w v → EndAt v lane end
        → EndFacts had sent got kept paired board valid Begun new after.received after.hand after.part between_now apart_now done w lane end
    facts_of w v lane end one at = end_facts had sent got kept paired board valid Begun new after.received after.hand after.part between_now apart_now done w v lane end one at

    -- The worker where a lane ends, and the one where it begins.

    record Side (lane : BridgeLane) : Type 0 where
      place : ℕ
      v : WorkerView End
      here : slice_get new place ≡ Some v
      w : WorkerView End
      was : slice_get Begun place ≡ Some w
      one : One w v
      port : ℕ
      lane_is : slice_get (shape_of v.segment.bus).lanes port ≡ Some lane
      lane_was : slice_get (shape_of w.segment.bus).lanes port ≡ Some lane
      end : End
      end_is : slice_get v.ends port ≡ Some end

    side_of : (lane : BridgeLane) (bridge : Bridge) → bridge_to board lane.bus ≡ Some bridge → Side lane
    side_of lane bridge some =
        let are = are_after had sent got kept paired board valid Begun new after.received after.hand after.part between_now apart_now done in
        let apart = apart_after had sent got kept paired board valid Begun new after.received after.hand after.part between_now apart_now done in
        let found = are.each_bus (end_of board lane) (end_is_bus board valid.buses lane bridge some) in
        let place = (are.of_board found.0 found.1 found.2).each_lane lane bridge some (sym found.3) in
        let within = slice_get_within (shape_of found.1.segment.bus).lanes place.0 lane place.1 in
        let many = apart.one_a_port found.0 found.1 found.2 in
        let end = there_at found.1.ends place.0 (omega (arith, within, many)) in
        let was = was_before found.0 found.1 found.2 in
        record {
          place = found.0;
          v = found.1;
          here = found.2;
          w = was.0;
          was = was.1;
          one = was.2;
          port = place.0;
          lane_is = place.1;
          lane_was = ap (λ (x : Shape). slice_get x.lanes place.0) (sym was.2.phase.same_shape) ∙ place.1;
          end = end.0;
          end_is = end.1;
        }

    at_of : (lane : BridgeLane) (side : Side lane) → EndAt side.v lane side.end
    at_of lane side = record { port = side.port; lane_is = side.lane_is; end_is = side.end_is }

    -- what was sent on a lane, at its near end
    sent_there : (lane : BridgeLane) (side : Side (lane_back lane)) → sent side.end ≡ done.puts lane
    sent_there lane side =
        (facts_of side.w side.v (lane_back lane) side.end side.one (at_of (lane_back lane) side)).sent_is
        ∙ puts_back had sent got kept paired board valid Begun new after.received after.hand after.part between_now apart_now done lane

    -- Stamps.

    -- how many events of the phase have stamps below a number
    abbrev Below : ℕ → ℕ
    Below t = total (λ (w : WorkerView End). below t (done.later w.segment.bus.bus)) Begun

    abbrev Base : ℕ
    Base = phases + count_all workers + 1

    came_there : NoneElsewhere board CameAll
    came_there lane missing = ap (λ (l : List Item). l ++ done.took lane) (between_now.received_there lane missing) ∙ done.did.taken_there lane missing

    -- each item that was put has the stamp of an event
    put_steps : (lane : BridgeLane) (bridge : Bridge) → bridge_to board lane.bus ≡ Some bridge → AllByRecursion (λ (i : Item). Below (stamp_of i) + 1 ≤ Below (stamp_of i + 1)) (done.puts lane)
    put_steps lane bridge some =
        let back : BridgeLane = lane_back lane in
        let side = side_of back bridge some in
        let w : WorkerView End = side.w in
        let bus : ℕ = w.segment.bus.bus in
        let later : List Stamped = done.later bus in
        let p : List Stamped = after.part bus in
        let n : ℕ = side.port in
        let rest : ℕ → List Item = λ m. at_ports w done.took m ++ [] in
        let came : BridgeLane → List Item = ending_on board bus CameAll in
        let Was : BridgeLane → List Item = λ l. after.received l ++ after.hand l in
        let ends : (m : ℕ) (l : BridgeLane) → slice_get (shape_of w.segment.bus).lanes m ≡ Some l → end_of board l ≡ bus = λ m l at. between_now.are_workers.ends_there side.place w m l side.was at in
        let behind = comes_behind board w ends after.received CameAll rest came_there (λ m l at.
        ap (λ (i : List Item). after.received l ++ i) (sym (append-nil (done.took l))) ∙ ap (λ (f : Option BridgeLane). after.received l ++ (at_port done.took f ++ [])) (sym at)) in
        let first = (between_now.stands side.place w side.was).past came rest behind in
        let then = side.one.phase.goes.goes came p (λ m. []) (back_at_ports w Was) first in
        let put_first : put_stamps board (all_carried came) (lane_back back) p ≡ map stamp_of (back_at_ports w Was n) = (first.ports n back side.lane_was).stamps in
        let put_then : put_stamps board (all_carried came) (lane_back back) (later ++ p) ≡ map stamp_of (back_at_ports w Was n ++ back_at_ports w done.puts n) = (then.ports n back side.lane_is).stamps in
        let more = more_put board (all_carried came) (lane_back back) later p in
        let same : map stamp_of (back_at_ports w Was n) ++ more.0 ≡ map stamp_of (back_at_ports w Was n) ++ map stamp_of (back_at_ports w done.puts n) =
        ap (λ (l : List ℕ). l ++ more.0) (sym put_first) ∙ (sym more.1 ∙ (put_then ∙ map-append stamp_of (back_at_ports w Was n) (back_at_ports w done.puts n))) in
        let stamps : more.0 ≡ map stamp_of (back_at_ports w done.puts n) = append_cancel_left (map stamp_of (back_at_ports w Was n)) more.0 (map stamp_of (back_at_ports w done.puts n)) same in
        let is_puts : back_at_ports w done.puts n ≡ done.puts lane =
        ap (λ (f : Option BridgeLane). at_port (λ (l : BridgeLane). done.puts (lane_back l)) f) side.lane_was ∙ ap done.puts (lane_back_back lane) in
        let steps : AllByRecursion (Steps later) (map stamp_of (done.puts lane)) = subst (AllByRecursion (Steps later)) (stamps ∙ ap (map stamp_of) is_puts) more.2 in
        Each-weaker (λ (i : Item). Steps later (stamp_of i)) (λ (i : Item). Below (stamp_of i) + 1 ≤ Below (stamp_of i + 1))
        (λ i step. total_more (λ (x : WorkerView End). below (stamp_of i) (done.later x.segment.bus.bus)) (λ (x : WorkerView End). below (stamp_of i + 1) (done.later x.segment.bus.bus)) Begun side.place w
        (λ x. below_upto (stamp_of i) (done.later x.segment.bus.bus)) side.was step)
        (done.puts lane) (each_of_map (Steps later) stamp_of (done.puts lane) steps)

    -- so many events were made
    count_new : count_all new ≡ count_all workers + total (λ (w : WorkerView End). length (done.later w.segment.bus.bus)) Begun
    count_new =
        count_grown done.later Begun new done.many (λ k w here. let found = done.each k w here in (found.0, found.1, found.2.recorded))
        ∙ ap (λ (n : ℕ). n + total (λ (w : WorkerView End). length (done.later w.segment.bus.bus)) Begun) (count_begun ran.from workers)

    abbrev Top : ℕ
    Top = phases + 1 + count_all new

    below_top : (t : ℕ) → Base + Below t ≤ Top
    below_top t =
        let all = total_upto (λ (w : WorkerView End). below t (done.later w.segment.bus.bus)) (λ (w : WorkerView End). length (done.later w.segment.bus.bus)) Begun (λ w. below_most t (done.later w.segment.bus.bus)) in
        let count = count_new in
        omega (arith, all, count)

    module _ (settled : List (WorkerView End)) (settles : AllSettled had sent got kept paired new settled) where
      -- the end of a lane at a worker that is settled
      settled_at : (lane : BridgeLane) (side : Side lane) → (u : WorkerView End) × (end : End) × (slice_get settled side.place ≡ Some u) × EndAt u lane end
      settled_at lane side =
          let found = settles.each side.place side.v side.here in
          let only : OnlyEnds side.v found.0 = found.2 in
          let within = slice_get_within side.v.ends side.port side.end side.end_is in
          let many = only.many in
          let end = there_at found.0.ends side.port (omega (arith, within, many)) in
          (found.0, end.0, found.1, record { port = side.port; lane_is = ap (λ (s : SegmentView). slice_get (shape_of s.bus).lanes side.port) only.segment ∙ side.lane_is; end_is = end.1 })

      -- all lanes brought their items in order
      ordered : AllInOrder board after.hand GotAll done.puts done.keeps
      ordered lane bridge some =
          let back : BridgeLane = lane_back lane in
          let far = side_of lane bridge some in
          let near = side_of back bridge some in
          let far_now = settled_at lane far in
          let near_now = settled_at back near in
          let lanes = settles.lanes far.place near.place far.v near.v far_now.0 near_now.0 lane far.end near.end far_now.1 near_now.1 far.here near.here far_now.2 near_now.2 (at_of lane far) (at_of back near) far_now.3 near_now.3 in
          let facts = facts_of far.w far.v lane far.end far.one (at_of lane far) in
          let facts_back = facts_of near.w near.v back near.end near.one (at_of back near) in
          let order = settled_in_order (had far.end) (got far.end) (sent near.end) (had far_now.1) (kept near.end) lanes.crosses in
          let keeps : kept near.end ≡ done.keeps lane = facts_back.kept_is ∙ ap done.keeps (lane_back_back lane) in
          let G : ℕ → List Item → List Item → List Item → Type 0 = λ c a b d. GotInOrder a b d c in
          subst (λ (c : ℕ). G c (after.hand lane) (GotAll lane) (done.puts lane)) keeps
          (three_same (G (kept near.end)) (had far.end) (got far.end) (sent near.end) (after.hand lane) (GotAll lane) (done.puts lane) facts.had_is facts.got_is (sent_there lane near) order)

      -- what was got of a lane was in hand or put
      got_each : (P : Item → Type 0) (lane : BridgeLane) (bridge : Bridge) → bridge_to board lane.bus ≡ Some bridge → AllByRecursion P (after.hand lane) → AllByRecursion P (done.puts lane) → AllByRecursion P (GotAll lane)
      got_each P lane bridge some held put =
          let left = what_is_left (after.hand lane) (GotAll lane) (done.puts lane) (done.keeps lane) (ordered lane bridge some) in
          (each_parts P (GotAll lane) left.0 (subst (AllByRecursion P) (sym left.1) (Each-append P (after.hand lane) (done.puts lane) held put))).0

      -- up to a number the stamps are those of events: none has more above those before the phase than there are events below it
      abbrev In : ℕ → ℕ → Bool
      In n s = nat_le n s || nat_le s (Base + Below s)

      abbrev AllIn : ℕ → Type 0
      AllIn n = (k : ℕ) (v : WorkerView End) → slice_get new k ≡ Some v → (In n v.segment.stamp ≡ true) × AllItems sent (λ i. In n (stamp_of i) ≡ true) v.ends

      next_in : (n s : ℕ) → In n s ≡ true → Below s + 1 ≤ Below (s + 1) → In (suc n) (s + 1) ≡ true
      next_in n s is step =
          let P : Bool → Type 0 = λ b. nat_le n s ≡ b → (b || nat_le s (Base + Below s)) ≡ true → In (suc n) (s + 1) ≡ true in
          (elim (nat_le n s) as P [
            | true ↦ λ upto _. let low = leb-true n s upto in in_first (suc n) (s + 1) (nat_le (s + 1) (Base + Below (s + 1))) (omega (arith, low))
            | false ↦ λ _ there. let low = leb-true s (Base + Below s) there in in_second (s + 1) (Base + Below (s + 1)) (nat_le (suc n) (s + 1)) (omega (arith, low, step))
          ]) refl is

      low_in : (n s : ℕ) → s ≤ Base → In n s ≡ true
      low_in n s low = in_second s (Base + Below s) (nat_le n s) (omega (arith, low))

      put_next : (n : ℕ) → AllIn n → (lane : BridgeLane) (bridge : Bridge) → bridge_to board lane.bus ≡ Some bridge → AllByRecursion (λ (i : Item). In (suc n) (stamp_of i + 1) ≡ true) (done.puts lane)
      put_next n all lane bridge some =
          let side = side_of (lane_back lane) bridge some in
          let there = (all side.place side.v side.here).1 side.port side.end side.end_is in
          let put : AllByRecursion (λ (i : Item). In n (stamp_of i) ≡ true) (done.puts lane) = subst (AllByRecursion (λ (i : Item). In n (stamp_of i) ≡ true)) (sent_there lane side) there in
          each_both (λ (i : Item). In n (stamp_of i) ≡ true) (λ (i : Item). Below (stamp_of i) + 1 ≤ Below (stamp_of i + 1)) (λ (i : Item). In (suc n) (stamp_of i + 1) ≡ true)
          (λ i is step. next_in n (stamp_of i) is step) (done.puts lane) put (put_steps lane bridge some)

      got_next : (n : ℕ) → AllIn n → (k : ℕ) (w v : WorkerView End) → slice_get Begun k ≡ Some w → One w v → AllItems got (λ i. In (suc n) (stamp_of i + 1) ≡ true) v.ends
      got_next n all k w v was one m end there =
          let within = slice_get_within v.ends m end there in
          let many = one.many_ends in
          let ports = apart_now.one_a_port k w was in
          let lane = there_at (shape_of w.segment.bus).lanes m (omega (arith, within, many, ports)) in
          let at : EndAt v lane.0 end = record { port = m; lane_is = ap (λ (x : Shape). slice_get x.lanes m) one.phase.same_shape ∙ lane.1; end_is = there } in
          let bridge = apart_now.bridges k w m lane.0 was lane.1 in
          let R : Item → Type 0 = λ i. In (suc n) (stamp_of i + 1) ≡ true in
          let held : AllByRecursion R (after.hand lane.0) =
          Each-weaker (λ (i : Item). stamp_of i ≤ phases + count_all workers) R (λ i low. low_in (suc n) (stamp_of i + 1) (omega (arith, low))) (after.hand lane.0) (after.hand_stamps lane.0) in
          subst (AllByRecursion R) (sym (facts_of w v lane.0 end one at).got_is) (got_each R lane.0 bridge.0 bridge.1 held (put_next n all lane.0 bridge.0 bridge.1))

      none_sent : (k : ℕ) (w : WorkerView End) (P : Item → Type 0) → slice_get Begun k ≡ Some w → AllItems sent P w.ends
      none_sent k w P was m end there =
          let ports = apart_now.one_a_port k w was in
          let within = slice_get_within w.ends m end there in
          let lane = there_at (shape_of w.segment.bus).lanes m (omega (arith, within, ports)) in
          let at : EndAt w lane.0 end = record { port = m; lane_is = lane.1; end_is = there } in
          subst (AllByRecursion P) (sym (between_now.emptied k w lane.0 end was at).none_sent) tt

      all_in : (n : ℕ) → AllIn n
      all_in zero k v here = (in_first 0 v.segment.stamp (nat_le v.segment.stamp (Base + Below v.segment.stamp)) (omega arith), λ m end there. each_all (λ (i : Item). In 0 (stamp_of i) ≡ true) (sent end) (λ i. in_first 0 (stamp_of i) (nat_le (stamp_of i) (Base + Below (stamp_of i))) (omega arith)))
      all_in (suc n) k v here =
          let was = was_before k v here in
          let root = began k was.0 was.1 in
          let low : was.0.segment.stamp ≤ Base =
          subst (λ (x : WorkerView End). x.segment.stamp ≤ Base) root.1.1 (let stamp = after.stamps k root.0 root.1.0 in let from = ran.low in omega (arith, stamp, from)) in
          was.2.stamps.rise (In (suc n)) (low_in (suc n) was.0.segment.stamp low) (got_next n (all_in n) k was.0 v was.1 was.2) (none_sent k was.0 (λ i. In (suc n) (stamp_of i) ≡ true) was.1)

      low_of : (s : ℕ) → In (suc s) s ≡ true → s ≤ Top
      low_of s is = let low = in_either (suc s) s s (Base + Below s) is (omega arith) in let top = below_top s in omega (arith, low, top)

      new_stamp : (k : ℕ) (v : WorkerView End) → slice_get new k ≡ Some v → v.segment.stamp ≤ Top
      new_stamp k v here = low_of v.segment.stamp (all_in (suc v.segment.stamp) k v here).0

      sent_low : (k : ℕ) (v : WorkerView End) → slice_get new k ≡ Some v → AllItems sent (λ i. stamp_of i ≤ Top) v.ends
      sent_low k v here m end there =
          Each-weaker (λ (i : Item). In (suc (stamp_of i)) (stamp_of i) ≡ true) (λ (i : Item). stamp_of i ≤ Top) (λ i is. low_of (stamp_of i) is) (sent end)
          (each_own (λ n (i : Item). In n (stamp_of i) ≡ true) (λ i. suc (stamp_of i)) (sent end) (λ n. (all_in n k v here).1 m end there))

      abbrev Low : List Item → Type 0
      Low items = AllByRecursion (λ (i : Item). stamp_of i ≤ Top) items

      hand_low : (lane : BridgeLane) → Low (after.hand lane)
      hand_low lane = let count = count_new in Each-weaker (λ (i : Item). stamp_of i ≤ phases + count_all workers) (λ (i : Item). stamp_of i ≤ Top) (λ i low. omega (arith, low, count)) (after.hand lane) (after.hand_stamps lane)

      got_low : (lane : BridgeLane) → Low (GotAll lane)
      got_low lane =
          let P : Option Bridge → Type 0 = λ found. bridge_to board lane.bus ≡ found → Low (GotAll lane) in
          (elim (bridge_to board lane.bus) as P [
            | None ↦ λ missing.
                let none : GotAll lane ≡ [] = ap (λ (l : List Item). l ++ done.refused lane) (done.did.taken_there lane missing) ∙ done.did.not_taken_there lane missing in
                subst Low (sym none) tt
            | Some bridge ↦ λ some.
                let side = side_of (lane_back lane) bridge some in
                let put : Low (done.puts lane) = subst Low (sent_there lane side) (sent_low side.place side.v side.here side.port side.end side.end_is) in
                got_each (λ (i : Item). stamp_of i ≤ Top) lane bridge some (hand_low lane) put
          ]) refl

      -- all that was recorded is a run
      few_events : RunsEnd → count_all new ≤ 500000
      few_events ends =
          let run = worked_run carried stamp_of board after.received after.hand GotAll done.puts (Part had sent got kept paired board valid Begun new after.received after.hand after.part between_now apart_now done)
          (worked had sent got kept paired board valid Begun new after.received after.hand after.part between_now apart_now done) done.keeps ordered valid (all_of new)
          (merged_after had sent got kept paired board valid Begun new after.received after.hand after.part between_now apart_now done) in
          let counted = all_counted new in
          let bound = ends.bounded board (events_of (all_of new)) valid run.joint.run in
          let few : bound_of board ≤ 500000 = let test : nat_lt 500000 (bound_of board) ≡ false = valid.bound in grind (arith, nat_tests) in
          omega (arith, counted, bound, few)

      pub going_on : ((end : End) → kept end ≤ length (sent end)) → RunsEnd → NoneStopped new
      going_on were_sent ends =
          let few = few_rounds ends in
          let count = few_events ends in
          none_stopped had sent got kept paired board valid Begun new after.received after.hand after.part between_now apart_now done ordered were_sent (λ lane.
          let low = (each_parts (λ (i : Item). stamp_of i ≤ Top) (done.took lane) (done.refused lane) (got_low lane)).1 in
          Each-weaker (λ (i : Item). stamp_of i ≤ Top) (λ (i : Item). stamp_of i < 2 ^ 31) (λ i below. omega (arith, below, few, count)) (done.refused lane) low)

      same_parts : parts_of_all settled ≡ parts_of_all new
      same_parts = parts_same new settled settles.many (λ k v here. let found = settles.each k v here in (found.0, found.1, found.2.events))

      pub settled_after : NoneStopped new → busy ≡ true → AfterRounds had sent got kept paired board settled (phases + 1)
      settled_after going was_busy =
          let same = count_same new settled same_parts in
          let grown = count_new in
          record {
            received = λ lane. after.received lane ++ done.took lane;
            hand = next had sent got kept paired board valid Begun new settled after.received after.hand after.part between_now apart_now done going settles;
            part = λ bus. done.later bus ++ after.part bus;
            between = between_next had sent got kept paired board valid Begun new settled after.received after.hand after.part between_now apart_now done going settles;
            apart = apart_settled had sent got kept paired board valid Begun new settled after.received after.hand after.part between_now apart_now done going settles;
            stamps = stamps_settled had sent got kept paired board valid Begun new settled after.received after.hand after.part between_now apart_now done going settles (phases + 1 + count_all settled)
                (λ k v here. let low = new_stamp k v here in omega (arith, low, same));
            hand_stamps = next_stamps had sent got kept paired board valid Begun new settled after.received after.hand after.part between_now apart_now done going settles (phases + 1 + count_all settled)
                (λ lane. Each-weaker (λ (i : Item). stamp_of i ≤ Top) (λ (i : Item). stamp_of i ≤ phases + 1 + count_all settled) (λ i low. omega (arith, low, same)) (after.hand lane) (hand_low lane))
                (λ k v here m end there. Each-weaker (λ (i : Item). stamp_of i ≤ Top) (λ (i : Item). stamp_of i ≤ phases + 1 + count_all settled) (λ i low. omega (arith, low, same)) (sent end) (sent_low k v here m end there));
            many = let grows = ran.turned.grows was_busy in let many = after.many in omega (arith, grows, many, same);
          }

      -- or no bus did anything
      pub complete_after : RunsEnd → NoneStopped new → busy ≡ false → IsCompleteRun board (history_of_all settled)
      complete_after ends going was_idle =
          let idle : (k : ℕ) (w v : WorkerView End) → slice_get Begun k ≡ Some w → slice_get new k ≡ Some v → length v.events ≡ length w.events = λ k w v was is.
          let root = began k w was in
          let found = ran.turned.each k root.0 root.1.0 in
          let one : found.0 ≡ v = same_there new k found.0 v found.2 is in
          let count = found.4 was_idle in
          let many = found.3.many in
          let first : length found.0.events ≡ length root.0.events = omega (arith, count, many) in
          ap (λ (x : WorkerView End). length x.events) (sym one) ∙ (first ∙ ap (λ (x : WorkerView End). length x.events) root.1.1) in
          let same : parts_of_all new ≡ parts_of_all Begun =
          parts_same Begun new turns_begun.many (same_events had sent got kept paired board valid Begun new after.received after.hand after.part between_now apart_now done going ordered idle) in
          let P : List (List Stamped) → Type 0 = λ parts. IsCompleteRun board (events_of (reverse (merged parts))) in
          subst P (sym (same_parts ∙ same)) (record {
            run = run_between had sent got kept paired board valid Begun after.received after.hand after.part between_now apart_now;
            complete = complete_now had sent got kept paired board valid Begun new after.received after.hand after.part between_now apart_now done going ordered idle;
            bound = bound_between had sent got kept paired board valid Begun after.received after.hand after.part between_now apart_now ends;
          })
