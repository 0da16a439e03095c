-- A phase in which what is sent comes across when it ends: from the workers before it to the workers after it.
use Rattle.std.proofs.Common.{◌≡◌, ℕ, ◌+◌, ◌^◌, ◌<◌, ◌≤◌, nat_le, Bool, true, false, List, [], ◌∷◌, ◌++◌, length, map, reverse, Option, Some, None, refl, sym, ap, subst, ◌∙◌, append_assoc, arith, slice_get}
use Rattle.std.specs.List.{AllByRecursion}
use Rattle.std.proofs.lemmas.Bool.{leb-true, le-leb}
use Rattle.std.proofs.lemmas.Option.{slice_get_within}
use Rattle.std.proofs.lemmas.List.{length-map}
use Rattle.list_facts.proofs.EachLemmas.{Each-weaker}
use Rattle.board_model.specs.declared.bridge.Bridge.{Bridge}
use Rattle.board_model.specs.declared.bridge.Lane.{Lane as BridgeLane}
use Rattle.board_model.specs.declared.board.Board.{Board}
use Rattle.board_model.specs.Valid.{is_bus, IsValid}
use Rattle.board_model.specs.Ways.{end_of, lane_back}
use Rattle.history_model.specs.declared.event.Stamped.{Stamped}
use Rattle.history_model.specs.Answers.{bridge_to}
use Rattle.law_local.specs.Stamps.{events_of}
use Rattle.lane_items.specs.declared.item.Item.{Item}
use Rattle.lane_items.specs.Lane.{passed_on, in_hand}
use Rattle.bus_core.specs.Bus.{Shape, shape_of, IsOf}
use Rattle.bus_core.specs.Calls.{stamp_of}
use Rattle.bus_core.proofs.Laws.{get_map, map_get}
use Rattle.bus_segment.specs.Stands.{WorkerView, SegmentStands}
use Rattle.bus_segment.specs.Steps.{AllItems, StampsRise}
use Rattle.bus_segment.proofs.Laws.{there_at}
use Rattle.law_local.specs.phases.Engine.{AllInOrder}
use Rattle.law_local.proofs.phases.Laws.{end_is_bus}
use Rattle.engine_phases.specs.merging.Merged.{merged}
use Rattle.engine_phases.specs.Workers.{at_ports, back_at_ports, EndAt, AreBetween}
use Rattle.engine_phases.specs.Phase.{AreApart, AfterPhases, Turned, AllTurned, NoneStopped, AllMaySettle, AllSettled, CrossesAtSettle, IsCompleteRun, begun, history_of_all}
use Rattle.engine_phases.proofs.SpotLemmas.{same_there}
use Rattle.engine_phases.proofs.PortLemmas.{stands_later}
use Rattle.engine_phases.proofs.MergeLemmas.{parts_of_all}
use Rattle.engine_phases.proofs.RunLemmas.{RunsEnd, run_between, bound_between, count_between, parts_same, count_same}
use Rattle.engine_phases.proofs.DidLemmas.{Turns, PhaseDone, phase_done}
use Rattle.engine_phases.proofs.GoingLemmas.{Got, OneDone, before, end_facts, none_stopped, may_settle_all}
use Rattle.engine_phases.proofs.NextLemmas.{next, apart_settled, between_next, next_stamps, stamps_settled}
use Rattle.engine_phases.proofs.QuietLemmas.{complete_now, same_events}

-- of lists one after the other
each_parts : {X : Type 0} (P : X → Type 0) (xs ys : List X) → AllByRecursion P (xs ++ ys) → AllByRecursion P xs × AllByRecursion P ys
each_parts P [] ys each = (tt, each)
each_parts P (x ∷ xs) ys each = let rest = each_parts P xs ys each.1 in ((each.0, rest.0), rest.1)

-- stamps stay up to any number up to which they were, if those of the items that were got are below it
stamps_up_to : {End : Type 0} (sent got : End → List Item) (old new : ℕ) (ends after : List End) → StampsRise sent got old new ends after → (most : ℕ) → old ≤ most → AllItems got (λ item. stamp_of item < most) after
    → AllItems sent (λ item. stamp_of item ≤ most) ends → (new ≤ most) × AllItems sent (λ item. stamp_of item ≤ most) after
stamps_up_to sent got old new ends after stamps most le below up =
    let risen = stamps.rise (λ s. nat_le s most) (le-leb old most le)
    (λ n end is. Each-weaker (λ (i : Item). stamp_of i < most) (λ (i : Item). nat_le (stamp_of i + 1) most ≡ true) (λ i less. le-leb (stamp_of i + 1) most (omega (arith, less))) (got end) (below n end is))
    (λ n end is. Each-weaker (λ (i : Item). stamp_of i ≤ most) (λ (i : Item). nat_le (stamp_of i) most ≡ true) (λ i low. le-leb (stamp_of i) most low) (sent end) (up n end is)) in (
      leb-true new most risen.0,
      λ n end is. Each-weaker (λ (i : Item). nat_le (stamp_of i) most ≡ true) (λ (i : Item). stamp_of i ≤ most) (λ i low. leb-true (stamp_of i) most low) (sent end) (risen.1 n end is),
    )

module _ {End : Type 0} (had sent got : End → List Item) (kept : End → ℕ) (paired : End → End → Type 0) (board : Board) (valid : IsValid board) (workers : List (WorkerView End)) (phases : ℕ)
    (after : AfterPhases had sent got kept paired board workers phases) where
  abbrev Begun : List (WorkerView End)
  Begun = map (begun (phases + 1)) workers

  began : (k : ℕ) (w : WorkerView End) → slice_get Begun k ≡ Some w → (u : WorkerView End) × ((slice_get workers k ≡ Some u) × (begun (phases + 1) u ≡ w))
  began k w here = map_get (begun (phases + 1)) workers k w here

  -- the same end of a lane
  end_began : (u : WorkerView End) (lane : BridgeLane) (end : End) → EndAt (begun (phases + 1) u) lane end → EndAt u lane end
  end_began u lane end at = record { port = at.port; lane_is = at.lane_is; end_is = at.end_is }

  between_begun : AreBetween had sent got kept paired board Begun after.received after.hand after.part
  between_begun =
      let between = after.between in
      let B : WorkerView End → WorkerView End = begun (phases + 1) in
      record {
        are_workers = record {
          of_board = λ k w here. let was = began k w here in subst (λ (x : WorkerView End). IsOf board (shape_of x.segment.bus)) was.1.1 (between.are_workers.of_board k was.0 was.1.0);
          ends_there = λ k w n lane here at.
              let was = began k w here in
              let P : WorkerView End → Type 0 = λ x. slice_get (shape_of x.segment.bus).lanes n ≡ Some lane → end_of board lane ≡ x.segment.bus.bus in
              let then : P (B was.0) = λ there. between.are_workers.ends_there k was.0 n lane was.1.0 there in
              subst P was.1.1 then at;
          each_bus = λ bus there.
              let found = between.are_workers.each_bus bus there in
              (found.0, B found.1, get_map B workers found.0 found.1 found.2, found.3);
        };
        going = λ k w here. let was = began k w here in subst (λ (x : WorkerView End). x.segment.stopped ≡ false) was.1.1 (between.going k was.0 was.1.0);
        recorded = λ k w here. let was = began k w here in subst (λ (x : WorkerView End). after.part x.segment.bus.bus ≡ reverse x.events) was.1.1 (between.recorded k was.0 was.1.0);
        stands = λ k w here.
            let was = began k w here in
            let Was : BridgeLane → List Item = λ lane. after.received lane ++ after.hand lane in
            let P : WorkerView End → Type 0 = λ x. SegmentStands board x.segment (after.part x.segment.bus.bus) (at_ports x after.received) (back_at_ports x Was) in
            let then : P (B was.0) =
            stands_later board was.0.segment (after.part was.0.segment.bus.bus) (at_ports was.0 after.received) (back_at_ports was.0 Was) (phases + 1) (between.stands k was.0 was.1.0) in
            subst P was.1.1 then;
        emptied = λ k w lane end here at.
            let was = began k w here in
            let back : EndAt (B was.0) lane end = subst (λ (x : WorkerView End). EndAt x lane end) (sym was.1.1) at in
            between.emptied k was.0 lane end was.1.0 (end_began was.0 lane end back);
        in_hand = λ k w lane end here at.
            let was = began k w here in
            let back : EndAt (B was.0) lane end = subst (λ (x : WorkerView End). EndAt x lane end) (sym was.1.1) at in
            between.in_hand k was.0 lane end was.1.0 (end_began was.0 lane end back);
        pairs = λ k m w v lane end other here there at back.
            let was = began k w here in
            let were = began m v there in
            let one : EndAt (B was.0) lane end = subst (λ (x : WorkerView End). EndAt x lane end) (sym was.1.1) at in
            let two : EndAt (B were.0) (lane_back lane) other = subst (λ (x : WorkerView End). EndAt x (lane_back lane) other) (sym were.1.1) back in
            between.pairs k m was.0 were.0 lane end other was.1.0 were.1.0 (end_began was.0 lane end one) (end_began were.0 (lane_back lane) other two);
        no_other = between.no_other;
        received_there = between.received_there;
        hand_there = between.hand_there;
      }

  apart_begun : AreApart board Begun
  apart_begun = record {
    apart = λ k m w v here there same.
        let was = began k w here in
        let were = began m v there in
        let bus = ap (λ (x : WorkerView End). x.segment.bus.bus) was.1.1 in
        let other = ap (λ (x : WorkerView End). x.segment.bus.bus) were.1.1 in
        after.apart.apart k m was.0 were.0 was.1.0 were.1.0 (bus ∙ (same ∙ sym other));
    there = λ k w here. let was = began k w here in subst (λ (x : WorkerView End). is_bus board x.segment.bus.bus ≡ true) was.1.1 (after.apart.there k was.0 was.1.0);
    bridges = λ k w n lane here at.
        let was = began k w here in
        let back : slice_get (shape_of was.0.segment.bus).lanes n ≡ Some lane = subst (λ (x : WorkerView End). slice_get (shape_of x.segment.bus).lanes n ≡ Some lane) (sym was.1.1) at in
        after.apart.bridges k was.0 n lane was.1.0 back;
    one_a_port = λ k w here. let was = began k w here in subst (λ (x : WorkerView End). length x.ends ≡ length (shape_of x.segment.bus).lanes) was.1.1 (after.apart.one_a_port k was.0 was.1.0);
  }

  module _ (new : List (WorkerView End)) (busy : Bool) (turned : AllTurned had sent got kept paired board (phases + 1) workers new busy) where
    turns_begun : Turns had sent got kept paired board Begun new
    turns_begun = record {
      each = λ k w here.
          let was = began k w here in
          let found = turned.each k was.0 was.1.0 in
          let P : WorkerView End → Type 0 = λ x. (v : WorkerView End) × (count : ℕ) × (slice_get new k ≡ Some v) × Turned had sent got kept paired board x v count in
          subst P was.1.1 (found.0, found.1, found.2, found.3);
      many = turned.many ∙ sym (length-map workers (begun (phases + 1)));
    }

    pub done : PhaseDone had sent got kept paired board Begun new after.hand after.part
    done = phase_done had sent got kept paired board valid Begun new after.received after.hand after.part between_begun apart_begun turns_begun

    abbrev One : WorkerView End → WorkerView End → Type 0
    One w v = OneDone had sent got kept paired board valid Begun new after.received after.hand after.part between_begun apart_begun done w v

    abbrev GotAll : BridgeLane → List Item
    GotAll = Got had sent got kept paired board valid Begun new after.received after.hand after.part between_begun apart_begun done

    pub may_settle : AllMaySettle had sent got kept paired new
    may_settle = may_settle_all had sent got kept paired board valid Begun new after.received after.hand after.part between_begun apart_begun done

    module _ (crosses : CrossesAtSettle had got) where
      -- what was got was in hand
      was_in_hand : (lane : BridgeLane) (bridge : Bridge) → bridge_to board lane.bus ≡ Some bridge → (rest : List Item) × (GotAll lane ++ rest ≡ after.hand lane)
      was_in_hand lane bridge some =
          let found = between_begun.are_workers.each_bus (end_of board lane) (end_is_bus board valid.buses lane bridge some) in
          let place = (between_begun.are_workers.of_board found.0 found.1 found.2).each_lane lane bridge some (sym found.3) in
          let now = done.each found.0 found.1 found.2 in
          let step = now.2.ends place.0 lane place.1 in
          let rest : List Item = in_hand (had step.after) (got step.after) in
          (rest, ap (λ (l : List Item). l ++ rest) (sym step.got_is) ∙ (crosses step.after ∙ step.had_is))

      ordered : AllInOrder board after.hand GotAll done.puts done.keeps
      ordered lane bridge some =
          let front = was_in_hand lane bridge some in
          let passed : List Item = passed_on (done.puts lane) (done.keeps lane) in
          (front.0 ++ passed, sym (append_assoc (GotAll lane) front.0 passed) ∙ ap (λ (l : List Item). l ++ passed) front.1)

      abbrev Low : List Item → Type 0
      Low items = AllByRecursion (λ (i : Item). stamp_of i ≤ phases) items

      got_low : (lane : BridgeLane) → Low (GotAll lane)
      got_low lane =
          let P : Option Bridge → Type 0 = λ found. bridge_to board lane.bus ≡ found → Low (GotAll lane) in
          (elim (bridge_to board lane.bus) as P [
            | None ↦ λ missing.
                let none : GotAll lane ≡ [] = ap (λ (l : List Item). l ++ done.refused lane) (done.did.taken_there lane missing) ∙ done.did.not_taken_there lane missing in
                subst Low (sym none) tt
            | Some bridge ↦ λ some.
                let front = was_in_hand lane bridge some in
                (each_parts (λ (i : Item). stamp_of i ≤ phases) (GotAll lane) front.0 (subst Low (sym front.1) (after.hand_stamps lane))).0
          ]) refl

      pub going_on : ((end : End) → kept end ≤ length (sent end)) → phases ≤ 500000 → NoneStopped new
      going_on were_sent few =
          none_stopped had sent got kept paired board valid Begun new after.received after.hand after.part between_begun apart_begun done ordered were_sent (λ lane.
          let low = (each_parts (λ (i : Item). stamp_of i ≤ phases) (done.took lane) (done.refused lane) (got_low lane)).1 in
          Each-weaker (λ (i : Item). stamp_of i ≤ phases) (λ (i : Item). stamp_of i < 2 ^ 31) (λ i below. omega (arith, below, few)) (done.refused lane) low)

      -- stamps after the turns
      new_stamps : (k : ℕ) (v : WorkerView End) → slice_get new k ≡ Some v → (v.segment.stamp ≤ phases + 1) × AllItems sent (λ i. stamp_of i ≤ phases + 1) v.ends
      new_stamps k v here =
          let was = before had sent got kept paired board valid Begun new after.received after.hand after.part between_begun apart_begun done k v here in
          let w : WorkerView End = was.0 in
          let one = was.2 in
          let root = began k w was.1 in
          let stamp : w.segment.stamp ≤ phases + 1 =
          subst (λ (x : WorkerView End). x.segment.stamp ≤ phases + 1) root.1.1 (let low = after.stamps k root.0 root.1.0 in omega (arith, low)) in
          let lane_at : (n : ℕ) → n < length w.ends → (lane : BridgeLane) × (slice_get (shape_of w.segment.bus).lanes n ≡ Some lane) =
          λ n within. let many = apart_begun.one_a_port k w was.1 in there_at (shape_of w.segment.bus).lanes n (omega (arith, many, within)) in
          let got_below : AllItems got (λ i. stamp_of i < phases + 1) v.ends = λ n end there.
          let within = slice_get_within v.ends n end there in
          let many = one.many_ends in
          let lane = lane_at n (omega (arith, many, within)) in
          let at : EndAt v lane.0 end = record { port = n; lane_is = ap (λ (x : Shape). slice_get x.lanes n) one.phase.same_shape ∙ lane.1; end_is = there } in
          let facts = end_facts had sent got kept paired board valid Begun new after.received after.hand after.part between_begun apart_begun done w v lane.0 end one at in
          subst (AllByRecursion (λ (i : Item). stamp_of i < phases + 1)) (sym facts.got_is)
          (Each-weaker (λ (i : Item). stamp_of i ≤ phases) (λ (i : Item). stamp_of i < phases + 1) (λ i below. omega (arith, below)) (GotAll lane.0) (got_low lane.0)) in
          let none_sent : AllItems sent (λ i. stamp_of i ≤ phases + 1) w.ends = λ n end there.
          let lane = lane_at n (slice_get_within w.ends n end there) in
          let at : EndAt w lane.0 end = record { port = n; lane_is = lane.1; end_is = there } in
          subst (AllByRecursion (λ (i : Item). stamp_of i ≤ phases + 1)) (sym (between_begun.emptied k w lane.0 end was.1 at).none_sent) tt in
          stamps_up_to sent got w.segment.stamp v.segment.stamp w.ends v.ends one.stamps (phases + 1) stamp got_below none_sent

      -- all ends are settled
      pub settled_after : (settled : List (WorkerView End)) → NoneStopped new → AllSettled had sent got kept paired new settled → busy ≡ true → AfterPhases had sent got kept paired board settled (phases + 1)
      settled_after settled going settles was_busy =
          let same = count_same new settled (parts_same new settled settles.many (λ k v here. let found = settles.each k v here in (found.0, found.1, found.2.events))) in
          record {
            received = λ lane. after.received lane ++ done.took lane;
            hand = next had sent got kept paired board valid Begun new settled after.received after.hand after.part between_begun apart_begun done going settles;
            part = λ bus. done.later bus ++ after.part bus;
            between = between_next had sent got kept paired board valid Begun new settled after.received after.hand after.part between_begun apart_begun done going settles;
            apart = apart_settled had sent got kept paired board valid Begun new settled after.received after.hand after.part between_begun apart_begun done going settles;
            stamps = stamps_settled had sent got kept paired board valid Begun new settled after.received after.hand after.part between_begun apart_begun done going settles (phases + 1) (λ k v here. (new_stamps k v here).0);
            hand_stamps = next_stamps had sent got kept paired board valid Begun new settled after.received after.hand after.part between_begun apart_begun done going settles (phases + 1)
                (λ lane. Each-weaker (λ (i : Item). stamp_of i ≤ phases) (λ (i : Item). stamp_of i ≤ phases + 1) (λ i below. omega (arith, below)) (after.hand lane) (after.hand_stamps lane))
                (λ k v here. (new_stamps k v here).1);
            many = let grows = turned.grows was_busy in let many = after.many in omega (arith, grows, many, same);
          }

      -- or no bus did anything
      pub complete_after : RunsEnd → NoneStopped new → busy ≡ false → IsCompleteRun board (history_of_all new)
      complete_after ends going was_idle =
          let idle : (k : ℕ) (w v : WorkerView End) → slice_get Begun k ≡ Some w → slice_get new k ≡ Some v → length v.events ≡ length w.events = λ k w v was is.
          let root = began k w was in
          let found = turned.each k root.0 root.1.0 in
          let one : found.0 ≡ v = same_there new k found.0 v found.2 is in
          let count = found.4 was_idle in
          let many = found.3.many in
          let first : length found.0.events ≡ length root.0.events = omega (arith, count, many) in
          ap (λ (x : WorkerView End). length x.events) (sym one) ∙ (first ∙ ap (λ (x : WorkerView End). length x.events) root.1.1) in
          let same : parts_of_all new ≡ parts_of_all Begun =
          parts_same Begun new turns_begun.many (same_events had sent got kept paired board valid Begun new after.received after.hand after.part between_begun apart_begun done going ordered idle) in
          let P : List (List Stamped) → Type 0 = λ parts. IsCompleteRun board (events_of (reverse (merged parts))) in
          subst P (sym same) (record {
            run = run_between had sent got kept paired board valid Begun after.received after.hand after.part between_begun apart_begun;
            complete = complete_now had sent got kept paired board valid Begun new after.received after.hand after.part between_begun apart_begun done going ordered idle;
            bound = bound_between had sent got kept paired board valid Begun after.received after.hand after.part between_begun apart_begun ends;
          })

  -- the phases are few
  pub few_phases : RunsEnd → phases ≤ 500000
  few_phases ends =
      let count = count_between had sent got kept paired board valid workers after.received after.hand after.part after.between after.apart ends in
      let many = after.many in
      omega (arith, count, many)
