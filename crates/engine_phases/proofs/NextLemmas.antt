-- When all ends are settled, the next phase may begin.
use Rattle.std.proofs.Common.{◌≡◌, ℕ, ◌≤◌, List, [], ◌∷◌, ◌++◌, length, reverse, Option, Some, None, refl, sym, ap, subst, ◌∙◌, append_assoc, append-nil, arith, slice_get}
use Rattle.std.specs.List.{AllByRecursion}
use Rattle.std.proofs.lemmas.Option.{slice_get_within}
use Rattle.list_facts.proofs.EachLemmas.{Each-append}
use Rattle.board_model.specs.declared.bridge.Bridge.{Bridge}
use Rattle.board_model.specs.declared.bridge.Lane.{Lane as BridgeLane}
use Rattle.board_model.specs.declared.board.Board.{Board}
use Rattle.board_model.specs.Valid.{is_bus, IsValid}
use Rattle.board_model.specs.Ways.{end_of, lane_back}
use Rattle.history_model.specs.declared.event.Stamped.{Stamped}
use Rattle.history_model.specs.Answers.{bridge_to}
use Rattle.law_local.proofs.Laws.{end_back}
use Rattle.law_local.specs.phases.Engine.{NoneElsewhere}
use Rattle.law_local.proofs.phases.Laws.{start_is_bus, end_is_bus}
use Rattle.lane_items.specs.declared.item.Item.{Item}
use Rattle.lane_items.specs.Lane.{IsEmptied}
use Rattle.bus_core.specs.Bus.{Shape, shape_of, IsOf}
use Rattle.bus_core.specs.Calls.{stamp_of}
use Rattle.bus_segment.specs.Segment.{SegmentView}
use Rattle.bus_segment.specs.Stands.{WorkerView, SegmentStands}
use Rattle.bus_segment.specs.Steps.{AllItems}
use Rattle.bus_segment.proofs.Laws.{there_at}
use Rattle.engine_phases.specs.Workers.{at_port, at_ports, back_at_ports, EndAt, AreWorkers, AreBetween}
use Rattle.engine_phases.specs.Phase.{AreApart, NoneStopped, OnlyEnds, LaneSettled, AllSettled}
use Rattle.engine_phases.proofs.SpotLemmas.{Spot, same_there, same_port, spot_of, spot_at, spot_none}
use Rattle.engine_phases.proofs.PortLemmas.{stands_at_ports}
use Rattle.engine_phases.proofs.DidLemmas.{PhaseDone}
use Rattle.engine_phases.proofs.GoingLemmas.{Came, Put, Part, OneDone, before, are_after, apart_after, lane_was, stands_after, no_other_after, recorded_after, end_facts, puts_back}

-- of lists one after the other
each_back : {X : Type 0} (P : X → Type 0) (xs ys : List X) → AllByRecursion P (xs ++ ys) → AllByRecursion P ys
each_back P [] ys each = each
each_back P (x ∷ xs) ys each = each_back P xs ys each.1

module _ {End : Type 0} (had sent got : End → List Item) (kept : End → ℕ) (paired : End → End → Type 0) (board : Board) (valid : IsValid board) (old new settled : List (WorkerView End)) (received hand : BridgeLane → List Item)
    (part : ℕ → List Stamped) (between : AreBetween had sent got kept paired board old received hand part) (apart : AreApart board old) (done : PhaseDone had sent got kept paired board old new hand part)
    (going : NoneStopped new) (settles : AllSettled had sent got kept paired new settled) where
  abbrev One : WorkerView End → WorkerView End → Type 0
  One w v = OneDone had sent got kept paired board valid old new received hand part between apart done w v

  -- the workers after the turns
  are_new : AreWorkers board new
  are_new = are_after had sent got kept paired board valid old new received hand part between apart done

  apart_new : AreApart board new
  apart_new = apart_after had sent got kept paired board valid old new received hand part between apart done

  -- what a worker was before it was settled
  turned : (k : ℕ) (u : WorkerView End) → slice_get settled k ≡ Some u → (v : WorkerView End) × (slice_get new k ≡ Some v) × OnlyEnds v u
  turned k u here =
      let within = slice_get_within settled k u here in
      let many = settles.many in
      let was = there_at new k (omega arith) in
      let found = settles.each k was.0 was.1 in
      let same : found.0 ≡ u = same_there settled k found.0 u found.1 here in
      (was.0, was.1, subst (λ (x : WorkerView End). OnlyEnds was.0 x) same found.2)

  shape_same : (v u : WorkerView End) → OnlyEnds v u → shape_of u.segment.bus ≡ shape_of v.segment.bus
  shape_same v u only = ap (λ (s : SegmentView). shape_of s.bus) only.segment

  lane_turned : (v u : WorkerView End) → OnlyEnds v u → (n : ℕ) (lane : BridgeLane) → slice_get (shape_of u.segment.bus).lanes n ≡ Some lane → slice_get (shape_of v.segment.bus).lanes n ≡ Some lane
  lane_turned v u only n lane here = ap (λ (x : Shape). slice_get x.lanes n) (sym (shape_same v u only)) ∙ here

  bus_turned : (v u : WorkerView End) → OnlyEnds v u → u.segment.bus.bus ≡ v.segment.bus.bus
  bus_turned v u only = ap (λ (s : SegmentView). s.bus.bus) only.segment

  are_settled : AreWorkers board settled
  are_settled = record {
    of_board = λ k u here. let was = turned k u here in subst (IsOf board) (sym (shape_same was.0 u was.2)) (are_new.of_board k was.0 was.1);
    ends_there = λ k u n lane here at.
        let was = turned k u here in
        are_new.ends_there k was.0 n lane was.1 (lane_turned was.0 u was.2 n lane at) ∙ sym (bus_turned was.0 u was.2);
    each_bus = λ bus there.
        let found = are_new.each_bus bus there in
        let now = settles.each found.0 found.1 found.2 in
        (found.0, now.0, now.1, bus_turned found.1 now.0 now.2 ∙ found.3);
  }

  pub apart_settled : AreApart board settled
  apart_settled = record {
    apart = λ k m u x here there same.
        let was = turned k u here in
        let were = turned m x there in
        apart_new.apart k m was.0 were.0 was.1 were.1 (sym (bus_turned was.0 u was.2) ∙ (same ∙ bus_turned were.0 x were.2));
    there = λ k u here. let was = turned k u here in ap (is_bus board) (bus_turned was.0 u was.2) ∙ apart_new.there k was.0 was.1;
    bridges = λ k u n lane here at. let was = turned k u here in apart_new.bridges k was.0 n lane was.1 (lane_turned was.0 u was.2 n lane at);
    one_a_port = λ k u here.
        let was = turned k u here in
        was.2.many ∙ (apart_new.one_a_port k was.0 was.1 ∙ ap (λ (x : Shape). length x.lanes) (sym (shape_same was.0 u was.2)));
  }

  -- what is in hand on each lane
  hand_in : Option End → List Item
  hand_in None = []
  hand_in (Some end) = had end

  hand_with : ℕ → Option (WorkerView End) → List Item
  hand_with n None = []
  hand_with n (Some u) = hand_in (slice_get u.ends n)

  hand_at : Option Spot → List Item
  hand_at None = []
  hand_at (Some spot) = hand_with spot.port (slice_get settled spot.worker)

  pub next : BridgeLane → List Item
  next lane = hand_at (spot_of board valid settled are_settled apart_settled lane)

  next_is : (k : ℕ) (u : WorkerView End) (lane : BridgeLane) (end : End) → slice_get settled k ≡ Some u → EndAt u lane end → next lane ≡ had end
  unfolding next hand_at hand_with hand_in
  next_is k u lane end here at =
      ap hand_at (spot_at board valid settled are_settled apart_settled k u at.port lane here at.lane_is) ∙ (ap (hand_with at.port) here ∙ ap hand_in at.end_is)

  next_none : NoneElsewhere board next
  unfolding next hand_at
  next_none lane missing = ap hand_at (spot_none board valid settled are_settled apart_settled lane missing)

  -- a lane of a bridge that ends at a worker's port
  record LaneNow (k : ℕ) (v u : WorkerView End) (lane : BridgeLane) : Type 0 where
    far : End
    far_at : EndAt v lane far
    far_after : End
    far_after_at : EndAt u lane far_after
    other : WorkerView End
    other_place : ℕ
    other_is : slice_get new other_place ≡ Some other
    near : End
    near_at : EndAt other (lane_back lane) near
    near_after : End
    settled_is : LaneSettled had sent got kept paired far near far_after near_after
    had_is : had far ≡ hand lane
    got_is : got far ≡ done.took lane
    sent_is : sent near ≡ done.puts lane

  -- an end at each port
  end_there : (v : WorkerView End) (n : ℕ) (lane : BridgeLane) → length v.ends ≡ length (shape_of v.segment.bus).lanes → slice_get (shape_of v.segment.bus).lanes n ≡ Some lane → (end : End) × EndAt v lane end
  end_there v n lane many here =
      let within = slice_get_within (shape_of v.segment.bus).lanes n lane here in
      let found = there_at v.ends n (omega arith) in
      (found.0, record { port = n; lane_is = here; end_is = found.1 })

  lane_now : (k : ℕ) (w v u : WorkerView End) (n : ℕ) (lane : BridgeLane) → slice_get old k ≡ Some w → slice_get new k ≡ Some v → slice_get settled k ≡ Some u → One w v → OnlyEnds v u
      → slice_get (shape_of u.segment.bus).lanes n ≡ Some lane → LaneNow k v u lane
  lane_now k w v u n lane was is here one only at =
      let at_v = lane_turned v u only n lane at in
      let back : BridgeLane = lane_back lane in
      let found = apart_settled.bridges k u n lane here at in
      let bridge : Bridge = found.0 in
      -- the worker on the other side
      let other = are_new.each_bus (end_of board back) (ap (is_bus board) (end_back board lane) ∙ start_is_bus board valid.buses lane bridge found.1) in
      let m : ℕ = other.0 in
      let x : WorkerView End = other.1 in
      let there = other.2 in
      let other_old = before had sent got kept paired board valid old new received hand part between apart done m x there in
      let place = (are_new.of_board m x there).each_lane back bridge found.1 (sym other.3) in
      let other_settled = settles.each m x there in
      let y : WorkerView End = other_settled.0 in
      let place_after : slice_get (shape_of y.segment.bus).lanes place.0 ≡ Some back = ap (λ (s : Shape). slice_get s.lanes place.0) (shape_same x y other_settled.2) ∙ place.1 in
      let far = end_there v n lane (apart_new.one_a_port k v is) at_v in
      let near = end_there x place.0 back (apart_new.one_a_port m x there) place.1 in
      let far_after = end_there u n lane (apart_settled.one_a_port k u here) at in
      let near_after = end_there y place.0 back (apart_settled.one_a_port m y other_settled.1) place_after in
      let facts = end_facts had sent got kept paired board valid old new received hand part between apart done w v lane far.0 one far.1 in
      let facts_back = end_facts had sent got kept paired board valid old new received hand part between apart done other_old.0 x back near.0 other_old.2 near.1 in
      let none : done.refused lane ≡ [] = one.none_refused (going.going k v is) n lane (lane_was had sent got kept paired board valid old new received hand part between apart done w v one n lane at_v) in
      record {
        far = far.0;
        far_at = far.1;
        far_after = far_after.0;
        far_after_at = far_after.1;
        other = x;
        other_place = m;
        other_is = there;
        near = near.0;
        near_at = near.1;
        near_after = near_after.0;
        settled_is = settles.lanes k m v x u y lane far.0 near.0 far_after.0 near_after.0 is there here other_settled.1 far.1 near.1 far_after.1 near_after.1;
        had_is = facts.had_is;
        got_is = facts.got_is ∙ (ap (λ (l : List Item). done.took lane ++ l) none ∙ append-nil (done.took lane));
        sent_is = facts_back.sent_is ∙ puts_back had sent got kept paired board valid old new received hand part between apart done lane;
      }

  -- the end of a lane at a worker is one
  end_same : (k : ℕ) (u : WorkerView End) (lane : BridgeLane) (one other : End) → slice_get settled k ≡ Some u → EndAt u lane one → EndAt u lane other → one ≡ other
  end_same k u lane one other here at also =
      let port = same_port board (shape_of u.segment.bus) lane at.port also.port (are_settled.of_board k u here) at.lane_is also.lane_is in
      let there : slice_get u.ends also.port ≡ Some one = ap (slice_get u.ends) (sym port) ∙ at.end_is in
      same_there u.ends also.port one other there also.end_is

  -- the lanes of a bridge
  record BridgeNow (lane : BridgeLane) : Type 0 where
    place : ℕ
    v : WorkerView End
    u : WorkerView End
    is : slice_get settled place ≡ Some u
    now : LaneNow place v u lane

  bridge_now : (lane : BridgeLane) (bridge : Bridge) → bridge_to board lane.bus ≡ Some bridge → BridgeNow lane
  bridge_now lane bridge some =
      let found = are_settled.each_bus (end_of board lane) (end_is_bus board valid.buses lane bridge some) in
      let k : ℕ = found.0 in
      let u : WorkerView End = found.1 in
      let place = (are_settled.of_board k u found.2).each_lane lane bridge some (sym found.3) in
      let v = turned k u found.2 in
      let w = before had sent got kept paired board valid old new received hand part between apart done k v.0 v.1 in
      record { place = k; v = v.0; u = u; is = found.2; now = lane_now k w.0 v.0 u place.0 lane w.1 v.1 found.2 w.2 v.2 place.1 }

  abbrev Came_now : BridgeLane → List Item
  Came_now = Came had sent got kept paired board valid old new received hand part between apart done

  abbrev Put_now : BridgeLane → List Item
  Put_now = Put had sent got kept paired board valid old new received hand part between apart done

  abbrev Part_now : ℕ → List Stamped
  Part_now = Part had sent got kept paired board valid old new received hand part between apart done

  -- what was in hand or put was taken or is in hand
  in_order_now : (lane : BridgeLane) (bridge : Bridge) → bridge_to board lane.bus ≡ Some bridge → hand lane ++ done.puts lane ≡ done.took lane ++ next lane
  in_order_now lane bridge some =
      let b = bridge_now lane bridge some in
      let now = b.now in
      let is = next_is b.place b.u lane now.far_after b.is now.far_after_at in
      let crossed = now.settled_is.crosses.in_order in
      let J : List Item → List Item → List Item = λ x y. x ++ y in
      ap (λ (l : List Item). J l (done.puts lane)) (sym now.had_is)
      ∙ (ap (J (had now.far)) (sym now.sent_is)
      ∙ (sym crossed
      ∙ (ap (λ (l : List Item). J l (had now.far_after)) now.got_is ∙ ap (J (done.took lane)) (sym is))))

  put_now : (lane : BridgeLane) (bridge : Bridge) → bridge_to board lane.bus ≡ Some bridge → Put_now lane ≡ Came_now lane ++ next lane
  put_now lane bridge some = ap (λ (l : List Item). received lane ++ l) (in_order_now lane bridge some) ∙ sym (append_assoc (received lane) (done.took lane) (next lane))

  stands_now : (k : ℕ) (u : WorkerView End) → slice_get settled k ≡ Some u → SegmentStands board u.segment (Part_now u.segment.bus.bus) (at_ports u Came_now) (back_at_ports u (λ lane. Came_now lane ++ next lane))
  stands_now k u here =
      let v = turned k u here in
      let w = before had sent got kept paired board valid old new received hand part between apart done k v.0 v.1 in
      let after = stands_after had sent got kept paired board valid old new received hand part between apart done k w.0 v.0 w.1 w.2 in
      let bus : w.0.segment.bus.bus ≡ u.segment.bus.bus = sym (ap (λ (x : Shape). x.bus) w.2.phase.same_shape) ∙ sym (bus_turned v.0 u v.2) in
      let S : SegmentView → ℕ → Type 0 = λ s b. SegmentStands board s (Part_now b) (λ n. at_port Came_now (slice_get (shape_of s.bus).lanes n)) (λ n. at_port (λ l. Put_now (lane_back l)) (slice_get (shape_of s.bus).lanes n)) in
      let moved : S u.segment u.segment.bus.bus = subst (λ (b : ℕ). S u.segment b) bus (subst (λ (s : SegmentView). S s w.0.segment.bus.bus) (sym v.2.segment) after) in
      stands_at_ports board u.segment (Part_now u.segment.bus.bus) (at_ports u Came_now) (at_ports u Came_now) (back_at_ports u Put_now) (back_at_ports u (λ lane. Came_now lane ++ next lane))
      (λ n lane at. refl)
      (λ n lane at.
      let found = apart_settled.bridges k u n lane here at in
      ap (at_port (λ (l : BridgeLane). Put_now (lane_back l))) at
      ∙ (put_now (lane_back lane) found.0 found.1
      ∙ sym (ap (at_port (λ (l : BridgeLane). Came_now (lane_back l) ++ next (lane_back l))) at))) moved

  pub between_next : AreBetween had sent got kept paired board settled Came_now next Part_now
  between_next = record {
    are_workers = are_settled;
    going = λ k u here. let v = turned k u here in ap (λ (s : SegmentView). s.stopped) v.2.segment ∙ going.going k v.0 v.1;
    recorded = λ k u here.
        let v = turned k u here in
        ap Part_now (bus_turned v.0 u v.2)
        ∙ (recorded_after had sent got kept paired board valid old new received hand part between apart done k v.0 v.1 ∙ ap reverse (sym v.2.events));
    stands = stands_now;
    emptied = λ k u lane end here at.
        let v = turned k u here in
        let w = before had sent got kept paired board valid old new received hand part between apart done k v.0 v.1 in
        let now = lane_now k w.0 v.0 u at.port lane w.1 v.1 here w.2 v.2 at.lane_is in
        let same = end_same k u lane now.far_after end here now.far_after_at at in
        subst (λ (e : End). IsEmptied (sent e) (got e) (kept e)) same now.settled_is.emptied;
    in_hand = λ k u lane end here at. sym (next_is k u lane end here at);
    pairs = λ k m u x lane end other here there at back.
        let v = turned k u here in
        let y = turned m x there in
        let far = end_there v.0 at.port lane (apart_new.one_a_port k v.0 v.1) (lane_turned v.0 u v.2 at.port lane at.lane_is) in
        let near = end_there y.0 back.port (lane_back lane) (apart_new.one_a_port m y.0 y.1) (lane_turned y.0 x y.2 back.port (lane_back lane) back.lane_is) in
        (settles.lanes k m v.0 y.0 u x lane far.0 near.0 end other v.1 y.1 here there far.1 near.1 at back).pairs;
    no_other = no_other_after had sent got kept paired board valid old new received hand part between apart done;
    received_there = λ lane missing. ap (λ (l : List Item). l ++ done.took lane) (between.received_there lane missing) ∙ done.did.taken_there lane missing;
    hand_there = next_none;
  }

  -- stamps
  pub next_stamps : (most : ℕ) → ((lane : BridgeLane) → AllByRecursion (λ (i : Item). stamp_of i ≤ most) (hand lane)) → ((k : ℕ) (v : WorkerView End) → slice_get new k ≡ Some v → AllItems sent (λ i. stamp_of i ≤ most) v.ends)
      → (lane : BridgeLane) → AllByRecursion (λ (i : Item). stamp_of i ≤ most) (next lane)
  next_stamps most low all lane =
      let Low : List Item → Type 0 = AllByRecursion (λ (i : Item). stamp_of i ≤ most) in
      let P : Option Bridge → Type 0 = λ found. bridge_to board lane.bus ≡ found → Low (next lane) in
      (elim (bridge_to board lane.bus) as P [
        | None ↦ λ missing. subst Low (sym (next_none lane missing)) tt
        | Some bridge ↦ λ some.
            let now = (bridge_now lane bridge some).now in
            let put : Low (done.puts lane) = subst Low now.sent_is (all now.other_place now.other now.other_is now.near_at.port now.near now.near_at.end_is) in
            let whole : Low (done.took lane ++ next lane) = subst Low (in_order_now lane bridge some) (Each-append (λ (i : Item). stamp_of i ≤ most) (hand lane) (done.puts lane) (low lane) put) in
            each_back (λ (i : Item). stamp_of i ≤ most) (done.took lane) (next lane) whole
      ]) refl

  pub stamps_settled : (most : ℕ) → ((k : ℕ) (v : WorkerView End) → slice_get new k ≡ Some v → v.segment.stamp ≤ most) → (k : ℕ) (u : WorkerView End) → slice_get settled k ≡ Some u → u.segment.stamp ≤ most
  stamps_settled most low k u here =
      let v = turned k u here in
      let same = ap (λ (s : SegmentView). s.stamp) v.2.segment in
      let below = low k v.0 v.1 in omega (arith, same, below)
