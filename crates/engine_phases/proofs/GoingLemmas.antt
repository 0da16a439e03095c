-- After the turns of a phase no segment stopped, and all ends may be settled.
use Rattle.std.proofs.Common.{◌≡◌, ℕ, ◌^◌, ◌<◌, ◌≤◌, Bool, true, false, List, [], ◌++◌, length, map, drop, reverse, Option, Some, None, option_to_list, refl, sym, ap, subst, ◌∙◌, append_assoc, arith, slice_get}
use Rattle.std.specs.List.{AllByRecursion}
use Rattle.std.proofs.lemmas.List.{reverse-reverse, reverse-append}
use Rattle.std.proofs.lemmas.Option.{slice_get_within}
use Rattle.std.proofs.Math.Seq.{drop-append_seam}
use Rattle.board_model.specs.Limits.{most_waiting}
use Rattle.board_model.specs.declared.bridge.Bridge.{Bridge}
use Rattle.board_model.specs.declared.bridge.Lane.{Lane as BridgeLane}
use Rattle.board_model.specs.declared.board.Board.{Board}
use Rattle.board_model.specs.Valid.{is_bus, IsValid}
use Rattle.board_model.specs.Ways.{end_of, lane_back}
use Rattle.history_model.specs.declared.event.Stamped.{Stamped}
use Rattle.history_model.specs.Answers.{bridge_to}
use Rattle.history_model.proofs.facts.BridgeLemmas.{lane_back_back}
use Rattle.law_local.specs.Stamps.{IsMerged}
use Rattle.lane_items.specs.declared.item.Item.{Item}
use Rattle.lane_items.specs.Lane.{GotInOrder, left_count, KeepsPairs}
use Rattle.bus_face.specs.Arrivals.{carried}
use Rattle.bus_core.specs.Bus.{Shape, shape_of, IsOf}
use Rattle.bus_core.specs.Calls.{stamp_of}
use Rattle.bus_segment.specs.Stands.{WorkerView, SegmentStands}
use Rattle.bus_segment.specs.Turn.{StopsAt}
use Rattle.bus_segment.proofs.Laws.{there_at}
use Rattle.law_local.proofs.room.Laws.{what_is_left}
use Rattle.law_local.specs.phases.Engine.{NoneElsewhere, Worked, AllInOrder, ending_on, put_up_to}
use Rattle.law_local.proofs.phases.Laws.{phase_room}
use Rattle.engine_phases.specs.Workers.{at_port, at_ports, back_at_ports, EndAt, AreWorkers, AreBetween, IsStampedBelow}
use Rattle.engine_phases.specs.Phase.{AreApart, NoneStopped, AllMaySettle}
use Rattle.engine_phases.proofs.SpotLemmas.{same_there}
use Rattle.engine_phases.proofs.PortLemmas.{comes_behind, own_past, stands_at_ports}
use Rattle.engine_phases.proofs.MergeLemmas.{all_own, all_of, all_merged}
use Rattle.engine_phases.proofs.StandLemmas.{stands_on}
use Rattle.engine_phases.proofs.WorkerLemmas.{worked_of, worked_rest}
use Rattle.engine_phases.proofs.StopLemmas.{no_stop}
use Rattle.engine_phases.proofs.DidLemmas.{WorkerDone, PhaseDone}

-- the items at each port, by segments of one shape
at_same : {End : Type 0} (w v : WorkerView End) (items : BridgeLane → List Item) (n : ℕ) → shape_of v.segment.bus ≡ shape_of w.segment.bus → at_ports w items n ≡ at_ports v items n
at_same w v items n shape = ap (λ (x : Shape). at_port items (slice_get x.lanes n)) (sym shape)

-- two lists at a port, one after the other
joined : (items more : BridgeLane → List Item) (found : Option BridgeLane) → at_port items found ++ at_port more found ≡ at_port (λ lane. items lane ++ more lane) found
joined items more None = refl
joined items more (Some lane) = refl

-- three lists replaced by equal ones
pub three_same : (P : List Item → List Item → List Item → Type 0) (a b c d e f : List Item) → a ≡ d → b ≡ e → c ≡ f → P a b c → P d e f
three_same P a b c d e f one two three is = subst (λ (x : List Item). P x e f) one (subst (λ (x : List Item). P a x f) two (subst (λ (x : List Item). P a b x) three is))

-- an item that was refused, of which the stamp is low
low_item : (items : List Item) (item : Option Item) → items ≡ option_to_list item → AllByRecursion (λ (i : Item). stamp_of i < 2 ^ 31) items → IsStampedBelow (2 ^ 31) item
low_item items None is low = tt
low_item items (Some item) is low = (subst (AllByRecursion (λ (i : Item). stamp_of i < 2 ^ 31)) is low).0

module _ {End : Type 0} (had sent got : End → List Item) (kept : End → ℕ) (paired : End → End → Type 0) (board : Board) (valid : IsValid board) (old new : List (WorkerView End)) (received hand : BridgeLane → List Item)
    (part : ℕ → List Stamped) (between : AreBetween had sent got kept paired board old received hand part) (apart : AreApart board old) (done : PhaseDone had sent got kept paired board old new hand part) where
  abbrev pub Got : BridgeLane → List Item
  Got lane = done.took lane ++ done.refused lane

  abbrev pub Came : BridgeLane → List Item
  Came lane = received lane ++ done.took lane

  abbrev pub Put : BridgeLane → List Item
  Put = put_up_to received hand done.puts

  abbrev pub Part : ℕ → List Stamped
  Part bus = done.later bus ++ part bus

  abbrev pub OneDone : WorkerView End → WorkerView End → Type 0
  OneDone w v = WorkerDone had sent got kept paired board hand done.took done.refused done.puts done.keeps done.later w v

  pub worked : Worked carried stamp_of board received hand Got done.puts Part
  worked = worked_of had sent got kept paired board old received hand part between new done.took done.refused done.puts done.later done.did

  pub not_taken : (lane : BridgeLane) → worked.not_taken lane ≡ done.refused lane
  unfolding worked
  not_taken lane = worked_rest had sent got kept paired board old received hand part between new done.took done.refused done.puts done.later done.did lane

  -- what a worker was before
  pub before : (k : ℕ) (v : WorkerView End) → slice_get new k ≡ Some v → (w : WorkerView End) × (slice_get old k ≡ Some w) × OneDone w v
  before k v here =
      let within = slice_get_within new k v here in
      let many = done.many in
      let was = there_at old k (omega arith) in
      let found = done.each k was.0 was.1 in
      let same : found.0 ≡ v = same_there new k found.0 v found.1 here in
      (was.0, was.1, subst (λ (u : WorkerView End). OneDone was.0 u) same found.2)

  bus_same : (w v : WorkerView End) → OneDone w v → v.segment.bus.bus ≡ w.segment.bus.bus
  bus_same w v one = ap (λ (x : Shape). x.bus) one.phase.same_shape

  -- the lanes of a worker are those it had
  pub lane_was : (w v : WorkerView End) → OneDone w v → (n : ℕ) (lane : BridgeLane) → slice_get (shape_of v.segment.bus).lanes n ≡ Some lane → slice_get (shape_of w.segment.bus).lanes n ≡ Some lane
  lane_was w v one n lane here = ap (λ (x : Shape). slice_get x.lanes n) (sym one.phase.same_shape) ∙ here

  pub are_after : AreWorkers board new
  are_after = record {
    of_board = λ k v here. let was = before k v here in subst (IsOf board) (sym was.2.phase.same_shape) (between.are_workers.of_board k was.0 was.1);
    ends_there = λ k v n lane here at.
        let was = before k v here in
        between.are_workers.ends_there k was.0 n lane was.1 (lane_was was.0 v was.2 n lane at) ∙ sym (bus_same was.0 v was.2);
    each_bus = λ bus there.
        let found = between.are_workers.each_bus bus there in
        let now = done.each found.0 found.1 found.2 in
        (found.0, now.0, now.1, bus_same found.1 now.0 now.2 ∙ found.3);
  }

  pub apart_after : AreApart board new
  apart_after = record {
    apart = λ k m v u here there same.
        let was = before k v here in
        let were = before m u there in
        apart.apart k m was.0 were.0 was.1 were.1 (sym (bus_same was.0 v was.2) ∙ (same ∙ bus_same were.0 u were.2));
    there = λ k v here. let was = before k v here in ap (is_bus board) (bus_same was.0 v was.2) ∙ apart.there k was.0 was.1;
    bridges = λ k v n lane here at. let was = before k v here in apart.bridges k was.0 n lane was.1 (lane_was was.0 v was.2 n lane at);
    one_a_port = λ k v here.
        let was = before k v here in
        was.2.many_ends ∙ (apart.one_a_port k was.0 was.1 ∙ ap (λ (x : Shape). length x.lanes) (sym was.2.phase.same_shape));
  }

  -- each stands for what it did before and in the turn
  pub stands_after : (k : ℕ) (w v : WorkerView End) → slice_get old k ≡ Some w → OneDone w v → SegmentStands board v.segment (Part w.segment.bus.bus) (at_ports v Came) (back_at_ports v Put)
  stands_after k w v here one =
      let bus : ℕ = w.segment.bus.bus in
      let shape = one.phase.same_shape in
      let Was : BridgeLane → List Item = λ lane. received lane ++ hand lane in
      let stands = stands_on board w.segment v.segment (part bus) (done.later bus) (at_ports w received) (back_at_ports w Was) (at_ports w done.took) (back_at_ports w done.puts) shape (between.stands k w here) one.phase.goes in
      stands_at_ports board v.segment (Part bus) (λ n. at_ports w received n ++ at_ports w done.took n) (at_ports v Came) (λ n. back_at_ports w Was n ++ back_at_ports w done.puts n) (back_at_ports v Put)
      (λ n lane at. joined received done.took (slice_get (shape_of w.segment.bus).lanes n) ∙ at_same w v Came n shape)
      (λ n lane at.
      joined (λ (l : BridgeLane). Was (lane_back l)) (λ (l : BridgeLane). done.puts (lane_back l)) (slice_get (shape_of w.segment.bus).lanes n)
      ∙ (regroup (slice_get (shape_of w.segment.bus).lanes n) ∙ at_same w v (λ (l : BridgeLane). Put (lane_back l)) n shape)) stands
    where
      regroup : (found : Option BridgeLane) → at_port (λ (l : BridgeLane). (received (lane_back l) ++ hand (lane_back l)) ++ done.puts (lane_back l)) found ≡ at_port (λ (l : BridgeLane). Put (lane_back l)) found
      regroup None = refl
      regroup (Some lane) = append_assoc (received (lane_back lane)) (hand (lane_back lane)) (done.puts (lane_back lane))

  came_there : NoneElsewhere board Came
  came_there lane missing = ap (λ (l : List Item). l ++ done.took lane) (between.received_there lane missing) ∙ done.did.taken_there lane missing

  pub put_there : NoneElsewhere board Put
  put_there lane missing =
      ap (λ (l : List Item). l ++ (hand lane ++ done.puts lane)) (between.received_there lane missing)
      ∙ (ap (λ (l : List Item). l ++ done.puts lane) (between.hand_there lane missing) ∙ done.did.sent_there lane missing)

  pub no_other_after : (bus : ℕ) → is_bus board bus ≡ false → Part bus ≡ []
  no_other_after bus lacks = ap (λ (l : List Stamped). l ++ part bus) (done.did.no_other bus lacks) ∙ between.no_other bus lacks

  pub recorded_after : (k : ℕ) (v : WorkerView End) → slice_get new k ≡ Some v → Part v.segment.bus.bus ≡ reverse v.events
  recorded_after k v here =
      let was = before k v here in
      let w : WorkerView End = was.0 in
      let bus : ℕ = w.segment.bus.bus in
      let later : List Stamped = done.later bus in
      ap Part (bus_same w v was.2)
      ∙ (ap (λ (l : List Stamped). later ++ l) (between.recorded k w was.1)
      ∙ (ap (λ (l : List Stamped). l ++ reverse w.events) (sym (reverse-reverse later))
      ∙ (sym (reverse-append w.events (reverse later)) ∙ ap reverse (sym was.2.recorded))))

  pub merged_after : IsMerged board Part (all_of new)
  merged_after =
      all_merged board new Part are_after apart_after no_other_after (λ k v here.
      let was = before k v here in
      let stands = stands_after k was.0 v was.1 was.2 in
      let here_now : SegmentStands board v.segment (Part v.segment.bus.bus) (at_ports v Came) (back_at_ports v Put) =
      subst (λ (bus : ℕ). SegmentStands board v.segment (Part bus) (at_ports v Came) (back_at_ports v Put)) (sym (bus_same was.0 v was.2)) stands in
      let past = own_past board v (λ n lane at. are_after.ends_there k v n lane here at) Came (Part v.segment.bus.bus) (back_at_ports v Put) came_there here_now in
      record {
        same = recorded_after k v here;
        never_fall = past.never_fall;
        own = all_own board v.segment.bus.bus (λ lane. map carried (ending_on board v.segment.bus.bus Came lane)) (Part v.segment.bus.bus) past.run;
      })

  -- when all lanes brought their items in order
  module _ (ordered : AllInOrder board hand Got done.puts done.keeps) where
    -- what is left on a lane
    pub left_on : BridgeLane → List Item
    left_on lane = drop (length (Got lane)) (hand lane ++ done.puts lane)

    pub left_is : (lane : BridgeLane) (bridge : Bridge) → bridge_to board lane.bus ≡ Some bridge → hand lane ++ done.puts lane ≡ done.took lane ++ (done.refused lane ++ left_on lane)
    unfolding left_on
    left_is lane bridge some =
        let left = what_is_left (hand lane) (Got lane) (done.puts lane) (done.keeps lane) (ordered lane bridge some) in
        let rest : left_on lane ≡ left.0 = ap (drop (length (Got lane))) (sym left.1) ∙ drop-append_seam (Got lane) left.0 in
        sym left.1 ∙ (ap (λ (l : List Item). Got lane ++ l) (sym rest) ∙ append_assoc (done.took lane) (done.refused lane) (left_on lane))

    stop_none : ((end : End) → kept end ≤ length (sent end)) → ((lane : BridgeLane) → AllByRecursion (λ (i : Item). stamp_of i < 2 ^ 31) (done.refused lane)) → (k : ℕ) (w v : WorkerView End) → slice_get old k ≡ Some w → OneDone w v
        → v.segment.stopped ≡ true → ⊥
    stop_none were_sent low k w v here one off =
        let bus : ℕ = w.segment.bus.bus in
        let lanes : List BridgeLane = (shape_of w.segment.bus).lanes in
        let rest : ℕ → List Item = λ n. at_ports w left_on n in
        let ends : (n : ℕ) (lane : BridgeLane) → slice_get lanes n ≡ Some lane → end_of board lane ≡ bus = λ n lane at. between.are_workers.ends_there k w n lane here at in
        let Then : ℕ → List Item = λ n. at_ports w done.took n ++ (at_ports w done.refused n ++ rest n) in
        let came : BridgeLane → List Item = ending_on board bus Put in
        let behind = comes_behind board w ends received Put Then put_there (λ n lane at.
        let found = apart.bridges k w n lane here at in
        let J : Option BridgeLane → List Item = λ f. received lane ++ (at_port done.took f ++ (at_port done.refused f ++ at_port left_on f)) in
        ap (λ (l : List Item). received lane ++ l) (left_is lane found.0 found.1) ∙ ap J (sym at)) in
        let past = (between.stands k w here).past came Then behind in
        let stops = one.stops (between.going k w here) off came (part bus) rest (back_at_ports w (λ (l : BridgeLane). received l ++ hand l)) past in
        let n : ℕ = stops.0 in
        let lane : BridgeLane = stops.1 in
        let found = apart.bridges k w n lane here stops.3 in
        let step = one.ends n lane stops.3 in
        let S : ℕ → Type 0 = λ b. StopsAt board b (ending_on board b Put) (Part b) lane stops.2 (done.keeps (lane_back lane)) in
        let there : S (end_of board lane) = subst S (sym (ends n lane stops.3)) stops.5 in
        let few : done.keeps (lane_back lane) ≤ length (done.puts (lane_back lane)) =
        let keeps = step.kept_is in let puts = ap length step.sent_is in let were = were_sent step.after in omega (arith, keeps, puts, were) in
        no_stop board valid received hand done.took done.refused done.puts done.keeps Part (all_of new) worked not_taken ordered merged_after lane found.0 found.1 stops.2 stops.4
        (low_item (done.refused lane) stops.2 stops.4 (low lane)) few there

    pub none_stopped : ((end : End) → kept end ≤ length (sent end)) → ((lane : BridgeLane) → AllByRecursion (λ (i : Item). stamp_of i < 2 ^ 31) (done.refused lane)) → NoneStopped new
    none_stopped were_sent low = record {
      going = λ k v here.
          let was = before k v here in
          let P : Bool → Type 0 = λ b. v.segment.stopped ≡ b → b ≡ false in
          (elim v.segment.stopped as P [
            | true ↦ λ off. absurd (stop_none were_sent low k was.0 v was.1 was.2 off)
            | false ↦ λ _. refl
          ]) refl;
    }

  -- an end after the turns, at the port of its lane
  pub record EndFacts (w : WorkerView End) (lane : BridgeLane) (end : End) : Type 0 where
    pub had_is : had end ≡ hand lane
    pub got_is : got end ≡ Got lane
    pub sent_is : sent end ≡ done.puts (lane_back lane)
    pub kept_is : kept end ≡ done.keeps (lane_back lane)
    pub before : End
    pub was : EndAt w lane before
    pub pairs : KeepsPairs paired before end

  pub end_facts : (w v : WorkerView End) (lane : BridgeLane) (end : End) → OneDone w v → EndAt v lane end → EndFacts w lane end
  end_facts w v lane end one at =
      let here = lane_was w v one at.port lane at.lane_is in
      let step = one.ends at.port lane here in
      let same : step.after ≡ end = same_there v.ends at.port step.after end step.is at.end_is in
      subst (EndFacts w lane) same (record {
        had_is = step.had_is;
        got_is = step.got_is;
        sent_is = step.sent_is;
        kept_is = step.kept_is;
        before = step.before;
        was = record { port = at.port; lane_is = here; end_is = step.was };
        pairs = step.pairs;
      })

  -- the two ends of a bridge
  pub puts_back : (lane : BridgeLane) → done.puts (lane_back (lane_back lane)) ≡ done.puts lane
  puts_back lane = ap done.puts (lane_back_back lane)

  pub may_settle_all : AllMaySettle had sent got kept paired new
  may_settle_all = record {
    pairs = λ k m v u lane far near here there at back.
        let was = before k v here in
        let were = before m u there in
        let one = end_facts was.0 v lane far was.2 at in
        let other = end_facts were.0 u (lane_back lane) near were.2 back in
        other.pairs.as_second far (one.pairs.as_first other.before (between.pairs k m was.0 were.0 lane one.before other.before was.1 were.1 one.was other.was));
    fits = λ k m v u lane far near here there at back order order_back.
        let was = before k v here in
        let were = before m u there in
        let one = end_facts was.0 v lane far was.2 at in
        let other = end_facts were.0 u (lane_back lane) near were.2 back in
        let found = apart_after.bridges k v at.port lane here at.lane_is in
        let sent_there : sent near ≡ done.puts lane = other.sent_is ∙ puts_back lane in
        let O : ℕ → List Item → List Item → List Item → Type 0 = λ n a b c. GotInOrder a b c n in
        let L : List Item → List Item → List Item → Type 0 = λ a b c. left_count a b c ≤ most_waiting in
        let first = three_same (O (kept near)) (had far) (got far) (sent near) (hand lane) (Got lane) (done.puts lane) one.had_is one.got_is sent_there order in
        let second = three_same (O (kept far)) (had near) (got near) (sent far) (hand (lane_back lane)) (Got (lane_back lane)) (done.puts (lane_back lane)) other.had_is other.got_is one.sent_is order_back in
        let room = phase_room carried stamp_of board received hand Got done.puts Part worked valid lane found.0 (kept near) (kept far) found.1 first second in (
          three_same L (hand lane) (Got lane) (done.puts lane) (had far) (got far) (sent near) (sym one.had_is) (sym one.got_is) (sym sent_there) room.0,
          three_same L (hand (lane_back lane)) (Got (lane_back lane)) (done.puts (lane_back lane)) (had near) (got near) (sent far) (sym other.had_is) (sym other.got_is) (sym one.sent_is) room.1,
        );
  }
