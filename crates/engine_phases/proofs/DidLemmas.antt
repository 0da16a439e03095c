-- What all workers did in their turns of a phase, lane by lane.
use Rattle.std.proofs.Common.{◌≡◌, ℕ, zero, suc, ◌<◌, true, false, List, [], ◌∷◌, ◌++◌, length, reverse, Option, Some, None, option_to_list, refl, sym, ap, subst, ◌∙◌, arith, slice_get}
use Rattle.std.proofs.lemmas.Option.{slice_get_within}
use Rattle.board_model.specs.declared.bridge.Lane.{Lane as BridgeLane}
use Rattle.board_model.specs.declared.board.Board.{Board}
use Rattle.board_model.specs.Valid.{is_bus, IsValid}
use Rattle.board_model.specs.Ways.{lane_back}
use Rattle.history_model.specs.declared.event.Stamped.{Stamped}
use Rattle.history_model.specs.Answers.{bridge_to}
use Rattle.history_model.proofs.facts.BridgeLemmas.{lane_back_back}
use Rattle.lane_items.specs.declared.item.Item.{Item}
use Rattle.lane_items.specs.Lane.{IsEmptied, KeepsPairs}
use Rattle.bus_core.specs.Bus.{Shape, shape_of}
use Rattle.bus_segment.specs.Segment.{SegmentPast, SegmentGoes}
use Rattle.bus_segment.specs.Stands.{WorkerView}
use Rattle.bus_segment.specs.Steps.{StampsRise}
use Rattle.bus_segment.specs.Turn.{HasNothingToDo, StopsAt}
use Rattle.bus_segment.proofs.Laws.{there_at}
use Rattle.law_local.specs.phases.Engine.{NoneElsewhere}
use Rattle.engine_phases.specs.Workers.{at_port, at_ports, back_at_ports, EndAt, AreBetween, DidPhase, AllDidPhase}
use Rattle.engine_phases.specs.Phase.{AreApart, Turned}
use Rattle.engine_phases.proofs.SpotLemmas.{Spot, place_of, place_at, place_none, spot_of, spot_at, spot_none}
use Rattle.engine_phases.proofs.PortLemmas.{SameAtPorts, past_at_ports, goes_at_ports}

-- a list of what is found of each element
list_of : {X Y : Type 0} (xs : List X) → ((k : ℕ) (x : X) → slice_get xs k ≡ Some x → Y) → List Y
list_of [] f = []
list_of (x ∷ xs) f = f 0 x refl ∷ list_of xs (λ k y is. f (suc k) y is)

list_of_at : {X Y : Type 0} (xs : List X) (f : (k : ℕ) (x : X) → slice_get xs k ≡ Some x → Y) (k : ℕ) (x : X) → slice_get xs k ≡ Some x
    → (is : slice_get xs k ≡ Some x) × (slice_get (list_of xs f) k ≡ Some (f k x is))
unfolding list_of
list_of_at [] f k x here = cc
list_of_at {X} {Y} (y ∷ xs) f zero x here =
    let same : y ≡ x = cc in
    let P : X → Type 0 = λ z. (is : Some y ≡ Some z) × (Some (f 0 y refl) ≡ Some (f 0 z is)) in
    let F : Y → Option Y = λ r. Some r in
    subst P same (refl, refl)
list_of_at (y ∷ xs) f (suc k) x here = list_of_at xs (λ j z is. f (suc j) z is) k x here

-- each worker did its turn
pub record Turns {End : Type 0} (had sent got : End → List Item) (kept : End → ℕ) (paired : End → End → Type 0) (board : Board) (old new : List (WorkerView End)) : Type 0 where
  pub each : (k : ℕ) (w : WorkerView End) → slice_get old k ≡ Some w → (v : WorkerView End) × (count : ℕ) × (slice_get new k ≡ Some v) × Turned had sent got kept paired board w v count
  pub many : length new ≡ length old

-- what one worker did
pub record Did {End : Type 0} (had sent got : End → List Item) (kept : End → ℕ) (paired : End → End → Type 0) (board : Board) : Type 0 where
  pub before : WorkerView End
  pub after : WorkerView End
  pub count : ℕ
  pub turned : Turned had sent got kept paired board before after count

-- an end of a worker at the port of a lane, before the turn and after it
pub record EndStep {End : Type 0} (had sent got : End → List Item) (kept : End → ℕ) (paired : End → End → Type 0) (hand took refused puts : BridgeLane → List Item) (keeps : BridgeLane → ℕ) (w v : WorkerView End) (n : ℕ) (lane : BridgeLane) : Type 0 where
  pub before : End
  pub after : End
  pub was : slice_get w.ends n ≡ Some before
  pub is : slice_get v.ends n ≡ Some after
  pub had_is : had after ≡ hand lane
  pub got_is : got after ≡ took lane ++ refused lane
  pub sent_is : sent after ≡ puts (lane_back lane)
  pub kept_is : kept after ≡ keeps (lane_back lane)
  pub emptied : IsEmptied (sent before) (got before) (kept before)
  pub pairs : KeepsPairs paired before after

-- what a worker did, lane by lane
pub record WorkerDone {End : Type 0} (had sent got : End → List Item) (kept : End → ℕ) (paired : End → End → Type 0) (board : Board) (hand took refused puts : BridgeLane → List Item) (keeps : BridgeLane → ℕ) (later : ℕ → List Stamped) (w v : WorkerView End) : Type 0 where
  pub phase : DidPhase board w v (later w.segment.bus.bus) took puts
  pub ends : (n : ℕ) (lane : BridgeLane) → slice_get (shape_of w.segment.bus).lanes n ≡ Some lane → EndStep had sent got kept paired hand took refused puts keeps w v n lane
  pub many_ends : length v.ends ≡ length w.ends
  pub none_refused : v.segment.stopped ≡ false → (n : ℕ) (lane : BridgeLane) → slice_get (shape_of w.segment.bus).lanes n ≡ Some lane → refused lane ≡ []
  pub recorded : v.events ≡ w.events ++ reverse (later w.segment.bus.bus)
  pub stamps : StampsRise sent got w.segment.stamp v.segment.stamp w.ends v.ends
  pub quiet : v.segment.stopped ≡ false → length v.events ≡ length w.events → HasNothingToDo had got board w.segment v.ends
  pub stops : w.segment.stopped ≡ false → v.segment.stopped ≡ true → (came : BridgeLane → List Item) (p : List Stamped) (rest put : ℕ → List Item)
      → SegmentPast board came p w.segment (λ n. at_ports w took n ++ (at_ports w refused n ++ rest n)) put
      → (n : ℕ) × (lane : BridgeLane) × (item : Option Item) × (slice_get (shape_of w.segment.bus).lanes n ≡ Some lane) × (refused lane ≡ option_to_list item)
      × StopsAt board w.segment.bus.bus came (later w.segment.bus.bus ++ p) lane item (keeps (lane_back lane))

-- what all did
pub record PhaseDone {End : Type 0} (had sent got : End → List Item) (kept : End → ℕ) (paired : End → End → Type 0) (board : Board) (old new : List (WorkerView End)) (hand : BridgeLane → List Item) (part : ℕ → List Stamped) : Type 0 where
  pub took : BridgeLane → List Item
  pub refused : BridgeLane → List Item
  pub puts : BridgeLane → List Item
  pub keeps : BridgeLane → ℕ
  pub later : ℕ → List Stamped
  pub did : AllDidPhase board old new took refused puts part later
  pub many : length new ≡ length old
  pub each : (k : ℕ) (w : WorkerView End) → slice_get old k ≡ Some w → (v : WorkerView End) × (slice_get new k ≡ Some v) × WorkerDone had sent got kept paired board hand took refused puts keeps later w v

module _ {End : Type 0} (had sent got : End → List Item) (kept : End → ℕ) (paired : End → End → Type 0) (board : Board) (valid : IsValid board) (old new : List (WorkerView End)) (received hand : BridgeLane → List Item)
    (part : ℕ → List Stamped) (between : AreBetween had sent got kept paired board old received hand part) (apart : AreApart board old) (turns : Turns had sent got kept paired board old new) where
  abbrev pub OneDid : Type 0
  OneDid = Did had sent got kept paired board

  did_at_place : (k : ℕ) (w : WorkerView End) → slice_get old k ≡ Some w → OneDid
  did_at_place k w here = let found = turns.each k w here in record { before = w; after = found.0; count = found.1; turned = found.3 }

  pub all_did : List OneDid
  all_did = list_of old did_at_place

  -- what the worker at the place did
  pub record IsDid (k : ℕ) (d : OneDid) : Type 0 where
    pub listed : slice_get all_did k ≡ Some d
    pub was : slice_get old k ≡ Some d.before
    pub is : slice_get new k ≡ Some d.after

  pub did_of : (k : ℕ) (w : WorkerView End) → slice_get old k ≡ Some w → (d : OneDid) × (IsDid k d) × (d.before ≡ w)
  unfolding all_did did_at_place
  did_of k w here =
      let found = list_of_at old did_at_place k w here in
      (did_at_place k w found.0, record { listed = found.1; was = here; is = (turns.each k w found.0).2 }, refl)

  -- something of a worker, at its port where a lane ends
  pick_in : {X : Type 0} → (OneDid → ℕ → X) → X → ℕ → Option OneDid → X
  pick_in f none n None = none
  pick_in f none n (Some d) = f d n

  pick_at : {X : Type 0} → (OneDid → ℕ → X) → X → Option Spot → X
  pick_at f none None = none
  pick_at f none (Some spot) = pick_in f none spot.port (slice_get all_did spot.worker)

  pick : {X : Type 0} → (OneDid → ℕ → X) → X → BridgeLane → X
  pick f none lane = pick_at f none (spot_of board valid old between.are_workers apart lane)

  pick_is : {X : Type 0} (f : OneDid → ℕ → X) (none : X) (k : ℕ) (d : OneDid) (n : ℕ) (lane : BridgeLane) → IsDid k d → slice_get (shape_of d.before.segment.bus).lanes n ≡ Some lane → pick f none lane ≡ f d n
  unfolding pick pick_at pick_in
  pick_is f none k d n lane is here =
      ap (pick_at f none) (spot_at board valid old between.are_workers apart k d.before n lane is.was here) ∙ ap (pick_in f none n) is.listed

  pick_none : {X : Type 0} (f : OneDid → ℕ → X) (none : X) (lane : BridgeLane) → bridge_to board lane.bus ≡ None → pick f none lane ≡ none
  unfolding pick pick_at
  pick_none f none lane missing = ap (pick_at f none) (spot_none board valid old between.are_workers apart lane missing)

  -- what was taken and was not, and what was put, on each lane; and how many items its near end keeps
  pub took : BridgeLane → List Item
  took = pick (λ d n. d.turned.does.received n) []

  pub refused : BridgeLane → List Item
  refused = pick (λ d n. option_to_list (d.turned.does.refused n)) []

  put_from : BridgeLane → List Item
  put_from = pick (λ d n. d.turned.does.puts n) []

  pub puts : BridgeLane → List Item
  puts lane = put_from (lane_back lane)

  kept_in : Option End → ℕ
  kept_in None = 0
  kept_in (Some end) = kept end

  kept_from : BridgeLane → ℕ
  kept_from = pick (λ d n. kept_in (slice_get d.after.ends n)) 0

  pub keeps : BridgeLane → ℕ
  keeps lane = kept_from (lane_back lane)

  -- what each bus did
  later_in : Option OneDid → List Stamped
  later_in None = []
  later_in (Some d) = d.turned.does.later

  later_at : Option ℕ → List Stamped
  later_at None = []
  later_at (Some k) = later_in (slice_get all_did k)

  pub later : ℕ → List Stamped
  later bus = later_at (place_of board valid old between.are_workers apart bus)

  pub took_is : (k : ℕ) (d : OneDid) (n : ℕ) (lane : BridgeLane) → IsDid k d → slice_get (shape_of d.before.segment.bus).lanes n ≡ Some lane → took lane ≡ d.turned.does.received n
  unfolding took
  took_is = pick_is (λ d n. d.turned.does.received n) []

  pub refused_is : (k : ℕ) (d : OneDid) (n : ℕ) (lane : BridgeLane) → IsDid k d → slice_get (shape_of d.before.segment.bus).lanes n ≡ Some lane → refused lane ≡ option_to_list (d.turned.does.refused n)
  unfolding refused
  refused_is = pick_is (λ d n. option_to_list (d.turned.does.refused n)) []

  pub puts_is : (k : ℕ) (d : OneDid) (n : ℕ) (lane : BridgeLane) → IsDid k d → slice_get (shape_of d.before.segment.bus).lanes n ≡ Some lane → puts (lane_back lane) ≡ d.turned.does.puts n
  unfolding puts put_from
  puts_is k d n lane is here = ap put_from (lane_back_back lane) ∙ pick_is (λ e m. e.turned.does.puts m) [] k d n lane is here

  pub keeps_is : (k : ℕ) (d : OneDid) (n : ℕ) (lane : BridgeLane) (end : End) → IsDid k d → slice_get (shape_of d.before.segment.bus).lanes n ≡ Some lane → slice_get d.after.ends n ≡ Some end
      → keeps (lane_back lane) ≡ kept end
  unfolding keeps kept_from kept_in
  keeps_is k d n lane end is here there =
      ap kept_from (lane_back_back lane) ∙ (pick_is (λ e m. kept_in (slice_get e.after.ends m)) 0 k d n lane is here ∙ ap kept_in there)

  pub later_is : (k : ℕ) (d : OneDid) → IsDid k d → later d.before.segment.bus.bus ≡ d.turned.does.later
  unfolding later later_at later_in
  later_is k d is = ap later_at (place_at board valid old between.are_workers apart k d.before is.was) ∙ ap later_in is.listed

  pub later_none : (bus : ℕ) → is_bus board bus ≡ false → later bus ≡ []
  unfolding later later_at
  later_none bus lacks = ap later_at (place_none board valid old between.are_workers apart bus lacks)

  pub took_none : NoneElsewhere board took
  unfolding took
  took_none = pick_none (λ d n. d.turned.does.received n) []

  pub refused_none : NoneElsewhere board refused
  unfolding refused
  refused_none = pick_none (λ d n. option_to_list (d.turned.does.refused n)) []

  pub puts_none : NoneElsewhere board puts
  unfolding puts put_from
  puts_none lane missing = pick_none (λ d n. d.turned.does.puts n) [] (lane_back lane) missing

  -- each worker, by lanes
  did_phase : (k : ℕ) (d : OneDid) → IsDid k d → DidPhase board d.before d.after (later d.before.segment.bus.bus) took puts
  did_phase k d is =
      let G : List Stamped → Type 0 = λ l. SegmentGoes board d.before.segment d.after.segment l (at_ports d.before took) (back_at_ports d.before puts) in
      record {
        same_shape = d.turned.shape;
        goes = subst G (sym (later_is k d is)) (goes_at_ports board d.before.segment d.after.segment d.turned.does.later d.turned.does.received (at_ports d.before took) d.turned.does.puts (back_at_ports d.before puts) d.turned.shape
            (λ n lane here. sym (ap (at_port took) here ∙ took_is k d n lane is here))
            (λ n lane here. sym (ap (at_port (λ (l : BridgeLane). puts (lane_back l))) here ∙ puts_is k d n lane is here)) d.turned.does.goes);
      }

  pub phase_did : AllDidPhase board old new took refused puts part later
  phase_did = record {
    each = λ k w here.
        let found = did_of k w here in
        let d : OneDid = found.0 in
        let P : WorkerView End → Type 0 = λ u. (v : WorkerView End) × (slice_get new k ≡ Some v) × DidPhase board u v (later u.segment.bus.bus) took puts in
        subst P found.2 (d.after, found.1.is, did_phase k d found.1);
    no_other = later_none;
    taken_there = took_none;
    not_taken_there = refused_none;
    sent_there = puts_none;
  }

  -- the ends of a worker
  end_step : (k : ℕ) (d : OneDid) (n : ℕ) (lane : BridgeLane) → IsDid k d → slice_get (shape_of d.before.segment.bus).lanes n ≡ Some lane
      → EndStep had sent got kept paired hand took refused puts keeps d.before d.after n lane
  end_step k d n lane is here =
      let within : n < length (shape_of d.before.segment.bus).lanes = slice_get_within (shape_of d.before.segment.bus).lanes n lane here in
      let many = apart.one_a_port k d.before is.was in
      let same = d.turned.does.many in
      let first = there_at d.before.ends n (omega arith) in
      let last = there_at d.after.ends n (omega arith) in
      let at : EndAt d.before lane first.0 = record { port = n; lane_is = here; end_is = first.1 } in
      let emptied = between.emptied k d.before lane first.0 is.was at in
      let step = d.turned.does.at_ends n first.0 last.0 first.1 last.1 in
      let all_got : got last.0 ≡ d.turned.does.received n ++ option_to_list (d.turned.does.refused n) =
      step.got_is ∙ ap (λ (l : List Item). (l ++ d.turned.does.received n) ++ option_to_list (d.turned.does.refused n)) emptied.none_got in
      let J : List Item → List Item → List Item = λ a b. a ++ b in
      record {
        before = first.0;
        after = last.0;
        was = first.1;
        is = last.1;
        had_is = step.had_is ∙ between.in_hand k d.before lane first.0 is.was at;
        got_is = all_got
            ∙ (ap (λ (l : List Item). J l (option_to_list (d.turned.does.refused n))) (sym (took_is k d n lane is here))
            ∙ ap (J (took lane)) (sym (refused_is k d n lane is here)));
        sent_is = step.sent_is ∙ (ap (λ (l : List Item). J l (d.turned.does.puts n)) emptied.none_sent ∙ sym (puts_is k d n lane is here));
        kept_is = sym (keeps_is k d n lane last.0 is here last.1);
        emptied = emptied;
        pairs = step.pairs;
      }

  -- why one stops
  stops_so : (k : ℕ) (d : OneDid) → IsDid k d → d.before.segment.stopped ≡ false → d.after.segment.stopped ≡ true → (came : BridgeLane → List Item) (p : List Stamped) (rest put : ℕ → List Item)
      → SegmentPast board came p d.before.segment (λ n. at_ports d.before took n ++ (at_ports d.before refused n ++ rest n)) put
      → (n : ℕ) × (lane : BridgeLane) × (item : Option Item) × (slice_get (shape_of d.before.segment.bus).lanes n ≡ Some lane) × (refused lane ≡ option_to_list item)
      × StopsAt board d.before.segment.bus.bus came (later d.before.segment.bus.bus ++ p) lane item (keeps (lane_back lane))
  stops_so k d is on off came p rest put past =
      let J : List Item → List Item → List Item → List Item = λ a b c. a ++ (b ++ c) in
      let same : SameAtPorts d.before.segment (λ n. at_ports d.before took n ++ (at_ports d.before refused n ++ rest n)) (λ n. d.turned.does.received n ++ (option_to_list (d.turned.does.refused n) ++ rest n)) =
      λ n lane here.
      ap (λ (l : List Item). J l (at_ports d.before refused n) (rest n)) (ap (at_port took) here ∙ took_is k d n lane is here)
      ∙ ap (λ (l : List Item). J (d.turned.does.received n) l (rest n)) (ap (at_port refused) here ∙ refused_is k d n lane is here) in
      let before = past_at_ports board came p d.before.segment (λ n. at_ports d.before took n ++ (at_ports d.before refused n ++ rest n)) (λ n. d.turned.does.received n ++ (option_to_list (d.turned.does.refused n) ++ rest n))
      put put same (λ n lane here. refl) past in
      let found = d.turned.does.stops on off came p rest put before in
      let n : ℕ = found.0 in
      let lane : BridgeLane = found.1 in
      let here : slice_get (shape_of d.before.segment.bus).lanes n ≡ Some lane = ap (λ (x : Shape). slice_get x.lanes n) (sym d.turned.shape) ∙ found.3 in
      let S : ℕ → List Stamped → ℕ → Type 0 = λ bus l count. StopsAt board bus came (l ++ p) lane (d.turned.does.refused n) count in
      let bus : d.after.segment.bus.bus ≡ d.before.segment.bus.bus = ap (λ (x : Shape). x.bus) d.turned.shape in
      let one = subst (λ (b : ℕ). S b d.turned.does.later (kept found.2)) bus found.5 in
      let two = subst (λ (l : List Stamped). S d.before.segment.bus.bus l (kept found.2)) (sym (later_is k d is)) one in
      let three = subst (λ (c : ℕ). S d.before.segment.bus.bus (later d.before.segment.bus.bus) c) (sym (keeps_is k d n lane found.2 is here found.4)) two in
      (n, lane, d.turned.does.refused n, here, refused_is k d n lane is here, three)

  none_left : (k : ℕ) (d : OneDid) → IsDid k d → d.after.segment.stopped ≡ false → (n : ℕ) (lane : BridgeLane) → slice_get (shape_of d.before.segment.bus).lanes n ≡ Some lane → refused lane ≡ []
  none_left k d is on n lane here = refused_is k d n lane is here ∙ ap option_to_list (d.turned.does.none_refused on n)

  one_done : (k : ℕ) (d : OneDid) → IsDid k d → WorkerDone had sent got kept paired board hand took refused puts keeps later d.before d.after
  one_done k d is = record {
    phase = did_phase k d is;
    ends = λ n lane here. end_step k d n lane is here;
    many_ends = d.turned.does.many;
    none_refused = none_left k d is;
    recorded = d.turned.does.recorded ∙ ap (λ (l : List Stamped). d.before.events ++ reverse l) (sym (later_is k d is));
    stamps = d.turned.stamps;
    quiet = λ on same. d.turned.quiet (let many = d.turned.many in omega (arith, many, same)) on;
    stops = stops_so k d is;
  }

  pub phase_done : PhaseDone had sent got kept paired board old new hand part
  phase_done = record {
    took = took;
    refused = refused;
    puts = puts;
    keeps = keeps;
    later = later;
    did = phase_did;
    many = turns.many;
    each = λ k w here.
        let found = did_of k w here in
        let d : OneDid = found.0 in
        let P : WorkerView End → Type 0 = λ u. (v : WorkerView End) × (slice_get new k ≡ Some v) × WorkerDone had sent got kept paired board hand took refused puts keeps later u v in
        subst P found.2 (d.after, found.1.is, one_done k d found.1);
  }
