-- After a phase without an event the run is complete.
use Rattle.std.proofs.Common.{◌≡◌, ℕ, true, List, [], ◌∷◌, ◌++◌, length, map, reverse, Option, Some, None, refl, sym, ap, subst, ◌∙◌, append-nil, arith, slice_get}
use Rattle.std.proofs.lemmas.List.{length-append, length-reverse, length-map}
use Rattle.board_model.specs.declared.bridge.Bridge.{Bridge}
use Rattle.board_model.specs.declared.bridge.Lane.{Lane as BridgeLane}
use Rattle.board_model.specs.declared.board.Board.{Board}
use Rattle.board_model.specs.Valid.{is_bus, IsValid}
use Rattle.board_model.specs.Ways.{end_of}
use Rattle.history_model.specs.declared.event.Stamped.{Stamped}
use Rattle.history_model.specs.declared.item.Carried.{Carried}
use Rattle.history_model.specs.Answers.{bridge_to}
use Rattle.history_model.specs.Runs.{Complete}
use Rattle.law_local.specs.Stamps.{events_of}
use Rattle.lane_items.specs.declared.item.Item.{Item}
use Rattle.lane_items.specs.Lane.{in_hand}
use Rattle.bus_face.specs.Arrivals.{carried}
use Rattle.bus_core.specs.Bus.{shape_of}
use Rattle.bus_core.specs.Calls.{stamp_of}
use Rattle.bus_segment.specs.Segment.{lanes_known}
use Rattle.bus_segment.specs.Stands.{WorkerView}
use Rattle.law_local.specs.phases.Engine.{AllInOrder, ending_on, put_up_to, did_by, known_at_end}
use Rattle.law_local.specs.phases.Taken.{AllGetARetry}
use Rattle.law_local.proofs.phases.Laws.{end_is_bus, engine_complete}
use Rattle.engine_phases.specs.Workers.{at_port, at_ports, back_at_ports, AreBetween}
use Rattle.engine_phases.specs.Phase.{AreApart, NoneStopped}
use Rattle.engine_phases.proofs.PortLemmas.{comes_behind}
use Rattle.engine_phases.proofs.MergeLemmas.{all_of}
use Rattle.engine_phases.proofs.RunLemmas.{merged_between, engine_between}
use Rattle.engine_phases.proofs.DidLemmas.{PhaseDone}
use Rattle.engine_phases.proofs.GoingLemmas.{Got, Put, OneDone, put_there, left_on, left_is}

-- a list without length is none
no_items : {X : Type 0} (xs : List X) → length xs ≡ 0 → xs ≡ []
no_items [] none = refl
no_items (x ∷ xs) none = absurd (omega (arith, none))

module _ {End : Type 0} (had sent got : End → List Item) (kept : End → ℕ) (paired : End → End → Type 0) (board : Board) (valid : IsValid board) (old new : List (WorkerView End)) (received hand : BridgeLane → List Item)
    (part : ℕ → List Stamped) (between : AreBetween had sent got kept paired board old received hand part) (apart : AreApart board old) (done : PhaseDone had sent got kept paired board old new hand part)
    (going : NoneStopped new) (ordered : AllInOrder board hand (Got had sent got kept paired board valid old new received hand part between apart done) done.puts done.keeps)
    (idle : (k : ℕ) (w v : WorkerView End) → slice_get old k ≡ Some w → slice_get new k ≡ Some v → length v.events ≡ length w.events) where
  abbrev One : WorkerView End → WorkerView End → Type 0
  One w v = OneDone had sent got kept paired board valid old new received hand part between apart done w v

  abbrev Left : BridgeLane → List Item
  Left = left_on had sent got kept paired board valid old new received hand part between apart done ordered

  -- no bus did anything
  nothing_done : (k : ℕ) (w v : WorkerView End) → slice_get old k ≡ Some w → slice_get new k ≡ Some v → One w v → done.later w.segment.bus.bus ≡ []
  nothing_done k w v was is one =
      let later : List Stamped = done.later w.segment.bus.bus in
      let same = idle k w v was is in
      let recorded = ap length one.recorded in
      no_items later (omega (arith, same, recorded, length-append w.events (reverse later), length-reverse later))

  pub same_events : (k : ℕ) (w : WorkerView End) → slice_get old k ≡ Some w → (v : WorkerView End) × (slice_get new k ≡ Some v) × (v.events ≡ w.events)
  same_events k w was =
      let found = done.each k w was in
      let none = nothing_done k w found.0 was found.1 found.2 in
      (found.0, found.1, found.2.recorded ∙ (ap (λ (l : List Stamped). w.events ++ reverse l) none ∙ append-nil w.events))

  -- and took nothing
  nothing_took : (k : ℕ) (w v : WorkerView End) (n : ℕ) (lane : BridgeLane) → slice_get old k ≡ Some w → slice_get new k ≡ Some v → One w v → slice_get (shape_of w.segment.bus).lanes n ≡ Some lane → done.took lane ≡ []
  nothing_took k w v n lane was is one here =
      let bus : ℕ = w.segment.bus.bus in
      let All : BridgeLane → List Item = Put had sent got kept paired board valid old new received hand part between apart done in
      let rest : ℕ → List Item = λ m. at_ports w done.refused m ++ at_ports w Left m in
      let came : BridgeLane → List Item = ending_on board bus All in
      let ends : (m : ℕ) (l : BridgeLane) → slice_get (shape_of w.segment.bus).lanes m ≡ Some l → end_of board l ≡ bus = λ m l at. between.are_workers.ends_there k w m l was at in
      let behind = comes_behind board w ends received All (λ m. at_ports w done.took m ++ rest m) (put_there had sent got kept paired board valid old new received hand part between apart done) (λ m l at.
      let found = apart.bridges k w m l was at in
      let J : Option BridgeLane → List Item = λ f. received l ++ (at_port done.took f ++ (at_port done.refused f ++ at_port Left f)) in
      ap (λ (i : List Item). received l ++ i) (left_is had sent got kept paired board valid old new received hand part between apart done ordered l found.0 found.1) ∙ ap J (sym at)) in
      let put : ℕ → List Item = back_at_ports w (λ (l : BridgeLane). received l ++ hand l) in
      let past = (between.stands k w was).past came (λ m. at_ports w done.took m ++ rest m) behind in
      let after = one.phase.goes.goes came (part bus) rest put past in
      let same_shape = one.phase.same_shape in
      let now = ap (λ s. slice_get s.lanes n) same_shape ∙ here in
      let then_left : (lanes_known board came (part bus) lane).flight ≡ map carried (at_ports w done.took n ++ rest n) = (past.ports n lane here).left in
      let now_left : (lanes_known board came (done.later bus ++ part bus) lane).flight ≡ map carried (rest n) = (after.ports n lane now).left in
      let W : List Stamped → List Carried = λ l. (lanes_known board came (l ++ part bus) lane).flight in
      let same : map carried (at_ports w done.took n ++ rest n) ≡ map carried (rest n) = sym then_left ∙ (sym (ap W (nothing_done k w v was is one)) ∙ now_left) in
      let one_length : length (map carried (at_ports w done.took n ++ rest n)) ≡ length (at_ports w done.took n ++ rest n) = simp length-map in
      let other_length : length (map carried (rest n)) ≡ length (rest n) = simp length-map in
      let lengths = ap length same in
      let none : at_ports w done.took n ≡ [] = no_items (at_ports w done.took n) (omega (arith, one_length, other_length, lengths, length-append (at_ports w done.took n) (rest n))) in
      sym (ap (at_port done.took) here) ∙ none

  -- so nothing is in hand
  nothing_there : (k : ℕ) (w : WorkerView End) (n : ℕ) (lane : BridgeLane) → slice_get old k ≡ Some w → slice_get (shape_of w.segment.bus).lanes n ≡ Some lane → hand lane ≡ []
  nothing_there k w n lane was here =
      let found = done.each k w was in
      let v : WorkerView End = found.0 in
      let step = found.2.ends n lane here in
      let stays = going.going k v found.1 in
      let took = nothing_took k w v n lane was found.1 found.2 here in
      let refused = found.2.none_refused stays n lane here in
      let none : got step.after ≡ [] = step.got_is ∙ (ap (λ (l : List Item). l ++ done.refused lane) took ∙ refused) in
      let empty = (found.2.quiet stays (idle k w v was found.1)).nothing_in_hand n step.after step.is in
      sym (ap (λ (l : List Item). in_hand (hand lane) l) none) ∙ (ap (λ (l : List Item). in_hand l (got step.after)) (sym step.had_is) ∙ empty)

  hand_empty : (lane : BridgeLane) → hand lane ≡ []
  hand_empty lane =
      let P : Option Bridge → Type 0 = λ found. bridge_to board lane.bus ≡ found → hand lane ≡ [] in
      (elim (bridge_to board lane.bus) as P [
        | None ↦ λ missing. between.hand_there lane missing
        | Some bridge ↦ λ some.
            let found = between.are_workers.each_bus (end_of board lane) (end_is_bus board valid.buses lane bridge some) in
            let place = (between.are_workers.of_board found.0 found.1 found.2).each_lane lane bridge some (sym found.3) in
            nothing_there found.0 found.1 place.0 lane found.2 place.1
      ]) refl

  abbrev Nothing : BridgeLane → List Item
  Nothing lane = []

  retried : (bus : ℕ) → is_bus board bus ≡ true → AllGetARetry board (known_at_end carried board received hand Nothing part bus) (did_by part bus) bus
  retried bus there =
      let found = between.are_workers.each_bus bus there in
      let k : ℕ = found.0 in
      let w : WorkerView End = found.1 in
      let now = done.each k w found.2 in
      let stays = going.going k now.0 now.1 in
      let quiet = now.2.quiet stays (idle k w now.0 found.2 now.1) in
      let All : BridgeLane → List Item = put_up_to received hand Nothing in
      let rest : ℕ → List Item = λ n. at_ports w (λ l. hand l ++ []) n in
      let behind = comes_behind board w (λ n lane at. between.are_workers.ends_there k w n lane found.2 at) received All rest
      (λ lane missing. ap (λ (l : List Item). l ++ (hand lane ++ [])) (between.received_there lane missing) ∙ ap (λ (l : List Item). l ++ []) (between.hand_there lane missing))
      (λ n lane at. ap (λ (f : Option BridgeLane). received lane ++ at_port (λ l. hand l ++ []) f) (sym at)) in
      let put : ℕ → List Item = back_at_ports w (λ (l : BridgeLane). received l ++ hand l) in
      let past = (between.stands k w found.2).past (ending_on board w.segment.bus.bus All) rest behind in
      let here : AllGetARetry board (known_at_end carried board received hand Nothing part w.segment.bus.bus) (did_by part w.segment.bus.bus) w.segment.bus.bus =
      quiet.retried (ending_on board w.segment.bus.bus All) (part w.segment.bus.bus) rest put past in
      subst (λ (b : ℕ). AllGetARetry board (known_at_end carried board received hand Nothing part b) (did_by part b) b) found.3 here

  pub complete_now : Complete board (events_of (all_of old))
  complete_now =
      engine_complete carried stamp_of board received hand part (engine_between had sent got kept paired board valid old received hand part between apart) valid (all_of old)
      (merged_between had sent got kept paired board valid old received hand part between apart) hand_empty retried
