-- The held slots are those latched and not freed, in every run.
use Rattle.std.proofs.Common.{◌≡◌, ℕ, ◌+◌, Bool, true, false, cond, List, [], ◌∷◌, length, Option, Some, None, is_some, refl, sym, ap, subst, ◌∙◌, length-append, arith}
use Rattle.std.specs.List.{find, AllByRecursion}
use Rattle.std.proofs.lemmas.Bool.Decides.{nat_tests}
use Rattle.list_facts.specs.Lists.{less}
use Rattle.list_facts.proofs.EachLemmas.{Each-find}
use Rattle.pci_command.specs.declared.op_id.OpId.{OpId}
use Rattle.pci_command.specs.declared.op_id.Outcome.{Outcome}
use Rattle.board_model.specs.declared.bridge.Lane.{Lane as BridgeLane}
use Rattle.board_model.specs.declared.bridge.Place.{Place}
use Rattle.board_model.specs.declared.bridge.Place.TheVariants.{Target, Header, Lane, Nobody}
use Rattle.board_model.specs.declared.board.Board.{Board}
use Rattle.history_model.specs.declared.event.By.{By}
use Rattle.history_model.specs.declared.event.By.TheVariants.{Master, Lane as ByLane}
use Rattle.history_model.specs.declared.event.Mark.{Mark}
use Rattle.history_model.specs.declared.event.Mark.TheVariants.{Plain, Discard, Drop}
use Rattle.history_model.specs.declared.event.Step.{Step}
use Rattle.history_model.specs.declared.event.Step.TheVariants.{Land, Part, Read, Accept, Latch, Take, Stall, MasterAbort, TargetAbort}
use Rattle.history_model.specs.declared.event.Event.{Event}
use Rattle.history_model.specs.declared.event.Event.TheVariants.{Act, Arrive}
use Rattle.history_model.specs.declared.item.Carried.{Carried}
use Rattle.history_model.specs.declared.item.Carried.TheVariants.{Post, Ask, Done, Room, Gone}
use Rattle.history_model.specs.declared.item.Slot.{Slot}
use Rattle.history_model.specs.declared.item.Answer.TheVariants.{Gives}
use Rattle.history_model.specs.Lanes.{LaneState, Both, has_number, lowest_free, item_ends, Effect, Stands, Credits, Frees, Drops, effect_on_ask, effect_on_done, effect_of, takes_effect, came_off, arrives_first, arrives}
use Rattle.history_model.specs.World.{World, same_lane, both, is_own, slot_found, enters, at_place, lane_outcome, leaves, at_initiator, world_of}
use Rattle.board_model.specs.Ways.{lane_back}
use Rattle.history_model.specs.Answers.{answer}
use Rattle.history_model.specs.Runs.{Allowed, Run}
use Rattle.law_lanes.specs.Slots.{DoneNamed, GoneHeld}
use Rattle.history_model.proofs.facts.BridgeLemmas.{lane_back_back, same_lane_self, same_lane_back, same_lane_symm}
use Rattle.history_model.proofs.facts.AnswerLemmas.{AtLane, answered_at}
use Rattle.list_facts.proofs.FoundLemmas.{Each-found}
use Rattle.law_lanes.proofs.Laws.{Slots-run, GoneHeld-each}
use Rattle.law_lanes.specs.order.Counts.{one_at, latched_by, latched_in, latched, taken_by, freed_by, freed_first, freed_in, freed}
use Rattle.history_model.proofs.facts.MovedLemmas.{moved_each}
use Rattle.law_lanes.proofs.order.OrderLemmas.{back_apart}

-- where one is found, one less is left
length-less_found : {X : Type 0} (test : X → Bool) (xs : List X) → is_some (find test xs) ≡ true → length (less test xs) + 1 ≡ length xs
length-less_found test [] found = cc
length-less_found test (x ∷ xs) found =
    let P : Bool → Type 0 = λ b. is_some (cond b (Some x) (find test xs)) ≡ true → length (cond b xs (x ∷ less test xs)) + 1 ≡ length (x ∷ xs) in
    (elim (test x) as P [ true ↦ λ _. omega arith | false ↦ λ e. omega (arith, length-less_found test xs e) ]) found

-- a slot that is found in any way is found by its number
by_number : (test : Slot → Bool) (held : List Slot) (slot : Slot) → find test held ≡ Some slot → is_some (find (has_number slot.number) held) ≡ true
by_number test held slot some =
    let number : ℕ = slot.number in
    let self : has_number number slot ≡ true = grind (arith, nat_tests) in
    Each-find (λ (s : Slot). has_number number s ≡ true → is_some (find (has_number number) held) ≡ true) test held slot (Each-found (has_number number) held) some self

latched_none : (l : BridgeLane) (step : Step) (place : Place) → one_at l place ≡ 0 → latched_by l step place ≡ 0
latched_none l Land place none = refl
latched_none l (Part phases) place none = refl
latched_none l (Read value) place none = refl
latched_none l Accept place none = refl
latched_none l Latch place none = none
latched_none l (Take outcome) place none = refl
latched_none l Stall place none = refl
latched_none l MasterAbort place none = refl
latched_none l TargetAbort place none = refl

taken_none : (l : BridgeLane) (step : Step) (place : Place) → one_at l place ≡ 0 → taken_by l step place ≡ 0
taken_none l Land place none = refl
taken_none l (Part phases) place none = refl
taken_none l (Read value) place none = refl
taken_none l Accept place none = refl
taken_none l Latch place none = refl
taken_none l (Take outcome) place none = none
taken_none l Stall place none = refl
taken_none l MasterAbort place none = refl
taken_none l TargetAbort place none = refl

one_here : (l : BridgeLane) → one_at l (Lane l) ≡ 1
one_here l = let self = same_lane_self l in rw self refl

one_apart : (at l : BridgeLane) → same_lane at l ≡ false → one_at l (Lane at) ≡ 0
one_apart at l apart = rw apart refl

-- the slots of a lane after a step at the place
abbrev Counted : World → Step → Place → BridgeLane → LaneState → Type 0
Counted world step place l s = length s.held + taken_by l step place ≡ latched_by l step place + length (world l).held

same_count : (world : World) (step : Step) (place : Place) (l : BridgeLane) (s : LaneState) → s.held ≡ (world l).held → one_at l place ≡ 0 → Counted world step place l s
same_count world step place l s same none =
    omega (arith, ap (λ (held : List Slot). length held) same, latched_none l step place none, taken_none l step place none)

module _ (board : Board) (h : List Event) where
  enters_counts : (on : ℕ) (by : By) (o : OpId) (step : Step) (lane : BridgeLane) → AtLane board h on by o step lane
      → Counted (world_of board h) step (Lane lane) lane (enters board on by o step (both (world_of board h) lane)).here
      × ((enters board on by o step (both (world_of board h) lane)).back.held ≡ (world_of board h (lane_back lane)).held)
  enters_counts on by o Land lane at = absurd at.gives
  enters_counts on by o (Part phases) lane at = absurd at.gives
  enters_counts on by o (Read value) lane at = absurd at.gives
  enters_counts on by o Accept lane at = (omega arith, refl)
  enters_counts on by o Latch lane at =
      let held : List Slot = (world_of board h lane).held in
      let slot : Slot = record { number = lowest_free held; by = by; op = o } in
      (omega (arith, length-append held (slot ∷ []), one_here lane), refl)
  enters_counts on by o (Take outcome) lane at =
      let x : Both = both (world_of board h) lane in
      let taken = at.gives.1 in
      let slot : Slot = taken.slot in
      let Goal : Option Slot → Type 0 = λ own. (length (slot_found own x).here.held + one_at lane (Lane lane) ≡ length x.here.held) × ((slot_found own x).back.held ≡ x.back.held) in
      let found = by_number (is_own board on by o) x.here.held slot taken.is_own_slot in
      let there : Goal (Some slot) = (omega (arith, length-less_found (has_number slot.number) x.here.held found, one_here lane), refl) in
      let new : Goal (find (is_own board on by o) x.here.held) = subst Goal (sym taken.is_own_slot) there in
      (omega (arith, new.0), new.1)
  enters_counts on by o Stall lane at = absurd at.gives
  enters_counts on by o MasterAbort lane at = absurd at.gives
  enters_counts on by o TargetAbort lane at = absurd at.gives

  place_counts : (on : ℕ) (by : By) (o : OpId) (step : Step) (place : Place) → answer board h on by o ≡ Gives step place
      → (l : BridgeLane) → Counted (world_of board h) step place l (at_place board on by o step place (world_of board h) l)
  place_counts on by o step (Target target) gives l = same_count (world_of board h) step (Target target) l (world_of board h l) refl refl
  place_counts on by o step (Header bus) gives l = same_count (world_of board h) step (Header bus) l (world_of board h l) refl refl
  place_counts on by o step (Lane lane) gives l =
      let world : World = world_of board h in
      let new = enters_counts on by o step lane (answered_at board h on by o step lane gives) in
      let x : Both = enters board on by o step (both world lane) in
      let back : BridgeLane = lane_back lane in
      moved_each (Counted world step (Lane lane)) (enters board on by o step) lane world
      (λ l far _. same_count world step (Lane lane) l (world l) refl (one_apart lane l (same_lane_symm lane l ∙ far)))
      new.0
      (same_count world step (Lane lane) back x.back new.1 (one_apart lane back (back_apart lane)))
      l
  place_counts on by o step Nobody gives l = same_count (world_of board h) step Nobody l (world_of board h l) refl refl

-- the initiator's part changes no slot
leaves_held : (k : BridgeLane) (o : OpId) (outcome : Option Outcome) (world : World) (l : BridgeLane) → (leaves k o outcome world l).held ≡ (world l).held
leaves_held k o None world l = refl
leaves_held k o (Some outcome) world l = moved_each (λ l s. s.held ≡ (world l).held) (item_ends o outcome) k world (λ l _ _. refl) refl refl l

initiator_held : (board : Board) (by : By) (o : OpId) (step : Step) (world : World) (l : BridgeLane) → (at_initiator board by o step world l).held ≡ (world l).held
initiator_held board Master o step world l = refl
initiator_held board (ByLane k) o step world l = leaves_held k o (lane_outcome board k o step) world l

-- a slot that an arrival frees is held
abbrev FreesHeld : List Slot → Effect → Type 0
FreesHeld held Stands = Unit {0}
FreesHeld held Credits = Unit {0}
FreesHeld held (Frees slot) = is_some (find (has_number slot) held) ≡ true
FreesHeld held (Drops slot) = Unit {0}

done_frees : (mark : Mark) (held : List Slot) (slot : ℕ) → is_some (find (has_number slot) held) ≡ true → FreesHeld held (effect_on_done mark slot)
done_frees Plain held slot is = tt
done_frees Discard held slot is = is
done_frees Drop held slot is = tt

ask_frees : (mark : Mark) (held : List Slot) (slot : ℕ) → FreesHeld held (effect_on_ask mark slot)
ask_frees Plain held slot = tt
ask_frees Discard held slot = tt
ask_frees Drop held slot = tt

frees_held : (mark : Mark) (held : List Slot) (item : Carried) → DoneNamed held item → GoneHeld held item → FreesHeld held (effect_of mark item)
frees_held mark held (Post op) done gone = tt
frees_held mark held (Ask op slot) done gone = ask_frees mark held slot
frees_held mark held (Done op slot outcome) done gone = done_frees mark held slot (ap (λ (s : Option Slot). is_some s) done.is_held)
frees_held mark held Room done gone = tt
frees_held mark held (Gone slot) done gone = gone

effect_counts : (effect : Effect) (item : Carried) (x : Both) → FreesHeld x.back.held effect
    → ((takes_effect effect item x).here.held ≡ x.here.held) × (length (takes_effect effect item x).back.held + freed_by effect ≡ length x.back.held)
effect_counts Stands item x held = (refl, omega arith)
effect_counts Credits item x held = (refl, omega arith)
effect_counts (Frees slot) item x held = (refl, length-less_found (has_number slot) x.back.held held)
effect_counts (Drops slot) item x held = (refl, omega arith)

first_counts : (mark : Mark) (flight : List Carried) (x : Both) → AllByRecursion (DoneNamed x.back.held) flight → AllByRecursion (GoneHeld x.back.held) flight
    → ((arrives_first mark flight x).here.held ≡ x.here.held) × (length (arrives_first mark flight x).back.held + freed_first mark flight ≡ length x.back.held)
first_counts mark [] x dones gones = (refl, omega arith)
first_counts mark (item ∷ rest) x dones gones =
    effect_counts (effect_of mark item) item (record x { here = came_off item rest x.here }) (frees_held mark x.back.held item dones.0 gones.0)

frees_apart : (world : World) (at l : BridgeLane) (mark : Mark) → same_lane (lane_back at) l ≡ false → freed_in world l (Arrive at mark) ≡ 0
frees_apart world at l mark apart = rw apart refl

frees_here : (world : World) (at : BridgeLane) (mark : Mark) → freed_in world (lane_back at) (Arrive at mark) ≡ freed_first mark (world at).flight
frees_here world at mark = let self = same_lane_self (lane_back at) in rw self refl

arrival_counts : (board : Board) (h : List Event) (at : BridgeLane) (mark : Mark) → Run board h
    → (l : BridgeLane) → length (world_of board (Arrive at mark ∷ h) l).held + freed_in (world_of board h) l (Arrive at mark) ≡ length (world_of board h l).held
arrival_counts board h at mark run l =
    let world : World = world_of board h in
    let x : Both = both world at in
    let y : Both = arrives mark x in
    let back : BridgeLane = lane_back at in
    let P : BridgeLane → LaneState → Type 0 = λ l s. length s.held + freed_in world l (Arrive at mark) ≡ length (world l).held in
    let slots = Slots-run board h back run in
    let twice : lane_back back ≡ at = lane_back_back at in
    let dones = subst (λ k. AllByRecursion (DoneNamed (world back).held) (world k).flight) twice slots.dones_flying in
    let gones = subst (λ k. AllByRecursion (GoneHeld (world back).held) (world k).flight) twice (GoneHeld-each (both world back) slots) in
    let new = first_counts mark (world at).flight x dones gones in
    moved_each P (arrives mark) at world
    (λ l _ far. omega (arith, frees_apart world at l mark (same_lane_symm back l ∙ far)))
    (omega (arith, ap (λ (held : List Slot). length held) new.0, frees_apart world at at mark (same_lane_back at)))
    (omega (arith, new.1, frees_here world at mark))
    l

event_counts : (board : Board) (h : List Event) (e : Event) → Run board h → Allowed board h e
    → (l : BridgeLane) → length (world_of board (e ∷ h) l).held + freed_in (world_of board h) l e ≡ latched_in l e + length (world_of board h l).held
event_counts board h (Act on by o step place) run allowed l =
    let new : World = at_place board on by o step place (world_of board h) in
    omega (arith, place_counts board h on by o step place allowed.1 l, ap (λ (held : List Slot). length held) (initiator_held board by o step new l))
event_counts board h (Arrive at mark) run allowed l = omega (arith, arrival_counts board h at mark run l)

pub held_counted : (board : Board) (h : List Event) (l : BridgeLane) → Run board h → length (world_of board h l).held + freed board l h ≡ latched l h
held_counted board [] l run = refl
held_counted board (e ∷ h) l run = omega (arith, held_counted board h l run.1, event_counts board h e run.1 run.0 l)
