-- Who waits for held slots, in every run.
use Rattle.std.proofs.Common.{◌≡◌, ℕ, ◌≤◌, true, false, List, [], ◌∷◌, Option, Some, None, refl, sym, ap, subst, arith}
use Rattle.std.specs.List.{find, AllByRecursion}
use Rattle.list_facts.specs.Lists.{less, total}
use Rattle.list_facts.proofs.EachLemmas.{Each-push}
use Rattle.pci_command.specs.declared.op_id.OpId.{OpId}
use Rattle.pci_command.specs.declared.op_id.Outcome.{Outcome}
use Rattle.board_model.specs.declared.bridge.Lane.{Lane as BridgeLane}
use Rattle.board_model.specs.declared.bridge.Place.{Place}
use Rattle.board_model.specs.declared.bridge.Place.TheVariants.{Target, Header, Lane, Nobody}
use Rattle.board_model.specs.declared.board.Board.{Board}
use Rattle.board_model.specs.Requests.{same_requests}
use Rattle.board_model.specs.Ways.{start_of, lane_back}
use Rattle.history_model.specs.declared.event.By.{By}
use Rattle.history_model.specs.declared.event.By.TheVariants.{Master, Lane as ByLane}
use Rattle.history_model.specs.declared.event.Mark.{Mark}
use Rattle.history_model.specs.declared.event.Step.{Step}
use Rattle.history_model.specs.declared.event.Step.TheVariants.{Land, Part, Read, Accept, Latch, Take, Stall, MasterAbort, TargetAbort}
use Rattle.history_model.specs.declared.event.Event.{Event}
use Rattle.history_model.specs.declared.event.Event.TheVariants.{Act, Arrive}
use Rattle.history_model.specs.declared.item.Carried.{Carried}
use Rattle.history_model.specs.declared.item.Slot.{Slot}
use Rattle.history_model.specs.declared.item.Answer.TheVariants.{Gives}
use Rattle.history_model.specs.Lanes.{Both, has_number, lowest_free, post_enters, ask_enters, slot_taken, Effect, Stands, Credits, Frees, Drops, effect_of, takes_effect, came_off, arrives_first, arrives}
use Rattle.history_model.specs.World.{World, same_lane, both, put, moved, is_own, slot_found, enters, at_place, lane_outcome, leaves, world_of}
use Rattle.history_model.specs.Program.{turn_of, turn_after, master_outcome, ending_of, Ending}
use Rattle.history_model.specs.Answers.{wants, answer}
use Rattle.history_model.specs.Runs.{Allowed, Run}
use Rattle.law_lanes.specs.Owners.{Waits, own_count, Owners}
use Rattle.history_model.specs.Words.{through, without}
use Rattle.law_lanes.specs.Depths.{DifferentNumbers}
use Rattle.law_lanes.specs.Phases.{DelayedAreSingle}
use Rattle.law_lanes.specs.Kinds.{RightKind}
use Rattle.history_model.proofs.facts.BridgeLemmas.{same_lane_self, same_lane_back, moved_keeps, moved_gives}
use Rattle.history_model.proofs.facts.AnswerLemmas.{AtLane, answered_at}
use Rattle.history_model.proofs.facts.EqualLemmas.{same_requests-self}
use Rattle.law_lanes.proofs.ClaimLemmas.{claim_starts}
use Rattle.law_lanes.proofs.SlotsRunLemmas.{Slots-run}
use Rattle.law_lanes.proofs.KindLemmas.{RightKind-run}
use Rattle.law_lanes.proofs.OwnersMoveLemmas.{KeepsAsks, KeepsAsks-push, KeepsAsks-done, Waits-kept, LaneOwners, LaneOwners-less, moved_keeps_asks, Owners-moved}
use Rattle.law_lanes.proofs.OwnersLatchLemmas.{wants-waits, one_own-push}
use Rattle.history_model.proofs.facts.WantsLemmas.{wants-turn}
use Rattle.law_lanes.proofs.OwnersFreeLemmas.{NoneFor, lane_none_for, taken_none_for}
use Rattle.law_lanes.proofs.OwnersEndLemmas.{Owners-ended, Owners-turned}

-- an arrival keeps the delayed requests that stand first, and frees at most one slot
effect_asks : (effect : Effect) (item : Carried) (x : Both) → KeepsAsks x.here (takes_effect effect item x).here × KeepsAsks x.back (takes_effect effect item x).back
effect_asks Stands item x = (KeepsAsks-push x.here item, λ test o number some. some)
effect_asks Credits item x = (λ test o number some. some, λ test o number some. some)
effect_asks (Frees slot) item x = (λ test o number some. some, λ test o number some. some)
effect_asks (Drops slot) item x = (λ test o number some. some, λ test o number some. some)

arrives_asks : (mark : Mark) (flight : List Carried) (x : Both) → KeepsAsks x.here (arrives_first mark flight x).here × KeepsAsks x.back (arrives_first mark flight x).back
arrives_asks mark [] x = (λ test o number some. some, λ test o number some. some)
arrives_asks mark (item ∷ rest) x = effect_asks (effect_of mark item) item (record x { here = came_off item rest x.here })

module _ (board : Board) (turn : ℕ → Option OpId) (world : World) (lane : BridgeLane) where
  effect_owners : (effect : Effect) (item : Carried) (x : Both)
      → (LaneOwners board turn world lane x.here.held → LaneOwners board turn world lane (takes_effect effect item x).here.held)
      × (LaneOwners board turn world (lane_back lane) x.back.held → LaneOwners board turn world (lane_back lane) (takes_effect effect item x).back.held)
  effect_owners Stands item x = (λ owners. owners, λ owners. owners)
  effect_owners Credits item x = (λ owners. owners, λ owners. owners)
  effect_owners (Frees slot) item x = (λ owners. owners, λ owners. LaneOwners-less board turn world (lane_back lane) x.back.held slot owners)
  effect_owners (Drops slot) item x = (λ owners. owners, λ owners. owners)

  arrives_owners : (mark : Mark) (flight : List Carried) (x : Both)
      → (LaneOwners board turn world lane x.here.held → LaneOwners board turn world lane (arrives_first mark flight x).here.held)
      × (LaneOwners board turn world (lane_back lane) x.back.held → LaneOwners board turn world (lane_back lane) (arrives_first mark flight x).back.held)
  arrives_owners mark [] x = (λ owners. owners, λ owners. owners)
  arrives_owners mark (item ∷ rest) x = effect_owners (effect_of mark item) item (record x { here = came_off item rest x.here })

-- a step after which the operation is over at its initiator
abbrev Ends : Step → Type 0
Ends Land = Unit {0}
Ends (Part phases) = ⊥
Ends (Read value) = Unit {0}
Ends Accept = Unit {0}
Ends Latch = ⊥
Ends (Take outcome) = Unit {0}
Ends Stall = ⊥
Ends MasterAbort = Unit {0}
Ends TargetAbort = Unit {0}

master_ends : (step : Step) (outcome : Outcome) → master_outcome step ≡ Some outcome → Ends step
master_ends Land outcome is = tt
master_ends (Part phases) outcome is = cc
master_ends (Read value) outcome is = tt
master_ends Accept outcome is = tt
master_ends Latch outcome is = cc
master_ends (Take given) outcome is = tt
master_ends Stall outcome is = cc
master_ends MasterAbort outcome is = tt
master_ends TargetAbort outcome is = tt

lane_ends : (board : Board) (lane : BridgeLane) (o : OpId) (step : Step) (outcome : Outcome) → lane_outcome board lane o step ≡ Some outcome → Ends step
lane_ends board lane o Land outcome is = tt
lane_ends board lane o (Part phases) outcome is = cc
lane_ends board lane o (Read value) outcome is = tt
lane_ends board lane o Accept outcome is = tt
lane_ends board lane o Latch outcome is = cc
lane_ends board lane o (Take given) outcome is = tt
lane_ends board lane o Stall outcome is = cc
lane_ends board lane o MasterAbort outcome is = tt
lane_ends board lane o TargetAbort outcome is = tt

module _ (board : Board) (distinct : DifferentNumbers board) (single : DelayedAreSingle board) where
  -- who waits after what the event did where it was claimed
  enters_owners : (h : List Event) (on : ℕ) (by : By) (o : OpId) (step : Step) (lane : BridgeLane)
      → Run board h → wants board h on by o ≡ true → AtLane board h on by o step lane
      → Owners board (turn_of board h) (world_of board h) → Owners board (turn_of board h) (moved (enters board on by o step) lane (world_of board h))
  enters_owners h on by o Land lane run wanted at old = absurd at.gives
  enters_owners h on by o (Part phases) lane run wanted at old = absurd at.gives
  enters_owners h on by o (Read value) lane run wanted at old = absurd at.gives
  enters_owners h on by o Accept lane run wanted at old =
      Owners-moved board (turn_of board h) (post_enters o) lane (world_of board h) (λ test p number some. some) (λ test p number some. some) (λ owners. owners) (λ owners. owners) old
  enters_owners h on by o Latch lane run wanted at old =
      let world : World = world_of board h in
      let turn : ℕ → Option OpId = turn_of board h in
      let held : List Slot = (world lane).held in
      let slot : Slot = record { number = lowest_free held; by = by; op = o } in
      let new : World = moved (ask_enters by o) lane world in
      let bus : on ≡ start_of board lane = sym (claim_starts board on (without (through h o) at.request) lane distinct at.claims) in
      let right : (l : BridgeLane) → AllByRecursion (RightKind board) (world l).standing = λ l. (RightKind-run board h l run).1 in
      let waits : Waits board turn new on by o =
      Waits-kept board turn world new on by o (moved_keeps_asks (ask_enters by o) lane world (λ test p number some. some) (λ test p number some. some))
      (wants-waits board h on by o at.request right at.is_request at.gives.0 wanted) in
      let W : ℕ → Type 0 = λ b. Waits board turn new b by o in
      let N : ℕ → Type 0 = λ b. find (is_own board b by o) held ≡ None in
      Owners-moved board turn (ask_enters by o) lane world (λ test p number some. some) (λ test p number some. some)
      (λ owners. record {
        waits = Each-push (λ (s : Slot). Waits board turn new (start_of board lane) s.by s.op) held slot owners.waits (subst W bus waits);
        one_own = one_own-push board (start_of board lane) held slot (subst N bus at.gives.1) owners.one_own;
      }) (λ owners. owners) old
  enters_owners h on by o (Take outcome) lane run wanted at old =
      let world : World = world_of board h in
      let turn : ℕ → Option OpId = turn_of board h in
      let taken = at.gives.1 in
      let F : Option Slot → Type 0 = λ own. Owners board turn (put world lane (slot_found own (both world lane))) in
      let number : ℕ = taken.slot.number in
      let new : World = moved (slot_taken number) lane world in
      subst F (sym taken.is_own_slot)
      (Owners-moved board turn (slot_taken number) lane world (λ test p slot some. some) (KeepsAsks-done (world (lane_back lane)) number)
      (LaneOwners-less board turn new lane (world lane).held number) (λ owners. owners) old)
  enters_owners h on by o Stall lane run wanted at old = absurd at.gives
  enters_owners h on by o MasterAbort lane run wanted at old = absurd at.gives
  enters_owners h on by o TargetAbort lane run wanted at old = absurd at.gives

  place_owners : (h : List Event) (on : ℕ) (by : By) (o : OpId) (step : Step) (place : Place)
      → Run board h → wants board h on by o ≡ true → answer board h on by o ≡ Gives step place
      → Owners board (turn_of board h) (world_of board h) → Owners board (turn_of board h) (at_place board on by o step place (world_of board h))
  place_owners h on by o step (Target target) run wanted gives old = old
  place_owners h on by o step (Header bus) run wanted gives old = old
  place_owners h on by o step (Lane lane) run wanted gives old = enters_owners h on by o step lane run wanted (answered_at board h on by o step lane gives) old
  place_owners h on by o step Nobody run wanted gives old = old

  -- no slot is held for an operation that is over
  enters_none : (h : List Event) (on : ℕ) (by : By) (o : OpId) (step : Step) (lane : BridgeLane)
      → Run board h → wants board h on by o ≡ true → answer board h on by o ≡ Gives step (Lane lane) → AtLane board h on by o step lane → Ends step
      → Owners board (turn_of board h) (world_of board h) → (l : BridgeLane) → NoneFor by o (moved (enters board on by o step) lane (world_of board h) l).held
  enters_none h on by o Land lane run wanted gives at over old = absurd at.gives
  enters_none h on by o (Part phases) lane run wanted gives at over old = absurd at.gives
  enters_none h on by o (Read value) lane run wanted gives at over old = absurd at.gives
  enters_none h on by o Accept lane run wanted gives at over old =
      let none : (l : BridgeLane) → NoneFor by o (world_of board h l).held = λ l. lane_none_for board h on by o l Accept (Lane lane) distinct single run wanted gives (λ outcome e _. cc) in
      let P : BridgeLane → Both → Type 0 = λ l x. NoneFor by o x.here.held in
      moved_keeps P (post_enters o) lane (world_of board h) none (none lane) (none (lane_back lane))
  enters_none h on by o Latch lane run wanted gives at over old = absurd over
  enters_none h on by o (Take outcome) lane run wanted gives at over old =
      let world : World = world_of board h in
      let taken = at.gives.1 in
      let number : ℕ = taken.slot.number in
      let P : BridgeLane → Both → Type 0 = λ l x. NoneFor by o x.here.held in
      let F : Option Slot → Type 0 = λ own. (l : BridgeLane) → NoneFor by o (put world lane (slot_found own (both world lane)) l).held in
      let none : (l : BridgeLane) → same_lane l lane ≡ false → NoneFor by o (world l).held =
      λ l apart. lane_none_for board h on by o l (Take outcome) (Lane lane) distinct single run wanted gives
      (λ given _ place.
      let one : lane ≡ l = cc in
      let self = same_lane_self lane in
      let G : BridgeLane → Type 0 = λ m. same_lane m lane ≡ true in
      let same : same_lane l lane ≡ true = subst G one self in
      cc) in
      let self : same_requests board on o o ≡ true = same_requests-self board on o at.request at.is_request in
      let C : ℕ → Type 0 = λ b. total (own_count board b by o) (world lane).held ≤ 1 in
      let one : total (own_count board on by o) (world lane).held ≤ 1 = subst C (claim_starts board on (without (through h o) at.request) lane distinct at.claims) (old.one_own lane by o) in
      let slots = Slots-run board h lane run in
      let here : NoneFor by o (less (has_number number) (world lane).held) = taken_none_for board on by o taken.slot (world lane).held self slots.once one taken.is_own_slot in
      subst F (sym taken.is_own_slot) (moved_gives P (slot_taken number) lane world none here (none (lane_back lane) (same_lane_back lane)))
  enters_none h on by o Stall lane run wanted gives at over old = absurd over
  enters_none h on by o MasterAbort lane run wanted gives at over old = absurd at.gives
  enters_none h on by o TargetAbort lane run wanted gives at over old = absurd at.gives

  place_none : (h : List Event) (on : ℕ) (by : By) (o : OpId) (step : Step) (place : Place)
      → Run board h → wants board h on by o ≡ true → answer board h on by o ≡ Gives step place → Ends step
      → Owners board (turn_of board h) (world_of board h) → (l : BridgeLane) → NoneFor by o (at_place board on by o step place (world_of board h) l).held
  place_none h on by o step (Target target) run wanted gives over old l = lane_none_for board h on by o l step (Target target) distinct single run wanted gives (λ outcome _ e. cc)
  place_none h on by o step (Header bus) run wanted gives over old l = lane_none_for board h on by o l step (Header bus) distinct single run wanted gives (λ outcome _ e. cc)
  place_none h on by o step (Lane lane) run wanted gives over old l = enters_none h on by o step lane run wanted gives (answered_at board h on by o step lane gives) over old l
  place_none h on by o step Nobody run wanted gives over old l = lane_none_for board h on by o l step Nobody distinct single run wanted gives (λ outcome _ e. cc)

  -- who waits after the operation was over, or was not, at its initiator
  leaves_owners : (turn : ℕ → Option OpId) (world : World) (lane : BridgeLane) (o : OpId) (outcome : Option Outcome)
      → ((given : Outcome) → outcome ≡ Some given → (l : BridgeLane) → NoneFor (ByLane lane) o (world l).held) → Owners board turn world → Owners board turn (leaves lane o outcome world)
  leaves_owners turn world lane o None none old = old
  leaves_owners turn world lane o (Some outcome) none old = Owners-ended board turn lane o outcome world (none outcome refl) old

  turned_owners : (turn : ℕ → Option OpId) (world : World) (o : OpId) (outcome : Option Outcome) → turn o.master ≡ Some o
      → ((given : Outcome) → outcome ≡ Some given → (l : BridgeLane) → NoneFor Master o (world l).held)
      → Owners board turn world → Owners board (λ master. turn_after board master (turn master) (ending_of o outcome)) world
  turned_owners turn world o None is none old = old
  turned_owners turn world o (Some outcome) is none old =
      let ending : Ending = record { op = o; outcome = outcome } in
      Owners-turned board turn world o (Some ending) is (λ e same. let one : ending ≡ e = cc in sym (ap (λ (f : Ending). f.op) one)) (none outcome refl) old

  act_owners : (h : List Event) (on : ℕ) (by : By) (o : OpId) (step : Step) (place : Place)
      → Run board h → Allowed board h (Act on by o step place)
      → Owners board (turn_of board h) (world_of board h) → Owners board (turn_of board (Act on by o step place ∷ h)) (world_of board (Act on by o step place ∷ h))
  act_owners h on Master o step place run allowed old =
      let world : World = at_place board on Master o step place (world_of board h) in
      turned_owners (turn_of board h) world o (master_outcome step) (wants-turn board h on o allowed.0)
      (λ given is. place_none h on Master o step place run allowed.0 allowed.1 (master_ends step given is) old)
      (place_owners h on Master o step place run allowed.0 allowed.1 old)
  act_owners h on (ByLane lane) o step place run allowed old =
      let world : World = at_place board on (ByLane lane) o step place (world_of board h) in
      leaves_owners (turn_of board h) world lane o (lane_outcome board lane o step)
      (λ given is. place_none h on (ByLane lane) o step place run allowed.0 allowed.1 (lane_ends board lane o step given is) old)
      (place_owners h on (ByLane lane) o step place run allowed.0 allowed.1 old)

  event_owners : (h : List Event) (e : Event) → Run board h → Allowed board h e
      → Owners board (turn_of board h) (world_of board h) → Owners board (turn_of board (e ∷ h)) (world_of board (e ∷ h))
  event_owners h (Act on by o step place) run allowed old = act_owners h on by o step place run allowed old
  event_owners h (Arrive lane mark) run allowed old =
      let world : World = world_of board h in
      let x : Both = both world lane in
      let asks = arrives_asks mark x.here.flight x in
      let owners = arrives_owners board (turn_of board h) (moved (arrives mark) lane world) lane mark x.here.flight x in
      Owners-moved board (turn_of board h) (arrives mark) lane world asks.0 asks.1 owners.0 owners.1 old

  pub Owners-run : (h : List Event) → Run board h → Owners board (turn_of board h) (world_of board h)
  Owners-run [] run = record { waits = λ lane. tt; one_own = λ lane by o. omega arith }
  Owners-run (e ∷ h) run = event_owners h e run.1 run.0 (Owners-run h run.1)
