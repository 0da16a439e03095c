-- Where the rest of a write in memory waits that went through in part, in every run.
use Rattle.std.proofs.Common.{◌≡◌, ℕ, zero, suc, ◌+◌, ◌≤◌, Bool, true, false, ◌&&◌, ◌==◌, cond, eqb, List, [], ◌∷◌, ◌++◌, Option, Some, None, is_some, refl, sym, ap, subst, ◌∙◌, arith, slice_get, append-nil}
use Rattle.std.proofs.lemmas.Bool.Decides.{nat_tests}
use Rattle.std.proofs.lemmas.Bool.{and_parts}
use Rattle.list_facts.specs.Lists.{less}
use Rattle.pci_command.specs.declared.op_id.OpId.{OpId}
use Rattle.pci_command.specs.declared.op_id.Outcome.{Outcome}
use Rattle.pci_command.specs.Same.{same_op}
use Rattle.board_model.specs.declared.agents.Master.{Master as MasterAgent}
use Rattle.board_model.specs.declared.bridge.Lane.{Lane as BridgeLane}
use Rattle.board_model.specs.declared.bridge.Place.{Place}
use Rattle.board_model.specs.declared.board.Board.{Board}
use Rattle.board_model.specs.declared.op.Op.{Op}
use Rattle.board_model.specs.Requests.{op_of, request_on}
use Rattle.board_model.specs.Ways.{end_of}
use Rattle.history_model.specs.declared.event.By.{By}
use Rattle.history_model.specs.declared.event.By.TheVariants.{Master, Lane as ByLane}
use Rattle.history_model.specs.declared.event.Mark.{Mark}
use Rattle.history_model.specs.declared.event.Step.{Step}
use Rattle.history_model.specs.declared.event.Step.TheVariants.{Land, Part, Read, Accept, Latch, Take, Stall, MasterAbort, TargetAbort}
use Rattle.history_model.specs.declared.event.Event.{Event}
use Rattle.history_model.specs.declared.event.Event.TheVariants.{Act, Arrive}
use Rattle.history_model.specs.declared.item.Carried.{Carried}
use Rattle.history_model.specs.declared.item.Answer.TheVariants.{Gives}
use Rattle.history_model.specs.Lanes.{Both, is_of, Effect, Stands, Credits, Frees, Drops, effect_of, takes_effect, came_off, arrives_first, arrives}
use Rattle.history_model.specs.World.{World, same_lane, both, lane_outcome, moved, world_of}
use Rattle.history_model.specs.Program.{turn_of, ending_of, master_outcome, turn_after}
use Rattle.history_model.specs.Words.{phases_parted, parted_by, through}
use Rattle.history_model.specs.Answers.{wants, answer, presents}
use Rattle.history_model.specs.Runs.{Allowed, Run}
use Rattle.history_model.proofs.facts.BridgeLemmas.{same_lane_true}
use Rattle.law_lanes.proofs.Laws.{RightKind-run, wants-at}
use Rattle.history_model.proofs.facts.WantsLemmas.{wants-turn, master_bus}
use Rattle.history_model.proofs.facts.RequestLemmas.{same_op_true, same_op_self}
use Rattle.law_lanes.specs.order.Order.{posts, is_posted_op, leaves_by}
use Rattle.law_lanes.specs.order.One.{times, lands_from_master, lands_from_lane}
use Rattle.law_lanes.specs.order.OnWay.{WritesHaveOneClaimant}
use Rattle.law_lanes.specs.order.Parts.{WritesAbortWhole, HasWord, PartsAt, at_master, at_lane, landed}
use Rattle.history_model.proofs.facts.MovedLemmas.{moved_each}
use Rattle.law_lanes.proofs.order.PostLemmas.{posts-append, posts-less_first}
use Rattle.std.proofs.lemmas.Bool.{and_parts}
use Rattle.law_lanes.proofs.order.OrderRunLemmas.{act_stands}
use Rattle.law_lanes.proofs.order.WordLemmas.{OnlyTakes, takes_only, part_word}

-- what stands after an arrival is what stood, and perhaps one more
record More (old new : List Carried) : Type 0 where
  added : List OpId
  is : posts new ≡ posts old ++ added

no_more : (xs : List Carried) → More xs xs
no_more xs = record { added = []; is = sym (append-nil (posts xs)) }

effect_more : (effect : Effect) (item : Carried) (x : Both) → More x.here.standing (takes_effect effect item x).here.standing × More x.back.standing (takes_effect effect item x).back.standing
effect_more Stands item x = (record { added = posts (item ∷ []); is = posts-append x.here.standing (item ∷ []) }, no_more x.back.standing)
effect_more Credits item x = (no_more x.here.standing, no_more x.back.standing)
effect_more (Frees slot) item x = (no_more x.here.standing, no_more x.back.standing)
effect_more (Drops slot) item x = (no_more x.here.standing, no_more x.back.standing)

first_more : (mark : Mark) (flight : List Carried) (x : Both) → More x.here.standing (arrives_first mark flight x).here.standing × More x.back.standing (arrives_first mark flight x).back.standing
first_more mark [] x = (no_more x.here.standing, no_more x.back.standing)
first_more mark (item ∷ rest) x = effect_more (effect_of mark item) item (record x { here = came_off item rest x.here })

arrival_more : (world : World) (lane : BridgeLane) (mark : Mark) (l : BridgeLane) → More (world l).standing (moved (arrives mark) lane world l).standing
arrival_more world lane mark l =
    let x : Both = both world lane in
    let new = first_more mark (world lane).flight x in
    moved_each (λ l s. More (world l).standing s.standing) (arrives mark) lane world (λ l _ _. no_more (world l).standing) new.0 new.1 l

still_first : (o : OpId) (later added : List OpId) (xs ys : List Carried) → posts xs ≡ o ∷ later → posts ys ≡ posts xs ++ added → posts ys ≡ o ∷ (later ++ added)
still_first o later added xs ys first more = more ∙ ap (λ z. z ++ added) first

-- an event that ends no operation of the master, or none of its own, leaves its turn
turn_stays : (board : Board) (master : ℕ) (turn : Option OpId) (p : OpId) (outcome : Option Outcome) → eqb p.master master ≡ false → turn_after board master turn (ending_of p outcome) ≡ turn
turn_stays board master turn p None apart = refl
turn_stays board master turn p (Some outcome) apart = rw apart refl

module _ (board : Board) (o : OpId) (op : Op) (master : MasterAgent) (one : WritesHaveOneClaimant board) (alike : WritesAbortWhole board)
    (is_op : op_of board o ≡ Some op) (is_master : slice_get board.masters o.master ≡ Some master) (posted : is_posted_op board o ≡ true) where
  abbrev Where : List Event → Type 0
  Where h = PartsAt board h o op master.bus

  -- at its master: the next step
  own_step : (h : List Event) (on : ℕ) (step : Step) (place : Place) → OnlyTakes step → turn_of board h o.master ≡ Some o → HasWord board master.bus (request_on op master.bus) → Where (Act on Master o step place ∷ h)
  own_step h on Land place takes turn word =
      let self = same_op_self o in
      let one_more : 1 ≤ cond (same_op o o) 1 0 + times (lands_from_master o) h + times (lands_from_lane o) h = rw self (omega arith) in
      landed (omega (arith, one_more))
  own_step h on (Part phases) place takes turn word = at_master turn word
  own_step h on (Read value) place takes turn word = absurd takes
  own_step h on Accept place takes turn word = absurd takes
  own_step h on Latch place takes turn word = absurd takes
  own_step h on (Take outcome) place takes turn word = absurd takes
  own_step h on Stall place takes turn word = at_master turn word
  own_step h on MasterAbort place takes turn word = absurd takes
  own_step h on TargetAbort place takes turn word = absurd takes

  own_bus : (h : List Event) (on : ℕ) → wants board h on Master o ≡ true → on ≡ master.bus
  own_bus h on wanted = master_bus on (slice_get board.masters o.master) master is_master (wants-at board h on Master o wanted)

  master_act : (h : List Event) (on : ℕ) (p : OpId) (step : Step) (place : Place) → Run board h → Allowed board h (Act on Master p step place)
      → turn_of board h o.master ≡ Some o → HasWord board master.bus (request_on op master.bus) → Where (Act on Master p step place ∷ h)
  master_act h on p step place run allowed turn word =
      let P : Bool → Type 0 = λ b. eqb p.master o.master ≡ b → Where (Act on Master p step place ∷ h) in
      (elim (eqb p.master o.master) as P [
        | true ↦ λ same.
            let masters : p.master ≡ o.master = grind (arith, nat_tests) in
            let its : turn_of board h o.master ≡ Some p = ap (turn_of board h) (sym masters) ∙ wants-turn board h on p allowed.0 in
            let is : p ≡ o = let somes : Some p ≡ Some o = sym its ∙ turn in cc in
            let wanted : wants board h on Master o ≡ true = subst (λ q. wants board h on Master q ≡ true) is allowed.0 in
            let given : answer board h on Master o ≡ Gives step place = subst (λ q. answer board h on Master q ≡ Gives step place) is allowed.1 in
            let bus : on ≡ master.bus = own_bus h on wanted in
            let word_on : HasWord board on (request_on op on) = subst (λ n. HasWord board n (request_on op n)) (sym bus) word in
            let takes : OnlyTakes step = takes_only board o op one alike is_op posted h on Master step place run word_on given in
            subst (λ q. Where (Act on Master q step place ∷ h)) (sym is) (own_step h on step place takes turn word)
        | false ↦ λ apart. at_master (turn_stays board o.master (turn_of board h o.master) p (master_outcome step) apart ∙ turn) word
      ]) refl

  -- at the end of a lane: it leaves, or stays the oldest
  lane_step : (h : List Event) (on : ℕ) (k : BridgeLane) (step : Step) (place : Place) → OnlyTakes step → is_some (lane_outcome board k o step) ≡ true → Where (Act on (ByLane k) o step place ∷ h)
  lane_step h on k Land place takes ends =
      let self = same_op_self o in
      let one_more : 1 ≤ times (lands_from_master o) h + (cond (same_op o o) 1 0 + times (lands_from_lane o) h) = rw self (omega arith) in
      landed (omega (arith, one_more))
  lane_step h on k (Part phases) place takes ends = cc
  lane_step h on k (Read value) place takes ends = absurd takes
  lane_step h on k Accept place takes ends = absurd takes
  lane_step h on k Latch place takes ends = absurd takes
  lane_step h on k (Take outcome) place takes ends = absurd takes
  lane_step h on k Stall place takes ends = cc
  lane_step h on k MasterAbort place takes ends = absurd takes
  lane_step h on k TargetAbort place takes ends = absurd takes

  stays_oldest : (h : List Event) (e : Event) (k : BridgeLane) (later : List OpId) → posts (world_of board h k).standing ≡ o ∷ later → posts (world_of board h k).standing ≡ posts (world_of board (e ∷ h) k).standing
      → HasWord board (end_of board k) (request_on op (end_of board k)) → Where (e ∷ h)
  stays_oldest h e k later first same word = at_lane k later (sym same ∙ first) word

  lane_act : (h : List Event) (on : ℕ) (j : BridgeLane) (p : OpId) (step : Step) (place : Place) (k : BridgeLane) (later : List OpId) → Run board h → Allowed board h (Act on (ByLane j) p step place)
      → posts (world_of board h k).standing ≡ o ∷ later → HasWord board (end_of board k) (request_on op (end_of board k)) → Where (Act on (ByLane j) p step place ∷ h)
  lane_act h on j p step place k later run allowed first word =
      let e : Event = Act on (ByLane j) p step place in
      let new : List OpId = posts (world_of board (e ∷ h) k).standing in
      let ends : Bool = same_lane j k && is_posted_op board p && is_some (lane_outcome board j p step) in
      let stands : posts (world_of board h k).standing ≡ cond ends (p ∷ []) [] ++ new = act_stands board h on (ByLane j) p step place run allowed k in
      let P : Bool → Type 0 = λ b. ends ≡ b → posts (world_of board h k).standing ≡ cond b (p ∷ []) [] ++ new → Where (e ∷ h) in
      (elim ends as P [
        | true ↦ λ leaves gone.
            let is : p ≡ o = let lists : p ∷ new ≡ o ∷ later = sym gone ∙ first in cc in
            let three = and_parts (same_lane j k && is_posted_op board p) (is_some (lane_outcome board j p step)) leaves in
            let lanes : j ≡ k = same_lane_true j k (and_parts (same_lane j k) (is_posted_op board p) three.0).0 in
            let bus : end_of board j ≡ on = wants-at board h on (ByLane j) p allowed.0 in
            let here : end_of board k ≡ on = ap (end_of board) (sym lanes) ∙ bus in
            let word_on : HasWord board on (request_on op on) = subst (λ n. HasWord board n (request_on op n)) here word in
            let given : answer board h on (ByLane j) o ≡ Gives step place = subst (λ q. answer board h on (ByLane j) q ≡ Gives step place) is allowed.1 in
            let takes : OnlyTakes step = takes_only board o op one alike is_op posted h on (ByLane j) step place run word_on given in
            let ended : is_some (lane_outcome board j o step) ≡ true = subst (λ q. is_some (lane_outcome board j q step) ≡ true) is three.1 in
            subst (λ q. Where (Act on (ByLane j) q step place ∷ h)) (sym is) (lane_step h on j step place takes ended)
        | false ↦ λ _ same. stays_oldest h e k later first same word
      ]) refl stands

  -- an event after which it is still where it was, or landed
  event_keeps : (h : List Event) (e : Event) → Run board h → Allowed board h e → Where h → Where (e ∷ h)
  event_keeps h (Act on Master p step place) run allowed (at_master turn word) = master_act h on p step place run allowed turn word
  event_keeps h (Act on (ByLane j) p step place) run allowed (at_master turn word) = at_master turn word
  event_keeps h (Arrive lane mark) run allowed (at_master turn word) = at_master turn word
  event_keeps h (Act on Master p step place) run allowed (at_lane k later first word) =
      stays_oldest h (Act on Master p step place) k later first (act_stands board h on Master p step place run allowed k) word
  event_keeps h (Act on (ByLane j) p step place) run allowed (at_lane k later first word) = lane_act h on j p step place k later run allowed first word
  event_keeps h (Arrive lane mark) run allowed (at_lane k later first word) =
      let more = arrival_more (world_of board h) lane mark k in
      at_lane k (later ++ more.added) (still_first o later more.added (world_of board h k).standing (world_of board (Arrive lane mark ∷ h) k).standing first more.is) word
  event_keeps h e run allowed (landed some) = landed (omega (arith, some))

  -- the first part
  part_starts : (h : List Event) (on : ℕ) (by : By) (phases : ℕ) (place : Place) → Run board h → Allowed board h (Act on by o (Part phases) place) → Where (Act on by o (Part phases) place ∷ h)
  part_starts h on Master phases place run allowed =
      let word = part_word board o op one alike is_op posted h on Master phases place run allowed.1 in
      at_master (wants-turn board h on o allowed.0) (subst (λ n. HasWord board n (request_on op n)) (own_bus h on allowed.0) word)
  part_starts h on (ByLane k) phases place run allowed =
      let word = part_word board o op one alike is_op posted h on (ByLane k) phases place run allowed.1 in
      let st : List Carried = (world_of board h k).standing in
      let presented : presents board on o st ≡ true = (and_parts (end_of board k == on) (presents board on o st) allowed.0).1 in
      let first : posts st ≡ o ∷ posts (less (is_of o) st) = posts-less_first board on o st posted (RightKind-run board h k run).1 presented in
      let bus : end_of board k ≡ on = wants-at board h on (ByLane k) o allowed.0 in
      let same = act_stands board h on (ByLane k) o (Part phases) place run allowed k in
      let none : leaves_by board k (ByLane k) o (Part phases) ≡ [] = nothing_leaves (same_lane k k) (is_posted_op board o) in
      let stays : posts st ≡ posts (world_of board (Act on (ByLane k) o (Part phases) place ∷ h) k).standing =
      same ∙ ap (λ gone. gone ++ posts (world_of board (Act on (ByLane k) o (Part phases) place ∷ h) k).standing) none in
      stays_oldest h (Act on (ByLane k) o (Part phases) place) k (posts (less (is_of o) st)) first stays (subst (λ n. HasWord board n (request_on op n)) (sym bus) word)
    where
      nothing_leaves : (a b : Bool) → cond (a && b && false) (o ∷ []) [] ≡ []
      nothing_leaves true true = refl
      nothing_leaves true false = refl
      nothing_leaves false b = refl

  step_starts : (h : List Event) (on : ℕ) (by : By) (step : Step) (place : Place) → Run board h → Allowed board h (Act on by o step place) → 1 ≤ phases_parted step → Where (Act on by o step place ∷ h)
  step_starts h on by Land place run allowed some = absurd (omega (arith, some))
  step_starts h on by (Part phases) place run allowed some = part_starts h on by phases place run allowed
  step_starts h on by (Read value) place run allowed some = absurd (omega (arith, some))
  step_starts h on by Accept place run allowed some = absurd (omega (arith, some))
  step_starts h on by Latch place run allowed some = absurd (omega (arith, some))
  step_starts h on by (Take outcome) place run allowed some = absurd (omega (arith, some))
  step_starts h on by Stall place run allowed some = absurd (omega (arith, some))
  step_starts h on by MasterAbort place run allowed some = absurd (omega (arith, some))
  step_starts h on by TargetAbort place run allowed some = absurd (omega (arith, some))

  event_starts : (h : List Event) (e : Event) → Run board h → Allowed board h e → 1 ≤ parted_by o e → Where (e ∷ h)
  event_starts h (Act on by p step place) run allowed some =
      let P : Bool → Type 0 = λ b. same_op p o ≡ b → 1 ≤ cond b (phases_parted step) 0 → Where (Act on by p step place ∷ h) in
      (elim (same_op p o) as P [
        | true ↦ λ same more.
            let is : p ≡ o = same_op_true p o same in
            let F : OpId → Type 0 = λ q. Allowed board h (Act on by q step place) in
            subst (λ q. Where (Act on by q step place ∷ h)) (sym is) (step_starts h on by step place run (subst F is allowed) more)
        | false ↦ λ _ more. absurd (omega (arith, more))
      ]) refl some
  event_starts h (Arrive lane mark) run allowed some = absurd (omega (arith, some))

  next : (h : List Event) (e : Event) → Run board (e ∷ h) → 1 ≤ parted_by o e + through h o → (gone : ℕ) → through h o ≡ gone → (1 ≤ through h o → Where h) → Where (e ∷ h)
  next h e run some zero none old = event_starts h e run.1 run.0 (omega (arith, some, none))
  next h e run some (suc more) is old = event_keeps h e run.1 run.0 (old (omega (arith, is)))

  pub PartsAt-run : (h : List Event) → Run board h → 1 ≤ through h o → Where h
  PartsAt-run [] run some = absurd (omega (arith, some))
  PartsAt-run (e ∷ h) run some = next h e run some (through h o) refl (PartsAt-run h run.1)
