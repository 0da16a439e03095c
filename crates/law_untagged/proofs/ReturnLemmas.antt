-- A completion carries the value of the reading that made it, whoever takes it.
use Rattle.std.proofs.Common.{◌≡◌, ℕ, ◌+◌, ◌≤◌, Bool, true, false, ◌&&◌, ◌||◌, ◌==◌, cond, eqb, eqb-true, List, [], ◌∷◌, ◌++◌, Option, Some, None, is_some, refl, sym, ap, subst, ◌∙◌, arith}
use Rattle.std.specs.List.{find, list_any, AllByRecursion}
use Rattle.std.proofs.lemmas.Bool.Decides.{nat_tests}
use Rattle.list_facts.specs.Lists.{less, total}
use Rattle.list_facts.proofs.EachLemmas.{Each-push, Each-append, Each-less, Each-find, Each-within, Each-weaker_zero}
use Rattle.list_facts.proofs.FindLemmas.{find_passes, find-less_other}
use Rattle.pci_command.specs.declared.request.Request.{Request}
use Rattle.pci_command.specs.declared.op_id.OpId.{OpId}
use Rattle.pci_command.specs.declared.op_id.Outcome.{Outcome}
use Rattle.pci_command.specs.declared.op_id.Outcome.TheVariants.{Value, Written, Aborted, Nobody as NobodyClaimed}
use Rattle.pci_command.specs.Command.{space_of}
use Rattle.pci_command.specs.Same.{same_op}
use Rattle.board_model.specs.declared.bridge.Lane.{Lane as BridgeLane}
use Rattle.board_model.specs.declared.bridge.Place.{Place}
use Rattle.board_model.specs.declared.bridge.Place.TheVariants.{Target, Header, Lane, Nobody}
use Rattle.board_model.specs.declared.board.Board.{Board}
use Rattle.board_model.specs.Requests.{request_of, reads}
use Rattle.board_model.specs.Ways.{Dword, address_in}
use Rattle.history_model.specs.declared.event.By.{By}
use Rattle.history_model.specs.declared.event.By.TheVariants.{Master, Lane as ByLane}
use Rattle.history_model.specs.declared.event.Mark.{Mark}
use Rattle.history_model.specs.declared.event.Step.{Step}
use Rattle.history_model.specs.declared.event.Step.TheVariants.{Land, Part, Read, Accept, Latch, Take, Stall, MasterAbort, TargetAbort}
use Rattle.history_model.specs.declared.event.Event.{Event}
use Rattle.history_model.specs.declared.event.Event.TheVariants.{Act, Arrive}
use Rattle.history_model.specs.declared.item.Carried.{Carried}
use Rattle.history_model.specs.declared.item.Carried.TheVariants.{Post, Ask, Done, Room, Gone}
use Rattle.history_model.specs.declared.item.Slot.{Slot}
use Rattle.history_model.specs.declared.item.Answer.TheVariants.{Gives}
use Rattle.history_model.specs.Lanes.{Both, is_of, is_done_for, lowest_free, reply_to, item_ends, slot_taken, Effect, Stands, Credits, Frees, Drops, effect_of, takes_effect, came_off, arrives_first, arrives}
use Rattle.history_model.specs.declared.rule.Rule.TheVariants.{Untagged}
use Rattle.history_model.specs.World.{anyone, World, same_lane, both, moved, is_own, slot_found, enters, at_place, lane_outcome, leaves, at_initiator, world_by}
use Rattle.history_model.specs.Program.{Ending, ending_of, ended_by, master_outcome}
use Rattle.history_model.specs.Local.{is_ask_of}
use Rattle.history_model.specs.Knowledge.{value_in, value_of_ending, outcome_in, ends_as, ends_with, or_else, given_value, Reading, reading_of, reading_at, reading_by, reading_or}
use Rattle.law_lanes.specs.Slots.{hit, ask_weight, done_weight, slot_weight, places, Slots}
use Rattle.law_lanes.proofs.HeldLemmas.{hit-same}
use Rattle.history_model.proofs.facts.BridgeLemmas.{flip, both_back, same_lane_true, same_lane_self, same_lane_back, same_lane_symm, moved_keeps, moved_gives}
use Rattle.history_model.proofs.facts.AnswerLemmas.{AtLaneIn, answered_in}
use Rattle.history_model.proofs.facts.KeptLemmas.{place_keeps}
use Rattle.law_lanes.proofs.SlotsRunLemmas.{Slots-kept, Slots-run_by}
use Rattle.history_model.proofs.facts.RequestLemmas.{same_op_true}
use Rattle.law_untagged.specs.Untagged.{UntaggedAllowed, UntaggedRun}
use Rattle.law_untagged.specs.Origins.{Origins, origin_in, taken_from, taken_in, source_of, asks_for, ends_item, answers, origin_by, origins_of, ending_reading, untagged_got}
use Rattle.law_untagged.proofs.CarryLemmas.{AllCarry, taken_good, Makes, event_carries}

-- What an act has its value from.

of_value : (target value : ℕ) (h : List Event) (request : Option Request) (reading : Reading) → reading_of target value h request ≡ Some reading → reading.value ≡ value
of_value target value h None reading is = cc
of_value target value h (Some request) reading is = sym (ap value_or is)
  where
    value_or : Option Reading → ℕ
    value_or None = value
    value_or (Some other) = other.value

at_value : (board : Board) (h : List Event) (on : ℕ) (r : OpId) (value : ℕ) (place : Place) (reading : Reading) → reading_at board h on r value place ≡ Some reading → reading.value ≡ value
at_value board h on r value (Target target) reading is = of_value target value h (request_of board r on) reading is
at_value board h on r value (Header bus) reading is = cc
at_value board h on r value (Lane lane) reading is = cc
at_value board h on r value Nobody reading is = cc

-- the value of a completion is that of the reading that made it
abbrev HasValue : OpId → Outcome → Reading → Type 0
HasValue op outcome reading = outcome ≡ Value reading.value

-- how a step ends what it answers, for its master or for a lane
abbrev Ends : Step → Outcome → Type 0
Ends Land outcome = Unit {0}
Ends (Part phases) outcome = Unit {0}
Ends (Read value) outcome = outcome ≡ Value value
Ends Accept outcome = Unit {0}
Ends Latch outcome = Unit {0}
Ends (Take given) outcome = outcome ≡ given
Ends Stall outcome = Unit {0}
Ends MasterAbort outcome = Unit {0}
Ends TargetAbort outcome = Unit {0}

lane_ends : (board : Board) (lane : BridgeLane) (o : OpId) (step : Step) (outcome : Outcome) → lane_outcome board lane o step ≡ Some outcome → Ends step outcome
lane_ends board lane o Land outcome is = tt
lane_ends board lane o (Part phases) outcome is = tt
lane_ends board lane o (Read value) outcome is = cc
lane_ends board lane o Accept outcome is = tt
lane_ends board lane o Latch outcome is = tt
lane_ends board lane o (Take given) outcome is = cc
lane_ends board lane o Stall outcome is = tt
lane_ends board lane o MasterAbort outcome is = tt
lane_ends board lane o TargetAbort outcome is = tt

master_ends : (step : Step) (outcome : Outcome) → master_outcome step ≡ Some outcome → Ends step outcome
master_ends Land outcome is = tt
master_ends (Part phases) outcome is = tt
master_ends (Read value) outcome is = cc
master_ends Accept outcome is = tt
master_ends Latch outcome is = tt
master_ends (Take given) outcome is = cc
master_ends Stall outcome is = tt
master_ends MasterAbort outcome is = tt
master_ends TargetAbort outcome is = tt

module _ (board : Board) (h : List Event) (origins : Origins) (carry : (l : BridgeLane) → AllCarry HasValue origins l (both (world_by Untagged board h) l)) where
  place_value : (on : ℕ) (by : By) (o : OpId) (outcome : Outcome) (place : Place) → UntaggedAllowed board h (Act on by o (Take outcome) place) → (reading : Reading)
      → taken_from board (world_by Untagged board h) origins on o place ≡ Some reading → outcome ≡ Value reading.value
  place_value on by o outcome (Target target) allowed reading is = cc
  place_value on by o outcome (Header bus) allowed reading is = cc
  place_value on by o outcome (Lane lane) allowed reading is =
      taken_good HasValue board (world_by Untagged board h) h origins carry on o outcome lane (answered_in board (world_by Untagged board h) h on anyone o (Take outcome) lane allowed.1) reading is
  place_value on by o outcome Nobody allowed reading is = cc

  -- what an act has its value from has the value with which the act ends its operation
  source_value : (on : ℕ) (by : By) (o : OpId) (step : Step) (place : Place) (outcome : Outcome) → UntaggedAllowed board h (Act on by o step place) → Ends step outcome → (reading : Reading)
      → source_of board h (world_by Untagged board h) origins on o step place ≡ Some reading → outcome ≡ Value reading.value
  source_value on by o Land place outcome allowed ends reading is = cc
  source_value on by o (Part phases) place outcome allowed ends reading is = cc
  source_value on by o (Read value) place outcome allowed ends reading is =
      let P : Option Reading → Type 0 = λ here. reading_at board h on o value place ≡ here → reading_or here None ≡ Some reading → reading.value ≡ value in
      let same : reading.value ≡ value = (elim (reading_at board h on o value place) as P [
        | None ↦ λ _ f. cc
        | Some here ↦ λ some f. at_value board h on o value place reading (some ∙ f)
      ]) refl is in
      ends ∙ ap Value (sym same)
  source_value on by o Accept place outcome allowed ends reading is = cc
  source_value on by o Latch place outcome allowed ends reading is = cc
  source_value on by o (Take given) place outcome allowed ends reading is = ends ∙ place_value on by o given place allowed reading is
  source_value on by o Stall place outcome allowed ends reading is = cc
  source_value on by o MasterAbort place outcome allowed ends reading is = cc
  source_value on by o TargetAbort place outcome allowed ends reading is = cc

makes_value : (board : Board) (h : List Event) (e : Event) → UntaggedAllowed board h e → ((l : BridgeLane) → AllCarry HasValue (origins_of board h) l (both (world_by Untagged board h) l)) → Makes HasValue board h e
makes_value board h (Act on Master o step place) allowed carry = tt
makes_value board h (Act on (ByLane k) o step place) allowed carry = λ outcome ends reading is. source_value board h (origins_of board h) carry on (ByLane k) o step place outcome allowed (lane_ends board k o step outcome ends) reading is
makes_value board h (Arrive lane mark) allowed carry = tt

-- in every run
carry_run : (board : Board) (h : List Event) → UntaggedRun board h → (l : BridgeLane) → AllCarry HasValue (origins_of board h) l (both (world_by Untagged board h) l)
carry_run board [] run = λ l. (tt, tt)
carry_run board (e ∷ h) run = let old = carry_run board h run.1 in event_carries HasValue board e h run.1 run.0 (makes_value board h e run.0 old) old

-- What reads returned.

-- an event that ends the read, and gives it the value of a reading
pub ending_value : (board : Board) (e : Event) (h : List Event) (r : OpId) (reading : Reading) → UntaggedRun board (e ∷ h) → is_some (ends_as r e) ≡ true → ending_reading board h e ≡ Some reading → ends_with r e ≡ Some reading.value
ending_value board (Act on Master o step place) h r reading run ends is =
    let origins : Origins = origins_of board h in
    let source : Option Reading = source_of board h (world_by Untagged board h) origins on o step place in
    let P : Bool → Type 0 = λ b. cond b source None ≡ Some reading → source ≡ Some reading in
    let from : source ≡ Some reading = (elim (reads board o) as P [ true ↦ λ f. f | false ↦ λ f. cc ]) is in
    let Q : Option Outcome → Type 0 = λ given. master_outcome step ≡ given → is_some (outcome_in r (ending_or o given)) ≡ true → value_of_ending (outcome_in r (ending_or o given)) ≡ Some reading.value in
    (elim (master_outcome step) as Q [
      | None ↦ λ _ f. cc
      | Some outcome ↦ λ ends_so f.
          let value : outcome ≡ Value reading.value = source_value board h origins (carry_run board h run.1) on Master o step place outcome run.0 (master_ends step outcome ends_so) reading from in
          let R : Bool → Type 0 = λ b. is_some (cond b (Some outcome) None) ≡ true → value_of_ending (cond b (Some outcome) None) ≡ Some reading.value in
          (elim (same_op o r) as R [ true ↦ λ _. ap value_in value | false ↦ λ g. cc ]) f
    ]) refl ends
  where
    ending_or : OpId → Option Outcome → Option Ending
    ending_or o given = ending_of o given
ending_value board (Act on (ByLane lane) o step place) h r reading run ends is = cc
ending_value board (Arrive lane mark) h r reading run ends is = cc

pub got_returned : (board : Board) (h : List Event) (r : OpId) (reading : Reading) → UntaggedRun board h → untagged_got board h r ≡ Some reading → given_value h r ≡ Some reading.value
got_returned board [] r reading run is = cc
got_returned board (e ∷ h) r reading run is =
    let P : Option Outcome → Type 0 = λ given. ends_as r e ≡ given → cond (is_some given) (ending_reading board h e) (untagged_got board h r) ≡ Some reading → or_else (value_of_ending given) (given_value h r) ≡ Some reading.value in
    (elim (ends_as r e) as P [
      | None ↦ λ _ f. got_returned board h r reading run.1 f
      | Some outcome ↦ λ some f.
          let with_value : ends_with r e ≡ Some reading.value = ending_value board e h r reading run (ap is_some some) f in
          let there : value_of_ending (Some outcome) ≡ Some reading.value = ap value_of_ending (sym some) ∙ with_value in
          ap (λ found. or_else found (given_value h r)) there
    ]) refl is
