-- In a run of a steady board, what was counted and what is still to be counted make up what ended and what is held.
use Rattle.std.proofs.Common.{◌≡◌, ℕ, ◌+◌, Bool, true, false, cond, List, [], ◌∷◌, ◌++◌, append-nil, Option, Some, None, refl, sym, ap, subst, ◌∙◌, arith}
use Rattle.std.specs.List.{find, list_any}
use Rattle.list_facts.specs.Lists.{total}
use Rattle.list_facts.proofs.AnyLemmas.{any-push_other}
use Rattle.list_facts.proofs.TotalLemmas.{total-zero}
use Rattle.pci_command.specs.declared.op_id.OpId.{OpId}
use Rattle.pci_command.specs.declared.op_id.Outcome.{Outcome}
use Rattle.pci_command.specs.Same.{same_op}
use Rattle.board_model.specs.declared.bridge.Bridge.{Bridge}
use Rattle.board_model.specs.declared.bridge.Lane.{Lane as BridgeLane}
use Rattle.board_model.specs.declared.bridge.Place.{Place}
use Rattle.board_model.specs.declared.bridge.Place.TheVariants.{Target, Header, Lane, Nobody}
use Rattle.board_model.specs.declared.board.Board.{Board}
use Rattle.board_model.specs.declared.board.Planned.{Planned}
use Rattle.board_model.specs.Ways.{lane_back}
use Rattle.board_model.specs.Valid.{IsValid}
use Rattle.history_model.specs.declared.event.By.{By}
use Rattle.history_model.specs.declared.event.By.TheVariants.{Master, Lane as ByLane}
use Rattle.history_model.specs.declared.event.Mark.{Mark}
use Rattle.history_model.specs.declared.event.Mark.TheVariants.{Plain, Discard, Drop}
use Rattle.history_model.specs.declared.event.Step.{Step}
use Rattle.history_model.specs.declared.event.Step.TheVariants as steps
use Rattle.history_model.specs.declared.event.Event.{Event}
use Rattle.history_model.specs.declared.event.Event.TheVariants.{Act, Arrive}
use Rattle.history_model.specs.declared.item.Carried.{Carried}
use Rattle.history_model.specs.declared.item.Carried.TheVariants.{Post, Ask, Done, Room, Gone}
use Rattle.history_model.specs.declared.item.Slot.{Slot}
use Rattle.history_model.specs.Lanes.{LaneState, Both, empty_lane, is_of, lowest_free, reply_to, item_ends, arrives_first, arrives}
use Rattle.history_model.specs.World.{World, is_own, slot_found, enters, at_place, lane_outcome, leaves, at_initiator, both, moved, world_of}
use Rattle.history_model.specs.Words.{phases_parted, through}
use Rattle.history_model.specs.Answers.{bridge_to}
use Rattle.history_model.specs.Runs.{names, mark_of_first, Run}
use Rattle.history_model.proofs.facts.MovedLemmas.{moved_each}
use Rattle.law_lanes.specs.Depths.{DifferentNumbers}
use Rattle.law_lanes.proofs.Laws.{run_no_bridge, Quiet-empty, WellFormed-numbers}
use Rattle.law_lanes.specs.order.One.{both_lanes}
use Rattle.run_report.specs.way_counts.Plain.{IsSteady}
use Rattle.run_report.specs.way_counts.WayCounts.{Weight}
use Rattle.run_report.specs.way_counts.Weighed.{weigh}
use Rattle.run_report.proofs.way_counts.Weights.{lane_items, lane_slots, items, slots}
use Rattle.run_report.proofs.way_counts.MoveLemmas.{is_gone, comes_items, comes_slots}
use Rattle.run_report.proofs.way_counts.StepLemmas.{ended_by}
use Rattle.run_report.proofs.way_counts.ActLemmas.{act_counts}

-- what the operations count that ended at their masters
abbrev pub ended_in : Board → Weight → Event → ℕ
ended_in board weight (Act on by o step place) = ended_by board weight on by o step
ended_in board weight (Arrive lane mark) = 0

abbrev pub ended_weight : Board → Weight → List Event → ℕ
ended_weight board weight h = total (ended_in board weight) h

-- no word that a request was dropped is in flight
abbrev pub Quiet : World → Type 0
Quiet world = (lane : BridgeLane) → list_any is_gone (world lane).flight ≡ false

-- what holds of each run
pub record Kept (board : Board) (weight : Weight) (h : List Event) : Type 0 where
  pub weighs : weigh board weight h + items board weight (world_of board h) ≡ ended_weight board weight h + slots board weight (world_of board h)
  pub whole : (o : OpId) → through h o ≡ 0
  pub quiet : Quiet (world_of board h)

kept_none : (board : Board) (weight : Weight) → Kept board weight []
kept_none board weight =
    let no_items : items board weight (world_of board []) ≡ 0 = total-zero (both_lanes (λ lane. lane_items board weight lane empty_lane)) (λ b. omega arith) board.bridges in
    let no_slots : slots board weight (world_of board []) ≡ 0 = total-zero (both_lanes (λ lane. lane_slots board weight lane empty_lane)) (λ b. omega arith) board.bridges in
    record { weighs = omega (arith, no_items, no_slots); whole = λ o. refl; quiet = λ lane. refl }

-- No move sends such a word.

reply_quiet : (outcome : Outcome) (xs : List Carried) (item : Option Carried) → list_any is_gone xs ≡ false → list_any is_gone (xs ++ reply_to outcome item) ≡ false
reply_quiet outcome xs None quiet = ap (list_any is_gone) (append-nil xs) ∙ quiet
reply_quiet outcome xs (Some (Post op)) quiet = any-push_other is_gone xs Room refl ∙ quiet
reply_quiet outcome xs (Some (Ask op slot)) quiet = any-push_other is_gone xs (Done op slot outcome) refl ∙ quiet
reply_quiet outcome xs (Some (Done op slot given)) quiet = ap (list_any is_gone) (append-nil xs) ∙ quiet
reply_quiet outcome xs (Some Room) quiet = ap (list_any is_gone) (append-nil xs) ∙ quiet
reply_quiet outcome xs (Some (Gone slot)) quiet = ap (list_any is_gone) (append-nil xs) ∙ quiet

-- a move that keeps it on the lane and on the lane back
moved_quiet : (move : Both → Both) (lane : BridgeLane) (world : World) → Quiet world → list_any is_gone (move (both world lane)).here.flight ≡ false → list_any is_gone (move (both world lane)).back.flight ≡ false → Quiet (moved move lane world)
moved_quiet move lane world quiet here back = moved_each (λ l s. list_any is_gone s.flight ≡ false) move lane world (λ l _ _. quiet l) here back

found_quiet : (board : Board) (on : ℕ) (by : By) (o : OpId) (lane : BridgeLane) (world : World) (found : Option Slot) → Quiet world → (list_any is_gone (slot_found found (both world lane)).here.flight ≡ false) × (list_any is_gone (slot_found found (both world lane)).back.flight ≡ false)
found_quiet board on by o lane world None quiet = (quiet lane, quiet (lane_back lane))
found_quiet board on by o lane world (Some slot) quiet = (quiet lane, quiet (lane_back lane))

lane_quiet : (board : Board) (on : ℕ) (by : By) (o : OpId) (step : Step) (lane : BridgeLane) (world : World) → Quiet world → Quiet (moved (enters board on by o step) lane world)
lane_quiet board on by o steps.Land lane world quiet = moved_quiet (enters board on by o steps.Land) lane world quiet (quiet lane) (quiet (lane_back lane))
lane_quiet board on by o (steps.Part phases) lane world quiet = moved_quiet (enters board on by o (steps.Part phases)) lane world quiet (quiet lane) (quiet (lane_back lane))
lane_quiet board on by o (steps.Read value) lane world quiet = moved_quiet (enters board on by o (steps.Read value)) lane world quiet (quiet lane) (quiet (lane_back lane))
lane_quiet board on by o steps.Accept lane world quiet = moved_quiet (enters board on by o steps.Accept) lane world quiet (any-push_other is_gone (world lane).flight (Post o) refl ∙ quiet lane) (quiet (lane_back lane))
lane_quiet board on by o steps.Latch lane world quiet = moved_quiet (enters board on by o steps.Latch) lane world quiet (any-push_other is_gone (world lane).flight (Ask o (lowest_free (world lane).held)) refl ∙ quiet lane) (quiet (lane_back lane))
lane_quiet board on by o (steps.Take outcome) lane world quiet =
    let both_quiet = found_quiet board on by o lane world (find (is_own board on by o) (world lane).held) quiet in
    moved_quiet (enters board on by o (steps.Take outcome)) lane world quiet both_quiet.0 both_quiet.1
lane_quiet board on by o steps.Stall lane world quiet = moved_quiet (enters board on by o steps.Stall) lane world quiet (quiet lane) (quiet (lane_back lane))
lane_quiet board on by o steps.MasterAbort lane world quiet = moved_quiet (enters board on by o steps.MasterAbort) lane world quiet (quiet lane) (quiet (lane_back lane))
lane_quiet board on by o steps.TargetAbort lane world quiet = moved_quiet (enters board on by o steps.TargetAbort) lane world quiet (quiet lane) (quiet (lane_back lane))

place_quiet : (board : Board) (on : ℕ) (by : By) (o : OpId) (step : Step) (place : Place) (world : World) → Quiet world → Quiet (at_place board on by o step place world)
place_quiet board on by o step (Target target) world quiet = quiet
place_quiet board on by o step (Header bus) world quiet = quiet
place_quiet board on by o step (Lane lane) world quiet = lane_quiet board on by o step lane world quiet
place_quiet board on by o step Nobody world quiet = quiet

leaves_quiet : (lane : BridgeLane) (o : OpId) (ends : Option Outcome) (world : World) → Quiet world → Quiet (leaves lane o ends world)
leaves_quiet lane o None world quiet = quiet
leaves_quiet lane o (Some outcome) world quiet =
    moved_quiet (item_ends o outcome) lane world quiet (quiet lane) (reply_quiet outcome (world (lane_back lane)).flight (find (is_of o) (world lane).standing) (quiet (lane_back lane)))

initiator_quiet : (board : Board) (by : By) (o : OpId) (step : Step) (world : World) → Quiet world → Quiet (at_initiator board by o step world)
initiator_quiet board Master o step world quiet = quiet
initiator_quiet board (ByLane lane) o step world quiet = leaves_quiet lane o (lane_outcome board lane o step) world quiet

-- nothing goes through in parts
through_none : (h : List Event) (on : ℕ) (by : By) (o : OpId) (step : Step) (place : Place) (p : OpId) → phases_parted step ≡ 0 → through h p ≡ 0 → through (Act on by o step place ∷ h) p ≡ 0
through_none h on by o step place p none before =
    let P : Bool → Type 0 = λ b. cond b (phases_parted step) 0 + through h p ≡ 0 in
    elim (same_op o p) as P [ true ↦ omega (arith, none, before) | false ↦ omega (arith, before) ]

kept_act : (board : Board) (valid : IsValid board) (steady : IsSteady board) (weight : Weight) (h : List Event) (on : ℕ) (by : By) (o : OpId) (step : Step) (place : Place) → Run board (Act on by o step place ∷ h) → Kept board weight h → Kept board weight (Act on by o step place ∷ h)
kept_act board valid steady weight h on by o step place run kept =
    let counts = act_counts board valid steady weight h on by o step place run (kept.whole o) in
    record {
      weighs = omega (arith, kept.weighs, counts.0);
      whole = λ p. through_none h on by o step place p counts.1 (kept.whole p);
      quiet = initiator_quiet board by o step (at_place board on by o step place (world_of board h)) (place_quiet board on by o step place (world_of board h) kept.quiet);
    }

-- Arrivals have no marks.

pub record Comes (flight : List Carried) (mark : Mark) : Type 0 where
  pub item : Carried
  pub rest : List Carried
  pub flies : flight ≡ item ∷ rest
  pub plain : mark ≡ Plain

first_plain : (board : Board) (lane : BridgeLane) (state : LaneState) (flight : List Carried) (mark : Mark) → board.discards ≡ [] → board.drops ≡ [] → mark_of_first board lane state flight ≡ Some mark → Comes flight mark
first_plain board lane state [] mark discards drops next = cc
first_plain board lane state (Post op ∷ rest) mark discards drops next = record { item = Post op; rest = rest; flies = refl; plain = cc }
first_plain board lane state (Ask op slot ∷ rest) mark discards drops next =
    let F : List Planned → Type 0 = λ d. Some (cond (list_any (names lane (state.asks + 1)) d) Drop Plain) ≡ Some mark in
    let there : F [] = subst F drops next in
    record { item = Ask op slot; rest = rest; flies = refl; plain = cc }
first_plain board lane state (Done op slot outcome ∷ rest) mark discards drops next =
    let F : List Planned → Type 0 = λ d. Some (cond (list_any (names lane (state.dones + 1)) d) Discard Plain) ≡ Some mark in
    let there : F [] = subst F discards next in
    record { item = Done op slot outcome; rest = rest; flies = refl; plain = cc }
first_plain board lane state (Room ∷ rest) mark discards drops next = record { item = Room; rest = rest; flies = refl; plain = cc }
first_plain board lane state (Gone slot ∷ rest) mark discards drops next = record { item = Gone slot; rest = rest; flies = refl; plain = cc }

-- the first is no word of a dropped request, nor is any behind it
first_quiet : (item : Carried) (rest : List Carried) → list_any is_gone (item ∷ rest) ≡ false → (is_gone item ≡ false) × (list_any is_gone rest ≡ false)
first_quiet (Post op) rest quiet = (refl, quiet)
first_quiet (Ask op slot) rest quiet = (refl, quiet)
first_quiet (Done op slot outcome) rest quiet = (refl, quiet)
first_quiet Room rest quiet = (refl, quiet)
first_quiet (Gone slot) rest quiet = cc

abbrev Both_quiet : List Carried → Both → Type 0
Both_quiet flight x = (list_any is_gone (arrives_first Plain flight x).here.flight ≡ false) × (list_any is_gone (arrives_first Plain flight x).back.flight ≡ false)

arrives_quiet : (item : Carried) (rest : List Carried) (x : Both) → is_gone item ≡ false → list_any is_gone rest ≡ false → list_any is_gone x.back.flight ≡ false → Both_quiet (item ∷ rest) x
arrives_quiet (Post op) rest x other quiet back = (quiet, back)
arrives_quiet (Ask op slot) rest x other quiet back = (quiet, back)
arrives_quiet (Done op slot outcome) rest x other quiet back = (quiet, back)
arrives_quiet Room rest x other quiet back = (quiet, back)
arrives_quiet (Gone slot) rest x other quiet back = cc

-- what flies on a lane is of a bridge
flies_bridge : (board : Board) (h : List Event) (lane : BridgeLane) (item : Carried) (rest : List Carried) → Run board h → (world_of board h lane).flight ≡ item ∷ rest → (bridge : Bridge) × (bridge_to board lane.bus ≡ Some bridge)
flies_bridge board h lane item rest run flies =
    let P : Option Bridge → Type 0 = λ b. bridge_to board lane.bus ≡ b → (bridge : Bridge) × (bridge_to board lane.bus ≡ Some bridge) in
    (elim (bridge_to board lane.bus) as P [
      | None ↦ λ none.
          let empty : world_of board h lane ≡ empty_lane = Quiet-empty board h lane (run_no_bridge board lane.bus h none run) in
          let nothing : (world_of board h lane).flight ≡ [] = ap (λ (s : LaneState). s.flight) empty in
          absurd cc
      | Some bridge ↦ λ is. (bridge, is)
    ]) refl

kept_plain : (board : Board) (valid : IsValid board) (weight : Weight) (h : List Event) (lane : BridgeLane) → (item : Carried) (rest : List Carried) → (world_of board h lane).flight ≡ item ∷ rest → Run board h → Kept board weight h → Kept board weight (Arrive lane Plain ∷ h)
kept_plain board valid weight h lane item rest flies run kept =
    let W : World = world_of board h in
    let of = flies_bridge board h lane item rest run flies in
    let distinct : DifferentNumbers board = WellFormed-numbers board valid.well_formed in
    let quiet = first_quiet item rest (sym (ap (list_any is_gone) flies) ∙ kept.quiet lane) in
    let both_quiet : Both_quiet (W lane).flight (both W lane) = subst (λ f. Both_quiet f (both W lane)) (sym flies) (arrives_quiet item rest (both W lane) quiet.0 quiet.1 (kept.quiet (lane_back lane))) in
    record {
      weighs = omega (arith, kept.weighs, comes_items board distinct weight lane W of.0 of.1 item rest flies quiet.0, comes_slots board distinct weight lane W of.0 of.1 item rest flies quiet.0);
      whole = λ p. omega (arith, kept.whole p);
      quiet = moved_quiet (arrives Plain) lane W kept.quiet both_quiet.0 both_quiet.1;
    }

-- so each run
pub kept_run : (board : Board) (valid : IsValid board) (steady : IsSteady board) (weight : Weight) (h : List Event) → Run board h → Kept board weight h
kept_run board valid steady weight [] run = kept_none board weight
kept_run board valid steady weight (Act on by o step place ∷ h) run = kept_act board valid steady weight h on by o step place run (kept_run board valid steady weight h run.1)
kept_run board valid steady weight (Arrive lane mark ∷ h) run =
    let comes = first_plain board lane (world_of board h lane) (world_of board h lane).flight mark steady.discards steady.drops run.0 in
    let K : Mark → Type 0 = λ m. Kept board weight (Arrive lane m ∷ h) in
    subst K (sym comes.plain) (kept_plain board valid weight h lane comes.item comes.rest comes.flies run.1 (kept_run board valid steady weight h run.1))
