-- At the end of a complete run nothing is left, and nothing is held.
use Rattle.std.proofs.Common.{◌≡◌, ℕ, ◌+◌, true, false, List, [], ◌∷◌, refl, ap, arith, slice_get}
use Rattle.std.specs.List.{AllByRecursion}
use Rattle.list_facts.specs.Lists.{total}
use Rattle.board_model.specs.declared.bridge.Bridge.{Bridge}
use Rattle.board_model.specs.declared.bridge.Lane.{Lane as BridgeLane}
use Rattle.board_model.specs.declared.board.Board.{Board}
use Rattle.board_model.specs.Requests.{op_of}
use Rattle.board_model.specs.Valid.{IsValid}
use Rattle.history_model.specs.declared.event.By.TheVariants.{Master, Lane as ByLane}
use Rattle.history_model.specs.declared.event.Event.{Event}
use Rattle.history_model.specs.declared.event.Event.TheVariants.{Act, Arrive}
use Rattle.history_model.specs.declared.item.Slot.{Slot}
use Rattle.history_model.specs.Lanes.{LaneState, Both}
use Rattle.history_model.specs.World.{World, both, world_of}
use Rattle.history_model.specs.Program.{master_outcome, turn_of}
use Rattle.history_model.specs.Runs.{Run, IsIdle, Complete}
use Rattle.law_lanes.specs.Slots.{slot_weight, ask_weight, done_weight, gone_weight, Slots}
use Rattle.law_lanes.proofs.Laws.{Slots-run, op_there}
use Rattle.law_lanes.specs.order.One.{both_lanes}
use Rattle.run_report.specs.way_counts.Plain.{IsSteady}
use Rattle.run_report.specs.way_counts.WayCounts.{Weight, ways_weight}
use Rattle.run_report.specs.way_counts.Weighed.{weigh}
use Rattle.run_report.proofs.way_counts.Weights.{flying, standing, holding, lane_items, lane_slots, items, slots}
use Rattle.run_report.proofs.way_counts.ActLemmas.{some_of}
use Rattle.run_report.proofs.way_counts.RunLemmas.{ended_weight, kept_run}
use Rattle.run_report.proofs.way_counts.ProgramLemmas.{turn_weight, rests, first_from, act_rests, from-none}

-- what ended and what is left make up the whole
ended_rests : (board : Board) (steady : IsSteady board) (weight : Weight) (h : List Event) → Run board h → ended_weight board weight h + rests board weight h ≡ ways_weight board weight
ended_rests board steady weight [] run = omega (arith, first_from board steady weight 0 board.masters (λ i. ap (slice_get board.masters) (omega arith)))
ended_rests board steady weight (Act on Master o step place ∷ h) run =
    let found = some_of (op_of board o) (op_there board h on Master o run.1 run.0.0) in
    let fell = act_rests board steady weight h on o step (master_outcome step) refl run.0.0 found.0 found.1 in
    omega (arith, fell, ended_rests board steady weight h run.1)
ended_rests board steady weight (Act on (ByLane lane) o step place ∷ h) run = omega (arith, ended_rests board steady weight h run.1)
ended_rests board steady weight (Arrive lane mark ∷ h) run = omega (arith, ended_rests board steady weight h run.1)

-- where all programs ended nothing is left of them
none_left : (board : Board) (weight : Weight) (h : List Event) → Complete board h → rests board weight h ≡ 0
none_left board weight h complete =
    from-none (λ i master. turn_weight board weight master (turn_of board h i)) 0 board.masters
    (λ i master below. ap (turn_weight board weight master) (complete.ended i (omega (arith, below))))

-- nothing is to be counted on an idle lane
idle_items : (board : Board) (weight : Weight) (lane : BridgeLane) (state : LaneState) → IsIdle state → lane_items board weight lane state ≡ 0
idle_items board weight lane state idle = omega (arith, ap (total (flying board weight lane)) idle.0, ap (total (standing board weight lane)) idle.1)

-- nor is a slot held where both lanes are idle
no_slot : (held : List Slot) (w : Slot → ℕ) → total (slot_weight (λ _. 1)) held ≡ 0 → total w held ≡ 0
no_slot [] w none = refl
no_slot (slot ∷ held) w none = absurd (omega (arith, none))

idle_slots : (board : Board) (weight : Weight) (lane : BridgeLane) (x : Both) → Slots x → IsIdle x.here → IsIdle x.back → lane_slots board weight lane x.here ≡ 0
idle_slots board weight lane x law here back =
    let one : ℕ → ℕ = λ _. 1 in
    no_slot x.here.held (holding board weight lane)
    (omega (
      arith,
      law.one_place one,
      ap (total (ask_weight one)) here.0,
      ap (total (ask_weight one)) here.1,
      ap (total (done_weight one)) back.0,
      ap (total (done_weight one)) back.1,
      ap (total (gone_weight one)) back.0,
    ))

-- a sum over lanes is nothing where each pair of lanes has nothing
none_over : (f : BridgeLane → ℕ) (Idle : Bridge → Type 0) → ((b : Bridge) → Idle b → both_lanes f b ≡ 0) → (bridges : List Bridge) → AllByRecursion Idle bridges → total (both_lanes f) bridges ≡ 0
none_over f Idle none [] each = refl
none_over f Idle none (b ∷ bridges) each = omega (arith, none b each.0, none_over f Idle none bridges each.1)

-- so all events of a complete run weigh what its operations count
pub complete_weighs : (board : Board) (weight : Weight) (h : List Event) → IsValid board → IsSteady board → Run board h → Complete board h → weigh board weight h ≡ ways_weight board weight
complete_weighs board weight h valid steady run complete =
    let W : World = world_of board h in
    let down : Bridge → BridgeLane = λ b. record { bus = b.bus; up = false } in
    let up : Bridge → BridgeLane = λ b. record { bus = b.bus; up = true } in
    let Idle : Bridge → Type 0 = λ b. IsIdle (W (down b)) × IsIdle (W (up b)) in
    let no_items : items board weight W ≡ 0 =
    none_over (λ lane. lane_items board weight lane (W lane)) Idle
    (λ b idle. omega (arith, idle_items board weight (down b) (W (down b)) idle.0, idle_items board weight (up b) (W (up b)) idle.1)) board.bridges complete.idle in
    let no_slots : slots board weight W ≡ 0 =
    none_over (λ lane. lane_slots board weight lane (W lane)) Idle
    (λ b idle. omega (
      arith,
      idle_slots board weight (down b) (both W (down b)) (Slots-run board h (down b) run) idle.0 idle.1,
      idle_slots board weight (up b) (both W (up b)) (Slots-run board h (up b) run) idle.1 idle.0,
    )) board.bridges complete.idle in
    omega (arith, (kept_run board valid steady weight h run).weighs, no_items, no_slots, ended_rests board steady weight h run, none_left board weight h complete)
