-- What a run has left by what is kept of it is what it has left by its history, and so is whether it is complete.
use Rattle.std.proofs.Common.{◌≡◌, ℕ, true, false, ◌+◌, ◌*◌, ◌-◌, ◌↔◌, List, [], ◌∷◌, length, drop, Option, Some, None, refl, sym, ap, subst, ◌∙◌, slice_get, add-one, arith, if◌then◌else◌}
use Rattle.std.specs.List.{AllByRecursion}
use Rattle.list_facts.specs.Lists.{total}
use Rattle.list_facts.proofs.AnyLemmas.{total_same}
use Rattle.pci_command.specs.declared.op_id.OpId.{OpId}
use Rattle.board_model.specs.Limits.{most_posted, most_delayed}
use Rattle.board_model.specs.declared.agents.Master.{Master as MasterAgent}
use Rattle.board_model.specs.declared.agents.Target.{Target as TargetAgent}
use Rattle.board_model.specs.declared.bridge.Bridge.{Bridge}
use Rattle.board_model.specs.declared.bridge.Lane.{Lane as BridgeLane}
use Rattle.board_model.specs.declared.op.Op.{Op}
use Rattle.board_model.specs.declared.board.Board.{Board}
use Rattle.board_model.specs.Requests.{op_of, phases_of, request_on, tries_of, is_posted}
use Rattle.board_model.specs.Ways.{way, end_of, pieces_of, cost_of, cost_of_try}
use Rattle.board_model.specs.Valid.{IsValid}
use Rattle.history_model.specs.declared.event.Event.{Event}
use Rattle.history_model.specs.declared.item.Carried.{Carried}
use Rattle.history_model.specs.declared.item.Carried.TheVariants.{Post, Ask, Done, Room, Gone}
use Rattle.history_model.specs.Lanes.{LaneState}
use Rattle.history_model.specs.World.{World, world_of}
use Rattle.history_model.specs.Program.{turn_of}
use Rattle.history_model.specs.Words.{through}
use Rattle.history_model.specs.Answers.{stalls_used}
use Rattle.history_model.specs.Runs.{Complete, IsIdle}
use Rattle.history_model.specs.Left as m
use Rattle.law_lanes.specs.Depths.{Within}
use Rattle.judge_lanes.proofs.RunningLemmas.{IsRunning-valid}
use Rattle.judge_state.specs.State.{KeptState, turn_in, tokens_in, gone_in}
use Rattle.machine_steps.specs.Counts.{or_zero}
use Rattle.judge_state.specs.Stands.{StandsFor}
use Rattle.judge_state.proofs.LookLemmas as look
use Rattle.judge_check.specs.remaining.Now.{world_now, posted_now, post_now, flying_now, standing_now, lane_now, bridge_now, op_now, turn_now, program_now, programs_now, stalls_now, left_now, CompleteNow}
use Rattle.judge_check.specs.remaining.Running.{IsRunning}

module _ (board : Board) (h : List Event) (k : KeptState) (stands : StandsFor board h k) where
  -- lanes, as one world
  pub world_same : world_now board k ≡ world_of board h
  world_same = λ i lane. look.lane_now board h k lane stands i

  -- posted writes on lanes
  posted_same : (on : ℕ) (o : OpId) (op : Op) → op_of board o ≡ Some op
      → posted_now board k on o op ≡ 3 * length (way board op on) + pieces_of board op on (length (phases_of op) - through h o)
  posted_same on o op is =
      let gone : gone_in k.gone o ≡ through h o = ap or_zero (stands.gone o op is) in
      ap (λ (n : ℕ). 3 * length (way board op on) + pieces_of board op on (length (phases_of op) - n)) gone

  post_same : (lane : BridgeLane) (o : OpId) → post_now board k lane o (op_of board o) ≡ m.post_left board h lane o (op_of board o)
  post_same lane o =
      let P : Option Op → Type 0 = λ found. op_of board o ≡ found → post_now board k lane o found ≡ m.post_left board h lane o found in
      (elim (op_of board o) as P [ None ↦ λ _. refl | Some op ↦ λ is. posted_same (end_of board lane) o op is ]) refl

  flying_same : (lane : BridgeLane) (item : Carried) → flying_now board k lane item ≡ m.flying_left board h lane item
  flying_same lane (Post o) = ap (λ (n : ℕ). n + 2) (post_same lane o)
  flying_same lane (Ask o slot) = refl
  flying_same lane (Done o slot outcome) = refl
  flying_same lane Room = refl
  flying_same lane (Gone slot) = refl

  standing_same : (lane : BridgeLane) (item : Carried) → standing_now board k lane item ≡ m.standing_left board h lane item
  standing_same lane (Post o) = ap (λ (n : ℕ). n + 1) (post_same lane o)
  standing_same lane (Ask o slot) = refl
  standing_same lane (Done o slot outcome) = refl
  standing_same lane Room = refl
  standing_same lane (Gone slot) = refl

  lane_same : (lane : BridgeLane) → lane_now board k lane ≡ m.lane_left board h lane
  lane_same lane =
      let now : LaneState = world_of board h lane in
      let there : lane_now board k lane ≡ total (flying_now board k lane) now.flight + total (standing_now board k lane) now.standing =
      ap (λ (l : LaneState). total (flying_now board k lane) l.flight + total (standing_now board k lane) l.standing) (look.lane_now board h k lane stands) in
      let flight = total_same (flying_now board k lane) (m.flying_left board h lane) (flying_same lane) now.flight in
      let standing = total_same (standing_now board k lane) (m.standing_left board h lane) (standing_same lane) now.standing in
      omega (arith, there, flight, standing)

  bridge_same : (bridge : Bridge) → bridge_now board k bridge ≡ m.bridge_left board h bridge
  bridge_same bridge =
      omega (arith, lane_same (record { bus = bridge.bus; up = false }), lane_same (record { bus = bridge.bus; up = true }))

  -- programs
  op_same : (on : ℕ) (o : OpId) (op : Op) → op_of board o ≡ Some op → op_now board k on o op ≡ m.op_left board h on o op
  op_same on o op is =
      let posted : ℕ = 3 * length (way board op on) + pieces_of board op on (length (phases_of op) - through h o) in
      let tries : ℕ = (tries_of op - (o.attempt + 1)) * cost_of_try board on op in
      ap (λ (n : ℕ). if is_posted (request_on op on) then n else m.delayed_left (world_now board k) o (way board op on) + tries) (posted_same on o op is)
      ∙ ap (λ (world : World). if is_posted (request_on op on) then posted else m.delayed_left world o (way board op on) + tries) world_same

  turn_same : (on : ℕ) (o : OpId) → turn_now board k on o (op_of board o) ≡ m.turn_left board h on o (op_of board o)
  turn_same on o =
      let P : Option Op → Type 0 = λ found. op_of board o ≡ found → turn_now board k on o found ≡ m.turn_left board h on o found in
      (elim (op_of board o) as P [ None ↦ λ _. refl | Some op ↦ λ is. op_same on o op is ]) refl

  program_same : (master : MasterAgent) (turn : Option OpId) → program_now board k master turn ≡ m.program_left board h master turn
  program_same master None = refl
  program_same master (Some o) = ap (λ (n : ℕ). n + total (cost_of board master.bus) (drop (o.index + 1) master.ops)) (turn_same master.bus o)

  programs_same : (index : ℕ) (masters : List MasterAgent) → programs_now board k index masters ≡ m.programs_left board h index masters
  programs_same index [] = refl
  programs_same index (master ∷ masters) =
      let first : program_now board k master (turn_in k.turns index) ≡ m.program_left board h master (turn_of board h index) =
      ap (program_now board k master) (stands.turns index) ∙ program_same master (turn_of board h index) in
      omega (arith, first, programs_same (index + 1) masters)

  -- stall tokens
  stalls_same : (index : ℕ) (targets : List TargetAgent) → ((n : ℕ) (target : TargetAgent) → slice_get targets n ≡ Some target → slice_get board.targets (index + n) ≡ Some target)
      → stalls_now k index targets ≡ m.stalls_left h index targets
  stalls_same index [] there = refl
  stalls_same index (target ∷ targets) there =
      let here : slice_get board.targets index ≡ Some target = subst (λ (n : ℕ). slice_get board.targets n ≡ Some target) (omega arith) (there 0 target refl) in
      let first : tokens_in k.tokens index ≡ target.stalls - stalls_used h index = ap or_zero (stands.tokens index target here) in
      let behind : (n : ℕ) (other : TargetAgent) → slice_get targets n ≡ Some other → slice_get board.targets ((index + 1) + n) ≡ Some other =
      λ n other is. subst (λ (place : ℕ). slice_get board.targets place ≡ Some other) (omega arith) (there (n + 1) other (rw add-one is)) in
      omega (arith, first, stalls_same (index + 1) targets behind)

  -- all of it
  pub left_same : left_now board k ≡ m.left_of board h
  left_same =
      let programs = programs_same 0 board.masters in
      let bridges = total_same (bridge_now board k) (m.bridge_left board h) bridge_same board.bridges in
      let stalls = stalls_same 0 board.targets (λ n target is. subst (λ (place : ℕ). slice_get board.targets place ≡ Some target) (omega arith) is) in
      let discards = ap (λ (world : World). total (m.discard_left board world) board.discards) world_same in
      let drops = ap (λ (world : World). total (m.drop_left world) board.drops) world_same in
      omega (arith, programs, bridges, stalls, discards, drops)

  -- completeness
  pub complete_same : CompleteNow board k ↔ Complete board h
  complete_same =
      let P : World → Type 0 = λ world. AllByRecursion (λ (bridge : Bridge). IsIdle (world (record { bus = bridge.bus; up = false })) × IsIdle (world (record { bus = bridge.bus; up = true }))) board.bridges in (
        λ now. record { ended = λ master below. sym (stands.turns master) ∙ now.ended master below; idle = subst P world_same now.idle },
        λ was. record { ended = λ master below. stands.turns master ∙ was.ended master below; idle = subst P (sym world_same) was.idle },
      )

  -- and the numbers are bounded as they are in a run
  pub running_kept : IsValid board → IsRunning board k
  running_kept valid =
      let running = IsRunning-valid board h valid stands.run in
      record {
        well_formed = running.well_formed;
        decodable = running.decodable;
        short = running.short;
        discards = running.discards;
        drops = running.drops;
        lanes = λ lane. subst (Within most_posted most_delayed) (sym (look.lane_now board h k lane stands)) (running.lanes lane);
      }
