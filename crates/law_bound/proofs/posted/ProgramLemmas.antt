-- What is left of the programs and of what is on the lanes, where lanes differ only in posted writes and credits.
use Rattle.std.proofs.Common.{◌≡◌, ℕ, zero, suc, ◌+◌, ◌*◌, ◌-◌, ◌<◌, ◌≤◌, Bool, true, false, cond, nat_lt, List, [], ◌∷◌, drop, length, Option, Some, None, is_some, refl, sym, ap, subst, ◌∙◌, arith, slice_get}
use Rattle.std.specs.List.{list_any}
use Rattle.std.specs.Option.{option_and_then}
use Rattle.std.proofs.lemmas.Option.{cond_some}
use Rattle.std.proofs.lemmas.Bool.Decides.{nat_tests}
use Rattle.list_facts.specs.Lists.{total}
use Rattle.list_facts.proofs.TotalLemmas.{total-le}
use Rattle.pci_command.specs.declared.op_id.OpId.{OpId}
use Rattle.board_model.specs.declared.agents.Master.{Master as MasterAgent}
use Rattle.board_model.specs.declared.agents.Target.{Target as TargetAgent}
use Rattle.board_model.specs.declared.bridge.Lane.{Lane as BridgeLane}
use Rattle.board_model.specs.declared.op.Op.{Op}
use Rattle.board_model.specs.declared.board.Board.{Board}
use Rattle.board_model.specs.Requests.{op_of, phases_of, request_on, tries_of, is_posted}
use Rattle.board_model.specs.Ways.{way, end_of, pieces_of, cost_of, cost_of_try}
use Rattle.history_model.specs.declared.event.Event.{Event}
use Rattle.history_model.specs.declared.item.Carried.{Carried}
use Rattle.history_model.specs.declared.item.Carried.TheVariants.{Post, Ask, Done, Room, Gone}
use Rattle.history_model.specs.Lanes.{LaneState}
use Rattle.history_model.specs.World.{World, world_of}
use Rattle.history_model.specs.Program.{next_op, turn_of}
use Rattle.history_model.specs.Words.{through}
use Rattle.history_model.specs.Answers.{stalls_used}
use Rattle.history_model.specs.Left.{post_left, flying_left, standing_left, bridge_left, is_slot_of, delayed_left, op_left, turn_left, program_left, programs_left, stalls_left, left_of}
use Rattle.law_lanes.specs.order.One.{over_lanes}
use Rattle.law_bound.proofs.posted.PieceLemmas.{pieces_of_le}
use Rattle.law_bound.proofs.posted.SumLemmas.{from-le, programs_from, stalls_from, over-le}
use Rattle.law_bound.proofs.posted.AlikeLemmas.{AlikeWorlds, delayed_alike, discards_alike, drops_alike}

-- what the posted writes and credits of a lane weigh after a history, whatever is on it
abbrev pub lane_weight : Board → List Event → BridgeLane → LaneState → ℕ
lane_weight board h lane state = total (flying_left board h lane) state.flight + total (standing_left board h lane) state.standing

-- and those of all lanes
abbrev pub world_weight : Board → List Event → World → ℕ
world_weight board h world = over_lanes (λ lane. lane_weight board h lane (world lane)) board

-- the operation after another one in the program of its master
abbrev pub later_op : OpId → OpId
later_op o = record { master = o.master; index = o.index + 1; attempt = 0 }

-- After one more event, which changes only posted writes and credits on the lanes.

module _ (board : Board) (h : List Event) (e : Event) (alike : AlikeWorlds (world_of board (e ∷ h)) (world_of board h)) where
  -- the history with the event
  abbrev new : List Event
  new = e ∷ h

  -- no more pieces are left
  phases_fall : (o : OpId) (op : Op) (on : ℕ) → pieces_of board op on (length (phases_of op) - through new o) ≤ pieces_of board op on (length (phases_of op) - through h o)
  phases_fall o op on = pieces_of_le board op on (length (phases_of op) - through new o) (length (phases_of op) - through h o) (omega arith)

  -- no operation has more left
  op_falls : (on : ℕ) (o : OpId) (op : Op) → op_left board new on o op ≤ op_left board h on o op
  op_falls on o op =
      let long : ℕ = length (way board op on) in
      let tries : ℕ = (tries_of op - (o.attempt + 1)) * cost_of_try board on op in
      let P : Bool → Type 0 = λ b. cond b (3 * long + pieces_of board op on (length (phases_of op) - through new o)) (delayed_left (world_of board new) o (way board op on) + tries)
      ≤ cond b (3 * long + pieces_of board op on (length (phases_of op) - through h o)) (delayed_left (world_of board h) o (way board op on) + tries) in
      elim (is_posted (request_on op on)) as P [
        | true ↦ omega (arith, phases_fall o op on)
        | false ↦ omega (arith, delayed_alike (world_of board new) (world_of board h) o alike (way board op on))
      ]

  -- nor has a turn
  turn_falls : (on : ℕ) (o : OpId) (op : Option Op) → turn_left board new on o op ≤ turn_left board h on o op
  turn_falls on o None = omega arith
  turn_falls on o (Some op) = op_falls on o op

  -- nor has a program with the same turn
  pub program_falls : (master : MasterAgent) (turn : Option OpId) → program_left board new master turn ≤ program_left board h master turn
  program_falls master None = omega arith
  program_falls master (Some o) = omega (arith, turn_falls master.bus o (op_of board o))

  -- nor have all programs, where all turns stay
  pub programs_fall : ((i : ℕ) → turn_of board new i ≡ turn_of board h i) → programs_left board new 0 board.masters ≤ programs_left board h 0 board.masters
  programs_fall same =
      let f : ℕ → MasterAgent → ℕ = λ i master. program_left board new master (turn_of board new i) in
      let g : ℕ → MasterAgent → ℕ = λ i master. program_left board h master (turn_of board h i) in
      let each : (i : ℕ) (master : MasterAgent) → f i master ≤ g i master =
      λ i master. subst (λ t. program_left board new master t ≤ program_left board h master (turn_of board h i)) (sym (same i)) (program_falls master (turn_of board h i)) in
      omega (arith, programs_from board new 0 board.masters, programs_from board h 0 board.masters, from-le f g each 0 board.masters)

  -- nor has a lane, whatever is on it
  post_falls : (lane : BridgeLane) (o : OpId) (op : Option Op) → post_left board new lane o op ≤ post_left board h lane o op
  post_falls lane o None = omega arith
  post_falls lane o (Some op) = omega (arith, phases_fall o op (end_of board lane))

  -- in flight
  pub flying_falls : (lane : BridgeLane) (item : Carried) → flying_left board new lane item ≤ flying_left board h lane item
  flying_falls lane (Post op) = omega (arith, post_falls lane op (op_of board op))
  flying_falls lane (Ask op slot) = omega arith
  flying_falls lane (Done op slot outcome) = omega arith
  flying_falls lane Room = omega arith
  flying_falls lane (Gone slot) = omega arith

  -- or standing
  pub standing_falls : (lane : BridgeLane) (item : Carried) → standing_left board new lane item ≤ standing_left board h lane item
  standing_falls lane (Post op) = omega (arith, post_falls lane op (op_of board op))
  standing_falls lane (Ask op slot) = omega arith
  standing_falls lane (Done op slot outcome) = omega arith
  standing_falls lane Room = omega arith
  standing_falls lane (Gone slot) = omega arith

  -- so each lane
  pub lane_falls : (lane : BridgeLane) (state : LaneState) → lane_weight board new lane state ≤ lane_weight board h lane state
  lane_falls lane state =
      omega (
        arith,
        total-le (flying_left board new lane) (flying_left board h lane) (flying_falls lane) state.flight,
        total-le (standing_left board new lane) (standing_left board h lane) (standing_falls lane) state.standing,
      )

  -- and all lanes
  pub lanes_fall : total (bridge_left board new) board.bridges ≤ world_weight board h (world_of board new)
  lanes_fall = over-le (λ lane. lane_weight board new lane (world_of board new lane)) (λ lane. lane_weight board h lane (world_of board new lane)) board (λ lane. lane_falls lane (world_of board new lane))

  -- nor do stall tokens come back
  pub stalls_fall : stalls_left new 0 board.targets ≤ stalls_left h 0 board.targets
  stalls_fall =
      let f : ℕ → TargetAgent → ℕ = λ i target. target.stalls - stalls_used new i in
      let g : ℕ → TargetAgent → ℕ = λ i target. target.stalls - stalls_used h i in
      let each : (i : ℕ) (target : TargetAgent) → f i target ≤ g i target = λ i target. omega arith in
      omega (arith, stalls_from new 0 board.targets, stalls_from h 0 board.targets, from-le f g each 0 board.targets)

  -- so all that is left falls, where programs, lanes and stall tokens together fall
  pub left_falls : (a b c d : ℕ) → programs_left board new 0 board.masters + a ≤ programs_left board h 0 board.masters
      → total (bridge_left board new) board.bridges + b ≤ total (bridge_left board h) board.bridges + c
      → stalls_left new 0 board.targets + d ≤ stalls_left h 0 board.targets
      → c + 1 ≤ a + b + d → left_of board new + 1 ≤ left_of board h
  left_falls a b c d programs lanes stalls more =
      omega (
        arith,
        programs,
        lanes,
        stalls,
        more,
        discards_alike board (world_of board new) (world_of board h) alike board.discards,
        drops_alike (world_of board new) (world_of board h) alike board.drops,
      )

  -- Where a master's turn goes on.

  -- no slot is held for an operation
  abbrev pub NoSlots : OpId → Type 0
  NoSlots o = (l : BridgeLane) → list_any (is_slot_of o) (world_of board new l).held ≡ false

  -- a delayed request without slots has its whole way left
  none_reached : (o : OpId) (lanes : List BridgeLane) → NoSlots o → delayed_left (world_of board new) o lanes ≡ 4 * length lanes + 1
  none_reached o [] none = refl
  none_reached o (lane ∷ lanes) none = let here = none lane in rw here refl

  -- one try costs no more than all
  once_le : (tries c d : ℕ) → 0 < tries → c ≤ d → c ≤ tries * d
  once_le zero c d some below = absurd (omega arith)
  once_le (suc n) c d some below = omega (arith, below)

  -- the tries behind the first, and the first
  all_tries : (tries cost : ℕ) → 0 < tries → cost + (tries - 1) * cost ≤ tries * cost
  all_tries zero cost some = absurd (omega arith)
  all_tries (suc n) cost some = let e : suc n - 1 ≡ n = omega arith in rw e (omega arith)

  -- an operation at its first try for which no slot is held has its cost left, or less
  first_costs : (on : ℕ) (o : OpId) (op : Op) → o.attempt ≡ 0 → 0 < tries_of op → NoSlots o → op_left board new on o op ≤ cost_of board on op
  first_costs on o op first tried none =
      let long : ℕ = length (way board op on) in
      let all : ℕ = length (phases_of op) in
      let P : Bool → Type 0 = λ b. cond b (3 * long + pieces_of board op on (all - through new o))
      (delayed_left (world_of board new) o (way board op on) + (tries_of op - (o.attempt + 1)) * cond b (3 * long + pieces_of board op on all) (4 * long + 1))
      ≤ tries_of op * cond b (3 * long + pieces_of board op on all) (4 * long + 1) in
      elim (is_posted (request_on op on)) as P [
        | true ↦
            once_le (tries_of op) (3 * long + pieces_of board op on (all - through new o)) (3 * long + pieces_of board op on all) tried
            (omega (arith, pieces_of_le board op on (all - through new o) all (omega arith)))
        | false ↦ rw (none_reached o (way board op on) none, first) (all_tries (tries_of op) (4 * long + 1) tried)
      ]

  -- what an operation that is there says of its master's program
  record InProgram (master : MasterAgent) (o : OpId) (op : Op) : Type 0 where
    at : slice_get master.ops o.index ≡ Some op
    tried : o.attempt < tries_of op

  -- it stands there at its index
  in_program : (master : MasterAgent) (o : OpId) (op : Op) → slice_get board.masters o.master ≡ Some master → op_of board o ≡ Some op → InProgram master o op
  in_program master o op is_master is_op =
      let here : Op → Option Op = λ p. cond (nat_lt o.attempt (tries_of p)) (Some p) None in
      let F : Option MasterAgent → Type 0 = λ found. option_and_then here (option_and_then (λ (m : MasterAgent). slice_get m.ops o.index) found) ≡ Some op in
      let Q : Option Op → Type 0 = λ found. slice_get master.ops o.index ≡ found → option_and_then here found ≡ Some op → InProgram master o op in
      (elim (slice_get master.ops o.index) as Q [
        | None ↦ λ _ f. cc
        | Some p ↦ λ at f.
            let parts = cond_some (nat_lt o.attempt (tries_of p)) p op f in
            let below : o.attempt < tries_of p = grind (arith, nat_tests) in
            record { at = at ∙ ap Some parts.1; tried = subst (λ q. o.attempt < tries_of q) parts.1 below }
      ]) refl (subst F is_master is_op)

  -- a list from a place on begins with what stands at the place
  drop-at : (ops : List Op) (place : ℕ) (op : Op) → slice_get ops place ≡ Some op → drop place ops ≡ op ∷ drop (suc place) ops
  drop-at [] place op is = cc
  drop-at (p ∷ ops) zero op is = let same : p ≡ op = cc in ap (λ q. q ∷ ops) same
  drop-at (p ∷ ops) (suc place) op is = drop-at ops place op is

  -- where the turn goes on to the next operation, no more is left than the operations behind cost
  pub next_costs : (master : MasterAgent) (o : OpId) → slice_get board.masters o.master ≡ Some master → NoSlots (later_op o)
      → program_left board new master (next_op board o) ≤ total (cost_of board master.bus) (drop (o.index + 1) master.ops)
  next_costs master o is_master none =
      let next : OpId = later_op o in
      let costs : List Op → ℕ = total (cost_of board master.bus) in
      let P : Option Op → Type 0 = λ found. op_of board next ≡ found → program_left board new master (cond (is_some found) (Some next) None) ≤ costs (drop (o.index + 1) master.ops) in
      (elim (op_of board next) as P [
        | None ↦ λ _. omega arith
        | Some op ↦ λ is_op.
            let there = in_program master next op is_master is_op in
            let split : drop (o.index + 1) master.ops ≡ op ∷ drop (suc (o.index + 1)) master.ops = drop-at master.ops (o.index + 1) op there.at in
            let place : suc (o.index + 1) ≡ o.index + 1 + 1 = omega arith in
            let behind : costs (drop (o.index + 1) master.ops) ≡ cost_of board master.bus op + costs (drop (o.index + 1 + 1) master.ops) =
            ap costs split ∙ ap (λ n. cost_of board master.bus op + costs (drop n master.ops)) place in
            let turn : turn_left board new master.bus next (op_of board next) ≡ op_left board new master.bus next op = ap (turn_left board new master.bus next) is_op in
            omega (arith, behind, turn, first_costs master.bus next op refl there.tried none)
      ]) refl
