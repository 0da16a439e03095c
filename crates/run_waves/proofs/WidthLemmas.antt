-- A number that is shown of a lane, a master or a target has no more bits than its signal is declared with.
use Rattle.std.proofs.Common.{◌≡◌, ℕ, zero, suc, ◌+◌, ◌-◌, ◌<◌, ◌≤◌, lit<, true, cond, count_by, List, [], ◌∷◌, ◌++◌, length, take, reverse, Option, Some, None, is_some, slice_get, refl, sym, ap, subst, ◌∙◌, arith, append_assoc, append-nil}
use Rattle.std.specs.Fmt.{digits}
use Rattle.std.specs.Option.{option_map_or}
use Rattle.std.proofs.lemmas.Grind.{reverse_onto}
use Rattle.std.proofs.lemmas.List.Recursion.{is_count_by}
use Rattle.list_facts.specs.Lists.{total}
use Rattle.list_facts.proofs.TestLemmas.{list_all-get}
use Rattle.list_facts.proofs.TotalLemmas.{total-alike}
use Rattle.pci_command.specs.declared.op_id.OpId.{OpId}
use Rattle.board_model.specs.Limits.{most_posted, most_delayed, most_ops, most_tries}
use Rattle.board_model.specs.declared.agents.Master.{Master}
use Rattle.board_model.specs.declared.agents.Target.{Target}
use Rattle.board_model.specs.declared.bridge.Lane.{Lane as BridgeLane}
use Rattle.board_model.specs.declared.op.Op.{Op}
use Rattle.board_model.specs.declared.board.Board.{Board}
use Rattle.board_model.specs.Requests.{op_of}
use Rattle.board_model.specs.Ways.{lane_back}
use Rattle.board_model.specs.WellFormed.{is_well_formed_master, is_well_formed_target}
use Rattle.board_model.specs.Valid.{IsValid}
use Rattle.board_model.proofs.Laws.{WellFormed-parts, Master-parts, Target-parts, op_limits}
use Rattle.history_model.specs.declared.event.Event.{Event}
use Rattle.history_model.specs.declared.item.Carried.{Carried}
use Rattle.history_model.specs.declared.item.Carried.TheVariants.{Post, Ask, Done, Room, Gone}
use Rattle.history_model.specs.Lanes.{is_post}
use Rattle.history_model.specs.World.{both, world_of}
use Rattle.history_model.specs.Program.{turn_of}
use Rattle.history_model.specs.Answers.{is_turn, stalls_used}
use Rattle.history_model.specs.Runs.{Run, history_of}
use Rattle.history_model.proofs.facts.BridgeLemmas.{lane_back_back}
use Rattle.history_model.proofs.facts.RequestLemmas.{same_op_self}
use Rattle.history_model.proofs.facts.TurnLemmas.{turn_is_there}
use Rattle.law_lanes.specs.Credits.{post_count}
use Rattle.law_lanes.specs.Depths.{Within}
use Rattle.law_lanes.specs.Slots.{slot_weight, ask_weight, done_weight, places}
use Rattle.law_lanes.proofs.Laws.{Within-limits, Slots-run, Credits-run, WellFormed-depths}
use Rattle.law_bound.proofs.changes.Laws.{turn_master}
use Rattle.run_waves.specs.declared.signal.LaneCount.{LaneCount}
use Rattle.run_waves.specs.declared.signal.LaneCount.TheVariants.{Owed, Held, Flight, Posts, Requests, Completions}
use Rattle.run_waves.specs.declared.signal.Signal.{Signal}
use Rattle.run_waves.specs.declared.signal.Signal.TheVariants.{Bus, Lane, Index, Try, Waits, Stall}
use Rattle.run_waves.specs.Shown.{Moment, past, beginning, next, Number, is_request, is_completion, count_on, ops_of, index_of, try_of, stalls_of, shown}
use Rattle.run_waves.specs.Told.{moment_from}
use Rattle.run_waves.specs.Widths.{is_kept, FitsIn, NumbersFit}
use Rattle.run_waves.proofs.DumpLemmas.{first_run}

-- Lanes: what stands is counted by what it is owed or held for.

post_more : (item : Carried) (items : List Carried) → total post_count (item ∷ items) ≡ cond (is_post item) (1 + total post_count items) (total post_count items)
post_more (Post op) items = refl
post_more (Ask op slot) items = omega arith
post_more (Done op slot outcome) items = omega arith
post_more Room items = omega arith
post_more (Gone slot) items = omega arith

request_more : (item : Carried) (items : List Carried)
    → total (ask_weight (λ _. 1)) (item ∷ items) ≡ cond (is_request item) (1 + total (ask_weight (λ _. 1)) items) (total (ask_weight (λ _. 1)) items)
request_more (Post op) items = omega arith
request_more (Ask op slot) items = refl
request_more (Done op slot outcome) items = omega arith
request_more Room items = omega arith
request_more (Gone slot) items = omega arith

completion_more : (item : Carried) (items : List Carried)
    → total (done_weight (λ _. 1)) (item ∷ items) ≡ cond (is_completion item) (1 + total (done_weight (λ _. 1)) items) (total (done_weight (λ _. 1)) items)
completion_more (Post op) items = omega arith
completion_more (Ask op slot) items = omega arith
completion_more (Done op slot outcome) items = refl
completion_more Room items = omega arith
completion_more (Gone slot) items = omega arith

module _ (board : Board) (valid : IsValid board) (h : List Event) (run : Run board h) where
  little : (lane : BridgeLane) → Within most_posted most_delayed (world_of board h lane)
  little lane = Within-limits board h lane (WellFormed-depths board valid.well_formed) run

  few_posts : (lane : BridgeLane) → count_by is_post (world_of board h lane).standing ≤ most_posted
  few_posts lane =
      let standing : List Carried = (world_of board h lane).standing in
      let owed = (Credits-run board h lane run).owed in
      let most = (little lane).owed in
      omega (arith, owed, most, is_count_by (total post_count) is_post refl post_more standing)

  -- each slot has one item
  slots_held : (lane : BridgeLane) → places (λ _. 1) (both (world_of board h) lane) ≤ most_delayed
  slots_held lane =
      let one_place = (Slots-run board h lane run).one_place (λ _. 1) in
      let held = (little lane).held in
      omega (arith, one_place, held, total-alike (slot_weight (λ _. 1)) 1 (λ _. refl) (world_of board h lane).held)

  few_requests : (lane : BridgeLane) → count_by is_request (world_of board h lane).standing ≤ most_delayed
  few_requests lane =
      let standing : List Carried = (world_of board h lane).standing in
      let held : places (λ _. 1) (both (world_of board h) lane) ≤ most_delayed = slots_held lane in
      omega (arith, held, is_count_by (total (ask_weight (λ _. 1))) is_request refl request_more standing)

  few_completions : (lane : BridgeLane) → count_by is_completion (world_of board h lane).standing ≤ most_delayed
  few_completions lane =
      let P : BridgeLane → Type 0 = λ l. count_by is_completion (world_of board h l).standing ≤ most_delayed in
      let there : BridgeLane = lane_back (lane_back lane) in
      let held : places (λ _. 1) (both (world_of board h) (lane_back lane)) ≤ most_delayed = slots_held (lane_back lane) in
      let few : P there = omega (arith, held, is_count_by (total (done_weight (λ _. 1))) is_completion refl completion_more (world_of board h there).standing) in
      subst P (lane_back_back lane) few

  lane_fits : (lane : BridgeLane) (count : LaneCount) → FitsIn (Lane lane count) (count_on count (world_of board h lane))
  unfolding digits
  lane_fits lane Owed = let most = (little lane).owed in record { bits = 4; declared = refl; fits = omega (arith, most) }
  lane_fits lane Held = let most = (little lane).held in record { bits = 4; declared = refl; fits = omega (arith, most) }
  lane_fits lane Flight = let most = (little lane).flight in record { bits = 6; declared = refl; fits = omega (arith, most) }
  lane_fits lane Posts = record { bits = 4; declared = refl; fits = omega (arith, few_posts lane) }
  lane_fits lane Requests = record { bits = 4; declared = refl; fits = omega (arith, few_requests lane) }
  lane_fits lane Completions = record { bits = 4; declared = refl; fits = omega (arith, few_completions lane) }

  -- Masters: an operation that is a turn is there.

  turn_limits : (master : ℕ) (o : OpId) → turn_of board h master ≡ Some o → (o.index < most_ops) × (o.attempt < most_tries)
  turn_limits master o turn =
      let itself : turn_of board h o.master ≡ Some o = ap (turn_of board h) (turn_master board h master o turn) ∙ turn in
      let is : is_turn o (turn_of board h o.master) ≡ true = subst (λ found. is_turn o found ≡ true) (sym itself) (same_op_self o) in
      let P : Option Op → Type 0 = λ found. op_of board o ≡ found → is_some found ≡ true → (o.index < most_ops) × (o.attempt < most_tries) in
      (elim (op_of board o) as P [ None ↦ λ _ there. cc | Some op ↦ λ found _. op_limits board o op valid.well_formed found ]) refl (turn_is_there board h o is)

  few_ops : (master : ℕ) → ops_of board master ≤ most_ops
  few_ops master =
      let P : Option Master → Type 0 = λ found. slice_get board.masters master ≡ found → option_map_or (λ agent. length agent.ops) found 0 ≤ most_ops in
      (elim (slice_get board.masters master) as P [
        | None ↦ λ _. omega arith
        | Some agent ↦ λ there.
            (Master-parts agent (list_all-get is_well_formed_master board.masters master agent (WellFormed-parts board valid.well_formed).masters there)).few
      ]) refl

  index_fits : (master : ℕ) → FitsIn (Index master) (index_of (ops_of board master) (turn_of board h master))
  unfolding digits
  index_fits master =
      let P : Option OpId → Type 0 = λ turn. turn_of board h master ≡ turn → FitsIn (Index master) (index_of (ops_of board master) turn) in
      (elim (turn_of board h master) as P [
        | None ↦ λ _. record { bits = 11; declared = refl; fits = omega (arith, few_ops master) }
        | Some o ↦ λ turn. let within = (turn_limits master o turn).0 in record { bits = 11; declared = refl; fits = omega (arith, within) }
      ]) refl

  try_fits : (master : ℕ) → FitsIn (Try master) (try_of (turn_of board h master))
  unfolding digits
  try_fits master =
      let P : Option OpId → Type 0 = λ turn. turn_of board h master ≡ turn → FitsIn (Try master) (try_of turn) in
      (elim (turn_of board h master) as P [
        | None ↦ λ _. record { bits = 16; declared = refl; fits = lit< tt }
        | Some o ↦ λ turn. let within = (turn_limits master o turn).1 in record { bits = 16; declared = refl; fits = within }
      ]) refl

  -- Targets.

  few_tokens : (target : ℕ) → stalls_of board target ≤ 1000000
  few_tokens target =
      let P : Option Target → Type 0 = λ found. slice_get board.targets target ≡ found → option_map_or (λ agent. agent.stalls) found 0 ≤ 1000000 in
      (elim (slice_get board.targets target) as P [
        | None ↦ λ _. omega arith
        | Some agent ↦ λ there.
            (Target-parts agent (list_all-get is_well_formed_target board.targets target agent (WellFormed-parts board valid.well_formed).targets there)).stalls
      ]) refl

  stall_fits : (target : ℕ) → FitsIn (Stall target) (stalls_of board target - stalls_used h target)
  unfolding digits
  stall_fits target = record { bits = 20; declared = refl; fits = omega (arith, few_tokens target) }

-- All that is kept.

kept_fits : (board : Board) (m : Moment) (signal : Signal) (number : ℕ) → IsValid board → Run board (past m) → is_kept signal ≡ true → shown board m signal ≡ Number number → FitsIn signal number
kept_fits board m (Bus bus part) number valid run kept is = cc
kept_fits board m (Lane lane count) number valid run kept is =
    let same : count_on count (world_of board (past m) lane) ≡ number = cc in subst (FitsIn (Lane lane count)) same (lane_fits board valid (past m) run lane count)
kept_fits board m (Index master) number valid run kept is =
    let same : index_of (ops_of board master) (turn_of board (past m) master) ≡ number = cc in subst (FitsIn (Index master)) same (index_fits board valid (past m) run master)
kept_fits board m (Try master) number valid run kept is =
    let same : try_of (turn_of board (past m) master) ≡ number = cc in subst (FitsIn (Try master)) same (try_fits board valid (past m) run master)
kept_fits board m (Waits master) number valid run kept is = cc
kept_fits board m (Stall target) number valid run kept is =
    let same : stalls_of board target - stalls_used (past m) target ≡ number = cc in subst (FitsIn (Stall target)) same (stall_fits board valid (past m) run target)

-- what has happened at a moment is what its run begins with
past_moment : (m : Moment) (events : List Event) (n : ℕ) → past (moment_from m events n) ≡ reverse (take n events) ++ past m
past_moment m events zero = refl
past_moment m [] (suc n) = refl
past_moment m (e ∷ events) (suc n) =
    past_moment (next m e) events n ∙ sym (append_assoc (reverse (take n events)) (e ∷ []) (past m)) ∙ ap (λ (h : List Event). h ++ past m) (sym (reverse_onto (take n events) e []))

pub numbers_fit : (board : Board) (events : List Event) → IsValid board → Run board (history_of events) → NumbersFit board events
numbers_fit board events valid run = λ n number signal _ kept is.
    let m : Moment = moment_from beginning events n in
    let so_far : past m ≡ history_of (take n events) = past_moment beginning events n ∙ append-nil (reverse (take n events)) in
    kept_fits board m signal number valid (subst (Run board) (sym so_far) (first_run board events n run)) kept is
