-- What is kept is what the history made.
use Rattle.std.proofs.Common.{◌≡◌, ℕ, ◌==◌, ◌&&◌, List, Option, None, Some, refl, sym, ap, ◌∙◌}
use Rattle.std.specs.Prelude.{slice_get}
use Rattle.pci_command.specs.declared.op_id.OpId.{OpId}
use Rattle.board_model.specs.declared.bridge.Bridge.{Bridge}
use Rattle.board_model.specs.declared.bridge.Lane.{Lane as BridgeLane}
use Rattle.board_model.specs.declared.board.Board.{Board}
use Rattle.history_model.specs.declared.event.By.{By}
use Rattle.history_model.specs.declared.event.By.TheVariants.{Master, Lane as ByLane}
use Rattle.history_model.specs.declared.event.Event.{Event}
use Rattle.history_model.specs.declared.rule.Rule.{Rule}
use Rattle.history_model.specs.declared.rule.Rule.TheVariants.{Tagged}
use Rattle.history_model.specs.Lanes.{LaneState}
use Rattle.history_model.specs.World.{World, world_by, world_of}
use Rattle.history_model.specs.Answers.{is_on, is_turn, presents_by, wants_by, wants, bridge_to}
use Rattle.history_model.specs.Runs.{mark_of_first, next_mark, next_mark_in}
use Rattle.board_model.specs.Ways.{end_of}
use Rattle.law_lanes.proofs.rules.Laws.{Quiet-run_by}
use Rattle.judge_lanes.specs.Bridge.{lanes_of}
use Rattle.judge_lanes.proofs.LaneLemmas.{lane_there}
use Rattle.machine_steps.proofs.LeaveLemmas.{finds_none}
use Rattle.judge_state.specs.State.{KeptState, place_of, lanes_at, lane_from, lane_in, wants_now, mark_in}
use Rattle.judge_state.specs.Stands.{StandsForBy, StandsFor}

-- a lane
pub lane_now_by : (rule : Rule) (board : Board) (h : List Event) (k : KeptState) (lane : BridgeLane) → StandsForBy rule board h k → lane_in board k.lanes lane ≡ world_by rule board h lane
lane_now_by rule board h k lane stands =
    let world : World = world_by rule board h in
    let P : Option ℕ → Type 0 = λ p. place_of board lane.bus ≡ p → lane_from lane.up (lanes_at k.lanes p) ≡ world lane in
    (elim (place_of board lane.bus) as P [
      | None ↦ λ none.
          let no_bridge : bridge_to board lane.bus ≡ None = finds_none (λ (bridge : Bridge). bridge.bus == lane.bus) board.bridges none in
          sym (Quiet-run_by rule board h lane no_bridge stands.run)
      | Some place ↦ λ at.
          let there = stands.lanes lane.bus place at in
          ap (lane_from lane.up) there ∙ (lane_there world lane (lanes_of world lane.bus) refl).0
    ]) refl

-- what is presented
pub wants_same_by : (rule : Rule) (board : Board) (h : List Event) (k : KeptState) (on : ℕ) (by : By) (o : OpId) → StandsForBy rule board h k → wants_now board k on by o ≡ wants_by rule board h on by o
wants_same_by rule board h k on Master o stands =
    ap (λ (turn : Option OpId). is_on on (slice_get board.masters o.master) && is_turn o turn) (stands.turns o.master)
wants_same_by rule board h k on (ByLane lane) o stands =
    ap (λ (r : Rule). end_of board lane == on && presents_by r board on o (lane_in board k.lanes lane).standing) stands.rule_is
    ∙ ap (λ (l : LaneState). end_of board lane == on && presents_by rule board on o l.standing) (lane_now_by rule board h k lane stands)

-- the next mark of a lane
pub mark_same_by : (rule : Rule) (board : Board) (h : List Event) (k : KeptState) (lane : BridgeLane) → StandsForBy rule board h k → mark_in board k.lanes lane ≡ next_mark_in board (world_by rule board h) lane
mark_same_by rule board h k lane stands =
    ap (λ (l : LaneState). mark_of_first board lane l l.flight) (lane_now_by rule board h k lane stands)

-- The same on bridges that keep the local master.

pub lane_now : (board : Board) (h : List Event) (k : KeptState) (lane : BridgeLane) → StandsFor board h k → lane_in board k.lanes lane ≡ world_of board h lane
lane_now board h k lane stands = lane_now_by Tagged board h k lane stands

pub wants_same : (board : Board) (h : List Event) (k : KeptState) (on : ℕ) (by : By) (o : OpId) → StandsFor board h k → wants_now board k on by o ≡ wants board h on by o
wants_same board h k on by o stands = wants_same_by Tagged board h k on by o stands

pub mark_same : (board : Board) (h : List Event) (k : KeptState) (lane : BridgeLane) → StandsFor board h k → mark_in board k.lanes lane ≡ next_mark board h lane
mark_same board h k lane stands = mark_same_by Tagged board h k lane stands
