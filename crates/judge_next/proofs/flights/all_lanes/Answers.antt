use Rattle.std.proofs.Common.{◌≡◌, ◌+◌, ◌++◌, ℕ, suc, List, ap, ◌∙◌, arith}
use Rattle.board_model.specs.declared.board.Board.{Board}
use Rattle.board_model.specs.declared.bridge.Lane.{Lane as BridgeLane}
use Rattle.judge_next.specs.Lines.{lanes_below, all_lanes}
use Rattle.judge_next.proofs.flights.all_lanes.Goals as goal

pub returns : goal.returns
unfolding all_lanes
returns c =
    let all : c.loop-bus.bus ≡ 256 = omega arith in
    c.loop-bus.invariant ∙ ap (λ (n : ℕ). lanes_below n c.args.board.now) all

-- those that end on one bus more
pub loop-bus-preserved : goal.loop-bus-preserved
loop-bus-preserved c =
    let board : Board = c.args.board.now in
    let bus : ℕ = c.loop-bus.bus in
    let more : suc bus ≡ bus + 1 = omega arith in
    let lanes : List BridgeLane = lanes_below bus board in
    c.in_ok-extend_from_slice.ensures.items
    ∙ (ap (λ (xs : List BridgeLane). xs ++ c.lanes_at.result.now) c.loop-bus.invariant
    ∙ (ap (λ (xs : List BridgeLane). lanes ++ xs) c.lanes_at.ensures
    ∙ ap (λ (n : ℕ). lanes_below n board) more))
