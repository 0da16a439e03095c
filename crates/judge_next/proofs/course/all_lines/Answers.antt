use Rattle.std.proofs.Common.{◌≡◌, ◌+◌, ◌<◌, ◌++◌, ◌∷◌, [], ℕ, List, length, Some, slice_get, subst, sym}
use Rattle.board_model.specs.declared.board.Board.{Board}
use Rattle.judge_next.specs.Lines.{BusLines, lines_of}
use Rattle.judge_next.proofs.RowLemmas.{row_more}
use Rattle.judge_next.proofs.course.all_lines.Goals as goal

-- the lines of one bus more
pub loop-bus-preserved : goal.loop-bus-preserved
loop-bus-preserved c =
    let board : Board = c.args.board.now in
    let lines : List BusLines = c.loop-bus.lines.items in
    let bus : ℕ = c.loop-bus.bus in
    let is : c.in_ok-of_bus.of_bus ≡ lines_of board bus = c.in_ok-of_bus.ensures in
    let pushed : c.push.new.self.items ≡ lines ++ c.in_ok-of_bus.of_bus ∷ [] = c.in_ok-push.ensures.items in
    let more = row_more (lines_of board) lines c.in_ok-of_bus.of_bus bus c.loop-bus.invariant.0 c.loop-bus.invariant.1 is in
    subst (λ (all : List BusLines). (length all ≡ bus + 1) × ((k : ℕ) → k < bus + 1 → slice_get all k ≡ Some (lines_of board k))) (sym pushed) more
