use Rattle.std.proofs.Common.{◌≡◌, ◌++◌, List, length, drop}
use Rattle.board_model.specs.declared.board.Board.{Board}
use Rattle.history_model.specs.declared.event.Event.{Event}
use Rattle.draw_told.specs.Told.{spans_in}
use Rattle.draw_told.specs.Kept.{TellsEnds, TellsTouches}
use Rattle.draw_told.proofs.told.spans_of.Given as goal

-- the lines so far, and those to come
abbrev pub invariant-loop-one : goal.invariant-loop-one
invariant-loop-one l = record {
  told : (board : Board) (h : List Event) → TellsEnds h l.ends → TellsTouches board h l.landed →
      l.spans.items ++ spans_in board h (drop l.one-index l.found) ≡ spans_in board h l.found;
  many : length l.spans.items ≡ l.one-index;
}
