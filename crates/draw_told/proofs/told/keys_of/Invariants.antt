use Rattle.std.proofs.Common.{◌≡◌, ℕ, List, take}
use Rattle.board_model.specs.declared.board.Board.{Board}
use Rattle.history_model.specs.declared.event.Event.{Event}
use Rattle.draw_told.specs.Told.{spans_in, is_key_in}
use Rattle.draw_told.specs.Kept.{TellsEnds, Marks}
use Rattle.draw_told.proofs.told.keys_of.Given as goal

-- the lines so far
abbrev pub invariant-loop-line : goal.invariant-loop-line
invariant-loop-line l = (board : Board) (h : List Event) → TellsEnds h l.ends → l.spans ≡ spans_in board h l.found →
    Marks l.initial.keys.items l.keys.items (λ (n : ℕ). is_key_in board h (take l.line l.found) n)
