-- The title of an item in a picture, and the rows in which the item is drawn.
use Rattle.std.specs.Prelude.{ℕ, List, [], ◌∷◌, ◌++◌, codes, nat_lt, if◌then◌else◌}
use Rattle.std.specs.Fmt.{decimal}
use Rattle.board_model.specs.declared.board.Board.{Board}
use Rattle.trace_text.specs.Words.{lane_word, op_word}
use Rattle.history_model.specs.declared.item.Carried.{Carried}
use Rattle.history_model.specs.declared.item.Carried.TheVariants.{Post, Ask, Done, Room, Gone}
use Rattle.draw_items.specs.declared.journey.Journey.{Journey}
use Rattle.draw_items.specs.Journeys.{has_stood}

-- what an item is called
abbrev pub kind_word : Carried → List ℕ
kind_word (Post op) = codes "post"
kind_word (Ask op slot) = codes "request"
kind_word (Done op slot outcome) = codes "completion"
kind_word Room = codes "credit"
kind_word (Gone slot) = codes "gone"

-- the event in which it arrived, where it did
abbrev pub came_text : Journey → List ℕ
came_text item = if nat_lt 0 item.came then codes ", arrived " ++ decimal item.came else []

-- the same of the event in which it left
abbrev pub left_text : Journey → List ℕ
left_text item = if nat_lt 0 item.left then codes ", left " ++ decimal item.left else []

-- the title: what it is, its operation and its lane, and its events
unfoldable pub title_text : Board → Journey → List ℕ
title_text board item =
    codes "<title>" ++ (kind_word item.carried ++ (32 ∷ (op_word board item.op ++ (codes " on " ++ (lane_word item.lane ++ (codes ": sent " ++ (decimal item.sent ++ (came_text item ++ (left_text item ++ codes "</title>")))))))))

-- a row, or else the row behind the last event
abbrev pub or_end : ℕ → ℕ → ℕ
or_end row end = if nat_lt 0 row then row else end

-- the last row of an item, if this one is behind the last event: where it left, and of what never stood where it came
abbrev pub last_row_of : ℕ → Journey → ℕ
last_row_of end item = if has_stood item then or_end item.left end else or_end item.came end
