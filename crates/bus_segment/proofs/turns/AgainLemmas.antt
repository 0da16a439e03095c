-- What is known of a turn by its steps.
use Rattle.std.proofs.Common.{◌≡◌, ℕ, ◌-◌, ◌≤◌, Bool, true, false, ◌||◌, List, length, refl, arith}
use Rattle.board_model.specs.Limits.{most_of_a_turn}
use Rattle.board_model.specs.declared.board.Board.{Board}
use Rattle.lane_items.specs.declared.item.Item.{Item}
use Rattle.bus_segment.specs.Steps.{ArrivedUpTo}
use Rattle.bus_segment.specs.Turn.{HasNothingToDo}
use Rattle.bus_segment.specs.declared.turns.worker.Worker.{Worker}
use Rattle.bus_segment.specs.turns.Works.{Works}
use Rattle.bus_segment.specs.turns.Again.{segment_of, DoesTurn}

-- all events of the steps are those of the turn
pub works_turn : {End : Type 0} (had sent got : End → List Item) (kept : End → ℕ) (paired : End → End → Type 0) (board : Board) (limit : ℕ) (old new : Worker End) (count : ℕ) → limit ≤ most_of_a_turn
    → Works had sent got kept paired board limit (segment_of old) (segment_of new) old.segment.ends.items new.segment.ends.items old.segment.events.items new.segment.events.items → ArrivedUpTo (length old.segment.events.items) old.segment.bus
    → count ≡ length new.segment.events.items - length old.segment.events.items
    → (length new.segment.events.items ≡ length old.segment.events.items → new.segment.stopped ≡ false → HasNothingToDo had got board (segment_of old) new.segment.ends.items) → DoesTurn had sent got kept paired board old new count
works_turn had sent got kept paired board limit old new count few works up is quiet =
    record {
      does = works.does;
      shape = works.shape;
      ends = works.does.many;
      counts = λ on. works.counts on up;
      many = omega (arith, is, works.grows);
      few = omega (arith, is, works.most, few);
      quiet = λ none still. quiet (omega (arith, is, none, works.grows)) still;
      stamps = works.stamps;
    }

-- a turn goes on where neither is so; of two of which one is so it is the other, if it is not the first
pub or_neither : (a b : Bool) → (a || b) ≡ false → a ≡ false
or_neither true b is = cc
or_neither false b is = refl

pub or_second : (a b : Bool) → (a || b) ≡ true → a ≡ false → b ≡ true
or_second true b is off = cc
or_second false b is off = is
