-- A turn of a worker, after another one.
use Rattle.std.specs.Prelude.{◌≡◌, ℕ, ◌+◌, ◌-◌, ◌≤◌, false, List, length, vec_len}
use Rattle.std.specs.Vec.{vec_capacity}
use Rattle.board_model.specs.Limits.{most_agents, room_of_a_turn, most_ports, most_of_a_turn}
use Rattle.board_model.specs.declared.board.Board.{Board}
use Rattle.board_model.specs.Valid.{IsValid}
use Rattle.lane_items.specs.declared.item.Item.{Item}
use Rattle.bus_core.specs.Bus.{shape_of}
use Rattle.bus_segment.specs.Segment.{SegmentView}
use Rattle.bus_segment.specs.Steps.{StampsRise, ArrivedUpTo}
use Rattle.bus_segment.specs.Turn.{Does, IsQuietAtZero}
use Rattle.bus_segment.specs.turns.Works.{seen}
use Rattle.bus_segment.specs.declared.turns.worker.Worker.{Worker}

-- the worker, of a valid board, may do a turn
pub record MayTurn {End : Type 0} (board : Board) (w : Worker End) : Type 0 where
  pub valid : IsValid board
  pub going : w.segment.stopped ≡ false
  pub ends : length w.segment.ends.items ≡ length w.segment.bus.ports
  pub few_ports : length w.segment.bus.ports ≤ most_ports
  pub few_masters : length w.segment.bus.masters ≤ most_agents
  pub counts : ArrivedUpTo (length w.segment.events.items) w.segment.bus
  pub spare : room_of_a_turn ≤ vec_capacity w.segment.events - vec_len w.segment.events

-- what is seen of its segment
abbrev pub segment_of : {End : Type 0} → Worker End → SegmentView
segment_of w = seen w.segment.bus w.segment.stamp w.segment.stopped

-- it did a turn that made so many events; of one that made none it is known that there was nothing to do
pub record DoesTurn {End : Type 0} (had sent got : End → List Item) (kept : End → ℕ) (paired : End → End → Type 0) (board : Board) (old new : Worker End) (count : ℕ) : Type 0 where
  pub does : Does had sent got kept paired board (segment_of old) (segment_of new) old.segment.ends.items new.segment.ends.items old.segment.events.items new.segment.events.items
  pub shape : shape_of new.segment.bus ≡ shape_of old.segment.bus
  pub ends : length new.segment.ends.items ≡ length old.segment.ends.items
  pub counts : new.segment.stopped ≡ false → ArrivedUpTo (length new.segment.events.items) new.segment.bus
  pub many : length new.segment.events.items ≡ length old.segment.events.items + count
  pub few : count ≤ most_of_a_turn
  pub quiet : IsQuietAtZero had got board (segment_of old) (segment_of new) new.segment.ends.items count
  pub stamps : StampsRise sent got old.segment.stamp new.segment.stamp old.segment.ends.items new.segment.ends.items
