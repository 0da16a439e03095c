-- What a bus put on a lane that begins there, beside what came to it on the lane back: each posted write is owed until
-- its credit came back, and each delayed request holds its slot until it was answered (PCI-to-PCI Bridge Architecture
-- Specification 1.1, chapter 5, Buffer Management; from memory).
use Rattle.std.specs.Prelude.{◌≡◌, ℕ, ◌+◌, ◌≤◌, List, length, Some}
use Rattle.list_facts.specs.Lists.{total}
use Rattle.board_model.specs.declared.bridge.Bridge.{Bridge}
use Rattle.board_model.specs.declared.bridge.Lane.{Lane as BridgeLane}
use Rattle.board_model.specs.declared.board.Board.{Board}
use Rattle.history_model.specs.declared.item.Carried.{Carried}
use Rattle.history_model.specs.declared.item.Carried.TheVariants.{Post, Ask, Done, Room, Gone}
use Rattle.history_model.specs.Lanes.{Both}
use Rattle.history_model.specs.Answers.{bridge_to}
use Rattle.law_lanes.specs.Credits.{post_count, room_count}

-- counts delayed requests
abbrev pub ask_count : Carried → ℕ
ask_count (Post op) = 0
ask_count (Ask op slot) = 1
ask_count (Done op slot outcome) = 0
ask_count Room = 0
ask_count (Gone slot) = 0

-- counts completions
abbrev pub done_count : Carried → ℕ
done_count (Post op) = 0
done_count (Ask op slot) = 0
done_count (Done op slot outcome) = 1
done_count Room = 0
done_count (Gone slot) = 0

-- counts what answers a delayed request: completions, and words of dropped requests
abbrev pub answer_count : Carried → ℕ
answer_count (Post op) = 0
answer_count (Ask op slot) = 0
answer_count (Done op slot outcome) = 1
answer_count Room = 0
answer_count (Gone slot) = 1

-- one side of a bridge that takes so many posted writes and so many delayed requests each way, as its bus knows it:
-- `here` is the lane that begins on the bus, on which all that the bus put there is in flight, `back` the lane that ends
-- there, and `came` all that came on it, of which what did not arrive yet is in flight
pub record Side (posted delayed : ℕ) (came : List Carried) (x : Both) : Type 0 where
  -- a posted write that was put there is owed, or its credit arrived
  pub posts : total post_count x.here.flight + total room_count x.back.flight ≤ x.here.owed + total room_count came
  -- a credit was put there for a posted write that came, arrived and left
  pub rooms : total room_count x.here.flight + total post_count x.back.standing + total post_count x.back.flight ≤ total post_count came
  -- a delayed request that was put there holds a slot, or its answer arrived and left
  pub asks : total ask_count x.here.flight + total done_count x.back.standing + total answer_count x.back.flight ≤ length x.here.held + total answer_count came
  -- an answer was put there for a delayed request that came, arrived and left
  pub answers : total answer_count x.here.flight + total ask_count x.back.standing + total ask_count x.back.flight ≤ total ask_count came
  pub few_owed : x.here.owed ≤ posted
  pub few_held : length x.here.held ≤ delayed

-- the bridge of the lane, where it is there, takes at most so many posted writes and delayed requests each way
abbrev pub HasDepths : Board → BridgeLane → ℕ → ℕ → Type 0
HasDepths board lane posted delayed =
    (bridge : Bridge) → bridge_to board lane.bus ≡ Some bridge → (bridge.posted ≤ posted) × (bridge.delayed ≤ delayed)
