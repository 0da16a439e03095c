-- Lanes with room for what one more event brings.
use Rattle.std.specs.Prelude.{◌≡◌, ℕ, List, Option, Some, None, slice_get}
use Rattle.board_model.specs.declared.board.Board.{Board}
use Rattle.history_model.specs.Lanes.{Both}
use Rattle.judge_lanes.specs.Room.{HaveRoom}
use Rattle.judge_state.specs.State.{place_of}

-- there is room on the lanes at this place, where there is one
abbrev pub RoomAt : List Both → Option ℕ → Type 0
RoomAt lanes None = Unit {0}
RoomAt lanes (Some place) = (x : Both) → slice_get lanes place ≡ Some x → HaveRoom 2 x

-- on the lanes of the bridge to the bus, where there is one
abbrev pub RoomOn : Board → List Both → Option ℕ → Type 0
RoomOn board lanes None = Unit {0}
RoomOn board lanes (Some bus) = RoomAt lanes (place_of board bus)

-- on the lanes of every bridge
abbrev pub HaveRooms : Board → List Both → Type 0
HaveRooms board lanes = (bus : ℕ) → RoomAt lanes (place_of board bus)
