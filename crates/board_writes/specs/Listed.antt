-- The polls of a board, in a list.
use Rattle.std.specs.Prelude.{◌≡◌, ℕ, true, ◌<◌, List, Contains, slice_get, ◌⊎◌}
use Rattle.pci_command.specs.declared.op_id.OpId.{OpId}
use Rattle.board_model.specs.declared.op.Op.{Op}
use Rattle.board_model.specs.declared.board.Board.{Board}
use Rattle.board_model.specs.Requests.{op_of}
use Rattle.safe_model.specs.Clocks.{is_poll, at_place}
use Rattle.board_writes.specs.Rows.{is_tried_at}

-- these are the polls of the board, each by its first try
pub record ListsPolls (board : Board) (ops : List OpId) : Type 0 where
  pub are : (o : OpId) → Contains ops o → is_poll (op_of board o) ≡ true
  pub first : (o : OpId) → Contains ops o → o.attempt ≡ 0
  pub all : (master index : ℕ) → is_poll (op_of board (at_place master index)) ≡ true → Contains ops (at_place master index)

-- a poll of the first so many operations of a program
abbrev pub IsAmong : ℕ → List Op → ℕ → OpId → Type 0
IsAmong master program count o = (index : ℕ) × (index < count) × (is_tried_at (slice_get program index) ≡ true) × (at_place master index ≡ o)

-- the polls of the first so many operations of a program are put behind others
pub record AddsPolls (master : ℕ) (program : List Op) (count : ℕ) (old new : List OpId) : Type 0 where
  pub kept : (o : OpId) → Contains old o → Contains new o
  pub added : (o : OpId) → IsAmong master program count o → Contains new o
  pub only : (o : OpId) → Contains new o → Contains old o ⊎ IsAmong master program count o
