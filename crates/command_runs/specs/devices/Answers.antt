-- devices: what is written for a text of devices on a board.
use Rattle.std.specs.Prelude.{ℕ, ◌≡◌, true, List, Contains, Some, Ok}
use Rattle.pci_command.specs.declared.op_id.OpId.{OpId}
use Rattle.board_model.specs.declared.board.Board.{Board}
use Rattle.history_model.specs.declared.event.Event.{Event}
use Rattle.history_model.specs.Clear.{is_clear}
use Rattle.history_model.specs.Runs.{history_of}
use Rattle.trace_text.specs.Traces.{trace_of}
use Rattle.trace_reader.specs.Traces.{trace_read}
use Rattle.judge_check.specs.Verdicts.{CompleteRun}
use Rattle.law_delivered.specs.Delivered.{Awaits, Delivers}
use Rattle.dma_agents.specs.declared.line.Flag.{Flag}
use Rattle.dma_agents.specs.declared.line.DeviceLine.{DeviceLine}
use Rattle.dma_agents.specs.declared.line.DeviceLine.TheVariants.{Puts}
use Rattle.dma_agents.specs.declared.put.Put.{Put}
use Rattle.dma_agents.specs.Made.{flag_of}
use Rattle.dma_agents.specs.Said.{IsPut, device_lines}
use Rattle.program_input.specs.Devices.{ReadsDevices}

-- a trace of a complete run of the board, which is read as this run of it. Each poll of a clear flag delivers: where it was
-- met, what was written before the flag was raised is read. Each flag that a line waits for, at its head or as a `wait`, is
-- clear; and the writes of each `put` stand in the program of a master, each of its bytes once and in order
pub record DeliversTo (input : List ℕ) (board : Board) (trace : List ℕ) : Type 0 where
  pub events : List Event
  pub runs : CompleteRun board events
  pub delivers : (p : OpId) (address value : ℕ) → is_clear board address value ≡ true
      → Awaits board p address value → Delivers board (history_of events) p address value
  pub clear : (line : DeviceLine) (flag : Flag) → Contains (device_lines input) line → flag_of line ≡ Some flag
      → is_clear board flag.address flag.value ≡ true
  pub puts : (put : Put) → Contains (device_lines input) (Puts put) → IsPut board put
  pub written : trace ≡ trace_of board events
  pub read_back : trace_read trace ≡ Ok (board, events)

-- the input is the text of devices on a valid board, and this is written of it
pub record AnswersDevices (input trace : List ℕ) : Type 0 where
  pub board : Board
  pub reads : ReadsDevices input board
  pub run : DeliversTo input board trace
