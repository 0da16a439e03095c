-- What the consumer of a flag comes after in every run; and a delayed write that lands again.
use Rattle.std.specs.Prelude.{ℕ, true, false, List, [], ◌∷◌, ◌==◌, if◌then◌else◌, codes}
use Rattle.pci_command.specs.declared.command.Command.TheVariants.{IoRead, IoWrite}
use Rattle.pci_command.specs.declared.command.Space.TheVariants.{Io}
use Rattle.pci_command.specs.declared.op_id.OpId.{OpId}
use Rattle.pci_command.specs.declared.op_id.Outcome.TheVariants.{Written}
use Rattle.board_model.specs.Wants.{exactly}
use Rattle.board_model.specs.declared.bridge.Place.TheVariants.{Target, Lane}
use Rattle.board_model.specs.declared.op.Op.TheVariants.{Read as ReadOp, Write as WriteOp, Poll as PollOp}
use Rattle.board_model.specs.declared.board.Board.{Board}
use Rattle.board_model.specs.Ways.{Dword}
use Rattle.history_model.specs.declared.event.By.TheVariants.{Master, Lane as ByLane}
use Rattle.history_model.specs.declared.event.Mark.TheVariants.{Plain, Discard}
use Rattle.history_model.specs.declared.event.Step.TheVariants.{Land, Read, Latch, Take}
use Rattle.history_model.specs.declared.event.Event.{Event}
use Rattle.history_model.specs.declared.event.Event.TheVariants.{Act, Arrive}
use Rattle.safe_model.specs.Clocks.{Table}
use Rattle.worked_runs.specs.Discards.{landed_twice_board}

-- behind the consumer's poll, the only one, both writes of the first master, the producer, are known
abbrev pub flag_table : Table
flag_table = λ master index other. if other == 0 then 2 else 0

-- an operation by master, index and try
abbrev op : ℕ → ℕ → ℕ → OpId
op master index attempt = record { master = master; index = index; attempt = attempt }

-- a register is set over a bridge, whose first completion is discarded; who sees it set sets it anew, and reads it
abbrev pub again_board : Board
again_board =
    record landed_twice_board {
      masters =
          record {
            name = codes "far";
            bus = 0;
            ops = WriteOp IoWrite 0x1000 (record { value = 0x1; enables = 15 } ∷ []) ∷ [];
          } ∷
          record {
            name = codes "near";
            bus = 1;
            ops = PollOp Io 0x1000 (exactly 0x1) 9 ∷ WriteOp IoWrite 0x1000 (record { value = 0x2; enables = 15 } ∷ []) ∷ ReadOp IoRead 0x1000 ∷ [];
          } ∷ [];
    }

-- the write over the bridge
abbrev pub far_write : OpId
far_write = op 0 0 0

-- the write of who saw it
abbrev pub near_write : OpId
near_write = op 1 1 0

-- and the read behind that
abbrev pub near_read : OpId
near_read = op 1 2 0

-- the register
abbrev pub again_word : Dword
again_word = record { target = 0; space = Io; address = 0x1000 }

-- the first write lands, is seen and written over, and lands again
abbrev pub again_events : List Event
again_events =
    Act 0 Master far_write Latch (Lane (record { bus = 1; up = false })) ∷
    Arrive (record { bus = 1; up = false }) Plain ∷
    Act 1 (ByLane (record { bus = 1; up = false })) far_write Land (Target 0) ∷
    Act 1 Master (op 1 0 0) (Read 0x1) (Target 0) ∷
    Act 1 Master near_write Land (Target 0) ∷
    Arrive (record { bus = 1; up = true }) Discard ∷
    Act 0 Master far_write Latch (Lane (record { bus = 1; up = false })) ∷
    Arrive (record { bus = 1; up = false }) Plain ∷
    Act 1 (ByLane (record { bus = 1; up = false })) far_write Land (Target 0) ∷
    Act 1 Master near_read (Read 0x1) (Target 0) ∷
    Arrive (record { bus = 1; up = true }) Plain ∷
    Act 0 Master far_write (Take Written) (Lane (record { bus = 1; up = false })) ∷
    []
