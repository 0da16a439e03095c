-- Nobody claims.
use Rattle.std.specs.Prelude.{ℕ, true, false, List, [], ◌∷◌, Some, None, codes}
use Rattle.pci_command.specs.declared.command.Command.TheVariants.{MemRead, MemWrite}
use Rattle.pci_command.specs.declared.op_id.OpId.{OpId}
use Rattle.pci_command.specs.declared.op_id.Outcome.TheVariants.{Value, Aborted}
use Rattle.board_model.specs.declared.bridge.Place.TheVariants.{Lane, Nobody}
use Rattle.board_model.specs.declared.op.Op.TheVariants.{Read as ReadOp, Write as WriteOp}
use Rattle.board_model.specs.declared.board.Board.{Board}
use Rattle.history_model.specs.declared.event.By.TheVariants.{Master, Lane as ByLane}
use Rattle.history_model.specs.declared.event.Mark.TheVariants.{Plain}
use Rattle.history_model.specs.declared.event.Step.TheVariants.{Accept, Latch, Take, MasterAbort}
use Rattle.history_model.specs.declared.event.Event.{Event}
use Rattle.history_model.specs.declared.event.Event.TheVariants.{Act, Arrive}

-- an operation by master, index and try
abbrev op : ℕ → ℕ → ℕ → OpId
op master index attempt = record { master = master; index = index; attempt = attempt }

-- a read and a write that nobody claims behind a bridge
abbrev pub unclaimed_board : Board
unclaimed_board =
    record {
      bridges =
          record { bus = 1; parent = 0; device = 1; last = 1; mem = Some (record { base = 0x80000000; limit = 0x800fffff }); pref = None; io = None; posted = 4; delayed = 4; mode = false } ∷ [];
      targets = [];
      masters =
          record {
            name = codes "cpu";
            bus = 0;
            ops = ReadOp MemRead 0x80000000 ∷ WriteOp MemWrite 0x80000000 (record { value = 0x1; enables = 15 } ∷ []) ∷ [];
          } ∷ [];
      discards = [];
      drops = [];
    }

-- its run: the read returns all ones, and the write is lost
abbrev pub unclaimed_events : List Event
unclaimed_events =
    Act 0 Master (op 0 0 0) Latch (Lane (record { bus = 1; up = false })) ∷
    Arrive (record { bus = 1; up = false }) Plain ∷
    Act 1 (ByLane (record { bus = 1; up = false })) (op 0 0 0) MasterAbort Nobody ∷
    Arrive (record { bus = 1; up = true }) Plain ∷
    Act 0 Master (op 0 0 0) (Take (Value 0xffffffff)) (Lane (record { bus = 1; up = false })) ∷
    Act 0 Master (op 0 1 0) Accept (Lane (record { bus = 1; up = false })) ∷
    Arrive (record { bus = 1; up = false }) Plain ∷
    Act 1 (ByLane (record { bus = 1; up = false })) (op 0 1 0) MasterAbort Nobody ∷
    Arrive (record { bus = 1; up = true }) Plain ∷
    []

-- the same behind a bridge in the other master abort mode
abbrev pub aborted_board : Board
aborted_board =
    record {
      bridges =
          record { bus = 1; parent = 0; device = 1; last = 1; mem = Some (record { base = 0x80000000; limit = 0x800fffff }); pref = None; io = None; posted = 4; delayed = 4; mode = true } ∷ [];
      targets = [];
      masters =
          record {
            name = codes "cpu";
            bus = 0;
            ops = ReadOp MemRead 0x80000000 ∷ WriteOp MemWrite 0x80000000 (record { value = 0x1; enables = 15 } ∷ []) ∷ [];
          } ∷ [];
      discards = [];
      drops = [];
    }

-- its run: the read ends with an abort, and the write is lost
abbrev pub aborted_events : List Event
aborted_events =
    Act 0 Master (op 0 0 0) Latch (Lane (record { bus = 1; up = false })) ∷
    Arrive (record { bus = 1; up = false }) Plain ∷
    Act 1 (ByLane (record { bus = 1; up = false })) (op 0 0 0) MasterAbort Nobody ∷
    Arrive (record { bus = 1; up = true }) Plain ∷
    Act 0 Master (op 0 0 0) (Take Aborted) (Lane (record { bus = 1; up = false })) ∷
    Act 0 Master (op 0 1 0) Accept (Lane (record { bus = 1; up = false })) ∷
    Arrive (record { bus = 1; up = false }) Plain ∷
    Act 1 (ByLane (record { bus = 1; up = false })) (op 0 1 0) MasterAbort Nobody ∷
    Arrive (record { bus = 1; up = true }) Plain ∷
    []
