-- Completions that are discarded, and a request that is dropped.
use Rattle.std.specs.Prelude.{ℕ, true, false, List, [], ◌∷◌, Some, None, codes}
use Rattle.pci_command.specs.declared.command.Command.TheVariants.{IoWrite, MemRead}
use Rattle.pci_command.specs.declared.command.Space.TheVariants.{Mem, Io}
use Rattle.pci_command.specs.declared.op_id.OpId.{OpId}
use Rattle.pci_command.specs.declared.op_id.Outcome.TheVariants.{Value, Written}
use Rattle.board_model.specs.declared.bridge.Place.TheVariants.{Target, Lane}
use Rattle.board_model.specs.declared.op.Op.TheVariants.{Read as ReadOp, Write as WriteOp}
use Rattle.board_model.specs.declared.board.Board.{Board}
use Rattle.history_model.specs.declared.event.By.TheVariants.{Master, Lane as ByLane}
use Rattle.history_model.specs.declared.event.Mark.TheVariants.{Plain, Discard, Drop}
use Rattle.history_model.specs.declared.event.Step.TheVariants.{Land, Read, Latch, Take}
use Rattle.history_model.specs.declared.event.Event.{Event}
use Rattle.history_model.specs.declared.event.Event.TheVariants.{Act, Arrive}
use Rattle.worked_runs.specs.Bursts.{burst_board}

-- an operation by master, index and try
abbrev op : ℕ → ℕ → ℕ → OpId
op master index attempt = record { master = master; index = index; attempt = attempt }

-- the completion of a read, through the bridges of the first burst
abbrev pub discarded_board : Board
discarded_board =
    record burst_board {
      masters =
          record {
            name = codes "cpu";
            bus = 0;
            ops = ReadOp MemRead 0x80000000 ∷ [];
          } ∷ [];
      discards = record { bus = 1; up = true; count = 1 } ∷ [];
    }

-- its run: the read is asked for once more, and its second completion is taken
abbrev pub discarded_events : List Event
discarded_events =
    Act 0 Master (op 0 0 0) Latch (Lane (record { bus = 1; up = false })) ∷
    Arrive (record { bus = 1; up = false }) Plain ∷
    Act 1 (ByLane (record { bus = 1; up = false })) (op 0 0 0) Latch (Lane (record { bus = 2; up = false })) ∷
    Arrive (record { bus = 2; up = false }) Plain ∷
    Act 2 (ByLane (record { bus = 2; up = false })) (op 0 0 0) (Read 0x0) (Target 0) ∷
    Arrive (record { bus = 2; up = true }) Plain ∷
    Act 1 (ByLane (record { bus = 1; up = false })) (op 0 0 0) (Take (Value 0x0)) (Lane (record { bus = 2; up = false })) ∷
    Arrive (record { bus = 1; up = true }) Discard ∷
    Act 0 Master (op 0 0 0) Latch (Lane (record { bus = 1; up = false })) ∷
    Arrive (record { bus = 1; up = false }) Plain ∷
    Act 1 (ByLane (record { bus = 1; up = false })) (op 0 0 0) Latch (Lane (record { bus = 2; up = false })) ∷
    Arrive (record { bus = 2; up = false }) Plain ∷
    Act 2 (ByLane (record { bus = 2; up = false })) (op 0 0 0) (Read 0x0) (Target 0) ∷
    Arrive (record { bus = 2; up = true }) Plain ∷
    Act 1 (ByLane (record { bus = 1; up = false })) (op 0 0 0) (Take (Value 0x0)) (Lane (record { bus = 2; up = false })) ∷
    Arrive (record { bus = 1; up = true }) Plain ∷
    Act 0 Master (op 0 0 0) (Take (Value 0x0)) (Lane (record { bus = 1; up = false })) ∷
    []

-- the completion of a delayed write, which lands twice
abbrev pub landed_twice_board : Board
landed_twice_board =
    record {
      bridges =
          record { bus = 1; parent = 0; device = 1; last = 1; mem = None; pref = None; io = Some (record { base = 0x1000; limit = 0x1fff }); posted = 4; delayed = 4; mode = false } ∷ [];
      targets =
          record {
            name = codes "reg";
            bus = 1;
            device = 1;
            vendor = 0x1234;
            model = 0x1;
            stalls = 0;
            burst = 8;
            ranges = record { space = Io; base = 0x1000; size = 0x10 } ∷ [];
            aborts = [];
            openings = [];
          } ∷ [];
      masters =
          record {
            name = codes "cpu";
            bus = 0;
            ops = WriteOp IoWrite 0x1000 (record { value = 0x1; enables = 15 } ∷ []) ∷ [];
          } ∷ [];
      discards = record { bus = 1; up = true; count = 1 } ∷ [];
      drops = [];
    }

-- its run: the write is latched once more, and lands once more
abbrev pub landed_twice_events : List Event
landed_twice_events =
    Act 0 Master (op 0 0 0) Latch (Lane (record { bus = 1; up = false })) ∷
    Arrive (record { bus = 1; up = false }) Plain ∷
    Act 1 (ByLane (record { bus = 1; up = false })) (op 0 0 0) Land (Target 0) ∷
    Arrive (record { bus = 1; up = true }) Discard ∷
    Act 0 Master (op 0 0 0) Latch (Lane (record { bus = 1; up = false })) ∷
    Arrive (record { bus = 1; up = false }) Plain ∷
    Act 1 (ByLane (record { bus = 1; up = false })) (op 0 0 0) Land (Target 0) ∷
    Arrive (record { bus = 1; up = true }) Plain ∷
    Act 0 Master (op 0 0 0) (Take Written) (Lane (record { bus = 1; up = false })) ∷
    []

-- a delayed request
abbrev pub dropped_board : Board
dropped_board =
    record {
      bridges =
          record { bus = 1; parent = 0; device = 1; last = 1; mem = Some (record { base = 0x80000000; limit = 0x800fffff }); pref = None; io = None; posted = 4; delayed = 4; mode = false } ∷ [];
      targets =
          record {
            name = codes "ram";
            bus = 1;
            device = 1;
            vendor = 0x1234;
            model = 0x1;
            stalls = 0;
            burst = 8;
            ranges = record { space = Mem; base = 0x80000000; size = 0x1000 } ∷ [];
            aborts = [];
            openings = [];
          } ∷ [];
      masters =
          record {
            name = codes "cpu";
            bus = 0;
            ops = ReadOp MemRead 0x80000000 ∷ [];
          } ∷ [];
      discards = [];
      drops = record { bus = 1; up = false; count = 1 } ∷ [];
    }

-- its run: the word that the request was dropped frees the slot, and the read is latched again
abbrev pub dropped_events : List Event
dropped_events =
    Act 0 Master (op 0 0 0) Latch (Lane (record { bus = 1; up = false })) ∷
    Arrive (record { bus = 1; up = false }) Drop ∷
    Arrive (record { bus = 1; up = true }) Plain ∷
    Act 0 Master (op 0 0 0) Latch (Lane (record { bus = 1; up = false })) ∷
    Arrive (record { bus = 1; up = false }) Plain ∷
    Act 1 (ByLane (record { bus = 1; up = false })) (op 0 0 0) (Read 0x0) (Target 0) ∷
    Arrive (record { bus = 1; up = true }) Plain ∷
    Act 0 Master (op 0 0 0) (Take (Value 0x0)) (Lane (record { bus = 1; up = false })) ∷
    []
