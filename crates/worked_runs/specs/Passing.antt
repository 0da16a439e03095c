-- What passes a posted write on its lane, and what does not.
use Rattle.std.specs.Prelude.{ℕ, true, false, List, [], ◌∷◌, Some, None, codes}
use Rattle.pci_command.specs.declared.command.Command.TheVariants.{MemRead, IoWrite, MemWrite}
use Rattle.pci_command.specs.declared.command.Space.TheVariants.{Mem, Io}
use Rattle.pci_command.specs.declared.op_id.OpId.{OpId}
use Rattle.pci_command.specs.declared.op_id.Outcome.TheVariants.{Written}
use Rattle.board_model.specs.declared.bridge.Place.TheVariants.{Target, Lane}
use Rattle.board_model.specs.declared.op.Op.{Op}
use Rattle.board_model.specs.declared.op.Op.TheVariants.{Read as ReadOp, Write as WriteOp}
use Rattle.board_model.specs.declared.board.Board.{Board}
use Rattle.history_model.specs.declared.event.By.TheVariants.{Master, Lane as ByLane}
use Rattle.history_model.specs.declared.event.Mark.TheVariants.{Plain}
use Rattle.history_model.specs.declared.event.Step.{Step}
use Rattle.history_model.specs.declared.event.Step.TheVariants.{Land, Accept, Latch, Take, Stall}
use Rattle.history_model.specs.declared.event.Event.{Event}
use Rattle.history_model.specs.declared.event.Event.TheVariants.{Act, Arrive}

-- an operation by master, index and try
abbrev op : ℕ → ℕ → ℕ → OpId
op master index attempt = record { master = master; index = index; attempt = attempt }

-- a write behind the bridge, and a posted write from there that its target stalls
abbrev pub passing_board : Board
passing_board =
    record {
      bridges =
          record { bus = 1; parent = 0; device = 1; last = 1; mem = None; pref = None; io = Some (record { base = 0x1000; limit = 0x1fff }); posted = 4; delayed = 4; mode = false } ∷ [];
      targets =
          record {
            name = codes "ram";
            bus = 0;
            device = 2;
            vendor = 0x1234;
            model = 0x1;
            stalls = 5;
            burst = 8;
            ranges = record { space = Mem; base = 0x10000000; size = 0x1000 } ∷ [];
            aborts = [];
            openings = [];
          } ∷
          record {
            name = codes "reg";
            bus = 1;
            device = 1;
            vendor = 0x1234;
            model = 0x1;
            stalls = 0;
            burst = 8;
            ranges = record { space = Io; base = 0x1000; size = 0x10 } ∷ [];
            aborts = [];
            openings = [];
          } ∷ [];
      masters =
          record {
            name = codes "cpu";
            bus = 0;
            ops = WriteOp IoWrite 0x1000 (record { value = 0x1; enables = 15 } ∷ []) ∷ [];
          } ∷
          record {
            name = codes "dev";
            bus = 1;
            ops = WriteOp MemWrite 0x10000000 (record { value = 0x9; enables = 15 } ∷ []) ∷ [];
          } ∷ [];
      discards = [];
      drops = [];
    }

-- the completion of the write comes behind the posted write, and is given before that lands
abbrev pub passing_events : List Event
passing_events =
    Act 1 Master (op 1 0 0) Accept (Lane (record { bus = 1; up = true })) ∷
    Act 0 Master (op 0 0 0) Latch (Lane (record { bus = 1; up = false })) ∷
    Arrive (record { bus = 1; up = false }) Plain ∷
    Arrive (record { bus = 1; up = true }) Plain ∷
    Act 0 (ByLane (record { bus = 1; up = true })) (op 1 0 0) Stall (Target 0) ∷
    Act 1 (ByLane (record { bus = 1; up = false })) (op 0 0 0) Land (Target 1) ∷
    Arrive (record { bus = 1; up = true }) Plain ∷
    Act 0 (ByLane (record { bus = 1; up = true })) (op 1 0 0) Stall (Target 0) ∷
    Act 0 Master (op 0 0 0) (Take Written) (Lane (record { bus = 1; up = false })) ∷
    Act 0 (ByLane (record { bus = 1; up = true })) (op 1 0 0) Stall (Target 0) ∷
    Act 0 (ByLane (record { bus = 1; up = true })) (op 1 0 0) Stall (Target 0) ∷
    Act 0 (ByLane (record { bus = 1; up = true })) (op 1 0 0) Stall (Target 0) ∷
    Act 0 (ByLane (record { bus = 1; up = true })) (op 1 0 0) Land (Target 0) ∷
    Arrive (record { bus = 1; up = false }) Plain ∷
    []

-- a posted write, and another operation of its master behind it
abbrev pub behind_board : Op → Board
behind_board second =
    record {
      bridges = record { bus = 1; parent = 0; device = 1; last = 1; mem = None; pref = None; io = None; posted = 4; delayed = 4; mode = false } ∷ [];
      targets =
          record {
            name = codes "ram";
            bus = 0;
            device = 2;
            vendor = 0x1234;
            model = 0x1;
            stalls = 0;
            burst = 8;
            ranges = record { space = Mem; base = 0x10000000; size = 0x1000 } ∷ record { space = Io; base = 0x1000; size = 0x10 } ∷ [];
            aborts = [];
            openings = [];
          } ∷ [];
      masters =
          record {
            name = codes "dev";
            bus = 1;
            ops = WriteOp MemWrite 0x10000000 (record { value = 0x9; enables = 15 } ∷ []) ∷ second ∷ [];
          } ∷ [];
      discards = [];
      drops = [];
    }

-- a read of the dword that the posted write changes, a write in I/O space, and a second posted write
abbrev pub read_behind : Op
read_behind = ReadOp MemRead 0x10000000

-- the same of the write in I/O space
abbrev pub io_write_behind : Op
io_write_behind = WriteOp IoWrite 0x1000 (record { value = 0x1; enables = 15 } ∷ [])

-- the same of the second posted write
abbrev pub write_behind : Op
write_behind = WriteOp MemWrite 0x10000004 (record { value = 0xa; enables = 15 } ∷ [])

-- the second operation enters the lane by the one step, and ends by the other before the posted write that stands
-- before it
abbrev pub behind_events : Step → Step → List Event
behind_events enters ends =
    Act 1 Master (op 0 0 0) Accept (Lane (record { bus = 1; up = true })) ∷
    Act 1 Master (op 0 1 0) enters (Lane (record { bus = 1; up = true })) ∷
    Arrive (record { bus = 1; up = true }) Plain ∷
    Arrive (record { bus = 1; up = true }) Plain ∷
    Act 0 (ByLane (record { bus = 1; up = true })) (op 0 1 0) ends (Target 0) ∷
    []
