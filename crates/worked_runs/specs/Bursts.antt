-- Bursts.
use Rattle.std.specs.Prelude.{ℕ, true, false, List, [], ◌∷◌, Some, None, codes}
use Rattle.pci_command.specs.declared.command.Command.TheVariants.{MemRead, MemWrite}
use Rattle.pci_command.specs.declared.command.Space.TheVariants.{Mem}
use Rattle.pci_command.specs.declared.op_id.OpId.{OpId}
use Rattle.board_model.specs.declared.bridge.Place.TheVariants.{Target, Lane}
use Rattle.board_model.specs.declared.op.Op.TheVariants.{Read as ReadOp, Write as WriteOp}
use Rattle.board_model.specs.declared.board.Board.{Board}
use Rattle.history_model.specs.declared.event.By.TheVariants.{Master, Lane as ByLane}
use Rattle.history_model.specs.declared.event.Mark.TheVariants.{Plain}
use Rattle.history_model.specs.declared.event.Step.TheVariants.{Land, Part, Read, Accept}
use Rattle.history_model.specs.declared.event.Event.{Event}
use Rattle.history_model.specs.declared.event.Event.TheVariants.{Act, Arrive}

-- an operation by master, index and try
abbrev op : ℕ → ℕ → ℕ → OpId
op master index attempt = record { master = master; index = index; attempt = attempt }

-- eight data phases through two bridges
abbrev pub burst_board : Board
burst_board =
    record {
      bridges =
          record { bus = 1; parent = 0; device = 1; last = 2; mem = Some (record { base = 0x80000000; limit = 0x800fffff }); pref = None; io = None; posted = 4; delayed = 4; mode = false } ∷
          record { bus = 2; parent = 1; device = 1; last = 2; mem = Some (record { base = 0x80000000; limit = 0x800fffff }); pref = None; io = None; posted = 4; delayed = 4; mode = false } ∷ [];
      targets =
          record {
            name = codes "ram";
            bus = 2;
            device = 1;
            vendor = 0x1234;
            model = 0x1;
            stalls = 0;
            burst = 8;
            ranges = record { space = Mem; base = 0x80000000; size = 0x1000 } ∷ [];
            aborts = [];
            openings = [];
          } ∷ [];
      masters =
          record {
            name = codes "cpu";
            bus = 0;
            ops = WriteOp MemWrite 0x80000020 (record { value = 0x1; enables = 15 } ∷ record { value = 0x2; enables = 15 } ∷ record { value = 0x3; enables = 15 } ∷ record { value = 0x4; enables = 15 } ∷ record { value = 0x5; enables = 15 } ∷ record { value = 0x6; enables = 15 } ∷ record { value = 0x7; enables = 15 } ∷ record { value = 0x8; enables = 15 } ∷ []) ∷ [];
          } ∷ [];
      discards = [];
      drops = [];
    }

-- its run: the write lands whole
abbrev pub burst_events : List Event
burst_events =
    Act 0 Master (op 0 0 0) Accept (Lane (record { bus = 1; up = false })) ∷
    Arrive (record { bus = 1; up = false }) Plain ∷
    Act 1 (ByLane (record { bus = 1; up = false })) (op 0 0 0) Accept (Lane (record { bus = 2; up = false })) ∷
    Arrive (record { bus = 1; up = true }) Plain ∷
    Arrive (record { bus = 2; up = false }) Plain ∷
    Act 2 (ByLane (record { bus = 2; up = false })) (op 0 0 0) Land (Target 0) ∷
    Arrive (record { bus = 2; up = true }) Plain ∷
    []

-- the same to a target that takes three at a time
abbrev pub parted_board : Board
parted_board =
    record {
      bridges =
          record { bus = 1; parent = 0; device = 1; last = 2; mem = Some (record { base = 0x80000000; limit = 0x800fffff }); pref = None; io = None; posted = 4; delayed = 4; mode = false } ∷
          record { bus = 2; parent = 1; device = 1; last = 2; mem = Some (record { base = 0x80000000; limit = 0x800fffff }); pref = None; io = None; posted = 4; delayed = 4; mode = false } ∷ [];
      targets =
          record {
            name = codes "ram";
            bus = 2;
            device = 1;
            vendor = 0x1234;
            model = 0x1;
            stalls = 0;
            burst = 3;
            ranges = record { space = Mem; base = 0x80000000; size = 0x1000 } ∷ [];
            aborts = [];
            openings = [];
          } ∷ [];
      masters =
          record {
            name = codes "cpu";
            bus = 0;
            ops = WriteOp MemWrite 0x80000020 (record { value = 0x1; enables = 15 } ∷ record { value = 0x2; enables = 15 } ∷ record { value = 0x3; enables = 15 } ∷ record { value = 0x4; enables = 15 } ∷ record { value = 0x5; enables = 15 } ∷ record { value = 0x6; enables = 15 } ∷ record { value = 0x7; enables = 15 } ∷ record { value = 0x8; enables = 15 } ∷ []) ∷ [];
          } ∷ [];
      discards = [];
      drops = [];
    }

-- its run: three data phases, three more, and the rest
abbrev pub parted_events : List Event
parted_events =
    Act 0 Master (op 0 0 0) Accept (Lane (record { bus = 1; up = false })) ∷
    Arrive (record { bus = 1; up = false }) Plain ∷
    Act 1 (ByLane (record { bus = 1; up = false })) (op 0 0 0) Accept (Lane (record { bus = 2; up = false })) ∷
    Arrive (record { bus = 1; up = true }) Plain ∷
    Arrive (record { bus = 2; up = false }) Plain ∷
    Act 2 (ByLane (record { bus = 2; up = false })) (op 0 0 0) (Part 3) (Target 0) ∷
    Act 2 (ByLane (record { bus = 2; up = false })) (op 0 0 0) (Part 3) (Target 0) ∷
    Act 2 (ByLane (record { bus = 2; up = false })) (op 0 0 0) Land (Target 0) ∷
    Arrive (record { bus = 2; up = true }) Plain ∷
    []

-- a read between the parts of a write
abbrev pub between_board : Board
between_board =
    record {
      bridges = [];
      targets =
          record {
            name = codes "ram";
            bus = 0;
            device = 1;
            vendor = 0x1234;
            model = 0x1;
            stalls = 0;
            burst = 1;
            ranges = record { space = Mem; base = 0x10000000; size = 0x1000 } ∷ [];
            aborts = [];
            openings = [];
          } ∷ [];
      masters =
          record {
            name = codes "a";
            bus = 0;
            ops = WriteOp MemWrite 0x10000000 (record { value = 0x1; enables = 15 } ∷ record { value = 0x2; enables = 15 } ∷ record { value = 0x3; enables = 15 } ∷ []) ∷ [];
          } ∷
          record {
            name = codes "b";
            bus = 0;
            ops = ReadOp MemRead 0x10000000 ∷ ReadOp MemRead 0x10000008 ∷ [];
          } ∷ [];
      discards = [];
      drops = [];
    }

-- its run: each read comes between two parts
abbrev pub between_events : List Event
between_events =
    Act 0 Master (op 0 0 0) (Part 1) (Target 0) ∷
    Act 0 Master (op 1 0 0) (Read 0x1) (Target 0) ∷
    Act 0 Master (op 0 0 0) (Part 1) (Target 0) ∷
    Act 0 Master (op 1 1 0) (Read 0x0) (Target 0) ∷
    Act 0 Master (op 0 0 0) Land (Target 0) ∷
    []

-- the write in parts, and the read of the dword that the first part brought
abbrev pub parted_write : OpId
parted_write = op 0 0 0

-- the same of the read
abbrev pub read_between : OpId
read_between = op 1 0 0
