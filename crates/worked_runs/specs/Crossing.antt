-- Reads that cross one another, through bridges that hold one delayed request each way.
use Rattle.std.specs.Prelude.{ℕ, true, false, List, [], ◌∷◌, Some, None, codes}
use Rattle.pci_command.specs.declared.command.Command.TheVariants.{MemRead, MemWrite}
use Rattle.pci_command.specs.declared.command.Space.TheVariants.{Mem}
use Rattle.pci_command.specs.declared.op_id.OpId.{OpId}
use Rattle.pci_command.specs.declared.op_id.Outcome.TheVariants.{Value}
use Rattle.board_model.specs.declared.agents.Master.{Master as MasterAgent}
use Rattle.board_model.specs.declared.bridge.Place.TheVariants.{Target, Lane}
use Rattle.board_model.specs.declared.op.Op.TheVariants.{Read as ReadOp, Write as WriteOp}
use Rattle.board_model.specs.declared.board.Board.{Board}
use Rattle.history_model.specs.declared.event.By.TheVariants.{Master, Lane as ByLane}
use Rattle.history_model.specs.declared.event.Mark.TheVariants.{Plain}
use Rattle.history_model.specs.declared.event.Step.TheVariants.{Land, Read, Accept, Latch, Take}
use Rattle.history_model.specs.declared.event.Event.{Event}
use Rattle.history_model.specs.declared.event.Event.TheVariants.{Act, Arrive}

-- an operation by master, index and try
abbrev op : ℕ → ℕ → ℕ → OpId
op master index attempt = record { master = master; index = index; attempt = attempt }

-- two reads down and two up, from four masters, and what further masters do
abbrev pub crossing : List MasterAgent → Board
crossing further =
    record {
      bridges =
          record { bus = 1; parent = 0; device = 1; last = 2; mem = Some (record { base = 0x80000000; limit = 0x800fffff }); pref = None; io = None; posted = 4; delayed = 1; mode = false } ∷
          record { bus = 2; parent = 1; device = 1; last = 2; mem = Some (record { base = 0x80000000; limit = 0x800fffff }); pref = None; io = None; posted = 4; delayed = 1; mode = false } ∷ [];
      targets =
          record {
            name = codes "top";
            bus = 0;
            device = 2;
            vendor = 0x1234;
            model = 0x1;
            stalls = 0;
            burst = 8;
            ranges = record { space = Mem; base = 0x10000000; size = 0x1000 } ∷ [];
            aborts = [];
            openings = [];
          } ∷
          record {
            name = codes "low";
            bus = 2;
            device = 1;
            vendor = 0x1234;
            model = 0x1;
            stalls = 0;
            burst = 8;
            ranges = record { space = Mem; base = 0x80000000; size = 0x1000 } ∷ [];
            aborts = [];
            openings = [];
          } ∷ [];
      masters =
          record {
            name = codes "mx";
            bus = 0;
            ops = ReadOp MemRead 0x80000000 ∷ [];
          } ∷
          record {
            name = codes "my";
            bus = 1;
            ops = ReadOp MemRead 0x10000000 ∷ [];
          } ∷
          record {
            name = codes "mz";
            bus = 1;
            ops = ReadOp MemRead 0x80000004 ∷ [];
          } ∷
          record {
            name = codes "mu";
            bus = 2;
            ops = ReadOp MemRead 0x10000004 ∷ [];
          } ∷ further;
      discards = [];
      drops = [];
    }

-- four crossing reads alone
abbrev pub crossing_board : Board
crossing_board = crossing []

-- its run, in which every read ends
abbrev pub crossing_events : List Event
crossing_events =
    Act 0 Master (op 0 0 0) Latch (Lane (record { bus = 1; up = false })) ∷
    Arrive (record { bus = 1; up = false }) Plain ∷
    Act 1 (ByLane (record { bus = 1; up = false })) (op 0 0 0) Latch (Lane (record { bus = 2; up = false })) ∷
    Arrive (record { bus = 2; up = false }) Plain ∷
    Act 1 Master (op 1 0 0) Latch (Lane (record { bus = 1; up = true })) ∷
    Arrive (record { bus = 1; up = true }) Plain ∷
    Act 0 (ByLane (record { bus = 1; up = true })) (op 1 0 0) (Read 0x0) (Target 0) ∷
    Arrive (record { bus = 1; up = false }) Plain ∷
    Act 1 Master (op 1 0 0) (Take (Value 0x0)) (Lane (record { bus = 1; up = true })) ∷
    Act 2 (ByLane (record { bus = 2; up = false })) (op 0 0 0) (Read 0x0) (Target 1) ∷
    Arrive (record { bus = 2; up = true }) Plain ∷
    Act 1 (ByLane (record { bus = 1; up = false })) (op 0 0 0) (Take (Value 0x0)) (Lane (record { bus = 2; up = false })) ∷
    Arrive (record { bus = 1; up = true }) Plain ∷
    Act 0 Master (op 0 0 0) (Take (Value 0x0)) (Lane (record { bus = 1; up = false })) ∷
    Act 1 Master (op 2 0 0) Latch (Lane (record { bus = 2; up = false })) ∷
    Arrive (record { bus = 2; up = false }) Plain ∷
    Act 2 (ByLane (record { bus = 2; up = false })) (op 2 0 0) (Read 0x0) (Target 1) ∷
    Arrive (record { bus = 2; up = true }) Plain ∷
    Act 1 Master (op 2 0 0) (Take (Value 0x0)) (Lane (record { bus = 2; up = false })) ∷
    Act 2 Master (op 3 0 0) Latch (Lane (record { bus = 2; up = true })) ∷
    Arrive (record { bus = 2; up = true }) Plain ∷
    Act 1 (ByLane (record { bus = 2; up = true })) (op 3 0 0) Latch (Lane (record { bus = 1; up = true })) ∷
    Arrive (record { bus = 1; up = true }) Plain ∷
    Act 0 (ByLane (record { bus = 1; up = true })) (op 3 0 0) (Read 0x0) (Target 0) ∷
    Arrive (record { bus = 1; up = false }) Plain ∷
    Act 1 (ByLane (record { bus = 2; up = true })) (op 3 0 0) (Take (Value 0x0)) (Lane (record { bus = 1; up = true })) ∷
    Arrive (record { bus = 2; up = false }) Plain ∷
    Act 2 Master (op 3 0 0) (Take (Value 0x0)) (Lane (record { bus = 2; up = true })) ∷
    []

-- and a posted write among them
abbrev pub crossing_posted_board : Board
crossing_posted_board =
    crossing
    (record {
      name = codes "mp";
      bus = 0;
      ops = WriteOp MemWrite 0x80000040 (record { value = 0x1; enables = 15 } ∷ []) ∷ [];
    } ∷ [])

-- its run, in which every read ends and the write lands
abbrev pub crossing_posted_events : List Event
crossing_posted_events =
    Act 0 Master (op 0 0 0) Latch (Lane (record { bus = 1; up = false })) ∷
    Arrive (record { bus = 1; up = false }) Plain ∷
    Act 0 Master (op 4 0 0) Accept (Lane (record { bus = 1; up = false })) ∷
    Arrive (record { bus = 1; up = false }) Plain ∷
    Act 1 (ByLane (record { bus = 1; up = false })) (op 0 0 0) Latch (Lane (record { bus = 2; up = false })) ∷
    Arrive (record { bus = 2; up = false }) Plain ∷
    Act 1 (ByLane (record { bus = 1; up = false })) (op 4 0 0) Accept (Lane (record { bus = 2; up = false })) ∷
    Arrive (record { bus = 1; up = true }) Plain ∷
    Arrive (record { bus = 2; up = false }) Plain ∷
    Act 1 Master (op 1 0 0) Latch (Lane (record { bus = 1; up = true })) ∷
    Arrive (record { bus = 1; up = true }) Plain ∷
    Act 0 (ByLane (record { bus = 1; up = true })) (op 1 0 0) (Read 0x0) (Target 0) ∷
    Arrive (record { bus = 1; up = false }) Plain ∷
    Act 1 Master (op 1 0 0) (Take (Value 0x0)) (Lane (record { bus = 1; up = true })) ∷
    Act 2 (ByLane (record { bus = 2; up = false })) (op 0 0 0) (Read 0x0) (Target 1) ∷
    Arrive (record { bus = 2; up = true }) Plain ∷
    Act 1 (ByLane (record { bus = 1; up = false })) (op 0 0 0) (Take (Value 0x0)) (Lane (record { bus = 2; up = false })) ∷
    Arrive (record { bus = 1; up = true }) Plain ∷
    Act 0 Master (op 0 0 0) (Take (Value 0x0)) (Lane (record { bus = 1; up = false })) ∷
    Act 1 Master (op 2 0 0) Latch (Lane (record { bus = 2; up = false })) ∷
    Arrive (record { bus = 2; up = false }) Plain ∷
    Act 2 (ByLane (record { bus = 2; up = false })) (op 4 0 0) Land (Target 1) ∷
    Arrive (record { bus = 2; up = true }) Plain ∷
    Act 2 (ByLane (record { bus = 2; up = false })) (op 2 0 0) (Read 0x0) (Target 1) ∷
    Arrive (record { bus = 2; up = true }) Plain ∷
    Act 1 Master (op 2 0 0) (Take (Value 0x0)) (Lane (record { bus = 2; up = false })) ∷
    Act 2 Master (op 3 0 0) Latch (Lane (record { bus = 2; up = true })) ∷
    Arrive (record { bus = 2; up = true }) Plain ∷
    Act 1 (ByLane (record { bus = 2; up = true })) (op 3 0 0) Latch (Lane (record { bus = 1; up = true })) ∷
    Arrive (record { bus = 1; up = true }) Plain ∷
    Act 0 (ByLane (record { bus = 1; up = true })) (op 3 0 0) (Read 0x0) (Target 0) ∷
    Arrive (record { bus = 1; up = false }) Plain ∷
    Act 1 (ByLane (record { bus = 2; up = true })) (op 3 0 0) (Take (Value 0x0)) (Lane (record { bus = 1; up = true })) ∷
    Arrive (record { bus = 2; up = false }) Plain ∷
    Act 2 Master (op 3 0 0) (Take (Value 0x0)) (Lane (record { bus = 2; up = true })) ∷
    []
