-- Two reads of one address from one bus.
use Rattle.std.specs.Prelude.{ℕ, true, false, List, [], ◌∷◌, Some, None, codes}
use Rattle.pci_command.specs.declared.command.Command.TheVariants.{MemRead, MemWrite}
use Rattle.pci_command.specs.declared.command.Space.TheVariants.{Mem}
use Rattle.pci_command.specs.declared.op_id.OpId.{OpId}
use Rattle.pci_command.specs.declared.op_id.Outcome.TheVariants.{Value}
use Rattle.board_model.specs.Wants.{exactly}
use Rattle.board_model.specs.declared.bridge.Place.TheVariants.{Target, Lane}
use Rattle.board_model.specs.declared.op.Op.TheVariants.{Read as ReadOp, Write as WriteOp, Poll as PollOp}
use Rattle.board_model.specs.declared.board.Board.{Board}
use Rattle.history_model.specs.declared.event.By.TheVariants.{Master, Lane as ByLane}
use Rattle.history_model.specs.declared.event.Mark.TheVariants.{Plain}
use Rattle.history_model.specs.declared.event.Step.TheVariants.{Land, Read, Accept, Latch, Take}
use Rattle.history_model.specs.declared.event.Event.{Event}
use Rattle.history_model.specs.declared.event.Event.TheVariants.{Act, Arrive}

-- an operation by master, index and try
abbrev op : ℕ → ℕ → ℕ → OpId
op master index attempt = record { master = master; index = index; attempt = attempt }

-- two masters on one bus read one address
abbrev pub stealing_board : Board
stealing_board =
    record {
      bridges =
          record { bus = 1; parent = 0; device = 1; last = 2; mem = Some (record { base = 0x80000000; limit = 0x800fffff }); pref = None; io = None; posted = 4; delayed = 4; mode = false } ∷
          record { bus = 2; parent = 1; device = 1; last = 2; mem = Some (record { base = 0x80000000; limit = 0x800fffff }); pref = None; io = None; posted = 4; delayed = 4; mode = false } ∷ [];
      targets =
          record {
            name = codes "ram";
            bus = 0;
            device = 2;
            vendor = 0x1234;
            model = 0x1;
            stalls = 0;
            burst = 8;
            ranges = record { space = Mem; base = 0x10000000; size = 0x1000 } ∷ [];
            aborts = [];
            openings = [];
          } ∷
          record {
            name = codes "box";
            bus = 2;
            device = 1;
            vendor = 0x1234;
            model = 0x1;
            stalls = 0;
            burst = 8;
            ranges = record { space = Mem; base = 0x80000000; size = 0x1000 } ∷ [];
            aborts = [];
            openings = [];
          } ∷ [];
      masters =
          record {
            name = codes "prod";
            bus = 0;
            ops = WriteOp MemWrite 0x10000000 (record { value = 0x7; enables = 15 } ∷ []) ∷ WriteOp MemWrite 0x80000000 (record { value = 0x1; enables = 15 } ∷ []) ∷ [];
          } ∷
          record {
            name = codes "early";
            bus = 2;
            ops = ReadOp MemRead 0x10000000 ∷ [];
          } ∷
          record {
            name = codes "late";
            bus = 2;
            ops = PollOp Mem 0x80000000 (exactly 0x1) 40 ∷ ReadOp MemRead 0x10000000 ∷ [];
          } ∷ [];
      discards = [];
      drops = [];
    }

-- the completion of the older read is given to the younger one, which has not come to the bridge
abbrev pub stealing_events : List Event
stealing_events =
    Act 2 Master (op 1 0 0) Latch (Lane (record { bus = 2; up = true })) ∷
    Arrive (record { bus = 2; up = true }) Plain ∷
    Act 1 (ByLane (record { bus = 2; up = true })) (op 1 0 0) Latch (Lane (record { bus = 1; up = true })) ∷
    Arrive (record { bus = 1; up = true }) Plain ∷
    Act 0 (ByLane (record { bus = 1; up = true })) (op 1 0 0) (Read 0x0) (Target 0) ∷
    Act 0 Master (op 0 0 0) Land (Target 0) ∷
    Act 0 Master (op 0 1 0) Accept (Lane (record { bus = 1; up = false })) ∷
    Arrive (record { bus = 1; up = false }) Plain ∷
    Arrive (record { bus = 1; up = false }) Plain ∷
    Act 1 (ByLane (record { bus = 1; up = false })) (op 0 1 0) Accept (Lane (record { bus = 2; up = false })) ∷
    Arrive (record { bus = 2; up = false }) Plain ∷
    Act 2 (ByLane (record { bus = 2; up = false })) (op 0 1 0) Land (Target 1) ∷
    Act 2 Master (op 2 0 0) (Read 0x1) (Target 1) ∷
    Act 2 Master (op 2 1 0) Latch (Lane (record { bus = 2; up = true })) ∷
    Arrive (record { bus = 2; up = true }) Plain ∷
    Act 1 (ByLane (record { bus = 2; up = true })) (op 2 1 0) (Take (Value 0x0)) (Lane (record { bus = 1; up = true })) ∷
    []

-- the same, where the younger read has come to the bridge
abbrev pub held_back_events : List Event
held_back_events =
    Act 2 Master (op 1 0 0) Latch (Lane (record { bus = 2; up = true })) ∷
    Arrive (record { bus = 2; up = true }) Plain ∷
    Act 1 (ByLane (record { bus = 2; up = true })) (op 1 0 0) Latch (Lane (record { bus = 1; up = true })) ∷
    Arrive (record { bus = 1; up = true }) Plain ∷
    Act 0 (ByLane (record { bus = 1; up = true })) (op 1 0 0) (Read 0x0) (Target 0) ∷
    Act 0 Master (op 0 0 0) Land (Target 0) ∷
    Act 0 Master (op 0 1 0) Accept (Lane (record { bus = 1; up = false })) ∷
    Arrive (record { bus = 1; up = false }) Plain ∷
    Arrive (record { bus = 1; up = false }) Plain ∷
    Act 1 (ByLane (record { bus = 1; up = false })) (op 0 1 0) Accept (Lane (record { bus = 2; up = false })) ∷
    Arrive (record { bus = 2; up = false }) Plain ∷
    Act 2 (ByLane (record { bus = 2; up = false })) (op 0 1 0) Land (Target 1) ∷
    Act 2 Master (op 2 0 0) (Read 0x1) (Target 1) ∷
    Act 2 Master (op 2 1 0) Latch (Lane (record { bus = 2; up = true })) ∷
    Arrive (record { bus = 2; up = true }) Plain ∷
    Arrive (record { bus = 2; up = true }) Plain ∷
    Act 1 (ByLane (record { bus = 2; up = true })) (op 2 1 0) (Take (Value 0x0)) (Lane (record { bus = 1; up = true })) ∷
    []
