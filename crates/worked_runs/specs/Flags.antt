-- A producer and a consumer.
use Rattle.std.specs.Prelude.{ℕ, true, false, List, [], ◌∷◌, Some, None, codes}
use Rattle.pci_command.specs.declared.command.Command.TheVariants.{MemRead, MemWrite}
use Rattle.pci_command.specs.declared.command.Space.TheVariants.{Mem}
use Rattle.pci_command.specs.declared.op_id.OpId.{OpId}
use Rattle.pci_command.specs.declared.op_id.Outcome.TheVariants.{Value}
use Rattle.board_model.specs.Wants.{exactly}
use Rattle.board_model.specs.declared.bridge.Place.TheVariants.{Target, Lane}
use Rattle.board_model.specs.declared.op.Op.TheVariants.{Read as ReadOp, Write as WriteOp, Poll as PollOp}
use Rattle.board_model.specs.declared.board.Board.{Board}
use Rattle.history_model.specs.declared.event.By.TheVariants.{Master, Lane as ByLane}
use Rattle.history_model.specs.declared.event.Mark.TheVariants.{Plain}
use Rattle.history_model.specs.declared.event.Step.TheVariants.{Land, Read, Accept, Latch, Take, Stall}
use Rattle.history_model.specs.declared.event.Event.{Event}
use Rattle.history_model.specs.declared.event.Event.TheVariants.{Act, Arrive}
use Rattle.law_untagged.specs.Worked.{flag_target}

-- an operation by master, index and try
abbrev op : ℕ → ℕ → ℕ → OpId
op master index attempt = record { master = master; index = index; attempt = attempt }

-- data and flag on two buses, the consumer on a third
abbrev pub flag_board : Board
flag_board =
    record {
      bridges =
          record { bus = 1; parent = 0; device = 1; last = 1; mem = Some (record { base = 0x80000000; limit = 0x800fffff }); pref = None; io = None; posted = 4; delayed = 4; mode = false } ∷
          record { bus = 2; parent = 0; device = 2; last = 2; mem = None; pref = None; io = None; posted = 4; delayed = 4; mode = false } ∷ [];
      targets =
          record {
            name = codes "ram";
            bus = 0;
            device = 3;
            vendor = 0x1234;
            model = 0x1;
            stalls = 4;
            burst = 8;
            ranges = record { space = Mem; base = 0x10000000; size = 0x1000 } ∷ [];
            aborts = [];
            openings = [];
          } ∷
          flag_target ∷ [];
      masters =
          record {
            name = codes "prod";
            bus = 1;
            ops = WriteOp MemWrite 0x10000000 (record { value = 0x7; enables = 15 } ∷ []) ∷ WriteOp MemWrite 0x80000000 (record { value = 0x1; enables = 15 } ∷ []) ∷ [];
          } ∷
          record {
            name = codes "cons";
            bus = 2;
            ops = PollOp Mem 0x80000000 (exactly 0x1) 9 ∷ ReadOp MemRead 0x10000000 ∷ [];
          } ∷ [];
      discards = [];
      drops = [];
    }

-- its run: the completion of the poll waits behind the data
abbrev pub flag_events : List Event
flag_events =
    Act 1 Master (op 0 0 0) Accept (Lane (record { bus = 1; up = true })) ∷
    Act 2 Master (op 1 0 0) Latch (Lane (record { bus = 2; up = true })) ∷
    Arrive (record { bus = 1; up = true }) Plain ∷
    Arrive (record { bus = 2; up = true }) Plain ∷
    Act 0 (ByLane (record { bus = 1; up = true })) (op 0 0 0) Stall (Target 0) ∷
    Act 0 (ByLane (record { bus = 2; up = true })) (op 1 0 0) Latch (Lane (record { bus = 1; up = false })) ∷
    Act 1 Master (op 0 1 0) Land (Target 1) ∷
    Act 0 (ByLane (record { bus = 1; up = true })) (op 0 0 0) Stall (Target 0) ∷
    Arrive (record { bus = 1; up = false }) Plain ∷
    Act 1 (ByLane (record { bus = 1; up = false })) (op 1 0 0) (Read 0x1) (Target 1) ∷
    Arrive (record { bus = 1; up = true }) Plain ∷
    Act 0 (ByLane (record { bus = 1; up = true })) (op 0 0 0) Stall (Target 0) ∷
    Act 0 (ByLane (record { bus = 1; up = true })) (op 0 0 0) Stall (Target 0) ∷
    Act 0 (ByLane (record { bus = 1; up = true })) (op 0 0 0) Land (Target 0) ∷
    Act 0 (ByLane (record { bus = 2; up = true })) (op 1 0 0) (Take (Value 0x1)) (Lane (record { bus = 1; up = false })) ∷
    Arrive (record { bus = 1; up = false }) Plain ∷
    Arrive (record { bus = 2; up = false }) Plain ∷
    Act 2 Master (op 1 0 0) (Take (Value 0x1)) (Lane (record { bus = 2; up = true })) ∷
    Act 2 Master (op 1 1 0) Latch (Lane (record { bus = 2; up = true })) ∷
    Arrive (record { bus = 2; up = true }) Plain ∷
    Act 0 (ByLane (record { bus = 2; up = true })) (op 1 1 0) (Read 0x7) (Target 0) ∷
    Arrive (record { bus = 2; up = false }) Plain ∷
    Act 2 Master (op 1 1 0) (Take (Value 0x7)) (Lane (record { bus = 2; up = true })) ∷
    []
