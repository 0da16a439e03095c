-- 64-bit addresses.
use Rattle.std.specs.Prelude.{ℕ, true, false, List, [], ◌∷◌, Some, None, codes}
use Rattle.pci_command.specs.declared.command.Command.TheVariants.{MemRead, MemWrite}
use Rattle.pci_command.specs.declared.command.Space.TheVariants.{Mem}
use Rattle.pci_command.specs.declared.op_id.OpId.{OpId}
use Rattle.pci_command.specs.declared.op_id.Outcome.TheVariants.{Value}
use Rattle.board_model.specs.declared.bridge.Place.TheVariants.{Target, Lane}
use Rattle.board_model.specs.declared.op.Op.TheVariants.{Read as ReadOp, Write as WriteOp}
use Rattle.board_model.specs.declared.board.Board.{Board}
use Rattle.history_model.specs.declared.event.By.TheVariants.{Master, Lane as ByLane}
use Rattle.history_model.specs.declared.event.Mark.TheVariants.{Plain}
use Rattle.history_model.specs.declared.event.Step.TheVariants.{Land, Read, Accept, Latch, Take}
use Rattle.history_model.specs.declared.event.Event.{Event}
use Rattle.history_model.specs.declared.event.Event.TheVariants.{Act, Arrive}

-- an operation by master, index and try
abbrev op : ℕ → ℕ → ℕ → OpId
op master index attempt = record { master = master; index = index; attempt = attempt }

-- a write and a read above 2^32, through a prefetchable window
abbrev pub wide_board : Board
wide_board =
    record {
      bridges =
          record { bus = 1; parent = 0; device = 1; last = 1; mem = None; pref = Some (record { base = 0x100000000; limit = 0x1000fffff }); io = None; posted = 4; delayed = 4; mode = false } ∷ [];
      targets =
          record {
            name = codes "ram";
            bus = 1;
            device = 1;
            vendor = 0x1234;
            model = 0x1;
            stalls = 0;
            burst = 8;
            ranges = record { space = Mem; base = 0x100000000; size = 0x1000 } ∷ [];
            aborts = [];
            openings = [];
          } ∷ [];
      masters =
          record {
            name = codes "cpu";
            bus = 0;
            ops = WriteOp MemWrite 0x100000040 (record { value = 0x5; enables = 15 } ∷ []) ∷ ReadOp MemRead 0x100000040 ∷ [];
          } ∷ [];
      discards = [];
      drops = [];
    }

-- its run: the read comes behind the posted write
abbrev pub wide_events : List Event
wide_events =
    Act 0 Master (op 0 0 0) Accept (Lane (record { bus = 1; up = false })) ∷
    Act 0 Master (op 0 1 0) Latch (Lane (record { bus = 1; up = false })) ∷
    Arrive (record { bus = 1; up = false }) Plain ∷
    Act 1 (ByLane (record { bus = 1; up = false })) (op 0 0 0) Land (Target 0) ∷
    Arrive (record { bus = 1; up = true }) Plain ∷
    Arrive (record { bus = 1; up = false }) Plain ∷
    Act 1 (ByLane (record { bus = 1; up = false })) (op 0 1 0) (Read 0x5) (Target 0) ∷
    Arrive (record { bus = 1; up = true }) Plain ∷
    Act 0 Master (op 0 1 0) (Take (Value 0x5)) (Lane (record { bus = 1; up = false })) ∷
    []
