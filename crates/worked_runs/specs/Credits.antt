-- Credits.
use Rattle.std.specs.Prelude.{ℕ, true, false, List, [], ◌∷◌, Some, None, codes}
use Rattle.pci_command.specs.declared.command.Command.TheVariants.{MemWrite}
use Rattle.pci_command.specs.declared.command.Space.TheVariants.{Mem}
use Rattle.pci_command.specs.declared.op_id.OpId.{OpId}
use Rattle.board_model.specs.declared.bridge.Place.TheVariants.{Target, Lane}
use Rattle.board_model.specs.declared.op.Op.TheVariants.{Write as WriteOp}
use Rattle.board_model.specs.declared.board.Board.{Board}
use Rattle.history_model.specs.declared.event.By.TheVariants.{Master, Lane as ByLane}
use Rattle.history_model.specs.declared.event.Mark.TheVariants.{Plain}
use Rattle.history_model.specs.declared.event.Step.TheVariants.{Land, Accept}
use Rattle.history_model.specs.declared.event.Event.{Event}
use Rattle.history_model.specs.declared.event.Event.TheVariants.{Act, Arrive}

-- an operation by master, index and try
abbrev op : ℕ → ℕ → ℕ → OpId
op master index attempt = record { master = master; index = index; attempt = attempt }

-- three writers to a bridge that holds one posted write
abbrev pub credits_board : Board
credits_board =
    record {
      bridges =
          record { bus = 1; parent = 0; device = 1; last = 1; mem = Some (record { base = 0x80000000; limit = 0x800fffff }); pref = None; io = None; posted = 1; delayed = 4; mode = false } ∷ [];
      targets =
          record {
            name = codes "ram";
            bus = 1;
            device = 1;
            vendor = 0x1234;
            model = 0x1;
            stalls = 0;
            burst = 8;
            ranges = record { space = Mem; base = 0x80000000; size = 0x1000 } ∷ [];
            aborts = [];
            openings = [];
          } ∷ [];
      masters =
          record {
            name = codes "a";
            bus = 0;
            ops = WriteOp MemWrite 0x80000000 (record { value = 0x1; enables = 15 } ∷ []) ∷ [];
          } ∷
          record {
            name = codes "b";
            bus = 0;
            ops = WriteOp MemWrite 0x80000000 (record { value = 0x2; enables = 15 } ∷ []) ∷ [];
          } ∷
          record {
            name = codes "c";
            bus = 0;
            ops = WriteOp MemWrite 0x80000000 (record { value = 0x3; enables = 15 } ∷ []) ∷ [];
          } ∷ [];
      discards = [];
      drops = [];
    }

-- its run: each writer waits for the credit of the one before
abbrev pub credits_events : List Event
credits_events =
    Act 0 Master (op 0 0 0) Accept (Lane (record { bus = 1; up = false })) ∷
    Arrive (record { bus = 1; up = false }) Plain ∷
    Act 1 (ByLane (record { bus = 1; up = false })) (op 0 0 0) Land (Target 0) ∷
    Arrive (record { bus = 1; up = true }) Plain ∷
    Act 0 Master (op 1 0 0) Accept (Lane (record { bus = 1; up = false })) ∷
    Arrive (record { bus = 1; up = false }) Plain ∷
    Act 1 (ByLane (record { bus = 1; up = false })) (op 1 0 0) Land (Target 0) ∷
    Arrive (record { bus = 1; up = true }) Plain ∷
    Act 0 Master (op 2 0 0) Accept (Lane (record { bus = 1; up = false })) ∷
    Arrive (record { bus = 1; up = false }) Plain ∷
    Act 1 (ByLane (record { bus = 1; up = false })) (op 2 0 0) Land (Target 0) ∷
    Arrive (record { bus = 1; up = true }) Plain ∷
    []
