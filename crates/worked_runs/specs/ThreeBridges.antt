-- A read over three bridges.
use Rattle.std.specs.Prelude.{ℕ, true, false, List, [], ◌∷◌, Some, None, codes}
use Rattle.pci_command.specs.declared.command.Command.TheVariants.{MemRead}
use Rattle.pci_command.specs.declared.command.Space.TheVariants.{Mem}
use Rattle.pci_command.specs.declared.op_id.OpId.{OpId}
use Rattle.pci_command.specs.declared.op_id.Outcome.TheVariants.{Value}
use Rattle.board_model.specs.declared.bridge.Place.TheVariants.{Target, Lane}
use Rattle.board_model.specs.declared.op.Op.TheVariants.{Read as ReadOp}
use Rattle.board_model.specs.declared.board.Board.{Board}
use Rattle.history_model.specs.declared.event.By.TheVariants.{Master, Lane as ByLane}
use Rattle.history_model.specs.declared.event.Mark.TheVariants.{Plain}
use Rattle.history_model.specs.declared.event.Step.TheVariants.{Read, Latch, Take}
use Rattle.history_model.specs.declared.event.Event.{Event}
use Rattle.history_model.specs.declared.event.Event.TheVariants.{Act, Arrive}

-- an operation by master, index and try
abbrev op : ℕ → ℕ → ℕ → OpId
op master index attempt = record { master = master; index = index; attempt = attempt }

-- a read from below two bridges to below a third
abbrev pub three_bridges_board : Board
three_bridges_board =
    record {
      bridges =
          record { bus = 1; parent = 0; device = 1; last = 2; mem = None; pref = None; io = None; posted = 4; delayed = 4; mode = false } ∷
          record { bus = 2; parent = 1; device = 1; last = 2; mem = None; pref = None; io = None; posted = 4; delayed = 4; mode = false } ∷
          record { bus = 3; parent = 0; device = 2; last = 3; mem = Some (record { base = 0x90000000; limit = 0x900fffff }); pref = None; io = None; posted = 4; delayed = 4; mode = false } ∷ [];
      targets =
          record {
            name = codes "ram";
            bus = 3;
            device = 1;
            vendor = 0x1234;
            model = 0x1;
            stalls = 0;
            burst = 8;
            ranges = record { space = Mem; base = 0x90000000; size = 0x1000 } ∷ [];
            aborts = [];
            openings = [];
          } ∷ [];
      masters =
          record {
            name = codes "cpu";
            bus = 2;
            ops = ReadOp MemRead 0x90000010 ∷ [];
          } ∷ [];
      discards = [];
      drops = [];
    }

-- its run: the request goes up two bridges and down one, and its completion back
abbrev pub three_bridges_events : List Event
three_bridges_events =
    Act 2 Master (op 0 0 0) Latch (Lane (record { bus = 2; up = true })) ∷
    Arrive (record { bus = 2; up = true }) Plain ∷
    Act 1 (ByLane (record { bus = 2; up = true })) (op 0 0 0) Latch (Lane (record { bus = 1; up = true })) ∷
    Arrive (record { bus = 1; up = true }) Plain ∷
    Act 0 (ByLane (record { bus = 1; up = true })) (op 0 0 0) Latch (Lane (record { bus = 3; up = false })) ∷
    Arrive (record { bus = 3; up = false }) Plain ∷
    Act 3 (ByLane (record { bus = 3; up = false })) (op 0 0 0) (Read 0x0) (Target 0) ∷
    Arrive (record { bus = 3; up = true }) Plain ∷
    Act 0 (ByLane (record { bus = 1; up = true })) (op 0 0 0) (Take (Value 0x0)) (Lane (record { bus = 3; up = false })) ∷
    Arrive (record { bus = 1; up = false }) Plain ∷
    Act 1 (ByLane (record { bus = 2; up = true })) (op 0 0 0) (Take (Value 0x0)) (Lane (record { bus = 1; up = true })) ∷
    Arrive (record { bus = 2; up = false }) Plain ∷
    Act 2 Master (op 0 0 0) (Take (Value 0x0)) (Lane (record { bus = 2; up = true })) ∷
    []
