-- One bus.
use Rattle.std.specs.Prelude.{ℕ, List, [], ◌∷◌, codes}
use Rattle.pci_command.specs.declared.command.Command.TheVariants.{MemRead, MemWrite}
use Rattle.pci_command.specs.declared.command.Space.TheVariants.{Mem}
use Rattle.pci_command.specs.declared.op_id.OpId.{OpId}
use Rattle.board_model.specs.declared.bridge.Place.TheVariants.{Target}
use Rattle.board_model.specs.declared.op.Op.TheVariants.{Read as ReadOp, Write as WriteOp}
use Rattle.board_model.specs.declared.board.Board.{Board}
use Rattle.history_model.specs.declared.event.By.TheVariants.{Master}
use Rattle.history_model.specs.declared.event.Step.TheVariants.{Land, Read, Stall, TargetAbort}
use Rattle.history_model.specs.declared.event.Event.{Event}
use Rattle.history_model.specs.declared.event.Event.TheVariants.{Act}

-- an operation by master, index and try
abbrev op : ℕ → ℕ → ℕ → OpId
op master index attempt = record { master = master; index = index; attempt = attempt }

-- a write, and a read of what it wrote
abbrev pub one_word_board : Board
one_word_board =
    record {
      bridges = [];
      targets =
          record {
            name = codes "ram";
            bus = 0;
            device = 1;
            vendor = 0x1234;
            model = 0x1;
            stalls = 0;
            burst = 8;
            ranges = record { space = Mem; base = 0x100000; size = 0x1000 } ∷ [];
            aborts = [];
            openings = [];
          } ∷ [];
      masters =
          record {
            name = codes "cpu";
            bus = 0;
            ops = WriteOp MemWrite 0x100040 (record { value = 0x2a; enables = 15 } ∷ []) ∷ ReadOp MemRead 0x100040 ∷ [];
          } ∷ [];
      discards = [];
      drops = [];
    }

-- its run: the read returns what was written
abbrev pub one_word_events : List Event
one_word_events =
    Act 0 Master (op 0 0 0) Land (Target 0) ∷
    Act 0 Master (op 0 1 0) (Read 0x2a) (Target 0) ∷
    []

-- a stall, a target abort, and a write of two bytes of a dword
abbrev pub answers_board : Board
answers_board =
    record {
      bridges = [];
      targets =
          record {
            name = codes "dev";
            bus = 0;
            device = 1;
            vendor = 0x1234;
            model = 0x1;
            stalls = 1;
            burst = 8;
            ranges = record { space = Mem; base = 0x10000000; size = 0x1000 } ∷ [];
            aborts = record { space = Mem; base = 0x10000000; size = 0x40 } ∷ [];
            openings = record { space = Mem; address = 0x10000080; value = 0x11223344 } ∷ [];
          } ∷ [];
      masters =
          record {
            name = codes "cpu";
            bus = 0;
            ops = ReadOp MemRead 0x10000000 ∷ WriteOp MemWrite 0x10000040 (record { value = 0x5; enables = 15 } ∷ []) ∷ ReadOp MemRead 0x10000040 ∷ WriteOp MemWrite 0x10000080 (record { value = 0xaabbccdd; enables = 5 } ∷ []) ∷ ReadOp MemRead 0x10000080 ∷ [];
          } ∷ [];
      discards = [];
      drops = [];
    }

-- its run: of the dword that opens as 11223344 two bytes are written
abbrev pub answers_events : List Event
answers_events =
    Act 0 Master (op 0 0 0) Stall (Target 0) ∷
    Act 0 Master (op 0 0 0) TargetAbort (Target 0) ∷
    Act 0 Master (op 0 1 0) Land (Target 0) ∷
    Act 0 Master (op 0 2 0) (Read 0x5) (Target 0) ∷
    Act 0 Master (op 0 3 0) Land (Target 0) ∷
    Act 0 Master (op 0 4 0) (Read 0x11bb33dd) (Target 0) ∷
    []
