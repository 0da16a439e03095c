-- A write told of through two flags and three masters.
use Rattle.std.specs.Prelude.{ℕ, List, [], ◌∷◌, codes}
use Rattle.pci_command.specs.declared.command.Command.TheVariants.{MemRead, MemWrite}
use Rattle.pci_command.specs.declared.command.Space.TheVariants.{Mem}
use Rattle.pci_command.specs.declared.op_id.OpId.{OpId}
use Rattle.board_model.specs.Wants.{exactly}
use Rattle.board_model.specs.declared.bridge.Place.TheVariants.{Target}
use Rattle.board_model.specs.declared.op.Op.TheVariants.{Read as ReadOp, Write as WriteOp, Poll as PollOp}
use Rattle.board_model.specs.declared.board.Board.{Board}
use Rattle.history_model.specs.declared.event.By.TheVariants.{Master}
use Rattle.history_model.specs.declared.event.Step.TheVariants.{Land, Read}
use Rattle.history_model.specs.declared.event.Event.{Event}
use Rattle.history_model.specs.declared.event.Event.TheVariants.{Act}

-- an operation by master, index and try
abbrev op : ℕ → ℕ → ℕ → OpId
op master index attempt = record { master = master; index = index; attempt = attempt }

-- data, a flag to a second master, and its flag to a third
abbrev pub relay_board : Board
relay_board =
    record {
      bridges = [];
      targets =
          record {
            name = codes "ram";
            bus = 0;
            device = 1;
            vendor = 0x1234;
            model = 0x1;
            stalls = 0;
            burst = 8;
            ranges = record { space = Mem; base = 0x10000000; size = 0x1000 } ∷ [];
            aborts = [];
            openings = [];
          } ∷ [];
      masters =
          record {
            name = codes "a";
            bus = 0;
            ops = WriteOp MemWrite 0x10000000 (record { value = 0x5; enables = 15 } ∷ []) ∷ WriteOp MemWrite 0x10000040 (record { value = 0x1; enables = 15 } ∷ []) ∷ [];
          } ∷
          record {
            name = codes "b";
            bus = 0;
            ops = PollOp Mem 0x10000040 (exactly 0x1) 9 ∷ WriteOp MemWrite 0x10000080 (record { value = 0x1; enables = 15 } ∷ []) ∷ [];
          } ∷
          record {
            name = codes "c";
            bus = 0;
            ops = PollOp Mem 0x10000080 (exactly 0x1) 9 ∷ ReadOp MemRead 0x10000000 ∷ [];
          } ∷ [];
      discards = [];
      drops = [];
    }

-- its run: each master polls until it sees its flag
abbrev pub relay_events : List Event
relay_events =
    Act 0 Master (op 0 0 0) Land (Target 0) ∷
    Act 0 Master (op 1 0 0) (Read 0x0) (Target 0) ∷
    Act 0 Master (op 2 0 0) (Read 0x0) (Target 0) ∷
    Act 0 Master (op 0 1 0) Land (Target 0) ∷
    Act 0 Master (op 1 0 1) (Read 0x1) (Target 0) ∷
    Act 0 Master (op 2 0 1) (Read 0x0) (Target 0) ∷
    Act 0 Master (op 1 1 0) Land (Target 0) ∷
    Act 0 Master (op 2 0 2) (Read 0x1) (Target 0) ∷
    Act 0 Master (op 2 1 0) (Read 0x5) (Target 0) ∷
    []

-- the write of the data, and the read of it by the third master
abbrev pub first_write : OpId
first_write = op 0 0 0

-- the same of the read
abbrev pub last_read : OpId
last_read = op 2 1 0

-- the write of the flag by the first master, and by the second
abbrev pub first_flag : OpId
first_flag = op 0 1 0

-- the same of the second master's
abbrev pub second_write : OpId
second_write = op 1 1 0
