-- Reads and writes of configuration registers.
use Rattle.std.specs.Prelude.{ℕ, true, false, List, [], ◌∷◌, None, codes}
use Rattle.pci_command.specs.declared.op_id.OpId.{OpId}
use Rattle.pci_command.specs.declared.op_id.Outcome.TheVariants.{Value}
use Rattle.board_model.specs.declared.bridge.Place.TheVariants.{Target, Header, Lane, Nobody}
use Rattle.board_model.specs.declared.op.Op.{Op}
use Rattle.board_model.specs.declared.op.Op.TheVariants.{CfgRead as ReadRegister, CfgWrite as WriteRegister}
use Rattle.board_model.specs.declared.board.Board.{Board}
use Rattle.history_model.specs.declared.event.By.TheVariants.{Master, Lane as ByLane}
use Rattle.history_model.specs.declared.event.Mark.TheVariants.{Plain}
use Rattle.history_model.specs.declared.event.Step.TheVariants.{Land, Read, Latch, Take, MasterAbort}
use Rattle.history_model.specs.declared.event.Event.{Event}
use Rattle.history_model.specs.declared.event.Event.TheVariants.{Act, Arrive}

-- an operation by master, index and try
abbrev op : ℕ → ℕ → ℕ → OpId
op master index attempt = record { master = master; index = index; attempt = attempt }

-- of a device behind two bridges, of two bridges, and of none
abbrev pub registers_board : Board
registers_board =
    record {
      bridges =
          record { bus = 1; parent = 0; device = 1; last = 2; mem = None; pref = None; io = None; posted = 4; delayed = 4; mode = false } ∷
          record { bus = 2; parent = 1; device = 1; last = 2; mem = None; pref = None; io = None; posted = 4; delayed = 4; mode = false } ∷ [];
      targets =
          record {
            name = codes "nic";
            bus = 2;
            device = 1;
            vendor = 0x1234;
            model = 0x1;
            stalls = 0;
            burst = 8;
            ranges = [];
            aborts = [];
            openings = [];
          } ∷ [];
      masters =
          record {
            name = codes "cpu";
            bus = 0;
            ops = ReadRegister 2 1 0 ∷ ReadRegister 1 1 6 ∷ ReadRegister 0 1 6 ∷ ReadRegister 5 0 0 ∷ [];
          } ∷ [];
      discards = [];
      drops = [];
    }

-- its run: the registers of the device, of bridge 2 and of bridge 1, and all ones of nobody
abbrev pub registers_events : List Event
registers_events =
    Act 0 Master (op 0 0 0) Latch (Lane (record { bus = 1; up = false })) ∷
    Arrive (record { bus = 1; up = false }) Plain ∷
    Act 1 (ByLane (record { bus = 1; up = false })) (op 0 0 0) Latch (Lane (record { bus = 2; up = false })) ∷
    Arrive (record { bus = 2; up = false }) Plain ∷
    Act 2 (ByLane (record { bus = 2; up = false })) (op 0 0 0) (Read 0x11234) (Target 0) ∷
    Arrive (record { bus = 2; up = true }) Plain ∷
    Act 1 (ByLane (record { bus = 1; up = false })) (op 0 0 0) (Take (Value 0x11234)) (Lane (record { bus = 2; up = false })) ∷
    Arrive (record { bus = 1; up = true }) Plain ∷
    Act 0 Master (op 0 0 0) (Take (Value 0x11234)) (Lane (record { bus = 1; up = false })) ∷
    Act 0 Master (op 0 1 0) Latch (Lane (record { bus = 1; up = false })) ∷
    Arrive (record { bus = 1; up = false }) Plain ∷
    Act 1 (ByLane (record { bus = 1; up = false })) (op 0 1 0) (Read 0x20201) (Header 2) ∷
    Arrive (record { bus = 1; up = true }) Plain ∷
    Act 0 Master (op 0 1 0) (Take (Value 0x20201)) (Lane (record { bus = 1; up = false })) ∷
    Act 0 Master (op 0 2 0) (Read 0x20100) (Header 1) ∷
    Act 0 Master (op 0 3 0) MasterAbort Nobody ∷
    []

-- a write of a register of device 2 on bus 0, and a read of it
abbrev write_register : ℕ → ℕ → ℕ → Op
write_register register value enables = WriteRegister 0 2 register (record { value = value; enables = enables })

abbrev read_register : ℕ → Op
read_register register = ReadRegister 0 2 register

-- of each register the bits that can be written change, in the bytes that are enabled: the command and the interrupt
-- line; not the cache line size, since its byte is not enabled, and nothing of the identification
abbrev pub written_board : Board
written_board =
    record {
      bridges = [];
      targets =
          record {
            name = codes "nic";
            bus = 0;
            device = 2;
            vendor = 0x1234;
            model = 0x1;
            stalls = 0;
            burst = 8;
            ranges = [];
            aborts = [];
            openings = [];
          } ∷ [];
      masters =
          record {
            name = codes "cpu";
            bus = 0;
            ops =
                write_register 1 0x5 15 ∷ read_register 1 ∷ write_register 15 0xaabbccdd 15 ∷ read_register 15 ∷
                write_register 3 0xaa 14 ∷ read_register 3 ∷ write_register 0 0xffffffff 15 ∷ read_register 0 ∷ [];
          } ∷ [];
      discards = [];
      drops = [];
    }

-- each write lands at once, and is read
abbrev pub written_events : List Event
written_events =
    Act 0 Master (op 0 0 0) Land (Target 0) ∷
    Act 0 Master (op 0 1 0) (Read 0x5) (Target 0) ∷
    Act 0 Master (op 0 2 0) Land (Target 0) ∷
    Act 0 Master (op 0 3 0) (Read 0xdd) (Target 0) ∷
    Act 0 Master (op 0 4 0) Land (Target 0) ∷
    Act 0 Master (op 0 5 0) (Read 0x0) (Target 0) ∷
    Act 0 Master (op 0 6 0) Land (Target 0) ∷
    Act 0 Master (op 0 7 0) (Read 0x11234) (Target 0) ∷
    []
