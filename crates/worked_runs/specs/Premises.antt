-- What a law would say of without one of its premises.
use Rattle.std.specs.Prelude.{ℕ, false, List, [], ◌∷◌, take, codes}
use Rattle.pci_command.specs.declared.command.Command.TheVariants.{MemRead, MemWrite}
use Rattle.pci_command.specs.declared.command.Space.TheVariants.{Mem}
use Rattle.pci_command.specs.declared.op_id.OpId.{OpId}
use Rattle.board_model.specs.Wants.{exactly}
use Rattle.board_model.specs.declared.board.Board.{Board}
use Rattle.board_model.specs.declared.bridge.Lane.{Lane as BridgeLane}
use Rattle.board_model.specs.declared.op.Op.{Op}
use Rattle.board_model.specs.declared.bridge.Place.TheVariants.{Target}
use Rattle.board_model.specs.declared.op.Op.TheVariants.{Read as ReadOp, Write as WriteOp, Poll as PollOp}
use Rattle.history_model.specs.declared.event.By.TheVariants.{Master}
use Rattle.history_model.specs.declared.event.Step.TheVariants.{Read}
use Rattle.history_model.specs.declared.event.Event.{Event}
use Rattle.history_model.specs.declared.event.Event.TheVariants.{Act}
use Rattle.history_model.specs.declared.event.Stamped.{Stamped}
use Rattle.history_model.specs.declared.item.Carried.{Carried}
use Rattle.law_local.specs.Stamps.{stamped_on}
use Rattle.history_model.specs.Runs.{history_of}
use Rattle.worked_runs.specs.Credits.{credits_events}
use Rattle.worked_runs.specs.OneBus.{one_word_board}
use Rattle.worked_runs.specs.Relay.{relay_events}
use Rattle.worked_runs.specs.Wrong.{wrong_value}

-- nothing is ever sent on any lane
abbrev pub nothing_sent : BridgeLane → List Carried
nothing_sent lane = []

-- no item was put on any lane
abbrev pub no_stamps : BridgeLane → List ℕ
no_stamps lane = []

-- no bus did anything
abbrev pub nothing_done : ℕ → List Stamped
nothing_done bus = []

-- an event that bus 0 may not do
abbrev pub wrong_all : List Stamped
wrong_all = record { stamp = 0; event = wrong_value } ∷ []

-- the same, bus by bus
abbrev pub wrong_part : ℕ → List Stamped
wrong_part bus = stamped_on one_word_board bus wrong_all

-- the lane down of the bridge to bus 1
abbrev pub down : BridgeLane
down = record { bus = 1; up = false }

-- a write of no data phase, which no well-formed board has
abbrev pub bare_op : Op
bare_op = WriteOp MemWrite 0x100040 []

-- a board whose program is that write
abbrev pub bare_board : Board
bare_board = record one_word_board { masters = record { name = codes "cpu"; bus = 0; ops = bare_op ∷ [] } ∷ [] }

-- the write of no data phase
abbrev pub bare_write : OpId
bare_write = record { master = 0; index = 0; attempt = 0 }

-- data, and a flag that opens with a value; a second master reads both
abbrev pub flagged_board : ℕ → Board
flagged_board opening =
    record {
      bridges = [];
      targets =
          record {
            name = codes "ram";
            bus = 0;
            device = 1;
            vendor = 0x1234;
            model = 0x1;
            stalls = 0;
            burst = 8;
            ranges = record { space = Mem; base = 0x10000000; size = 0x1000 } ∷ [];
            aborts = [];
            openings = record { space = Mem; address = 0x10000040; value = opening } ∷ [];
          } ∷ [];
      masters =
          record {
            name = codes "prod";
            bus = 0;
            ops = WriteOp MemWrite 0x10000000 (record { value = 0x5; enables = 15 } ∷ []) ∷ WriteOp MemWrite 0x10000040 (record { value = 0x1; enables = 15 } ∷ []) ∷ [];
          } ∷
          record {
            name = codes "cons";
            bus = 0;
            ops = PollOp Mem 0x10000040 (exactly 0x1) 9 ∷ ReadOp MemRead 0x10000000 ∷ [];
          } ∷ [];
      discards = [];
      drops = [];
    }

-- the poll of the flag, and the read behind it
abbrev pub flag_poll : OpId
flag_poll = record { master = 1; index = 0; attempt = 0 }

-- the same of the read behind it
abbrev pub data_read : OpId
data_read = record { master = 1; index = 1; attempt = 0 }

-- the flag is read as set, and the data, before anything was written
abbrev pub early_events : List Event
early_events = Act 0 Master flag_poll (Read 0x1) (Target 0) ∷ Act 0 Master data_read (Read 0x0) (Target 0) ∷ []

-- the same as a history
abbrev pub early_history : List Event
early_history = history_of early_events

-- the relay, and the first events of it and of the three writers
abbrev pub relay_history : List Event
relay_history = history_of relay_events

-- the first so many events of the relay
abbrev pub relay_after : ℕ → List Event
relay_after n = history_of (take n relay_events)

-- the first so many events of the three writers
abbrev pub credits_after : ℕ → List Event
credits_after n = history_of (take n credits_events)
