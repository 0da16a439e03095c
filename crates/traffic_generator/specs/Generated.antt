-- The board that a number of rounds stands for: two chains of two bridges each, and three masters that write and read
-- across them, by draws that begin with the number itself.
use Rattle.std.specs.Prelude.{ℕ, ◌+◌, ◌*◌, ◌%◌, zero, suc, false, List, [], ◌∷◌, ◌++◌, Option, Some, None, ◌&&◌, nat_le, if◌then◌else◌, codes}
use Rattle.pci_command.specs.declared.command.Command.TheVariants.{MemRead, MemWrite}
use Rattle.pci_command.specs.declared.command.Space.TheVariants.{Mem}
use Rattle.board_model.specs.declared.agents.Target.{Target}
use Rattle.board_model.specs.declared.agents.Master.{Master}
use Rattle.board_model.specs.declared.bridge.Bridge.{Bridge}
use Rattle.board_model.specs.declared.op.Op.{Op}
use Rattle.board_model.specs.declared.op.Op.TheVariants.{Read, Write}
use Rattle.board_model.specs.declared.board.Board.{Board}
use Rattle.traffic_generator.specs.Draws.{drawn, draw, words, words_drawn}

-- bridge BUS on PARENT dev DEVICE last LAST mem BASE LIMIT
abbrev pub bridge_to : ℕ → ℕ → ℕ → ℕ → ℕ → ℕ → Bridge
bridge_to bus parent device last base limit =
    record {
      bus = bus;
      parent = parent;
      device = device;
      last = last;
      mem = Some (record { base = base; limit = limit });
      pref = None;
      io = None;
      posted = 4;
      delayed = 4;
      mode = false;
    }

-- target NAME on BUS dev DEVICE, with range mem BASE 1000
abbrev pub target_on : List ℕ → ℕ → ℕ → ℕ → Target
target_on name bus device base =
    record {
      name = name;
      bus = bus;
      device = device;
      vendor = 0x1234;
      model = 1;
      stalls = 0;
      burst = 8;
      ranges = record { space = Mem; base = base; size = 0x1000 } ∷ [];
      aborts = [];
      openings = [];
    }

-- the block of 64 bytes that a draw names in the range from this address on
abbrev pub block : ℕ → ℕ → ℕ
block base drawn = base + 64 * (drawn % 64)

-- how many words a round writes, one to eight, by its second draw
abbrev pub words_in : ℕ → ℕ
words_in state = 1 + draw (drawn state) % 8

-- the state behind a round's block, count and words
abbrev pub written : ℕ → ℕ
written state = words_drawn (words_in state) (drawn (drawn state))

-- a round writes a block of the one target and reads its first word, and reads a block of the other target
abbrev pub round : ℕ → ℕ → ℕ → List Op
round first second state =
    Write MemWrite (block first (draw state)) (words (words_in state) (drawn (drawn state))) ∷
    Read MemRead (block first (draw state)) ∷
    Read MemRead (block second (draw (written state))) ∷
    []

-- the state behind a round, whose last draw is the block that is read
abbrev pub round_drawn : ℕ → ℕ
round_drawn state = drawn (written state)

-- so many rounds
abbrev pub program : ℕ → ℕ → ℕ → ℕ → List Op
program first second zero state = []
program first second (suc rounds) state = round first second state ++ program first second rounds (round_drawn state)

-- the state behind them
abbrev pub program_drawn : ℕ → ℕ → ℕ
program_drawn zero state = state
program_drawn (suc rounds) state = program_drawn rounds (round_drawn state)

-- bus 2 below bus 1, and bus 4 below bus 3
abbrev pub generated_bridges : List Bridge
generated_bridges =
    bridge_to 1 0 1 2 0x80000000 0x801fffff ∷
    bridge_to 2 1 1 2 0x80100000 0x801fffff ∷
    bridge_to 3 0 2 4 0x90000000 0x901fffff ∷
    bridge_to 4 3 1 4 0x90100000 0x901fffff ∷
    []

-- one target on bus 0, and one at the end of each chain
abbrev pub generated_targets : List Target
generated_targets =
    target_on (codes "t0") 0 3 0x10000000 ∷
    target_on (codes "t2") 2 1 0x80100000 ∷
    target_on (codes "t4") 4 1 0x90100000 ∷
    []

-- the masters draw one behind the other, each all its rounds: m0 writes to t2 and reads from t4 besides, m2 to t4 and
-- t0, m4 to t0 and t2
abbrev pub generated_masters : ℕ → ℕ → List Master
generated_masters rounds state =
    let second = program_drawn rounds state in
    let third = program_drawn rounds second in
    record { name = codes "m0"; bus = 0; ops = program 0x80100000 0x90100000 rounds state } ∷
    record { name = codes "m2"; bus = 2; ops = program 0x90100000 0x10000000 rounds second } ∷
    record { name = codes "m4"; bus = 4; ops = program 0x10000000 0x80100000 rounds third } ∷
    []

-- the draws begin with the number of rounds as their state
unfoldable pub generated : ℕ → Board
generated rounds =
    record {
      bridges = generated_bridges;
      targets = generated_targets;
      masters = generated_masters rounds rounds;
      discards = [];
      drops = [];
    }

-- one to 300 rounds, and no other number
abbrev pub rounds_in : ℕ → Option ℕ
rounds_in count = if nat_le 1 count && nat_le count 300 then Some count else None
