-- The limits of this project, each number once, and what follows from them.
use Rattle.std.specs.Prelude.{ℕ, ◌+◌, ◌*◌, ◌^◌, ◌<◌, ◌≤◌}

-- bridges of a board
abbrev pub most_bridges : ℕ
most_bridges = 31

-- bridges below a bus
abbrev pub most_children : ℕ
most_children = 8

-- targets and masters on a bus
abbrev pub most_agents : ℕ
most_agents = 8

-- posted writes that a bridge holds, each way
abbrev pub most_posted : ℕ
most_posted = 8

-- delayed requests that a bridge holds, each way
abbrev pub most_delayed : ℕ
most_delayed = 8

-- dwords of a burst
abbrev pub most_dwords : ℕ
most_dwords = 8

-- operations of a master
abbrev pub most_ops : ℕ
most_ops = 1024

-- operations of a board, each poll counted by its tries; so tries of a poll too
abbrev pub most_tries : ℕ
most_tries = 65536

-- words that a target begins with
abbrev pub most_openings : ℕ
most_openings = 256

-- lines `discard` of a board, and lines `drop`
abbrev pub most_plans : ℕ
most_plans = 1024

-- items that wait in one direction between two buses, whatever bridges hold: a schedule
abbrev pub most_waiting : ℕ
most_waiting = 32

-- request lines that an arbiter has a bit for
abbrev pub request_lines : ℕ
request_lines = 32

-- events that a bus keeps room for before each turn
abbrev pub room_of_a_turn : ℕ
room_of_a_turn = 512

-- What follows.

-- ports of a bus: that of the bridge above, and of those below
abbrev pub most_ports : ℕ
most_ports = 1 + most_children

-- lines of an arbiter: ports and masters
abbrev pub most_lines : ℕ
most_lines = most_ports + most_agents

-- masters of a board, on bus 0 and behind each bridge
abbrev pub most_masters : ℕ
most_masters = most_agents * (1 + most_bridges)

-- targets of a board, likewise
abbrev pub most_targets : ℕ
most_targets = most_agents * (1 + most_bridges)

-- items of a lane that are neither arrived nor refused: posted writes and delayed requests of both sides
abbrev pub most_in_flight : ℕ
most_in_flight = 2 * most_posted + 2 * most_delayed

-- items that stand on a lane: posted writes, requests and completions
abbrev pub most_standing : ℕ
most_standing = most_posted + 2 * most_delayed

-- offers that a port has at once: requests and completions
abbrev pub most_offers : ℕ
most_offers = 2 * most_delayed

-- events of the agents' part of a turn: the offers of each port, and a step of each master
abbrev pub most_served : ℕ
most_served = most_ports * most_offers + most_agents

-- events of a turn: what is received at each port, and what is served
abbrev pub most_of_a_turn : ℕ
most_of_a_turn = most_ports * most_waiting + most_served

-- what the code keeps in so many bits or places holds them
pub record LimitsFit : Type 0 where
  -- each port and each master has a request line
  pub lines : most_lines ≤ request_lines
  -- the events of a turn fit in the room that is kept for them, which is no more than is taken at once
  pub turn : most_of_a_turn ≤ room_of_a_turn
  pub room : room_of_a_turn ≤ 8192
  -- what may be in flight on a lane may wait between two buses
  pub flight : most_in_flight ≤ most_waiting
  -- masters and targets of a board, and ports of a bus, are numbered by bytes
  pub masters : most_masters ≤ 2 ^ 8
  pub targets : most_targets ≤ 2 ^ 8
  pub ports : most_ports + most_agents < 2 ^ 8
  -- operations of a master and tries of a poll are numbered by 16 bits
  pub ops : most_ops < 2 ^ 16
  pub tries : most_tries ≤ 2 ^ 16
  -- buses are numbered by bytes
  pub buses : 1 + most_bridges ≤ 2 ^ 8
  -- a burst fits in a block of 64 bytes
  pub dwords : 4 * most_dwords ≤ 64
