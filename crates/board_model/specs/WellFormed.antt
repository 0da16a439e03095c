-- Which boards can be written: the ranges of all numbers, and what holds of a board before its tree is looked at.
-- A test is what is computed; the record beside it says the same by name, one condition a field.
use Rattle.std.specs.Prelude.{◌≡◌, ℕ, Bool, true, false, ◌+◌, ◌*◌, ◌%◌, ◌^◌, ◌<◌, ◌≤◌, List, [], ◌∷◌, length, Option, Some, None, count_by, not, ◌&&◌, ◌==◌, nat_lt, nat_le, if◌then◌else◌}
use Rattle.std.specs.List.{list_all, list_any}
use Rattle.std.specs.Str.{bytes_eq}
use Rattle.list_facts.specs.Lists.{total}
use Rattle.pci_command.specs.declared.command.Command.{Command}
use Rattle.pci_command.specs.declared.command.Command.TheVariants.{IoRead, IoWrite, MemRead, MemWrite, CfgRead as ConfigurationRead, CfgWrite as ConfigurationWrite, MemReadMultiple, MemReadLine, MemWriteInvalidate}
use Rattle.pci_command.specs.declared.command.Space.{Space}
use Rattle.pci_command.specs.declared.command.Space.TheVariants.{Mem, Io, Cfg}
use Rattle.pci_command.specs.declared.phases.Phase.{Phase}
use Rattle.board_model.specs.declared.agents.Range.{Range}
use Rattle.board_model.specs.declared.agents.Opening.{Opening}
use Rattle.board_model.specs.declared.agents.Target.{Target}
use Rattle.board_model.specs.declared.agents.Master.{Master}
use Rattle.board_model.specs.declared.bridge.Window.{Window}
use Rattle.board_model.specs.declared.bridge.Bridge.{Bridge}
use Rattle.board_model.specs.declared.op.Op.{Op}
use Rattle.board_model.specs.declared.op.Op.TheVariants.{Read, Write, CfgRead, CfgWrite, Poll}
use Rattle.board_model.specs.declared.board.Board.{Board}
use Rattle.board_model.specs.declared.board.Planned.{Planned}
use Rattle.board_model.specs.Requests.{tries_of}
use Rattle.board_model.specs.Limits.{most_bridges, most_children, most_agents, most_posted, most_delayed, most_dwords, most_ops, most_tries, most_openings, most_plans}

-- from the least to the most, both included
abbrev pub is_within : ℕ → ℕ → ℕ → Bool
is_within least most n = nat_le least n && nat_le n most

-- the same, by name
pub record IsWithin (least most n : ℕ) : Type 0 where
  pub from : least ≤ n
  pub to : n ≤ most

-- Windows and bridges.

-- from base to limit in whole units, and below the end of the space
abbrev pub is_window : ℕ → ℕ → Option Window → Bool
is_window unit end None = true
is_window unit end (Some window) =
    nat_le window.base window.limit && window.base % unit == 0 && (window.limit + 1) % unit == 0 && nat_lt window.limit end

-- the same of a window that is there, by name
pub record IsWindow (unit end : ℕ) (window : Window) : Type 0 where
  -- it is not empty
  pub ordered : window.base ≤ window.limit
  -- it begins and ends between units
  pub base : (window.base % unit == 0) ≡ true
  pub limit : ((window.limit + 1) % unit == 0) ≡ true
  -- it ends in the space
  pub ends : window.limit < end

-- memory windows in units of 1 MiB, the prefetchable one with 64-bit addresses; I/O windows in units of 4 KiB
abbrev pub is_well_formed_bridge : Bridge → Bool
is_well_formed_bridge bridge =
    nat_le 1 bridge.bus && nat_le bridge.device 31
    && is_within 1 most_posted bridge.posted && is_within 1 most_delayed bridge.delayed
    && is_window (2 ^ 20) (2 ^ 32) bridge.mem && is_window (2 ^ 20) (2 ^ 64) bridge.pref && is_window (2 ^ 12) (2 ^ 32) bridge.io

-- the same, by name
pub record IsWellFormedBridge (bridge : Bridge) : Type 0 where
  -- its secondary bus is not bus 0, the root
  pub bus : 1 ≤ bridge.bus
  -- a bus has devices 0 to 31
  pub device : bridge.device ≤ 31
  -- one posted write or more each way, and one delayed request or more
  pub posted : IsWithin 1 most_posted bridge.posted
  pub delayed : IsWithin 1 most_delayed bridge.delayed
  -- its windows, where it has them
  pub mem : is_window (2 ^ 20) (2 ^ 32) bridge.mem ≡ true
  pub pref : is_window (2 ^ 20) (2 ^ 64) bridge.pref ≡ true
  pub io : is_window (2 ^ 12) (2 ^ 32) bridge.io ≡ true

-- Targets.

-- in whole units, not empty, within the space and not all of it, since its size is written as an address
abbrev pub is_block : ℕ → ℕ → Range → Bool
is_block unit end range =
    range.base % unit == 0 && range.size % unit == 0 && nat_lt 0 range.size && nat_lt range.size end
    && nat_le (range.base + range.size) end

-- the same, by name
pub record IsBlock (unit end : ℕ) (range : Range) : Type 0 where
  -- it begins between units, and has a whole number of them
  pub base : (range.base % unit == 0) ≡ true
  pub size : (range.size % unit == 0) ≡ true
  -- it is not empty, and not all of the space
  pub some : 0 < range.size
  pub not_all : range.size < end
  -- it ends in the space
  pub ends : range.base + range.size ≤ end

-- memory in units of 64 bytes, I/O in units of 4
abbrev pub is_range_in : Space → Range → Bool
is_range_in Mem range = is_block 64 (2 ^ 64) range
is_range_in Io range = is_block 4 (2 ^ 32) range
is_range_in Cfg range = false

-- a range that a target claims, or answers with Target-Abort
abbrev pub is_well_formed_range : Range → Bool
is_well_formed_range range = is_range_in range.space range

-- a multiple of 4, in memory or I/O space
abbrev pub is_dword_in : Space → ℕ → Bool
is_dword_in Mem address = address % 4 == 0
is_dword_in Io address = address % 4 == 0 && nat_lt address (2 ^ 32)
is_dword_in Cfg address = false

-- a dword of a target's memory or I/O space that does not begin with 0
abbrev pub is_well_formed_opening : Opening → Bool
is_well_formed_opening opening = is_dword_in opening.space opening.address

-- a range with a base from 2^32 on takes two base address registers
abbrev pub registers_of : Range → ℕ
registers_of range = if nat_lt range.base (2 ^ 32) then 1 else 2

-- its numbers in their ranges, at most six base address registers, and its dwords at the beginning
abbrev pub is_well_formed_target : Target → Bool
is_well_formed_target target =
    nat_le target.device 31 && nat_le target.stalls 1000000 && is_within 1 most_dwords target.burst
    && list_all is_well_formed_range target.ranges && nat_le (total registers_of target.ranges) 6
    && list_all is_well_formed_range target.aborts && nat_le (length target.aborts) 6
    && list_all is_well_formed_opening target.openings && nat_le (length target.openings) most_openings

-- the same, by name
pub record IsWellFormedTarget (target : Target) : Type 0 where
  -- a bus has devices 0 to 31
  pub device : target.device ≤ 31
  -- how many accesses it meets with Retry
  pub stalls : target.stalls ≤ 1000000
  -- how many data phases it takes at a time
  pub burst : IsWithin 1 most_dwords target.burst
  -- the ranges that it claims, which its six base address registers hold
  pub ranges : list_all is_well_formed_range target.ranges ≡ true
  pub registers : total registers_of target.ranges ≤ 6
  -- the ranges where it answers with Target-Abort
  pub aborts : list_all is_well_formed_range target.aborts ≡ true
  pub few_aborts : length target.aborts ≤ 6
  -- the dwords that it begins with
  pub openings : list_all is_well_formed_opening target.openings ≡ true
  pub few_openings : length target.openings ≤ most_openings

-- Masters.

-- the space of a read's command, of those that `mr`, `mrl`, `mrm` and `ior` stand for
abbrev pub read_space : Command → Option Space
read_space IoRead = Some Io
read_space IoWrite = None
read_space MemRead = Some Mem
read_space MemWrite = None
read_space ConfigurationRead = None
read_space ConfigurationWrite = None
read_space MemReadMultiple = Some Mem
read_space MemReadLine = Some Mem
read_space MemWriteInvalidate = None

-- the space of a write's command, of those that `mw`, `mwi` and `iow` stand for
abbrev pub write_space : Command → Option Space
write_space IoRead = None
write_space IoWrite = Some Io
write_space MemRead = None
write_space MemWrite = Some Mem
write_space ConfigurationRead = None
write_space ConfigurationWrite = None
write_space MemReadMultiple = None
write_space MemReadLine = None
write_space MemWriteInvalidate = Some Mem

-- four byte enables, a bit each
abbrev pub is_well_formed_phase : Phase → Bool
is_well_formed_phase phase = nat_le phase.enables 15

-- a read of one dword, by a command that reads memory or I/O
abbrev pub is_well_formed_read : ℕ → Option Space → Bool
is_well_formed_read address None = false
is_well_formed_read address (Some space) = is_dword_in space address

-- dwords in one aligned block of 64 bytes of memory, few enough for a burst; one in I/O space
abbrev pub is_burst_in : Space → ℕ → ℕ → Bool
is_burst_in Mem address phases = is_within 1 most_dwords phases && nat_le (address % 64 + 4 * phases) 64
is_burst_in Io address phases = phases == 1
is_burst_in Cfg address phases = false

-- a write of a burst, by a command that writes memory or I/O
abbrev pub is_well_formed_write : ℕ → List Phase → Option Space → Bool
is_well_formed_write address phases None = false
is_well_formed_write address phases (Some space) =
    is_dword_in space address && is_burst_in space address (length phases) && list_all is_well_formed_phase phases

-- the same where the command has a space, by name
pub record IsWellFormedWrite (space : Space) (address : ℕ) (phases : List Phase) : Type 0 where
  -- its first dword
  pub aligned : is_dword_in space address ≡ true
  -- its data phases stay in their block
  pub burst : is_burst_in space address (length phases) ≡ true
  -- the byte enables of each
  pub enables : list_all is_well_formed_phase phases ≡ true

-- an operation of a program: a poll reads once or more
abbrev pub is_well_formed_op : Op → Bool
is_well_formed_op (Read command address) = is_well_formed_read address (read_space command)
is_well_formed_op (Write command address phases) = is_well_formed_write address phases (write_space command)
is_well_formed_op (CfgRead bus device register) = nat_le device 31 && nat_le register 63
is_well_formed_op (CfgWrite bus device register phase) = nat_le device 31 && nat_le register 63 && is_well_formed_phase phase
is_well_formed_op (Poll space address want tries) = is_dword_in space address && is_within 1 most_tries tries

-- a program that is not too long
abbrev pub is_well_formed_master : Master → Bool
is_well_formed_master master = nat_le (length master.ops) most_ops && list_all is_well_formed_op master.ops

-- the same, by name
pub record IsWellFormedMaster (master : Master) : Type 0 where
  pub few : length master.ops ≤ most_ops
  pub ops : list_all is_well_formed_op master.ops ≡ true

-- The board as a whole.

-- a `discard` or `drop` line: which of the arrivals on its lane, counted from 1
abbrev pub is_well_formed_plan : Planned → Bool
is_well_formed_plan planned = is_within 1 1000000 planned.count

-- the bridge to the bus
abbrev pub has_bus : ℕ → Bridge → Bool
has_bus bus bridge = bridge.bus == bus

-- no two bridges have one secondary bus
abbrev pub are_numbered_apart : List Bridge → Bool
are_numbered_apart [] = true
are_numbered_apart (bridge ∷ bridges) = not (list_any (has_bus bridge.bus) bridges) && are_numbered_apart bridges

-- the target of that name
abbrev pub is_target_named : List ℕ → Target → Bool
is_target_named name target = bytes_eq target.name name

-- the master of that name
abbrev pub is_master_named : List ℕ → Master → Bool
is_master_named name master = bytes_eq master.name name

-- no two masters have one name
abbrev pub are_masters_named_apart : List Master → Bool
are_masters_named_apart [] = true
are_masters_named_apart (master ∷ masters) = not (list_any (is_master_named master.name) masters) && are_masters_named_apart masters

-- no two targets have one name, and none has that of a master
abbrev pub are_targets_named_apart : List Master → List Target → Bool
are_targets_named_apart masters [] = true
are_targets_named_apart masters (target ∷ targets) =
    not (list_any (is_target_named target.name) targets) && not (list_any (is_master_named target.name) masters)
    && are_targets_named_apart masters targets

-- how many bridges have their primary side on the bus
abbrev pub children_on : Board → ℕ → ℕ
children_on board bus = count_by (λ (bridge : Bridge). bridge.parent == bus) board.bridges

-- how many targets and masters are on the bus
abbrev pub agents_on : Board → ℕ → ℕ
agents_on board bus =
    count_by (λ (target : Target). target.bus == bus) board.targets + count_by (λ (master : Master). master.bus == bus) board.masters

-- few bridges below a bus, and few agents on it
abbrev pub are_few : Board → Bool
are_few board =
    list_all (λ (bridge : Bridge). nat_le (children_on board bridge.parent) most_children) board.bridges
    && list_all (λ (target : Target). nat_le (agents_on board target.bus) most_agents) board.targets
    && list_all (λ (master : Master). nat_le (agents_on board master.bus) most_agents) board.masters

-- the same, by name: on the primary bus of each bridge, and on the bus of each target and of each master
pub record AreFew (board : Board) : Type 0 where
  pub bridges : list_all (λ (bridge : Bridge). nat_le (children_on board bridge.parent) most_children) board.bridges ≡ true
  pub targets : list_all (λ (target : Target). nat_le (agents_on board target.bus) most_agents) board.targets ≡ true
  pub masters : list_all (λ (master : Master). nat_le (agents_on board master.bus) most_agents) board.masters ≡ true

-- operations in all, each poll counted by its tries
abbrev pub operations_in : List Master → ℕ
operations_in masters = total (λ (master : Master). total tries_of master.ops) masters

-- a board that a text can be of
abbrev pub is_well_formed : Board → Bool
is_well_formed board =
    nat_le (length board.bridges) most_bridges && list_all is_well_formed_bridge board.bridges && are_numbered_apart board.bridges
    && list_all is_well_formed_target board.targets && list_all is_well_formed_master board.masters && are_few board
    && are_targets_named_apart board.masters board.targets && are_masters_named_apart board.masters
    && nat_le (operations_in board.masters) most_tries
    && nat_le (length board.discards) most_plans && list_all is_well_formed_plan board.discards
    && nat_le (length board.drops) most_plans && list_all is_well_formed_plan board.drops

-- the same, by name
pub record IsWellFormed (board : Board) : Type 0 where
  -- so with bus 0 there is one bus more
  pub bridges_fit : length board.bridges ≤ most_bridges
  -- each bridge has its numbers in their ranges, and windows in whole units
  pub bridges : list_all is_well_formed_bridge board.bridges ≡ true
  -- no two bridges have one secondary bus
  pub numbered_apart : are_numbered_apart board.bridges ≡ true
  -- each target has its numbers in their ranges, and blocks in whole units
  pub targets : list_all is_well_formed_target board.targets ≡ true
  -- each master has a program of operations that a text can be of
  pub masters : list_all is_well_formed_master board.masters ≡ true
  -- few bridges below a bus, and few agents on it
  pub few : AreFew board
  -- no two targets have one name, and none has that of a master
  pub targets_named_apart : are_targets_named_apart board.masters board.targets ≡ true
  -- no two masters have one name
  pub masters_named_apart : are_masters_named_apart board.masters ≡ true
  -- operations in all, each poll counted by its tries
  pub operations : operations_in board.masters ≤ most_tries
  -- delayed completions to discard, each by its count
  pub discards_fit : length board.discards ≤ most_plans
  pub discards : list_all is_well_formed_plan board.discards ≡ true
  -- delayed requests to drop, each by its count
  pub drops_fit : length board.drops ≤ most_plans
  pub drops : list_all is_well_formed_plan board.drops ≡ true
