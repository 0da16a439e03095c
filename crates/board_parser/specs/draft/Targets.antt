-- When a target is added to a board, and a detail to the target that began last.
use Rattle.std.specs.Prelude.{ℕ, Bool, true, false, ◌+◌, ◌%◌, ◌^◌, List, [], ◌∷◌, ◌++◌, length, Option, Some, None, Result, Ok, Err, not, ◌&&◌, ◌||◌, ◌==◌, nat_lt, nat_le, if◌then◌else◌}
use Rattle.std.specs.List.{find, list_any}
use Rattle.list_facts.specs.Lists.{total}
use Rattle.pci_command.specs.declared.command.Space.{Space}
use Rattle.pci_command.specs.declared.command.Space.TheVariants.{Mem, Io, Cfg}
use Rattle.board_model.specs.Limits.{most_agents, most_dwords, most_openings}
use Rattle.board_model.specs.declared.agents.Range.{Range}
use Rattle.board_model.specs.declared.agents.Opening.{Opening}
use Rattle.board_model.specs.declared.agents.Target.{Target}
use Rattle.board_model.specs.declared.board.Board.{Board}
use Rattle.board_model.specs.WellFormed.{registers_of, is_target_named, is_master_named, agents_on}
use Rattle.text_faults.specs.declared.board_line.LineFault.{LineFault}
use Rattle.text_faults.specs.declared.board_line.LineFault.TheVariants.{NoOwner, Unaligned, PastItsSpace, NameUsed, OverLimit}
use Rattle.board_parser.specs.declared.draft.draft.Draft.{Draft}
use Rattle.board_parser.specs.declared.draft.draft.AgentPlace.{AgentPlace}
use Rattle.board_parser.specs.declared.draft.draft.AgentPlace.TheVariants.{Nobody, OfTarget, OfMaster}
use Rattle.board_parser.specs.draft.Steps.{◌>>=◌}

-- a target or master before has the name
abbrev pub is_name_used : Board → List ℕ → Bool
is_name_used board name = list_any (is_target_named name) board.targets || list_any (is_master_named name) board.masters

-- the bus of the target of a name
abbrev pub bus_in : Option Target → Option ℕ
bus_in None = None
bus_in (Some target) = Some target.bus

-- the bus of the target of the board that has the name
abbrev pub bus_of_target : Board → List ℕ → Option ℕ
bus_of_target board name = bus_in (find (is_target_named name) board.targets)

-- the target whose details the next line may give
abbrev pub owned : AgentPlace → List Target
owned Nobody = []
owned (OfTarget target) = target ∷ []
owned (OfMaster master) = []

-- a new name; few targets and masters on one bus
abbrev pub agent_fault : Board → List ℕ → ℕ → Option LineFault
agent_fault board name bus =
    if is_name_used board name then Some NameUsed
    else if nat_le most_agents (agents_on board bus) then Some OverLimit
    else None

-- the draft, where there is no such fault
abbrev pub unless : Option LineFault → Draft → Result Draft LineFault
unless None draft = Ok draft
unless (Some fault) draft = Err fault

-- a target before its details
abbrev pub new_target : List ℕ → ℕ → ℕ → Target
new_target name bus device = record {
  name = name;
  bus = bus;
  device = device;
  vendor = 0x1234;
  model = 0x0001;
  stalls = 0;
  burst = most_dwords;
  ranges = [];
  aborts = [];
  openings = [];
}

-- a `target` line
abbrev pub add_target : Bool → Board → List ℕ → ℕ → ℕ → Result Draft LineFault
add_target wide board name bus device =
    unless (agent_fault board name bus) (record { wide = wide; board = board; owner = OfTarget (new_target name bus device) })

-- a detail line stands behind its target
abbrev pub target_in : AgentPlace → Result Target LineFault
target_in Nobody = Err NoOwner
target_in (OfTarget target) = Ok target
target_in (OfMaster master) = Err NoOwner

-- the draft with that target changed, or the fault
abbrev pub on_target : Draft → (Target → Result Target LineFault) → Result Draft LineFault
on_target draft change = do
  target ← target_in draft.owner
  changed ← change target
  Ok (record draft { owner = OfTarget changed })

-- an `id`, a `stall` and a `burst` line: a second one of a target replaces the first
abbrev pub set_identity : ℕ → ℕ → Target → Result Target LineFault
set_identity vendor model target = Ok (record target { vendor = vendor; model = model })

-- the same of a `stall` line
abbrev pub set_stalls : ℕ → Target → Result Target LineFault
set_stalls tokens target = Ok (record target { stalls = tokens })

-- the same of a `burst` line
abbrev pub set_burst : ℕ → Target → Result Target LineFault
set_burst phases target = Ok (record target { burst = phases })

-- memory in units of 64 bytes, I/O in units of 4
abbrev pub unit_of : Space → ℕ
unit_of Mem = 64
unit_of Io = 4
unit_of Cfg = 4

-- addresses of memory have 64 bits in a text that may have them, and all others 32
abbrev pub end_of : Bool → Space → ℕ
end_of false Mem = 2 ^ 32
end_of true Mem = 2 ^ 64
end_of wide Io = 2 ^ 32
end_of wide Cfg = 2 ^ 32

-- in whole units, and not empty
abbrev pub is_in_units : ℕ → Range → Bool
is_in_units unit range = range.base % unit == 0 && range.size % unit == 0 && nat_lt 0 range.size

-- a range that a target may have: its units are looked at first, then its space
abbrev pub fits : Bool → Range → Result Range LineFault
fits wide range =
    if not (is_in_units (unit_of range.space) range) then Err Unaligned
    else if nat_lt (end_of wide range.space) (range.base + range.size) then Err PastItsSpace
    else Ok range

-- at most six base address registers, of which each range takes one or two
abbrev pub put_range : Target → Range → Result Target LineFault
put_range target range =
    if nat_lt 6 (total registers_of target.ranges + registers_of range) then Err OverLimit
    else Ok (record target { ranges = target.ranges ++ range ∷ [] })

-- at most six abort ranges
abbrev pub put_abort : Target → Range → Result Target LineFault
put_abort target range =
    if nat_le 6 (length target.aborts) then Err OverLimit
    else Ok (record target { aborts = target.aborts ++ range ∷ [] })

-- a `range` line and an `abort` line
abbrev pub add_range : Bool → Range → Target → Result Target LineFault
add_range wide range target = fits wide range >>= put_range target

-- the same of an `abort` line
abbrev pub add_abort : Bool → Range → Target → Result Target LineFault
add_abort wide range target = fits wide range >>= put_abort target

-- a `word` line: few of them, each at a multiple of 4
abbrev pub add_opening : Opening → Target → Result Target LineFault
add_opening opening target =
    if not (opening.address % 4 == 0) then Err Unaligned
    else if nat_le most_openings (length target.openings) then Err OverLimit
    else Ok (record target { openings = target.openings ++ opening ∷ [] })
