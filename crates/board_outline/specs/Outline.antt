-- The outline of a board: what is on each bus, from bus 0 down.
use Rattle.std.specs.Prelude.{ℕ, Bool, ◌+◌, ◌-◌, ◌^◌, min, List, [], ◌∷◌, ◌++◌, length, Option, Some, None, codes, count_by, ◌==◌, ◌&&◌, nat_le, if◌then◌else◌}
use Rattle.std.specs.List.{find, flat_map, repeat, range_with_len}
use Rattle.std.specs.Fmt.{decimal}
use Rattle.board_model.specs.declared.agents.Range.{Range}
use Rattle.board_model.specs.declared.agents.Target.{Target}
use Rattle.board_model.specs.declared.agents.Master.{Master}
use Rattle.board_model.specs.declared.bridge.Window.{Window}
use Rattle.board_model.specs.declared.bridge.Bridge.{Bridge}
use Rattle.board_model.specs.declared.board.Board.{Board}
use Rattle.board_model.specs.Valid.{is_bus}
use Rattle.board_model.specs.WellFormed.{has_bus}
use Rattle.board_printer.specs.Numbers.{address_text}
use Rattle.board_printer.specs.Spaces.{space_word}

-- Addresses are told from the first to the last.

-- `FIRST-LAST`
abbrev pub span_text : ℕ → ℕ → List ℕ
span_text first last = address_text first ++ 45 ∷ address_text last

-- the last address of a range, which of a well-formed one is below 2^64
abbrev pub last_of : Range → ℕ
last_of range = min (range.base + (range.size - 1)) (2 ^ 64 - 1)

-- `mem FIRST-LAST`, or `io`, behind a space or a word
abbrev pub range_text : List ℕ → Range → List ℕ
range_text lead range = lead ++ (space_word range.space ++ 32 ∷ span_text range.base (last_of range))

-- ` mem FIRST-LAST`, ` pref` or ` io`; nothing of a closed window
abbrev pub window_text : List ℕ → Option Window → List ℕ
window_text word None = []
window_text word (Some window) = 32 ∷ (word ++ 32 ∷ span_text window.base window.limit)

-- What is on a bus.

-- ` posted P` or ` delayed N`, left out if 4
abbrev pub depth_text : List ℕ → ℕ → List ℕ
depth_text word depth = if depth == 4 then [] else 32 ∷ (word ++ 32 ∷ decimal depth)

-- ` abort 1`, left out if master aborts are not told
abbrev pub mode_text : Bool → List ℕ
mode_text mode = if mode then codes " abort 1" else []

-- the windows of a bridge that are open
abbrev pub windows_text : Bridge → List ℕ
windows_text bridge =
    window_text (codes "mem") bridge.mem ++ (window_text (codes "pref") bridge.pref ++ window_text (codes "io") bridge.io)

-- how many it holds, and its master abort mode
abbrev pub kept_text : Bridge → List ℕ
kept_text bridge = depth_text (codes "posted") bridge.posted ++ (depth_text (codes "delayed") bridge.delayed ++ mode_text bridge.mode)

-- `bridge B dev D`, its windows, and what is not as it is when left out
abbrev pub bridge_text : Bridge → List ℕ
bridge_text bridge =
    codes "bridge " ++ (decimal bridge.bus ++ (codes " dev " ++ (decimal bridge.device
    ++ (windows_text bridge ++ (kept_text bridge ++ 10 ∷ [])))))

-- `1 operation`, `2 operations`
abbrev pub operations_text : ℕ → List ℕ
operations_text count = decimal count ++ (if count == 1 then codes " operation" else codes " operations")

-- `master NAME N operations`: the lines of its program
abbrev pub master_text : Master → List ℕ
master_text master = codes "master " ++ (master.name ++ 32 ∷ (operations_text (length master.ops) ++ 10 ∷ []))

-- `target NAME dev D`, its ranges, and where it answers with Target-Abort, each in the order of the board
abbrev pub target_text : Target → List ℕ
target_text target =
    codes "target " ++ (target.name ++ (codes " dev " ++ (decimal target.device
    ++ (flat_map (range_text (codes " ")) target.ranges ++ (flat_map (range_text (codes " abort ")) target.aborts ++ 10 ∷ [])))))

-- Two blanks before a line for each bridge that it is below, and two more on a bus.

-- the bus is one of those below the bridge
abbrev pub leads_to : ℕ → Bridge → Bool
leads_to bus bridge = nat_le bridge.bus bus && nat_le bus bridge.last

-- the bridges between bus 0 and a bus
abbrev pub depth_of : Board → ℕ → ℕ
depth_of board bus = count_by (leads_to bus) board.bridges

-- two for each of so many
abbrev pub blanks : ℕ → List ℕ
blanks depth = repeat depth (codes "  ")

-- `bus 0`, or the line of the bridge to the bus
abbrev pub head_text : ℕ → Option Bridge → List ℕ
head_text bus None = codes "bus " ++ (decimal bus ++ 10 ∷ [])
head_text bus (Some bridge) = bridge_text bridge

-- the line of a master or target that is on this bus
abbrev pub there_text : Bool → ℕ → List ℕ → List ℕ
there_text there depth line = if there then codes "  " ++ (blanks depth ++ line) else []

-- the line of a master that is on this bus
abbrev pub master_on : ℕ → ℕ → Master → List ℕ
master_on bus depth master = there_text (master.bus == bus) depth (master_text master)

-- the line of a target that is on this bus
abbrev pub target_on : ℕ → ℕ → Target → List ℕ
target_on bus depth target = there_text (target.bus == bus) depth (target_text target)

-- a bus: its own line, its masters, its targets
abbrev pub bus_text : Board → ℕ → List ℕ
bus_text board bus =
    blanks (depth_of board bus) ++ (head_text bus (find (has_bus bus) board.bridges)
    ++ (flat_map (master_on bus (depth_of board bus)) board.masters ++ flat_map (target_on bus (depth_of board bus)) board.targets))

-- nothing of a number that is no bus of the board
abbrev pub place_text : Board → ℕ → List ℕ
place_text board bus = if is_bus board bus then bus_text board bus else []

-- the buses by number. In a valid board the buses below a bridge are numbered from its own to its last, and those below
-- two bridges of one bus do not meet: so behind a bridge come its bus, then all that is below, then the next bridge
unfoldable pub outline_text : Board → List ℕ
outline_text board = flat_map (place_text board) (range_with_len 0 256)
