-- The canonical text of a board: the first line, bridges, targets, masters, discards and drops, each
-- list in its order.
use Rattle.std.specs.Prelude.{ℕ, Bool, true, ◌+◌, ◌-◌, ◌^◌, List, [], ◌∷◌, ◌++◌, map, Option, Some, None, codes, nat_lt, ◌&&◌, if◌then◌else◌}
use Rattle.std.specs.List.{flat_map, list_all}
use Rattle.std.specs.Fmt.{decimal}
use Rattle.board_model.specs.declared.bridge.Window.{Window}
use Rattle.board_model.specs.declared.bridge.Bridge.{Bridge}
use Rattle.board_model.specs.declared.agents.Range.{Range}
use Rattle.board_model.specs.declared.agents.Target.{Target}
use Rattle.board_model.specs.declared.op.Op.{Op}
use Rattle.board_model.specs.declared.op.Op.TheVariants.{Read, Write, CfgRead, CfgWrite, Poll}
use Rattle.board_model.specs.declared.board.Planned.{Planned}
use Rattle.board_model.specs.declared.board.Board.{Board}
use Rattle.board_printer.specs.Lines.{Line, text_of}
use Rattle.board_printer.specs.Spaces.{direction_word}
use Rattle.board_printer.specs.Bridges.{bridge_line}
use Rattle.board_printer.specs.Targets.{target_lines}
use Rattle.board_printer.specs.Masters.{master_lines}

-- whether a number needs no upper half: an address from 2^32 on is driven in two address phases (PCI
-- Local Bus Specification 2.2, section 3.9, from memory)
abbrev pub is_short : ℕ → Bool
is_short n = nat_lt n (2 ^ 32)

-- the same of every number of a window, of a bridge and so on
abbrev pub is_short_window : Option Window → Bool
is_short_window None = true
is_short_window (Some window) = is_short window.base && is_short window.limit

-- the same of a bridge
abbrev pub is_short_bridge : Bridge → Bool
is_short_bridge bridge = is_short_window bridge.mem && (is_short_window bridge.pref && is_short_window bridge.io)

-- base, size and last address
abbrev pub is_short_range : Range → Bool
is_short_range range = is_short range.base && (is_short range.size && is_short (range.base + range.size - 1))

-- the same of a target: its ranges, its abort ranges and its words
abbrev pub is_short_target : Target → Bool
is_short_target target =
    list_all is_short_range target.ranges && (list_all is_short_range target.aborts
    && list_all (λ opening. is_short opening.address) target.openings)

-- the same of an operation
abbrev pub is_short_op : Op → Bool
is_short_op (Read command address) = is_short address
is_short_op (Write command address phases) = is_short address
is_short_op (CfgRead bus device register) = true
is_short_op (CfgWrite bus device register phase) = true
is_short_op (Poll space address want tries) = is_short address

-- the same of a board
abbrev pub is_short_board : Board → Bool
is_short_board board =
    list_all is_short_bridge board.bridges && (list_all is_short_target board.targets
    && list_all (λ master. list_all is_short_op master.ops) board.masters)

-- `pciboard 1` where every address, size and limit and the last address of every range is below
-- 2^32, and else `pciboard 2`
abbrev pub first_line : Board → Line
first_line board = codes "pciboard" ∷ (if is_short_board board then codes "1" else codes "2") ∷ []

-- `discard B down K` and the like
abbrev pub planned_line : List ℕ → Planned → Line
planned_line word planned = word ∷ decimal planned.bus ∷ direction_word planned.up ∷ decimal planned.count ∷ []

-- all lines, in this order
abbrev pub board_lines : Board → List Line
board_lines board =
    first_line board
    ∷ (map bridge_line board.bridges
    ++ (flat_map target_lines board.targets
    ++ (flat_map master_lines board.masters
    ++ (map (planned_line (codes "discard")) board.discards
    ++ map (planned_line (codes "drop")) board.drops))))

-- the text of these lines
unfoldable pub board_text : Board → List ℕ
board_text board = text_of (board_lines board)
