-- Which fault of a tree is named: the first in order.
use Rattle.std.specs.Prelude.{Option, Some, None, if◌then◌else◌}
use Rattle.board_model.specs.declared.board.Board.{Board}
use Rattle.board_model.specs.Valid.{lacks_a_bus, is_no_tree, has_windows_that_meet, is_out_of_reach, has_range_in_window, has_ranges_that_meet, has_devices_that_meet, writes_a_header}
use Rattle.text_faults.specs.declared.tree.TreeFault.{TreeFault}
use Rattle.text_faults.specs.declared.tree.TreeFault.TheVariants.{LacksABus, NoTree, WindowsMeet, OutOfReach, RangeInWindow, RangesMeet, DevicesMeet, WritesAHeader}

-- the first that a board has
abbrev pub first_fault_of : Board → Option TreeFault
first_fault_of board =
    if lacks_a_bus board then Some LacksABus
    else if is_no_tree board then Some NoTree
    else if has_windows_that_meet board then Some WindowsMeet
    else if is_out_of_reach board then Some OutOfReach
    else if has_range_in_window board then Some RangeInWindow
    else if has_ranges_that_meet board then Some RangesMeet
    else if has_devices_that_meet board then Some DevicesMeet
    else if writes_a_header board then Some WritesAHeader
    else None
