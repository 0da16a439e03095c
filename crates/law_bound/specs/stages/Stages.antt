-- How far the lanes of its way have brought a delayed request: PCI-to-PCI Bridge Architecture Specification 1.1,
-- chapter 5 (from memory; delayed transactions).
use Rattle.std.specs.Prelude.{ℕ, ◌+◌, ◌*◌, length, Option, Some, None, if◌then◌else◌}
use Rattle.std.specs.List.{find, list_any}
use Rattle.pci_command.specs.declared.op_id.OpId.{OpId}
use Rattle.board_model.specs.declared.bridge.Lane.{Lane as BridgeLane}
use Rattle.board_model.specs.declared.op.Op.{Op}
use Rattle.board_model.specs.declared.board.Board.{Board}
use Rattle.board_model.specs.Ways.{way, end_of, lane_back}
use Rattle.history_model.specs.declared.item.Slot.{Slot}
use Rattle.history_model.specs.Lanes.{LaneState, is_done_for}
use Rattle.history_model.specs.World.{World}
use Rattle.history_model.specs.Local.{is_ask_of, is_gone_of}
use Rattle.history_model.specs.Left.{is_slot_of}

-- how far a lane has brought an operation, by the place of the item of its slot, where so many lanes are behind it:
-- 1 where it holds none, and 0 where the request was dropped
abbrev pub stage : ℕ → LaneState → LaneState → Option Slot → ℕ
stage rest here back None = 1
stage rest here back (Some slot) =
    if list_any (is_ask_of slot.number) here.flight then 2
    else if list_any (is_ask_of slot.number) here.standing then 3
    else if list_any (is_done_for slot.number) back.flight then 4 * rest + 4
    else if list_any (is_done_for slot.number) back.standing then 4 * rest + 5
    else if list_any (is_gone_of slot.number) back.flight then 0
    else 1

-- on a lane of its way
abbrev pub stage_at : Board → Op → OpId → World → BridgeLane → ℕ
stage_at board op o world lane =
    stage (length (way board op (end_of board lane))) (world lane) (world (lane_back lane)) (find (is_slot_of o) (world lane).held)
