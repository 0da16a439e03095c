-- When a discard or a drop is added to a board.
use Rattle.std.specs.Prelude.{Bool, [], ◌∷◌, ◌++◌, length, Result, Ok, Err, nat_le, if◌then◌else◌}
use Rattle.board_model.specs.Limits.{most_plans}
use Rattle.board_model.specs.declared.board.Board.{Board}
use Rattle.board_model.specs.declared.board.Planned.{Planned}
use Rattle.text_faults.specs.declared.board_line.LineFault.{LineFault}
use Rattle.text_faults.specs.declared.board_line.LineFault.TheVariants.{OverLimit}
use Rattle.board_parser.specs.declared.draft.draft.Draft.{Draft}
use Rattle.board_parser.specs.draft.Drafts.{draft_of}

-- a `discard` line and a `drop` line: at most 1,024 of each
abbrev pub add_discard : Bool → Board → Planned → Result Draft LineFault
add_discard wide board planned =
    if nat_le most_plans (length board.discards) then Err OverLimit
    else Ok (draft_of wide (record board { discards = board.discards ++ planned ∷ [] }))

-- the same of a `drop` line
abbrev pub add_drop : Bool → Board → Planned → Result Draft LineFault
add_drop wide board planned =
    if nat_le most_plans (length board.drops) then Err OverLimit
    else Ok (draft_of wide (record board { drops = board.drops ++ planned ∷ [] }))
