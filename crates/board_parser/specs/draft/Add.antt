-- A statement is added to a draft, or is refused by the first of its faults.
use Rattle.std.specs.Prelude.{ℕ, Result}
use Rattle.text_faults.specs.declared.board_line.LineFault.{LineFault}
use Rattle.board_statements.specs.declared.statement.Statement.{Statement}
use Rattle.board_statements.specs.declared.statement.Statement.TheVariants.{NewBridge, NewHeader, NewTarget, Identifies, Stalls, Bursts, Claims, Aborts, Opens, NewMaster, Does, Discards, Drops}
use Rattle.board_parser.specs.declared.draft.draft.Draft.{Draft}
use Rattle.board_parser.specs.draft.Drafts.{board_of}
use Rattle.board_parser.specs.draft.Bridges.{add_bridge, add_header}
use Rattle.board_parser.specs.draft.Targets.{add_target, on_target, set_identity, set_stalls, set_burst, add_range, add_abort, add_opening}
use Rattle.board_parser.specs.draft.Masters.{add_master, does}
use Rattle.board_parser.specs.draft.Plans.{add_discard, add_drop}
use Rattle.board_model.specs.Requests.{tries_of}

-- the draft behind the statement, or the first of its faults
abbrev pub add : Draft → Statement → Result Draft LineFault
add draft (NewBridge bridge) = add_bridge draft.wide (board_of draft) bridge
add draft (NewHeader device bytes posted delayed) = add_header draft.wide (board_of draft) device bytes posted delayed
add draft (NewTarget name bus device) = add_target draft.wide (board_of draft) name bus device
add draft (Identifies vendor model) = on_target draft (set_identity vendor model)
add draft (Stalls tokens) = on_target draft (set_stalls tokens)
add draft (Bursts phases) = on_target draft (set_burst phases)
add draft (Claims range) = on_target draft (add_range draft.wide range)
add draft (Aborts range) = on_target draft (add_abort draft.wide range)
add draft (Opens opening) = on_target draft (add_opening opening)
add draft (NewMaster name bus) = add_master draft.wide (board_of draft) name bus
add draft (Does op too_many) = does draft op too_many
add draft (Discards planned) = add_discard draft.wide (board_of draft) planned
add draft (Drops planned) = add_drop draft.wide (board_of draft) planned

-- how many operations a statement adds, a poll counted by its tries
abbrev pub tries_in : Statement → ℕ
tries_in (NewBridge bridge) = 0
tries_in (NewHeader device bytes posted delayed) = 0
tries_in (NewTarget name bus device) = 0
tries_in (Identifies vendor model) = 0
tries_in (Stalls tokens) = 0
tries_in (Bursts phases) = 0
tries_in (Claims range) = 0
tries_in (Aborts range) = 0
tries_in (Opens opening) = 0
tries_in (NewMaster name bus) = 0
tries_in (Does op too_many) = tries_of op
tries_in (Discards planned) = 0
tries_in (Drops planned) = 0
