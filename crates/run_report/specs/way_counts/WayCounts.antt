-- The way counts of a board: what each of its operations counts along its way, whatever else there is on the board.
use Rattle.std.specs.Prelude.{ℕ, Bool, true, false, ◌+◌, List, Option, Some, None, ◌==◌, if◌then◌else◌, slice_get}
use Rattle.std.specs.List.{find}
use Rattle.list_facts.specs.Lists.{total}
use Rattle.pci_command.specs.declared.request.Request.{Request}
use Rattle.pci_command.specs.Command.{is_read}
use Rattle.board_model.specs.declared.agents.Target.{Target as TargetAgent}
use Rattle.board_model.specs.declared.agents.Master.{Master}
use Rattle.board_model.specs.declared.bridge.Bridge.{Bridge}
use Rattle.board_model.specs.declared.bridge.Lane.{Lane as BridgeLane}
use Rattle.board_model.specs.declared.bridge.Place.{Place}
use Rattle.board_model.specs.declared.bridge.Place.TheVariants.{Target, Header, Lane, Nobody}
use Rattle.board_model.specs.declared.op.Op.{Op}
use Rattle.board_model.specs.declared.board.Board.{Board}
use Rattle.board_model.specs.Requests.{request_on, is_posted}
use Rattle.board_model.specs.Ways.{route_of, start_of, end_of, aborts_at, bound_of}
use Rattle.run_report.specs.declared.tallies.CountedKind.{CountedKind}
use Rattle.run_report.specs.declared.tallies.CountedKind.TheVariants.{Land, Read, Accept, Latch, Take, MasterAbort, TargetAbort, Arrive}
use Rattle.run_report.specs.Counts.{column}
use Rattle.run_report.specs.Report.{report_with}

-- Events are weighed by their bus and kind. A count is one weight: 1 for its own bus and kind, 0 for all others.

-- the weight of an event of a kind on a bus
abbrev pub Weight : Type 0
Weight = ℕ → CountedKind → ℕ

-- the weight that counts the events of a kind on a bus
abbrev pub one_of : ℕ → CountedKind → Weight
one_of bus kind on other = if on == bus then (if column other == column kind then 1 else 0) else 0

-- a memory write enters a bridge with one Accept; any other operation with one Latch, and its completion is taken there
abbrev pub entry_weight : Weight → Bool → ℕ → ℕ
entry_weight weight true on = weight on Accept
entry_weight weight false on = weight on Latch + weight on Take

-- what it counts to go over a lane: it enters where the lane begins, arrives where it ends, and its credit or its
-- completion arrives where the lane begins
abbrev pub lane_weight : Board → Weight → Bool → BridgeLane → ℕ
lane_weight board weight posted lane =
    entry_weight weight posted (start_of board lane) + weight (end_of board lane) Arrive + weight (start_of board lane) Arrive

-- the last step of an operation, by who claims it at the end of its way
abbrev pub target_kind : Request → Option TargetAgent → CountedKind
target_kind request None = MasterAbort
target_kind request (Some target) =
    if aborts_at target request then TargetAbort
    else if is_read request.command then Read
    else Land

-- the header of a bridge answers a read; where the bridge is not there nobody does
abbrev pub header_kind : Option Bridge → CountedKind
header_kind None = MasterAbort
header_kind (Some bridge) = Read

-- the same by the place that claims it
abbrev pub last_kind : Board → Request → Place → CountedKind
last_kind board request (Target place) = target_kind request (slice_get board.targets place)
last_kind board request (Header bus) = header_kind (find (λ bridge. bridge.bus == bus) board.bridges)
last_kind board request (Lane lane) = MasterAbort
last_kind board request Nobody = MasterAbort

-- what an operation counts on its way from the bus: over each lane, and where its way ends one step
abbrev pub way_weight : Board → Weight → ℕ → Op → ℕ
way_weight board weight on op =
    let route = route_of board op on in
    total (lane_weight board weight (is_posted (request_on op on))) route.lanes
    + weight route.bus (last_kind board (request_on op route.bus) route.owner)

-- what all operations of all masters count
abbrev pub ways_weight : Board → Weight → ℕ
ways_weight board weight = total (λ (master : Master). total (way_weight board weight master.bus) master.ops) board.masters

-- the way counts: how many events of each kind the operations of a board have on each bus
abbrev pub way_counts : Board → ℕ → CountedKind → ℕ
way_counts board bus kind = ways_weight board (one_of bus kind)

-- the report with the way counts; such a run has as many events as the board's bound
abbrev pub way_report : Board → List ℕ
way_report board = report_with board (bound_of board) (way_counts board)
