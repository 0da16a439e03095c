-- The way of an operation through the bridges, its words, and what it may cost.
use Rattle.std.specs.Prelude.{ℕ, Bool, true, false, not, ◌+◌, ◌*◌, ◌/◌, ◌%◌, ◌-◌, ◌^◌, zero, suc, List, [], ◌∷◌, length, Option, Some, None, ◌==◌, if◌then◌else◌, slice_get}
use Rattle.std.specs.List.{find, list_any}
use Rattle.list_facts.specs.Lists.{total, greatest}
use Rattle.pci_command.specs.declared.command.Space.{Space}
use Rattle.pci_command.specs.declared.command.Space.TheVariants.{Mem, Io, Cfg}
use Rattle.pci_command.specs.declared.phases.Phase.{Phase}
use Rattle.pci_command.specs.declared.request.Request.{Request}
use Rattle.pci_command.specs.Command.{space_of}
use Rattle.board_model.specs.declared.agents.Target.{Target as TargetAgent}
use Rattle.board_model.specs.declared.agents.Master.{Master}
use Rattle.board_model.specs.declared.bridge.Bridge.{Bridge}
use Rattle.board_model.specs.declared.bridge.Lane.{Lane as BridgeLane}
use Rattle.board_model.specs.declared.bridge.Place.{Place}
use Rattle.board_model.specs.declared.bridge.Place.TheVariants.{Target, Header, Lane, Nobody}
use Rattle.board_model.specs.declared.op.Op.{Op}
use Rattle.board_model.specs.declared.board.Board.{Board}
use Rattle.board_model.specs.Requests.{request_on, tries_of, is_posted}
use Rattle.board_model.specs.Claims.{claim, range_holds}

-- the other lane of the same bridge
abbrev pub lane_back : BridgeLane → BridgeLane
lane_back lane = record { bus = lane.bus; up = not lane.up }

-- a lane is there
abbrev pub is_lane : Place → Bool
is_lane (Target target) = false
is_lane (Header bus) = false
is_lane (Lane lane) = true
is_lane Nobody = false

-- the bus above a bridge, from its secondary bus
abbrev pub primary_in : Option Bridge → ℕ
primary_in None = 0
primary_in (Some bridge) = bridge.parent

-- the bus above the bridge to this bus; 0 where there is none
abbrev pub primary_of : Board → ℕ → ℕ
primary_of board bus = primary_in (find (λ bridge. bridge.bus == bus) board.bridges)

-- the bus on which what a lane carries arrives
abbrev pub end_of : Board → BridgeLane → ℕ
end_of board lane = if lane.up then primary_of board lane.bus else lane.bus

-- the bus from which what a lane carries comes
abbrev pub start_of : Board → BridgeLane → ℕ
start_of board lane = if lane.up then lane.bus else primary_of board lane.bus

-- the lanes from a bus on that an operation takes, at most so many, and the bus and the owner where they end
pub record Route : Type 0 where
  pub lanes : List BridgeLane
  pub bus : ℕ
  pub owner : Place

-- the route from a bus where this place claims: it ends there, or goes on over a lane
abbrev pub route_by : (BridgeLane → Route) → ℕ → Place → Route
route_by onwards on (Target target) = record { lanes = []; bus = on; owner = Target target }
route_by onwards on (Header bus) = record { lanes = []; bus = on; owner = Header bus }
route_by onwards on Nobody = record { lanes = []; bus = on; owner = Nobody }
route_by onwards on (Lane lane) =
    let rest = onwards lane in record { lanes = lane ∷ rest.lanes; bus = rest.bus; owner = rest.owner }

-- the route of an operation over at most so many lanes
abbrev pub route_within : ℕ → Board → Op → ℕ → Route
route_within zero board op on = record { lanes = []; bus = on; owner = claim board on (request_on op on) }
route_within (suc n) board op on =
    route_by (λ lane. route_within n board op (end_of board lane)) on (claim board on (request_on op on))

-- the route of an operation from a bus on, by following claims: none takes more lanes than the board has bridges
abbrev pub route_of : Board → Op → ℕ → Route
route_of board op on = route_within (length board.bridges) board op on

-- the way of an operation from a bus on
abbrev pub way : Board → Op → ℕ → List BridgeLane
way board op on = (route_of board op on).lanes

-- a dword: of which target, in which space, at which address (in configuration space: the offset of the register)
pub record Dword : Type 0 where
  pub target : ℕ
  pub space : Space
  pub address : ℕ

-- the address of the dword that a request names: in configuration space the offset of its register
abbrev pub address_in : Space → ℕ → ℕ
address_in Mem address = address
address_in Io address = address
address_in Cfg address = address % 2 ^ 8

-- the address lies in an abort range of the target
abbrev pub aborts_at : TargetAgent → Request → Bool
aborts_at target request = list_any (range_holds (space_of request.command) request.address) target.aborts

-- one dword for each data phase, four bytes apart
abbrev pub dwords_from : ℕ → Space → ℕ → List Phase → List Dword
dwords_from target space address [] = []
dwords_from target space address (phase ∷ phases) =
    record { target = target; space = space; address = address } ∷ dwords_from target space (address + 4) phases

-- the dwords of a request at a target
abbrev pub dwords_of : ℕ → Request → List Dword
dwords_of target request =
    let space = space_of request.command in
    dwords_from target space (address_in space request.address) request.phases

-- the words of a request at a target: none where the target aborts it
abbrev pub words_at : ℕ → Request → Option TargetAgent → List Dword
words_at place request None = []
words_at place request (Some target) = if aborts_at target request then [] else dwords_of place request

-- the words of a request at the place that claims it: none where it is no target
abbrev pub words_by : Board → Request → Place → List Dword
words_by board request (Target place) = words_at place request (slice_get board.targets place)
words_by board request (Header bus) = []
words_by board request (Lane lane) = []
words_by board request Nobody = []

-- the words of an operation from the bus on: those where its way ends at a target
abbrev pub words_of : Board → Op → ℕ → List Dword
words_of board op on = let route = route_of board op on in words_by board (request_on op route.bus) route.owner

-- in how many pieces a target takes so many data phases, of which it takes `burst` at a time
abbrev pub pieces_in : ℕ → ℕ → ℕ
pieces_in burst phases = (phases + (burst - 1)) / burst

-- in how many pieces a target takes so many data phases: in one where it aborts them
abbrev pub pieces_at : Request → ℕ → Option TargetAgent → ℕ
pieces_at request phases None = 1
pieces_at request phases (Some target) = if aborts_at target request then 1 else pieces_in target.burst phases

-- the same by the place that claims the request: in one where it is no target
abbrev pub pieces_by : Board → Request → ℕ → Place → ℕ
pieces_by board request phases (Target place) = pieces_at request phases (slice_get board.targets place)
pieces_by board request phases (Header bus) = 1
pieces_by board request phases (Lane lane) = 1
pieces_by board request phases Nobody = 1

-- in how many pieces the last so many data phases of a write reach the end of its way from the bus on
abbrev pub pieces_of : Board → Op → ℕ → ℕ → ℕ
pieces_of board op on phases =
    let route = route_of board op on in pieces_by board (request_on op route.bus) phases route.owner

-- how many events one try of an operation costs at most, from the bus on
abbrev pub cost_of_try : Board → ℕ → Op → ℕ
cost_of_try board on op =
    let request = request_on op on in
    if is_posted request
    then 3 * length (way board op on) + pieces_of board op on (length request.phases)
    else 4 * length (way board op on) + 1

-- the cost of an operation: of a poll that of its tries
abbrev pub cost_of : Board → ℕ → Op → ℕ
cost_of board on op = tries_of op * cost_of_try board on op

-- the greatest length of the way of an operation
abbrev pub longest_way : Board → ℕ
longest_way board =
    greatest (λ (master : Master). greatest (λ op. length (way board op master.bus)) master.ops) board.masters

-- how many events a run of the board has at most
abbrev pub bound_of : Board → ℕ
bound_of board =
    total (λ (master : Master). total (cost_of board master.bus) master.ops) board.masters
    + total (λ (target : TargetAgent). target.stalls) board.targets
    + 4 * longest_way board * length board.discards
    + 3 * length board.drops
