-- All who would claim a request on a bus, each by its own rule of decoding and whoever else claims: PCI-to-PCI
-- Bridge Architecture Specification 1.1, chapter 4 (address decoding) and section 3.1 (from memory; configuration transactions).
use Rattle.std.specs.Prelude.{◌≡◌, ℕ, ◌+◌, ◌≤◌, Bool, true, false, not, ◌&&◌, ◌==◌, nat_le, List, [], ◌∷◌, ◌++◌, length, map, filter, if◌then◌else◌}
use Rattle.std.specs.List.{list_any}
use Rattle.pci_command.specs.declared.command.Space.{Space}
use Rattle.pci_command.specs.declared.command.Space.TheVariants.{Mem, Io, Cfg}
use Rattle.pci_command.specs.declared.request.Request.{Request}
use Rattle.pci_command.specs.Command.{space_of}
use Rattle.board_model.specs.declared.agents.Target.{Target as TargetAgent}
use Rattle.board_model.specs.declared.bridge.Bridge.{Bridge}
use Rattle.board_model.specs.declared.bridge.Place.{Place}
use Rattle.board_model.specs.declared.bridge.Place.TheVariants.{Target, Header, Lane, Nobody}
use Rattle.board_model.specs.declared.board.Board.{Board}
use Rattle.board_model.specs.Claims.{range_holds, bridge_holds, decodes_down, is_type_0, device_in, bus_in, claim}

-- a target on the bus, one of whose ranges holds the address
abbrev pub decodes : ℕ → Space → ℕ → TargetAgent → Bool
decodes bus space address target = target.bus == bus && list_any (range_holds space address) target.ranges

-- the bridge above the bus, where none of its windows holds the address
abbrev pub decodes_up : ℕ → Space → ℕ → Bridge → Bool
decodes_up bus space address bridge = bridge.bus == bus && not (bridge_holds space address bridge)

-- a target, and a bridge, with the device number on the bus
abbrev pub is_target_device : ℕ → ℕ → TargetAgent → Bool
is_target_device bus device target = target.bus == bus && target.device == device

-- the same of a bridge, whose primary bus it is
abbrev pub is_bridge_device : ℕ → ℕ → Bridge → Bool
is_bridge_device bus device bridge = bridge.parent == bus && bridge.device == device

-- a bridge below the bus, behind which the named bus lies
abbrev pub leads_to : ℕ → ℕ → Bridge → Bool
leads_to bus named bridge = bridge.parent == bus && nat_le bridge.bus named && nat_le named bridge.last

-- the targets that pass, each by its place in the list, which begins at such a place
abbrev pub targets_from : (TargetAgent → Bool) → ℕ → List TargetAgent → List Place
targets_from test place [] = []
targets_from test place (target ∷ targets) =
    if test target then Target place ∷ targets_from test (place + 1) targets else targets_from test (place + 1) targets

-- the targets of the board that pass, by their places
abbrev pub targets_that : (TargetAgent → Bool) → Board → List Place
targets_that test board = targets_from test 0 board.targets

-- the lanes down, and up, through the bridges that pass, and their headers
abbrev pub lanes_down_that : (Bridge → Bool) → Board → List Place
lanes_down_that test board = map (λ (bridge : Bridge). Lane (record { bus = bridge.bus; up = false })) (filter test board.bridges)

-- the same of the lanes up
abbrev pub lanes_up_that : (Bridge → Bool) → Board → List Place
lanes_up_that test board = map (λ (bridge : Bridge). Lane (record { bus = bridge.bus; up = true })) (filter test board.bridges)

-- the same of the headers
abbrev pub headers_that : (Bridge → Bool) → Board → List Place
headers_that test board = map (λ (bridge : Bridge). Header bridge.bus) (filter test board.bridges)

-- in memory or I/O
abbrev pub claimants_by_address : Board → ℕ → Space → ℕ → List Place
claimants_by_address board bus space address =
    targets_that (decodes bus space address) board
    ++ lanes_down_that (decodes_down bus space address) board
    ++ lanes_up_that (decodes_up bus space address) board

-- in configuration space: of type 0 what has the device number, of type 1 the bridges that lead to the bus
abbrev pub claimants_in_configuration : Board → ℕ → ℕ → List Place
claimants_in_configuration board bus address =
    if is_type_0 address
    then targets_that (is_target_device bus (device_in address)) board ++ headers_that (is_bridge_device bus (device_in address)) board
    else lanes_down_that (leads_to bus (bus_in address)) board

-- who would claim the address in this space
abbrev pub claimants_in : Board → ℕ → Space → ℕ → List Place
claimants_in board bus Mem address = claimants_by_address board bus Mem address
claimants_in board bus Io address = claimants_by_address board bus Io address
claimants_in board bus Cfg address = claimants_in_configuration board bus address

-- who would claim the request, by the space of its command
abbrev pub claimants : Board → ℕ → Request → List Place
claimants board bus request = claimants_in board bus (space_of request.command) request.address

-- the one of them, or nobody where there is none
abbrev pub one_of : List Place → Place
one_of [] = Nobody
one_of (place ∷ places) = place

-- a request on a bus has at most one claimant, and it is the one that claims
pub record OneClaimant (board : Board) (bus : ℕ) (request : Request) : Type 0 where
  pub at_most_one : length (claimants board bus request) ≤ 1
  pub is_claim : claim board bus request ≡ one_of (claimants board bus request)
