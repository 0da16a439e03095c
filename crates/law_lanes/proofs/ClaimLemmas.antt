-- A lane that claims on a bus begins there.
use Rattle.std.proofs.Common.{◌≡◌, ℕ, Bool, true, false, ◌&&◌, ◌==◌, cond, nat_le, Option, Some, None, refl, ap, subst, ◌∙◌, arith}
use Rattle.std.specs.List.{find, list_any, position_from}
use Rattle.std.proofs.lemmas.Bool.Decides.{nat_tests}
use Rattle.list_facts.proofs.FindLemmas.{find_passes}
use Rattle.list_facts.proofs.EachLemmas.{Each-find}
use Rattle.pci_command.specs.declared.command.Space.{Space}
use Rattle.pci_command.specs.declared.command.Space.TheVariants.{Mem, Io, Cfg}
use Rattle.pci_command.specs.declared.request.Request.{Request}
use Rattle.pci_command.specs.Command.{space_of}
use Rattle.board_model.specs.declared.bridge.Bridge.{Bridge}
use Rattle.board_model.specs.declared.bridge.Lane.{Lane as BridgeLane}
use Rattle.board_model.specs.declared.bridge.Place.{Place}
use Rattle.board_model.specs.declared.bridge.Place.TheVariants.{Lane, Nobody}
use Rattle.board_model.specs.declared.board.Board.{Board}
use Rattle.board_model.specs.Claims.{range_holds, bridge_holds, decodes_down, claim_upwards, claim_by_bridge, claim_by_address, claim_by_header, claim_by_device, claim_by_bus, is_type_0, device_in, bus_in, claim_in_configuration, claim_in_space, claim}
use Rattle.board_model.specs.Ways.{primary_in, start_of}
use Rattle.history_model.specs.Answers.{bridge_to}
use Rattle.law_lanes.specs.Depths.{DifferentNumbers}
use Rattle.law_lanes.proofs.NumberLemmas.{bridge_found}

-- the lane down through a bridge begins on its primary bus
down_starts : (board : Board) (test : Bridge → Bool) (child : Bridge) → DifferentNumbers board → find test board.bridges ≡ Some child → start_of board (record { bus = child.bus; up = false }) ≡ child.parent
down_starts board test child distinct some =
    let P : Bridge → Type 0 = λ b. bridge_to board b.bus ≡ Some b in
    let found : bridge_to board child.bus ≡ Some child = Each-find P test board.bridges child (bridge_found board.bridges distinct) some in
    ap primary_in found

-- where the place is a lane, it begins on the bus
abbrev StartsOn : Board → ℕ → Place → Type 0
StartsOn board bus place = (lane : BridgeLane) → place ≡ Lane lane → start_of board lane ≡ bus

lane_starts : (board : Board) (bus : ℕ) (at : BridgeLane) → start_of board at ≡ bus → StartsOn board bus (Lane at)
lane_starts board bus at starts lane same = let one : at ≡ lane = cc in subst (λ (l : BridgeLane). start_of board l ≡ bus) one starts

by_bridge_starts : (board : Board) (bus : ℕ) (space : Space) (address : ℕ) (found : Option Bridge) → DifferentNumbers board → find (decodes_down bus space address) board.bridges ≡ found → StartsOn board bus (claim_by_bridge board bus space address found)
by_bridge_starts board bus space address (Some child) distinct is =
    let test : Bridge → Bool = decodes_down bus space address in
    let passes : (child.parent == bus && bridge_holds space address child) ≡ true = find_passes test board.bridges child is in
    let parent : child.parent ≡ bus = grind (arith, nat_tests) in
    lane_starts board bus (record { bus = child.bus; up = false }) (down_starts board test child distinct is ∙ parent)
by_bridge_starts board bus space address None distinct is =
    let P : Option Bridge → Type 0 = λ own. StartsOn board bus (claim_upwards bus space address own) in
    elim (bridge_to board bus) as P [
      | None ↦ λ lane e. cc
      | Some own ↦
          let Q : Bool → Type 0 = λ b. StartsOn board bus (cond b Nobody (Lane (record { bus = bus; up = true }))) in
          elim (bridge_holds space address own) as Q [ true ↦ λ lane e. cc | false ↦ lane_starts board bus (record { bus = bus; up = true }) refl ]
    ]

by_address_starts : (board : Board) (bus : ℕ) (space : Space) (address : ℕ) (target : Option ℕ) → DifferentNumbers board → StartsOn board bus (claim_by_address board bus space address target)
by_address_starts board bus space address (Some target) distinct = λ lane e. cc
by_address_starts board bus space address None distinct = by_bridge_starts board bus space address (find (decodes_down bus space address) board.bridges) distinct refl

by_device_starts : (board : Board) (bus device : ℕ) (target : Option ℕ) → StartsOn board bus (claim_by_device board bus device target)
by_device_starts board bus device (Some target) = λ lane e. cc
by_device_starts board bus device None =
    let P : Option Bridge → Type 0 = λ found. StartsOn board bus (claim_by_header found) in
    elim (find (λ (bridge : Bridge). bridge.parent == bus && bridge.device == device) board.bridges) as P [ None ↦ λ lane e. cc | Some bridge ↦ λ lane e. cc ]

by_bus_starts : (board : Board) (bus address : ℕ) (found : Option Bridge) → DifferentNumbers board
    → find (λ (bridge : Bridge). bridge.parent == bus && nat_le bridge.bus (bus_in address) && nat_le (bus_in address) bridge.last) board.bridges ≡ found
    → StartsOn board bus (claim_by_bus found)
by_bus_starts board bus address None distinct is = λ lane e. cc
by_bus_starts board bus address (Some child) distinct is =
    let test : Bridge → Bool = λ bridge. bridge.parent == bus && nat_le bridge.bus (bus_in address) && nat_le (bus_in address) bridge.last in
    let passes : (child.parent == bus && nat_le child.bus (bus_in address) && nat_le (bus_in address) child.last) ≡ true = find_passes test board.bridges child is in
    let parent : child.parent ≡ bus = grind (arith, nat_tests) in
    lane_starts board bus (record { bus = child.bus; up = false }) (down_starts board test child distinct is ∙ parent)

configuration_starts : (board : Board) (bus address : ℕ) → DifferentNumbers board → StartsOn board bus (claim_in_configuration board bus address)
configuration_starts board bus address distinct =
    let device : Place = claim_by_device board bus (device_in address)
    (position_from (λ target. target.bus == bus && target.device == device_in address) 0 board.targets) in
    let behind : Option Bridge = find (λ (bridge : Bridge). bridge.parent == bus && nat_le bridge.bus (bus_in address) && nat_le (bus_in address) bridge.last) board.bridges in
    let P : Bool → Type 0 = λ b. StartsOn board bus (cond b device (claim_by_bus behind)) in
    elim (is_type_0 address) as P [
      | true ↦ by_device_starts board bus (device_in address) (position_from (λ target. target.bus == bus && target.device == device_in address) 0 board.targets)
      | false ↦ by_bus_starts board bus address behind distinct refl
    ]

space_starts : (board : Board) (bus : ℕ) (space : Space) (address : ℕ) → DifferentNumbers board → StartsOn board bus (claim_in_space board bus space address)
space_starts board bus Mem address distinct =
    by_address_starts board bus Mem address (position_from (λ target. target.bus == bus && list_any (range_holds Mem address) target.ranges) 0 board.targets) distinct
space_starts board bus Io address distinct =
    by_address_starts board bus Io address (position_from (λ target. target.bus == bus && list_any (range_holds Io address) target.ranges) 0 board.targets) distinct
space_starts board bus Cfg address distinct = configuration_starts board bus address distinct

pub claim_starts : (board : Board) (on : ℕ) (request : Request) (lane : BridgeLane) → DifferentNumbers board → claim board on request ≡ Lane lane → start_of board lane ≡ on
claim_starts board on request lane distinct claims = space_starts board on (space_of request.command) request.address distinct lane claims
