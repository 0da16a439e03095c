-- One claim by a lane: a lane up leaves a bridge whose windows do not hold the address, a lane down enters one
-- whose windows do.
use Rattle.std.proofs.Common.{◌≡◌, ℕ, Bool, true, false, cond, eqb, not, ◌&&◌, ◌||◌, ◌==◌, List, [], ◌∷◌, Option, Some, None, refl, ap, subst, ◌∙◌, ◌⊎◌, inl, inr, ⊎_elim, arith, eq-eqb, eqb-true}
use Rattle.std.specs.List.{find, list_any, position_from}
use Rattle.std.proofs.lemmas.Bool.{and_parts, or_right}
use Rattle.std.proofs.lemmas.Bool.Decides.{nat_tests}
use Rattle.list_facts.proofs.FindLemmas.{find_passes}
use Rattle.pci_command.specs.declared.command.Space.{Space}
use Rattle.pci_command.specs.declared.command.Space.TheVariants.{Mem, Io, Cfg}
use Rattle.pci_command.specs.Command.{space_of}
use Rattle.board_model.specs.declared.bridge.Bridge.{Bridge}
use Rattle.board_model.specs.declared.bridge.Lane.{Lane as BridgeLane}
use Rattle.board_model.specs.declared.bridge.Place.TheVariants.{Lane, Nobody}
use Rattle.board_model.specs.declared.op.Op.{Op}
use Rattle.board_model.specs.declared.op.Op.TheVariants.{Read, Write, CfgRead, CfgWrite, Poll}
use Rattle.board_model.specs.declared.board.Board.{Board}
use Rattle.board_model.specs.Requests.{command_of, address_on, request_on}
use Rattle.board_model.specs.Claims.{range_holds, bridge_holds, decodes_down, claim_upwards, claim_by_bridge, claim_by_address, claim_by_header, claim_by_device, claim_by_bus, is_type_0, device_in, bus_in, claim_in_configuration, claim_in_space, claim}
use Rattle.board_model.specs.WellFormed.{has_bus, are_numbered_apart}
use Rattle.board_model.specs.form_laws.Claimants.{leads_to}

-- nothing at the address goes up through the bridge
abbrev pub stays_by : Space → ℕ → Option Bridge → Bool
stays_by space address None = true
stays_by Mem address (Some own) = bridge_holds Mem address own
stays_by Io address (Some own) = bridge_holds Io address own
stays_by Cfg address (Some own) = true

abbrev pub own_of : Board → ℕ → Option Bridge
own_of board bus = find (has_bus bus) board.bridges

-- the lane up from the bus, by the bridge above it
pub record GoesUp (board : Board) (space : Space) (address : ℕ) (on : ℕ) (lane : BridgeLane) : Type 0 where
  pub own : Bridge
  pub is_own : own_of board on ≡ Some own
  pub outside : stays_by space address (Some own) ≡ false
  pub is : lane ≡ record { bus = on; up = true }

-- the lane down from the bus, by a bridge below it
pub record GoesDown (board : Board) (space : Space) (address : ℕ) (on : ℕ) (lane : BridgeLane) : Type 0 where
  pub child : Bridge
  pub test : Bridge → Bool
  pub is_child : find test board.bridges ≡ Some child
  pub parent : child.parent ≡ on
  pub inside : stays_by space address (Some child) ≡ true
  pub is : lane ≡ record { bus = child.bus; up = false }

abbrev pub Goes : Board → Space → ℕ → ℕ → BridgeLane → Type 0
Goes board space address on lane = GoesUp board space address on lane ⊎ GoesDown board space address on lane

-- the claim by a bridge, in a space where its windows decide
module _ (board : Board) (on : ℕ) (space : Space) (address : ℕ) (decides : (bridge : Bridge) → stays_by space address (Some bridge) ≡ bridge_holds space address bridge) where
  upwards : (own : Option Bridge) (lane : BridgeLane) → own_of board on ≡ own → claim_upwards on space address own ≡ Lane lane → Goes board space address on lane
  upwards None lane is claims = cc
  upwards (Some own) lane is claims =
      let P : Bool → Type 0 = λ holds. bridge_holds space address own ≡ holds → cond holds Nobody (Lane (record { bus = on; up = true })) ≡ Lane lane → Goes board space address on lane in
      (elim (bridge_holds space address own) as P [
        | true ↦ λ holds e. cc
        | false ↦ λ fails e. inl (record { own = own; is_own = is; outside = decides own ∙ fails; is = cc })
      ]) refl claims

  by_bridge : (child : Option Bridge) (lane : BridgeLane) → find (decodes_down on space address) board.bridges ≡ child → claim_by_bridge board on space address child ≡ Lane lane → Goes board space address on lane
  by_bridge None lane is claims = upwards (own_of board on) lane refl claims
  by_bridge (Some child) lane is claims =
      let passes : (eqb child.parent on && bridge_holds space address child) ≡ true = find_passes (decodes_down on space address) board.bridges child is in
      let parent : child.parent ≡ on = grind (arith, nat_tests) in
      let holds : bridge_holds space address child ≡ true = grind (arith, nat_tests) in
      inr (record { child = child; test = decodes_down on space address; is_child = is; parent = parent; inside = decides child ∙ holds; is = cc })

  by_address : (target : Option ℕ) (lane : BridgeLane) → claim_by_address board on space address target ≡ Lane lane → Goes board space address on lane
  by_address None lane claims = by_bridge (find (decodes_down on space address) board.bridges) lane refl claims
  by_address (Some target) lane claims = cc

-- the claim in configuration space, where nothing goes up
by_header : (board : Board) (address on : ℕ) (found : Option Bridge) (lane : BridgeLane) → claim_by_header found ≡ Lane lane → Goes board Cfg address on lane
by_header board address on None lane claims = cc
by_header board address on (Some bridge) lane claims = cc

by_device : (board : Board) (address on device : ℕ) (target : Option ℕ) (lane : BridgeLane) → claim_by_device board on device target ≡ Lane lane → Goes board Cfg address on lane
by_device board address on device None lane claims = by_header board address on (find (λ (bridge : Bridge). bridge.parent == on && bridge.device == device) board.bridges) lane claims
by_device board address on device (Some target) lane claims = cc

by_bus : (board : Board) (address on bus : ℕ) (found : Option Bridge) (lane : BridgeLane) → find (leads_to on bus) board.bridges ≡ found → claim_by_bus found ≡ Lane lane → Goes board Cfg address on lane
by_bus board address on bus None lane is claims = cc
by_bus board address on bus (Some bridge) lane is claims =
    let passes : leads_to on bus bridge ≡ true = find_passes (leads_to on bus) board.bridges bridge is in
    let parent : bridge.parent ≡ on = grind (arith, nat_tests) in
    inr (record { child = bridge; test = leads_to on bus; is_child = is; parent = parent; inside = refl; is = cc })

in_configuration : (board : Board) (address on : ℕ) (lane : BridgeLane) → claim_in_configuration board on address ≡ Lane lane → Goes board Cfg address on lane
in_configuration board address on lane claims =
    let target : Option ℕ = position_from (λ target. target.bus == on && target.device == device_in address) 0 board.targets in
    let found : Option Bridge = find (leads_to on (bus_in address)) board.bridges in
    let P : Bool → Type 0 = λ type_0. cond type_0 (claim_by_device board on (device_in address) target) (claim_by_bus found) ≡ Lane lane → Goes board Cfg address on lane in
    (elim (is_type_0 address) as P [
      | true ↦ λ e. by_device board address on (device_in address) target lane e
      | false ↦ λ e. by_bus board address on (bus_in address) found lane refl e
    ]) claims

in_space : (board : Board) (space : Space) (address on : ℕ) (lane : BridgeLane) → claim_in_space board on space address ≡ Lane lane → Goes board space address on lane
in_space board Mem address on lane claims = by_address board on Mem address (λ bridge. refl) (position_from (λ target. target.bus == on && list_any (range_holds Mem address) target.ranges) 0 board.targets) lane claims
in_space board Io address on lane claims = by_address board on Io address (λ bridge. refl) (position_from (λ target. target.bus == on && list_any (range_holds Io address) target.ranges) 0 board.targets) lane claims
in_space board Cfg address on lane claims = in_configuration board address on lane claims

-- the address of an operation is the same on each bus, or in configuration space
stays_alike : (op : Op) (on other : ℕ) (bridge : Option Bridge) → stays_by (space_of (command_of op)) (address_on op on) bridge ≡ stays_by (space_of (command_of op)) (address_on op other) bridge
stays_alike (Read command address) on other bridge = refl
stays_alike (Write command address phases) on other bridge = refl
stays_alike (CfgRead bus device register) on other None = refl
stays_alike (CfgRead bus device register) on other (Some bridge) = refl
stays_alike (CfgWrite bus device register phase) on other None = refl
stays_alike (CfgWrite bus device register phase) on other (Some bridge) = refl
stays_alike (Poll space address want tries) on other bridge = refl

-- a bridge that is found is one of the board, and where no two have one number it is found by its number
found_is_there : (test : Bridge → Bool) (bridges : List Bridge) (bridge : Bridge) → find test bridges ≡ Some bridge → list_any (has_bus bridge.bus) bridges ≡ true
found_is_there test [] bridge is = cc
found_is_there test (b ∷ bridges) bridge is =
    let P : Bool → Type 0 = λ passes. cond passes (Some b) (find test bridges) ≡ Some bridge → (eqb b.bus bridge.bus || list_any (has_bus bridge.bus) bridges) ≡ true in
    (elim (test b) as P [
      | true ↦ λ e. let same : b ≡ bridge = cc in let number : b.bus ≡ bridge.bus = ap (λ x. x.bus) same in grind (arith, nat_tests)
      | false ↦ λ e. or_right (eqb b.bus bridge.bus) (list_any (has_bus bridge.bus) bridges) (found_is_there test bridges bridge e)
    ]) is

pub found_by_number : (test : Bridge → Bool) (bridges : List Bridge) (bridge : Bridge) → are_numbered_apart bridges ≡ true → find test bridges ≡ Some bridge → find (has_bus bridge.bus) bridges ≡ Some bridge
found_by_number test [] bridge apart is = cc
found_by_number test (b ∷ bridges) bridge apart is =
    let parts = and_parts (not (list_any (has_bus b.bus) bridges)) (are_numbered_apart bridges) apart in
    let P : Bool → Type 0 = λ passes. cond passes (Some b) (find test bridges) ≡ Some bridge → cond (eqb b.bus bridge.bus) (Some b) (find (has_bus bridge.bus) bridges) ≡ Some bridge in
    (elim (test b) as P [
      | true ↦ λ e. let same : b ≡ bridge = cc in let number : eqb b.bus bridge.bus ≡ true = eq-eqb b.bus bridge.bus (ap (λ x. x.bus) same) in rw number (cc)
      | false ↦ λ e.
          let later = found_by_number test bridges bridge parts.1 e in
          let there = found_is_there test bridges bridge e in
          let Q : Bool → Type 0 = λ same. eqb b.bus bridge.bus ≡ same → cond same (Some b) (find (has_bus bridge.bus) bridges) ≡ Some bridge in
          (elim (eqb b.bus bridge.bus) as Q [
            | true ↦ λ same.
                let number : b.bus ≡ bridge.bus = eqb-true b.bus bridge.bus same in
                let none : not (list_any (has_bus bridge.bus) bridges) ≡ true = subst (λ n. not (list_any (has_bus n) bridges) ≡ true) number parts.0 in
                cc
            | false ↦ λ other. later
          ]) refl
    ]) is

-- nothing of an operation goes up from the bus
abbrev pub stays : Board → Op → ℕ → Bool
stays board op bus = stays_by (space_of (command_of op)) (address_on op 0) (own_of board bus)

-- a claim by the lane up from the bus, and by a lane down from it
pub record Up (board : Board) (op : Op) (on : ℕ) (lane : BridgeLane) : Type 0 where
  pub is : lane ≡ record { bus = on; up = true }
  pub own : Bridge
  pub is_own : own_of board on ≡ Some own
  pub leaves : stays board op on ≡ false

pub record Down (board : Board) (op : Op) (on : ℕ) (lane : BridgeLane) : Type 0 where
  pub is : lane ≡ record { bus = lane.bus; up = false }
  pub child : Bridge
  pub parent : child.parent ≡ on
  pub is_child : own_of board lane.bus ≡ Some child
  pub inside : stays board op lane.bus ≡ true

pub steps : (board : Board) (op : Op) (on : ℕ) (lane : BridgeLane) → are_numbered_apart board.bridges ≡ true → claim board on (request_on op on) ≡ Lane lane → Up board op on lane ⊎ Down board op on lane
steps board op on lane apart claims =
    let space : Space = space_of (command_of op) in
    let S : Option Bridge → Type 0 = λ own. stays_by space (address_on op 0) own ≡ false in
    ⊎_elim {C = Up board op on lane ⊎ Down board op on lane}
    (λ (goes : GoesUp board space (address_on op on) on lane). inl (record {
      is = goes.is;
      own = goes.own;
      is_own = goes.is_own;
      leaves = ap (stays_by space (address_on op 0)) goes.is_own ∙ stays_alike op 0 on (Some goes.own) ∙ goes.outside;
    }))
    (λ (goes : GoesDown board space (address_on op on) on lane).
    let bus : lane.bus ≡ goes.child.bus = ap (λ l. l.bus) goes.is in
    let is_child : own_of board lane.bus ≡ Some goes.child = rw bus (found_by_number goes.test board.bridges goes.child apart goes.is_child) in
    inr (record {
      is = cc;
      child = goes.child;
      parent = goes.parent;
      is_child = is_child;
      inside = ap (stays_by space (address_on op 0)) is_child ∙ stays_alike op 0 on (Some goes.child) ∙ goes.inside;
    }))
    (in_space board space (address_on op on) on lane claims)
