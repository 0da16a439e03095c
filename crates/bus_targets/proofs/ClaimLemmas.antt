-- A target that claims is on the bus, and answers at the address.
use Rattle.std.proofs.Common.{◌≡◌, ℕ, suc, Bool, true, false, ◌+◌, ◌&&◌, ◌==◌, cond, nat_le, List, [], ◌∷◌, Option, Some, None, refl, sym, subst, arith}
use Rattle.std.specs.Prelude.{slice_get}
use Rattle.std.specs.List.{find, list_any, position_from}
use Rattle.std.proofs.lemmas.Bool.Decides.{nat_tests}
use Rattle.pci_command.specs.declared.command.Space.{Space}
use Rattle.pci_command.specs.declared.command.Space.TheVariants.{Mem, Io, Cfg}
use Rattle.pci_command.specs.declared.request.Request.{Request}
use Rattle.pci_command.specs.Command.{space_of}
use Rattle.board_model.specs.declared.agents.Target.{Target as TargetAgent}
use Rattle.board_model.specs.declared.bridge.Bridge.{Bridge}
use Rattle.board_model.specs.declared.bridge.Place.TheVariants.{Target, Lane, Nobody}
use Rattle.board_model.specs.declared.board.Board.{Board}
use Rattle.board_model.specs.Claims.{range_holds, bridge_holds, decodes_down, claim_upwards, claim_by_bridge, claim_by_address, claim_by_header, claim_by_device, claim_by_bus, is_type_0, device_in, bus_in, claim_in_configuration, claim_in_space, claim}
use Rattle.bus_targets.specs.Reads.{answers_at}

-- what is found by its place passes
pub record Passes {X : Type 0} (test : X → Bool) (xs : List X) (start at : ℕ) : Type 0 where
  pub index : ℕ
  pub at_is : at ≡ start + index
  pub one : X
  pub there : slice_get xs index ≡ Some one
  pub passes : test one ≡ true

passes_from : {X : Type 0} (test : X → Bool) (start : ℕ) (xs : List X) (at : ℕ) → position_from test start xs ≡ Some at → Passes test xs start at
passes_from test start [] at some = cc
passes_from {X} test start (x ∷ xs) at some =
    let P : Bool → Type 0 = λ b. test x ≡ b → cond b (Some start) (position_from test (start + 1) xs) ≡ Some at → Passes test (x ∷ xs) start at in
    (elim (test x) as P [
      | true ↦ λ passes e. let here : start ≡ at = cc in record { index = 0; at_is = omega (arith, here); one = x; there = refl; passes = passes }
      | false ↦ λ fails e.
          let later = passes_from test (start + 1) xs at e in
          let where_it_is : at ≡ start + 1 + later.index = later.at_is in
          record { index = suc later.index; at_is = omega (arith, where_it_is); one = later.one; there = later.there; passes = later.passes }
    ]) refl some

passes_at : {X : Type 0} (test : X → Bool) (xs : List X) (at : ℕ) (x : X) → position_from test 0 xs ≡ Some at → slice_get xs at ≡ Some x → test x ≡ true
passes_at {X} test xs at x some is =
    let found = passes_from test 0 xs at some in
    let index : at ≡ found.index = omega (arith, found.at_is) in
    let there : slice_get xs at ≡ Some found.one = subst (λ (n : ℕ). slice_get xs n ≡ Some found.one) (sym index) found.there in
    let same : found.one ≡ x = cc in
    subst (λ (y : X). test y ≡ true) same found.passes

-- a bridge is no target
upwards_no_target : (bus : ℕ) (space : Space) (address place : ℕ) (own : Option Bridge) → claim_upwards bus space address own ≡ Target place → ⊥
upwards_no_target bus space address place None e = cc
upwards_no_target bus space address place (Some own) e =
    let P : Bool → Type 0 = λ b. cond b Nobody (Lane (record { bus = bus; up = true })) ≡ Target place → ⊥ in
    (elim (bridge_holds space address own) as P [ true ↦ λ f. cc | false ↦ λ f. cc ]) e

bridge_no_target : (board : Board) (bus : ℕ) (space : Space) (address place : ℕ) (found : Option Bridge) → claim_by_bridge board bus space address found ≡ Target place → ⊥
bridge_no_target board bus space address place (Some child) e = cc
bridge_no_target board bus space address place None e = upwards_no_target bus space address place (find (λ (bridge : Bridge). bridge.bus == bus) board.bridges) e

header_no_target : (place : ℕ) (found : Option Bridge) → claim_by_header found ≡ Target place → ⊥
header_no_target place (Some bridge) e = cc
header_no_target place None e = cc

behind_no_target : (place : ℕ) (found : Option Bridge) → claim_by_bus found ≡ Target place → ⊥
behind_no_target place (Some bridge) e = cc
behind_no_target place None e = cc

by_address : (board : Board) (bus : ℕ) (space : Space) (address place : ℕ) (found : Option ℕ) → claim_by_address board bus space address found ≡ Target place → found ≡ Some place
by_address board bus space address place (Some target) e = cc
by_address board bus space address place None e = absurd (bridge_no_target board bus space address place (find (decodes_down bus space address) board.bridges) e)

by_device : (board : Board) (bus device place : ℕ) (found : Option ℕ) → claim_by_device board bus device found ≡ Target place → found ≡ Some place
by_device board bus device place (Some target) e = cc
by_device board bus device place None e = absurd (header_no_target place (find (λ (bridge : Bridge). bridge.parent == bus && bridge.device == device) board.bridges) e)

-- of a target that claims: its bus, and that it answers there
abbrev Claims : TargetAgent → ℕ → Space → ℕ → Type 0
Claims agent bus space address = (agent.bus ≡ bus) × (answers_at agent space address ≡ true)

both_true : (a b : Bool) → (a && b) ≡ true → (a ≡ true) × (b ≡ true)
both_true true true e = (refl, refl)
both_true true false e = cc
both_true false b e = cc

on_bus : (agent : TargetAgent) (bus : ℕ) → (agent.bus == bus) ≡ true → agent.bus ≡ bus
on_bus agent bus same = grind (arith, nat_tests, same)

claims_in_configuration : (board : Board) (bus address place : ℕ) (agent : TargetAgent) → slice_get board.targets place ≡ Some agent → claim_in_configuration board bus address ≡ Target place → Claims agent bus Cfg address
claims_in_configuration board bus address place agent there e =
    let test : TargetAgent → Bool = λ target. target.bus == bus && target.device == device_in address in
    let behind : Option Bridge = find (λ (bridge : Bridge). bridge.parent == bus && nat_le bridge.bus (bus_in address) && nat_le (bus_in address) bridge.last) board.bridges in
    let P : Bool → Type 0 = λ b. is_type_0 address ≡ b → cond b (claim_by_device board bus (device_in address) (position_from test 0 board.targets)) (claim_by_bus behind) ≡ Target place → Claims agent bus Cfg address in
    (elim (is_type_0 address) as P [
      | true ↦ λ direct f.
          let passes = both_true (agent.bus == bus) (agent.device == device_in address) (passes_at test board.targets place agent (by_device board bus (device_in address) place (position_from test 0 board.targets) f) there) in
          (on_bus agent bus passes.0, rw (direct, passes.1) refl)
      | false ↦ λ _ f. absurd (behind_no_target place behind f)
    ]) refl e

by_range : (board : Board) (bus : ℕ) (space : Space) (address place : ℕ) (agent : TargetAgent) → slice_get board.targets place ≡ Some agent
    → claim_by_address board bus space address (position_from (λ (target : TargetAgent). target.bus == bus && list_any (range_holds space address) target.ranges) 0 board.targets) ≡ Target place
    → (agent.bus ≡ bus) × (list_any (range_holds space address) agent.ranges ≡ true)
by_range board bus space address place agent there e =
    let test : TargetAgent → Bool = λ target. target.bus == bus && list_any (range_holds space address) target.ranges in
    let passes = both_true (agent.bus == bus) (list_any (range_holds space address) agent.ranges) (passes_at test board.targets place agent (by_address board bus space address place (position_from test 0 board.targets) e) there) in
    (on_bus agent bus passes.0, passes.1)

claims_in : (board : Board) (bus : ℕ) (space : Space) (address place : ℕ) (agent : TargetAgent) → slice_get board.targets place ≡ Some agent → claim_in_space board bus space address ≡ Target place → Claims agent bus space address
claims_in board bus Mem address place agent there e = by_range board bus Mem address place agent there e
claims_in board bus Io address place agent there e = by_range board bus Io address place agent there e
claims_in board bus Cfg address place agent there e = claims_in_configuration board bus address place agent there e

pub target_claims : (board : Board) (on : ℕ) (request : Request) (place : ℕ) (agent : TargetAgent) → slice_get board.targets place ≡ Some agent → claim board on request ≡ Target place
    → (agent.bus ≡ on) × (answers_at agent (space_of request.command) request.address ≡ true)
target_claims board on request place agent there claimed = claims_in board on (space_of request.command) request.address place agent there claimed
