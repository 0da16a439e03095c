-- What a first look tells of the requests of two operations.
use Rattle.std.proofs.Common.{◌≡◌, ◌≢◌, ℕ, zero, suc, ◌<◌, ◌-◌, Bool, true, false, ◌||◌, ◌==◌, List, [], ◌∷◌, Some, None, refl, sym, ap, ◌∙◌, arith}
use Rattle.std.specs.List.{list_any}
use Rattle.std.proofs.lemmas.Bool.Decides.{nat_tests}
use Rattle.pci_command.specs.declared.command.Command.TheVariants.{MemWrite}
use Rattle.pci_command.specs.Same.{same_command, same_request}
use Rattle.board_model.specs.declared.bridge.Lane.{Lane as BridgeLane}
use Rattle.board_model.specs.declared.op.Op.{Op}
use Rattle.board_model.specs.declared.op.Op.TheVariants.{Read, Write, CfgRead, CfgWrite, Poll}
use Rattle.board_model.specs.declared.board.Board.{Board}
use Rattle.board_model.specs.Requests.{command_of, address_on, configuration_address, request_on}
use Rattle.board_model.specs.declared.bridge.Place.TheVariants.{Lane}
use Rattle.board_model.specs.Claims.{claim}
use Rattle.board_model.specs.Ways.{route_within, way, start_of, end_of}
use Rattle.history_model.specs.World.{same_lane}
use Rattle.law_untagged.specs.ApartTest.{delayed_way, meets_on, ops_meet}
use Rattle.law_untagged.proofs.Laws.{one_register}
use Rattle.untagged_apart.specs.declared.meet.Register.{Register}
use Rattle.untagged_apart.specs.Look.{Differ, NeverSame, OtherAddress, AreTwo, register_in, address_in}

-- An operation in memory or I/O has its address on every bus, one in configuration space that of its register.

pub fixed_address : (op : Op) (bus : ℕ) → register_in op ≡ None → address_on op bus ≡ address_in op
fixed_address (Read command address) bus none = refl
fixed_address (Write command address phases) bus none = refl
fixed_address (CfgRead on device register) bus none = cc
fixed_address (CfgWrite on device register phase) bus none = cc
fixed_address (Poll space address want tries) bus none = refl

register_address : (op : Op) (a : Register) (bus : ℕ) → register_in op ≡ Some a → address_on op bus ≡ configuration_address bus a.bus a.device a.number
register_address (Read command address) a bus is = cc
register_address (Write command address phases) a bus is = cc
register_address (CfgRead on device register) a bus is = cc
register_address (CfgWrite on device register phase) a bus is = cc
register_address (Poll space address want tries) a bus is = cc

-- so other addresses on one are other addresses on all
pub fixed_differ : (op other : Op) → register_in op ≡ None → register_in other ≡ None → address_in op ≢ address_in other → OtherAddress op other
fixed_differ op other none none_too differ =
    record {
      each = λ bus.
          let mine = fixed_address op bus none in
          let theirs = fixed_address other bus none_too in
          grind (arith, nat_tests);
    }

same_register : (a b : Register) → a.bus ≡ b.bus → a.device ≡ b.device → a.number ≡ b.number → a ≡ b
same_register a b buses devices numbers =
    let first : a ≡ record { bus = b.bus; device = a.device; number = a.number } = ap (λ n. record { bus = n; device = a.device; number = a.number }) buses in
    let second : record { bus = b.bus; device = a.device; number = a.number } ≡ record { bus = b.bus; device = b.device; number = a.number } = ap (λ n. record { bus = b.bus; device = n; number = a.number }) devices in
    let third : record { bus = b.bus; device = b.device; number = a.number } ≡ b = ap (λ n. record { bus = b.bus; device = b.device; number = n }) numbers in
    first ∙ second ∙ third

pub registers_differ : (op other : Op) (a b : Register) → register_in op ≡ Some a → register_in other ≡ Some b → AreTwo a b → OtherAddress op other
registers_differ op other a b is is_too two =
    record {
      each = λ bus.
          let P : Bool → Type 0 = λ c. (address_on op bus == address_on other bus) ≡ c → c ≡ false in
          (elim (address_on op bus == address_on other bus) as P [
            | true ↦ λ same.
                let one : address_on op bus ≡ address_on other bus = grind (arith, nat_tests) in
                let parts = one_register bus a.bus a.device a.number b.bus b.device b.number (omega (arith, two.first.device)) (omega (arith, two.first.number)) (omega (arith, two.second.device)) (omega (arith, two.second.number)) (sym (register_address op a bus is) ∙ one ∙ register_address other b bus is_too) in
                absurd (two.other (same_register a b parts.buses parts.devices parts.registers))
            | false ↦ λ _. refl
          ]) refl;
    }

-- with another address or another command no request is the same
pub address_differs : (op other : Op) → OtherAddress op other → Differ op other
address_differs op other far =
    record {
      each = λ bus. (
          let test : (address_on op bus == address_on other bus) ≡ false = far.each bus in
          let P : Bool → Type 0 = λ c. same_command (command_of op) (command_of other) ≡ c → same_request (request_on op bus) (request_on other bus) ≡ false in
          (elim (same_command (command_of op) (command_of other)) as P [
            | true ↦ λ same. rw (same, test) refl
            | false ↦ λ same. rw (same) refl
          ]) refl);
    }

pub command_differs : (op other : Op) → same_command (command_of op) (command_of other) ≡ false → Differ op other
command_differs op other far = record { each = λ bus. rw (far) refl }

-- then no lane is met
pub none_met : (board : Board) (op : Op) (other_on : ℕ) (other : Op) (lanes : List BridgeLane) → Differ op other → list_any (meets_on board op other_on other) lanes ≡ false
none_met board op other_on other [] differ = refl
none_met board op other_on other (lane ∷ lanes) differ =
    let P : Bool → Type 0 = λ c. list_any (same_lane lane) (delayed_way board other_on other) ≡ c → meets_on board op other_on other lane ≡ false in
    let test : same_request (request_on op (start_of board lane)) (request_on other (start_of board lane)) ≡ false = differ.each (start_of board lane) in
    let here : meets_on board op other_on other lane ≡ false =
    (elim (list_any (same_lane lane) (delayed_way board other_on other)) as P [
      | true ↦ λ is. rw (is, test) refl
      | false ↦ λ is. rw (is) refl
    ]) refl in
    rw (here) (none_met board op other_on other lanes differ)

-- a lane that claims is the first of the way
pub step_any : (board : Board) (op : Op) (on most : ℕ) (lane : BridgeLane) (test : BridgeLane → Bool) → 0 < most → claim board on (request_on op on) ≡ Lane lane
    → list_any test (route_within most board op on).lanes ≡ (test lane || list_any test (route_within (most - 1) board op (end_of board lane)).lanes)
step_any board op on zero lane test some is = absurd (omega (arith, some))
step_any board op on (suc n) lane test some is = let e : suc n - 1 ≡ n = omega arith in rw (is, e) refl

-- other requests are delayed
pub posted_way : (board : Board) (on : ℕ) (op : Op) → same_command (command_of op) MemWrite ≡ true → delayed_way board on op ≡ []
posted_way board on op posted = rw (posted) refl

pub delayed_is_way : (board : Board) (on : ℕ) (op : Op) → same_command (command_of op) MemWrite ≡ false → delayed_way board on op ≡ way board op on
delayed_is_way board on op delayed = rw (delayed) refl

-- the first look says no
pub never_met : (board : Board) (on : ℕ) (op : Op) (other_on : ℕ) (other : Op) (looks : Bool) → looks ≡ false → NeverSame looks op other → false ≡ ops_meet board on op other_on other
never_met board on op other_on other true e same = cc
never_met board on op other_on other false e differ = sym (none_met board op other_on other (delayed_way board on op) differ)
