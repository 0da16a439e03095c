-- Requests that are the same on one bus are the same on every bus.
use Rattle.std.proofs.Common.{◌≡◌, ℕ, ◌+◌, ◌*◌, ◌^◌, ◌<◌, ◌≤◌, Bool, true, false, ◌&&◌, ◌==◌, eqb, nat_le, cond, List, length, Option, Some, None, refl, sym, ap, subst, ◌∙◌, arith, option_map}
use Rattle.std.specs.List.{list_all, AllByRecursion}
use Rattle.std.proofs.lemmas.Bool.Decides.{nat_tests}
use Rattle.pci_command.specs.declared.command.Command.{Command}
use Rattle.pci_command.specs.declared.command.Command.TheVariants.{IoRead, IoWrite, MemRead, MemWrite, CfgRead as ConfigurationRead, CfgWrite as ConfigurationWrite, MemReadMultiple, MemReadLine, MemWriteInvalidate}
use Rattle.pci_command.specs.declared.command.Space.{Space}
use Rattle.pci_command.specs.declared.command.Space.TheVariants.{Mem, Io, Cfg}
use Rattle.pci_command.specs.declared.phases.Phase.{Phase}
use Rattle.pci_command.specs.declared.request.Request.{Request}
use Rattle.pci_command.specs.declared.op_id.OpId.{OpId}
use Rattle.pci_command.specs.Command.{code_of, plain_of}
use Rattle.pci_command.specs.Same.{same_command, same_phase, same_request}
use Rattle.board_model.specs.declared.op.Want.{Want}
use Rattle.board_model.specs.declared.op.Op.{Op}
use Rattle.board_model.specs.declared.op.Op.TheVariants.{Read, Write, CfgRead, CfgWrite, Poll}
use Rattle.board_model.specs.declared.board.Board.{Board}
use Rattle.board_model.specs.Requests.{configuration_address, read_in, command_of, address_on, phases_of, request_on, op_of, request_of, both_same, same_requests}
use Rattle.board_model.specs.WellFormed.{read_space, write_space, is_well_formed_read, is_well_formed_write, is_well_formed_op}

-- an address is the same on every bus, or that of a register
data View (op : Op) : Type 0 where
  fixed : ((x y : ℕ) → address_on op x ≡ address_on op y) → code_of (command_of op) < 10 → View op
  register : (bus device register : ℕ) → device ≤ 31 → register ≤ 63 → ((x : ℕ) → address_on op x ≡ configuration_address x bus device register) → 10 ≤ code_of (command_of op) → View op

read_code : (command : Command) (address : ℕ) → is_well_formed_read address (read_space command) ≡ true → code_of (plain_of command) < 10
read_code IoRead address well = omega arith
read_code IoWrite address well = cc
read_code MemRead address well = omega arith
read_code MemWrite address well = cc
read_code ConfigurationRead address well = cc
read_code ConfigurationWrite address well = cc
read_code MemReadMultiple address well = omega arith
read_code MemReadLine address well = omega arith
read_code MemWriteInvalidate address well = cc

write_code : (command : Command) (address : ℕ) (phases : List Phase) → is_well_formed_write address phases (write_space command) ≡ true → code_of (plain_of command) < 10
write_code IoRead address phases well = cc
write_code IoWrite address phases well = omega arith
write_code MemRead address phases well = cc
write_code MemWrite address phases well = omega arith
write_code ConfigurationRead address phases well = cc
write_code ConfigurationWrite address phases well = cc
write_code MemReadMultiple address phases well = cc
write_code MemReadLine address phases well = cc
write_code MemWriteInvalidate address phases well = omega arith

poll_code : (space : Space) (address : ℕ) (want : Want) (tries : ℕ) → is_well_formed_op (Poll space address want tries) ≡ true → code_of (read_in space) < 10
poll_code Mem address want tries well = omega arith
poll_code Io address want tries well = omega arith
poll_code Cfg address want tries well = cc

view : (op : Op) → is_well_formed_op op ≡ true → View op
view (Read command address) well = fixed (λ x y. refl) (read_code command address well)
view (Write command address phases) well = fixed (λ x y. refl) (write_code command address phases well)
view (CfgRead bus device number) well = register bus device number (grind (arith, nat_tests)) (grind (arith, nat_tests)) (λ x. refl) (omega arith)
view (CfgWrite bus device number phase) well = register bus device number (grind (arith, nat_tests)) (grind (arith, nat_tests)) (λ x. refl) (omega arith)
view (Poll space address want tries) well = fixed (λ x y. refl) (poll_code space address want tries well)

-- an address of a register tells the bus, the device and the register
pub record Register (bus device number bus2 device2 number2 : ℕ) : Type 0 where
  pub buses : bus ≡ bus2
  pub devices : device ≡ device2
  pub registers : number ≡ number2

pub one_register : (x bus device number bus2 device2 number2 : ℕ) → device ≤ 31 → number ≤ 63 → device2 ≤ 31 → number2 ≤ 63
    → configuration_address x bus device number ≡ configuration_address x bus2 device2 number2 → Register bus device number bus2 device2 number2
one_register x bus device number bus2 device2 number2 d r d2 r2 same =
    let one : ℕ = 2 ^ 11 * device + 4 * number in
    let far : ℕ = 2 ^ 16 * bus + 2 ^ 11 * device + 4 * number + 1 in
    let one2 : ℕ = 2 ^ 11 * device2 + 4 * number2 in
    let far2 : ℕ = 2 ^ 16 * bus2 + 2 ^ 11 * device2 + 4 * number2 + 1 in
    let R : Type 0 = Register bus device number bus2 device2 number2 in
    let Q : Bool → Bool → Type 0 = λ b c. eqb x bus ≡ b → eqb x bus2 ≡ c → cond b one far ≡ cond c one2 far2 → R in
    (elim (eqb x bus) as (λ b. Q b (eqb x bus2)) [
      | true ↦ elim (eqb x bus2) as (Q true) [
        | true ↦ λ here there e. record { buses = grind (arith, nat_tests); devices = omega arith; registers = omega arith }
        | false ↦ λ here there e. absurd (omega arith)
      ]
      | false ↦ elim (eqb x bus2) as (Q false) [
        | true ↦ λ here there e. absurd (omega arith)
        | false ↦ λ here there e. record { buses = omega arith; devices = omega arith; registers = omega arith }
      ]
    ]) refl refl same

same_address : (a b : Op) (x y : ℕ) → View a → View b → code_of (command_of a) ≡ code_of (command_of b) → address_on a x ≡ address_on b x → address_on a y ≡ address_on b y
same_address a b x y (fixed all _) (fixed all2 _) codes same = all y x ∙ same ∙ all2 x y
same_address a b x y (fixed all low) (register bus device number d r is high) codes same = absurd (omega arith)
same_address a b x y (register bus device number d r is high) (fixed all low) codes same = absurd (omega arith)
same_address a b x y (register bus device number d r is high) (register bus2 device2 number2 d2 r2 is2 high2) codes same =
    let one = one_register x bus device number bus2 device2 number2 d r d2 r2 (sym (is x) ∙ same ∙ is2 x) in
    let there : configuration_address y bus device number ≡ configuration_address y bus2 device2 number2 =
    ap (λ n. configuration_address y n device number) one.buses ∙ ap (λ n. configuration_address y bus2 n number) one.devices ∙ ap (λ n. configuration_address y bus2 device2 n) one.registers in
    is y ∙ there ∙ sym (is2 y)

both_parts : (a b : Bool) → (a && b) ≡ true → (a ≡ true) × (b ≡ true)
both_parts true true e = (refl, refl)
both_parts true false e = cc
both_parts false b e = cc

same_on : (a b : Op) (x y : ℕ) → is_well_formed_op a ≡ true → is_well_formed_op b ≡ true → same_request (request_on a x) (request_on b x) ≡ true → same_request (request_on a y) (request_on b y) ≡ true
same_on a b x y well_a well_b same =
    let outer = both_parts (same_command (command_of a) (command_of b) && (address_on a x == address_on b x)) _ same in
    let inner = both_parts (same_command (command_of a) (command_of b)) (address_on a x == address_on b x) outer.0 in
    let codes : code_of (command_of a) ≡ code_of (command_of b) = let t = inner.0 in grind (arith, nat_tests) in
    let there : address_on a x ≡ address_on b x = let t = inner.1 in grind (arith, nat_tests) in
    let here : address_on a y ≡ address_on b y = same_address a b x y (view a well_a) (view b well_b) codes there in
    let test : (address_on a y == address_on b y) ≡ true = grind (arith, nat_tests) in
    let commands = inner.0 in
    let phases = outer.1 in
    rw (commands, test, phases) refl

-- of two operations of a board
pub same_everywhere : (board : Board) (o p : OpId) (x y : ℕ) → ((q : OpId) (op : Op) → op_of board q ≡ Some op → is_well_formed_op op ≡ true) → same_requests board x o p ≡ true → same_requests board y o p ≡ true
same_everywhere board o p x y well same =
    let P : Option Op → Option Op → Type 0 = λ a b. op_of board o ≡ a → op_of board p ≡ b → both_same (option_map (λ op. request_on op x) a) (option_map (λ op. request_on op x) b) ≡ true → both_same (option_map (λ op. request_on op y) a) (option_map (λ op. request_on op y) b) ≡ true in
    (elim (op_of board o) as (λ a. P a (op_of board p)) [
      | None ↦ λ is is2 e. cc
      | Some a ↦ elim (op_of board p) as (P (Some a)) [
        | None ↦ λ is is2 e. cc
        | Some b ↦ λ is is2 e. same_on a b x y (well o a is) (well p b is2) e
      ]
    ]) refl refl same
