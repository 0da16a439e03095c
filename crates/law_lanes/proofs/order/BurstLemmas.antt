-- All data phases of a write in memory have one claimant, on a well-formed board.
use Rattle.std.proofs.Common.{◌≡◌, ℕ, ◌+◌, ◌*◌, ◌/◌, ◌%◌, ◌<◌, ◌≤◌, true, nat_le, List, length, sym, subst, arith}
use Rattle.std.specs.List.{list_any}
use Rattle.std.proofs.lemmas.Bool.{and_parts, leb-true}
use Rattle.list_facts.proofs.TestLemmas.{list_all-get}
use Rattle.pci_command.specs.declared.command.Command.{Command}
use Rattle.pci_command.specs.declared.command.Command.TheVariants.{IoRead, IoWrite, MemRead, MemWrite, CfgRead as ConfigurationRead, CfgWrite as ConfigurationWrite, MemReadMultiple, MemReadLine, MemWriteInvalidate}
use Rattle.pci_command.specs.declared.command.Space.{Space}
use Rattle.pci_command.specs.declared.command.Space.TheVariants.{Mem, Io, Cfg}
use Rattle.pci_command.specs.declared.phases.Phase.{Phase}
use Rattle.pci_command.specs.declared.request.Request.{Request}
use Rattle.pci_command.specs.Command.{plain_of, space_of}
use Rattle.pci_command.specs.Same.{same_command}
use Rattle.board_model.specs.declared.agents.Target.{Target as TargetAgent}
use Rattle.board_model.specs.Ways.{aborts_at}
use Rattle.board_model.specs.declared.op.Op.{Op}
use Rattle.board_model.specs.declared.op.Op.TheVariants.{Read, Write, CfgRead, CfgWrite, Poll}
use Rattle.board_model.specs.declared.board.Board.{Board}
use Rattle.board_model.specs.Requests.{command_of, address_on, phases_of, request_on, is_posted}
use Rattle.board_model.specs.Claims.{range_holds, claim_in_space, claim}
use Rattle.board_model.specs.WellFormed.{read_space, write_space, is_well_formed_target, is_well_formed_read, is_well_formed_write, is_well_formed_op, is_well_formed}
use Rattle.board_model.proofs.Laws.{WellFormed-parts, Write-parts, op_formed}
use Rattle.history_model.specs.Words.{without}
use Rattle.history_model.proofs.facts.RequestLemmas.{request_is_of}
use Rattle.law_lanes.specs.order.OnWay.{WritesHaveOneClaimant}
use Rattle.law_lanes.specs.order.Parts.{WritesAbortWhole}
use Rattle.history_model.proofs.facts.PostedLemmas.{write_not_read}
use Rattle.history_model.proofs.facts.BlockLemmas.{SameBlock, aborts_alike, claim_alike}

-- the data phases of a write stay in the block of the first
abbrev StaysInBlock : ℕ → List Phase → Type 0
StaysInBlock address phases = address % 64 + 4 * length phases ≤ 64

write_block : (command : Command) (address : ℕ) (phases : List Phase) → is_well_formed_write address phases (write_space command) ≡ true → same_command (plain_of command) MemWrite ≡ true → StaysInBlock address phases
write_block IoRead address phases well posted = cc
write_block IoWrite address phases well posted = cc
write_block MemRead address phases well posted = cc
write_block MemWrite address phases well posted =
    let burst = (and_parts _ _ (Write-parts Mem address phases well).burst).1 in
    let within : nat_le (address % 64 + 4 * length phases) 64 ≡ true = burst in
    leb-true (address % 64 + 4 * length phases) 64 within
write_block ConfigurationRead address phases well posted = cc
write_block ConfigurationWrite address phases well posted = cc
write_block MemReadMultiple address phases well posted = cc
write_block MemReadLine address phases well posted = cc
write_block MemWriteInvalidate address phases well posted =
    let burst = (and_parts _ _ (Write-parts Mem address phases well).burst).1 in
    let within : nat_le (address % 64 + 4 * length phases) 64 ≡ true = burst in
    leb-true (address % 64 + 4 * length phases) 64 within

pub read_not_posted : (command : Command) (address : ℕ) → is_well_formed_read address (read_space command) ≡ true → same_command (plain_of command) MemWrite ≡ true → ⊥
read_not_posted IoRead address well posted = cc
read_not_posted IoWrite address well posted = cc
read_not_posted MemRead address well posted = cc
read_not_posted MemWrite address well posted = cc
read_not_posted ConfigurationRead address well posted = cc
read_not_posted ConfigurationWrite address well posted = cc
read_not_posted MemReadMultiple address well posted = cc
read_not_posted MemReadLine address well posted = cc
read_not_posted MemWriteInvalidate address well posted = cc

op_block : (op : Op) (on : ℕ) → is_well_formed_op op ≡ true → same_command (command_of op) MemWrite ≡ true → StaysInBlock (address_on op on) (phases_of op)
op_block (Read command address) on well posted = absurd (read_not_posted command address well posted)
op_block (Write command address phases) on well posted = write_block command address phases well posted
op_block (CfgRead bus device register) on well posted = cc
op_block (CfgWrite bus device register phase) on well posted = cc
op_block (Poll Mem address want tries) on well posted = cc
op_block (Poll Io address want tries) on well posted = cc
op_block (Poll Cfg address want tries) on well posted = cc

-- all its data phases are in one block
same_block : (op : Op) (on phase : ℕ) → is_well_formed_op op ≡ true → same_command (command_of op) MemWrite ≡ true → phase < length (phases_of op) → SameBlock (address_on op on + 4 * phase) (address_on op on)
same_block op on phase well posted within =
    let address : ℕ = address_on op on in
    let stays : StaysInBlock address (phases_of op) = op_block op on well posted in
    record {
      block = address / 64;
      a_from = omega arith;
      a_to = omega (arith, stays, within);
      b_from = omega arith;
      b_to = omega arith;
    }

op_claimed : (board : Board) (op : Op) (on phase : ℕ) → is_well_formed board ≡ true → is_well_formed_op op ≡ true → same_command (command_of op) MemWrite ≡ true → phase < length (phases_of op)
    → claim board on (without phase (request_on op on)) ≡ claim board on (request_on op on)
op_claimed board op on phase formed well posted within =
    let address : ℕ = address_on op on in
    let p = WellFormed-parts board formed in
    let space : space_of (command_of op) ≡ Mem = (write_not_read (command_of op) posted).1 in
    let F : Space → Type 0 = λ s. claim_in_space board on s (address + 4 * phase) ≡ claim_in_space board on s address in
    subst F (sym space) (claim_alike board p.bridges p.targets on (address + 4 * phase) address (same_block op on phase well posted within))

op_aborted : (target : TargetAgent) (op : Op) (on phase : ℕ) → is_well_formed_target target ≡ true → is_well_formed_op op ≡ true → same_command (command_of op) MemWrite ≡ true → phase < length (phases_of op)
    → aborts_at target (without phase (request_on op on)) ≡ aborts_at target (request_on op on)
op_aborted target op on phase formed well posted within =
    let address : ℕ = address_on op on in
    let space : space_of (command_of op) ≡ Mem = (write_not_read (command_of op) posted).1 in
    let F : Space → Type 0 = λ s. list_any (range_holds s (address + 4 * phase)) target.aborts ≡ list_any (range_holds s address) target.aborts in
    subst F (sym space) (aborts_alike target (address + 4 * phase) address (same_block op on phase well posted within) formed)

pub AbortWhole-formed : (board : Board) → is_well_formed board ≡ true → WritesAbortWhole board
AbortWhole-formed board formed o on request phase place target is_request posted within is_target =
    let of_op = request_is_of board o on request is_request in
    let op : Op = of_op.op in
    let well : is_well_formed_op op ≡ true = op_formed board o op formed of_op.is_op in
    let target_formed = list_all-get is_well_formed_target board.targets place target (WellFormed-parts board formed).targets is_target in
    let F : Request → Type 0 = λ r. is_posted r ≡ true → phase < length r.phases → aborts_at target (without phase r) ≡ aborts_at target r in
    let here : F (request_on op on) = λ write below. op_aborted target op on phase target_formed well write below in
    subst F (sym of_op.is_request) here posted within

pub OneClaimant-formed : (board : Board) → is_well_formed board ≡ true → WritesHaveOneClaimant board
OneClaimant-formed board formed o on request phase is_request posted within =
    let of_op = request_is_of board o on request is_request in
    let op : Op = of_op.op in
    let well : is_well_formed_op op ≡ true = op_formed board o op formed of_op.is_op in
    let F : Request → Type 0 = λ r. is_posted r ≡ true → phase < length r.phases → claim board on (without phase r) ≡ claim board on r in
    let here : F (request_on op on) = λ write below. op_claimed board op on phase formed well write below in
    subst F (sym of_op.is_request) here posted within
