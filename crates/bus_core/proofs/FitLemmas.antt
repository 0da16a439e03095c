-- The address of what is left of a request fits in 64 bits.
use Rattle.std.proofs.Common.{◌≡◌, ℕ, ◌+◌, ◌*◌, ◌%◌, ◌^◌, ◌<◌, ◌≤◌, true, false, nat_le, List, length, Option, Some, None, ◌⊎◌, inl, inr, sym, subst, arith}
use Rattle.std.proofs.lemmas.Bool.{eqb-true, leb-true, and_parts}
use Rattle.pci_command.specs.declared.command.Space.{Space}
use Rattle.pci_command.specs.declared.command.Space.TheVariants.{Mem, Io, Cfg}
use Rattle.pci_command.specs.declared.phases.Phase.{Phase}
use Rattle.pci_command.specs.declared.request.Request.{Request}
use Rattle.pci_command.specs.declared.op_id.OpId.{OpId}
use Rattle.board_model.specs.Limits.{most_dwords}
use Rattle.board_model.specs.declared.op.Op.{Op}
use Rattle.board_model.specs.declared.op.Op.TheVariants.{Read as ReadOp, Write as WriteOp, CfgRead, CfgWrite, Poll}
use Rattle.board_model.specs.declared.board.Board.{Board}
use Rattle.board_model.specs.Requests.{address_on, phases_of, request_of}
use Rattle.board_model.specs.WellFormed.{is_well_formed, is_well_formed_op, is_well_formed_write, is_within, write_space}
use Rattle.board_model.proofs.Laws.{Write-parts, op_formed}
use Rattle.history_model.proofs.facts.RequestLemmas.{request_is_of}

-- a burst in memory stays in its block, and a write in I/O space has one data phase
write_fits : (address gone : ℕ) (phases : List Phase) (space : Option Space) → is_well_formed_write address phases space ≡ true → address < 2 ^ 64 → gone < length phases → address + 4 * gone < 2 ^ 64
write_fits address gone phases None well fits within = cc
write_fits address gone phases (Some Mem) well fits within =
    let burst = and_parts (is_within 1 most_dwords (length phases)) (nat_le (address % 64 + 4 * length phases) 64) (Write-parts Mem address phases well).burst in
    let block : address % 64 + 4 * length phases ≤ 64 = leb-true (address % 64 + 4 * length phases) 64 burst.1 in
    omega (arith, block, fits, within)
write_fits address gone phases (Some Io) well fits within =
    let one : length phases ≡ 1 = eqb-true (length phases) 1 (Write-parts Io address phases well).burst in
    omega (arith, one, fits, within)
write_fits address gone phases (Some Cfg) well fits within = let wrong : false ≡ true = (Write-parts Cfg address phases well).burst in cc

op_fits : (op : Op) (on gone : ℕ) → is_well_formed_op op ≡ true → address_on op on < 2 ^ 64 → gone < length (phases_of op) → address_on op on + 4 * gone < 2 ^ 64
op_fits (ReadOp command address) on gone well fits within = omega (arith, fits, within)
op_fits (WriteOp command address phases) on gone well fits within = write_fits address gone phases (write_space command) well fits within
op_fits (CfgRead bus device register) on gone well fits within = omega (arith, fits, within)
op_fits (CfgWrite bus device register phase) on gone well fits within = omega (arith, fits, within)
op_fits (Poll space address want tries) on gone well fits within = omega (arith, fits, within)

-- so does the address of what is left, while anything is
pub rest_fits : (board : Board) (o : OpId) (on gone : ℕ) (request : Request) → is_well_formed board ≡ true → request_of board o on ≡ Some request → request.address < 2 ^ 64
    → (gone ≡ 0) ⊎ (gone < length request.phases) → request.address + 4 * gone < 2 ^ 64
rest_fits board o on gone request formed is_request fits (inl none) = omega (arith, none, fits)
rest_fits board o on gone request formed is_request fits (inr within) =
    let of_op = request_is_of board o on request is_request in
    let well : is_well_formed_op of_op.op ≡ true = op_formed board o of_op.op formed of_op.is_op in
    let F : Request → Type 0 = λ r. r.address < 2 ^ 64 → gone < length r.phases → r.address + 4 * gone < 2 ^ 64 in
    subst F (sym of_op.is_request) (op_fits of_op.op on gone well) fits within
