-- An operation that is added is well formed.
use Rattle.std.proofs.Common.{◌≡◌, ℕ, ◌+◌, ◌*◌, ◌%◌, true, false, List, length}
use Rattle.std.specs.Prelude.{Option, Some, None, ◌==◌, nat_lt}
use Rattle.std.proofs.lemmas.Bool.{and_parts, and_from, ltb-false, le-leb}
use Rattle.pci_command.specs.declared.command.Space.{Space}
use Rattle.pci_command.specs.declared.command.Space.TheVariants.{Mem, Io, Cfg}
use Rattle.pci_command.specs.declared.phases.Phase.{Phase}
use Rattle.board_model.specs.declared.op.Op.{Op}
use Rattle.board_model.specs.declared.op.Op.TheVariants.{Read, Write, CfgRead, CfgWrite, Poll}
use Rattle.board_model.specs.WellFormed.{is_burst_in, is_well_formed_read, is_well_formed_write, is_well_formed_op, read_space, write_space}
use Rattle.board_parser.specs.draft.Masters.{is_aligned, passes_block}
use Rattle.board_parser.specs.draft.Formed.{is_phase_count, is_formed_read, is_formed_write, is_formed_op}
use Rattle.board_parser.proofs.draft.TargetLemmas.{dword_by}

read_formed : (address : ℕ) (space : Option Space) → is_formed_read address space ≡ true → (address % 4 == 0) ≡ true → is_well_formed_read address space ≡ true
read_formed address None formed aligned = formed
read_formed address (Some space) formed aligned = dword_by space address formed aligned

burst_by : (space : Space) (address phases : ℕ) → is_phase_count space phases ≡ true → nat_lt 64 (address % 64 + 4 * phases) ≡ false → is_burst_in space address phases ≡ true
burst_by Mem address phases formed within = and_from _ _ formed (le-leb _ _ (ltb-false _ _ within))
burst_by Io address phases formed within = formed
burst_by Cfg address phases formed within = formed

write_formed : (address : ℕ) (phases : List Phase) (space : Option Space) → is_formed_write address phases space ≡ true → (address % 4 == 0) ≡ true → nat_lt 64 (address % 64 + 4 * length phases) ≡ false → is_well_formed_write address phases space ≡ true
write_formed address phases None formed aligned within = formed
write_formed address phases (Some space) formed aligned within =
    let last = and_parts _ _ formed in
    let first = and_parts _ _ last.0 in
    and_from _ _ (and_from _ _ (dword_by space address first.0 aligned) (burst_by space address (length phases) first.1 within)) last.1

pub op_formed : (op : Op) → is_formed_op op ≡ true → is_aligned op ≡ true → passes_block op ≡ false → is_well_formed_op op ≡ true
op_formed (Read command address) formed aligned within = read_formed address (read_space command) formed aligned
op_formed (Write command address phases) formed aligned within = write_formed address phases (write_space command) formed aligned within
op_formed (CfgRead bus device register) formed aligned within = formed
op_formed (CfgWrite bus device register phase) formed aligned within = formed
op_formed (Poll space address want tries) formed aligned within =
    let parts = and_parts _ _ formed in
    and_from _ _ (dword_by space address parts.0 aligned) parts.1
