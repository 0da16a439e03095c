-- An operation of a well-formed master is added where there is room for it.
use Rattle.std.proofs.Common.{◌≡◌, ℕ, ◌+◌, ◌*◌, ◌%◌, ◌≤◌, true, false, ◌&&◌, List, [], ◌∷◌, ◌++◌, length, Option, Some, None, Ok, refl, ◌∙◌, arith}
use Rattle.std.specs.Prelude.{◌==◌, nat_le, nat_lt}
use Rattle.std.proofs.lemmas.Bool.{and_parts, or_from, not_from_true, lt-leb, le-ltb, leb-true, eqb-true}
use Rattle.pci_command.specs.declared.command.Space.{Space}
use Rattle.pci_command.specs.declared.command.Space.TheVariants.{Mem, Io, Cfg}
use Rattle.pci_command.specs.declared.phases.Phase.{Phase}
use Rattle.board_model.specs.Limits.{most_dwords, most_ops, most_tries}
use Rattle.board_model.specs.declared.op.Op.{Op}
use Rattle.board_model.specs.declared.op.Op.TheVariants.{Read, Write, CfgRead, CfgWrite, Poll}
use Rattle.board_model.specs.declared.agents.Master.{Master}
use Rattle.board_model.specs.Requests.{tries_of}
use Rattle.board_model.specs.WellFormed.{is_within, is_dword_in, read_space, write_space, is_well_formed_read, is_burst_in, is_well_formed_write, is_well_formed_op}
use Rattle.board_parser.specs.draft.Masters.{is_aligned, passes_block, add_op}
use Rattle.board_roundtrip.proofs.StateLemmas.{skip}
use Rattle.board_roundtrip.proofs.DetailSteps.{aligned_by}
use Rattle.board_model.proofs.Laws.{Write-parts}

read_by : (address : ℕ) (space : Option Space) → is_well_formed_read address space ≡ true → (address % 4 == 0) ≡ true
read_by address None formed = absurd (let apart : false ≡ true = formed in cc)
read_by address (Some space) formed = aligned_by space address formed

write_by : (address : ℕ) (phases : List Phase) (space : Option Space) → is_well_formed_write address phases space ≡ true → (address % 4 == 0) ≡ true
write_by address phases None formed = absurd (let apart : false ≡ true = formed in cc)
write_by address phases (Some space) formed =
    aligned_by space address (Write-parts space address phases formed).aligned

pub aligned : (op : Op) → is_well_formed_op op ≡ true → is_aligned op ≡ true
aligned (Read command address) formed = read_by address (read_space command) formed
aligned (Write command address phases) formed = write_by address phases (write_space command) formed
aligned (CfgRead bus device register) formed = refl
aligned (CfgWrite bus device register phase) formed = refl
aligned (Poll space address want tries) formed = aligned_by space address ((and_parts (is_dword_in space address) (is_within 1 most_tries tries) formed).0)

burst_by : (space : Space) (address phases : ℕ) → (address % 4 == 0) ≡ true → is_burst_in space address phases ≡ true → nat_lt 64 (address % 64 + 4 * phases) ≡ false
burst_by Mem address phases whole formed = le-ltb _ _ (leb-true _ _ ((and_parts (is_within 1 most_dwords phases) (nat_le (address % 64 + 4 * phases) 64) formed).1))
burst_by Io address phases whole formed =
    let one = eqb-true phases 1 formed in
    let four = eqb-true (address % 4) 0 whole in
    le-ltb _ _ (omega (arith, one, four))
burst_by Cfg address phases whole formed = absurd (let apart : false ≡ true = formed in cc)

block_by : (address : ℕ) (phases : List Phase) (space : Option Space) → is_well_formed_write address phases space ≡ true → nat_lt 64 (address % 64 + 4 * length phases) ≡ false
block_by address phases None formed = absurd (let apart : false ≡ true = formed in cc)
block_by address phases (Some space) formed =
    let is = Write-parts space address phases formed in
    burst_by space address (length phases) (aligned_by space address is.aligned) is.burst

pub within : (op : Op) → is_well_formed_op op ≡ true → passes_block op ≡ false
within (Read command address) formed = refl
within (Write command address phases) formed = block_by address phases (write_space command) formed
within (CfgRead bus device register) formed = refl
within (CfgWrite bus device register phase) formed = refl
within (Poll space address want tries) formed = refl

pub op_adds : (before : ℕ) (op : Op) (master : Master) → is_well_formed_op op ≡ true → length master.ops + 1 ≤ most_ops → before + tries_of op ≤ most_tries
    → add_op before op false master ≡ Ok (record master { ops = master.ops ++ op ∷ [] })
op_adds before op master formed few fewer =
    let own : nat_le most_ops (length master.ops) ≡ false = lt-leb _ _ (omega arith) in
    let all : nat_lt most_tries (before + tries_of op) ≡ false = le-ltb _ _ fewer in
    skip _ _ _ (not_from_true _ (aligned op formed)) ∙ skip _ _ _ (within op formed) ∙ skip _ _ _ (or_from _ _ own all)
