-- The operation that a name names: where it stands, and that it is well formed where the board is.
use Rattle.std.proofs.Common.{◌≡◌, ℕ, ◌<◌, true, cond, nat_lt, List, length, Option, Some, None, refl, subst, arith, lit≤, slice_get, eqb-true}
use Rattle.std.specs.Option.{option_and_then}
use Rattle.std.proofs.lemmas.Bool.{and_parts, ltb-true}
use Rattle.std.proofs.lemmas.Option.{cond_some, slice_get_within}
use Rattle.list_facts.proofs.TestLemmas.{list_all-get}
use Rattle.pci_command.specs.declared.command.Space.{Space}
use Rattle.pci_command.specs.declared.command.Space.TheVariants.{Mem, Io, Cfg}
use Rattle.pci_command.specs.declared.phases.Phase.{Phase}
use Rattle.pci_command.specs.declared.op_id.OpId.{OpId}
use Rattle.board_model.specs.declared.agents.Master.{Master}
use Rattle.board_model.specs.declared.op.Op.{Op}
use Rattle.board_model.specs.declared.op.Op.TheVariants.{Read, Write, CfgRead, CfgWrite, Poll}
use Rattle.board_model.specs.declared.board.Board.{Board}
use Rattle.board_model.specs.Limits.{most_dwords, most_ops, most_tries}
use Rattle.board_model.specs.Requests.{tries_of, op_of, phases_of}
use Rattle.board_model.specs.WellFormed.{IsWithin, write_space, is_well_formed_write, is_well_formed_op, is_well_formed_master, is_well_formed}
use Rattle.board_model.proofs.FormLemmas.{Within-parts, Write-parts, Master-parts, WellFormed-parts}

-- a well-formed operation is tried once, or a poll as often as it says
pub op_tries : (op : Op) → is_well_formed_op op ≡ true → IsWithin 1 most_tries (tries_of op)
op_tries (Read command address) formed = record { from = lit≤ tt; to = lit≤ tt }
op_tries (Write command address phases) formed = record { from = lit≤ tt; to = lit≤ tt }
op_tries (CfgRead bus device register) formed = record { from = lit≤ tt; to = lit≤ tt }
op_tries (CfgWrite bus device register phase) formed = record { from = lit≤ tt; to = lit≤ tt }
op_tries (Poll space address want tries) formed = Within-parts 1 most_tries tries (and_parts _ _ formed).1

one_phase : (n : ℕ) → n ≡ 1 → IsWithin 1 most_dwords n
one_phase n one = record { from = omega (arith, one); to = omega (arith, one) }

write_phases : (address : ℕ) (phases : List Phase) (space : Option Space) → is_well_formed_write address phases space ≡ true → IsWithin 1 most_dwords (length phases)
write_phases address phases None formed = cc
write_phases address phases (Some Mem) formed = Within-parts 1 most_dwords (length phases) (and_parts _ _ (Write-parts Mem address phases formed).burst).0
write_phases address phases (Some Io) formed = one_phase (length phases) (eqb-true (length phases) 1 (Write-parts Io address phases formed).burst)
write_phases address phases (Some Cfg) formed = cc

-- and has a data phase or more
pub op_phases : (op : Op) → is_well_formed_op op ≡ true → IsWithin 1 most_dwords (length (phases_of op))
op_phases (Read command address) formed = record { from = lit≤ tt; to = lit≤ tt }
op_phases (Write command address phases) formed = write_phases address phases (write_space command) formed
op_phases (CfgRead bus device register) formed = record { from = lit≤ tt; to = lit≤ tt }
op_phases (CfgWrite bus device register phase) formed = record { from = lit≤ tt; to = lit≤ tt }
op_phases (Poll space address want tries) formed = record { from = lit≤ tt; to = lit≤ tt }

-- the operation of a name stands in the program of its master, and the try is one of its tries
pub record IsThere (board : Board) (o : OpId) (op : Op) : Type 0 where
  pub master : Master
  pub is_master : slice_get board.masters o.master ≡ Some master
  pub is_op : slice_get master.ops o.index ≡ Some op
  pub tried : o.attempt < tries_of op

pub op_there : (board : Board) (o : OpId) (op : Op) → op_of board o ≡ Some op → IsThere board o op
op_there board o op is =
    let here : Op → Option Op = λ p. cond (nat_lt o.attempt (tries_of p)) (Some p) None in
    let P : Option Master → Type 0 = λ found. slice_get board.masters o.master ≡ found → option_and_then here (option_and_then (λ master. slice_get master.ops o.index) found) ≡ Some op → IsThere board o op in
    (elim (slice_get board.masters o.master) as P [
      | None ↦ λ _ e. cc
      | Some master ↦ λ is_master e.
          let Q : Option Op → Type 0 = λ found. slice_get master.ops o.index ≡ found → option_and_then here found ≡ Some op → IsThere board o op in
          (elim (slice_get master.ops o.index) as Q [
            | None ↦ λ _ f. cc
            | Some p ↦ λ is_op f.
                let kept = cond_some (nat_lt o.attempt (tries_of p)) p op f in
                record {
                  master = master;
                  is_master = is_master;
                  is_op = subst (λ q. slice_get master.ops o.index ≡ Some q) kept.1 is_op;
                  tried = subst (λ q. o.attempt < tries_of q) kept.1 (ltb-true _ _ kept.0);
                }
          ]) refl e
    ]) refl is

-- so it is well formed on a well-formed board
pub op_formed : (board : Board) (o : OpId) (op : Op) → is_well_formed board ≡ true → op_of board o ≡ Some op → is_well_formed_op op ≡ true
op_formed board o op formed is =
    let there = op_there board o op is in
    let master = list_all-get is_well_formed_master board.masters o.master there.master (WellFormed-parts board formed).masters there.is_master in
    list_all-get is_well_formed_op there.master.ops o.index op (Master-parts there.master master).ops there.is_op

-- and the numbers of its name are small
pub op_limits : (board : Board) (o : OpId) (op : Op) → is_well_formed board ≡ true → op_of board o ≡ Some op → (o.index < most_ops) × (o.attempt < most_tries)
op_limits board o op formed is =
    let there = op_there board o op is in
    let master = list_all-get is_well_formed_master board.masters o.master there.master (WellFormed-parts board formed).masters there.is_master in
    let few = (Master-parts there.master master).few in
    let within = slice_get_within there.master.ops o.index op there.is_op in
    let most = (op_tries op (op_formed board o op formed is)).to in
    let tried = there.tried in
    (omega (arith, within, few), omega (arith, tried, most))
