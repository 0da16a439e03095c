-- How many operations a board has.
use Rattle.std.proofs.Common.{◌≡◌, ℕ, ◌+◌, ◌<◌, ◌≤◌, ◌^◌, true, get_or, take, length, zero, suc, List, [], ◌∷◌, ap, ◌∙◌, arith}
use Rattle.std.specs.List.{list_all}
use Rattle.std.proofs.lemmas.Bool.{and_parts}
use Rattle.std.proofs.lemmas.List.{take_more}
use Rattle.list_facts.specs.Lists.{total}
use Rattle.list_facts.proofs.TotalLemmas.{total-push}
use Rattle.board_model.specs.declared.agents.Master.{Master}
use Rattle.board_model.specs.declared.op.Op.{Op}
use Rattle.board_model.specs.declared.board.Board.{Board}
use Rattle.board_model.specs.Requests.{tries_of}
use Rattle.board_model.specs.WellFormed.{is_well_formed_op, is_well_formed_master, operations_in}
use Rattle.board_model.specs.Valid.{IsValid}
use Rattle.board_model.proofs.Laws.{WellFormed-parts, Master-parts, op_tries}
use Rattle.run_report.specs.Report.{operations_of}

-- each operation is tried once or more
tried_ops : (ops : List Op) → list_all is_well_formed_op ops ≡ true → length ops ≤ total tries_of ops
tried_ops [] formed = omega arith
tried_ops (op ∷ ops) formed =
    let parts = and_parts (is_well_formed_op op) (list_all is_well_formed_op ops) formed in
    omega (arith, (op_tries op parts.0).from, tried_ops ops parts.1)

tried_masters : (masters : List Master) → list_all is_well_formed_master masters ≡ true → total (λ (master : Master). length master.ops) masters ≤ operations_in masters
tried_masters [] formed = omega arith
tried_masters (master ∷ masters) formed =
    let parts = and_parts (is_well_formed_master master) (list_all is_well_formed_master masters) formed in
    omega (arith, tried_ops master.ops (Master-parts master parts.0).ops, tried_masters masters parts.1)

-- so that a valid board has few
pub operations_few : (board : Board) → IsValid board → operations_of board < 2 ^ 32
operations_few board valid =
    let formed = WellFormed-parts board valid.well_formed in
    omega (arith, tried_masters board.masters formed.masters, formed.operations)

-- those of one master more
pub operations_more : (masters : List Master) (i : ℕ) (d : Master) → i < length masters
    → total (λ (master : Master). length master.ops) (take (i + 1) masters) ≡ total (λ (master : Master). length master.ops) (take i masters) + length (get_or masters i d).ops
operations_more masters i d within =
    ap (total (λ (master : Master). length master.ops)) (take_more masters i d within) ∙ total-push (λ (master : Master). length master.ops) (take i masters) (get_or masters i d)

-- the first masters have no more than all
pub operations_front : (masters : List Master) (i : ℕ) → total (λ (master : Master). length master.ops) (take i masters) ≤ total (λ (master : Master). length master.ops) masters
operations_front [] zero = omega arith
operations_front [] (suc i) = omega arith
operations_front (master ∷ masters) zero = omega arith
operations_front (master ∷ masters) (suc i) = omega (arith, operations_front masters i)
