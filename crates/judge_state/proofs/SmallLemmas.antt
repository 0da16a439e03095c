-- Of no operation more than eight data phases went through.
use Rattle.std.proofs.Common.{◌≡◌, Bool, true, false, ◌<◌, ◌≤◌, length, refl, arith, Some, nat_lt}
use Rattle.std.proofs.lemmas.Bool.Decides.{nat_tests}
use Rattle.pci_command.specs.declared.op_id.OpId.{OpId}
use Rattle.board_model.specs.Limits.{most_dwords}
use Rattle.board_model.specs.declared.op.Op.{Op}
use Rattle.board_model.specs.declared.board.Board.{Board}
use Rattle.board_model.specs.Requests.{op_of, phases_of}
use Rattle.board_model.specs.WellFormed.{is_well_formed}
use Rattle.history_model.specs.Words.{through}
use Rattle.history_model.specs.declared.rule.Rule.{Rule}
use Rattle.law_lanes.proofs.rules.Laws.{short_by}
use Rattle.board_model.proofs.Laws.{op_formed, op_phases}
use Rattle.judge_state.specs.Stands.{PartsAreSmallBy}

there_few : (board : Board) (o : OpId) (op : Op) → is_well_formed board ≡ true → op_of board o ≡ Some op → length (phases_of op) ≤ most_dwords
there_few board o op formed is = (op_phases op (op_formed board o op formed is)).to

pub parts_small : (rule : Rule) (board : Board) → is_well_formed board ≡ true → PartsAreSmallBy rule board
parts_small rule board formed h o op run is =
    let few = there_few board o op formed is in
    let short : 1 ≤ through h o → through h o < length (phases_of op) = short_by rule board h o op is run in
    let P : Bool → Type 0 = λ b. nat_lt 0 (through h o) ≡ b → through h o ≤ most_dwords in
    (elim (nat_lt 0 (through h o)) as P [
      | true ↦ λ some.
          let one : 1 ≤ through h o = grind (arith, nat_tests) in
          omega (arith, short one, few)
      | false ↦ λ nothing_went. grind (arith, nat_tests)
    ]) refl
