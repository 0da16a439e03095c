use Rattle.std.proofs.Common.{◌≤◌, List, length, sym, ap, arith, not}
use Rattle.board_model.specs.declared.agents.Master.{Master}
use Rattle.untagged_apart.proofs.FoundLemmas.{gone_all}
use Rattle.untagged_apart.proofs.masters.some_meet.Goals as goal

pub returns : goal.returns
returns c =
    let all : length c.args.board.now.masters ≤ c.loop-number.number = omega (arith, c.loop-number-test.false, ap (λ (masters : List Master). length masters) c.as_slice-master-items.ensures) in
    sym (ap not (gone_all c.args.board.now c.loop-number.kept c.loop-number.number all c.loop-number.invariant))
