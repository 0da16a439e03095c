use Rattle.std.proofs.Common.{◌≤◌, List, length, ap, arith}
use Rattle.board_model.specs.declared.op.Op.{Op}
use Rattle.untagged_apart.proofs.GoneLemmas.{gone_master}
use Rattle.untagged_apart.proofs.masters.master_meets.Goals as goal

pub returns : goal.returns
returns c =
    let all : length c.args.master.now.ops ≤ c.loop-index.index = omega (arith, c.loop-index-test.false, ap (λ (ops : List Op). length ops) c.as_slice-op-items.ensures) in
    gone_master c.args.board.now c.loop-index.kept c.args.number c.loop-index.index c.args.master.now c.requires.is_master all c.loop-index.invariant
