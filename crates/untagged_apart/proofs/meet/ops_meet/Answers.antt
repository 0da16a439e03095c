use Rattle.std.proofs.Common.{◌≡◌, false}
use Rattle.untagged_apart.proofs.LookLemmas.{never_met}
use Rattle.untagged_apart.proofs.meet.ops_meet.Goals as goal

pub returns-then-not-may_meet : goal.returns-then-not-may_meet
returns-then-not-may_meet c =
    let e : c.may_meet.result ≡ false = c.if-not-may_meet.true in
    never_met c.args.board.now c.args.on c.args.op.now c.args.other_on c.args.other.now c.may_meet.result e c.may_meet.ensures
