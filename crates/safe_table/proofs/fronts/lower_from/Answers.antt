use Rattle.std.proofs.Common.{true, false, subst}
use Rattle.safe_table.specs.Bounds.{Fell}
use Rattle.safe_table.proofs.BoundLemmas.{fell_more, fell_still, poll_bound}
use Rattle.safe_table.proofs.fronts.lower_from.Goals as goal

pub lower_poll-requires-clause-first : goal.lower_poll-requires-clause-first
lower_poll-requires-clause-first c = c.requires.are.listed.first c.in-Some.op c.in-Some.ensures.among

pub loop-op-preserved : goal.loop-op-preserved
loop-op-preserved c =
    let here : Fell c.loop-op.table c.lower_poll.new.table true = subst (Fell c.loop-op.table c.lower_poll.new.table) c.if-not-here.false c.in_ok-here.ensures.fell in (
      fell_more c.args.table.now c.loop-op.table c.lower_poll.new.table c.loop-op.fell c.loop-op.invariant.0 here,
      poll_bound c.args.tree.now c.args.ops.now c.in-Some.op c.loop-op.table c.lower_poll.new.table c.in_ok-here.here c.in-Some.ensures.among c.requires.are.listed c.loop-op.invariant.1 c.in_ok-here.ensures.lowers,
    )

pub returns-then-not-here : goal.returns-then-not-here
returns-then-not-here c =
    let here : Fell c.loop-op.table c.lower_poll.new.table false = subst (Fell c.loop-op.table c.lower_poll.new.table) c.if-not-here.true c.in_ok-here.ensures.fell in
    record {
      fell = fell_still c.args.table.now c.loop-op.table c.lower_poll.new.table c.loop-op.fell c.loop-op.invariant.0 here;
      bounds = poll_bound c.args.tree.now c.args.ops.now c.in-Some.op c.loop-op.table c.lower_poll.new.table c.in_ok-here.here c.in-Some.ensures.among c.requires.are.listed c.loop-op.invariant.1 c.in_ok-here.ensures.lowers;
    }
