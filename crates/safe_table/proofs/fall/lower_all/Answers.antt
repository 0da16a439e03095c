use Rattle.std.proofs.Common.{◌≡◌, ◌+◌, ◌||◌, sym, ap, subst, ◌∙◌, arith}
use Rattle.std.proofs.lemmas.Option.{slice_get-get_or}
use Rattle.safe_table.specs.Bounds.{Fell, LowersPolls}
use Rattle.safe_table.proofs.BoundLemmas.{listed_at, fell_next, polls_next}
use Rattle.safe_table.proofs.fall.lower_all.Goals as goal
use Rattle.safe_table.proofs.fall.lower_all.Goals.{then-fell, else-fell}

pub lower_poll-requires-clause-first : goal.lower_poll-requires-clause-first
lower_poll-requires-clause-first c =
    c.requires.are.listed.first _ (listed_at c.args.ops.now c.loop-op.op-index _ (slice_get-get_or c.args.ops.now c.loop-op.op-index _ c.loop-op-test.true))

pub loop-op-preserved : goal.loop-op-preserved
loop-op-preserved c =
    let both : c.if-fell.fell ≡ (c.loop-op.fell || c.in_ok-here.here) = (elim c.if-fell.branch [
      | then-fell w ↦ w.fell-is ∙ w.if-fell.true ∙ sym (ap (λ b. b || c.in_ok-here.here) w.if-fell.true)
      | else-fell w ↦ w.fell-is ∙ sym (ap (λ b. b || c.in_ok-here.here) w.if-fell.false)
    ]) in
    let inside = c.loop-op-test.true in
    let falls = fell_next c.args.table.now c.loop-op.table c.lower_poll.new.table c.loop-op.fell c.in_ok-here.here c.loop-op.invariant.1 c.in_ok-here.ensures.fell in
    let lowers = polls_next c.args.tree.now c.args.ops.now c.loop-op.op-index _ c.args.table.now c.loop-op.table c.lower_poll.new.table c.loop-op.fell c.in_ok-here.here
    (slice_get-get_or c.args.ops.now c.loop-op.op-index _ c.loop-op-test.true) c.requires.are.listed c.loop-op.invariant.1 c.loop-op.invariant.2 c.in_ok-here.ensures.lowers in (
      omega (arith, inside),
      subst (Fell c.args.table.now c.lower_poll.new.table) (sym both) falls,
      subst (LowersPolls c.args.tree.now c.args.ops.now (c.loop-op.op-index + 1) c.args.table.now c.lower_poll.new.table) (sym both) lowers,
    )
