use Rattle.std.proofs.Common.{◌≡◌, ◌||◌, sym, ap, subst, ◌∙◌}
use Rattle.safe_table.specs.Bounds.{Fell}
use Rattle.safe_table.proofs.BoundLemmas.{fell_next}
use Rattle.safe_table.proofs.fronts.lower_round.Goals as goal
use Rattle.safe_table.proofs.fronts.lower_round.Goals.{then-fell, else-fell}

pub loop-front-preserved : goal.loop-front-preserved
loop-front-preserved c =
    let both : c.if-fell.fell ≡ (c.loop-front.fell || c.in_ok-here.here) = (elim c.if-fell.branch [
      | then-fell w ↦ w.fell-is ∙ w.if-fell.true ∙ sym (ap (λ b. b || c.in_ok-here.here) w.if-fell.true)
      | else-fell w ↦ w.fell-is ∙ sym (ap (λ b. b || c.in_ok-here.here) w.if-fell.false)
    ]) in
    let falls = fell_next c.args.table.now c.loop-front.table c.lower_from.new.table c.loop-front.fell c.in_ok-here.here c.loop-front.invariant.0 c.in_ok-here.ensures.fell in
    (subst (Fell c.args.table.now c.lower_from.new.table) (sym both) falls, c.in_ok-here.ensures.bounds)
