use Rattle.std.proofs.Common.{sym, subst}
use Rattle.judge_next.specs.declared.course.Course.{Course}
use Rattle.observe_order.specs.Going.{HasLanded}
use Rattle.observe_order.proofs.going.try_act.Goals as goal

-- an act that is refused changes nothing
pub returns-in-Err : goal.returns-in-Err
returns-in-Err c =
    subst (λ (k : Course). HasLanded c.args.tree.now c.args.run.now k) (sym c.in-Err.ensures.refused) c.requires
