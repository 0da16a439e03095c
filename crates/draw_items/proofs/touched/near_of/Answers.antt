use Rattle.std.proofs.lemmas.Result.{IfOk-weaker}
use Rattle.draw_items.proofs.TouchedLemmas.{near_tells}
use Rattle.draw_items.proofs.touched.near_of.Goals as goal

pub returns : goal.returns
returns c = IfOk-weaker _ _ _ (λ _ is. near_tells c.args.before c.args.last c.args.journeys.now _ is) c.kept_near.ensures
