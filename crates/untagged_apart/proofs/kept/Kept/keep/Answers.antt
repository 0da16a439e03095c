use Rattle.std.proofs.Common.{subst}
use Rattle.untagged_apart.specs.Kept.{Keeps}
use Rattle.untagged_apart.proofs.KeptLemmas.{keeps_back}
use Rattle.untagged_apart.proofs.kept.Kept.keep.Goals as goal

pub returns : goal.returns
returns c =
    subst (λ es. Keeps c.args.address c.args.spot es c.insert.new.self.entries) c.self.view_is
    (keeps_back c.args.address c.args.spot c.self.inside.entries.entries c.remove-found.new.self.entries c.insert.new.self.entries c.remove-found.result c.spots_or_none-spots.result c.push.new.self
    c.remove-found.ensures.value c.spots_or_none-spots.ensures c.in_ok-push.ensures (λ q. c.remove-found.ensures.updates.0 q) (λ q. c.in_ok-insert.ensures.updates.0 q))
