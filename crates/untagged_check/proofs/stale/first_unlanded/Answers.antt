use Rattle.std.proofs.Common.{ap, ◌∙◌}
use Rattle.untagged_check.specs.Found.{first_unlanded}
use Rattle.untagged_check.proofs.FoundLemmas.{pending_is}
use Rattle.untagged_check.proofs.stale.first_unlanded.Goals as goal

pub returns : goal.returns
returns c = λ board h run.
    c.first.ensures board run.landed run.indexes
    ∙ pending_is board h run.landed c.args.got.word c.saturating_sub-before.result c.args.known.now run.whole
    ∙ ap (λ n. first_unlanded board h c.args.got.word n c.args.known.now) c.saturating_sub-before.ensures
