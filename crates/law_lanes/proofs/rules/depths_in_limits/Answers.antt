use Rattle.law_lanes.proofs.rules.QuietLemmas.{Within-limits_by}
use Rattle.law_lanes.proofs.rules.depths_in_limits.Goals as goal

pub returns : goal.returns
returns c = Within-limits_by
