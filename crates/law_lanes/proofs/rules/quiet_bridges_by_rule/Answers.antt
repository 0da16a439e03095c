use Rattle.law_lanes.proofs.rules.QuietLemmas.{Quiet-run_by}
use Rattle.law_lanes.proofs.rules.quiet_bridges_by_rule.Goals as goal

pub returns : goal.returns
returns c = Quiet-run_by
