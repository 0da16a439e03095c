use Rattle.law_lanes.proofs.DepthsLemmas.{Within-run_by, Within-run, Within-each, Within-limits}
use Rattle.law_lanes.proofs.depths.Goals as goal

pub returns : goal.returns
returns c = record { of_bridge = Within-run; under_either_rule = Within-run_by; of_each = Within-each; in_limits = Within-limits }
