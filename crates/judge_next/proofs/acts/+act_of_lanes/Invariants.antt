use Rattle.std.proofs.Common.{length}
use Rattle.judge_next.proofs.acts.+act_of_lanes.Given as goal

abbrev pub decreases-act_of_lanes : goal.decreases-act_of_lanes
decreases-act_of_lanes l = length l.lanes.now
