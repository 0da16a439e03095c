use Rattle.law_lanes.proofs.QuietLemmas.{Quiet-empty, run_no_bridge}
use Rattle.law_lanes.proofs.quiet_bridges.Goals as goal

pub returns : goal.returns
returns c =
    record {
      entered = Quiet-empty;
      no_bridge = λ board h lane none run. Quiet-empty board h lane (run_no_bridge board lane.bus h none run);
    }
