use Rattle.law_bound.proofs.changes.ActLemmas.{ends_there}
use Rattle.law_bound.proofs.reach.Laws.{lane_there}
use Rattle.law_bound.proofs.changes.delayed_answers.Goals as goal

pub returns : goal.returns
returns c =
    record {
      ends = λ board h on by o op step place valid run is_op delayed moves none. ends_there board valid h on by o op step place run is_op delayed moves none;
      at_lane = λ board h on by o op step place lane valid run is_op delayed moves claims. lane_there board valid h on by o op step place run is_op delayed lane claims;
    }
