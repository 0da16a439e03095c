use Rattle.std.proofs.Common.{List, ap, ◌∙◌}
use Rattle.board_model.specs.declared.bridge.Lane.{Lane as BridgeLane}
use Rattle.history_model.specs.Next.{first_in}
use Rattle.judge_next.specs.Now.{arrival_now}
use Rattle.judge_next.proofs.FlightLemmas.{first_of_all}
use Rattle.judge_next.proofs.flights.LaneFlights.first.Goals as goal

-- the lanes are all lanes, by bus and there by line
pub returns : goal.returns
returns c =
    let first : List BridgeLane → _ = first_in (arrival_now c.args.board.now c.args.kept.now) in
    c.first_arrival.ensures ∙ (ap first c.as_slice.ensures.value ∙ (ap first c.requires.lanes ∙ first_of_all c.args.board.now c.args.kept.now))
