use Rattle.judge_next.specs.declared.flights.LaneFlights.{LaneFlights}
use Rattle.judge_next.proofs.FlightLemmas.{flights_known}
use Rattle.judge_next.proofs.flights.LaneFlights.new.Goals as goal

pub returns : goal.returns
returns c =
    let flights : LaneFlights = record { lanes = c.in_ok-lanes.lanes; still = c.in_ok-still.still } in
    flights_known c.args.board.now c.args.kept.now flights c.in_ok-lanes.ensures c.in_ok-still.ensures.all c.in_ok-still.ensures.each
