use Rattle.bus_agents.proofs.ThroughLemmas.{none_stands}
use Rattle.bus_agents.proofs.through.Through.new.Goals as goal

pub returns : goal.returns
returns c = none_stands c.args.board.now c.in_ok-gone.gone c.in_ok-gone.ensures
