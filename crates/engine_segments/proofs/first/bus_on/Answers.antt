use Rattle.std.proofs.Common.{sym, subst, ◌∙◌}
use Rattle.std.specs.List.{AllByRecursion}
use Rattle.engine_segments.specs.First.{lanes_to}
use Rattle.engine_segments.specs.Parts.{IsOfBridge}
use Rattle.engine_segments.proofs.LaneLemmas.{of_bridge_at}
use Rattle.engine_segments.proofs.PortLemmas.{each_at}
use Rattle.engine_segments.proofs.first.bus_on.Goals as goal

pub ports_of-requires-clause-bridges : goal.ports_of-requires-clause-bridges
ports_of-requires-clause-bridges c =
    let same = c.as_slice.ensures.value ∙ c.in_ok-lanes.ensures in
    subst (AllByRecursion (IsOfBridge c.args.board.now)) (sym same) (each_at (IsOfBridge c.args.board.now) (lanes_to c.args.board.now c.args.bus) (of_bridge_at c.args.board.now c.args.bus))
