use Rattle.std.proofs.Common.{arith}
use Rattle.engine_runs.specs.Loop.{all_seen}
use Rattle.engine_runs.proofs.steady.run_phases.Goals as goal

pub unreachable-requires : goal.unreachable-requires
unreachable-requires g c =
    let few = c.phases_are_few.ensures c.args.board.now (all_seen c.loop-phases.workers) c.loop-phases.phases c.requires.valid c.loop-phases.invariant.steady.after in
    omega (arith, few)
