use Rattle.std.proofs.Common.{arith}
use Rattle.engine_runs.specs.Loop.{all_seen}
use Rattle.engine_runs.proofs.threads.rounds.run_all.Goals as goal

pub unreachable-requires : goal.unreachable-requires
unreachable-requires g c =
    let few = c.rounds_are_few.ensures.phases c.args.board.now (all_seen c.loop-phases.workers.items) c.loop-phases.phases c.requires.valid c.loop-phases.invariant.after in
    omega (arith, few)
