use Rattle.std.proofs.Common.{length, ap, arith}
use Rattle.bus_segment.specs.declared.turns.worker.Worker.{Worker}
use Rattle.engine_runs.proofs.threads.BeginLemmas.{count_more}
use Rattle.engine_runs.proofs.threads.begin.recorded.Goals as goal

pub loop-worker-preserved : goal.loop-worker-preserved
loop-worker-preserved g c =
    let more = count_more c.args.workers.now c.loop-worker.worker-index c.worker-item.result (omega arith) in
    let one = c.recorded.ensures in
    let same = ap (λ (w : Worker g.row.L.Denot). length w.segment.events.items) c.worker-item.is in
    let sum = c.saturating_add-count.ensures in
    let before = c.loop-worker.invariant in
    omega (arith, more, one, same, sum, before)
