use Rattle.std.proofs.Common.{Some, sym, ap, ◌∙◌, arith}
use Rattle.std.proofs.lemmas.List.{length-map}
use Rattle.bus_segment.specs.declared.turns.worker.Worker.{Worker}
use Rattle.engine_runs.specs.Loop.{seen, all_seen}
use Rattle.engine_runs.proofs.Laws.{seen_there}
use Rattle.engine_runs.proofs.threads.BeginLemmas.{next_none, next_more, next_all}
use Rattle.engine_runs.proofs.threads.begin.next_stamp.Goals as goal

pub loop-worker-init : goal.loop-worker-init
loop-worker-init g c = next_none (all_seen c.args.workers.now)

pub overflow_add-stamp : goal.overflow_add-stamp
overflow_add-stamp g c =
    let i = c.loop-worker.worker-index in
    let w : Worker g.row.L.Denot = c.worker-item.result in
    let here = seen_there c.args.workers.now i w (omega arith) ∙ ap (λ (x : Worker g.row.L.Denot). Some (seen x)) (sym c.worker-item.is) in
    let upto = c.requires.up_to i (seen w) here in
    let stamp = c.stamp.ensures in
    omega (arith, upto, stamp)

pub loop-worker-preserved : goal.loop-worker-preserved
loop-worker-preserved g c =
    let i = c.loop-worker.worker-index in
    let w : Worker g.row.L.Denot = c.worker-item.result in
    let here = seen_there c.args.workers.now i w (omega arith) ∙ ap (λ (x : Worker g.row.L.Denot). Some (seen x)) (sym c.worker-item.is) in
    next_more (all_seen c.args.workers.now) i c.loop-worker.next c.max-next.result c.stamp.result (seen w) here c.stamp.ensures c.max-next.ensures c.loop-worker.invariant

pub returns : goal.returns
returns g c =
    let many = length-map c.args.workers.now (λ (w : Worker g.row.L.Denot). seen w) in
    next_all (all_seen c.args.workers.now) c.loop-worker.worker-index c.loop-worker.next (omega (arith, many)) c.loop-worker.invariant
