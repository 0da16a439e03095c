use Rattle.std.proofs.Common.{◌≡◌, List, [], ◌++◌, length, map, sym, ap, ◌∙◌}
use Rattle.std.specs.Vec.Iter.{into_iter_items}
use Rattle.std.proofs.lemmas.List.{append-nil}
use Rattle.bus_segment.specs.Stands.{WorkerView}
use Rattle.bus_segment.specs.declared.turns.worker.Worker.{Worker}
use Rattle.engine_runs.proofs.OneLemmas.{nothing_left}
use Rattle.engine_runs.specs.Loop.{all_seen}
use Rattle.engine_runs.proofs.merging.all_parts.Goals as goal

pub returns : goal.returns
returns g c =
    let left : List (Worker g.row.L.Denot) = into_iter_items c.loop-worker.worker-iterator in
    let none : length left ≡ 0 = sym c.loop-worker.invariant.1 ∙ c.in-None.ensures.steps.0 in
    let empty : left ≡ [] = nothing_left left none in
    sym (append-nil c.loop-worker.parts.items)
    ∙ (ap (λ (l : List (Worker g.row.L.Denot)). c.loop-worker.parts.items ++ map (λ (w : WorkerView g.row.L.Denot). w.events) (all_seen l)) (sym empty) ∙ c.loop-worker.invariant.0)
