use Rattle.std.proofs.Common.{◌≡◌, ◌∙◌, Bool, List, false, length, sym, ap, subst}
use Rattle.std.proofs.lemmas.List.{length-map, length-replicate}
use Rattle.bus_segment.specs.declared.turns.worker.Worker.{Worker}
use Rattle.engine_runs.specs.Loop.{seen, all_seen, AreMarkedIdle}
use Rattle.engine_runs.proofs.IdleLemmas.{idle_first}
use Rattle.engine_runs.proofs.steady.run_all.Goals as goal

pub run_phases-requires-clause-marked : goal.run_phases-requires-clause-marked
run_phases-requires-clause-marked g c =
    let One : Type 0 = Worker g.row.L.Denot in
    let workers : List One = c.args.workers.items in
    let idle : List Bool = c.in_ok-idle.idle.items in
    let many = ap length c.in_ok-idle.ensures ∙ (length-replicate c.len.result false ∙ ((c.len.ensures ∙ c.args.workers.ok.0) ∙ sym (length-map workers (λ (x : One). seen x)))) in
    let first : AreMarkedIdle {End = g.row.L.Denot} c.args.board.now (all_seen workers) idle = idle_first c.args.board.now (all_seen workers) idle c.len.result c.in_ok-idle.ensures many in
    let slice = subst (λ (l : List One). AreMarkedIdle {End = g.row.L.Denot} c.args.board.now (all_seen l) idle) (sym c.as_mut_slice.ensures.value) first in
    subst (λ (l : List Bool). AreMarkedIdle {End = g.row.L.Denot} c.args.board.now (all_seen c.as_mut_slice.result.now) l) (sym c.as_mut_slice-2.ensures.value) slice
