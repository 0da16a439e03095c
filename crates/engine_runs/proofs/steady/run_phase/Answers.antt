use Rattle.std.proofs.Common.{Bool, ◌+◌, subst}
use Rattle.engine_phases.specs.Phase.{AllTurned}
use Rattle.engine_runs.specs.Loop.{all_seen}
use Rattle.engine_runs.proofs.SteadyLemmas.{laid_worked, above_worked, steady_settled}
use Rattle.engine_runs.proofs.IdleLemmas.{idle_settled}
use Rattle.engine_runs.proofs.steady.run_phase.Goals as goal

pub settle_all-requires-clause-laid : goal.settle_all-requires-clause-laid
settle_all-requires-clause-laid g c =
    let E = g.L.LaneEnd in
    laid_worked E.had E.sent E.got E.kept E.paired c.args.board.now (all_seen c.args.workers.now) (all_seen c.work_all.new.workers) c.args.above.now c.args.phases c.in_ok-busy.busy c.requires.steady c.in_ok-busy.ensures.worked

pub settle_all-requires-clause-above : goal.settle_all-requires-clause-above
settle_all-requires-clause-above g c =
    let E = g.L.LaneEnd in
    above_worked E.had E.sent E.got E.kept E.paired c.args.board.now (all_seen c.args.workers.now) (all_seen c.work_all.new.workers) c.args.above.now c.args.phases c.in_ok-busy.busy c.requires.steady c.in_ok-busy.ensures.worked

pub settle_all-requires-clause-may : goal.settle_all-requires-clause-may
settle_all-requires-clause-may g c =
    c.turns_stop_no_worker.ensures.settle c.args.board.now (all_seen c.args.workers.now) (all_seen c.work_all.new.workers) c.args.phases c.in_ok-busy.busy c.requires.valid c.requires.steady.after c.in_ok-busy.ensures.worked.turned

pub returns-then-busy-clause-busy : goal.returns-then-busy-clause-busy
returns-then-busy-clause-busy g c =
    let E = g.L.LaneEnd in
    let board = c.args.board.now in
    let old = all_seen c.args.workers.now in
    let new = all_seen c.work_all.new.workers in
    let settled = all_seen c.settle_all.new.workers in
    let worked = c.in_ok-busy.ensures.worked in
    let after = c.requires.steady.after in
    let none = c.turns_stop_no_worker.ensures.going board old new c.args.phases c.in_ok-busy.busy c.requires.valid after worked.turned c.requires.crosses in
    let turned = subst (λ (b : Bool). AllTurned E.had E.sent E.got E.kept E.paired board (c.args.phases + 1) old new b) c.if-busy.true worked.turned in
    let next = c.settles_end_a_phase.ensures board old new settled c.args.phases c.requires.valid after turned c.requires.crosses c.settle_all.ensures in
    λ busy. steady_settled E.had E.sent E.got E.kept E.paired board old new c.args.above.now c.args.phases c.in_ok-busy.busy c.requires.steady worked settled none c.settle_all.ensures next

pub returns-else-busy-clause-idle : goal.returns-else-busy-clause-idle
returns-else-busy-clause-idle g c =
    let E = g.L.LaneEnd in
    let board = c.args.board.now in
    let old = all_seen c.args.workers.now in
    let new = all_seen c.work_all.new.workers in
    λ idle.
    let turned = subst (λ (b : Bool). AllTurned E.had E.sent E.got E.kept E.paired board (c.args.phases + 1) old new b) idle c.in_ok-busy.ensures.worked.turned in
    c.idle_phases_end_the_run.ensures board old new c.args.phases c.requires.valid c.requires.steady.after turned c.requires.crosses

pub returns-then-busy-clause-marked : goal.returns-then-busy-clause-marked
returns-then-busy-clause-marked g c =
    let E = g.L.LaneEnd in
    idle_settled E.had E.sent E.got E.kept E.paired c.args.board.now (all_seen c.work_all.new.workers) (all_seen c.settle_all.new.workers) c.work_all.new.idle c.settle_all.ensures c.in_ok-busy.ensures.marked

pub returns-else-busy-clause-marked : goal.returns-else-busy-clause-marked
returns-else-busy-clause-marked g c = c.in_ok-busy.ensures.marked
