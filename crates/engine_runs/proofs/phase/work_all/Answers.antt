use Rattle.std.proofs.Common.{◌≡◌, ◌+◌, inl, inr, true, false, Bool, List, Some, refl, get_or, set, length, sym, ap, subst, ◌∙◌, arith, slice_get}
use Rattle.std.proofs.lemmas.List.{length-map, length-set, map-set}
use Rattle.std.proofs.lemmas.Option.{slice_get-get_or, slice_get_within}
use Rattle.bus_segment.specs.Stands.{WorkerView}
use Rattle.bus_segment.specs.declared.turns.worker.Worker.{Worker}
use Rattle.engine_runs.specs.Loop.{seen, all_seen, AreMarkedIdle}
use Rattle.engine_runs.proofs.OneLemmas.{seen_there}
use Rattle.engine_runs.proofs.WorkLemmas.{WorkedSoFar, worked_none, worked_more, worked_all}
use Rattle.engine_runs.proofs.IdleLemmas.{idle_one}
use Rattle.engine_runs.proofs.phase.work_all.Goals as goal
use Rattle.engine_runs.proofs.phase.work_all.Goals.{then-branch, else-branch}

pub loop-place-init : goal.loop-place-init
loop-place-init g c =
    let E = g.L.LaneEnd in
    let One : Type 0 = Worker g.row.L.Denot in
    record {
      same = refl;
      marks = c.requires.marked.many ∙ length-map c.args.workers.now (λ (x : One). seen x);
      worked = worked_none E.had E.sent E.got E.kept E.paired c.args.board.now c.args.phase (all_seen c.args.workers.now);
      marked = c.requires.marked;
    }

pub work-requires-clause-ready : goal.work-requires-clause-ready
work-requires-clause-ready g c =
    let i = c.loop-place.place in
    let here = seen_there c.loop-place.workers i c.index-workers-place.result (omega (arith, c.loop-place.invariant.same)) in
    c.requires.ready.each i (seen (get_or c.loop-place.workers i c.index-workers-place.result)) (sym (c.loop-place.invariant.worked.rest i (omega arith)) ∙ here)

pub work-requires-clause-marked : goal.work-requires-clause-marked
work-requires-clause-marked g c = λ on.
    let i = c.loop-place.place in
    let here = seen_there c.loop-place.workers i c.index-workers-place.result (omega (arith, c.loop-place.invariant.same)) in
    let mark = slice_get-get_or c.loop-place.idle i _ (omega (arith, c.loop-place.invariant.marks)) in
    c.loop-place.invariant.marked.retried i (seen (get_or c.loop-place.workers i c.index-workers-place.result)) here (mark ∙ ap Some on)

pub loop-place-preserved : goal.loop-place-preserved
loop-place-preserved g c =
    let E = g.L.LaneEnd in
    let One : Type 0 = Worker g.row.L.Denot in
    let i = c.loop-place.place in
    let v = c.loop-place.invariant in
    let w : One = get_or c.loop-place.workers i c.index-workers-place.result in
    let here = seen_there c.loop-place.workers i c.index-workers-place.result (omega (arith, v.same)) in
    let P : List (WorkerView g.row.L.Denot) → Type 0 = λ l. WorkedSoFar {End = g.row.L.Denot} E.had E.sent E.got E.kept E.paired c.args.board.now c.args.phase (i + 1) (all_seen c.args.workers.now) l c.if-branch.busy in
    let set_is = map-set (λ (x : One). seen x) c.loop-place.workers i c.work.new.worker in
    let within = slice_get_within (all_seen c.loop-place.workers) i (seen w) here in
    let mark : Bool = c.work.new.idle in
    record {
      same = length-set c.loop-place.workers i c.work.new.worker ∙ v.same;
      marks = length-set c.loop-place.idle i mark ∙ v.marks;
      worked = subst P (sym set_is) (elim c.if-branch.branch [
        | then-branch w_then ↦
            worked_more E.had E.sent E.got E.kept E.paired c.args.board.now c.args.phase (all_seen c.args.workers.now) i (all_seen c.loop-place.workers) c.loop-place.busy c.in_ok-work.field-0 c.if-branch.busy
            (seen w) (seen c.work.new.worker) v.worked here c.in_ok-work.ensures.worked
            (λ off. let wrong : true ≡ false = sym w_then.busy-is ∙ off in cc) (λ on. inr w_then.if-branch.true)
        | else-branch w_else ↦
            worked_more E.had E.sent E.got E.kept E.paired c.args.board.now c.args.phase (all_seen c.args.workers.now) i (all_seen c.loop-place.workers) c.loop-place.busy c.in_ok-work.field-0 c.if-branch.busy
            (seen w) (seen c.work.new.worker) v.worked here c.in_ok-work.ensures.worked
            (λ off. (sym w_else.busy-is ∙ off, w_else.if-branch.false)) (λ on. inl (sym w_else.busy-is ∙ on))
      ]);
      marked = subst (λ l. AreMarkedIdle {End = g.row.L.Denot} c.args.board.now l (set c.loop-place.idle i mark)) (sym set_is)
          (idle_one c.args.board.now (all_seen c.loop-place.workers) c.loop-place.idle i (seen c.work.new.worker) mark within v.marked c.in_ok-work.ensures.marked);
    }

pub returns-clause-worked : goal.returns-clause-worked
returns-clause-worked g c =
    let E = g.L.LaneEnd in
    let One : Type 0 = Worker g.row.L.Denot in
    let many = length-map c.args.workers.now (λ (x : One). seen x) in
    worked_all E.had E.sent E.got E.kept E.paired c.args.board.now c.args.phase (all_seen c.args.workers.now) c.loop-place.place (all_seen c.loop-place.workers) c.loop-place.busy
    (omega (arith, many)) c.loop-place.invariant.worked

pub returns-clause-marked : goal.returns-clause-marked
returns-clause-marked g c = c.loop-place.invariant.marked
