use Rattle.std.proofs.Common.{List, Option, take, sym, ap, subst, arith}
use Rattle.history_model.specs.declared.event.Event.{Event}
use Rattle.history_model.specs.declared.rule.Rule.TheVariants.{Untagged}
use Rattle.history_model.specs.Runs.{RunBy, history_of}
use Rattle.judge_state.proofs.RefusedLemmas.{refused_by}
use Rattle.untagged_run.specs.declared.got.Got.{Got}
use Rattle.untagged_run.specs.Course.{CourseState, AreGots}
use Rattle.untagged_run.proofs.FollowLemmas.{Upto, upto_more, upto_all}
use Rattle.untagged_run.proofs.course.UntaggedCourse.follow.Goals as goal

pub returns-in-Some : goal.returns-in-Some
returns-in-Some c =
    let h : List Event = history_of (take c.loop-index.index c.args.events.now) in
    let upto : Upto c.args.tree.now c.args.events.now c.loop-index.index c.loop-index.self = c.loop-index.invariant in
    let cause = c.in_ok-why.ensures.verdict h upto.course in
    refused_by Untagged c.args.tree.now c.args.events.now c.loop-index.index _ c.in-Some.why c.loop-index-test.true upto.course.stands.run
    (rw c.in-Some.is at cause)

pub loop-index-preserved : goal.loop-index-preserved
loop-index-preserved c =
    let h : List Event = history_of (take c.loop-index.index c.args.events.now) in
    let upto : Upto c.args.tree.now c.args.events.now c.loop-index.index c.loop-index.self = c.loop-index.invariant in
    let goes = c.in_ok-why.ensures.goes_on h upto.course in
    upto_more c.args.tree.now c.args.events.now c.loop-index.index _ c.loop-index.self c.step.new.self c.loop-index-test.true upto (rw c.in_default.is at goes)

pub returns : goal.returns
returns c =
    let upto : Upto c.args.tree.now c.args.events.now c.loop-index.index c.loop-index.self = c.loop-index.invariant in
    let all = upto_all c.args.tree.now c.args.events.now c.loop-index.index c.loop-index.self (omega arith) upto in
    let run : RunBy Untagged c.args.tree.now (history_of c.args.events.now) = all.0.stands.run in
    (run, subst (λ (gots : List (Option Got)). AreGots c.args.tree.now c.args.events.now gots) (sym (ap (λ kept. kept.items) c.replace-gots.ensures.value)) (subst (λ (s : CourseState). AreGots c.args.tree.now c.args.events.now s.gots) (sym c.self.view_is) all.1))
