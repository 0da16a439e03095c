use Rattle.judge_next.proofs.CourseLemmas.{allowed_is_ok}
use Rattle.judge_next.proofs.course.Course.go_on.Goals as goal

pub returns-clause-goes_on : goal.returns-clause-goes_on
returns-clause-goes_on c = λ h is.
    let before = c.next.ensures.stays h is in
    let allowed = c.in_ok-event.ensures.allowed h is in
    allowed_is_ok c.args.tree.now h c.in_ok-event.event c.step-ok.result _ allowed (c.step-ok.ensures.verdict h before) (c.step-ok.ensures.goes_on h before)
