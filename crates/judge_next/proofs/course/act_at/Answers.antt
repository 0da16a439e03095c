use Rattle.std.proofs.Common.{◌≡◌, None, subst, sym, ◌∙◌}
use Rattle.judge_next.specs.Now.{act_on_now}
use Rattle.judge_next.specs.Course.{KnowsQuiet}
use Rattle.judge_next.proofs.CourseLemmas.{hushed}
use Rattle.judge_next.proofs.course.act_at.Goals as goal

pub returns-then-knows-clause-value : goal.returns-then-knows-clause-value
returns-then-knows-clause-value c = sym (c.requires.known c.args.bus (c.knows.ensures c.if-knows.true))

-- a bus on which there is no act is known to be quiet
pub returns-then-knows-clause-known : goal.returns-then-knows-clause-known
returns-then-knows-clause-known c =
    let none : act_on_now c.args.board.now c.args.kept.now c.args.bus ≡ None = c.requires.known c.args.bus (c.knows.ensures c.if-knows.true) in
    subst (KnowsQuiet c.args.board.now c.args.kept.now) (sym c.mark.ensures.marked)
    (hushed c.args.board.now c.args.kept.now c.args.quiet.now.buses.items c.args.bus c.requires.known none)

pub returns-in-None-clause-known : goal.returns-in-None-clause-known
returns-in-None-clause-known c =
    let none : act_on_now c.args.board.now c.args.kept.now c.args.bus ≡ None = sym c.act_on.ensures ∙ c.in-None.is in
    subst (KnowsQuiet c.args.board.now c.args.kept.now) (sym c.mark-in-None.ensures.marked)
    (hushed c.args.board.now c.args.kept.now c.args.quiet.now.buses.items c.args.bus c.requires.known none)
