use Rattle.std.proofs.Common.{◌≡◌, None}
use Rattle.history_model.specs.Next.{first_below}
use Rattle.judge_next.specs.Now.{act_on_now}
use Rattle.judge_next.specs.Course.{KnowsQuiet}
use Rattle.judge_next.specs.Quiet.{AreFlags}
use Rattle.judge_next.proofs.course.first_act.Given as goal

-- nothing on the buses so far; and what is known of the buses is so
abbrev pub invariant-loop-bus : goal.invariant-loop-bus
invariant-loop-bus l =
    (first_below l.bus (act_on_now l.board l.kept) ≡ None)
    × AreFlags l.quiet
    × KnowsQuiet l.board l.kept l.quiet.buses.items
