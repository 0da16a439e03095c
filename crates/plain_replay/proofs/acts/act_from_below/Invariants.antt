use Rattle.std.proofs.Common.{◌≡◌, None}
use Rattle.history_model.specs.Runs.{history_of}
use Rattle.history_model.specs.Next.{first_below, up_from, given_on, act_of_lane}
use Rattle.plain_replay.proofs.acts.act_from_below.Given as goal

-- nothing of the bridges so far
abbrev pub invariant-loop-child : goal.invariant-loop-child
invariant-loop-child l = first_below l.child (λ child. given_on l.board l.bus (act_of_lane l.board (history_of l.before) l.bus) (up_from child)) ≡ None
