use Rattle.std.proofs.Common.{◌≡◌, None}
use Rattle.history_model.specs.Runs.{history_of}
use Rattle.history_model.specs.Next.{first_below, act_on}
use Rattle.plain_replay.proofs.acts.first_act.Given as goal

-- nothing on the buses so far
abbrev pub invariant-loop-bus : goal.invariant-loop-bus
invariant-loop-bus l = first_below l.bus (act_on l.board (history_of l.before)) ≡ None
