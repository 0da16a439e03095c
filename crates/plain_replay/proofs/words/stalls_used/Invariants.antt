use Rattle.std.proofs.Common.{◌≡◌, ◌≤◌, take}
use Rattle.history_model.specs.Answers.{stalls_used}
use Rattle.history_model.specs.Runs.{history_of}
use Rattle.plain_replay.proofs.words.stalls_used.Given as goal

-- those of the events so far
abbrev pub invariant-loop-event : goal.invariant-loop-event
invariant-loop-event l = (l.used ≡ stalls_used (history_of (take l.event-index l.before)) l.target) × (l.used ≤ l.event-index)
