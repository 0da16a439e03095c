use Rattle.std.proofs.Common.{◌≡◌, ◌*◌, ◌≤◌, take}
use Rattle.history_model.specs.Words.{through}
use Rattle.history_model.specs.Runs.{history_of}
use Rattle.plain_replay.proofs.words.through.Given as goal

-- those of the events so far
abbrev pub invariant-loop-event : goal.invariant-loop-event
invariant-loop-event l = (l.phases ≡ through (history_of (take l.event-index l.before)) l.op) × (l.phases ≤ 255 * l.event-index)
