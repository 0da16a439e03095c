use Rattle.std.proofs.Common.{◌≡◌, take}
use Rattle.history_model.specs.Program.{turn_of}
use Rattle.history_model.specs.Runs.{history_of}
use Rattle.plain_replay.proofs.turns.turn_of.Given as goal

-- the turn after the events so far
abbrev pub invariant-loop-event : goal.invariant-loop-event
invariant-loop-event l = l.turn ≡ turn_of l.board (history_of (take l.event-index l.before)) l.master
