use Rattle.std.proofs.Common.{take}
use Rattle.history_model.specs.Runs.{history_of}
use Rattle.draw_told.specs.Kept.{TellsEnds, TellsTouches}
use Rattle.draw_told.proofs.told.note_all.Given as goal

-- what was noted down of the events so far
abbrev pub invariant-loop-before : goal.invariant-loop-before
invariant-loop-before l = record {
  ends : TellsEnds (history_of (take l.before l.events)) l.ends;
  landed : TellsTouches l.board (history_of (take l.before l.events)) l.landed;
}
