use Rattle.std.proofs.Common.{take}
use Rattle.history_model.specs.Runs.{history_of}
use Rattle.judge_next.specs.Course.{IsCourse}
use Rattle.judge_fill.specs.Filling.{PlacedEarly}
use Rattle.judge_fill.proofs.filling.take_acts.Given as goal

-- the acts so far, with all arrivals behind each
abbrev pub invariant-loop-index : goal.invariant-loop-index
invariant-loop-index l = PlacedEarly l.tree (take l.index l.events) l.whole.items × IsCourse l.tree (history_of l.whole.items) l.course
