use Rattle.std.proofs.Common.{take}
use Rattle.history_model.specs.Runs.{history_of}
use Rattle.judge_state.specs.Stands.{StandsFor}
use Rattle.judge_state.proofs.taking.take_all.Given as goal

-- what is kept stands for the events so far
abbrev pub invariant-loop-index : goal.invariant-loop-index
invariant-loop-index l = StandsFor l.tree (history_of (take l.index l.events)) l.kept
