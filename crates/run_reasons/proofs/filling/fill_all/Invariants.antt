use Rattle.judge_state.specs.Stands.{Stands}
use Rattle.run_reasons.proofs.filling.fill_all.Given as goal

-- what is kept stands for some run
abbrev pub invariant-loop-place : goal.invariant-loop-place
invariant-loop-place l = Stands l.tree l.kept
