use Rattle.judge_state.specs.Stands.{Stands}
use Rattle.run_reasons.proofs.filling.arrive_on.Given as goal

-- what is kept stands for some run
abbrev pub invariant-loop : goal.invariant-loop
invariant-loop l = Stands l.tree l.kept
