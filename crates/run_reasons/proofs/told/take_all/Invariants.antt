use Rattle.std.proofs.Common.{◌≡◌, List, length}
use Rattle.history_model.specs.declared.event.Event.{Event}
use Rattle.history_model.specs.declared.rule.Rule.{Rule}
use Rattle.judge_state.specs.Stands.{StandsForBy}
use Rattle.run_reasons.proofs.told.take_all.Given as goal

-- what is kept stands for a run of as many events
abbrev pub invariant-loop-place : goal.invariant-loop-place
invariant-loop-place l = (rule : Rule) × (h : List Event) × StandsForBy rule l.tree h l.kept × (length h ≡ l.place)
