use Rattle.std.proofs.Common.{◌≡◌, drop}
use Rattle.dma_agents.specs.Unclear.{by_targets}
use Rattle.dma_agents.proofs.unclear.by_targets.Given as goal

-- what the targets to come say is what all say
abbrev pub invariant-loop-number : goal.invariant-loop-number
invariant-loop-number l = by_targets l.board l.flag l.number (drop l.number l.targets) ≡ by_targets l.board l.flag 0 l.targets
