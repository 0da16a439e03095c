use Rattle.std.proofs.Common.{◌≡◌, length}
use Rattle.dma_agents.specs.Adding.{add_ops}
use Rattle.dma_agents.proofs.add.add_ops.Given as goal

-- what is added from here on is what was to be added
abbrev pub invariant-loop-alloc : goal.invariant-loop-alloc
invariant-loop-alloc l = add_ops l.sheet l.ops.items ≡ add_ops l.fn.sheet l.fn.ops.items

abbrev pub decreases-loop-alloc : goal.decreases-loop-alloc
decreases-loop-alloc l = length l.ops.items
