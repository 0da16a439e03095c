use Rattle.std.proofs.Common.{drop}
use Rattle.dma_agents.specs.Written.{ops_weigh}
use Rattle.dma_agents.proofs.WrittenLemmas.{Stands}
use Rattle.dma_agents.proofs.written.note_ops.Given as goal

-- what is noted and what is to come are all
abbrev pub invariant-loop-op : goal.invariant-loop-op
invariant-loop-op l = Stands (ops_weigh l.ops) (ops_weigh (drop l.op-index l.ops)) l.initial.written l.written
