use Rattle.std.proofs.Common.{drop}
use Rattle.dma_agents.specs.Written.{masters_weigh}
use Rattle.dma_agents.proofs.WrittenLemmas.{Stands}
use Rattle.dma_agents.proofs.written.note_masters.Given as goal

-- what is noted and what is to come are all
abbrev pub invariant-loop-master : goal.invariant-loop-master
invariant-loop-master l = Stands (masters_weigh l.masters) (masters_weigh (drop l.master-index l.masters)) l.initial.written l.written
