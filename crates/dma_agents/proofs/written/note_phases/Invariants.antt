use Rattle.std.proofs.Common.{◌+◌, ◌*◌, drop}
use Rattle.dma_agents.specs.Written.{phases_weigh}
use Rattle.dma_agents.proofs.WrittenLemmas.{Stands}
use Rattle.dma_agents.proofs.written.note_phases.Given as goal

-- what is noted and what is to come are all
abbrev pub invariant-loop-place : goal.invariant-loop-place
invariant-loop-place l =
    Stands (phases_weigh l.first l.alone l.phases) (phases_weigh (l.first + 4 * l.place) l.alone (drop l.place l.phases)) l.initial.written l.written
