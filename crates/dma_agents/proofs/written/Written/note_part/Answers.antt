use Rattle.std.proofs.Common.{eqb, ◌∙◌}
use Rattle.dma_agents.specs.Written.{is_noted}
use Rattle.dma_agents.proofs.WrittenLemmas.{also_noted}
use Rattle.dma_agents.proofs.written.Written.note_part.Goals as goal

pub returns-clause-parts : goal.returns-clause-parts
returns-clause-parts c = λ q. c.in_ok-insert.ensures.updates.0 q ∙ also_noted (eqb c.args.address q) (is_noted c.args.self.now.parts.keys q)
