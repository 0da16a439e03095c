use Rattle.std.proofs.Common.{arith}
use Rattle.dma_agents.proofs.WrittenLemmas.{value_changed}
use Rattle.dma_agents.proofs.written.Written.note_value.Goals as goal

pub returns-clause-weights : goal.returns-clause-weights
returns-clause-weights c = λ q.
    value_changed c.args.one q c.weight_of.result c.min-sum.result c.args.weight c.args.self.now.weights.entries c.insert.new.self.entries
    c.weight_of.ensures (omega (arith, c.min-sum.ensures, c.saturating_add.ensures)) (c.in_ok-insert.ensures.updates.0 q)
