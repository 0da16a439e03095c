use Rattle.std.proofs.Common.{sym, ◌∙◌}
use Rattle.dma_agents.proofs.ClearLemmas.{first_alone, first_of_more}
use Rattle.dma_agents.proofs.clear.+opens_otherwise.Goals as goal

pub returns-then-some_holds : goal.returns-then-some_holds
returns-then-some_holds t c =
    first_of_more c.args.address c.args.value c.args.targets.now c.target-item.result c.some_holds.result c.in-len1-up.len_at_least c.target-item.is (sym c.holds.ensures ∙ c.if-not-holds.false) c.some_holds.ensures c.if-some_holds.true

pub returns-else-some_holds : goal.returns-else-some_holds
returns-else-some_holds t c =
    first_alone c.args.address c.args.value c.args.targets.now c.target-item.result c.opens_with_another.result c.some_holds.result c.in-len1-up.len_at_least c.target-item.is (sym c.holds.ensures ∙ c.if-not-holds.false) c.some_holds.ensures c.if-some_holds.false c.opens_with_another.ensures
