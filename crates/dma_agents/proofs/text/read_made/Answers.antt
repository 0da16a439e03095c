use Rattle.std.proofs.Common.{sym, subst, ◌∙◌}
use Rattle.dma_agents.specs.Made.{Tells}
use Rattle.dma_agents.proofs.MakeLemmas.{whole_text}
use Rattle.dma_agents.proofs.text.read_made.Goals as goal

pub returns : goal.returns
returns c =
    let whole = whole_text c.args.bytes.now c.in-Some.at c.in-Ok.found c.in_ok-sheet.sheet c.master_count-first.result c.from_vec.result c.in_ok-making.making c.in-Some.ensures.found c.in-Ok.ensures.found c.in_ok-sheet.ensures c.master_count-first.ensures (c.from_vec.ensures ∙ c.new.ensures.items) c.in_ok-making.ensures in
    subst (Tells c.with_clear_flags.result) (sym whole) c.with_clear_flags.ensures
