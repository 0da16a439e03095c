use Rattle.std.proofs.Common.{Option, Ok, sym, ap, subst, ◌∙◌}
use Rattle.dma_agents.specs.declared.line.DeviceLine.{DeviceLine}
use Rattle.dma_agents.specs.Adding.{Adds}
use Rattle.dma_agents.proofs.SaidLemmas.{by_said, line_said}
use Rattle.dma_agents.proofs.making.line_read.Goals as goal

pub returns-in-Ok-Some : goal.returns-in-Ok-Some
returns-in-Ok-Some c =
    let said = line_said c.args.making c.args.number c.args.line.now ∙ ap (by_said c.args.making c.args.number) (sym c.said_by.ensures ∙ c.in-Ok-Some.is) ∙ ap (λ (line : Option DeviceLine). by_said c.args.making c.args.number (Ok line)) c.in-Ok-Some.field-0-is in
    subst (Adds c.with_line.result) (sym said) c.with_line.ensures
