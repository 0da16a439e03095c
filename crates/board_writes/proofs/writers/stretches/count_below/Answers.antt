use Rattle.std.proofs.Common.{refl, sym, ap, ◌∙◌}
use Rattle.board_writes.specs.Stretches.{is_from}
use Rattle.board_writes.proofs.StretchLemmas.{none_below, all_below}
use Rattle.board_writes.proofs.writers.stretches.count_below.Goals as goal

pub returns-then-is_from-clause-parts : goal.returns-then-is_from-clause-parts
returns-then-is_from-clause-parts c =
    none_below c.args.bound c.args.run.now c.requires (ap (λ f. is_from f c.args.bound) (sym c.first.ensures.value) ∙ sym c.is_from.ensures ∙ c.if-is_from.true)

pub returns-else-is_from-2-clause-parts : goal.returns-else-is_from-2-clause-parts
returns-else-is_from-2-clause-parts c =
    all_below c.args.bound _ c.args.run.now c.requires (ap (λ f. is_from f c.args.bound) (sym c.last.ensures.value) ∙ sym c.is_from-else-is_from.ensures ∙ c.if-is_from-2.false) refl
