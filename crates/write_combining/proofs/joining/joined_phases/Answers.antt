use Rattle.std.proofs.Common.{rules, sym, ap, ◌∙◌, ◌++◌, ◌∷◌}
use Rattle.write_combining.specs.Views.{write_of}
use Rattle.write_combining.proofs.SplitLemmas.{split_merged, split_none}
use Rattle.write_combining.proofs.joining.joined_phases.Goals as goal

pub returns-then-may_merge : goal.returns-then-may_merge
returns-then-may_merge c =
    split_merged c.args.board.now (write_of c.args.earlier.now) (write_of c.args.later.now) c.in_ok-last.front.now c.in_ok-first.rest.now c.shared.result c.in_ok-last.last.now c.in_ok-first.first.now
    (search rules)
    (sym c.as_slice-before.ensures.value ∙ c.in_ok-last.ensures.cases.0)
    (sym c.as_slice-behind.ensures.value ∙ c.in_ok-first.ensures.cases.0)
    (sym c.may_merge.ensures ∙ c.if-may_merge.true)
    (c.shared.ensures ∙ ap (λ p. c.in_ok-last.front.now ++ p ∷ c.in_ok-first.rest.now) c.merged_phase.ensures)

pub returns-else-may_merge : goal.returns-else-may_merge
returns-else-may_merge c =
    split_none c.args.board.now (write_of c.args.earlier.now) (write_of c.args.later.now) c.in_ok-last.front.now c.in_ok-first.rest.now c.in_ok-last.last.now c.in_ok-first.first.now
    (search rules)
    (sym c.as_slice-before.ensures.value ∙ c.in_ok-last.ensures.cases.0)
    (sym c.as_slice-behind.ensures.value ∙ c.in_ok-first.ensures.cases.0)
    (sym c.may_merge.ensures ∙ c.if-may_merge.false)
