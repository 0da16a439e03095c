use Rattle.std.proofs.Common.{sym, subst, ap, ◌∙◌}
use Rattle.program_input.specs.Boards.{refusal_told, RefusesTree}
use Rattle.program_input.proofs.TreeLemmas.{refusal_is_told}
use Rattle.program_input.proofs.board.tree_of.Goals as goal

pub returns-in-Err-clause-err : goal.returns-in-Err-clause-err
returns-in-Err-clause-err c =
    subst (RefusesTree c.args.board) (sym (c.told.ensures ∙ ap refusal_told c.in-Err.ensures.refusal))
    (refusal_is_told c.args.board c.requires (λ valid. let none = c.in-Err.ensures.valid.1 valid in absurd cc))
