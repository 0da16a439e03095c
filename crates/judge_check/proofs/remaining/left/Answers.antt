use Rattle.std.proofs.Common.{ap, ◌∙◌, sym, subst}
use Rattle.board_model.specs.declared.board.Board.{Board}
use Rattle.judge_check.specs.remaining.Now.{left_now}
use Rattle.judge_check.specs.remaining.Running.{IsRunning}
use Rattle.judge_check.proofs.remaining.SameLemmas.{left_same, running_kept}
use Rattle.judge_check.proofs.remaining.left.Goals as goal

pub left_on-requires : goal.left_on-requires
left_on-requires c =
    subst (λ (board : Board). IsRunning board c.args.kept.now) (sym c.board.ensures.value)
    (running_kept c.args.tree.now c.requires.0 c.args.kept.now c.requires.1 c.board.ensures.valid)

pub returns : goal.returns
returns c = λ h stands.
    c.left_on.ensures ∙ (ap (λ (board : Board). left_now board c.args.kept.now) c.board.ensures.value ∙ left_same c.args.tree.now h c.args.kept.now stands)
