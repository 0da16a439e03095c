use Rattle.std.proofs.Common.{◌↔◌, sym, subst}
use Rattle.std.specs.Prelude.{IsTrue}
use Rattle.board_model.specs.declared.board.Board.{Board}
use Rattle.judge_check.specs.remaining.Now.{CompleteNow}
use Rattle.judge_check.specs.remaining.Running.{IsRunning}
use Rattle.judge_check.proofs.remaining.SameLemmas.{complete_same, running_kept}
use Rattle.judge_check.proofs.remaining.is_complete.Goals as goal

pub is_complete_on-requires : goal.is_complete_on-requires
is_complete_on-requires c =
    subst (λ (board : Board). IsRunning board c.args.kept.now) (sym c.board.ensures.value)
    (running_kept c.args.tree.now c.requires.0 c.args.kept.now c.requires.1 c.board.ensures.valid)

pub returns : goal.returns
returns c = λ h stands.
    let now = subst (λ (board : Board). IsTrue c.is_complete_on.result ↔ CompleteNow board c.args.kept.now) c.board.ensures.value c.is_complete_on.ensures in
    let same = complete_same c.args.tree.now h c.args.kept.now stands in
    (λ yes. same.0 (now.0 yes), λ complete. now.1 (same.1 complete))
