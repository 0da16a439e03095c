use Rattle.std.proofs.Common.{ap, ◌∙◌}
use Rattle.board_model.specs.declared.board.Board.{Board}
use Rattle.board_outline.specs.Outline.{outline_text}
use Rattle.command_boards.proofs.tree.answer.answer_tree.Goals as goal

pub returns-in-Ok-clause-ok : goal.returns-in-Ok-clause-ok
returns-in-Ok-clause-ok c =
    record {
      board = c.in_ok-tree.tree;
      reads = c.in_ok-tree.ensures.ok;
      written = c.into_vec.ensures ∙ (c.in-Ok.ensures ∙ ap (λ (b : Board). outline_text b) c.board.ensures.value);
    }
