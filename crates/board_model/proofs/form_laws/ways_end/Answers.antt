use Rattle.board_model.proofs.form_laws.EndLemmas.{WayEnds-tree, rank-falls}
use Rattle.board_model.proofs.form_laws.ValidLemmas.{IsTree-valid}
use Rattle.board_model.proofs.form_laws.ways_end.Goals as goal

pub returns : goal.returns
returns c =
    record {
      ends = λ board op on tree. WayEnds-tree board op tree on;
      rank_falls = rank-falls;
      of_valid = IsTree-valid;
    }
