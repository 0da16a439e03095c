-- What a valid board gives here.
use Rattle.board_model.specs.declared.board.Board.{Board}
use Rattle.board_model.specs.Valid.{IsValid}
use Rattle.board_model.specs.form_laws.Trees.{IsTree}
use Rattle.board_model.proofs.form_laws.Laws.{IsTree-valid}
use Rattle.law_lanes.specs.Depths.{DifferentNumbers}
use Rattle.law_lanes.proofs.Laws.{WellFormed-numbers}
use Rattle.law_lanes.specs.order.OnWay.{WritesHaveOneClaimant}
use Rattle.law_lanes.specs.order.Parts.{WritesAbortWhole}
use Rattle.law_lanes.proofs.order.Laws.{AbortWhole-formed, OneClaimant-formed}
use Rattle.law_bound.proofs.posted.PieceLemmas.{AllTake}
use Rattle.law_bound.proofs.posted.FormLemmas.{all_take}

-- a tree of different numbers, where writes go whole to one target, which takes something at a time
pub record Fit (board : Board) : Type 0 where
  pub tree : IsTree board
  pub distinct : DifferentNumbers board
  pub one : WritesHaveOneClaimant board
  pub whole : WritesAbortWhole board
  pub take : AllTake board

-- a valid board is so
pub Fit-valid : (board : Board) → IsValid board → Fit board
Fit-valid board valid =
    record {
      tree = IsTree-valid board valid;
      distinct = WellFormed-numbers board valid.well_formed;
      one = OneClaimant-formed board valid.well_formed;
      whole = AbortWhole-formed board valid.well_formed;
      take = all_take board valid.well_formed;
    }
