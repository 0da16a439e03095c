use Rattle.std.proofs.Common.{ℕ, ◌≤◌, Some}
use Rattle.std.specs.Prelude.{slice_get}
use Rattle.list_facts.proofs.TestLemmas.{list_all-get}
use Rattle.board_model.specs.WellFormed.{is_well_formed_op, is_well_formed_master}
use Rattle.board_model.proofs.Laws.{WellFormed-parts, Master-parts, op_tries}
use Rattle.law_untagged.proofs.ApartTestLemmas.{test_apart, apart_test}
use Rattle.law_untagged.proofs.apart_is_tested.Goals as goal

pub returns : goal.returns
returns c =
    λ board valid.
    let formed = WellFormed-parts board valid.well_formed in (
      test_apart board,
      apart_test board (λ place index master op is_master at.
          (op_tries op (list_all-get is_well_formed_op master.ops index op (Master-parts master (list_all-get is_well_formed_master board.masters place master formed.masters is_master)).ops at)).from),
    )
