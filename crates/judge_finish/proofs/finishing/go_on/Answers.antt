use Rattle.board_model.specs.declared.board.Board.{Board}
use Rattle.law_delivered.specs.Laws.{LawsOfRun}
use Rattle.judge_finish.proofs.GoingLemmas.{goes_on_by}
use Rattle.judge_finish.proofs.finishing.go_on.Goals as goal

pub returns : goal.returns
returns c = λ h course.
    let board : Board = c.args.tree.now in
    let laws : LawsOfRun board h = c.laws_of_runs.ensures board h c.board-valid.ensures.valid course.stands.run in
    goes_on_by board h c.go_on.result c.go_on.new.self course.stands.run laws (c.go_on.ensures.next h course) (c.go_on.ensures.goes_on h course) (c.go_on.ensures.allowed h course) (c.go_on.ensures.complete h course)
