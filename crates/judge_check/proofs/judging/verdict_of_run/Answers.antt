use Rattle.std.proofs.Common.{◌≤◌, List, subst, arith}
use Rattle.std.proofs.lemmas.List.{length-reverse}
use Rattle.board_model.specs.declared.board.Board.{Board}
use Rattle.board_model.specs.Ways.{bound_of}
use Rattle.history_model.specs.declared.event.Event.{Event}
use Rattle.history_model.specs.Runs.{Complete, history_of}
use Rattle.law_delivered.specs.Laws.{LawsOfRun}
use Rattle.judge_check.proofs.LeftLemmas.{some_left}
use Rattle.judge_check.proofs.judging.verdict_of_run.Goals as goal

-- all that holds of runs of a valid board holds of this one
pub returns-then-is_complete : goal.returns-then-is_complete
returns-then-is_complete c = λ events stands.
    let board : Board = c.args.tree.now in
    let h : List Event = history_of events in
    let laws : LawsOfRun board h = c.laws_of_runs.ensures board h c.board-valid.ensures.valid stands.run in
    record {
      run = stands.run;
      complete = (c.is_complete.ensures h stands).0 c.if-is_complete.true;
      matched = laws.matched;
      fresh = laws.fresh;
      as_left = laws.as_left;
      as_held = laws.as_held;
      bound = subst (λ n. n ≤ bound_of board) (length-reverse events) laws.bounded;
    }

-- a run that goes on lowers what is left by the number of its events, and one that is not complete can go on
pub returns-else-is_complete : goal.returns-else-is_complete
returns-else-is_complete c = λ events stands.
    let board : Board = c.args.tree.now in
    let h : List Event = history_of events in
    let laws : LawsOfRun board h = c.laws_of_runs.ensures board h c.board-valid.ensures.valid stands.run in
    let incomplete : ¬ Complete board h = λ complete. (let yes = (c.is_complete.ensures h stands).1 complete in let no = c.if-is_complete.false in absurd cc) in
    let left_is = c.left.ensures h stands in
    record {
      run = stands.run;
      incomplete = incomplete;
      matched = laws.matched;
      fresh = laws.fresh;
      as_left = laws.as_left;
      as_held = laws.as_held;
      bound = subst (λ n. n ≤ bound_of board) (length-reverse events) laws.bounded;
      left_is = left_is;
      goes_on = some_left board h c.left.result laws stands.run incomplete left_is;
      follow = λ later run. omega (arith, laws.falls later run, left_is);
    }
