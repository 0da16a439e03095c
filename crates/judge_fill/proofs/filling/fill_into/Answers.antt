use Rattle.std.proofs.Common.{Result, Ok, Err, List}
use Rattle.std.specs.Prelude.{OnOk}
use Rattle.board_model.specs.declared.board.Board.{Board}
use Rattle.history_model.specs.declared.event.Event.{Event}
use Rattle.judge_fill.specs.declared.unfilled.Unfilled.{Unfilled}
use Rattle.judge_fill.specs.Filling.{PlacedEarly, Fills}
use Rattle.judge_fill.proofs.PlacedLemmas.{fills}
use Rattle.history_model.specs.Runs.{history_of}
use Rattle.judge_fill.proofs.filling.fill_into.Goals as goal

pub returns-clause-ok : goal.returns-clause-ok
returns-clause-ok c =
    let board : Board = c.args.tree.now in
    let events : List Event = c.args.events.now in
    let whole : List Event = c.take_acts.new.whole.items in
    let P : Result (Unit {0}) Unfilled → Type 0 = λ r. OnOk r (PlacedEarly board events whole) → OnOk r (Fills board events whole) in
    (elim c.take_acts.result as P [
      | Ok done ↦ λ placed. fills board events whole c.board-valid.ensures.valid (c.runs_end.ensures.bounded board (history_of whole) c.board-valid.ensures.valid placed.run) placed
      | Err why ↦ λ _. tt
    ]) c.take_acts.ensures.ok
