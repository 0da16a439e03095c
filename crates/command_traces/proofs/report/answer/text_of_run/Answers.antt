use Rattle.std.proofs.Common.{List, subst, ◌∙◌}
use Rattle.board_model.specs.declared.board.Board.{Board}
use Rattle.board_model.specs.Fits.{BoardFits}
use Rattle.board_model.specs.Valid.{IsValid}
use Rattle.history_model.specs.declared.event.Event.{Event}
use Rattle.history_model.specs.Runs.{history_of}
use Rattle.command_traces.proofs.report.CountLemmas.{reports_run}
use Rattle.command_traces.proofs.report.answer.text_of_run.Goals as goal

pub returns-in-Ok-clause-ok : goal.returns-in-Ok-clause-ok
returns-in-Ok-clause-ok c =
    let board : Board = c.args.tree.now in
    let events : List Event = c.args.events.now in
    let h : List Event = history_of events in
    let valid : IsValid board = c.board-board.ensures.valid in
    let fits : BoardFits board = subst BoardFits c.board-board.ensures.value c.board_fits.ensures in
    let fresh = c.runs_are_fresh.ensures board h valid c.requires in
    let left = c.reads_return_what_was_left.ensures.left board h valid c.requires in
    let held = c.reads_return_what_was_left.ensures.held board h valid c.requires in
    let written = c.into_vec.ensures ∙ c.in-Ok.ensures in
    reports_run board events c.into_vec.result.items valid c.requires fresh left held written (c.counts_add_up.ensures board h valid fits c.requires)
