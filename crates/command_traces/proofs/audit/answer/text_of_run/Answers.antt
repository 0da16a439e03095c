use Rattle.std.proofs.Common.{List, ◌∙◌}
use Rattle.board_model.specs.declared.board.Board.{Board}
use Rattle.history_model.specs.declared.event.Event.{Event}
use Rattle.history_model.specs.Runs.{history_of}
use Rattle.command_traces.proofs.audit.answer.text_of_run.Goals as goal

pub returns-in-Ok-clause-ok : goal.returns-in-Ok-clause-ok
returns-in-Ok-clause-ok c =
    let board : Board = c.args.tree.now in
    let events : List Event = c.args.events.now in
    let h : List Event = history_of events in
    let valid = c.board-valid.ensures.valid in
    record {
      run = c.requires;
      fresh = c.runs_are_fresh.ensures board h valid c.requires;
      as_left = c.reads_return_what_was_left.ensures.left board h valid c.requires;
      as_held = c.reads_return_what_was_left.ensures.held board h valid c.requires;
      written = c.into_vec.ensures ∙ c.in-Ok.ensures;
      sound = c.findings_are_so.ensures board h valid c.requires;
      complete = c.reads_that_knew_are_found.ensures board h valid c.requires;
      once = c.reads_are_found_once.ensures board h valid c.requires;
    }
