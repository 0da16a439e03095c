use Rattle.board_model.specs.Ways.{bound_of}
use Rattle.command_traces.proofs.draw.ShownLemmas.{ends_refused, shown_run, shown_few}
use Rattle.command_traces.proofs.draw.shown.refused_at.Goals as goal

pub returns-clause-shows : goal.returns-clause-shows
returns-clause-shows c = ends_refused c.args.tree.now c.args.events.now c.args.number c.args.why c.requires c.up_to-shown.result.now c.sentence_of-sentence.result.now c.up_to-shown.ensures c.sentence_of-sentence.ensures

pub returns-clause-run : goal.returns-clause-run
returns-clause-run c = shown_run c.args.tree.now c.args.events.now c.args.number c.args.why c.requires c.up_to-shown.result.now c.up_to-shown.ensures

pub returns-clause-few : goal.returns-clause-few
returns-clause-few c =
    shown_few c.args.tree.now c.args.events.now c.args.number c.args.why c.requires c.up_to-shown.result.now (bound_of c.args.tree.now) c.up_to-shown.ensures
    (λ h run. c.runs_end.ensures.bounded c.args.tree.now h c.board-valid.ensures.valid run) c.board-valid.ensures.valid.bound
