use Rattle.std.proofs.Common.{◌∙◌}
use Rattle.command_traces.proofs.waves.AnswerLemmas.{dumped}
use Rattle.command_traces.proofs.waves.answer.answer_waves.Goals as goal

pub returns-in-Ok-clause-ok : goal.returns-in-Ok-clause-ok
returns-in-Ok-clause-ok c =
    let read = c.in_ok-tree.field-0 in
    let reads = c.in_ok-tree.ensures.ok in
    dumped c.args.input.now read c.as_slice.result.now c.into_vec.result.items reads c.as_slice.ensures (c.into_vec.ensures ∙ c.in-Ok.ensures)
    (c.dumps_are_lines.ensures read.tree read.events) (c.dumps_tell.ensures read.tree read.events reads.valid) (c.widths_fit.ensures read.tree read.events reads.valid reads.run)
