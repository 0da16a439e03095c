use Rattle.std.proofs.Common.{ap, ◌∙◌}
use Rattle.board_writes.specs.Looks.{any_before}
use Rattle.board_writes.proofs.polls.kept.is_behind_some.Goals as goal

pub returns-in-Some : goal.returns-in-Some
returns-in-Some c = c.is_any_first_before.ensures ∙ ap (any_before c.args.table.now c.args.poll) (c.runs.ensures.all ∙ c.in-Some.ensures)

pub returns-in-None : goal.returns-in-None
returns-in-None c = c.is_any_before.ensures ∙ ap (any_before c.args.table.now c.args.poll) c.of_word.ensures.at
