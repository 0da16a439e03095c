use Rattle.std.proofs.Common.{ap, ◌∙◌}
use Rattle.std.specs.List.{list_all}
use Rattle.board_writes.specs.Polls.{is_clean_write}
use Rattle.board_writes.proofs.polls.kept.are_clean.Goals as goal

pub returns-in-Some : goal.returns-in-Some
returns-in-Some c = c.are_clean.ensures ∙ ap (list_all (is_clean_write c.args.awaited.now)) c.in-Some.ensures

pub returns-in-None : goal.returns-in-None
returns-in-None c = c.is_each_clean.ensures ∙ ap (list_all (is_clean_write c.args.awaited.now)) c.of_word.ensures.at
