use Rattle.std.proofs.Common.{◌&&◌, ap, ◌∙◌}
use Rattle.std.specs.List.{list_any}
use Rattle.board_writes.specs.Looks.{is_reached_in}
use Rattle.board_writes.specs.Polls.{raises_it}
use Rattle.board_writes.proofs.polls.kept.is_raised_for.Goals as goal

pub returns-in-Some-Some : goal.returns-in-Some-Some
returns-in-Some-Some c = c.is_any_reached.ensures ∙ ap (λ ws. list_any (λ f. raises_it c.args.awaited f && is_reached_in c.args.table.now c.args.poll ws f) ws) c.in-Some-Some.ensures

pub returns-in_ok-raised-in_default : goal.returns-in_ok-raised-in_default
returns-in_ok-raised-in_default c = c.in_ok-raised-in_default.ensures ∙ ap (λ ws. list_any (λ f. raises_it c.args.awaited f && is_reached_in c.args.table.now c.args.poll ws f) ws) c.of_word-words.ensures.at
