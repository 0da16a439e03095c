use Rattle.std.proofs.Common.{◌&&◌, ap, ◌∙◌}
use Rattle.std.specs.List.{list_any}
use Rattle.board_writes.specs.Looks.{is_reached_in}
use Rattle.board_writes.specs.Polls.{raises_it}
use Rattle.board_writes.proofs.polls.kept.is_raised_anew.Goals as goal

pub returns : goal.returns
returns c = c.is_any_reached.ensures ∙ ap (λ ws. list_any (λ f. raises_it c.args.awaited f && is_reached_in c.args.table.now c.args.poll ws f) ws) c.in_ok-writes.ensures
