use Rattle.std.proofs.Common.{◌∙◌}
use Rattle.board_writes.proofs.StretchLemmas.{firsts_are}
use Rattle.board_writes.proofs.polls.stays.is_any_first_before.Goals as goal

pub returns : goal.returns
returns c = c.has_first_before.ensures ∙ firsts_are c.args.table.now c.args.poll c.args.runs.now c.requires
