use Rattle.std.proofs.Common.{ap, ◌∙◌}
use Rattle.board_writes.specs.Polls.{raised_at, poll_at}
use Rattle.board_writes.proofs.KeptLemmas.{found_poll}
use Rattle.board_writes.proofs.PollLemmas.{raised_at_so}
use Rattle.board_writes.proofs.polls.polls.Polls.is_raised.Goals as goal

pub returns : goal.returns
returns c =
    λ board knows keeps lists.
    c.in_ok-raised.ensures ∙ ap (raised_at c.args.table.now c.args.op c.args.writers.now) c.of.ensures
    ∙ raised_at_so board c.args.table.now keeps c.args.writers.now lists c.args.op (poll_at c.args.self.now c.args.op) (found_poll board c.args.self.now c.args.op c.requires.first knows)
