use Rattle.std.proofs.Common.{sym, ap, subst, ◌∙◌}
use Rattle.board_writes.specs.Looks.{TellAlike}
use Rattle.board_writes.specs.Polls.{told_at, raisers_at, poll_at}
use Rattle.board_writes.proofs.KeptLemmas.{found_poll}
use Rattle.board_writes.proofs.PollLemmas.{is_most}
use Rattle.board_writes.proofs.polls.polls.Polls.most_known.Goals as goal

pub returns : goal.returns
returns c =
    is_most c.args.tree.now c.args.table.now c.requires.table c.args.writers.now c.requires.writers c.args.op (poll_at c.args.self.now c.args.op) c.is_told-told.result c.as_slice.result.now c.in_ok-numbers.numbers.items
    (found_poll c.args.tree.now c.args.self.now c.args.op c.requires.first c.requires.polls)
    (c.is_told-told.ensures ∙ ap (told_at c.args.table.now c.args.op c.args.writers.now) c.of-poll.ensures)
    (subst (λ ws. TellAlike c.args.table.now c.args.op ws (raisers_at c.args.table.now c.args.op c.args.writers.now (poll_at c.args.self.now c.args.op))) (sym c.as_slice.ensures.value)
    (subst (λ found. TellAlike c.args.table.now c.args.op c.in_ok-raisers.raisers.items (raisers_at c.args.table.now c.args.op c.args.writers.now found)) c.of-poll.ensures c.in_ok-raisers.ensures))
    c.in_ok-numbers.ensures
