use Rattle.std.proofs.Common.{sym, ◌∙◌}
use Rattle.board_writes.specs.Stretches.{joined}
use Rattle.board_writes.proofs.StayLemmas.{raisers_beyond}
use Rattle.board_writes.proofs.polls.stays.put_run.Goals as goal

pub returns-in_ok-put_first : goal.returns-in_ok-put_first
returns-in_ok-put_first c =
    raisers_beyond c.args.table.now c.requires.ordered c.args.poll c.args.awaited (joined c.args.writes.now) c.args.run.now c.from_raising-raising.result.now c.args.found.now.items c.put_first.new.found.items
    c.requires.run c.from_raising-raising.ensures (sym c.is_first_before.ensures ∙ c.if-is_first_before.false) c.in_ok-put_first.ensures
