use Rattle.std.proofs.Common.{◌≤◌, List, length, take, drop, refl, sym, subst}
use Rattle.board_writes.specs.declared.writers.write.WordWrite.{WordWrite}
use Rattle.board_writes.specs.Stretches.{joined, Stretch, PartsBefore}
use Rattle.board_writes.proofs.StayLemmas.{parted, raisers_in}
use Rattle.board_writes.proofs.polls.stays.staying_in.Goals as goal

pub count_before-count-requires : goal.count_before-count-requires
count_before-count-requires c = subst Stretch (sym c.as_slice.ensures) c.requires.run

pub staying_last-requires-clause-within : goal.staying_last-requires-clause-within
staying_last-requires-clause-within c = subst (λ (ws : List WordWrite). c.count_before-count.result ≤ length ws) c.as_slice.ensures c.count_before-count.ensures.within

pub staying_last-requires-clause-before : goal.staying_last-requires-clause-before
staying_last-requires-clause-before c = subst (λ ws. PartsBefore c.args.table.now c.args.poll ws c.count_before-count.result) c.as_slice.ensures c.count_before-count.ensures.parts

pub returns : goal.returns
returns c =
    raisers_in c.args.table.now c.requires.ordered c.args.poll c.args.awaited (joined c.args.writes.now) c.args.run.now (take c.count_before-count.result c.args.run.now) (drop c.count_before-count.result c.args.run.now) c.requires.run
    (parted c.args.table.now c.args.poll c.args.run.now (take c.count_before-count.result c.args.run.now) (drop c.count_before-count.result c.args.run.now) c.count_before-count.result
    (subst (λ ws. PartsBefore c.args.table.now c.args.poll ws c.count_before-count.result) c.as_slice.ensures c.count_before-count.ensures.parts) refl refl)
    c.staying_last.result c.staying_last.ensures
