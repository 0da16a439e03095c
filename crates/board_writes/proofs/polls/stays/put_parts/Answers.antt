use Rattle.std.proofs.Common.{◌≤◌, ◌++◌, List, length, take, drop, refl, sym, ap, subst, ◌∙◌}
use Rattle.board_writes.specs.declared.writers.write.WordWrite.{WordWrite}
use Rattle.board_writes.specs.Stretches.{joined, Stretch, PartsBefore, first_in}
use Rattle.board_writes.specs.Polls.{raises_it}
use Rattle.board_writes.proofs.StretchLemmas.{first_from}
use Rattle.board_writes.proofs.StayLemmas.{parted, raisers_ended, raisers_go_on}
use Rattle.board_writes.proofs.polls.stays.put_parts.Goals as goal

pub count_before-count-requires : goal.count_before-count-requires
count_before-count-requires c = subst Stretch (sym c.as_slice.ensures) c.requires.run

pub staying_last-requires-clause-within : goal.staying_last-requires-clause-within
staying_last-requires-clause-within c = subst (λ (ws : List WordWrite). c.count_before-count.result ≤ length ws) c.as_slice.ensures c.count_before-count.ensures.within

pub staying_last-requires-clause-before : goal.staying_last-requires-clause-before
staying_last-requires-clause-before c = subst (λ ws. PartsBefore c.args.table.now c.args.poll ws c.count_before-count.result) c.as_slice.ensures c.count_before-count.ensures.parts

pub from_raising-requires : goal.from_raising-requires
from_raising-requires c = subst (λ (ws : List WordWrite). c.count_before-count.result ≤ length ws) c.as_slice.ensures c.count_before-count.ensures.within

pub returns-in_ok-push-in-Some : goal.returns-in_ok-push-in-Some
returns-in_ok-push-in-Some c =
    raisers_ended c.args.table.now c.requires.ordered c.args.poll c.args.awaited (joined c.args.writes.now) c.args.run.now (take c.count_before-count.result c.args.run.now) (drop c.count_before-count.result c.args.run.now) c.requires.run
    (parted c.args.table.now c.args.poll c.args.run.now (take c.count_before-count.result c.args.run.now) (drop c.count_before-count.result c.args.run.now) c.count_before-count.result
    (subst (λ ws. PartsBefore c.args.table.now c.args.poll ws c.count_before-count.result) c.as_slice.ensures c.count_before-count.ensures.parts) refl refl)
    c.in-Some.last c.args.found.now.items c.push.new.self.items c.in-Some.ensures c.in_ok-push-in-Some.ensures.items

pub returns-in_ok-put_first-in-None : goal.returns-in_ok-put_first-in-None
returns-in_ok-put_first-in-None c =
    raisers_go_on c.args.table.now c.requires.ordered c.args.poll c.args.awaited (joined c.args.writes.now) c.args.run.now (take c.count_before-count.result c.args.run.now) (drop c.count_before-count.result c.args.run.now) c.requires.run
    (parted c.args.table.now c.args.poll c.args.run.now (take c.count_before-count.result c.args.run.now) (drop c.count_before-count.result c.args.run.now) c.count_before-count.result
    (subst (λ ws. PartsBefore c.args.table.now c.args.poll ws c.count_before-count.result) c.as_slice.ensures c.count_before-count.ensures.parts) refl refl)
    c.args.found.now.items c.put_first.new.found.items c.in-None.ensures
    (c.in_ok-put_first-in-None.ensures ∙ ap (λ ws. c.args.found.now.items ++ first_in ws) c.from_raising.ensures ∙ ap (λ ws. c.args.found.now.items ++ ws) (first_from (raises_it c.args.awaited) (drop c.count_before-count.result c.args.run.now)))
