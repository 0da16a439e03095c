use Rattle.std.proofs.Common.{◌≤◌, ◌||◌, List, length, take, drop, refl, sym, ap, subst, ◌∙◌}
use Rattle.std.specs.List.{filter, list_any}
use Rattle.board_writes.specs.declared.writers.write.WordWrite.{WordWrite}
use Rattle.board_writes.specs.Stretches.{joined, Stretch, PartsBefore, stay, is_reached_at}
use Rattle.board_writes.specs.Polls.{raises_it}
use Rattle.board_writes.proofs.StretchLemmas.{stretch_from, filter_from}
use Rattle.board_writes.proofs.StayLemmas.{parted, beyond_stretch, raisers_reached}
use Rattle.board_writes.proofs.polls.stays.is_run_reached.Goals as goal

pub count_before-count-requires : goal.count_before-count-requires
count_before-count-requires c = subst Stretch (sym c.as_slice.ensures) c.requires.run

pub is_last_reached-requires-clause-within : goal.is_last_reached-requires-clause-within
is_last_reached-requires-clause-within c = subst (λ (ws : List WordWrite). c.count_before-count.result ≤ length ws) c.as_slice.ensures c.count_before-count.ensures.within

pub is_last_reached-requires-clause-before : goal.is_last_reached-requires-clause-before
is_last_reached-requires-clause-before c = subst (λ ws. PartsBefore c.args.table.now c.args.poll ws c.count_before-count.result) c.as_slice.ensures c.count_before-count.ensures.parts

pub from_raising-requires : goal.from_raising-requires
from_raising-requires c = subst (λ (ws : List WordWrite). c.count_before-count.result ≤ length ws) c.as_slice.ensures c.count_before-count.ensures.within

pub has_reached-requires-clause-run : goal.has_reached-requires-clause-run
has_reached-requires-clause-run c =
    subst Stretch (sym c.from_raising.ensures) (stretch_from (raises_it c.args.awaited) (drop c.count_before-count.result c.args.run.now)
    (beyond_stretch c.args.table.now c.requires.ordered c.args.poll (joined c.args.writes.now) c.args.run.now (take c.count_before-count.result c.args.run.now) (drop c.count_before-count.result c.args.run.now) c.requires.run
    (parted c.args.table.now c.args.poll c.args.run.now (take c.count_before-count.result c.args.run.now) (drop c.count_before-count.result c.args.run.now) c.count_before-count.result
    (subst (λ ws. PartsBefore c.args.table.now c.args.poll ws c.count_before-count.result) c.as_slice.ensures c.count_before-count.ensures.parts) refl refl)))

pub returns-then-has_reached : goal.returns-then-has_reached
returns-then-has_reached c =
    raisers_reached c.args.table.now c.requires.ordered c.args.poll c.args.awaited (joined c.args.writes.now) c.args.run.now (take c.count_before-count.result c.args.run.now) (drop c.count_before-count.result c.args.run.now) c.requires.run
    (parted c.args.table.now c.args.poll c.args.run.now (take c.count_before-count.result c.args.run.now) (drop c.count_before-count.result c.args.run.now) c.count_before-count.result
    (subst (λ ws. PartsBefore c.args.table.now c.args.poll ws c.count_before-count.result) c.as_slice.ensures c.count_before-count.ensures.parts) refl refl)
    c.has_reached.result c.has_reached.result
    (c.if-has_reached.true ∙ sym (ap (λ b. b || list_any (is_reached_at c.args.table.now) (stay c.args.table.now c.args.poll (joined c.args.writes.now) (filter (raises_it c.args.awaited) (take c.count_before-count.result c.args.run.now)))) c.if-has_reached.true))
    (c.has_reached.ensures ∙ ap (λ ws. list_any (is_reached_at c.args.table.now) (filter (raises_it c.args.awaited) ws)) c.from_raising.ensures ∙ ap (list_any (is_reached_at c.args.table.now)) (filter_from (raises_it c.args.awaited) (drop c.count_before-count.result c.args.run.now)))

pub returns-else-has_reached : goal.returns-else-has_reached
returns-else-has_reached c =
    raisers_reached c.args.table.now c.requires.ordered c.args.poll c.args.awaited (joined c.args.writes.now) c.args.run.now (take c.count_before-count.result c.args.run.now) (drop c.count_before-count.result c.args.run.now) c.requires.run
    (parted c.args.table.now c.args.poll c.args.run.now (take c.count_before-count.result c.args.run.now) (drop c.count_before-count.result c.args.run.now) c.count_before-count.result
    (subst (λ ws. PartsBefore c.args.table.now c.args.poll ws c.count_before-count.result) c.as_slice.ensures c.count_before-count.ensures.parts) refl refl)
    c.is_last_reached.result c.has_reached.result
    (c.is_last_reached.ensures ∙ sym (ap (λ b. b || list_any (is_reached_at c.args.table.now) (stay c.args.table.now c.args.poll (joined c.args.writes.now) (filter (raises_it c.args.awaited) (take c.count_before-count.result c.args.run.now)))) c.if-has_reached.false))
    (c.has_reached.ensures ∙ ap (λ ws. list_any (is_reached_at c.args.table.now) (filter (raises_it c.args.awaited) ws)) c.from_raising.ensures ∙ ap (list_any (is_reached_at c.args.table.now)) (filter_from (raises_it c.args.awaited) (drop c.count_before-count.result c.args.run.now)))
