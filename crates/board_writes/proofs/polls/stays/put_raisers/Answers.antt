use Rattle.board_writes.specs.Stretches.{joined}
use Rattle.board_writes.proofs.StretchLemmas.{stretch_at}
use Rattle.board_writes.proofs.StayLemmas.{none_told, told_on, told_ended, told_enough, told_all, among_at}
use Rattle.std.proofs.Common.{◌+◌, refl, subst}
use Rattle.board_writes.specs.Looks.{TellsNothing}
use Rattle.board_writes.proofs.polls.stays.put_raisers.Goals as goal

pub loop-place-init : goal.loop-place-init
loop-place-init c = none_told c.args.table.now c.requires.ordered c.args.poll c.args.awaited (joined c.args.writes.now) c.args.raising.now c.args.found.now.items c.requires.none

pub put_run-requires-clause-run : goal.put_run-requires-clause-run
put_run-requires-clause-run c = stretch_at c.args.raising.now c.loop-place.place c.index-raising-place.result c.index-raising-place.result c.loop-place-test.true c.index-raising-place.is refl c.requires.raising

pub put_run-requires-clause-among : goal.put_run-requires-clause-among
put_run-requires-clause-among c = among_at (joined c.args.writes.now) c.args.raising.now c.loop-place.place c.index-raising-place.result c.index-raising-place.result c.loop-place-test.true c.index-raising-place.is refl c.requires.among

pub loop-place-preserved : goal.loop-place-preserved
loop-place-preserved c =
    told_on c.args.table.now c.requires.ordered c.args.poll c.args.awaited (joined c.args.writes.now) c.args.raising.now c.loop-place.place c.index-raising-place.result c.index-raising-place.result c.loop-place.found.items c.put_run.new.found.items c.in_ok-ended.ended
    c.loop-place-test.true c.index-raising-place.is refl c.in_ok-ended.ensures c.if-ended.false c.loop-place.invariant

pub returns-then-ended : goal.returns-then-ended
returns-then-ended c =
    told_ended c.args.table.now c.requires.ordered c.args.poll c.args.awaited (joined c.args.writes.now) c.args.raising.now c.loop-place.place c.index-raising-place.result c.index-raising-place.result c.loop-place.found.items c.put_run.new.found.items c.in_ok-ended.ended
    c.loop-place-test.true c.index-raising-place.is refl c.in_ok-ended.ensures c.if-ended.true

pub returns : goal.returns
returns c = told_all c.args.table.now c.requires.ordered c.args.poll c.args.awaited (joined c.args.writes.now) c.args.raising.now c.loop-place.place c.loop-place.found.items c.loop-place-test.false c.loop-place.invariant

pub returns-then-are_enough : goal.returns-then-are_enough
returns-then-are_enough c =
    told_enough c.args.table.now c.requires.ordered c.args.poll c.args.awaited (joined c.args.writes.now) c.args.raising.now (c.loop-place.place + 1) c.put_run.new.found.items
    (subst (TellsNothing c.args.table.now c.args.poll) c.as_slice.ensures.value (c.are_enough.ensures c.if-are_enough.true))
    (told_on c.args.table.now c.requires.ordered c.args.poll c.args.awaited (joined c.args.writes.now) c.args.raising.now c.loop-place.place c.index-raising-place.result c.index-raising-place.result c.loop-place.found.items c.put_run.new.found.items c.in_ok-ended.ended
    c.loop-place-test.true c.index-raising-place.is refl c.in_ok-ended.ensures c.if-ended.false c.loop-place.invariant)
