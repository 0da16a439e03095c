use Rattle.std.proofs.Common.{take, drop, refl}
use Rattle.board_writes.specs.Stretches.{joined}
use Rattle.board_writes.proofs.StayLemmas.{parted, before_stretch, before_among, last_raiser_stays, no_raiser_stays}
use Rattle.board_writes.proofs.polls.stays.staying_last.Goals as goal

pub returns-in-Some : goal.returns-in-Some
returns-in-Some c =
    last_raiser_stays c.args.table.now c.requires.ordered c.args.poll c.args.awaited (joined c.args.writes.now) (take c.args.count c.args.run.now) c.in-Some.last.now c.is_left_out.result c.one_unless.result c.in-Some.ensures c.is_left_out.ensures c.one_unless.ensures
    (before_stretch c.args.table.now c.requires.ordered c.args.poll (joined c.args.writes.now) c.args.run.now (take c.args.count c.args.run.now) (drop c.args.count c.args.run.now) c.requires.run
    (parted c.args.table.now c.args.poll c.args.run.now (take c.args.count c.args.run.now) (drop c.args.count c.args.run.now) c.args.count c.requires.before refl refl)) c.requires.before.low
    (before_among c.args.table.now c.requires.ordered c.args.poll (joined c.args.writes.now) c.args.run.now (take c.args.count c.args.run.now) (drop c.args.count c.args.run.now) c.requires.run
    (parted c.args.table.now c.args.poll c.args.run.now (take c.args.count c.args.run.now) (drop c.args.count c.args.run.now) c.args.count c.requires.before refl refl) c.requires.among)

pub returns-in-None : goal.returns-in-None
returns-in-None c = no_raiser_stays c.args.table.now c.requires.ordered c.args.poll c.args.awaited (joined c.args.writes.now) (take c.args.count c.args.run.now) c.in-None.ensures
