use Rattle.std.proofs.Common.{rules}
use Rattle.std.proofs.lemmas.Option.{slice_get-get_or}
use Rattle.observe_log.proofs.BegunLemmas.{begun_more}
use Rattle.observe_log.proofs.told.count_begun.Goals as goal

pub loop-event-preserved : goal.loop-event-preserved
loop-event-preserved c =
    begun_more c.args.events.now c.loop-event.event-index _ c.loop-event.turns c.begin.new.turns
    (slice_get-get_or c.args.events.now c.loop-event.event-index _ c.loop-event-test.true) (c.begin.ensures (search rules)) c.loop-event.invariant
