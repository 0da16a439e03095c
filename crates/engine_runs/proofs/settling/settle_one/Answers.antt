use Rattle.engine_runs.proofs.OneLemmas.{lower_port, may_meet, one_settled}
use Rattle.engine_runs.proofs.settling.settle_one.Goals as goal

pub settle_with-requires-clause-other_place : goal.settle_with-requires-clause-other_place
settle_with-requires-clause-other_place g c =
    let E = g.L.LaneEnd in
    lower_port E.had E.sent E.got E.kept E.paired c.args.workers.now c.args.above c.args.place c.requires c.split_at_mut-earlier.result.0.now c.split_at_mut-earlier.result.1.now
    c.split_at_mut-earlier.ensures.front c.split_at_mut-earlier.ensures.back c.index-earlier-above.result c.index-later-0.result

pub settle_with-requires-clause-may : goal.settle_with-requires-clause-may
settle_with-requires-clause-may g c =
    let E = g.L.LaneEnd in
    may_meet E.had E.sent E.got E.kept E.paired c.args.workers.now c.args.above c.args.place c.requires c.split_at_mut-earlier.result.0.now c.split_at_mut-earlier.result.1.now
    c.split_at_mut-earlier.ensures.front c.split_at_mut-earlier.ensures.back c.index-earlier-above.result c.index-later-0.result

pub returns : goal.returns
returns g c =
    let E = g.L.LaneEnd in
    let kept = c.settle_with.ensures in
    one_settled E.had E.sent E.got E.kept E.paired c.args.workers.now c.args.above c.args.place c.requires c.split_at_mut-earlier.result.0.now c.split_at_mut-earlier.result.1.now
    c.split_at_mut-earlier.ensures.front c.split_at_mut-earlier.ensures.back c.index-earlier-above.result c.index-later-0.result c.settle_with.new.self c.settle_with.new.other kept.settles
    (record { bus = kept.bus; stamp = kept.stamp; stopped = kept.stopped; events = kept.events })
    (record { bus = kept.other_bus; stamp = kept.other_stamp; stopped = kept.other_stopped; events = kept.other_events })
