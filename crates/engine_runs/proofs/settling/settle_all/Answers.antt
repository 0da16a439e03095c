use Rattle.std.proofs.Common.{get_or, arith}
use Rattle.std.proofs.lemmas.Option.{slice_get-get_or}
use Rattle.engine_runs.specs.declared.settling.Above.{Above}
use Rattle.engine_runs.specs.Loop.{all_seen}
use Rattle.engine_runs.proofs.SettleLemmas.{settled_none, can_meet, settled_more, settled_all}
use Rattle.engine_runs.proofs.settling.settle_all.Goals as goal

pub loop-place-init : goal.loop-place-init
loop-place-init g c =
    let E = g.L.LaneEnd in
    settled_none E.had E.sent E.got E.kept E.paired g.met.L.LaneEnd.paired_both_ways (all_seen c.args.workers.now) c.args.above.now c.requires.laid c.requires.above

pub settle_one-requires : goal.settle_one-requires
settle_one-requires g c =
    let E = g.L.LaneEnd in
    let none : Above = record { worker = 0; port = 0 } in
    let up : Above = get_or c.args.above.now c.loop-place.place none in
    can_meet E.had E.sent E.got E.kept E.paired g.met.L.LaneEnd.paired_both_ways (all_seen c.args.workers.now) c.args.above.now c.requires.laid c.requires.above c.loop-place.place
    (all_seen c.loop-place.workers) up c.loop-place.invariant (slice_get-get_or c.args.above.now c.loop-place.place none c.loop-place-test.true) c.requires.may

pub loop-place-preserved : goal.loop-place-preserved
loop-place-preserved g c =
    let E = g.L.LaneEnd in
    let none : Above = record { worker = 0; port = 0 } in
    let up : Above = get_or c.args.above.now c.loop-place.place none in
    settled_more E.had E.sent E.got E.kept E.paired g.met.L.LaneEnd.paired_both_ways (all_seen c.args.workers.now) c.args.above.now c.requires.laid c.requires.above c.loop-place.place
    (all_seen c.loop-place.workers) up c.loop-place.invariant (slice_get-get_or c.args.above.now c.loop-place.place none c.loop-place-test.true) (all_seen c.settle_one.new.workers) c.settle_one.ensures

pub returns : goal.returns
returns g c =
    let E = g.L.LaneEnd in
    settled_all E.had E.sent E.got E.kept E.paired g.met.L.LaneEnd.paired_both_ways (all_seen c.args.workers.now) c.args.above.now c.requires.laid c.requires.above c.loop-place.place
    (all_seen c.loop-place.workers) (omega arith) c.loop-place.invariant
