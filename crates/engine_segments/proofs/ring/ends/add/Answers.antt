use Rattle.std.proofs.Common.{Vec, Global, List}
use Rattle.lane_ends.specs.declared.ring.ring_end.RingEnd.{RingEnd}
use Rattle.engine_segments.proofs.ring.PairLemmas.{add_is}
use Rattle.engine_segments.proofs.ring.ends.add.Goals as goal

pub returns : goal.returns
returns c =
    let items : Vec RingEnd Global → List RingEnd = λ at. at.items in
    add_is items c.args.ends.now.items c.args.place c.index_mut.result.now c.push.new.self c.args.end c.requires c.index_mut.ensures.value c.in_ok-push.ensures.items
