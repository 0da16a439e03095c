use Rattle.std.proofs.Common.{◌≡◌, List, Vec, Global, length, map, arith, ◌∙◌}
use Rattle.engine_segments.specs.First.{buses_of}
use Rattle.lane_ends.specs.declared.ring.ring_end.RingEnd.{RingEnd}
use Rattle.engine_segments.proofs.ring.PairLemmas.{lists_more, no_lists_at}
use Rattle.engine_segments.proofs.ring.RingLemmas.{rings_none}
use Rattle.engine_segments.proofs.ring.ends.no_ends.Goals as goal

pub loop-bus-preserved : goal.loop-bus-preserved
loop-bus-preserved c =
    let items : Vec RingEnd Global → List RingEnd = λ at. at.items in
    lists_more items c.loop-bus.ends.items c.push.new.self.items c.new.result c.loop-bus._bus c.loop-bus.invariant c.new.ensures.items c.in_ok-push.ensures.items

pub returns : goal.returns
returns c =
    let items : Vec RingEnd Global → List RingEnd = λ at. at.items in
    let all : c.loop-bus._bus ≡ length (buses_of c.args.board.now) = omega (arith, c.requires) in
    rings_none c.args.board.now (map items c.loop-bus.ends.items) (c.loop-bus.invariant ∙ no_lists_at c.loop-bus._bus (buses_of c.args.board.now) all)
