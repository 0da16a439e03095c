use Rattle.std.proofs.Common.{◌≡◌, ◌+◌, max, Option, Some, IfSome, ap, sym, subst, ◌∙◌}
use Rattle.bus_core.specs.port.Port.{PortView}
use Rattle.bus_core.specs.Bus.{BusView}
use Rattle.bus_core.specs.Serves.{BusArrives}
use Rattle.bus_core.proofs.ListLemmas.{get_map}
use Rattle.bus_segment.proofs.DoesLemmas.{there_at}
use Rattle.bus_segment.proofs.TakeLemmas.{took}
use Rattle.bus_segment.proofs.segment.Segment.take.Goals as goal

pub returns-in-Some-clause-takes : goal.returns-in-Some-clause-takes
returns-in-Some-clause-takes g c =
    let E = g.L.LaneEnd in
    let port = there_at c.args.self.now.bus.ports c.args.place c.requires.place in
    let lane : c.lane_of-lane.result ≡ port.0.lane = subst (λ (found : Option PortView). IfSome found (λ one. c.lane_of-lane.result ≡ one.lane)) port.1 c.lane_of-lane.ensures in
    let there = get_map (λ (x : PortView). x.lane) c.args.self.now.bus.ports c.args.place port.0 port.1 ∙ ap Some (sym lane) in
    let arrives = subst (λ (s : BusView). BusArrives c.args.board.now c.args.place c.args.self.now.bus c.args.item c.in-Some.arrival.mark c.in-Some.arrival.back s) (sym c.arrived.ensures.bus) c.in-Some.ensures.arrives in
    let later = c.max-later.ensures ∙ ap (λ n. max c.args.self.now.stamp (n + 1)) c.stamp_of-sent.ensures in
    took E.had E.sent E.got E.kept E.paired c.args.board.now c.args.place c.args.item c.args.self.now.bus c.arrived.new.self.bus c.args.self.now.stamp c.max-later.result c.arrived.new.self.stamp c.arrived.new.self.stopped c.lane_of-lane.result
    c.in-Some.arrival.mark c.in-Some.arrival.back c.args.self.now.ends.items c.arrived.new.self.ends.items c.args.self.now.events.items c.arrived.new.self.events.items there arrives c.in-Some.ensures.stamped later c.arrived.ensures.keeps
