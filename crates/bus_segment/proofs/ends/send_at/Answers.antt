use Rattle.std.proofs.Common.{Option, sym, subst, arith}
use Rattle.bus_core.specs.declared.given.Sent.{Sent}
use Rattle.bus_segment.specs.Ends.{SendsAt}
use Rattle.bus_segment.proofs.EndLemmas.{sends_nowhere}
use Rattle.bus_segment.proofs.ends.send_at.Goals as goal

pub returns-else-sent-ends : goal.returns-else-sent-ends
returns-else-sent-ends g c =
    let E = g.L.LaneEnd in
    subst (λ (sent : Option Sent). SendsAt E.had E.sent E.got E.paired c.args.ends.now sent c.args.ends.now) (sym c.in-Some.is)
    (sends_nowhere E.had E.sent E.got E.paired c.args.ends.now c.in-Some.sent (λ within. omega (arith, within, c.if-sent-ends.false)))
