use Rattle.std.proofs.Common.{arith}
use Rattle.audit_landings.proofs.HitLemmas.{hits_more}
use Rattle.audit_landings.proofs.landed.record_phases.Goals as goal

-- one data phase more
pub loop-phase-preserved : goal.loop-phase-preserved
loop-phase-preserved c =
    let so = c.loop-phase.invariant in
    (hits_more c.args.op c.args.first.target c.args.first.space c.args.first.address c.loop-phase.phase-index c.loop-phase.address c.args.landed.now c.loop-phase.landed c.land.new.self so.1 so.0 c.in_ok-land.ensures, omega (arith, so.1))
