use Rattle.std.proofs.Common.{arith}
use Rattle.lane_ends.proofs.ring.RingLemmas.{looked_in_order, looked_left}
use Rattle.lane_ends.proofs.ring.ring_end.RingEndLaneEnd.settle.Goals as goal

pub cross-requires-clause-fits : goal.cross-requires-clause-fits
cross-requires-clause-fits c =
    let a = c.args.a.now in
    let b = c.args.b.now in
    let fits = c.requires.fits (looked_in_order a.outward b.inward c.look.new.near c.look.new.far c.look.ensures)
    (looked_in_order b.outward a.inward c.look-2.new.near c.look-2.new.far c.look-2.ensures) in
    omega (arith, fits.0, looked_left a.outward b.inward c.look.new.near c.look.new.far c.look.ensures)

pub cross-requires-2-clause-fits : goal.cross-requires-2-clause-fits
cross-requires-2-clause-fits c =
    let a = c.args.a.now in
    let b = c.args.b.now in
    let fits = c.requires.fits (looked_in_order a.outward b.inward c.look.new.near c.look.new.far c.look.ensures)
    (looked_in_order b.outward a.inward c.look-2.new.near c.look-2.new.far c.look-2.ensures) in
    omega (arith, fits.1, looked_left b.outward a.inward c.look-2.new.near c.look-2.new.far c.look-2.ensures)
