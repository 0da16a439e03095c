use Rattle.std.proofs.Common.{arith, w32}
use Rattle.std.proofs.lemmas.Nat.Bits.{bit_at-trailing_zeros}
use Rattle.bus_agents.proofs.arbiter.arbiter.lowest.Goals as goal

pub returns-clause-asks : goal.returns-clause-asks
returns-clause-asks c = (bit_at-trailing_zeros w32 c.args.lines c.requires c.ranges.lines.fits).1

pub returns-clause-least : goal.returns-clause-least
returns-clause-least c =
    λ other lower asks. omega (arith, (bit_at-trailing_zeros w32 c.args.lines c.requires c.ranges.lines.fits).2 other lower, asks)
