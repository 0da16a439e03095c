use Rattle.std.proofs.Common.{arith}
use Rattle.bus_targets.proofs.PlaceLemmas.{no_place}
use Rattle.bus_targets.proofs.words.place_in.Goals as goal

pub returns-in-Err : goal.returns-in-Err
returns-in-Err c = no_place c.args.addresses.now c.args.address (λ k within same. omega (arith, c.type_inv.addresses k, same, c.in-Err.ensures))
