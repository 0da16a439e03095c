use Rattle.std.proofs.Common.{arith}
use Rattle.worked_runs.specs.Relay.{second_write, first_flag}
use Rattle.worked_runs.proofs.RelayLemmas.{stays_on}
use Rattle.worked_runs.proofs.relay_goes_one_way.Goals as goal

pub returns : goal.returns
returns c = λ told. let back = stays_on second_write first_flag told.1 (omega arith) in omega (arith, back)
