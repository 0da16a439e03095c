use Rattle.std.proofs.Common.{◌≡◌, true, false, refl}
use Rattle.history_model.specs.Knowledge.{one, more}
use Rattle.worked_runs.specs.Safe.{far_write, near_write}
use Rattle.worked_runs.proofs.SafeLemmas.{op}
use Rattle.worked_runs.proofs.safe.told_writes_may_land_again.Goals as goal

pub returns-clause-told : goal.returns-clause-told
returns-clause-told c = (refl, more far_write (op 1 0 0) near_write refl (one (op 1 0 0) near_write refl))

-- the third landing is of the first write, and the second was of the other
pub returns-clause-behind : goal.returns-clause-behind
returns-clause-behind c = λ none. let e : true ≡ false = none.1.1.0 refl in cc
