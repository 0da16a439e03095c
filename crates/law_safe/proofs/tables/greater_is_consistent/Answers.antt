use Rattle.safe_model.proofs.tables.TableLemmas.{greater_consistent}
use Rattle.law_safe.proofs.tables.greater_is_consistent.Goals as goal

pub returns : goal.returns
returns c = λ board a b of_a of_b. greater_consistent board a b of_a of_b
