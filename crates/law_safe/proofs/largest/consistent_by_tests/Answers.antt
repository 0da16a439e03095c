use Rattle.safe_model.proofs.largest.ConsistentLemmas.{consistent_passes, passes_consistent}
use Rattle.law_safe.proofs.largest.consistent_by_tests.Goals as goal

pub returns : goal.returns
returns c = λ board table within. (λ consistent. consistent_passes board table within consistent, λ passes. passes_consistent board table passes)
