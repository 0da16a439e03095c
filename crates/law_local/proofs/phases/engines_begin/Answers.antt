use Rattle.law_local.proofs.phases.EngineLemmas.{engine_first}
use Rattle.law_local.proofs.phases.engines_begin.Goals as goal

pub returns : goal.returns
returns c = engine_first
