use Rattle.run_waves.proofs.CountLemmas.{few_signals}
use Rattle.run_waves.proofs.ToldLemmas.{tells}
use Rattle.run_waves.proofs.laws.dumps_tell.Goals as goal

pub returns : goal.returns
returns c = λ board events valid. tells board events (few_signals board valid)
