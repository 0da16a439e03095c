use Rattle.run_waves.proofs.ToldLemmas.{dumped}
use Rattle.run_waves.proofs.laws.dumps_are_lines.Goals as goal

pub returns : goal.returns
returns c = λ board events. dumped board events
