use Rattle.run_waves.proofs.WidthLemmas.{numbers_fit}
use Rattle.run_waves.proofs.laws.widths_fit.Goals as goal

pub returns : goal.returns
returns c = λ board events valid run. numbers_fit board events valid run
