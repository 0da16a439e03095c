use Rattle.run_report.proofs.AddingLemmas.{adds_up}
use Rattle.run_report.proofs.sums.counts_add_up.Goals as goal

pub returns : goal.returns
returns c = λ board h valid fits run. adds_up board h valid fits run
