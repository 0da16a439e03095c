use Rattle.law_untagged.proofs.clocks.ToldLemmas.{told_reaches}
use Rattle.law_untagged.proofs.clocks.told_by_clocks.Goals as goal

pub returns : goal.returns
returns c = λ board later e h ending reading w run writes ends read. told_reaches board later e h ending reading w run writes ends read
