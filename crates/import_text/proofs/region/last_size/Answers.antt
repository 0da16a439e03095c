use Rattle.std.proofs.Common.{arith}
use Rattle.std.proofs.lemmas.Grind.{common_steps}
use Rattle.import_text.proofs.ListLemmas.{or_else_later}
use Rattle.import_text.proofs.region.last_size.Goals as goal

pub loop-left-preserved : goal.loop-left-preserved
loop-left-preserved c = grind (arith, common_steps, or_else_later)
