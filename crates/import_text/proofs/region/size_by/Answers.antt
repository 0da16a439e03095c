use Rattle.std.proofs.Common.{arith}
use Rattle.import_text.proofs.DigitLemmas.{decimal_fits}
use Rattle.import_text.proofs.region.size_by.Goals as goal

pub decimal-requires : goal.decimal-requires
decimal-requires c = grind (arith, decimal_fits c.args.digits.now)
