use Rattle.std.proofs.Common.{arith}
use Rattle.board_text.proofs.DigitLemmas.{decimal_fits}
use Rattle.board_text.proofs.numbers.decimal.Goals as goal

pub value_of-requires-clause-fits : goal.value_of-requires-clause-fits
value_of-requires-clause-fits c = grind (arith, decimal_fits c.args.token.now)
