use Rattle.std.proofs.Common.{arith}
use Rattle.board_text.proofs.DigitLemmas.{hex_fits}
use Rattle.board_text.proofs.numbers.hex.Goals as goal

pub value_of-requires-clause-fits : goal.value_of-requires-clause-fits
value_of-requires-clause-fits c = grind (arith, hex_fits c.args.token.now)

pub overflow_cast-result : goal.overflow_cast-result
overflow_cast-result c = grind (arith, hex_fits c.args.token.now)
