use Rattle.board_statements.proofs.KindLemmas.{hex_below}
use Rattle.board_statements.proofs.kinds.hex_of.Goals as goal

pub returns-clause-below : goal.returns-clause-below
returns-clause-below c = hex_below c.args.word.now c.args.digits c.in_ok-hex.field-0 c.in_ok-hex.ensures
