use Rattle.std.proofs.Common.{length, ap, arith}
use Rattle.board_model.proofs.Laws.{WellFormed-parts}
use Rattle.untagged_apart.proofs.meet.bridges_of.Goals as goal

pub returns : goal.returns
returns c = let few = (WellFormed-parts c.args.board.now c.requires).bridges_fit in omega (arith, few, ap length c.as_slice.ensures)
