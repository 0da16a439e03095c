use Rattle.std.proofs.Common.{◌∙◌}
use Rattle.board_tree.proofs.DecodableLemmas.{IsDecodable-valid}
use Rattle.safe_said.proofs.NamedLemmas.{untold_none, untold_some}
use Rattle.safe_said.proofs.polls.said_untold.Goals as goal

pub first_named-requires : goal.first_named-requires
first_named-requires c = rw c.board-board.ensures.value (IsDecodable-valid c.args.tree.now c.board-board.ensures.valid)

pub nowhere_or_loose-requires : goal.nowhere_or_loose-requires
nowhere_or_loose-requires c = rw c.board-board.ensures.value (IsDecodable-valid c.args.tree.now c.board-board.ensures.valid)

pub returns-in-None : goal.returns-in-None
returns-in-None c = λ table untold.
    untold_none c.args.tree.now table c.args.poll c.args.op.now (rw c.board-board.ensures.value at c.in-None.ensures.words)
    ∙ (rw c.board-board.ensures.value at c.nowhere_or_loose.ensures)

pub returns-in-Some : goal.returns-in-Some
returns-in-Some c = λ table untold.
    untold_some c.args.tree.now table c.args.poll c.args.op.now c.in-Some.field-0 c.requires.found c.requires.is_poll (rw c.board-board.ensures.value at c.in-Some.ensures.words) untold
