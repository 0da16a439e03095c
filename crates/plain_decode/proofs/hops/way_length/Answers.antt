use Rattle.board_tree.proofs.DecodableLemmas.{IsDecodable-valid}
use Rattle.plain_decode.proofs.hops.way_length.Goals as goal

pub way_length_in-requires : goal.way_length_in-requires
way_length_in-requires c = rw c.board.ensures.value (IsDecodable-valid c.args.tree.now c.board.ensures.valid)
