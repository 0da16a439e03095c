use Rattle.plain_decode.proofs.ReadBackLemmas.{AreReadBack-valid}
use Rattle.plain_decode.proofs.hops.next_hop.Goals as goal

pub claim_on-requires : goal.claim_on-requires
claim_on-requires c = rw c.board.ensures.value (AreReadBack-valid c.args.tree.now c.board.ensures.valid)
