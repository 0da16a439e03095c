use Rattle.std.proofs.Common.{subst}
use Rattle.board_tree.specs.Sites.{AreKnown}
use Rattle.board_tree.proofs.claims.claim_with.Goals as goal

pub claim_by_sites-requires-clause-sites : goal.claim_by_sites-requires-clause-sites
claim_by_sites-requires-clause-sites c = subst (AreKnown c.args.board.now) c.in-Some.is c.requires.sites
