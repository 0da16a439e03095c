use Rattle.board_tree.specs.Sites.{primaries_of}
use Rattle.board_tree.proofs.ChainLemmas.{AreLinked}
use Rattle.board_tree.proofs.sites.by_primary.Given as goal

-- the places from this one on are chained
abbrev pub invariant-loop-place : goal.invariant-loop-place
invariant-loop-place l = AreLinked l.place (primaries_of l.bridges) l.chains
