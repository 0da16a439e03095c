use Rattle.board_tree.specs.Sites.{secondaries_of}
use Rattle.board_tree.proofs.ChainLemmas.{AreLinked}
use Rattle.board_tree.proofs.sites.by_secondary.Given as goal

-- the places from this one on are chained
abbrev pub invariant-loop-place : goal.invariant-loop-place
invariant-loop-place l = AreLinked l.place (secondaries_of l.bridges) l.chains
