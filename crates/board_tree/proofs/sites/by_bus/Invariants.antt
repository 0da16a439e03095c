use Rattle.board_tree.specs.Sites.{buses_of}
use Rattle.board_tree.proofs.ChainLemmas.{AreLinked}
use Rattle.board_tree.proofs.sites.by_bus.Given as goal

-- the places from this one on are chained
abbrev pub invariant-loop-place : goal.invariant-loop-place
invariant-loop-place l = AreLinked l.place (buses_of l.targets) l.chains
