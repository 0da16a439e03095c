use Rattle.std.proofs.Common.{◌≡◌, ◌++◌, drop}
use Rattle.dma_agents.specs.Unclear.{is_sought, places}
use Rattle.dma_agents.proofs.unclear.places.Given as goal

-- what was found and what is to come are all
abbrev pub invariant-loop-number : goal.invariant-loop-number
invariant-loop-number l =
    l.found.items ++ places (is_sought l.sought l.flag) l.number (drop l.number l.masters)
    ≡ places (is_sought l.sought l.flag) 0 l.masters
