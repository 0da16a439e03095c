use Rattle.std.proofs.Common.{◌≡◌, ◌++◌, drop}
use Rattle.dma_agents.specs.Unclear.{is_sought, places_in}
use Rattle.dma_agents.proofs.unclear.find_places.Given as goal

-- what was found and what is to come are all
abbrev pub invariant-loop-index : goal.invariant-loop-index
invariant-loop-index l =
    l.found.items ++ places_in (is_sought l.sought l.flag) l.master l.index (drop l.index l.ops)
    ≡ l.initial.found.items ++ places_in (is_sought l.sought l.flag) l.master 0 l.ops
