use Rattle.std.proofs.Common.{◌-◌, length}
use Rattle.board_model.specs.declared.bridge.Bridge.{Bridge}
use Rattle.board_model.specs.Claims.{decodes_down}
use Rattle.board_tree.proofs.WalkLemmas.{Fails, IsOn}
use Rattle.board_tree.proofs.claims.child_place.Given as goal

-- no bridge before the place decodes, and that at the place is below the bus
abbrev pub invariant-loop-place : goal.invariant-loop-place
invariant-loop-place l = record {
  fails : Fails (decodes_down l.fn.bus l.space l.address) l.bridges l.place;
  on : IsOn (λ (bridge : Bridge). bridge.parent) l.bridges l.fn.bus l.place;
}

abbrev pub decreases-loop-place : goal.decreases-loop-place
decreases-loop-place l = length l.bridges - l.place
