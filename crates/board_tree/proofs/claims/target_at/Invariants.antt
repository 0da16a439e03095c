use Rattle.std.proofs.Common.{◌-◌, length}
use Rattle.board_model.specs.declared.agents.Target.{Target}
use Rattle.board_tree.proofs.WalkLemmas.{Fails, IsOn, claims}
use Rattle.board_tree.proofs.claims.target_at.Given as goal

-- no target before the place claims, and that at the place is on the bus
abbrev pub invariant-loop-place : goal.invariant-loop-place
invariant-loop-place l = record {
  fails : Fails (claims l.fn.bus l.space l.address) l.targets l.place;
  on : IsOn (λ (target : Target). target.bus) l.targets l.fn.bus l.place;
}

abbrev pub decreases-loop-place : goal.decreases-loop-place
decreases-loop-place l = length l.targets - l.place
