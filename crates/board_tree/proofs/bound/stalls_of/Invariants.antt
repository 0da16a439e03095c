use Rattle.std.proofs.Common.{◌≡◌, ◌+◌, drop}
use Rattle.list_facts.specs.Lists.{total}
use Rattle.board_model.specs.declared.agents.Target.{Target}
use Rattle.board_tree.proofs.bound.stalls_of.Given as goal

-- the tokens so far and those of the targets to come are all tokens
abbrev pub invariant-loop-target : goal.invariant-loop-target
invariant-loop-target l =
    l.stalls + total (λ (target : Target). target.stalls) (drop l.target-index l.targets) ≡ total (λ (target : Target). target.stalls) l.targets
