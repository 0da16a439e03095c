use Rattle.std.proofs.Common.{◌≡◌, ◌+◌, drop}
use Rattle.list_facts.specs.Lists.{total}
use Rattle.board_model.specs.Ways.{cost_of}
use Rattle.board_tree.proofs.bound.cost_of_program.Given as goal

-- the costs so far and those of the operations to come are all costs
abbrev pub invariant-loop-op : goal.invariant-loop-op
invariant-loop-op l = l.costs + total (cost_of l.board l.bus) (drop l.op-index l.ops) ≡ total (cost_of l.board l.bus) l.ops
