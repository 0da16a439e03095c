use Rattle.std.proofs.Common.{◌≡◌, max, length, drop}
use Rattle.list_facts.specs.Lists.{greatest}
use Rattle.board_model.specs.Ways.{way}
use Rattle.board_tree.proofs.bound.longest_way_of.Given as goal

-- the greatest length so far, or that of an operation to come, is the greatest
abbrev pub invariant-loop-op : goal.invariant-loop-op
invariant-loop-op l =
    max l.longest (greatest (λ op. length (way l.board op l.bus)) (drop l.op-index l.ops)) ≡ greatest (λ op. length (way l.board op l.bus)) l.ops
