use Rattle.std.proofs.Common.{◌≡◌, ◌+◌, drop}
use Rattle.list_facts.specs.Lists.{total}
use Rattle.board_model.specs.Requests.{tries_of}
use Rattle.board_form.proofs.limits.operations_left.Given as goal

-- what is left, and the tries of all, are what there may be, and the tries of the operations to come
abbrev pub invariant-loop-op : goal.invariant-loop-op
invariant-loop-op l = total tries_of l.ops + l.left ≡ l.most + total tries_of (drop l.op-index l.ops)
