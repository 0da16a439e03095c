use Rattle.std.proofs.Common.{◌≡◌, ◌+◌, drop}
use Rattle.board_model.specs.Limits.{most_tries}
use Rattle.board_model.specs.WellFormed.{operations_in}
use Rattle.board_form.proofs.limits.operations_fit.Given as goal

-- the same of all programs
abbrev pub invariant-loop-master : goal.invariant-loop-master
invariant-loop-master l = operations_in l.masters + l.left ≡ most_tries + operations_in (drop l.master-index l.masters)
