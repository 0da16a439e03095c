use Rattle.std.proofs.Common.{◌≡◌, Some}
use Rattle.program_input.specs.Refusals.{board_refusal}
use Rattle.message_texts.proofs.refused.leaving_out.smallest.Given as goal

-- what is left is refused with the same status
abbrev pub invariant-loop-size : goal.invariant-loop-size
invariant-loop-size l = board_refusal l.left.items ≡ Some l.status

abbrev pub decreases-loop-size : goal.decreases-loop-size
decreases-loop-size l = l.size
