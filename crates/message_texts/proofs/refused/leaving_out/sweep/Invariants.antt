use Rattle.std.proofs.Common.{◌≡◌, ◌<◌, Some}
use Rattle.program_input.specs.Refusals.{board_refusal}
use Rattle.message_texts.proofs.refused.leaving_out.sweep.Given as goal

-- the text is refused with the same status
abbrev pub invariant-loop-end : goal.invariant-loop-end
invariant-loop-end l = record {
  refused : board_refusal l.text.items ≡ Some l.status;
  some : 0 < l.size;
}

abbrev pub decreases-loop-end : goal.decreases-loop-end
decreases-loop-end l = l.end
