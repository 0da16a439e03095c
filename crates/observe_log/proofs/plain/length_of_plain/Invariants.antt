use Rattle.std.proofs.Common.{◌≡◌, ◌+◌, ◌-◌, ◌≤◌, length}
use Rattle.std.specs.List.{position_or_len}
use Rattle.observe_log.specs.Plain.{is_no_plain}
use Rattle.observe_log.proofs.plain.length_of_plain.Given as goal

-- all bytes so far are plain
abbrev pub invariant-loop-left : goal.invariant-loop-left
invariant-loop-left l = record {
  within : length l.left ≤ length l.text;
  so_far : (length l.text - length l.left) + position_or_len is_no_plain l.left ≡ position_or_len is_no_plain l.text;
}

abbrev pub decreases-loop-left : goal.decreases-loop-left
decreases-loop-left l = length l.left
