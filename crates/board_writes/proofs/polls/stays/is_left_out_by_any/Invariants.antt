use Rattle.std.proofs.Common.{◌≡◌, drop}
use Rattle.board_writes.specs.Stretches.{joined}
use Rattle.board_writes.specs.Looks.{left_out_in}
use Rattle.board_writes.proofs.polls.stays.is_left_out_by_any.Given as goal

-- none of the stretches so far has one
abbrev pub invariant-loop-place : goal.invariant-loop-place
invariant-loop-place l = left_out_in l.table l.poll (joined (drop l.place l.writes)) l.raiser ≡ left_out_in l.table l.poll (joined l.writes) l.raiser
