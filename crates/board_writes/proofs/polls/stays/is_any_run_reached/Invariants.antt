use Rattle.std.proofs.Common.{◌≡◌, ◌&&◌, drop}
use Rattle.std.specs.List.{list_any}
use Rattle.board_writes.specs.Stretches.{joined}
use Rattle.board_writes.specs.Looks.{is_reached_in}
use Rattle.board_writes.specs.Polls.{raises_it}
use Rattle.board_writes.proofs.polls.stays.is_any_run_reached.Given as goal

-- none of the stretches so far has one
abbrev pub invariant-loop-place : goal.invariant-loop-place
invariant-loop-place l =
    list_any (λ f. raises_it l.awaited f && is_reached_in l.table l.poll (joined l.runs) f) (joined (drop l.place l.among)) ≡ list_any (λ f. raises_it l.awaited f && is_reached_in l.table l.poll (joined l.runs) f) (joined l.among)
