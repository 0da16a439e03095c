use Rattle.std.proofs.Common.{◌≡◌, take}
use Rattle.history_model.specs.Runs.{history_of}
use Rattle.law_untagged.specs.Stale.{stale_in}
use Rattle.untagged_run.specs.told.Knowers.{Knows}
use Rattle.untagged_check.specs.Judged.{reads_of}
use Rattle.untagged_check.proofs.stale.list_each.Given as goal

-- those of the events so far, and what is known by then
abbrev pub invariant-loop-place : goal.invariant-loop-place
invariant-loop-place l = (reads_of l.stale.items ≡ stale_in l.tree (history_of l.course.events.now) (history_of (take l.place l.course.events.now))) × Knows l.tree (history_of (take l.place l.course.events.now)) l.knowers
