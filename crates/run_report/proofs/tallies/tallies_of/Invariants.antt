use Rattle.std.proofs.Common.{take}
use Rattle.history_model.specs.Runs.{history_of}
use Rattle.run_report.specs.Tallies.{IsTallied}
use Rattle.run_report.proofs.tallies.tallies_of.Given as goal

-- the events so far are counted
abbrev pub invariant-loop-event : goal.invariant-loop-event
invariant-loop-event l = IsTallied l.board (history_of (take l.event-index l.events)) l.tallies
