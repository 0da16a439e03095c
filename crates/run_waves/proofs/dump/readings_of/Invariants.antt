use Rattle.std.proofs.Common.{◌≡◌, length}
use Rattle.run_waves.specs.Shown.{Moment}
use Rattle.run_waves.specs.Scenes.{IsAt, ReadsFrom}
use Rattle.run_waves.proofs.dump.readings_of.Given as goal

-- the readings so far
abbrev pub invariant-loop-signal : goal.invariant-loop-signal
invariant-loop-signal l =
    record {
      each : length l.readings.items ≡ l.signal-index;
      reads : (m : Moment) → IsAt l.board m l.watch.kept l.watch.waits.items l.watch.scene → ReadsFrom l.board m l.signals l.readings.items 0;
    }
