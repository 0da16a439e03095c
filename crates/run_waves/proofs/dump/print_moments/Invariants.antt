use Rattle.std.proofs.Common.{◌≡◌, ◌++◌, length, string_bytes}
use Rattle.board_printer.specs.Lines.{text_of}
use Rattle.run_waves.specs.Shown.{beginning}
use Rattle.run_waves.specs.Dump.{moments}
use Rattle.run_waves.proofs.DumpLemmas.{SoFar}
use Rattle.run_waves.proofs.dump.print_moments.Given as goal

-- what is written of the events so far
abbrev pub invariant-loop-number : goal.invariant-loop-number
invariant-loop-number l =
    record {
      each : length l.blocks.signals.now ≡ length l.shown.items;
      so : SoFar l.tree l.events l.blocks.signals.now (string_bytes l.fn.text ++ text_of (moments l.tree 1 beginning l.events)) (string_bytes l.text) l.shown.items l.watch.kept l.watch.waits.items l.watch.scene l.number;
    }
