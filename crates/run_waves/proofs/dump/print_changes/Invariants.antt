use Rattle.std.proofs.Common.{◌≡◌, ℕ, ◌≤◌, ◌*◌, ◌++◌, string_bytes, slice_get}
use Rattle.board_printer.specs.Lines.{text_of}
use Rattle.run_waves.specs.Shown.{Moment}
use Rattle.run_waves.specs.Scenes.{Follows, IsAt, ReadsFrom, ReadsBelow, scene_of}
use Rattle.run_waves.specs.Dump.{change_lines}
use Rattle.run_waves.specs.Blocks.{lines_from}
use Rattle.run_waves.proofs.dump.print_changes.Given as goal

-- the lines so far, and those to come; the readings so far are new, and those to come are as they were
abbrev pub invariant-loop-number : goal.invariant-loop-number
invariant-loop-number l =
    record {
      text : (before after : Moment) → Follows before after → l.passed.from ≡ scene_of l.board before → ReadsFrom l.board before l.blocks.signals.now l.initial.shown 0 → IsAt l.board after l.passed.watch.now.kept l.passed.watch.now.waits.items l.passed.watch.now.scene
          → string_bytes l.text ++ text_of (lines_from l.board before after (l.number * 32) l.blocks.signals.now) ≡ string_bytes l.initial.text ++ text_of (change_lines l.board before after 0 l.blocks.signals.now);
      reads : (before after : Moment) → Follows before after → l.passed.from ≡ scene_of l.board before → ReadsFrom l.board before l.blocks.signals.now l.initial.shown 0 → IsAt l.board after l.passed.watch.now.kept l.passed.watch.now.waits.items l.passed.watch.now.scene
          → ReadsBelow l.board after l.blocks.signals.now l.shown (l.number * 32);
      rest : (k : ℕ) → l.number * 32 ≤ k → slice_get l.shown k ≡ slice_get l.initial.shown k;
    }
