use Rattle.std.proofs.Common.{◌≡◌, ℕ, ◌*◌, length, Some, slice_get}
use Rattle.run_waves.specs.declared.blocks.BlockSpan.{BlockSpan}
use Rattle.run_waves.specs.Blocks.{Spans}
use Rattle.run_waves.proofs.blocks.spans_of.Given as goal

-- the spans so far
abbrev pub invariant-loop-number : goal.invariant-loop-number
invariant-loop-number l =
    record {
      count : length l.spans.items ≡ l.number;
      each : (n : ℕ) (span : BlockSpan) → slice_get l.spans.items n ≡ Some span → Spans l.board l.signals (n * 32) span;
    }
