-- The signals in blocks of 32, one behind another. They stand bus by bus, so those of a block belong to few buses; a block is
-- passed over at a moment that touches nothing which belongs to one of these.
use Rattle.std.specs.Prelude.{◌≡◌, ◌<◌, ◌≤◌, ℕ, ◌+◌, ◌*◌, Bool, true, false, ◌&&◌, ◌||◌, nat_le, List, length, drop, Option, Some, slice_get}
use Rattle.std.specs.Option.{option_map_or}
use Rattle.board_model.specs.declared.board.Board.{Board}
use Rattle.board_printer.specs.Lines.{Line}
use Rattle.run_waves.specs.declared.blocks.BlockSpan.{BlockSpan}
use Rattle.run_waves.specs.declared.signal.Signal.{Signal}
use Rattle.run_waves.specs.declared.touched.Touch.{Touch}
use Rattle.run_waves.specs.Homes.{home}
use Rattle.run_waves.specs.Shown.{Moment}
use Rattle.run_waves.specs.Dump.{change_lines}

-- a bus lies in the span
abbrev pub is_in : BlockSpan → ℕ → Bool
is_in span bus = nat_le span.low bus && nat_le bus span.high

-- where there is one
abbrev pub holds : BlockSpan → Option ℕ → Bool
holds span bus = option_map_or (is_in span) bus false

-- something is touched that belongs to a bus in the span
abbrev pub meets : BlockSpan → Touch → Bool
meets span touch = holds span touch.from || (holds span touch.to || (holds span touch.mover || holds span touch.taker))

-- what is written at a moment of the signals from this place on
abbrev pub lines_from : Board → Moment → Moment → ℕ → List Signal → List Line
lines_from board from to k signals = change_lines board from to k (drop k signals)

-- the signals of the block that begins at this place belong to buses in the span
abbrev pub Spans : Board → List Signal → ℕ → BlockSpan → Type 0
Spans board signals start span =
    (k : ℕ) (signal : Signal) → start ≤ k → k < start + 32 → slice_get signals k ≡ Some signal → is_in span (home board signal) ≡ true

-- each block has its span
pub record AreSpans (board : Board) (signals : List Signal) (spans : List BlockSpan) : Type 0 where
  pub all : length signals ≤ length spans * 32
  pub begins : (n : ℕ) → n < length spans → n * 32 < length signals
  pub each : (n : ℕ) (span : BlockSpan) → slice_get spans n ≡ Some span → Spans board signals (n * 32) span
