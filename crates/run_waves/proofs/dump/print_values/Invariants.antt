use Rattle.std.proofs.Common.{◌≡◌, ◌++◌, drop, string_bytes}
use Rattle.board_model.specs.declared.board.Board.{Board}
use Rattle.board_printer.specs.Lines.{text_of}
use Rattle.run_waves.specs.Shown.{beginning}
use Rattle.run_waves.specs.Scenes.{ReadsFrom}
use Rattle.run_waves.specs.Dump.{value_lines}
use Rattle.run_waves.proofs.dump.print_values.Given as goal

-- the lines so far, and those to come
abbrev pub invariant-loop-number : goal.invariant-loop-number
invariant-loop-number l =
    (board : Board) → ReadsFrom board beginning l.signals l.shown 0
    → string_bytes l.text ++ text_of (value_lines board beginning l.number (drop l.number l.signals)) ≡ string_bytes l.initial.text ++ text_of (value_lines board beginning 0 l.signals)
