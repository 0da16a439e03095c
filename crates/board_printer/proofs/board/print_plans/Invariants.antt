use Rattle.std.proofs.Common.{◌≡◌, ◌++◌, take, map, string_bytes}
use Rattle.board_printer.specs.Lines.{text_of}
use Rattle.board_printer.specs.Boards.{planned_line}
use Rattle.board_printer.proofs.board.print_plans.Given as goal

-- the text so far
abbrev pub invariant-loop-planned : goal.invariant-loop-planned
invariant-loop-planned l = string_bytes l.text ≡ string_bytes l.initial.text ++ text_of (map (planned_line l.word) (take l.planned-index l.plans))
