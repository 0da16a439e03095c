use Rattle.std.proofs.Common.{◌≡◌, ◌++◌, map, string_bytes}
use Rattle.std.specs.List.{filter, range_with_len}
use Rattle.board_model.specs.Valid.{is_bus}
use Rattle.board_printer.specs.Lines.{text_of}
use Rattle.run_report.specs.Report.{bus_line}
use Rattle.run_report.specs.Tallies.{count_in, tally_at}
use Rattle.run_report.proofs.lines.print_buses.Given as goal

-- the lines of the buses so far
abbrev pub invariant-loop-bus : goal.invariant-loop-bus
invariant-loop-bus l =
    string_bytes l.text ≡ string_bytes l.initial.text ++ text_of (map (λ bus. bus_line bus (count_in (tally_at l.tallies bus))) (filter (is_bus l.board) (range_with_len 0 l.bus)))
