use Rattle.std.proofs.Common.{◌≡◌, ◌++◌, slice_get, string_bytes}
use Rattle.std.specs.List.{flat_map, range_with_len}
use Rattle.run_report.specs.Lapses.{program_lapses}
use Rattle.run_report.proofs.lapses.print_programs.Given as goal

-- the lines of the masters so far
abbrev pub invariant-loop-place : goal.invariant-loop-place
invariant-loop-place l =
    string_bytes l.text ≡ string_bytes l.initial.text ++ flat_map (λ place. program_lapses l.lapses place (slice_get l.board.masters place)) (range_with_len 0 l.place)
