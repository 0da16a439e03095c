use Rattle.std.proofs.Common.{◌≡◌, ◌++◌, find, string_bytes}
use Rattle.std.specs.List.{flat_map, range_with_len}
use Rattle.run_report.specs.Lapses.{is_of, lapse_line}
use Rattle.run_report.proofs.lapses.print_ops.Given as goal

-- the lines of the operations so far
abbrev pub invariant-loop-index : goal.invariant-loop-index
invariant-loop-index l =
    string_bytes l.text ≡ string_bytes l.initial.text ++ flat_map (λ index. lapse_line l.master.name index (find (is_of l.place index) l.lapses)) (range_with_len 0 l.index)
