use Rattle.std.proofs.Common.{◌≡◌, ◌++◌, drop, string_bytes}
use Rattle.std.specs.List.{flat_map}
use Rattle.draw_page.specs.strips.Strips.{row_text}
use Rattle.draw_page.proofs.strips.print.print_each.Given as goal

-- the strips so far, and those to come
abbrev pub invariant-loop-strip : goal.invariant-loop-strip
invariant-loop-strip l = string_bytes l.text ++ flat_map row_text (drop l.strip-index l.strips) ≡ string_bytes l.initial.text ++ flat_map row_text l.strips
