use Rattle.std.proofs.Common.{◌≤◌, max}
use Rattle.draw_shapes.specs.Shapes.{shape_text}
use Rattle.draw_page.specs.strips.Kept.{AddsTo}
use Rattle.draw_page.proofs.strips.strip.add_to.Given as goal

-- the strips so far
abbrev pub invariant-loop-strip : goal.invariant-loop-strip
invariant-loop-strip l = record {
  adds : AddsTo l.begin l.strip (shape_text l.element.shape) l.initial.strips.items l.strips.items;
  far : l.strip ≤ max l.begin l.strip-end;
}
