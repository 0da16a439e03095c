use Rattle.std.proofs.Common.{◌≡◌}
use Rattle.draw_shapes.specs.Shapes.{captions_in}
use Rattle.draw_page.proofs.layers.layers.add_brackets.Given as goal

-- no caption more
abbrev pub invariant-loop-span : goal.invariant-loop-span
invariant-loop-span l = captions_in l.elements.items ≡ captions_in l.initial.elements.items
