use Rattle.std.proofs.Common.{◌≡◌}
use Rattle.draw_shapes.specs.Shapes.{captions_in}
use Rattle.draw_page.proofs.layers.layers.add_keys.Given as goal

-- no caption more
abbrev pub invariant-loop-row : goal.invariant-loop-row
invariant-loop-row l = captions_in l.elements.items ≡ captions_in l.initial.elements.items
