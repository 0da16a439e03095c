use Rattle.std.proofs.Common.{take}
use Rattle.draw_page.specs.strips.Kept.{DrawsAll}
use Rattle.draw_page.proofs.strips.strip.draw_all.Given as goal

-- what passes of the elements so far
abbrev pub invariant-loop-element : goal.invariant-loop-element
invariant-loop-element l = DrawsAll l.frame (take l.element-index l.elements) l.initial.strips.items l.strips.items
