use Rattle.std.proofs.Common.{◌≡◌, drop}
use Rattle.draw_told.specs.Brackets.{with_brackets}
use Rattle.draw_told.proofs.brackets.brackets_of.Given as goal

-- the brackets so far, and those to come
abbrev pub invariant-loop-span : goal.invariant-loop-span
invariant-loop-span l = with_brackets (drop l.span-index l.spans) l.brackets ≡ with_brackets l.spans l.initial.brackets
