use Rattle.std.proofs.Common.{◌≡◌, List, drop}
use Rattle.draw_items.specs.declared.journey.Journey.{Journey}
use Rattle.draw_items.specs.columns.Kept.{IsMost}
use Rattle.draw_items.specs.columns.Places.{past_names}
use Rattle.draw_items.proofs.columns.columns.names_end.Given as goal

-- the names so far, and those to come
abbrev pub invariant-loop-line : goal.invariant-loop-line
invariant-loop-line l = (items : List Journey) → IsMost items l.most →
    past_names l.board items l.x l.end (drop l.line-index l.lines) ≡ past_names l.board items l.initial.x l.initial.end l.lines
