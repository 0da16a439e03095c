use Rattle.std.proofs.Common.{◌≡◌, ◌++◌, List, drop}
use Rattle.draw_items.specs.declared.journey.Journey.{Journey}
use Rattle.draw_items.specs.columns.Kept.{IsMost}
use Rattle.draw_items.specs.columns.Places.{columns_from, past_lines}
use Rattle.draw_items.proofs.columns.columns.add_columns.Given as goal

-- the lines so far, and those to come
abbrev pub invariant-loop-row : goal.invariant-loop-row
invariant-loop-row l = record {
  columns : (items : List Journey) → IsMost items l.most →
      l.columns.items ++ columns_from items l.x l.row (drop l.row l.lines) ≡ l.initial.columns.items ++ columns_from items l.initial.x 0 l.lines;
  past : (items : List Journey) → IsMost items l.most → past_lines items l.x (drop l.row l.lines) ≡ past_lines items l.initial.x l.lines;
}
