use Rattle.std.proofs.Common.{◌≡◌, List, drop}
use Rattle.draw_items.specs.declared.journey.Journey.{Journey}
use Rattle.draw_items.specs.columns.Kept.{IsMost}
use Rattle.draw_items.specs.columns.Places.{with_buses}
use Rattle.draw_items.proofs.columns.columns.columns_of.Given as goal

-- the buses so far, and those to come
abbrev pub invariant-loop-bus : goal.invariant-loop-bus
invariant-loop-bus l = (items : List Journey) → IsMost items l.most →
    with_buses l.board items l.middle (drop l.bus-index l.buses) l.columns ≡ with_buses l.board items l.middle l.buses l.initial.columns
