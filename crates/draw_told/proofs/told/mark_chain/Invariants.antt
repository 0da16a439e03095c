use Rattle.std.proofs.Common.{ℕ, List, take}
use Rattle.std.specs.List.{list_any}
use Rattle.history_model.specs.declared.event.Event.{Event}
use Rattle.draw_told.specs.Told.{is_event_of}
use Rattle.draw_told.specs.Kept.{TellsEnds, Marks}
use Rattle.draw_told.proofs.told.mark_chain.Given as goal

-- the operations so far
abbrev pub invariant-loop-op : goal.invariant-loop-op
invariant-loop-op l = (h : List Event) → TellsEnds h l.ends → Marks l.initial.keys.items l.keys.items (λ (n : ℕ). list_any (is_event_of h n) (take l.op-index l.chain))
