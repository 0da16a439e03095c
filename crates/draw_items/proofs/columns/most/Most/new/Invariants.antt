use Rattle.std.proofs.Common.{◌≡◌, replicate}
use Rattle.draw_items.proofs.columns.most.Most.new.Given as goal

-- none is used
abbrev pub invariant-loop-slot : goal.invariant-loop-slot
invariant-loop-slot l = l.tracks.items ≡ replicate l._slot 0
