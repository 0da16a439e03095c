use Rattle.std.proofs.Common.{◌≡◌, drop}
use Rattle.draw_told.specs.Kept.{last_before}
use Rattle.draw_told.proofs.touches.Landed.last_before.Given as goal

-- the last so far, and those to come
abbrev pub invariant-loop-touch : goal.invariant-loop-touch
invariant-loop-touch l = last_before l.word l.n (drop l.touch-index l.touches) l.last ≡ last_before l.word l.n l.touches 0
