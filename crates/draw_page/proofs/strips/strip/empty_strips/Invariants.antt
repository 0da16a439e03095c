use Rattle.std.proofs.Common.{◌≡◌, length}
use Rattle.draw_page.proofs.strips.strip.empty_strips.Given as goal

-- so many strips
abbrev pub invariant-loop-number : goal.invariant-loop-number
invariant-loop-number l = length l.strips.items ≡ l.number
