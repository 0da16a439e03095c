use Rattle.std.proofs.Common.{◌≡◌, ◌++◌}
use Rattle.history_model.specs.Next.{down_to}
use Rattle.judge_next.specs.Lines.{listed, ups_below}
use Rattle.judge_next.proofs.lines.lanes_ending.Given as goal

-- the lane down to the bus, and those up to it so far
abbrev pub invariant-loop-child : goal.invariant-loop-child
invariant-loop-child l = l.lanes.items ≡ listed l.board l.bus (down_to l.bus) ++ ups_below l.child l.board l.bus
