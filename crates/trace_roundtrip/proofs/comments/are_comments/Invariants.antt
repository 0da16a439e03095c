use Rattle.std.proofs.Common.{◌+◌, ◌-◌, length}
use Rattle.trace_roundtrip.specs.Comments.{CommentsTo}
use Rattle.trace_roundtrip.proofs.comments.are_comments.Given as goal

-- the lines so far are comments
abbrev pub invariant-loop-line : goal.invariant-loop-line
invariant-loop-line l = CommentsTo l.text l.at

abbrev pub decreases-loop-line : goal.decreases-loop-line
decreases-loop-line l = length l.text + 1 - l.at
