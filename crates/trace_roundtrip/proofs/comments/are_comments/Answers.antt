use Rattle.std.proofs.Common.{arith}
use Rattle.trace_roundtrip.proofs.CommentLemmas.{comments_more}
use Rattle.trace_roundtrip.proofs.comments.are_comments.Goals as goal

pub loop-line-preserved : goal.loop-line-preserved
loop-line-preserved c =
    comments_more c.args.text.now c.in-Some.line.now c.loop-line.at c.in-Some.next
    (λ most. let none = c.in-Some.ensures.end.1 most in cc)
    c.in-Some.ensures.line c.in-Some.ensures.next (omega arith)
    (c.is_comment_line.ensures c.if-not-is_comment_line.false) c.loop-line.invariant
