use Rattle.trace_roundtrip.proofs.CommentLemmas.{two_lines}
use Rattle.trace_roundtrip.proofs.comments.behind_two_lines.Goals as goal

pub returns : goal.returns
returns c =
    two_lines c.args.text.now c.in-Some._first.now c.in-Some-next_line._second.now c.in-Some.next c.in-Some-next_line.place
    (λ most. let none = c.in-Some.ensures.end.1 most in cc) c.in-Some.ensures.line c.in-Some.ensures.next
    (λ most. let none = c.in-Some-next_line.ensures.end.1 most in cc) c.in-Some-next_line.ensures.line c.in-Some-next_line.ensures.next c.if-text-place.false
