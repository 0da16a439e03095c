use Rattle.std.proofs.Common.{◌≡◌, ◌++◌, take, drop}
use Rattle.trace_roundtrip.proofs.CommentLemmas.{commented}
use Rattle.trace_roundtrip.proofs.comments.with_comments.Goals as goal

pub returns-in_ok-whole-in-Some : goal.returns-in_ok-whole-in-Some
returns-in_ok-whole-in-Some c =
    let text = c.args.text.now in
    let is = c.in_ok-whole-in-Some.ensures in
    let front = c.split_at.ensures.front in
    let back = c.split_at.ensures.back in
    let whole : c.in_ok-whole-in-Some.whole.items ≡ take c.in-Some.place text ++ (c.args.said.now ++ drop c.in-Some.place text) = cc in
    λ board events read. commented text c.args.said.now c.in_ok-whole-in-Some.whole.items c.in-Some.place board events c.in-Some.ensures c.requires whole read
