use Rattle.std.proofs.Common.{◌≡◌, ◌++◌, ℕ, ap, ◌∙◌, arith}
use Rattle.history_model.specs.Next.{down_to}
use Rattle.judge_next.specs.Lines.{listed, ups_below}
use Rattle.judge_next.proofs.lines.lanes_ending.Goals as goal

pub returns : goal.returns
returns c =
    let all : c.loop-child.child ≡ 256 = omega arith in
    c.loop-child.invariant ∙ ap (λ (n : ℕ). listed c.args.board.now c.args.bus (down_to c.args.bus) ++ ups_below n c.args.board.now c.args.bus) all
