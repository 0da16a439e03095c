use Rattle.std.proofs.Common.{◌≡◌, ℕ, ap, ◌∙◌, arith}
use Rattle.judge_adverse.specs.Turns.{ring_below}
use Rattle.judge_adverse.proofs.RingLemmas.{ring_more}
use Rattle.judge_adverse.proofs.ring.initiators_of.Goals as goal

-- the initiators of one bus more
pub loop-bus-preserved : goal.loop-bus-preserved
loop-bus-preserved c = ring_more c.args.board.now c.loop-bus.bus c.loop-bus.all.items _ c.loop-bus.invariant c.in_ok-list_bus.ensures

pub returns : goal.returns
returns c =
    let all : c.loop-bus.bus ≡ 256 = omega arith in
    c.loop-bus.invariant ∙ ap (λ (n : ℕ). ring_below n c.args.board.now) all
