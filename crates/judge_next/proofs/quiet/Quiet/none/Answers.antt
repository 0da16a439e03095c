use Rattle.std.proofs.Common.{◌≡◌, false, replicate, length, ap, arith}
use Rattle.judge_next.proofs.quiet.Quiet.none.Goals as goal

pub returns-clause-none : goal.returns-clause-none
returns-clause-none c = c.in_ok-buses.ensures.items_if_clones_equal (λ _ e. e)

pub returns-clause-flags : goal.returns-clause-flags
returns-clause-flags c =
    let none : c.in_ok-buses.buses.items ≡ replicate 256 false = c.in_ok-buses.ensures.items_if_clones_equal (λ _ e. e) in
    record {
      all = ap length none;
      few = omega arith;
      below = λ bus less. absurd (omega (arith, less));
    }
