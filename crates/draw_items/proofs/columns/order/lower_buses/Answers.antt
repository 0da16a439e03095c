use Rattle.std.proofs.Common.{◌≡◌, ℕ, ◌+◌, zero, suc, List, [], ◌∷◌, ◌++◌, ap, ◌∙◌, arith}
use Rattle.std.specs.List.{range_with_len}
use Rattle.draw_items.specs.columns.Order.{lower_buses}
use Rattle.draw_items.proofs.columns.order.lower_buses.Goals as goal

range_push : (a n : ℕ) → range_with_len a n ++ (a + n) ∷ [] ≡ range_with_len a (suc n)
range_push a zero = ap (λ k. k ∷ []) (omega arith)
range_push a (suc n) = ap (λ (l : List ℕ). a ∷ l) (ap (λ k. range_with_len (a + 1) n ++ k ∷ []) (omega arith) ∙ range_push (a + 1) n)

pub loop-above-preserved : goal.loop-above-preserved
loop-above-preserved c =
    let above = c.loop-above.above in
    let next : suc above ≡ above + 1 = omega arith in
    c.in_ok-push.ensures.items ∙ ap (λ (l : List ℕ). l ++ (above + 1) ∷ []) c.loop-above.invariant ∙ ap (λ (k : ℕ). range_with_len 1 above ++ k ∷ []) (omega arith) ∙ range_push 1 above ∙ ap (λ (k : ℕ). range_with_len 1 k) next

pub returns : goal.returns
unfolding lower_buses
returns c =
    let all : c.loop-above.above ≡ 255 = omega (arith, c.loop-above-test.false) in
    c.loop-above.invariant ∙ ap (λ (k : ℕ). range_with_len 1 k) all
