use Rattle.std.proofs.Common.{inl, inr, ap, ◌∙◌, ◌-◌, ◌/◌, ◌+◌, ℕ, arith}
use Rattle.draw_page.proofs.strips.DrawLemmas.{draws_seen, draws_none}
use Rattle.draw_page.proofs.strips.strip.draw.Goals as goal
use Rattle.draw_page.proofs.strips.strip.draw.Goals.{else-from-frame-via-then-from-frame+else-frame-to, else-from-frame-via-else-from-frame}

pub returns-in_ok-add_to : goal.returns-in_ok-add_to
returns-in_ok-add_to c =
    draws_seen c.args.frame.now c.args.element.now _ _ c.args.strips.now.items c.add_to.new.strips.items
    (omega (arith, c.from-from.ensures, c.if-from-frame.true)) (omega (arith, c.to-to.ensures, c.if-frame-to.true))
    (ap (λ (n : ℕ). n / 32) (c.saturating_sub-begin.ensures ∙ ap (λ (n : ℕ). n - c.args.frame.now.first) c.from-from.ensures))
    (ap (λ (n : ℕ). n / 32 + 1) (c.saturating_sub.ensures ∙ ap (λ (n : ℕ). n - c.args.frame.now.first) c.to-to.ensures))
    c.in_ok-add_to.ensures

pub returns-else-from-frame : goal.returns-else-from-frame
returns-else-from-frame c =
    draws_none c.args.frame.now c.args.element.now c.args.strips.now.items
    (elim c.else-from-frame.branch [
      | else-from-frame-via-then-from-frame+else-frame-to w ↦ inr (omega (arith, c.to-to.ensures, w.if-frame-to.false))
      | else-from-frame-via-else-from-frame w ↦ inl (omega (arith, c.from-from.ensures, w.if-from-frame.false))
    ])
