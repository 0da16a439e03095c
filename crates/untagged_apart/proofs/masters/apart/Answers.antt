use Rattle.std.proofs.Common.{◌≡◌, Bool, true, false, not, refl, sym, ap, ◌∙◌}
use Rattle.law_untagged.specs.ApartTest.{is_apart}
use Rattle.untagged_apart.proofs.masters.apart.Goals as goal

twice : (b : Bool) → not (not b) ≡ b
twice true = refl
twice false = refl

pub returns : goal.returns
returns c =
    let law = c.apart_is_tested.ensures c.args.tree.now c.board.ensures.valid in
    let is : not c.in_ok-meet.meet ≡ is_apart c.args.tree.now = ap not c.in_ok-meet.ensures ∙ twice (is_apart c.board.result.now) ∙ ap is_apart c.board.ensures.value in
    (λ tested. law.0 (sym is ∙ tested), λ apart. is ∙ law.1 apart)
