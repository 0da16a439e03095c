use Rattle.std.proofs.Common.{◌≡◌, ℕ, Bool, true, false, ap, ◌∙◌, List, Some, length, slice_get, subst, arith}
use Rattle.std.proofs.lemmas.List.{length-replicate}
use Rattle.judge_next.proofs.RowLemmas.{none_stands}
use Rattle.judge_adverse.specs.Turns.{ring_below}
use Rattle.judge_adverse.proofs.RingLemmas.{if_ok_on_err}
use Rattle.judge_adverse.proofs.ring.Ring.new.Goals as goal

pub returns-clause-ring : goal.returns-clause-ring
returns-clause-ring c =
    let many : c.len.result ≡ length c.in_ok-initiators.initiators.items = omega arith in
    record { all = c.in_ok-initiators.ensures ∙ ap (ring_below 256) c.board.ensures.value; flags = ap length c.in_ok-idle.ensures ∙ (length-replicate c.len.result false ∙ many); within = omega arith }

-- none is known to idle
pub returns-clause-idle : goal.returns-clause-idle
returns-clause-idle c = λ h k initiator is there. absurd (none_stands c.len.result k (subst (λ (flags : List Bool). slice_get flags k ≡ Some true) c.in_ok-idle.ensures is))

pub returns-in_err-idle-clause-ring : goal.returns-in_err-idle-clause-ring
returns-in_err-idle-clause-ring c = if_ok_on_err c.from_residual-in_err-idle.result _ c.from_residual-in_err-idle.ensures.0

pub returns-in_err-idle-clause-idle : goal.returns-in_err-idle-clause-idle
returns-in_err-idle-clause-idle c = λ h. if_ok_on_err c.from_residual-in_err-idle.result _ c.from_residual-in_err-idle.ensures.0
