use Rattle.judge_adverse.proofs.TurnsLemmas.{none_then, none_holds, same_is_ring, moved_is_ring}
use Rattle.judge_adverse.proofs.turns.next_act.Goals as goal

pub returns-in_err-place-clause-found : goal.returns-in_err-place-clause-found
returns-in_err-place-clause-found c = λ h is. none_holds c.from_residual.result _ c.from_residual.ensures

pub returns-in_err-place-clause-none : goal.returns-in_err-place-clause-none
returns-in_err-place-clause-none c = λ h is known. none_then c.from_residual.result _ c.from_residual.ensures (c.in_err-place.ensures.none h is known)

pub returns-in_err-place-clause-ring : goal.returns-in_err-place-clause-ring
returns-in_err-place-clause-ring c = same_is_ring c.args.tree.now c.args.ring.now c.act_around.new.ring c.requires c.act_around.ensures.ring

pub returns-clause-ring : goal.returns-clause-ring
returns-clause-ring c = moved_is_ring c.args.tree.now c.args.ring.now c.act_around.new.ring c.in_ok-place.place c.requires c.act_around.ensures.ring c.in_ok-place.ensures.within
