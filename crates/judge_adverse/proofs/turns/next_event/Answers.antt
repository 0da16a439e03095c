use Rattle.judge_adverse.proofs.TurnsLemmas.{arrival_not_passed, look_is_vain}
use Rattle.judge_adverse.proofs.turns.next_event.Goals as goal

pub returns-in-Some-clause-found : goal.returns-in-Some-clause-found
returns-in-Some-clause-found c = λ h is. (c.in-Some.ensures.allowed h is, arrival_not_passed c.args.held c.in-Some.event c.in-Some.ensures.arrives)

pub returns-in-None-clause-none : goal.returns-in-None-clause-none
returns-in-None-clause-none c = λ h is known.
    look_is_vain c.args.tree.now h c.args.held is.stands.run is.fits c.args.ring.now.initiators.items c.next_act.result c.requires.ring.all (c.in-None.ensures.none h is) (c.next_act.ensures.none h is known)
