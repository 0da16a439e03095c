use Rattle.std.proofs.Common.{◌≡◌, ◌∙◌, true, length, Some, refl, sym, ap, subst, slice_get}
use Rattle.std.proofs.lemmas.List.{length-set}
use Rattle.std.proofs.lemmas.Option.{slice_get-get_or}
use Rattle.judge_next.proofs.RowLemmas.{read_there}
use Rattle.judge_adverse.specs.declared.ring.Ring.{Ring}
use Rattle.judge_adverse.specs.Turns.{Idles, Rests}
use Rattle.judge_adverse.proofs.IdleLemmas.{hushed_knows}
use Rattle.judge_adverse.proofs.TurnsLemmas.{idle_rests, passed_over_rests, comes_may, none_weaker, same_at_first}
use Rattle.judge_adverse.proofs.turns.act_at.Goals as goal

pub returns-then-is_idle-clause-ring : goal.returns-then-is_idle-clause-ring
returns-then-is_idle-clause-ring c = same_at_first c.args.ring.now

-- it is known to idle
pub returns-then-is_idle-clause-none : goal.returns-then-is_idle-clause-none
returns-then-is_idle-clause-none c = λ h is known initiator there.
    idle_rests c.args.tree.now h c.args.held initiator (known c.args.place initiator (c.is_idle.ensures c.if-is_idle.true) there)

pub returns-in-Some-clause-ring : goal.returns-in-Some-clause-ring
returns-in-Some-clause-ring c = same_at_first c.args.ring.now

pub returns-in-Some-clause-found : goal.returns-in-Some-clause-found
returns-in-Some-clause-found c = λ h is.
    comes_may c.args.tree.now h c.args.held c.in-Some.event c.unless_passed_over.result (c.in-Some.ensures.allowed h is) c.unless_passed_over.ensures.comes

-- its act is passed over
pub returns-in-Some-clause-none : goal.returns-in-Some-clause-none
returns-in-Some-clause-none c = λ h is known.
    none_weaker c.unless_passed_over.result _ _
    (λ passed initiator there.
    let one : c.index.result.now ≡ initiator = read_there c.args.ring.now.initiators.items c.args.place c.index.result.now initiator c.requires.place c.index.ensures there in
    subst (Rests c.args.tree.now h c.args.held) one (passed_over_rests c.args.tree.now h c.args.held c.index.result.now c.in-Some.event (c.in-Some.ensures.act h is) passed))
    c.unless_passed_over.ensures.passed

pub returns-in-None-clause-ring : goal.returns-in-None-clause-ring
returns-in-None-clause-ring c = record { initiators = refl; place = refl; flags = ap length c.hush.ensures ∙ length-set c.args.ring.now.idle.items c.args.place true }

-- it has no act
pub returns-in-None-clause-none : goal.returns-in-None-clause-none
returns-in-None-clause-none c = λ h is known initiator there.
    let one : c.index.result.now ≡ initiator = read_there c.args.ring.now.initiators.items c.args.place c.index.result.now initiator c.requires.place c.index.ensures there in
    idle_rests c.args.tree.now h c.args.held initiator (subst (Idles c.args.tree.now h) one (c.in-None.ensures.none h is))

pub returns-in-None-clause-knows : goal.returns-in-None-clause-knows
returns-in-None-clause-knows c = λ h is known.
    let new : Ring = record { initiators = c.args.ring.now.initiators; idle = c.hush.new.idle; place = c.args.ring.now.place } in
    let at : slice_get c.args.ring.now.initiators.items c.args.place ≡ Some c.index.result.now =
    slice_get-get_or c.args.ring.now.initiators.items c.args.place c.index.result.now c.requires.place ∙ ap Some (sym c.index.ensures) in
    hushed_knows c.args.tree.now h c.args.ring.now new c.args.place c.index.result.now known refl c.hush.ensures at (c.in-None.ensures.none h is)
