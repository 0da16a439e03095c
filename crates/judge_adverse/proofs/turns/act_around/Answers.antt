use Rattle.std.proofs.Common.{◌≡◌, ◌∙◌, ◌<◌, List, ap, subst, slice_get, length, arith}
use Rattle.std.specs.Prelude.{IfSome}
use Rattle.judge_adverse.specs.declared.ring.Initiator.{Initiator}
use Rattle.judge_adverse.proofs.TurnsLemmas.{same_after, all_rest, none_weaker}
use Rattle.judge_adverse.proofs.turns.act_around.Goals as goal

pub returns-in-None-clause-ring : goal.returns-in-None-clause-ring
returns-in-None-clause-ring c = same_after c.args.ring.now c.act_between.new.ring c.act_between-in-None.new.ring c.act_between.ensures.ring c.act_between-in-None.ensures.ring

pub returns-in-None-clause-none : goal.returns-in-None-clause-none
returns-in-None-clause-none c = λ h is known.
    let same = c.act_between.ensures.ring.initiators in
    none_weaker c.act_between-in-None.result _ _
    (λ before. all_rest c.args.tree.now h c.args.held c.args.ring.now.initiators.items c.args.ring.now.place
    (λ k initiator low less there. c.in-None.ensures.none h is known k initiator low (let within : k < c.len-all.result = omega (arith, less) in within) there)
    (λ k initiator low less there. before k initiator low less (ap (λ (xs : List Initiator). slice_get xs k) same ∙ there)))
    (c.act_between-in-None.ensures.none h is (c.act_between.ensures.knows h is known))

pub returns-in-None-clause-knows : goal.returns-in-None-clause-knows
returns-in-None-clause-knows c = λ h is known. c.act_between-in-None.ensures.knows h is (c.act_between.ensures.knows h is known)

pub act_between-requires-in-None-clause-within : goal.act_between-requires-in-None-clause-within
act_between-requires-in-None-clause-within c =
    let many : length c.act_between.new.ring.initiators.items ≡ length c.args.ring.now.initiators.items = ap length c.act_between.ensures.ring.initiators in
    let within = c.requires.within in
    omega (arith, many, within)

pub returns-in-None-clause-within : goal.returns-in-None-clause-within
returns-in-None-clause-within c =
    subst (λ (xs : List Initiator). IfSome c.act_between-in-None.result (λ found. found.0 < length xs)) c.act_between.ensures.ring.initiators c.act_between-in-None.ensures.within
