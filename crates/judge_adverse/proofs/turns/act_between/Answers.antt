use Rattle.std.proofs.Common.{◌≡◌, ◌+◌, ◌∙◌, suc, ◌<◌, Some, sym, subst, ap, ⊎_elim, ℕ, slice_get, length, List, arith}
use Rattle.law_lanes.proofs.progress.NextFirstLemmas.{below_or}
use Rattle.judge_adverse.specs.declared.ring.Initiator.{Initiator}
use Rattle.judge_adverse.specs.Turns.{Rests}
use Rattle.judge_adverse.proofs.TurnsLemmas.{same_after, none_gives}
use Rattle.judge_adverse.proofs.turns.act_between.Goals as goal

pub act_at-requires-clause-place : goal.act_at-requires-clause-place
act_at-requires-clause-place c = let same : length c.loop-place.ring.initiators.items ≡ length c.args.ring.now.initiators.items = ap length c.loop-place.invariant.ring.initiators in omega (arith, same, c.requires.within)

pub act_at-requires-clause-flags : goal.act_at-requires-clause-flags
act_at-requires-clause-flags c = c.loop-place.invariant.ring.flags ∙ (c.requires.flags ∙ sym (ap length c.loop-place.invariant.ring.initiators))

-- one more initiator rests
pub loop-place-preserved : goal.loop-place-preserved
loop-place-preserved c = record {
  ring = same_after c.args.ring.now c.loop-place.ring c.act_at.new.ring c.loop-place.invariant.ring c.act_at.ensures.ring;
  knows = λ h is known. c.act_at.ensures.knows h is (c.loop-place.invariant.knows h is known);
  rest = λ h is known k initiator low below there.
      ⊎_elim {C = Rests c.args.tree.now h c.args.held initiator}
      (λ (less : k < c.loop-place.place). c.loop-place.invariant.rest h is known k initiator low less there)
      (λ (one : k ≡ c.loop-place.place).
      let at : slice_get c.loop-place.ring.initiators.items c.loop-place.place ≡ Some initiator =
      ap (λ (xs : List Initiator). slice_get xs c.loop-place.place) c.loop-place.invariant.ring.initiators ∙ subst (λ (n : ℕ). slice_get c.args.ring.now.initiators.items n ≡ Some initiator) one there in
      none_gives c.act_at.result _ c.in_default.is (c.act_at.ensures.none h is (c.loop-place.invariant.knows h is known)) initiator at)
      (below_or k c.loop-place.place (let next : c.loop-place.place + 1 ≡ suc c.loop-place.place = omega arith in subst (λ (n : ℕ). k < n) next below));
}

pub returns-in-Some-clause-ring : goal.returns-in-Some-clause-ring
returns-in-Some-clause-ring c = same_after c.args.ring.now c.loop-place.ring c.act_at.new.ring c.loop-place.invariant.ring c.act_at.ensures.ring

pub returns-in-Some-clause-knows : goal.returns-in-Some-clause-knows
returns-in-Some-clause-knows c = λ h is known. c.act_at.ensures.knows h is (c.loop-place.invariant.knows h is known)
