-- The acts of a run whose arrivals stand apart.
use Rattle.std.proofs.Common.{◌≡◌, List, [], ◌∷◌, length, refl, ap, arith}
use Rattle.history_model.specs.declared.event.Event.{Event}
use Rattle.history_model.specs.declared.event.Event.TheVariants.{Act, Arrive}
use Rattle.law_early.specs.Early.{acts_of}
use Rattle.observe_told.specs.declared.woven.Strand.{Strand}
use Rattle.observe_told.specs.declared.woven.Strand.TheVariants as strands
use Rattle.observe_told.specs.declared.woven.Woven.{Woven}
use Rattle.observe_told.specs.Woven.{weave, events_of, acts_among, IsWhole}

-- they are those that stand apart

acts_woven : (rest : List Strand) (acts : List Event) → acts_among rest ≡ length acts → acts_of (weave rest acts) ≡ acts_of acts
acts_woven [] [] same = refl
acts_woven [] (other ∷ acts) same = absurd (omega (arith, same))
acts_woven (strands.Act ∷ rest) [] same = absurd (omega (arith, same))
acts_woven (strands.Act ∷ rest) (Act on by o step place ∷ acts) same =
    let e : acts_among rest ≡ length acts = omega (arith, same) in ap (λ (l : List Event). Act on by o step place ∷ l) (acts_woven rest acts e)
acts_woven (strands.Act ∷ rest) (Arrive lane mark ∷ acts) same = let e : acts_among rest ≡ length acts = omega (arith, same) in acts_woven rest acts e
acts_woven (strands.Arrive lane mark ∷ rest) acts same = acts_woven rest acts same

pub same_acts : (woven : Woven) → IsWhole woven → acts_of (events_of woven) ≡ acts_of woven.acts.items
same_acts woven whole = acts_woven woven.strands.items woven.acts.items whole
