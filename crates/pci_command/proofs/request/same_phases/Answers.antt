use Rattle.std.proofs.Common.{◌≡◌, ℕ, ◌&&◌, nat_eq, ap}
use Rattle.std.specs.Bool.{Decides}
use Rattle.std.proofs.lemmas.Bool.Decides.{Decides-eqb, Decides-and, Decides-like}
use Rattle.std.proofs.lemmas.Slice.Eq.{slice_eq-Decides}
use Rattle.pci_command.specs.declared.phases.Phase.{Phase}
use Rattle.pci_command.proofs.request.same_phases.Goals as goal

-- phases are equal where both fields are
phase_eq-Decides : (a b : Phase) → Decides (nat_eq a.value b.value && nat_eq a.enables b.enables) (a ≡ b)
phase_eq-Decides a b =
    let rebuilt : ℕ → ℕ → Phase = λ v e. record { value = v; enables = e } in
    let joined : a.value ≡ b.value → a.enables ≡ b.enables → rebuilt a.value a.enables ≡ rebuilt b.value b.enables = λ p q. cc in
    let parts = Decides-and _ _ (Decides-eqb a.value b.value) (Decides-eqb a.enables b.enables) in
    Decides-like _ (λ p. joined p.0 p.1) (λ e. (ap (λ x. x.value) e, ap (λ x. x.enables) e)) parts

pub returns : goal.returns
returns c = slice_eq-Decides phase_eq-Decides c.args.a.now c.args.b.now c.eq.result c.eq.ensures
