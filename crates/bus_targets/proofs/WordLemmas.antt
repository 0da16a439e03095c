-- What a word holds after data phases landed.
use Rattle.std.proofs.lemmas.List.{drop_more}
use Rattle.std.proofs.Common.{◌≡◌, ◌≢◌, ℕ, Bool, true, false, ◌+◌, ◌<◌, length, drop, get_or, ◌==◌, List, [], ◌∷◌, Option, None, Some, refl, sym, ap, subst, ◌∙◌, arith, if◌then◌else◌}
use Rattle.std.specs.Prelude.{slice_get}
use Rattle.std.specs.List.Sorted.{IsStrictlyIncreasing}
use Rattle.std.proofs.lemmas.Bool.Decides.{nat_tests}
use Rattle.list_facts.specs.Lists.{changed_at}
use Rattle.pci_command.specs.declared.command.Space.{Space}
use Rattle.pci_command.specs.declared.phases.Phase.{Phase}
use Rattle.board_model.specs.device.Registers.{merge_of}
use Rattle.history_model.specs.Words.{mask_in}
use Rattle.machine_steps.specs.Values.{value_merged}
use Rattle.bus_targets.specs.Words.{place_in, merged_at, landed_at}
use Rattle.bus_targets.proofs.PlaceLemmas.{found_place, place_at, changed_same, changed_other}

-- one data phase, by whether it is for the word
one_phase : (space : Space) (addresses : List ℕ) (place address at : ℕ) (phase : Phase) (values : List ℕ) (value : ℕ) → IsStrictlyIncreasing addresses
    → slice_get addresses place ≡ Some address → slice_get values place ≡ Some value
    → slice_get (merged_at space addresses at phase values) place ≡ Some (if at == address then merge_of value phase (mask_in space address) else value)
one_phase space addresses place address at phase values value rises here there =
    let f : ℕ → ℕ = λ v. merge_of v phase (mask_in space at) in
    let P : Bool → Type 0 = λ b. (at == address) ≡ b → slice_get (merged_at space addresses at phase values) place ≡ Some (if b then merge_of value phase (mask_in space address) else value) in
    (elim (at == address) as P [
      | true ↦ λ same.
          let one : address ≡ at = grind (arith, nat_tests, same) in
          let found : place_in addresses at ≡ Some place = subst (λ (n : ℕ). place_in addresses n ≡ Some place) one (place_at addresses address place rises here) in
          let Q : Option ℕ → Type 0 = λ p. slice_get (changed_at f values p) place ≡ Some (merge_of value phase (mask_in space at)) in
          let changed : slice_get (merged_at space addresses at phase values) place ≡ Some (merge_of value phase (mask_in space at)) = subst Q (sym found) (changed_same f values place value there) in
          changed ∙ ap (λ (n : ℕ). Some (merge_of value phase (mask_in space n))) (sym one)
      | false ↦ λ differs.
          let Q : Option ℕ → Type 0 = λ p. place_in addresses at ≡ p → slice_get (changed_at f values p) place ≡ Some value in
          (elim (place_in addresses at) as Q [
            | None ↦ λ _. there
            | Some other ↦ λ found.
                let apart : place ≢ other = λ one.
                (let at_other : slice_get addresses other ≡ Some at = found_place addresses at other found in
                let at_place : slice_get addresses place ≡ Some at = subst (λ (n : ℕ). slice_get addresses n ≡ Some at) (sym one) at_other in
                let alike : at ≡ address = cc in
                let same : (at == address) ≡ true = grind (arith, nat_tests, alike) in
                absurd (cc)) in
                changed_other f values other place apart ∙ there
          ]) refl
    ]) refl

pub landed_there : (space : Space) (addresses : List ℕ) (place address at : ℕ) (phases : List Phase) (values : List ℕ) (value : ℕ) → IsStrictlyIncreasing addresses
    → slice_get addresses place ≡ Some address → slice_get values place ≡ Some value
    → slice_get (landed_at space addresses at phases values) place ≡ Some (value_merged space address at value phases)
landed_there space addresses place address at [] values value rises here there = there
landed_there space addresses place address at (phase ∷ phases) values value rises here there =
    landed_there space addresses place address (at + 4) phases (merged_at space addresses at phase values) (if at == address then merge_of value phase (mask_in space address) else value) rises here
    (one_phase space addresses place address at phase values value rises here there)

-- one more data phase lands
pub lands_more : (space : Space) (addresses now : List ℕ) (next : ℕ) (phases : List Phase) (i : ℕ) (d : Phase) (values after result : List ℕ) → i < length phases → now ≡ addresses
    → landed_at space addresses next (drop i phases) values ≡ result
    → after ≡ merged_at space now next (get_or phases i d) values
    → landed_at space addresses (next + 4) (drop (i + 1) phases) after ≡ result
lands_more space addresses now next phases i d values after result within same old step =
    let more = drop_more phases i d within in
    let stepped : after ≡ merged_at space addresses next (get_or phases i d) values = step ∙ ap (λ (kept : List ℕ). merged_at space kept next (get_or phases i d) values) same in
    ap (λ (vs : List ℕ). landed_at space addresses (next + 4) (drop (i + 1) phases) vs) stepped
    ∙ (sym (ap (λ (ps : List Phase). landed_at space addresses next ps values) more) ∙ old)
