-- Bridges by their numbers.
use Rattle.std.proofs.Common.{◌≡◌, ◌==◌, eqb, false, true, List, [], ◌∷◌, Some, refl, arith}
use Rattle.std.specs.List.{find, AllByRecursion, IsDistinct}
use Rattle.std.proofs.lemmas.Bool.Decides.{nat_tests}
use Rattle.std.proofs.lemmas.Map.Keys.{IsDistinct-head, IsDistinct-tail}
use Rattle.list_facts.proofs.EachLemmas.{Each-weaker, Each-both}
use Rattle.board_model.specs.declared.bridge.Bridge.{Bridge}
use Rattle.law_lanes.specs.Depths.{same_number}

-- a bridge is found by its number where no other has it
pub bridge_found : (bridges : List Bridge) → IsDistinct same_number bridges → AllByRecursion (λ (b : Bridge). find (λ (bridge : Bridge). bridge.bus == b.bus) bridges ≡ Some b) bridges
bridge_found [] distinct = tt
bridge_found (b ∷ bridges) distinct =
    let F : Bridge → Type 0 = λ c. same_number b c ≡ false in
    let P : Bridge → Type 0 = λ c. find (λ (bridge : Bridge). bridge.bus == c.bus) bridges ≡ Some c in
    let Q : Bridge → Type 0 = λ c. find (λ (bridge : Bridge). bridge.bus == c.bus) (b ∷ bridges) ≡ Some c in
    let later : AllByRecursion P bridges = bridge_found bridges (IsDistinct-tail same_number b bridges distinct) in
    let apart : AllByRecursion F bridges = IsDistinct-head same_number b bridges distinct in
    let self : eqb b.bus b.bus ≡ true = grind (arith, nat_tests) in
    let behind : (c : Bridge) → F c × P c → Q c = λ c both. let fails : eqb b.bus c.bus ≡ false = both.0 in rw fails both.1 in
    (rw self refl, Each-weaker (λ (c : Bridge). F c × P c) Q behind bridges (Each-both F P bridges apart later))
