-- Parts of different buses, one after another.
use Rattle.std.proofs.Common.{◌≡◌, ◌≢◌, ℕ, Bool, true, false, ◌==◌, cond, List, [], ◌∷◌, ◌++◌, reverse, refl, ap, sym, ◌∙◌}
use Rattle.std.specs.List.{AllByRecursion}
use Rattle.std.proofs.lemmas.Bool.{eqb-true}
use Rattle.std.proofs.lemmas.List.{append-nil}
use Rattle.board_model.specs.declared.board.Board.{Board}
use Rattle.history_model.specs.declared.event.Stamped.{Stamped}
use Rattle.history_model.specs.Local.{bus_of}
use Rattle.law_local.specs.Stamps.{NeverFall, stamped_on, IsMerged}
use Rattle.engine_phases.specs.merging.Merged.{all_events, merged, AreOwnParts, part_of}
use Rattle.engine_phases.proofs.merging.TurnedLemmas.{stamped_append, stamped_turned, merged_holds}

module _ (board : Board) (bus : ℕ) where
  mine : (own : ℕ) (part : List Stamped) → AllByRecursion (λ (s : Stamped). bus_of board s.event ≡ own) part → (own == bus) ≡ true → stamped_on board bus part ≡ part
  mine own [] each same = refl
  mine own (s ∷ part) each same =
      let here : (bus_of board s.event == bus) ≡ true = ap (λ n. n == bus) each.0 ∙ same in
      let rest = mine own part each.1 same in
      rw here (ap (λ (l : List Stamped). s ∷ l) rest)

  other : (own : ℕ) (part : List Stamped) → AllByRecursion (λ (s : Stamped). bus_of board s.event ≡ own) part → (own == bus) ≡ false → stamped_on board bus part ≡ []
  other own [] each apart = refl
  other own (s ∷ part) each apart =
      let there : (bus_of board s.event == bus) ≡ false = ap (λ n. n == bus) each.0 ∙ apart in
      let rest = other own part each.1 apart in
      rw there rest

  -- a bus that is none of these has no part
  none_of : (own : ℕ) (buses : List ℕ) (parts : List (List Stamped)) → own ≡ bus → AllByRecursion (λ (b : ℕ). b ≢ own) buses → AreOwnParts board buses parts → stamped_on board bus (all_events parts) ≡ []
  none_of own [] [] is apart are = refl
  none_of own [] (part ∷ parts) is apart are = absurd are
  none_of own (b ∷ buses) [] is apart are = absurd are
  none_of own (b ∷ buses) (part ∷ parts) is apart are =
      let P : Bool → Type 0 = λ t. (b == bus) ≡ t → t ≡ false in
      let differ : (b == bus) ≡ false = (elim (b == bus) as P [ true ↦ λ same. absurd (apart.0 (eqb-true b bus same ∙ sym is)) | false ↦ λ _. refl ]) refl in
      let first = other b part are.0 differ in
      let rest = none_of own buses parts is apart.1 are.3 in
      stamped_append board bus part (all_events parts) ∙ (ap (λ l. l ++ stamped_on board bus (all_events parts)) first ∙ rest)

  holds_one : (buses : List ℕ) (parts : List (List Stamped)) → AreOwnParts board buses parts → (reverse (stamped_on board bus (all_events parts)) ≡ part_of buses parts bus) × NeverFall (part_of buses parts bus)
  holds_one [] [] are = (refl, tt)
  holds_one [] (part ∷ parts) are = absurd are
  holds_one (b ∷ buses) [] are = absurd are
  holds_one (b ∷ buses) (part ∷ parts) are =
      let whole = stamped_append board bus part (all_events parts) in
      let P : Bool → Type 0 = λ t. (b == bus) ≡ t → (reverse (stamped_on board bus (part ++ all_events parts)) ≡ cond t (reverse part) (part_of buses parts bus)) × NeverFall (cond t (reverse part) (part_of buses parts bus)) in
      (elim (b == bus) as P [
        | true ↦ λ same.
            let none = none_of b buses parts (eqb-true b bus same) are.2 are.3 in
            let all : stamped_on board bus (part ++ all_events parts) ≡ part =
            whole ∙ (ap (λ l. l ++ stamped_on board bus (all_events parts)) (mine b part are.0 same) ∙ (ap (λ l. part ++ l) none ∙ append-nil part)) in
            (ap reverse all, are.1)
        | false ↦ λ apart.
            let rest = holds_one buses parts are.3 in
            let all : stamped_on board bus (part ++ all_events parts) ≡ stamped_on board bus (all_events parts) = whole ∙ ap (λ l. l ++ stamped_on board bus (all_events parts)) (other b part are.0 apart) in
            (ap reverse all ∙ rest.0, rest.1)
      ]) refl

pub own_merged : (board : Board) (buses : List ℕ) (parts : List (List Stamped)) → AreOwnParts board buses parts → IsMerged board (part_of buses parts) (reverse (merged parts))
own_merged board buses parts are = merged_holds board (part_of buses parts) parts (record {
  has_part = λ bus. stamped_turned board bus (all_events parts) ∙ (holds_one board bus buses parts are).0;
  never_fall = λ bus. (holds_one board bus buses parts are).1;
})
