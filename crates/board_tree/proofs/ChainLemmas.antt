-- Places are chained from the last to the first.
use Rattle.std.proofs.Common.{◌≡◌, ◌≢◌, ℕ, zero, suc, ◌+◌, ◌<◌, ◌≤◌, List, [], ◌∷◌, map, length, get_or, set, replicate, Option, Some, None, slice_get, sym, ap, subst, ◌∙◌, inl, inr, arith}
use Rattle.std.proofs.lemmas.Bool.{cases_eq}
use Rattle.std.proofs.lemmas.List.{length-set, length-replicate, get_or-replicate, get_or-set_same, get_or-set_other}
use Rattle.board_tree.specs.declared.chains.Chains.{Chains}
use Rattle.board_tree.specs.Chains.{IsNext, AreChainedFrom}

-- the bus of what stands at a place, read of what may be there
pub read_bus : {X : Type 0} (bus_of : X → ℕ) (bus_in : Option X → ℕ) → bus_in None ≡ 0 → ((x : X) → bus_in (Some x) ≡ bus_of x)
    → (xs : List X) (place : ℕ) → bus_in (slice_get xs place) ≡ get_or (map bus_of xs) place 0
read_bus bus_of bus_in none some [] place = none
read_bus bus_of bus_in none some (x ∷ xs) zero = some x
read_bus bus_of bus_in none some (x ∷ xs) (suc place) = read_bus bus_of bus_in none some xs place

-- what the loops keep that chain the places: those from one on are chained
pub record AreLinked (low : ℕ) (buses : List ℕ) (chains : Chains) : Type 0 where
  pub chained : AreChainedFrom low buses chains
  pub long_first : length chains.first ≡ 256
  pub long_next : length chains.next ≡ 256

-- behind the last place there is none
pub linked_none : (low : ℕ) (buses : List ℕ) (chains : Chains) → length buses ≤ low → low ≤ 256 → chains.first ≡ replicate 256 256 → chains.next ≡ replicate 256 256 → AreLinked low buses chains
linked_none low buses chains past small first_is next_is =
    record {
      chained = record {
        few = omega (arith, past, small);
        first = λ bus inside.
            let at : get_or chains.first bus 0 ≡ 256 = ap (λ (xs : List ℕ). get_or xs bus 0) first_is ∙ get_or-replicate {A = ℕ} 256 bus 256 0 inside in
            let behind_all : IsNext buses bus low 256 = record {
              behind = small;
              there = λ within. absurd (omega (arith, within, past, small));
              between = λ k after before within. absurd (omega (arith, after, within, past));
            } in
            subst (IsNext buses bus low) (sym at) behind_all;
        next = λ place after within. absurd (omega (arith, after, within, past));
      };
      long_first = ap (λ (xs : List ℕ). length xs) first_is ∙ length-replicate {A = ℕ} 256 256;
      long_next = ap (λ (xs : List ℕ). length xs) next_is ∙ length-replicate {A = ℕ} 256 256;
    }

-- one place more, before all that are chained
module _ (low place bus : ℕ) (buses : List ℕ) (old new : Chains) (above : low ≡ place + 1) (inside : place < length buses) (small : bus < 256) (is : bus ≡ get_or buses place 0) (linked : AreLinked low buses old)
    (first_is : new.first ≡ set old.first bus place) (next_is : new.next ≡ set old.next place (get_or old.first bus 0)) where
  -- it is the first of its bus, and of each other bus the first stays
  first_at : (other : ℕ) → other < 256 → IsNext buses other place (get_or new.first other 0)
  first_at other within =
      elim (cases_eq other bus) as (λ _. IsNext buses other place (get_or new.first other 0)) [
        | inl same ↦
            let there : bus < length old.first = omega (arith, small, linked.long_first) in
            let at : get_or new.first other 0 ≡ place =
            ap (λ (xs : List ℕ). get_or xs other 0) first_is ∙ (ap (λ (n : ℕ). get_or (set old.first bus place) n 0) same ∙ get_or-set_same old.first bus place 0 there) in
            let here : IsNext buses other place place = record {
              behind = omega arith;
              there = λ _. sym is ∙ sym same;
              between = λ k after before _. absurd (omega (arith, after, before));
            } in
            subst (IsNext buses other place) (sym at) here
        | inr apart ↦
            let at : get_or new.first other 0 ≡ get_or old.first other 0 = ap (λ (xs : List ℕ). get_or xs other 0) first_is ∙ get_or-set_other old.first bus other place 0 apart in
            let was : IsNext buses other low (get_or old.first other 0) = linked.chained.first other within in
            let wider : IsNext buses other place (get_or old.first other 0) = record {
              behind = omega (arith, was.behind, above);
              there = was.there;
              between = λ k after before far.
                  elim (cases_eq k place) as (λ _. get_or buses k 0 ≢ other) [
                    | inl here ↦ λ on. apart (sym on ∙ (ap (λ (n : ℕ). get_or buses n 0) here ∙ sym is))
                    | inr past ↦ was.between k (omega (arith, after, past, above)) before far
                  ];
            } in
            subst (IsNext buses other place) (sym at) wider
      ]

  -- behind it comes what was the first of its bus
  next_at : (k : ℕ) → place ≤ k → k < length buses → IsNext buses (get_or buses k 0) (k + 1) (get_or new.next k 0)
  next_at k after far =
      elim (cases_eq k place) as (λ _. IsNext buses (get_or buses k 0) (k + 1) (get_or new.next k 0)) [
        | inl same ↦
            let there : place < length old.next = omega (arith, inside, linked.long_next, linked.chained.few) in
            let at : get_or new.next k 0 ≡ get_or old.first bus 0 =
            ap (λ (xs : List ℕ). get_or xs k 0) next_is
            ∙ (ap (λ (n : ℕ). get_or (set old.next place (get_or old.first bus 0)) n 0) same ∙ get_or-set_same old.next place (get_or old.first bus 0) 0 there) in
            let on : bus ≡ get_or buses k 0 = is ∙ sym (ap (λ (n : ℕ). get_or buses n 0) same) in
            let up : low ≡ k + 1 = omega (arith, above, same) in
            let one : IsNext buses bus (k + 1) (get_or old.first bus 0) = subst (λ (n : ℕ). IsNext buses bus n (get_or old.first bus 0)) up (linked.chained.first bus small) in
            let two : IsNext buses (get_or buses k 0) (k + 1) (get_or old.first bus 0) = subst (λ (n : ℕ). IsNext buses n (k + 1) (get_or old.first bus 0)) on one in
            subst (IsNext buses (get_or buses k 0) (k + 1)) (sym at) two
        | inr apart ↦
            let at : get_or new.next k 0 ≡ get_or old.next k 0 = ap (λ (xs : List ℕ). get_or xs k 0) next_is ∙ get_or-set_other old.next place k (get_or old.first bus 0) 0 apart in
            subst (IsNext buses (get_or buses k 0) (k + 1)) (sym at) (linked.chained.next k (omega (arith, after, apart, above)) far)
      ]

  pub linked_more : AreLinked place buses new
  linked_more =
      record {
        chained = record {
          few = linked.chained.few;
          first = first_at;
          next = next_at;
        };
        long_first = ap (λ (xs : List ℕ). length xs) first_is ∙ (length-set old.first bus place ∙ linked.long_first);
        long_next = ap (λ (xs : List ℕ). length xs) next_is ∙ (length-set old.next place (get_or old.first bus 0) ∙ linked.long_next);
      }
