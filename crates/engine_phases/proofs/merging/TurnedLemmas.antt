-- The merge, newest event first.
use Rattle.std.proofs.Common.{◌≡◌, ℕ, zero, suc, ◌≤◌, length, take, Bool, true, false, ◌==◌, cond, List, [], ◌∷◌, ◌++◌, map, reverse, refl, ap, sym, subst, ◌∙◌, arith}
use Rattle.std.specs.List.{AllByRecursion, filter}
use Rattle.std.proofs.lemmas.List.{reverse-append, append_assoc, append-nil}
use Rattle.list_facts.proofs.EachLemmas.{Each-append}
use Rattle.board_model.specs.declared.board.Board.{Board}
use Rattle.history_model.specs.declared.event.Event.{Event}
use Rattle.history_model.specs.declared.event.Stamped.{Stamped}
use Rattle.history_model.specs.Local.{bus_of}
use Rattle.law_local.specs.Stamps.{events_of, NeverFall, stamped_on, IsMerged}
use Rattle.engine_phases.specs.merging.Merged.{in_order, all_events, merged, HoldsParts}
use Rattle.engine_phases.proofs.merging.OrderLemmas.{From, Rises, in_order_rises, in_order_same, of_in_order}

turned_cons : {X : Type 0} (x : X) (xs : List X) → reverse (x ∷ xs) ≡ reverse xs ++ x ∷ []
turned_cons x xs = reverse-append (x ∷ []) xs

-- all events, one part more
pub all_events-push : (parts : List (List Stamped)) (part : List Stamped) → all_events (parts ++ part ∷ []) ≡ all_events parts ++ part
all_events-push [] part = append-nil part
all_events-push (first ∷ parts) part = ap (λ l. first ++ l) (all_events-push parts part) ∙ sym (append_assoc first (all_events parts) part)

events_append : (xs ys : List Stamped) → events_of (xs ++ ys) ≡ events_of xs ++ events_of ys
events_append [] ys = refl
events_append (x ∷ xs) ys = ap (λ (l : List Event). x.event ∷ l) (events_append xs ys)

-- the events without their stamps, newest first
pub turned_events : (es : List Stamped) → reverse (map (λ (e : Stamped). e.event) es) ≡ events_of (reverse es)
turned_events [] = refl
turned_events (e ∷ es) =
    turned_cons e.event (map (λ (f : Stamped). f.event) es)
    ∙ (ap (λ l. l ++ e.event ∷ []) (turned_events es) ∙ (sym (events_append (reverse es) (e ∷ [])) ∙ sym (ap events_of (turned_cons e es))))

each_turned : (P : Stamped → Type 0) (es : List Stamped) → AllByRecursion P es → AllByRecursion P (reverse es)
each_turned P [] each = tt
each_turned P (e ∷ es) each = subst (AllByRecursion P) (sym (turned_cons e es)) (Each-append P (reverse es) (e ∷ []) (each_turned P es each.1) (each.0, tt))

each_front : (P : Stamped → Type 0) (xs ys : List Stamped) → AllByRecursion P (xs ++ ys) → AllByRecursion P xs × AllByRecursion P ys
each_front P [] ys each = (tt, each)
each_front P (x ∷ xs) ys each = let rest = each_front P xs ys each.1 in ((each.0, rest.0), rest.1)

each_back : (P : Stamped → Type 0) (es : List Stamped) → AllByRecursion P (reverse es) → AllByRecursion P es
each_back P [] each = tt
each_back P (e ∷ es) each =
    let parts = each_front P (reverse es) (e ∷ []) (subst (AllByRecursion P) (turned_cons e es) each) in
    (parts.1.0, each_back P es parts.0)

falls_push : (es : List Stamped) (e : Stamped) → NeverFall es → From e.stamp es → NeverFall (es ++ e ∷ [])
falls_push [] e falls from = (tt, tt)
falls_push (f ∷ es) e falls from =
    (Each-append (λ (older : Stamped). older.stamp ≤ f.stamp) es (e ∷ []) falls.0 (from.0, tt), falls_push es e falls.1 from.1)

pub turned_falls : (es : List Stamped) → Rises es → NeverFall (reverse es)
turned_falls [] rises = tt
turned_falls (e ∷ es) rises = subst NeverFall (sym (turned_cons e es)) (falls_push (reverse es) e (turned_falls es rises.1) (each_turned (λ (f : Stamped). e.stamp ≤ f.stamp) es rises.0))

falls_parts : (es : List Stamped) (e : Stamped) → NeverFall (es ++ e ∷ []) → NeverFall es × From e.stamp es
falls_parts [] e falls = (tt, tt)
falls_parts (f ∷ es) e falls =
    let older = each_front (λ (o : Stamped). o.stamp ≤ f.stamp) es (e ∷ []) falls.0 in
    let rest = falls_parts es e falls.1 in
    ((older.0, rest.0), (older.1.0, rest.1))

falls_turned : (es : List Stamped) → NeverFall (reverse es) → Rises es
falls_turned [] falls = tt
falls_turned (e ∷ es) falls =
    let parts = falls_parts (reverse es) e (subst NeverFall (turned_cons e es) falls) in
    (each_back (λ (f : Stamped). e.stamp ≤ f.stamp) es parts.1, falls_turned es parts.0)

module _ (board : Board) (bus : ℕ) where
  abbrev on_it : Stamped → Bool
  on_it e = bus_of board e.event == bus

  stamped_filter : (es : List Stamped) → stamped_on board bus es ≡ filter on_it es
  stamped_filter [] = refl
  stamped_filter (e ∷ es) = ap (λ l. cond (on_it e) (e ∷ l) l) (stamped_filter es)

  pub stamped_append : (xs ys : List Stamped) → stamped_on board bus (xs ++ ys) ≡ stamped_on board bus xs ++ stamped_on board bus ys
  stamped_append [] ys = refl
  stamped_append (x ∷ xs) ys =
      let P : Bool → Type 0 = λ b. cond b (x ∷ stamped_on board bus (xs ++ ys)) (stamped_on board bus (xs ++ ys)) ≡ cond b (x ∷ stamped_on board bus xs) (stamped_on board bus xs) ++ stamped_on board bus ys in
      elim (on_it x) as P [ true ↦ ap (λ (l : List Stamped). x ∷ l) (stamped_append xs ys) | false ↦ stamped_append xs ys ]

  pub stamped_turned : (es : List Stamped) → stamped_on board bus (reverse es) ≡ reverse (stamped_on board bus es)
  stamped_turned [] = refl
  stamped_turned (e ∷ es) =
      let mine : List Stamped = stamped_on board bus es in
      let P : Bool → Type 0 = λ b. stamped_on board bus (reverse es) ++ cond b (e ∷ []) [] ≡ reverse (cond b (e ∷ mine) mine) in
      ap (stamped_on board bus) (turned_cons e es) ∙ (stamped_append (reverse es) (e ∷ [])
      ∙ (elim (on_it e) as P [
        | true ↦ ap (λ l. l ++ e ∷ []) (stamped_turned es) ∙ sym (turned_cons e mine)
        | false ↦ append-nil (stamped_on board bus (reverse es)) ∙ stamped_turned es
      ]))

  stamped_merged : (es : List Stamped) → NeverFall (stamped_on board bus (reverse es)) → stamped_on board bus (reverse (in_order es)) ≡ stamped_on board bus (reverse es)
  stamped_merged es falls =
      let rises : Rises (stamped_on board bus es) = falls_turned (stamped_on board bus es) (subst NeverFall (stamped_turned es) falls) in
      let kept : stamped_on board bus (in_order es) ≡ stamped_on board bus es =
      stamped_filter (in_order es) ∙ (of_in_order on_it es ∙ (ap in_order (sym (stamped_filter es)) ∙ in_order_same (stamped_on board bus es) rises)) in
      stamped_turned (in_order es) ∙ (ap reverse kept ∙ sym (stamped_turned es))

pub merged_holds : (board : Board) (part : ℕ → List Stamped) (parts : List (List Stamped)) → HoldsParts board part parts → IsMerged board part (reverse (merged parts))
merged_holds board part parts holds = record {
  never_fall = turned_falls (merged parts) (in_order_rises (all_events parts));
  has_part = λ bus. stamped_merged board bus (all_events parts) (subst NeverFall (sym (holds.has_part bus)) (holds.never_fall bus)) ∙ holds.has_part bus;
}

pub take_all : {X : Type 0} (place : ℕ) (xs : List X) → length xs ≤ place → take place xs ≡ xs
take_all zero [] within = refl
take_all (suc place) [] within = refl
take_all zero (x ∷ xs) within = absurd (omega arith)
take_all {X = X} (suc place) (x ∷ xs) within = ap (λ (l : List X). x ∷ l) (take_all place xs (omega arith))
