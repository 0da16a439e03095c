-- What is sent at one port.
use Rattle.std.proofs.Common.{◌≡◌, ◌≢◌, ℕ, zero, suc, ◌<◌, ◌≤◌, Bool, true, false, cond, ◌==◌, List, [], ◌∷◌, ◌++◌, length, Option, Some, None, refl, sym, ap, subst, ◌∙◌, arith, slice_get}
use Rattle.std.proofs.lemmas.Bool.{eqb-true, eqb-false, eq-eqb}
use Rattle.std.proofs.lemmas.Option.{slice_get_within}
use Rattle.std.proofs.lemmas.List.{append-nil, append_assoc}
use Rattle.lane_items.specs.declared.item.Item.{Item}
use Rattle.board_model.specs.Limits.{most_waiting}
use Rattle.bus_core.specs.declared.given.Sent.{Sent}
use Rattle.bus_core.specs.Calls.{items_at}
use Rattle.bus_segment.specs.Ends.{EndAfter, HasRoom, SendsOne, SendsAt, SendsBoth}

-- where nothing is, the list has ended
none_beyond : {X : Type 0} (xs : List X) (n : ℕ) → slice_get xs n ≡ None → length xs ≤ n
none_beyond [] n none = omega arith
none_beyond (x ∷ xs) zero none = cc
none_beyond (x ∷ xs) (suc n) none = let rest = none_beyond xs n none in omega arith

-- there is one end at a place
pub room_at : {End : Type 0} (kept : End → ℕ) (ends : List End) (place : ℕ) (end : End) → slice_get ends place ≡ Some end
    → kept end < most_waiting → (other : End) → slice_get ends place ≡ Some other → kept other < 32
room_at kept ends place end there less other at =
    let both = sym there ∙ at in
    let same : end ≡ other = cc in
    subst (λ e. kept e < most_waiting) same less

module _ {End : Type 0} (had sent got : End → List Item) (paired : End → End → Type 0) where
  -- nothing happened at an end
  pub end_still : (end : End) → EndAfter had sent got paired end end [] None []
  end_still end =
      record {
        got_is = sym (append-nil (got end)) ∙ sym (append-nil (got end ++ []));
        sent_is = sym (append-nil (sent end));
        had_is = refl;
        pairs = record { as_first = λ other is. is; as_second = λ other is. is };
      }

  end_as : (before after : End) (puts : List Item) → before ≡ after → puts ≡ [] → EndAfter had sent got paired before after [] None puts
  end_as before after puts same none =
      subst (λ (e : End). EndAfter had sent got paired before e [] None puts) same (subst (λ l. EndAfter had sent got paired before before [] None l) (sym none) (end_still before))

  -- nothing is sent
  pub sends_none : (ends : List End) → SendsAt had sent got paired ends None ends
  sends_none ends =
      record {
        many = refl;
        each = λ n end after was is. let both = sym was ∙ is in let same : end ≡ after = cc in end_as end after [] same refl;
        others = λ n none. refl;
      }

  -- at no port
  pub sends_nowhere : (ends : List End) (item : Sent) → (item.place < length ends → ⊥) → SendsAt had sent got paired ends (Some item) ends
  sends_nowhere ends item beyond =
      record {
        many = refl;
        each = λ n end after was is.
            let both = sym was ∙ is in
            let same : end ≡ after = cc in
            let within = slice_get_within ends n end was in
            let P : Bool → Type 0 = λ b. (item.place == n) ≡ b → cond b (item.item ∷ []) [] ≡ [] in
            let none : items_at (Some item) n ≡ [] = (elim (item.place == n) as P [
              | true ↦ λ here. absurd (beyond (let e : item.place ≡ n = eqb-true item.place n here in omega (arith, within, e)))
              | false ↦ λ _. refl
            ]) refl in
            end_as end after (items_at (Some item) n) same none;
        others = λ n none. refl;
      }

  -- at one
  pub sends_one : (old new : List End) (item : Sent) → SendsOne had sent got paired item.place old item.item new → SendsAt had sent got paired old (Some item) new
  sends_one old new item done =
      record {
        many = done.many;
        each = λ n end after was is.
            let P : Bool → Type 0 = λ b. (item.place == n) ≡ b → EndAfter had sent got paired end after [] None (cond b (item.item ∷ []) []) in
            (elim (item.place == n) as P [
              | true ↦ λ here.
                  let place : n ≡ item.place = sym (eqb-true item.place n here) in
                  let first : slice_get old item.place ≡ Some end = subst (λ m. slice_get old m ≡ Some end) place was in
                  let last : slice_get new item.place ≡ Some after = subst (λ m. slice_get new m ≡ Some after) place is in
                  let both = sym first ∙ done.one.was in
                  let then = sym last ∙ done.one.is in
                  let one : end ≡ done.before = cc in
                  let other : after ≡ done.after = cc in
                  let E : End → End → Type 0 = λ a b. EndAfter had sent got paired a b [] None (item.item ∷ []) in
                  subst (λ a. E a after) (sym one) (subst (λ b. E done.before b) (sym other) (record {
                    got_is = done.got_is ∙ (sym (append-nil (got done.before)) ∙ sym (append-nil (got done.before ++ [])));
                    sent_is = done.sent_is;
                    had_is = done.had_is;
                    pairs = done.pairs;
                  }))
              | false ↦ λ differ.
                  let apart : n ≢ item.place = λ e. eqb-false item.place n differ (sym e) in
                  let both = sym was ∙ (sym (done.one.others n apart) ∙ is) in
                  let same : end ≡ after = cc in
                  end_as end after [] same refl
            ]) refl;
        others = λ n none.
            let P : Bool → Type 0 = λ b. (n == item.place) ≡ b → slice_get new n ≡ slice_get old n in
            (elim (n == item.place) as P [
              | true ↦ λ here.
                  let place : (item.place == n) ≡ true = eq-eqb item.place n (sym (eqb-true n item.place here)) in
                  let some : items_at (Some item) n ≡ item.item ∷ [] = ap (λ b. cond b (item.item ∷ []) []) place in
                  let wrong = sym some ∙ none in cc
              | false ↦ λ apart. done.one.others n (eqb-false n item.place apart)
            ]) refl;
      }

  -- one after the other
  end_then : (a b c : End) (first second : List Item) → EndAfter had sent got paired a b [] None first → EndAfter had sent got paired b c [] None second → EndAfter had sent got paired a c [] None (first ++ second)
  end_then a b c first second one two =
      let same : (got b ++ []) ++ [] ≡ got b = append-nil (got b ++ []) ∙ append-nil (got b) in
      record {
        got_is = two.got_is ∙ (same ∙ one.got_is);
        sent_is = two.sent_is ∙ (ap (λ l. l ++ second) one.sent_is ∙ append_assoc (sent a) first second);
        had_is = two.had_is ∙ one.had_is;
        pairs = record { as_first = λ other is. two.pairs.as_first other (one.pairs.as_first other is); as_second = λ other is. two.pairs.as_second other (one.pairs.as_second other is) };
      }

  pub sends_both : (old mid new : List End) (over back : Option Sent) → SendsAt had sent got paired old over mid → SendsAt had sent got paired mid back new → SendsBoth had sent got paired old over back new
  sends_both old mid new over back one two =
      record {
        many = two.many ∙ one.many;
        each = λ n end after was is.
            let P : Option End → Type 0 = λ found. slice_get mid n ≡ found → EndAfter had sent got paired end after [] None (items_at over n ++ items_at back n) in
            (elim (slice_get mid n) as P [
              | None ↦ λ none. absurd (let within = slice_get_within old n end was in let beyond = none_beyond mid n none in let many = one.many in omega arith)
              | Some middle ↦ λ there. end_then end middle after (items_at over n) (items_at back n) (one.each n end middle was there) (two.each n middle after there is)
            ]) refl;
      }

  -- what is sent at one port leaves room at another
  none_at : (item : Sent) (n : ℕ) → item.place ≢ n → items_at (Some item) n ≡ []
  none_at item n apart =
      let P : Bool → Type 0 = λ b. (item.place == n) ≡ b → cond b (item.item ∷ []) [] ≡ [] in
      (elim (item.place == n) as P [
        | true ↦ λ here. absurd (apart (eqb-true item.place n here))
        | false ↦ λ _. refl
      ]) refl

  pub room_behind : (kept : End → ℕ) (old new : List End) (over back : Option Sent) → SendsAt had sent got paired old over new → HasRoom kept old back
      → ((a b : Sent) → over ≡ Some a → back ≡ Some b → a.place ≢ b.place) → HasRoom kept new back
  room_behind kept old new over None sends room apart = tt
  room_behind kept old new None (Some later) sends room apart = λ end there. room end (sym (sends.others later.place refl) ∙ there)
  room_behind kept old new (Some first) (Some later) sends room apart = λ end there. room end (sym (sends.others later.place (none_at first later.place (apart first later refl refl))) ∙ there)
