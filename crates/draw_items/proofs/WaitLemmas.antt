-- What masters presented, event by event, and where each operation stands among it.
use Rattle.std.proofs.Common.{◌≡◌, ℕ, ◌+◌, ◌<◌, ◌≤◌, zero, suc, Bool, true, false, cond, List, [], ◌∷◌, ◌++◌, length, drop, get_or, Option, Some, None, refl, sym, ap, ◌∙◌, arith}
use Rattle.std.specs.List.{position_from}
use Rattle.std.proofs.lemmas.List.{drop_all}
use Rattle.std.proofs.Math.Seq.{drop-cons}
use Rattle.std.proofs.Math.ListN.{set}
use Rattle.pci_command.specs.declared.op_id.OpId.{OpId}
use Rattle.pci_command.specs.Same.{same_op}
use Rattle.history_model.specs.declared.event.Event.{Event}
use Rattle.history_model.proofs.facts.RequestLemmas.{same_op_true}
use Rattle.draw_items.specs.declared.waits.Wait.{Wait}
use Rattle.draw_items.specs.Waits.{presented, waited, waits_after}
use Rattle.audit_clocks.specs.Tables.{value_of, Puts}
use Rattle.draw_items.specs.Kept.{is_wait_of, TellsPlaces}

pub waits_more : (events : List Event) (i : ℕ) (d : Event) (waits next whole : List Wait) → i < length events → waits_after i (drop i events) waits ≡ whole → next ≡ waited (i + 1) (get_or events i d) waits
    → waits_after (i + 1) (drop (i + 1) events) next ≡ whole
waits_more events i d waits next whole within so is =
    let e : suc i ≡ i + 1 = omega arith in
    ap (λ (l : List Wait). waits_after (i + 1) (drop (i + 1) events) l) is
    ∙ ap (λ (k : ℕ). waits_after (i + 1) (drop k events) (waited (i + 1) (get_or events i d) waits)) (sym e)
    ∙ ap (λ (es : List Event). waits_after i es waits) (sym (drop-cons events i d within))
    ∙ so

pub waits_all : (events : List Event) (i : ℕ) (waits whole : List Wait) → length events ≤ i → waits_after i (drop i events) waits ≡ whole → waits ≡ whole
waits_all events i waits whole past so = ap (λ (es : List Event). waits_after i es waits) (sym (drop_all i events past)) ∙ so

-- with the last event of one of them replaced
abbrev pub with_last : ℕ → Wait → Wait
with_last n w = record { op = w.op; first = w.first; last = n }

-- an operation that was not presented before
pub new_from : (n : ℕ) (o : OpId) (waits : List Wait) (i : ℕ) → position_from (is_wait_of o) i waits ≡ None → presented n o waits ≡ waits ++ record { op = o; first = n; last = n } ∷ []
new_from n o [] i none = refl
new_from n o (w ∷ waits) i none =
    (elim (same_op w.op o) as (λ b. cond b (Some i) (position_from (is_wait_of o) (i + 1) waits) ≡ None → cond b (with_last n w ∷ waits) (w ∷ presented n o waits) ≡ w ∷ (waits ++ record { op = o; first = n; last = n } ∷ [])) [
      | true ↦ λ is. cc
      | false ↦ λ is. ap (λ (l : List Wait). w ∷ l) (new_from n o waits (i + 1) is)
    ]) none

-- one that was presented before
pub record Again (n : ℕ) (o : OpId) (waits : List Wait) (i k : ℕ) : Type 0 where
  pub at : ℕ
  pub place : k ≡ i + at
  pub within : at < length waits
  pub here : (d : Wait) → same_op (get_or waits at d).op o ≡ true
  pub is : (d : Wait) → presented n o waits ≡ set waits at (with_last n (get_or waits at d))

again_more : (n : ℕ) (o : OpId) (w : Wait) (waits : List Wait) (i k : ℕ) → same_op w.op o ≡ false → Again n o waits (i + 1) k → Again n o (w ∷ waits) i k
again_more n o w waits i k other again = record {
  at = suc again.at;
  place = omega (arith, again.place);
  within = omega (arith, again.within);
  here = again.here;
  is = λ d. ap (λ b. cond b (with_last n w ∷ waits) (w ∷ presented n o waits)) other ∙ ap (λ (l : List Wait). w ∷ l) (again.is d);
}

again_here : (n : ℕ) (o : OpId) (w : Wait) (waits : List Wait) (i k : ℕ) → same_op w.op o ≡ true → k ≡ i → Again n o (w ∷ waits) i k
again_here n o w waits i k same is = record {
  at = 0;
  place = omega arith;
  within = omega arith;
  here = λ d. same;
  is = λ d. ap (λ b. cond b (with_last n w ∷ waits) (w ∷ presented n o waits)) same;
}

pub again_from : (n : ℕ) (o : OpId) (waits : List Wait) (i k : ℕ) → position_from (is_wait_of o) i waits ≡ Some k → Again n o waits i k
again_from n o [] i k found = cc
again_from n o (w ∷ waits) i k found =
    (elim (same_op w.op o) as (λ b. same_op w.op o ≡ b → cond b (Some i) (position_from (is_wait_of o) (i + 1) waits) ≡ Some k → Again n o (w ∷ waits) i k) [
      | true ↦ λ same is. again_here n o w waits i k same (cc)
      | false ↦ λ same is. again_more n o w waits i k same (again_from n o waits (i + 1) k is)
    ]) refl found

-- Where operations stand after that.

position_push : (t : Wait → Bool) (waits : List Wait) (w : Wait) (i : ℕ) → t w ≡ false → position_from t i (waits ++ w ∷ []) ≡ position_from t i waits
position_push t [] w i fails = ap (λ b. cond b (Some i) None) fails
position_push t (v ∷ waits) w i fails = ap (λ (x : Option ℕ). cond (t v) (Some i) x) (position_push t waits w (i + 1) fails)

position_end : (t : Wait → Bool) (waits : List Wait) (w : Wait) (i : ℕ) → t w ≡ true → position_from t i waits ≡ None → position_from t i (waits ++ w ∷ []) ≡ Some (i + length waits)
position_end t [] w i passes none = ap (λ b. cond b (Some i) None) passes ∙ ap (λ (n : ℕ). Some n) (omega arith)
position_end t (v ∷ waits) w i passes none =
    (elim (t v) as (λ b. cond b (Some i) (position_from t (i + 1) waits) ≡ None → cond b (Some i) (position_from t (i + 1) (waits ++ w ∷ [])) ≡ Some (i + suc (length waits))) [
      | true ↦ λ is. cc
      | false ↦ λ is. position_end t waits w (i + 1) passes is ∙ ap (λ (n : ℕ). Some n) (omega arith)
    ]) none

position_set : (t : Wait → Bool) (waits : List Wait) (k : ℕ) (w d : Wait) (i : ℕ) → k < length waits → t w ≡ t (get_or waits k d) → position_from t i (set waits k w) ≡ position_from t i waits
position_set t [] k w d i within same = refl
position_set t (v ∷ waits) zero w d i within same = ap (λ b. cond b (Some i) (position_from t (i + 1) waits)) same
position_set t (v ∷ waits) (suc k) w d i within same = ap (λ (x : Option ℕ). cond (t v) (Some i) x) (position_set t waits k w d (i + 1) (omega (arith, within)) same)

pub places_push : (waits : List Wait) (o : OpId) (n : ℕ) (old new : List (OpId × ℕ)) → TellsPlaces waits old → value_of o old ≡ None → Puts o (length waits) old new → TellsPlaces (waits ++ record { op = o; first = n; last = n } ∷ []) new
places_push waits o n old new tells none puts = record {
  each = λ q.
      let w : Wait = record { op = o; first = n; last = n } in
      let P : Bool → Type 0 = λ b. same_op o q ≡ b → value_of q new ≡ position_from (is_wait_of q) 0 (waits ++ w ∷ []) in
      (elim (same_op o q) as P [
        | true ↦ λ same.
            let here : value_of q new ≡ Some (length waits) = puts.each q ∙ ap (λ b. cond b (Some (length waits)) (value_of q old)) same in
            let before : position_from (is_wait_of q) 0 waits ≡ None = sym (tells.each q) ∙ ap (λ p. value_of p old) (sym (same_op_true o q same)) ∙ none in
            here ∙ ap (λ (m : ℕ). Some m) (omega arith) ∙ sym (position_end (is_wait_of q) waits w 0 same before)
        | false ↦ λ other.
            puts.each q ∙ ap (λ b. cond b (Some (length waits)) (value_of q old)) other ∙ tells.each q ∙ sym (position_push (is_wait_of q) waits w 0 other)
      ]) refl;
}

pub places_set : (waits : List Wait) (k : ℕ) (w d : Wait) (entries : List (OpId × ℕ)) → TellsPlaces waits entries → k < length waits → w.op ≡ (get_or waits k d).op → TellsPlaces (set waits k w) entries
places_set waits k w d entries tells within same = record {
  each = λ q. tells.each q ∙ sym (position_set (is_wait_of q) waits k w d 0 within (ap (λ o. same_op o q) same));
}
