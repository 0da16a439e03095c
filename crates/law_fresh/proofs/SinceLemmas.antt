-- From when on a master knows of a write, and what later operations know.
use Rattle.std.proofs.Common.{◌≡◌, ℕ, Bool, true, false, ◌&&◌, ◌||◌, cond, eqb, eqb-true, List, [], ◌∷◌, Option, Some, None, is_some, refl, sym, ap, subst, ◌∙◌, arith}
use Rattle.std.proofs.lemmas.Bool.Decides.{nat_tests}
use Rattle.std.proofs.lemmas.Bool.{or_left, or_right}
use Rattle.pci_command.specs.declared.op_id.OpId.{OpId}
use Rattle.pci_command.specs.declared.op_id.Outcome.{Outcome}
use Rattle.pci_command.specs.Same.{same_op}
use Rattle.board_model.specs.declared.board.Board.{Board}
use Rattle.history_model.specs.declared.event.Event.{Event}
use Rattle.history_model.specs.declared.rule.Rule.TheVariants.{Tagged}
use Rattle.history_model.specs.Program.{Ending, ended, turn_of}
use Rattle.history_model.specs.Knowledge.{value_in, value_of_ending, outcome_in, ends_as, ends_with, has_ended, up_to_end, stands_after}
use Rattle.history_model.specs.Runs.{Run}
use Rattle.law_fresh.specs.Aware.{Aware, is_behind, knows, brings, first_known, taught_after, aware_of}
use Rattle.law_fresh.proofs.AwareLemmas.{first_brought, since_kept}
use Rattle.law_fresh.proofs.BehindLemmas.{behind_next, IsBehind, ends_turn, event_behind, ended_behind}
use Rattle.history_model.proofs.facts.RequestLemmas.{same_op_true, same_op_self}

-- the first operation with which a master came to know of the write stands before its turn
pub since_behind : (board : Board) (w : OpId) (h : List Event) (master : ℕ) (p : OpId) → Run board h → (aware_of board w h).since master ≡ Some p → IsBehind p (turn_of board h master)
since_behind board w [] master p run is = cc
since_behind board w (e ∷ h) master p run is =
    let aware : Aware = aware_of board w h in
    let taught : OpId → Bool = taught_after board w aware h e in
    let P : Option OpId → Type 0 = λ since. aware.since master ≡ since → first_known since master w taught (ended e) ≡ Some p → IsBehind p (turn_of board (e ∷ h) master) in
    let Q : Option Ending → Type 0 = λ ending. ended e ≡ ending → first_known None master w taught ending ≡ Some p → IsBehind p (turn_of board (e ∷ h) master) in
    (elim (aware.since master) as P [
      | None ↦ λ _ f. (elim (ended e) as Q [
        | None ↦ λ _ g. cc
        | Some ending ↦ λ ends g.
            let brought = first_brought master w taught ending p g in
            let there : IsBehind ending.op (turn_of board (e ∷ h) ending.op.master) = ended_behind board e h ending ends in
            subst (λ n. IsBehind p (turn_of board (e ∷ h) n)) brought.of_master (subst (λ q. IsBehind q (turn_of board (e ∷ h) ending.op.master)) (sym brought.is_first) there)
      ]) refl f
      | Some first ↦ λ was f.
          let same : first ≡ p = cc in
          event_behind Tagged board e h p master run (since_behind board w h master p run.1 (was ∙ ap Some same))
    ]) refl is

-- a master knows of the write from an operation on, or from an earlier one
pub record Since (board : Board) (w : OpId) (h : List Event) (p : OpId) : Type 0 where
  pub first : OpId
  pub is : (aware_of board w h).since p.master ≡ Some first
  pub before : (q : OpId) → stands_after p q ≡ true → stands_after first q ≡ true

Since-kept : (board : Board) (w : OpId) (e : Event) (h : List Event) (p : OpId) → Since board w h p → Since board w (e ∷ h) p
Since-kept board w e h p old = record { first = old.first; is = since_kept board w e h p.master old.first old.is; before = old.before }

-- an ending that brings it
end_since : (board : Board) (w : OpId) (e : Event) (h : List Event) (p : OpId) (outcome : Outcome) → Run board (e ∷ h) → ended e ≡ Some (record { op = p; outcome = outcome })
    → brings w (taught_after board w (aware_of board w h) h e p) (record { op = p; outcome = outcome }) ≡ true → Since board w (e ∷ h) p
end_since board w e h p outcome run ends brings_it =
    let aware : Aware = aware_of board w h in
    let taught : OpId → Bool = taught_after board w aware h e in
    let ending : Ending = record { op = p; outcome = outcome } in
    let turn : turn_of board h p.master ≡ Some p = ends_turn Tagged board e h ending run ends in
    let P : Option OpId → Type 0 = λ since. aware.since p.master ≡ since → Since board w (e ∷ h) p in
    (elim (aware.since p.master) as P [
      | None ↦ λ none.
          let self : eqb p.master p.master ≡ true = grind (arith, nat_tests) in
          let F : Option OpId → Option Ending → Type 0 = λ since found. first_known since p.master w taught found ≡ Some p in
          let there : F None (Some ending) = rw (self, brings_it) refl in
          record { first = p; is = subst (λ since. F since (ended e)) (sym none) (subst (F None) (sym ends) there); before = λ q behind. behind }
      | Some first ↦ λ was.
          let before : stands_after first p ≡ true = subst (IsBehind first) turn (since_behind board w h p.master first run.1 was) in
          record { first = first; is = since_kept board w e h p.master first was; before = λ q behind. behind_next first p q before behind }
    ]) refl

-- what an event ends it ends so
pub ends_as_ended : (p : OpId) (e : Event) (outcome : Outcome) → ends_as p e ≡ Some outcome → ended e ≡ Some (record { op = p; outcome = outcome })
ends_as_ended p e outcome is =
    let P : Option Ending → Type 0 = λ found. outcome_in p found ≡ Some outcome → found ≡ Some (record { op = p; outcome = outcome }) in
    let Q : Ending → Bool → Type 0 = λ ending b. same_op ending.op p ≡ b → cond b (Some ending.outcome) None ≡ Some outcome → ◌≡◌ {A = Option Ending} (Some ending) (Some (record { op = p; outcome = outcome })) in
    (elim (ended e) as P [
      | None ↦ λ f. cc
      | Some ending ↦ λ f. (elim (same_op ending.op p) as (Q ending) [
        | true ↦ λ same g.
            let built : OpId → Outcome → Ending = λ q given. record { op = q; outcome = given } in
            let ops : ending.op ≡ p = same_op_true ending.op p same in
            let outcomes : ending.outcome ≡ outcome = cc in
            ap Some (ap (λ q. built q ending.outcome) ops ∙ ap (built p) outcomes)
        | false ↦ λ _ g. cc
      ]) refl f
    ]) is

-- the write itself
pub write_since : (board : Board) (w : OpId) (h : List Event) → Run board h → has_ended h w ≡ true → Since board w h w
write_since board w [] run ended_it = cc
write_since board w (e ∷ h) run ended_it =
    let P : Option Outcome → Type 0 = λ given. ends_as w e ≡ given → (is_some given || has_ended h w) ≡ true → Since board w (e ∷ h) w in
    (elim (ends_as w e) as P [
      | None ↦ λ _ older. Since-kept board w e h w (write_since board w h run.1 older)
      | Some outcome ↦ λ is _.
          let self : same_op w w ≡ true = same_op_self w in
          end_since board w e h w outcome run (ends_as_ended w e outcome is) (or_left (same_op w w) _ self)
    ]) refl ended_it

-- a read that ended with a value and was taught
pub got_since : (board : Board) (w : OpId) (h : List Event) (p : OpId) → Run board h → (aware_of board w (up_to_end p h)).taught p ≡ true → Since board w h p
got_since board w [] p run taught = cc
got_since board w (e ∷ h) p run taught =
    let P : Bool → Type 0 = λ b. is_some (ends_with p e) ≡ b → (aware_of board w (cond b (e ∷ h) (up_to_end p h))).taught p ≡ true → Since board w (e ∷ h) p in
    (elim (is_some (ends_with p e)) as P [
      | true ↦ λ with_value taught_now.
          let Q : Option Outcome → Type 0 = λ given. ends_as p e ≡ given → is_some (value_of_ending given) ≡ true → Since board w (e ∷ h) p in
          (elim (ends_as p e) as Q [
            | None ↦ λ _ f. cc
            | Some outcome ↦ λ is f.
                let both : (is_some (value_in outcome) && taught_after board w (aware_of board w h) h e p) ≡ true = rw (f, taught_now) refl in
                end_since board w e h p outcome run (ends_as_ended p e outcome is) (or_right (same_op p w) _ both)
          ]) refl with_value
      | false ↦ λ _ older. Since-kept board w e h p (got_since board w h p run.1 older)
    ]) refl taught

-- a later operation of a master that knows knows too
pub since_knows : (board : Board) (w : OpId) (h : List Event) (p q : OpId) → Since board w h p → eqb p.master q.master ≡ true → stands_after p q ≡ true → knows (aware_of board w h) q ≡ true
since_knows board w h p q since same behind =
    let masters : p.master ≡ q.master = eqb-true p.master q.master same in
    let is : (aware_of board w h).since q.master ≡ Some since.first = subst (λ m. (aware_of board w h).since m ≡ Some since.first) masters since.is in
    rw is (since.before q behind)

pub knows_later : (aware : Aware) (p q : OpId) → knows aware p ≡ true → eqb p.master q.master ≡ true → stands_after p q ≡ true → knows aware q ≡ true
knows_later aware p q known same behind =
    let masters : p.master ≡ q.master = eqb-true p.master q.master same in
    let P : Option OpId → Type 0 = λ since. is_behind since p ≡ true → is_behind since q ≡ true in
    let there : is_behind (aware.since p.master) q ≡ true = (elim (aware.since p.master) as P [ None ↦ λ f. cc | Some first ↦ λ f. behind_next first p q f behind ]) known in
    subst (λ m. is_behind (aware.since m) q ≡ true) masters there
