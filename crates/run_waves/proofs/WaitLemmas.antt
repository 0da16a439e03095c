-- A master waits where it presented its turn before: what follows in its program it never presented.
use Rattle.std.proofs.Common.{◌≡◌, ℕ, Bool, true, false, cond, eqb, ◌||◌, List, [], ◌∷◌, Option, Some, None, refl, sym, ap, subst, ◌∙◌, arith}
use Rattle.std.specs.List.{list_any}
use Rattle.std.proofs.lemmas.Bool.Decides.{nat_tests}
use Rattle.pci_command.specs.declared.op_id.OpId.{OpId}
use Rattle.pci_command.specs.declared.op_id.Outcome.{Outcome}
use Rattle.pci_command.specs.Same.{same_op}
use Rattle.board_model.specs.declared.board.Board.{Board}
use Rattle.board_model.specs.declared.bridge.Place.{Place}
use Rattle.history_model.specs.declared.event.By.TheVariants.{Master, Lane as ByLane}
use Rattle.history_model.specs.declared.event.Step.{Step}
use Rattle.history_model.specs.declared.event.Event.{Event}
use Rattle.history_model.specs.declared.event.Event.TheVariants.{Act, Arrive}
use Rattle.history_model.specs.declared.rule.Rule.TheVariants.{Tagged}
use Rattle.history_model.specs.Program.{ending_of, master_outcome, follows, turn_after, turn_of}
use Rattle.history_model.specs.Knowledge.{stands_after}
use Rattle.history_model.specs.Answers.{is_turn}
use Rattle.history_model.specs.Runs.{Run, Allowed}
use Rattle.history_model.proofs.facts.RequestLemmas.{same_op_true}
use Rattle.history_model.proofs.facts.WantsLemmas.{wants-turn}
use Rattle.law_bound.proofs.changes.Laws.{turn_master}
use Rattle.law_fresh.proofs.BehindLemmas.{IsBehind, follows_behind, Begun, Begun-turn, Begun-kept}
use Rattle.run_waves.specs.Shown.{presents_in, waits}

same_self : (o : OpId) → same_op o o ≡ true
same_self o = grind (arith, nat_tests)

-- what stands behind an operation is another one
behind_other : (o t : OpId) → stands_after o t ≡ true → same_op t o ≡ false
behind_other o t after = grind (arith, nat_tests)

behind_another : (o t : OpId) → stands_after o t ≡ true → same_op o t ≡ false
behind_another o t after = grind (arith, nat_tests)

-- so is an operation of another master
other_master : (o t : OpId) → eqb o.master t.master ≡ false → same_op o t ≡ false
other_master o t differ = grind (arith, nat_tests)

-- what was presented is a turn, or stands before it
presented_begun : (board : Board) (h : List Event) (q : OpId) → Run board h → list_any (presents_in q) h ≡ true → Begun board h q
presented_begun board [] q run is = cc
presented_begun board (Act on Master p step place ∷ h) q run is =
    let e : Event = Act on Master p step place in
    let P : Bool → Type 0 = λ b. same_op p q ≡ b → (b || list_any (presents_in q) h) ≡ true → Begun board (e ∷ h) q in
    (elim (same_op p q) as P [
      | true ↦ λ same _.
          let one : p ≡ q = same_op_true p q same in
          let turn : turn_of board h q.master ≡ Some q = subst (λ (o : OpId). turn_of board h o.master ≡ Some o) one (wants-turn board h on p run.0.0) in
          Begun-kept Tagged board e h q run (Begun-turn board h q turn)
      | false ↦ λ _ before. Begun-kept Tagged board e h q run (presented_begun board h q run.1 before)
    ]) refl is
presented_begun board (Act on (ByLane lane) p step place ∷ h) q run is = Begun-kept Tagged board (Act on (ByLane lane) p step place) h q run (presented_begun board h q run.1 is)
presented_begun board (Arrive lane mark ∷ h) q run is = Begun-kept Tagged board (Arrive lane mark) h q run (presented_begun board h q run.1 is)

-- what stands behind the turn was not presented
not_presented : (board : Board) (h : List Event) (o t : OpId) → Run board h → turn_of board h o.master ≡ Some o → t.master ≡ o.master → stands_after o t ≡ true → list_any (presents_in t) h ≡ false
not_presented board h o t run turn one after =
    let P : Bool → Type 0 = λ b. list_any (presents_in t) h ≡ b → b ≡ false in
    (elim (list_any (presents_in t) h) as P [
      | true ↦ λ is.
          let none : stands_after o t ≡ false = presented_begun board h t run is o (ap (turn_of board h) one ∙ turn) in
          let e : true ≡ false = sym after ∙ none in cc
      | false ↦ λ _. refl
    ]) refl

-- the master that presents

waits_still : (on : ℕ) (o : OpId) (step : Step) (place : Place) (h : List Event) (turn : Option OpId) → turn ≡ Some o → is_turn o turn ≡ waits (Act on Master o step place ∷ h) turn
waits_still on o step place h turn is =
    let F : Option OpId → Type 0 = λ t. is_turn o t ≡ waits (Act on Master o step place ∷ h) t in
    let same : same_op o o ≡ true = same_self o in
    subst F (sym is) (same ∙ sym (ap (λ (b : Bool). b || list_any (presents_in o) h) same))

waits_anew : (board : Board) (on : ℕ) (o : OpId) (step : Step) (place : Place) (h : List Event) (turn : Option OpId) → Run board h → turn_of board h o.master ≡ Some o → ((t : OpId) → turn ≡ Some t → t.master ≡ o.master) → IsBehind o turn
    → is_turn o turn ≡ waits (Act on Master o step place ∷ h) turn
waits_anew board on o step place h None run was own behind = refl
waits_anew board on o step place h (Some t) run was own behind =
    behind_other o t behind ∙ sym (ap (λ (b : Bool). b || list_any (presents_in t) h) (behind_another o t behind) ∙ not_presented board h o t run was (own t refl) behind)

pub own_waits : (board : Board) (on : ℕ) (o : OpId) (step : Step) (place : Place) (h : List Event) → Allowed board h (Act on Master o step place) → Run board h
    → is_turn o (turn_of board (Act on Master o step place ∷ h) o.master) ≡ waits (Act on Master o step place ∷ h) (turn_of board (Act on Master o step place ∷ h) o.master)
own_waits board on o step place h allowed run =
    let e : Event = Act on Master o step place in
    let was : turn_of board h o.master ≡ Some o = wants-turn board h on o allowed.0 in
    let own : (t : OpId) → turn_of board (e ∷ h) o.master ≡ Some t → t.master ≡ o.master = turn_master board (e ∷ h) o.master in
    let P : Option Outcome → Type 0 = λ found. ((t : OpId) → turn_after board o.master (turn_of board h o.master) (ending_of o found) ≡ Some t → t.master ≡ o.master)
    → is_turn o (turn_after board o.master (turn_of board h o.master) (ending_of o found)) ≡ waits (e ∷ h) (turn_after board o.master (turn_of board h o.master) (ending_of o found)) in
    (elim (master_outcome step) as P [
      | None ↦ λ _. waits_still on o step place h (turn_of board h o.master) was
      | Some outcome ↦ λ names.
          let after : Option OpId = follows board (record { op = o; outcome = outcome }) in
          let Q : Bool → Type 0 = λ b. ((t : OpId) → cond b after (turn_of board h o.master) ≡ Some t → t.master ≡ o.master)
          → is_turn o (cond b after (turn_of board h o.master)) ≡ waits (e ∷ h) (cond b after (turn_of board h o.master)) in
          (elim (eqb o.master o.master) as Q [
            | true ↦ λ each. waits_anew board on o step place h after run was each (follows_behind board o outcome)
            | false ↦ λ _. waits_still on o step place h (turn_of board h o.master) was
          ]) names
    ]) own

-- any other

waits_other : (on : ℕ) (o : OpId) (step : Step) (place : Place) (h : List Event) (master : ℕ) (turn : Option OpId) → eqb o.master master ≡ false → ((t : OpId) → turn ≡ Some t → t.master ≡ master)
    → waits h turn ≡ waits (Act on Master o step place ∷ h) turn
waits_other on o step place h master None differ own = refl
waits_other on o step place h master (Some t) differ own =
    let apart : eqb o.master t.master ≡ false = ap (eqb o.master) (own t refl) ∙ differ in
    sym (ap (λ (b : Bool). b || list_any (presents_in t) h) (other_master o t apart))

pub other_waits : (board : Board) (on : ℕ) (o : OpId) (step : Step) (place : Place) (h : List Event) (master : ℕ) → eqb o.master master ≡ false
    → waits h (turn_of board h master) ≡ waits (Act on Master o step place ∷ h) (turn_of board (Act on Master o step place ∷ h) master)
other_waits board on o step place h master differ =
    let e : Event = Act on Master o step place in
    let turn : Option OpId = turn_of board h master in
    let here : waits h turn ≡ waits (e ∷ h) turn = waits_other on o step place h master turn differ (turn_master board h master) in
    let P : Option Outcome → Type 0 = λ found. turn ≡ turn_after board master turn (ending_of o found) in
    let same : P (master_outcome step) = elim (master_outcome step) as P [
      | None ↦ refl
      | Some outcome ↦ ap (λ (b : Bool). cond b (follows board (record { op = o; outcome = outcome })) turn) (sym differ)
    ] in
    here ∙ ap (waits (e ∷ h)) same

-- nothing that a lane presents, or that arrives, is presented by a master
pub lane_waits : (h : List Event) (e : Event) (turn : Option OpId) → ((o : OpId) → presents_in o e ≡ false) → waits h turn ≡ waits (e ∷ h) turn
lane_waits h e None none = refl
lane_waits h e (Some t) none = sym (ap (λ (b : Bool). b || list_any (presents_in t) h) (none t))
