-- Where no master did anything of a write, nothing of it was done at all, and no data phase of it landed.
use Rattle.std.proofs.Common.{◌≡◌, ℕ, Bool, true, false, eqb, eq-eqb, List, [], ◌∷◌, Option, Some, None, refl, sym, subst}
use Rattle.std.specs.List.{AllByRecursion, list_any}
use Rattle.std.proofs.lemmas.Bool.{or_parts}
use Rattle.list_facts.proofs.EachLemmas.{Each-find, Each-append}
use Rattle.list_facts.proofs.FindLemmas.{find_passes}
use Rattle.pci_command.specs.declared.op_id.OpId.{OpId}
use Rattle.pci_command.specs.declared.op_id.Outcome.{Outcome}
use Rattle.pci_command.specs.Same.{same_op}
use Rattle.board_model.specs.declared.bridge.Place.{Place}
use Rattle.board_model.specs.declared.board.Board.{Board}
use Rattle.board_model.specs.Ways.{Dword}
use Rattle.history_model.specs.declared.event.By.{By}
use Rattle.history_model.specs.declared.event.By.TheVariants.{Master, Lane as ByLane}
use Rattle.history_model.specs.declared.event.Step.{Step}
use Rattle.history_model.specs.declared.event.Step.TheVariants.{Land, Part, Read, Accept, Latch, Take, Stall, MasterAbort, TargetAbort}
use Rattle.history_model.specs.declared.event.Event.{Event}
use Rattle.history_model.specs.declared.event.Event.TheVariants.{Act, Arrive}
use Rattle.history_model.specs.declared.item.Carried.{Carried}
use Rattle.history_model.specs.declared.item.Carried.TheVariants.{Post, Ask, Done, Room, Gone}
use Rattle.history_model.specs.declared.rule.Rule.TheVariants.{Tagged}
use Rattle.history_model.specs.Knowledge.{is_landing_of}
use Rattle.history_model.specs.Lanes.{is_of}
use Rattle.history_model.specs.World.{lane_outcome, world_of}
use Rattle.history_model.specs.Words.{Landing, landings_by, brought, landed}
use Rattle.history_model.specs.Answers.{wants}
use Rattle.history_model.specs.Runs.{Run}
use Rattle.history_model.proofs.facts.RequestLemmas.{same_op_true, same_op_self}
use Rattle.law_fresh.proofs.Laws.{WorldHas, Enters, Replies, RepliesBy, act_has, arrival_has, presented_at, IsOf, brought_of}
use Rattle.judge_adverse.specs.Turns.{is_from_on}
use Rattle.judge_adverse.specs.Runs.{is_act_of}

module _ (board : Board) (w : OpId) where
  -- another operation
  abbrev Other : OpId → Type 0
  Other o = same_op o w ≡ false

  -- the item is not of the write
  abbrev OtherItem : Carried → Type 0
  OtherItem (Post q) = Other q
  OtherItem (Ask q slot) = Other q
  OtherItem (Done q slot outcome) = Other q
  OtherItem Room = Unit {0}
  OtherItem (Gone slot) = Unit {0}

  of_item : (o : OpId) (item : Carried) → is_of o item ≡ true → OtherItem item → Other o
  of_item o (Post q) is has = subst Other (sym (same_op_true o q is)) has
  of_item o (Ask q slot) is has = subst Other (sym (same_op_true o q is)) has
  of_item o (Done q slot outcome) is has = cc
  of_item o Room is has = cc
  of_item o (Gone slot) is has = cc

  -- a master that is not at the write does another operation
  own_other : (on : ℕ) (o : OpId) (step : Step) (place : Place) → is_from_on w (Act on Master o step place) ≡ false → Other o
  own_other on o step place none =
      let P : Bool → Type 0 = λ b. same_op o w ≡ b → Other o in
      (elim (same_op o w) as P [
        | false ↦ λ is. is
        | true ↦ λ is.
            let one : o ≡ w = same_op_true o w is in
            let its : is_from_on w (Act on Master w step place) ≡ false = subst (λ (p : OpId). is_from_on w (Act on Master p step place) ≡ false) one none in
            let self : same_op w w ≡ true = same_op_self w in
            let m : eqb w.master w.master ≡ true = eq-eqb w.master w.master refl in
            absurd cc
      ]) refl

  -- so whatever is presented is another operation
  presented_other : (h : List Event) (on : ℕ) (by : By) (o : OpId) (step : Step) (place : Place) → WorldHas OtherItem (world_of board h)
      → wants board h on by o ≡ true → is_from_on w (Act on by o step place) ≡ false → Other o
  presented_other h on Master o step place has wanted none = own_other on o step place none
  presented_other h on (ByLane k) o step place has wanted none =
      let standing : List Carried = (world_of board h k).standing in
      let here = (presented_at Tagged board h on k o wanted).1 in
      of_item o here.item (find_passes (is_of o) standing here.item here.found) (Each-find OtherItem (is_of o) standing here.item (has k).1 here.found)

  enters_other : (o : OpId) (step : Step) → Other o → Enters OtherItem o step
  enters_other o Land has = tt
  enters_other o (Part phases) has = tt
  enters_other o (Read value) has = tt
  enters_other o Accept has = has
  enters_other o Latch has = λ slot. has
  enters_other o (Take outcome) has = tt
  enters_other o Stall has = tt
  enters_other o MasterAbort has = tt
  enters_other o TargetAbort has = tt

  replies_other : (o : OpId) (outcome : Option Outcome) → Other o → Replies OtherItem o outcome
  replies_other o None has = tt
  replies_other o (Some outcome) has = λ slot. has

  replies_by_other : (o : OpId) (step : Step) (by : By) → Other o → RepliesBy OtherItem board o step by
  replies_by_other o step Master has = tt
  replies_by_other o step (ByLane k) has = replies_other o (lane_outcome board k o step) has

  -- no item of the write is on a lane
  no_item : (h : List Event) → Run board h → list_any (is_from_on w) h ≡ false → WorldHas OtherItem (world_of board h)
  no_item [] run none = λ lane. (tt, tt)
  no_item (Act on by o step place ∷ h) run none =
      let parts = or_parts (is_from_on w (Act on by o step place)) (list_any (is_from_on w) h) none in
      let old = no_item h run.1 parts.1 in
      let other : Other o = presented_other h on by o step place old run.0.0 parts.0 in
      act_has OtherItem tt (λ slot. tt) Tagged board on by o step place (world_of board h) (enters_other o step other) (replies_by_other o step by other) old
  no_item (Arrive lane mark ∷ h) run none =
      let parts = or_parts (is_from_on w (Arrive lane mark)) (list_any (is_from_on w) h) none in
      arrival_has OtherItem tt (λ slot. tt) Tagged board lane mark (world_of board h) (no_item h run.1 parts.1)

  -- and no act of it was done
  pub no_act : (h : List Event) → Run board h → list_any (is_from_on w) h ≡ false → list_any (is_act_of w) h ≡ false
  no_act [] run none = refl
  no_act (Act on by o step place ∷ h) run none =
      let parts = or_parts (is_from_on w (Act on by o step place)) (list_any (is_from_on w) h) none in
      let other : Other o = presented_other h on by o step place (no_item h run.1 parts.1) run.0.0 parts.0 in
      let old = no_act h run.1 parts.1 in
      rw (other, old) refl
  no_act (Arrive lane mark ∷ h) run none =
      let parts = or_parts (is_from_on w (Arrive lane mark)) (list_any (is_from_on w) h) none in
      no_act h run.1 parts.1

  -- of each of these landings it is not
  abbrev OtherLanding : Landing → Type 0
  OtherLanding landing = Other landing.op

  none_of : (landings : List Landing) → AllByRecursion OtherLanding landings → list_any (is_landing_of w) landings ≡ false
  none_of [] each = refl
  none_of (landing ∷ rest) each =
      let here = each.0 in
      let old = none_of rest each.1 in
      rw (here, old) refl

  of_one : (o : OpId) → Other o → (landings : List Landing) → AllByRecursion (IsOf o) landings → AllByRecursion OtherLanding landings
  of_one o other [] each = tt
  of_one o other (landing ∷ rest) each = (subst Other (sym each.0) other, of_one o other rest each.1)

  each_other : (h : List Event) (word : Dword) → list_any (is_act_of w) h ≡ false → AllByRecursion OtherLanding (landed board h word)
  each_other [] word none = tt
  each_other (Act on by o step place ∷ h) word none =
      let parts = or_parts (is_act_of w (Act on by o step place)) (list_any (is_act_of w) h) none in
      Each-append OtherLanding (landed board h word) (brought board h word (Act on by o step place))
      (each_other h word parts.1) (of_one o parts.0 (landings_by board h on o step word place) (brought_of board h on o step word place))
  each_other (Arrive lane mark ∷ h) word none =
      let parts = or_parts (is_act_of w (Arrive lane mark)) (list_any (is_act_of w) h) none in
      Each-append OtherLanding (landed board h word) (brought board h word (Arrive lane mark)) (each_other h word parts.1) tt

  -- so no data phase of it landed
  pub no_landing : (h : List Event) (word : Dword) → list_any (is_act_of w) h ≡ false → list_any (is_landing_of w) (landed board h word) ≡ false
  no_landing h word none = none_of (landed board h word) (each_other h word none)
