-- A fact of each master's turn, that goes on to hold, holds of whatever is on a lane, is presented or landed.
use Rattle.std.proofs.Common.{◌≡◌, ℕ, true, List, [], ◌∷◌, Option, Some, None, sym, subst}
use Rattle.std.specs.List.{AllByRecursion}
use Rattle.list_facts.proofs.EachLemmas.{Each-find, Each-weaker, Each-append}
use Rattle.list_facts.proofs.FindLemmas.{find_passes}
use Rattle.pci_command.specs.declared.op_id.OpId.{OpId}
use Rattle.pci_command.specs.declared.op_id.Outcome.{Outcome}
use Rattle.board_model.specs.declared.board.Board.{Board}
use Rattle.board_model.specs.Ways.{Dword}
use Rattle.history_model.specs.declared.event.By.{By}
use Rattle.history_model.specs.declared.event.By.TheVariants.{Master, Lane as ByLane}
use Rattle.history_model.specs.declared.event.Step.{Step}
use Rattle.history_model.specs.declared.event.Step.TheVariants.{Land, Part, Read, Accept, Latch, Take, Stall, MasterAbort, TargetAbort}
use Rattle.history_model.specs.declared.event.Event.{Event}
use Rattle.history_model.specs.declared.event.Event.TheVariants.{Act, Arrive}
use Rattle.history_model.specs.declared.item.Carried.{Carried}
use Rattle.history_model.specs.declared.item.Carried.TheVariants.{Post, Ask, Done, Room, Gone}
use Rattle.history_model.specs.declared.rule.Rule.TheVariants.{Tagged}
use Rattle.history_model.specs.Lanes.{is_of}
use Rattle.history_model.specs.World.{lane_outcome, world_of}
use Rattle.history_model.specs.Program.{turn_of}
use Rattle.history_model.specs.Words.{Landing, landings_by, brought, landed}
use Rattle.history_model.specs.Answers.{wants}
use Rattle.history_model.specs.Runs.{Run}
use Rattle.history_model.proofs.facts.RequestLemmas.{same_op_true}
use Rattle.history_model.proofs.facts.WantsLemmas.{wants-turn}
use Rattle.law_fresh.proofs.Laws.{WorldHas, Enters, Replies, RepliesBy, act_has, arrival_has, presented_at, IsOf, brought_of}

module _ (board : Board) (F : List Event → OpId → Type 0) (kept : (e : Event) (h : List Event) (q : OpId) → Run board (e ∷ h) → F h q → F (e ∷ h) q) where
  -- it holds of the operation that an item carries
  abbrev pub OfItem : List Event → Carried → Type 0
  OfItem h (Post q) = F h q
  OfItem h (Ask q slot) = F h q
  OfItem h (Done q slot outcome) = F h q
  OfItem h Room = Unit {0}
  OfItem h (Gone slot) = Unit {0}

  -- and of the operation of a landing
  abbrev pub OfLanding : List Event → Landing → Type 0
  OfLanding h landing = F h landing.op

  -- it holds of each turn, of what is on the lanes and of what landed
  pub record Held (h : List Event) : Type 0 where
    pub turns : (q : OpId) → turn_of board h q.master ≡ Some q → F h q
    pub items : WorldHas (OfItem h) (world_of board h)
    pub landings : (word : Dword) → AllByRecursion (OfLanding h) (landed board h word)

  item_kept : (e : Event) (h : List Event) (item : Carried) → Run board (e ∷ h) → OfItem h item → OfItem (e ∷ h) item
  item_kept e h (Post q) run old = kept e h q run old
  item_kept e h (Ask q slot) run old = kept e h q run old
  item_kept e h (Done q slot outcome) run old = kept e h q run old
  item_kept e h Room run old = tt
  item_kept e h (Gone slot) run old = tt

  of_item : (h : List Event) (o : OpId) (item : Carried) → is_of o item ≡ true → OfItem h item → F h o
  of_item h o (Post q) is has = subst (F h) (sym (same_op_true o q is)) has
  of_item h o (Ask q slot) is has = subst (F h) (sym (same_op_true o q is)) has
  of_item h o (Done q slot outcome) is has = cc
  of_item h o Room is has = cc
  of_item h o (Gone slot) is has = cc

  -- so it holds of whatever is presented
  pub presented : (h : List Event) (on : ℕ) (by : By) (o : OpId) → Held h → wants board h on by o ≡ true → F h o
  presented h on Master o held wanted = held.turns o (wants-turn board h on o wanted)
  presented h on (ByLane k) o held wanted =
      let standing : List Carried = (world_of board h k).standing in
      let here = (presented_at Tagged board h on k o wanted).1 in
      of_item h o here.item (find_passes (is_of o) standing here.item here.found) (Each-find (OfItem h) (is_of o) standing here.item (held.items k).1 here.found)

  enters_held : (h : List Event) (o : OpId) (step : Step) → F h o → Enters (OfItem h) o step
  enters_held h o Land has = tt
  enters_held h o (Part phases) has = tt
  enters_held h o (Read value) has = tt
  enters_held h o Accept has = has
  enters_held h o Latch has = λ slot. has
  enters_held h o (Take outcome) has = tt
  enters_held h o Stall has = tt
  enters_held h o MasterAbort has = tt
  enters_held h o TargetAbort has = tt

  replies_held : (h : List Event) (o : OpId) (outcome : Option Outcome) → F h o → Replies (OfItem h) o outcome
  replies_held h o None has = tt
  replies_held h o (Some outcome) has = λ slot. has

  replies_by_held : (h : List Event) (o : OpId) (step : Step) (by : By) → F h o → RepliesBy (OfItem h) board o step by
  replies_by_held h o step Master has = tt
  replies_by_held h o step (ByLane k) has = replies_held h o (lane_outcome board k o step) has

  world_kept : (e : Event) (h : List Event) → Run board (e ∷ h) → WorldHas (OfItem h) (world_of board h) → WorldHas (OfItem (e ∷ h)) (world_of board h)
  world_kept e h run old lane =
      let keeps : (item : Carried) → OfItem h item → OfItem (e ∷ h) item = λ item has. item_kept e h item run has in (
        Each-weaker (OfItem h) (OfItem (e ∷ h)) keeps (world_of board h lane).flight (old lane).0,
        Each-weaker (OfItem h) (OfItem (e ∷ h)) keeps (world_of board h lane).standing (old lane).1,
      )

  items_after : (e : Event) (h : List Event) → Run board (e ∷ h) → Held h → WorldHas (OfItem (e ∷ h)) (world_of board (e ∷ h))
  items_after (Act on by o step place) h run held =
      let e : Event = Act on by o step place in
      let has : F (e ∷ h) o = kept e h o run (presented h on by o held run.0.0) in
      act_has (OfItem (e ∷ h)) tt (λ slot. tt) Tagged board on by o step place (world_of board h)
      (enters_held (e ∷ h) o step has) (replies_by_held (e ∷ h) o step by has) (world_kept e h run held.items)
  items_after (Arrive lane mark) h run held =
      let e : Event = Arrive lane mark in
      arrival_has (OfItem (e ∷ h)) tt (λ slot. tt) Tagged board lane mark (world_of board h) (world_kept e h run held.items)

  brought_held : (e : Event) (h : List Event) (word : Dword) → Run board (e ∷ h) → Held h → AllByRecursion (OfLanding (e ∷ h)) (brought board h word e)
  brought_held (Act on by o step place) h word run held =
      let e : Event = Act on by o step place in
      let has : F (e ∷ h) o = kept e h o run (presented h on by o held run.0.0) in
      Each-weaker (IsOf o) (OfLanding (e ∷ h)) (λ landing is. subst (F (e ∷ h)) (sym is) has) (landings_by board h on o step word place) (brought_of board h on o step word place)
  brought_held (Arrive lane mark) h word run held = tt

  landings_after : (e : Event) (h : List Event) (word : Dword) → Run board (e ∷ h) → Held h → AllByRecursion (OfLanding (e ∷ h)) (landed board (e ∷ h) word)
  landings_after e h word run held =
      Each-append (OfLanding (e ∷ h)) (landed board h word) (brought board h word e)
      (Each-weaker (OfLanding h) (OfLanding (e ∷ h)) (λ landing has. kept e h landing.op run has) (landed board h word) (held.landings word))
      (brought_held e h word run held)

  -- before the first event there are only turns
  pub held_first : ((q : OpId) → turn_of board [] q.master ≡ Some q → F [] q) → Held []
  held_first turns = record { turns = turns; items = λ lane. (tt, tt); landings = λ word. tt }

  -- one event further there are only new turns
  pub held_after : (e : Event) (h : List Event) → Run board (e ∷ h) → Held h → ((q : OpId) → turn_of board (e ∷ h) q.master ≡ Some q → F (e ∷ h) q) → Held (e ∷ h)
  held_after e h run held turns = record { turns = turns; items = items_after e h run held; landings = λ word. landings_after e h word run held }
