-- Where nothing is on any lane, a master whose turn has come has an event.
use Rattle.std.proofs.Common.{◌≡◌, ℕ, zero, suc, ◌+◌, ◌<◌, Bool, true, false, cond, eqb, List, [], ◌∷◌, length, Option, Some, None, is_some, refl, sym, ap, subst, ◌∙◌, ◌⊎◌, inl, inr, ⊎_elim, arith, slice_get}
use Rattle.std.specs.List.{find, AllByRecursion}
use Rattle.std.proofs.lemmas.Bool.{eqb-true}
use Rattle.std.proofs.lemmas.Bool.Decides.{nat_tests}
use Rattle.list_facts.specs.Lists.{total}
use Rattle.pci_command.specs.declared.op_id.OpId.{OpId}
use Rattle.pci_command.specs.declared.op_id.Outcome.{Outcome}
use Rattle.board_model.specs.declared.agents.Master.{Master as MasterAgent}
use Rattle.board_model.specs.declared.bridge.Lane.{Lane as BridgeLane}
use Rattle.board_model.specs.declared.board.Board.{Board}
use Rattle.board_model.specs.declared.op.Op.{Op}
use Rattle.board_model.specs.declared.op.Op.TheVariants.{Read as ReadOp, Write, CfgRead, CfgWrite, Poll}
use Rattle.board_model.specs.Requests.{op_of}
use Rattle.history_model.specs.declared.event.By.TheVariants.{Master}
use Rattle.history_model.specs.declared.event.Event.{Event}
use Rattle.history_model.specs.declared.item.Carried.TheVariants.{Ask}
use Rattle.history_model.specs.declared.item.Slot.{Slot}
use Rattle.history_model.specs.Local.{is_ask_of}
use Rattle.history_model.specs.World.{World, both, is_own, world_of}
use Rattle.board_model.specs.Ways.{lane_back}
use Rattle.history_model.specs.Program.{Ending, ended, present, next_op, next_try, meets, follows_in, follows, turn_after, turn_of}
use Rattle.history_model.specs.Answers.{is_on, is_turn, wants}
use Rattle.history_model.specs.Runs.{Run}
use Rattle.law_lanes.specs.Credits.{post_count, room_count, Credits}
use Rattle.law_lanes.specs.Slots.{HasOneItem}
use Rattle.law_lanes.proofs.Laws.{Credits-run, HasOneItem-each, Slots-run}
use Rattle.history_model.proofs.facts.RequestLemmas.{same_op_self}
use Rattle.law_lanes.specs.progress.Next.{Next}
use Rattle.law_lanes.proofs.progress.SoundLemmas.{Sound, room_at}
use Rattle.law_lanes.proofs.progress.PostLemmas.{joined}
use Rattle.law_lanes.proofs.progress.RefusedLemmas.{full, no_slot, waits, Refused, presented}
use Rattle.law_lanes.proofs.progress.StandLemmas.{NotDone}
use Rattle.law_lanes.proofs.progress.AskLemmas.{ask_of_slot}

-- an operation of the master
abbrev IsOf : ℕ → Option OpId → Type 0
IsOf master None = Unit {0}
IsOf master (Some o) = o.master ≡ master

-- an operation that is there is of its master
present_of : (board : Board) (o : OpId) → IsOf o.master (present board o)
present_of board o =
    let P : Bool → Type 0 = λ b. IsOf o.master (cond b (Some o) None) in
    elim (is_some (op_of board o)) as P [ true ↦ refl | false ↦ tt ]

-- what follows an operation is of its master
follows_of : (board : Board) (o : OpId) (outcome : Outcome) (op : Option Op) → IsOf o.master (follows_in board o outcome op)
follows_of board o outcome None = tt
follows_of board o outcome (Some (ReadOp command address)) = present_of board (record { master = o.master; index = o.index + 1; attempt = 0 })
follows_of board o outcome (Some (Write command address phases)) = present_of board (record { master = o.master; index = o.index + 1; attempt = 0 })
follows_of board o outcome (Some (CfgRead bus device register)) = present_of board (record { master = o.master; index = o.index + 1; attempt = 0 })
follows_of board o outcome (Some (CfgWrite bus device register phase)) = present_of board (record { master = o.master; index = o.index + 1; attempt = 0 })
follows_of board o outcome (Some (Poll space address want tries)) =
    let P : Bool → Type 0 = λ b. IsOf o.master (cond b (next_op board o) (next_try board o)) in
    elim (meets want outcome) as P [
      | true ↦ present_of board (record { master = o.master; index = o.index + 1; attempt = 0 })
      | false ↦ present_of board (record { master = o.master; index = o.index; attempt = o.attempt + 1 })
    ]

-- after one more event
after_of : (board : Board) (master : ℕ) (turn : Option OpId) (ending : Option Ending) → IsOf master turn → IsOf master (turn_after board master turn ending)
after_of board master turn None is = is
after_of board master turn (Some ending) is =
    let P : Bool → Type 0 = λ b. eqb ending.op.master master ≡ b → IsOf master (cond b (follows board ending) turn) in
    (elim (eqb ending.op.master master) as P [
      | true ↦ λ same. subst (λ m. IsOf m (follows board ending)) (eqb-true ending.op.master master same) (follows_of board ending.op ending.outcome (op_of board ending.op))
      | false ↦ λ _. is
    ]) refl

-- the turn of a master is an operation of it
turn_is_of : (board : Board) (h : List Event) (master : ℕ) → IsOf master (turn_of board h master)
turn_is_of board [] master = present_of board (record { master = master; index = 0; attempt = 0 })
turn_is_of board (e ∷ h) master = after_of board master (turn_of board h master) (ended e) (turn_is_of board h master)

-- below the length of a list there is an element
element : {X : Type 0} (xs : List X) (k : ℕ) → k < length xs → (x : X) × (slice_get xs k ≡ Some x)
element [] k below = absurd (omega arith)
element (x ∷ xs) zero below = (x, refl)
element (x ∷ xs) (suc k) below = element xs k (omega arith)

module _ (board : Board) (h : List Event) (run : Run board h) (sound : Sound board) (still : (lane : BridgeLane) → (world_of board h lane).flight ≡ [])
    (idle : (lane : BridgeLane) → (world_of board h lane).standing ≡ []) where
  -- nothing is owed
  owed_none : (lane : BridgeLane) → (world_of board h lane).owed ≡ 0
  owed_none lane =
      let credits : Credits (both (world_of board h) lane) = Credits-run board h lane run in
      let here : total post_count (world_of board h lane).flight ≡ 0 = ap (total post_count) (still lane) in
      let there : total post_count (world_of board h lane).standing ≡ 0 = ap (total post_count) (idle lane) in
      let back : total room_count (world_of board h (lane_back lane)).flight ≡ 0 = ap (total room_count) (still (lane_back lane)) in
      omega (arith, credits.owed, here, there, back)

  -- a held slot would have its item somewhere
  no_item : (lane : BridgeLane) (slot : Slot) → HasOneItem (both (world_of board h) lane) slot → ⊥
  no_item lane slot has =
      let none : AllByRecursion NotDone (world_of board h (lane_back lane)).standing = subst (AllByRecursion NotDone) (sym (idle (lane_back lane))) tt in
      let is = ask_of_slot board h run still lane slot none has in
      let nothing : find (is_ask_of slot.number) [] ≡ Some (Ask slot.op slot.number) = subst (λ xs. find (is_ask_of slot.number) xs ≡ Some (Ask slot.op slot.number)) (idle lane) is in
      cc

  -- so no slot is held
  held_none : (lane : BridgeLane) → (world_of board h lane).held ≡ []
  held_none lane =
      let held : List Slot = (world_of board h lane).held in
      let Has : Slot → Type 0 = HasOneItem (both (world_of board h) lane) in
      let P : List Slot → Type 0 = λ some. AllByRecursion Has some → some ≡ [] in
      (elim held as P [ [] ↦ λ _. refl | slot ∷ rest ↦ λ each. absurd (no_item lane slot each.0) ]) (HasOneItem-each (both (world_of board h) lane) (Slots-run board h lane run))

  -- a master presents its turn, and gets an answer that is no refusal
  turn_goes_on : (o : OpId) (master : MasterAgent) → slice_get board.masters o.master ≡ Some master → turn_of board h o.master ≡ Some o → Next board h
  turn_goes_on o master is_master is_turn_of =
      let world : World = world_of board h in
      let on : ℕ = master.bus in
      let self : eqb on on ≡ true = grind (arith, nat_tests) in
      let at : is_on on (slice_get board.masters o.master) ≡ true = subst (λ found. is_on on found ≡ true) (sym is_master) self in
      let its : is_turn o (Some o) ≡ true = same_op_self o in
      let turn : is_turn o (turn_of board h o.master) ≡ true = subst (λ t. is_turn o t ≡ true) (sym is_turn_of) its in
      let wanted : wants board h on Master o ≡ true = joined (is_on on (slice_get board.masters o.master)) (is_turn o (turn_of board h o.master)) at turn in
      ⊎_elim {C = Next board h}
      (λ next. next)
      (λ (refused : Refused board h on Master o).
      let room = room_at board refused.lane.bus refused.bridge sound refused.is_bridge in
      let owed = owed_none refused.lane in
      let held : (world refused.lane).held ≡ [] = held_none refused.lane in
      let count : length (world refused.lane).held ≡ 0 = ap length held in
      absurd (elim refused.why as (λ _. ⊥) [
        | full _ deep ↦ omega (arith, room.0, deep, owed)
        | no_slot _ _ deep ↦ omega (arith, room.1, deep, count)
        | waits _ slot is _ _ ↦
            let nothing : find (is_own board on Master o) [] ≡ Some slot = subst (λ slots. find (is_own board on Master o) slots ≡ Some slot) held is in
            cc
      ]))
      (presented board h on Master o wanted)

  -- the turn of a master makes a next event, or its program ended
  pub turn_next : (master : ℕ) → master < length board.masters → Next board h ⊎ (turn_of board h master ≡ None)
  turn_next master below =
      let Result : Type 0 = Next board h ⊎ (turn_of board h master ≡ None) in
      let P : Option OpId → Type 0 = λ turn. turn_of board h master ≡ turn → IsOf master turn → Result in
      (elim (turn_of board h master) as P [
        | None ↦ λ none _. inr none
        | Some o ↦ λ is same.
            let agent = element board.masters master below in
            inl (turn_goes_on o agent.0 (ap (slice_get board.masters) same ∙ agent.1) (ap (turn_of board h) same ∙ is))
      ]) refl (turn_is_of board h master)
