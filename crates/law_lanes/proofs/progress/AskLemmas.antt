-- Where nothing is in flight and only delayed requests stand, the furthest on its way finds a slot.
use Rattle.std.proofs.Common.{◌≡◌, ℕ, zero, suc, ◌<◌, ◌≤◌, Bool, true, false, List, [], ◌∷◌, length, Some, refl, sym, subst, ◌⊎◌, inl, inr, ⊎_elim, arith}
use Rattle.std.specs.List.{find, AllByRecursion}
use Rattle.list_facts.proofs.EachLemmas.{Each-find}
use Rattle.pci_command.specs.declared.op_id.OpId.{OpId}
use Rattle.board_model.specs.declared.bridge.Lane.{Lane as BridgeLane}
use Rattle.board_model.specs.declared.bridge.Place.TheVariants.{Lane}
use Rattle.board_model.specs.declared.board.Board.{Board}
use Rattle.board_model.specs.declared.op.Op.{Op}
use Rattle.board_model.specs.Requests.{op_of, request_on, request_of, is_posted}
use Rattle.board_model.specs.Claims.{claim}
use Rattle.board_model.specs.Ways.{end_of, start_of, lane_back}
use Rattle.board_model.specs.form_laws.WayEnds.{rank}
use Rattle.board_model.proofs.form_laws.Laws.{rank-falls}
use Rattle.history_model.specs.declared.event.By.TheVariants.{Lane as ByLane}
use Rattle.history_model.specs.declared.event.Event.{Event}
use Rattle.history_model.specs.declared.item.Carried.{Carried}
use Rattle.history_model.specs.declared.item.Carried.TheVariants.{Ask, Done}
use Rattle.history_model.specs.declared.item.Slot.{Slot}
use Rattle.history_model.specs.Lanes.{has_number, is_done_for}
use Rattle.history_model.specs.Local.{is_ask_of, is_gone_of}
use Rattle.history_model.specs.World.{World, both, is_own, world_of}
use Rattle.history_model.specs.Words.{through}
use Rattle.history_model.specs.Answers.{presents}
use Rattle.history_model.specs.Runs.{Run}
use Rattle.law_lanes.specs.Kinds.{NamesOp, RightKind}
use Rattle.law_lanes.specs.Latched.{LatchedOn, Latched}
use Rattle.law_lanes.specs.Slots.{IsHeldFor, AskNamed, Slots, ask_flies, ask_stands, done_flies, done_stands, gone_flies, HasOneItem}
use Rattle.law_lanes.proofs.Laws.{RightKind-run, Latched-run, HasOneItem-each, delayed-not_parted, Slots-run, CanStand-run}
use Rattle.law_lanes.specs.order.Order.{posts}
use Rattle.law_lanes.specs.progress.Next.{Next}
use Rattle.law_lanes.proofs.progress.SoundLemmas.{Sound, room_at}
use Rattle.law_lanes.proofs.progress.PresentLemmas.{oldest_presented}
use Rattle.law_lanes.proofs.progress.PostLemmas.{lane_wants}
use Rattle.law_lanes.proofs.progress.RefusedLemmas.{full, no_slot, waits, Refused, presented}
use Rattle.law_lanes.proofs.progress.StandLemmas.{NotDone, FirstAsk, ask_or_none}
use Rattle.history_model.proofs.facts.RequestLemmas.{claim_whole}

-- where nothing is, nothing is found
nothing_found : (test : Carried → Bool) (xs : List Carried) (item : Carried) → xs ≡ [] → find test xs ≡ Some item → ⊥
nothing_found test xs item empty is = let nothing : find test [] ≡ Some item = subst (λ ys. find test ys ≡ Some item) empty is in cc

-- of a list that is not empty there is a first
some_first : {X : Type 0} (P : X → Type 0) (xs : List X) → AllByRecursion P xs → 1 ≤ length xs → (x : X) × P x
some_first P [] each some = absurd (omega arith)
some_first P (x ∷ xs) each some = (x, each.0)

module _ (board : Board) (h : List Event) (run : Run board h) (still : (lane : BridgeLane) → (world_of board h lane).flight ≡ []) where
  -- where nothing is in flight and no completion stands, the delayed request of a held slot stands
  pub ask_of_slot : (lane : BridgeLane) (slot : Slot) → AllByRecursion NotDone (world_of board h (lane_back lane)).standing → HasOneItem (both (world_of board h) lane) slot
      → find (is_ask_of slot.number) (world_of board h lane).standing ≡ Some (Ask slot.op slot.number)
  ask_of_slot lane slot no_done has =
      let world : World = world_of board h in
      elim has.somewhere as (λ _. find (is_ask_of slot.number) (world lane).standing ≡ Some (Ask slot.op slot.number)) [
        | ask_flies is ↦ absurd (nothing_found (is_ask_of slot.number) (world lane).flight (Ask slot.op slot.number) (still lane) is)
        | ask_stands is ↦ is
        | done_flies outcome is ↦ absurd (nothing_found (is_done_for slot.number) (world (lane_back lane)).flight (Done slot.op slot.number outcome) (still (lane_back lane)) is)
        | done_stands outcome is ↦ absurd (Each-find NotDone (is_done_for slot.number) (world (lane_back lane)).standing (Done slot.op slot.number outcome) no_done is)
        | gone_flies is ↦ absurd (nothing_found (is_gone_of slot.number) (world (lane_back lane)).flight _ (still (lane_back lane)) is)
      ]

module _ (board : Board) (h : List Event) (run : Run board h) (sound : Sound board) (still : (lane : BridgeLane) → (world_of board h lane).flight ≡ [])
    (no_posts : (lane : BridgeLane) → posts (world_of board h lane).standing ≡ []) (no_dones : (lane : BridgeLane) → AllByRecursion NotDone (world_of board h lane).standing) where
  -- a delayed request is the oldest of a lane, or nothing stands there
  oldest : (lane : BridgeLane) → FirstAsk (world_of board h lane).standing ⊎ ((world_of board h lane).standing ≡ [])
  oldest lane = ask_or_none (world_of board h lane).standing (no_posts lane) (no_dones lane) (CanStand-run board h lane run)

  -- where a lane holds a slot, a delayed request is the oldest
  slot_stands : (lane : BridgeLane) (slot : Slot) → HasOneItem (both (world_of board h) lane) slot → FirstAsk (world_of board h lane).standing
  slot_stands lane slot has =
      let is = ask_of_slot board h run still lane slot (no_dones (lane_back lane)) has in
      ⊎_elim {C = FirstAsk (world_of board h lane).standing}
      (λ first. first)
      (λ (empty : (world_of board h lane).standing ≡ []). absurd (nothing_found (is_ask_of slot.number) (world_of board h lane).standing (Ask slot.op slot.number) empty is))
      (oldest lane)

  -- a delayed request, which the lane on which it stands claimed
  record Goes (lane : BridgeLane) (o : OpId) : Type 0 where
    op : Op
    is_op : op_of board o ≡ Some op
    delayed : is_posted (request_on op (start_of board lane)) ≡ false
    claims : claim board (start_of board lane) (request_on op (start_of board lane)) ≡ Lane lane

  -- as the oldest of a lane is
  goes : (lane : BridgeLane) (first : FirstAsk (world_of board h lane).standing) → Goes lane first.op
  goes lane first =
      let world : World = world_of board h in
      let on : ℕ = start_of board lane in
      let kind : NamesOp board false first.op = (subst (AllByRecursion (RightKind board)) first.is (RightKind-run board h lane run).1).0 in
      let slots : Slots (both world lane) = Slots-run board h lane run in
      let named : IsHeldFor (world lane).held first.number first.op = (subst (AllByRecursion (AskNamed (world lane).held)) first.is slots.asks_standing).0 in
      let latched : LatchedOn board on lane named.slot =
      Each-find (Latched board lane) (has_number first.number) (world lane).held named.slot (Latched-run board h lane sound.distinct sound.single run) named.is_held in
      let is_request : request_of board first.op on ≡ Some latched.request = subst (λ o. request_of board o on ≡ Some latched.request) named.is_for latched.is_request in
      let requested : request_of board first.op on ≡ Some (request_on kind.op on) = rw (kind.is_op) refl in
      let same : latched.request ≡ request_on kind.op on = cc in
      record { op = kind.op; is_op = kind.is_op; delayed = kind.is_posted; claims = subst (λ r. claim board on r ≡ Lane lane) same latched.claims }

  -- the oldest delayed request of a lane has an event, or one of a lane further on has
  ask_goes_on : (n : ℕ) (lane : BridgeLane) → rank board lane < n → FirstAsk (world_of board h lane).standing → Next board h
  ask_goes_on zero lane below first = absurd (omega arith)
  ask_goes_on (suc n) lane below first =
      let world : World = world_of board h in
      let on : ℕ = end_of board lane in
      let o : OpId = first.op in
      let way = goes lane first in
      let shown : presents board on o (world lane).standing ≡ true = subst (λ xs. presents board on o xs ≡ true) (sym first.is) (oldest_presented board on o first.number first.rest) in
      ⊎_elim {C = Next board h}
      (λ next. next)
      (λ (refused : Refused board h on (ByLane lane) o).
      let requested : request_of board o on ≡ Some (request_on way.op on) = rw (way.is_op) refl in
      let same : refused.request ≡ request_on way.op on = let is = refused.is_request in cc in
      let delayed : is_posted refused.request ≡ false = subst (λ r. is_posted r ≡ false) (sym same) way.delayed in
      let none : through h o ≡ 0 = delayed-not_parted board h o on refused.request sound.single run refused.is_request delayed in
      let claims : claim board on refused.request ≡ Lane refused.lane = claim_whole board on refused.request (through h o) (Lane refused.lane) none refused.claims in
      let second : claim board on (request_on way.op on) ≡ Lane refused.lane = subst (λ r. claim board on r ≡ Lane refused.lane) same claims in
      let falls : rank board refused.lane < rank board lane = rank-falls board way.op (start_of board lane) lane refused.lane sound.tree (record { first = way.claims; second = second }) in
      let room = room_at board refused.lane.bus refused.bridge sound refused.is_bridge in
      let Has : Slot → Type 0 = HasOneItem (both world refused.lane) in
      let each : AllByRecursion Has (world refused.lane).held = HasOneItem-each (both world refused.lane) (Slots-run board h refused.lane run) in
      let ahead : (slot : Slot) → Has slot → Next board h = λ slot has. ask_goes_on n refused.lane (omega (arith, falls, below)) (slot_stands refused.lane slot has) in
      elim refused.why as (λ _. Next board h) [
        | full posted _ ↦ cc
        | no_slot _ _ deep ↦ let held = some_first Has (world refused.lane).held each (omega (arith, room.1, deep)) in ahead held.0 held.1
        | waits _ slot is _ _ ↦ ahead slot (Each-find Has (is_own board on (ByLane lane) o) (world refused.lane).held slot each is)
      ])
      (presented board h on (ByLane lane) o (lane_wants board h lane o shown))

  -- a delayed request that stands on a lane makes a next event, or nothing stands there
  pub ask_next : (lane : BridgeLane) → Next board h ⊎ ((world_of board h lane).standing ≡ [])
  ask_next lane =
      ⊎_elim {C = Next board h ⊎ ((world_of board h lane).standing ≡ [])}
      (λ (first : FirstAsk (world_of board h lane).standing). inl (ask_goes_on (suc (rank board lane)) lane (omega arith) first))
      (λ (empty : (world_of board h lane).standing ≡ []). inr empty)
      (oldest lane)
