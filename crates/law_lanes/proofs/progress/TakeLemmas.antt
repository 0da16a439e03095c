-- Where no posted write stands and a completion does, it is taken.
use Rattle.std.proofs.Common.{◌≡◌, ℕ, ◌+◌, ◌≤◌, Bool, true, false, ◌==◌, cond, eqb, List, [], ◌∷◌, Some, is_some, refl, sym, ap, subst, ◌∙◌, ◌⊎◌, inl, inr, ⊎_elim, arith, slice_get}
use Rattle.std.specs.List.{find, list_all, AllByRecursion}
use Rattle.std.proofs.lemmas.Bool.{eqb-true}
use Rattle.std.proofs.lemmas.Bool.Decides.{nat_tests}
use Rattle.list_facts.specs.Lists.{before, total}
use Rattle.list_facts.proofs.TotalLemmas.{found, found-le}
use Rattle.list_facts.proofs.EachLemmas.{Each-find}
use Rattle.list_facts.proofs.FindLemmas.{find_passes}
use Rattle.pci_command.specs.declared.request.Request.{Request}
use Rattle.pci_command.specs.declared.op_id.OpId.{OpId}
use Rattle.pci_command.specs.declared.op_id.Outcome.{Outcome}
use Rattle.pci_command.specs.Command.{is_read}
use Rattle.board_model.specs.declared.bridge.Lane.{Lane as BridgeLane}
use Rattle.board_model.specs.declared.bridge.Place.TheVariants.{Lane}
use Rattle.board_model.specs.declared.board.Board.{Board}
use Rattle.board_model.specs.Requests.{request_of, is_posted, same_requests}
use Rattle.board_model.specs.Claims.{claim}
use Rattle.board_model.specs.Ways.{end_of, start_of, lane_back}
use Rattle.history_model.specs.declared.event.By.{By}
use Rattle.history_model.specs.declared.event.By.TheVariants.{Master, Lane as ByLane}
use Rattle.history_model.specs.declared.event.Step.TheVariants.{Take}
use Rattle.history_model.specs.declared.event.Event.{Event}
use Rattle.history_model.specs.declared.item.Carried.{Carried}
use Rattle.history_model.specs.declared.item.Carried.TheVariants.{Done}
use Rattle.history_model.specs.declared.item.Slot.{Slot}
use Rattle.history_model.specs.declared.item.Answer.TheVariants.{Gives, Retry}
use Rattle.history_model.specs.declared.item.Cause.{Cause}
use Rattle.history_model.specs.declared.item.Cause.TheVariants.{Behind}
use Rattle.history_model.specs.Lanes.{has_number, is_done_for}
use Rattle.history_model.specs.World.{World, both, same_initiator, is_own, world_of}
use Rattle.history_model.specs.Program.{turn_of}
use Rattle.history_model.specs.Words.{through}
use Rattle.history_model.specs.Answers.{is_on, is_turn, presents, wants, completion_passes, completion_answer}
use Rattle.history_model.specs.Runs.{Run}
use Rattle.law_lanes.specs.Slots.{IsHeldFor, DoneNamed, Slots}
use Rattle.law_lanes.specs.Latched.{IsAt, LatchedOn, Latched}
use Rattle.law_lanes.specs.Owners.{Waits, Owners}
use Rattle.law_lanes.specs.Standing.{CanStand}
use Rattle.history_model.proofs.facts.EqualLemmas.{same_initiator-self, same_requests-self}
use Rattle.list_facts.proofs.FoundLemmas.{Each-found}
use Rattle.law_lanes.proofs.Laws.{Latched-run, Owners-run, delayed-not_parted, Slots-run, CanStand-run}
use Rattle.history_model.proofs.facts.RequestLemmas.{same_op_self, claim_whole}
use Rattle.law_lanes.specs.order.Order.{posts}
use Rattle.law_lanes.specs.progress.Next.{Next}
use Rattle.law_lanes.proofs.progress.SoundLemmas.{Sound}
use Rattle.law_lanes.proofs.progress.PresentLemmas.{ask_presented}
use Rattle.law_lanes.proofs.progress.PostLemmas.{joined}
use Rattle.law_lanes.proofs.progress.RefusedLemmas.{Refusal, full, no_slot, waits, Refused, presented}
use Rattle.law_lanes.proofs.progress.StandLemmas.{none_before, NotDone, SomeDone, done_or_none}

-- where at most one element passes, the first that passes is any that passes
one_found : {X : Type 0} (test other : X → Bool) (xs : List X) (x y : X) → total (λ z. cond (test z) 1 0) xs ≤ 1
    → find test xs ≡ Some x → find other xs ≡ Some y → test y ≡ true → x ≡ y
one_found test other [] x y one is_x is_y passes = cc
one_found {X} test other (z ∷ xs) x y one is_x is_y passes =
    let count : X → ℕ = λ w. cond (test w) 1 0 in
    let counts : count y ≡ 1 = rw passes refl in
    let P : Bool → Type 0 = λ b. test z ≡ b → cond b 1 0 + total count xs ≤ 1 → cond b (Some z) (find test xs) ≡ Some x → x ≡ y in
    let Q : Bool → Type 0 = λ b. other z ≡ b → cond b (Some z) (find other xs) ≡ Some y → z ≡ y in
    let R : Bool → Type 0 = λ b. other z ≡ b → cond b (Some z) (find other xs) ≡ Some y → test z ≡ false → total count xs ≤ 1 → find test xs ≡ Some x → x ≡ y in
    (elim (test z) as P [
      | true ↦ λ _ few e.
          let here : z ≡ x = cc in
          let same : z ≡ y = (elim (other z) as Q [
            | true ↦ λ _ f. cc
            | false ↦ λ _ f. let inside : found count (find other xs) ≡ count y = ap (found count) f in absurd (omega (arith, few, inside, counts, found-le count other xs))
          ]) refl is_y in
          sym here ∙ same
      | false ↦ λ fails few e. (elim (other z) as R [
        | true ↦ λ _ f fails few e. let same : z ≡ y = cc in let no : test y ≡ false = subst (λ w. test w ≡ false) same fails in cc
        | false ↦ λ _ f _ few e. one_found test other xs x y few e f passes
      ]) refl is_y fails (omega (arith, few)) e
    ]) refl one is_x

-- a completion that may pass all that stands before it is not refused
never_refused : (board : Board) (read : Bool) (lane : BridgeLane) (older : List Carried) (op : OpId) (number : ℕ) (outcome : Outcome) (cause : Cause)
    → list_all (completion_passes board read) older ≡ true → completion_answer board read lane older (Some (Done op number outcome)) ≡ Retry cause → ⊥
never_refused board read lane older op number outcome cause passes refuses =
    let given : Gives (Take outcome) (Lane lane) ≡ Retry cause = subst (λ b. cond b (Gives (Take outcome) (Lane lane)) (Retry Behind) ≡ Retry cause) passes refuses in
    cc

-- the completion for the slot of this number is refused
abbrev RefusesAt : Board → Bool → BridgeLane → List Carried → Cause → ℕ → Type 0
RefusesAt board read lane coming cause number = completion_answer board read lane (before (is_done_for number) coming) (find (is_done_for number) coming) ≡ Retry cause

-- it is not, where it stands and no posted write does
done_given : (board : Board) (read : Bool) (lane : BridgeLane) (coming : List Carried) (some : SomeDone coming) (cause : Cause) → posts coming ≡ [] → AllByRecursion CanStand coming
    → RefusesAt board read lane coming cause some.number → ⊥
done_given board read lane coming some cause none stands refuses =
    let older : List Carried = before (is_done_for some.number) coming in
    let by_done = subst (λ item. completion_answer board read lane older item ≡ Retry cause) some.is refuses in
    never_refused board read lane older some.op some.number some.outcome cause (none_before board read (is_done_for some.number) coming none stands) by_done

module _ (board : Board) (h : List Event) (run : Run board h) (sound : Sound board) (no_posts : (lane : BridgeLane) → posts (world_of board h lane).standing ≡ []) where
  -- who waits for a slot presents its operation
  waits_wants : (on : ℕ) (by : By) (o : OpId) (request : Request) → request_of board o on ≡ Some request → IsAt board on by o → Waits board (turn_of board h) (world_of board h) on by o
      → wants board h on by o ≡ true
  waits_wants on Master o request is_request at waiting =
      let self : is_turn o (Some o) ≡ true = same_op_self o in
      let turn : is_turn o (turn_of board h o.master) ≡ true = subst (λ t. is_turn o t ≡ true) (sym waiting) self in
      joined (is_on on (slice_get board.masters o.master)) (is_turn o (turn_of board h o.master)) at turn
  waits_wants on (ByLane k) o request is_request at waiting =
      let standing : List Carried = (world_of board h k).standing in
      let ends : eqb (end_of board k) on ≡ true = grind (arith, nat_tests) in
      let shown : presents board on o standing ≡ true =
      ask_presented board on o waiting.number standing (same_requests-self board on o request is_request) (no_posts k) (CanStand-run board h k run) waiting.first in
      joined (end_of board k == on) (presents board on o standing) ends shown

  -- a slot of this number is held at the lane, and who latched it waits for it
  record Awaited (lane : BridgeLane) (number : ℕ) : Type 0 where
    slot : Slot
    is_held : find (has_number number) (world_of board h lane).held ≡ Some slot
    latched : LatchedOn board (start_of board lane) lane slot
    waiting : Waits board (turn_of board h) (world_of board h) (start_of board lane) slot.by slot.op

  -- so it is where the completion for the slot stands
  done_awaited : (lane : BridgeLane) (some : SomeDone (world_of board h (lane_back lane)).standing) → Awaited lane some.number
  done_awaited lane some =
      let world : World = world_of board h in
      let held : List Slot = (world lane).held in
      let slots : Slots (both world lane) = Slots-run board h lane run in
      let named : IsHeldFor held some.number some.op =
      Each-find (DoneNamed held) (is_done_for some.number) (world (lane_back lane)).standing (Done some.op some.number some.outcome) slots.dones_standing some.is in
      let owners : Owners board (turn_of board h) world = Owners-run board sound.distinct sound.single h run in
      let W : Slot → Type 0 = λ slot. Waits board (turn_of board h) world (start_of board lane) slot.by slot.op in
      record {
        slot = named.slot;
        is_held = named.is_held;
        latched = Each-find (Latched board lane) (has_number some.number) held named.slot (Latched-run board h lane sound.distinct sound.single run) named.is_held;
        waiting = Each-find W (has_number some.number) held named.slot (owners.waits lane) named.is_held;
      }

  -- the slot is the own one of who waits
  awaited_own : (lane : BridgeLane) (number : ℕ) (awaited : Awaited lane number) → is_own board (start_of board lane) awaited.slot.by awaited.slot.op awaited.slot ≡ true
  awaited_own lane number awaited =
      let on : ℕ = start_of board lane in
      let slot : Slot = awaited.slot in
      joined (same_initiator slot.by slot.op slot.by slot.op) (same_requests board on slot.op slot.op) (same_initiator-self slot.by slot.op)
      (same_requests-self board on slot.op awaited.latched.request awaited.latched.is_request)

  -- the lane that refuses would be this one
  refused_here : (lane : BridgeLane) (number : ℕ) (awaited : Awaited lane number) (refused : Refused board h (start_of board lane) awaited.slot.by awaited.slot.op)
      → (is_posted refused.request ≡ false) × (refused.lane ≡ lane)
  refused_here lane number awaited refused =
      let on : ℕ = start_of board lane in
      let o : OpId = awaited.slot.op in
      let latched = awaited.latched in
      let same : latched.request ≡ refused.request = let a = latched.is_request in let b = refused.is_request in cc in
      let delayed : is_posted refused.request ≡ false = subst (λ r. is_posted r ≡ false) same latched.delayed in
      let none : through h o ≡ 0 = delayed-not_parted board h o on refused.request sound.single run refused.is_request delayed in
      let claims : claim board on refused.request ≡ Lane refused.lane = claim_whole board on refused.request (through h o) (Lane refused.lane) none refused.claims in
      let claims_here : claim board on refused.request ≡ Lane lane = subst (λ r. claim board on r ≡ Lane lane) same latched.claims in
      (delayed, cc)

  -- and who waits is not refused, as the completion stands
  none_refused : (lane : BridgeLane) (some : SomeDone (world_of board h (lane_back lane)).standing) (awaited : Awaited lane some.number)
      → Refused board h (start_of board lane) awaited.slot.by awaited.slot.op → ⊥
  none_refused lane some awaited refused =
      let world : World = world_of board h in
      let held : List Slot = (world lane).held in
      let coming : List Carried = (world (lane_back lane)).standing in
      let slot : Slot = awaited.slot in
      let test : Slot → Bool = is_own board (start_of board lane) slot.by slot.op in
      let own : test slot ≡ true = awaited_own lane some.number awaited in
      let here = refused_here lane some.number awaited refused in
      let delayed : is_posted refused.request ≡ false = here.0 in
      let why = subst (λ l. Refusal board refused.bridge (world l).owed (world l).held (world (lane_back l)).standing l refused.request (find test (world l).held)) here.1 refused.why in
      elim why as (λ _. ⊥) [
        | full posted _ ↦ cc
        | no_slot _ missing _ ↦
            let F : Slot → Type 0 = λ s. test s ≡ true → is_some (find test held) ≡ true in
            let there : is_some (find test held) ≡ true = Each-find F (has_number some.number) held slot (Each-found test held) awaited.is_held own in
            let nowhere : is_some (find test held) ≡ false = ap is_some missing in
            cc
        | waits _ other is cause refuses ↦
            let owners : Owners board (turn_of board h) world = Owners-run board sound.distinct sound.single h run in
            let one : other ≡ slot = one_found test (has_number some.number) held other slot (owners.one_own lane slot.by slot.op) is awaited.is_held own in
            let number : other.number ≡ some.number = ap (λ (s : Slot). s.number) one ∙ eqb-true slot.number some.number (find_passes (has_number some.number) held slot awaited.is_held) in
            done_given board (is_read refused.request.command) lane coming some cause (no_posts (lane_back lane)) (CanStand-run board h (lane_back lane) run)
            (subst (RefusesAt board (is_read refused.request.command) lane coming cause) number refuses)
      ]

  -- the completion for a lane's slot is taken
  done_taken : (lane : BridgeLane) → SomeDone (world_of board h (lane_back lane)).standing → Next board h
  done_taken lane some =
      let awaited : Awaited lane some.number = done_awaited lane some in
      let slot : Slot = awaited.slot in
      let on : ℕ = start_of board lane in
      ⊎_elim {C = Next board h}
      (λ next. next)
      (λ (refused : Refused board h on slot.by slot.op). absurd (none_refused lane some awaited refused))
      (presented board h on slot.by slot.op (waits_wants on slot.by slot.op awaited.latched.request awaited.latched.is_request awaited.latched.initiator awaited.waiting))

  -- a completion that stands on the lane back makes a next event, or none stands there
  pub take_next : (lane : BridgeLane) → Next board h ⊎ AllByRecursion NotDone (world_of board h (lane_back lane)).standing
  take_next lane =
      let coming : List Carried = (world_of board h (lane_back lane)).standing in
      ⊎_elim {C = Next board h ⊎ AllByRecursion NotDone coming}
      (λ (some : SomeDone coming). inl (done_taken lane some))
      (λ (none : AllByRecursion NotDone coming). inr none)
      (done_or_none coming)
