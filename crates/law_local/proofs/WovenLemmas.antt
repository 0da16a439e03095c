-- Events of all buses, each allowed by what its bus knows and each arrival after its sending, are a run.
use Rattle.std.proofs.Common.{◌≡◌, ◌≢◌, ℕ, ◌+◌, Bool, true, false, cond, ◌==◌, eqb, List, [], ◌∷◌, ◌++◌, length, Some, refl, sym, ap, subst, ◌∙◌, arith}
use Rattle.std.proofs.lemmas.Bool.{eqb-true, eqb-false, eq-eqb, and_parts}
use Rattle.std.proofs.lemmas.List.{length-append}
use Rattle.pci_command.specs.declared.op_id.OpId.{OpId}
use Rattle.board_model.specs.declared.bridge.Lane.{Lane as BridgeLane}
use Rattle.board_model.specs.declared.board.Board.{Board}
use Rattle.board_model.specs.Ways.{start_of, end_of}
use Rattle.history_model.specs.declared.event.By.{By}
use Rattle.history_model.specs.declared.event.By.TheVariants.{Lane as ByLane}
use Rattle.history_model.specs.declared.event.Mark.{Mark}
use Rattle.history_model.specs.declared.event.Event.{Event}
use Rattle.history_model.specs.declared.event.Event.TheVariants.{Act, Arrive}
use Rattle.history_model.specs.declared.item.Carried.{Carried}
use Rattle.history_model.specs.declared.item.Carried.TheVariants.{Post, Ask, Done, Room, Gone}
use Rattle.history_model.specs.Lanes.{LaneState, empty_lane}
use Rattle.history_model.specs.World.{World, after, world_of}
use Rattle.history_model.specs.Answers.{presents, wants}
use Rattle.history_model.specs.Runs.{mark_of, mark_of_first, Allowed, Run}
use Rattle.history_model.specs.Local.{bus_of, local_world}
use Rattle.law_local.specs.Known.{events_on, coming_to, BetweenBuses, known, AllJoint, JointRun}
use Rattle.law_local.specs.Woven.{IsTimely, IsSent, Woven, AllWoven}
use Rattle.law_local.proofs.EventLemmas.{replaced, act_joint, arrive_joint, IsFront, Joints-alike}
use Rattle.law_local.proofs.TransferLemmas.{wants_local}
use Rattle.law_local.proofs.ApartLemmas.{IsFit, something_apart, place_apart}
use Rattle.law_local.proofs.AnswerLemmas.{answer_local}
use Rattle.law_lanes.proofs.Laws.{wants-at}

-- nothing is presented of nothing
nothing_presented : (board : Board) (bus : ℕ) (o : OpId) (standing : List Carried) → standing ≡ [] → presents board bus o standing ≡ true → ⊥
nothing_presented board bus o standing none presented =
    let F : List Carried → Type 0 = λ xs. presents board bus o xs ≡ true in
    let none_presented : false ≡ true = subst F none presented in cc

module _ (board : Board) (sent : BridgeLane → List Carried) where
  -- a bus knows its own event, and no other bus does
  known_here : (e : Event) (h : List Event) (bus : ℕ) (l : BridgeLane) → bus_of board e ≡ bus → known board sent bus (e ∷ h) l ≡ after board (known board sent bus h) e l
  known_here e h bus l is =
      let test : eqb (bus_of board e) bus ≡ true = eq-eqb (bus_of board e) bus is in
      let K : List Event → LaneState = λ p. local_world board (coming_to board bus sent) p l in
      let P : Bool → Type 0 = λ b. eqb (bus_of board e) bus ≡ b → K (cond b (e ∷ events_on board bus h) (events_on board bus h)) ≡ after board (known board sent bus h) e l in
      (elim (eqb (bus_of board e) bus) as P [ true ↦ λ _. refl | false ↦ λ no_test. let wrong : true ≡ false = sym test ∙ no_test in cc ]) refl

  known_elsewhere : (e : Event) (h : List Event) (bus : ℕ) (l : BridgeLane) → bus_of board e ≢ bus → known board sent bus (e ∷ h) l ≡ known board sent bus h l
  known_elsewhere e h bus l differ =
      let K : List Event → LaneState = λ p. local_world board (coming_to board bus sent) p l in
      let P : Bool → Type 0 = λ b. eqb (bus_of board e) bus ≡ b → K (cond b (e ∷ events_on board bus h) (events_on board bus h)) ≡ known board sent bus h l in
      (elim (eqb (bus_of board e) bus) as P [ true ↦ λ same. absurd (differ (eqb-true (bus_of board e) bus same)) | false ↦ λ _. refl ]) refl

  -- the worlds of the buses after an event
  known_after : (e : Event) (h : List Event) (bus n : ℕ) (l : BridgeLane) → bus_of board e ≡ bus
      → replaced (λ m. known board sent m h) bus (after board (known board sent bus h) e) n l ≡ known board sent n (e ∷ h) l
  known_after e h bus n l is =
      let P : Bool → Type 0 = λ b. eqb n bus ≡ b → (cond b (after board (known board sent bus h) e) (known board sent n h)) l ≡ known board sent n (e ∷ h) l in
      (elim (eqb n bus) as P [
        | true ↦ λ test.
            let same : n ≡ bus = eqb-true n bus test in
            subst (λ m. after board (known board sent bus h) e l ≡ known board sent m (e ∷ h) l) (sym same) (sym (known_here e h bus l is))
        | false ↦ λ test. sym (known_elsewhere e h n l (λ same. eqb-false n bus test (sym same ∙ is)))
      ]) refl

  -- what the bus sent by its event and before is a front of what is ever sent
  fronts : (e : Event) (h : List Event) (bus : ℕ) → bus_of board e ≡ bus → IsSent board sent bus (e ∷ h) → (l : BridgeLane) → start_of board l ≡ bus → IsFront (sent l) (after board (known board sent bus h) e l)
  fronts e h bus is sends l starts = subst (IsFront (sent l)) (known_here e h bus l is) (sends l starts)

  module _ (fit : IsFit board) where
    -- a lane that presents ends on the bus and does not begin there
    ends_there : (h : List Event) (bus : ℕ) (by : By) (o : OpId) → Run board h → wants board h bus by o ≡ true → (lane : BridgeLane) → by ≡ ByLane lane → (end_of board lane ≡ bus) × (start_of board lane ≢ bus)
    ends_there h bus by o run wanted lane is =
        let wants_lane : wants board h bus (ByLane lane) o ≡ true = subst (λ b. wants board h bus b o ≡ true) is wanted in
        let ends : end_of board lane ≡ bus = wants-at board h bus (ByLane lane) o wants_lane in
        let st : List Carried = (world_of board h lane).standing in
        let presented : presents board bus o st ≡ true = (and_parts (end_of board lane == bus) (presents board bus o st) wants_lane).1 in
        let apart = something_apart board h lane fit.tree run (λ none. nothing_presented board bus o st (ap (λ (s : LaneState). s.standing) none) presented) in
        (ends, λ same. apart (ends ∙ sym same))

    -- an item that comes in time is in flight
    in_flight : (h : List Event) (lane : BridgeLane) (mark : Mark) → AllJoint board sent h → IsTimely board sent h (Arrive lane mark) → (world_of board h lane).flight ≢ []
    in_flight h lane mark joint timely none =
        let j = joint lane in
        let near : LaneState = known board sent (start_of board lane) h lane in
        let far : LaneState = known board sent (end_of board lane) h lane in
        let later_is : j.later ≡ far.flight = ap (λ l. l ++ j.later) (sym none) ∙ j.flight in
        let all : length near.flight + length j.later ≡ length (sent lane) = sym (length-append near.flight j.later) ∙ ap length j.sent in
        let same : length j.later ≡ length far.flight = ap length later_is in
        absurd (omega (arith, all, same, timely))

    -- an arrival is marked alike, whatever is still to be sent behind it
    arrive_mark : (lane : BridgeLane) (w x : LaneState) (later flight : List Carried) (mark : Mark) → flight ≢ [] → w.asks ≡ x.asks → w.dones ≡ x.dones → mark_of_first board lane x (flight ++ later) ≡ Some mark → mark_of_first board lane w flight ≡ Some mark
    arrive_mark lane w x later [] mark some asks dones is = absurd (some refl)
    arrive_mark lane w x later (item ∷ rest) mark some asks dones is = ap Some (marks lane w x item asks dones) ∙ is
      where
        marks : (lane : BridgeLane) (w x : LaneState) (item : Carried) → w.asks ≡ x.asks → w.dones ≡ x.dones → mark_of board lane w item ≡ mark_of board lane x item
        marks lane w x (Post op) asks dones = refl
        marks lane w x (Ask op slot) asks dones = ap (λ n. mark_of board lane (record empty_lane { asks = n }) (Ask op slot)) asks
        marks lane w x (Done op slot outcome) asks dones = ap (λ n. mark_of board lane (record empty_lane { dones = n }) (Done op slot outcome)) dones
        marks lane w x Room asks dones = refl
        marks lane w x (Gone slot) asks dones = refl

    -- an event that its bus allows by what it knows is allowed
    event_allowed : (h : List Event) (e : Event) → Run board h → AllJoint board sent h → Woven board sent e h → Allowed board h e
    event_allowed h (Act bus by o step place) run joint woven =
        let wanted : wants board h bus by o ≡ true = wants_local board sent h bus joint run by o ∙ woven.allowed.0 in
        (wanted, answer_local board fit sent h bus joint run by o wanted ∙ woven.allowed.1)
    event_allowed h (Arrive lane mark) run joint woven =
        let j = joint lane in
        let w : LaneState = world_of board h lane in
        let x : LaneState = known board sent (end_of board lane) h lane in
        let some = in_flight h lane mark joint woven.timely in
        let marked : mark_of_first board lane x (w.flight ++ j.later) ≡ Some mark = ap (mark_of_first board lane x) j.flight ∙ woven.allowed in
        arrive_mark lane w x j.later w.flight mark some j.asks j.dones marked

    -- after it the lanes are what the buses know
    event_joint : (h : List Event) (e : Event) → Run board h → AllJoint board sent h → Woven board sent e h → AllJoint board sent (e ∷ h)
    event_joint h (Act bus by o step place) run joint woven =
        let e : Event = Act bus by o step place in
        let allowed = event_allowed h e run joint woven in
        let knows : ℕ → World = λ n. known board sent n h in
        let done = act_joint board sent (world_of board h) knows bus by o step place (place_apart board fit (world_of board h) h bus by o step place allowed.1) (ends_there h bus by o run allowed.0) (fronts e h bus refl woven.sends) joint in
        Joints-alike board sent (after board (world_of board h) e) (world_of board (e ∷ h)) (replaced knows bus (after board (knows bus) e)) (λ n. known board sent n (e ∷ h)) (λ l. refl) (λ n l. known_after e h bus n l refl) done
    event_joint h (Arrive lane mark) run joint woven =
        let e : Event = Arrive lane mark in
        let bus : ℕ = end_of board lane in
        let knows : ℕ → World = λ n. known board sent n h in
        let some = in_flight h lane mark joint woven.timely in
        let apart = something_apart board h lane fit.tree run (λ none. some (ap (λ (s : LaneState). s.flight) none)) in
        let done = arrive_joint board sent (world_of board h) knows lane mark (λ same. apart (sym same)) some (fronts e h bus refl woven.sends) joint in
        Joints-alike board sent (after board (world_of board h) e) (world_of board (e ∷ h)) (replaced knows bus (after board (knows bus) e)) (λ n. known board sent n (e ∷ h)) (λ l. refl) (λ n l. known_after e h bus n l refl) done

    -- nothing is ever sent on a lane that begins where it ends
    first_joint : BetweenBuses board sent → AllJoint board sent []
    first_joint between lane =
        let far : List Carried = coming_to board (end_of board lane) sent lane in
        let near : List Carried = coming_to board (start_of board lane) sent lane in
        let self : eqb (end_of board lane) (end_of board lane) ≡ true = eq-eqb (end_of board lane) (end_of board lane) refl in
        let far_is : far ≡ sent lane = rw self refl in
        let P : Bool → Type 0 = λ b. eqb (end_of board lane) (start_of board lane) ≡ b → cond b (sent lane) [] ≡ [] in
        let near_is : near ≡ [] = (elim (eqb (end_of board lane) (start_of board lane)) as P [ true ↦ λ same. between lane (eqb-true (end_of board lane) (start_of board lane) same) | false ↦ λ _. refl ]) refl in
        record {
          asks = refl;
          dones = refl;
          standing = refl;
          held = refl;
          owed = refl;
          later = sent lane;
          flight = sym far_is;
          sent = ap (λ l. l ++ sent lane) near_is;
        }

    -- so the whole is a run, and every bus knows its part, by induction on the events
    pub woven_run : BetweenBuses board sent → (h : List Event) → AllWoven board sent h → JointRun board sent h
    woven_run between [] woven = record { run = tt; joint = first_joint between }
    woven_run between (e ∷ h) woven =
        let old = woven_run between h woven.1 in
        record { run = (event_allowed h e old.run old.joint woven.0, old.run); joint = event_joint h e old.run old.joint woven.0 }
