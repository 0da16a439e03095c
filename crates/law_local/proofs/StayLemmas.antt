-- An event on one bus leaves what is presented on every other bus, and how it is answered.
use Rattle.std.proofs.Common.{◌≡◌, ◌≢◌, ℕ, Bool, true, false, cond, ◌&&◌, eqb, List, ◌∷◌, length, ◌≤◌, Option, Some, None, ◌⊎◌, inl, inr, refl, sym, ap, subst, ◌∙◌, arith, slice_get}
use Rattle.std.specs.List.{find}
use Rattle.std.proofs.lemmas.Bool.{eqb-true}
use Rattle.pci_command.specs.declared.request.Request.{Request}
use Rattle.pci_command.specs.declared.op_id.OpId.{OpId}
use Rattle.pci_command.specs.Command.{is_read}
use Rattle.board_model.specs.declared.agents.Target.{Target as TargetAgent}
use Rattle.board_model.specs.declared.bridge.Bridge.{Bridge}
use Rattle.board_model.specs.declared.bridge.Lane.{Lane as BridgeLane}
use Rattle.board_model.specs.declared.bridge.Place.{Place}
use Rattle.board_model.specs.declared.bridge.Place.TheVariants.{Target, Header, Lane, Nobody}
use Rattle.board_model.specs.declared.board.Board.{Board}
use Rattle.board_model.specs.Requests.{phases_of, request_of, is_posted}
use Rattle.board_model.specs.Claims.{claim}
use Rattle.board_model.specs.Ways.{start_of, end_of, lane_back}
use Rattle.history_model.specs.declared.event.By.{By}
use Rattle.history_model.specs.declared.event.By.TheVariants.{Master, Lane as ByLane}
use Rattle.history_model.specs.declared.event.Event.{Event}
use Rattle.history_model.specs.declared.item.Carried.{Carried}
use Rattle.history_model.specs.declared.item.Slot.{Slot}
use Rattle.history_model.specs.declared.item.Answer.{Answer}
use Rattle.history_model.specs.World.{World, is_own, world_of}
use Rattle.history_model.specs.Program.{turn_of}
use Rattle.history_model.specs.Words.{through, without}
use Rattle.history_model.specs.Answers.{is_on, is_turn, presents, bridge_to, wants, delayed_answer, posted_answer, lane_answer, target_answer, answer_by, answer_to}
use Rattle.history_model.specs.Runs.{Run}
use Rattle.history_model.specs.Local.{bus_of}
use Rattle.history_model.proofs.facts.RequestLemmas.{request_is_of}
use Rattle.history_model.proofs.facts.PostedLemmas.{IsTarget, write_not_read, memory_no_header}
use Rattle.law_lanes.proofs.Laws.{delayed-not_parted, claim_starts}
use Rattle.law_lanes.specs.order.Order.{is_posted_op}
use Rattle.law_lanes.proofs.order.Laws.{op_is_posted, Short, Short-run, claims_from}
use Rattle.law_local.specs.Known.{events_on}
use Rattle.law_local.specs.Stays.{Stays}
use Rattle.law_local.proofs.JointLemmas.{end_back}
use Rattle.law_local.proofs.TransferLemmas.{turn_local}
use Rattle.law_local.proofs.ApartLemmas.{IsFit, IsFit-valid}
use Rattle.law_local.proofs.ThroughLemmas.{through_on}
use Rattle.law_local.proofs.AnswerLemmas.{target_answer_local, gone_local}
use Rattle.law_local.proofs.FrameLemmas.{Frames, event_frame}
use Rattle.board_model.specs.Valid.{IsValid}

-- on another bus nothing is added
same_events : (board : Board) (bus : ℕ) (h : List Event) (e : Event) → bus_of board e ≢ bus → events_on board bus (e ∷ h) ≡ events_on board bus h
same_events board bus h e apart =
    let P : Bool → Type 0 = λ b. eqb (bus_of board e) bus ≡ b → cond b (e ∷ events_on board bus h) (events_on board bus h) ≡ events_on board bus h in
    (elim (eqb (bus_of board e) bus) as P [ true ↦ λ same. absurd (apart (eqb-true (bus_of board e) bus same)) | false ↦ λ _. refl ]) refl

-- a target claims or not
claimed_by_target : (place : Place) → IsTarget place ⊎ (IsTarget place → ⊥)
claimed_by_target (Target t) = inl tt
claimed_by_target (Header n) = inr (λ e. e)
claimed_by_target (Lane lane) = inr (λ e. e)
claimed_by_target Nobody = inr (λ e. e)

module _ (board : Board) (fit : IsFit board) (bus : ℕ) (h : List Event) (e : Event) (run : Run board (e ∷ h)) (apart : bus_of board e ≢ bus) where
  -- what is on the lanes, and the masters' turns
  frames : Frames board bus (world_of board h) (world_of board (e ∷ h))
  frames = event_frame board fit bus h e run.0 apart

  turn_stays : (m : ℕ) → is_on bus (slice_get board.masters m) ≡ true → turn_of board (e ∷ h) m ≡ turn_of board h m
  turn_stays m there =
      turn_local board m bus there (e ∷ h) run ∙ (ap (λ p. turn_of board p m) (same_events board bus h e apart) ∙ sym (turn_local board m bus there h run.1))

  -- who presents what
  wants_stays : (by : By) (o : OpId) → wants board (e ∷ h) bus by o ≡ wants board h bus by o
  wants_stays Master o =
      let P : Bool → Type 0 = λ b. is_on bus (slice_get board.masters o.master) ≡ b → (b && is_turn o (turn_of board (e ∷ h) o.master)) ≡ (b && is_turn o (turn_of board h o.master)) in
      (elim (is_on bus (slice_get board.masters o.master)) as P [
        | true ↦ λ there. ap (is_turn o) (turn_stays o.master there)
        | false ↦ λ _. refl
      ]) refl
  wants_stays (ByLane lane) o =
      let P : Bool → Type 0 = λ b. eqb (end_of board lane) bus ≡ b → (b && presents board bus o (world_of board (e ∷ h) lane).standing) ≡ (b && presents board bus o (world_of board h lane).standing) in
      (elim (eqb (end_of board lane) bus) as P [
        | true ↦ λ there. ap (presents board bus o) ((frames lane).standing (eqb-true (end_of board lane) bus there))
        | false ↦ λ _. refl
      ]) refl

  -- how a bridge answers that claims
  lane_stays : (by : By) (o : OpId) (request : Request) (lane : BridgeLane) (found : Option Bridge) → start_of board lane ≡ bus
      → lane_answer board (world_of board (e ∷ h)) bus by o request lane found ≡ lane_answer board (world_of board h) bus by o request lane found
  lane_stays by o request lane None starts = refl
  lane_stays by o request lane (Some bridge) starts =
      let v : World = world_of board (e ∷ h) in
      let w : World = world_of board h in
      let coming : (v (lane_back lane)).standing ≡ (w (lane_back lane)).standing = (frames (lane_back lane)).standing (end_back board lane ∙ starts) in
      let A : ℕ → List Slot → List Carried → Answer = λ owed held standing.
      cond (is_posted request) (posted_answer owed bridge.posted lane) (delayed_answer board (is_read request.command) bridge.delayed lane held standing (find (is_own board bus by o) held)) in
      ap (λ owed. A owed (v lane).held (v (lane_back lane)).standing) ((frames lane).owed starts)
      ∙ (ap (λ held. A (w lane).owed held (v (lane_back lane)).standing) ((frames lane).held starts) ∙ ap (A (w lane).owed (w lane).held) coming)

  -- how a target answers that claims
  target_stays : (t : ℕ) (request : Request) → claim board bus request ≡ Target t → target_answer board (e ∷ h) t request (slice_get board.targets t) ≡ target_answer board h t request (slice_get board.targets t)
  target_stays t request claims =
      let found : Option TargetAgent = slice_get board.targets t in
      target_answer_local board fit (e ∷ h) bus t request found refl run claims
      ∙ (ap (λ p. target_answer board p t request found) (same_events board bus h e apart) ∙ sym (target_answer_local board fit h bus t request found refl run.1 claims))

  -- what is left of an operation is answered alike
  by_stays : (by : By) (o : OpId) (rest : Request) (place : Place) → claim board bus rest ≡ place
      → answer_by board (world_of board (e ∷ h)) (e ∷ h) bus by o rest place ≡ answer_by board (world_of board h) h bus by o rest place
  by_stays by o rest (Target t) claims = target_stays t rest claims
  by_stays by o rest (Header n) claims = refl
  by_stays by o rest (Lane lane) claims = lane_stays by o rest lane (bridge_to board lane.bus) (claim_starts board bus rest lane fit.distinct claims)
  by_stays by o rest Nobody claims = refl

  -- a bridge that claims a write, or nobody, answers alike whatever of it went through before
  rest_stays : (by : By) (o : OpId) (request : Request) (a b : ℕ) (place : Place) → is_posted request ≡ true → claim board bus (without a request) ≡ place → (IsTarget place → ⊥)
      → answer_by board (world_of board h) h bus by o (without a request) place ≡ answer_by board (world_of board h) h bus by o (without b request) place
  rest_stays by o request a b (Target t) write claims none = absurd (none tt)
  rest_stays by o request a b (Header n) write claims none = absurd (memory_no_header board bus (without a request) n (write_not_read request.command write).1 claims)
  rest_stays by o request a b (Lane lane) write claims none = refl
  rest_stays by o request a b Nobody write claims none = refl

  -- no less went through than before, and on this bus the same
  through_grows : (o : OpId) → through h o ≤ through (e ∷ h) o
  through_grows o = omega arith

  found_stays : (by : By) (o : OpId) (found : Option Request) → request_of board o bus ≡ found → wants board h bus by o ≡ true
      → answer_to board (world_of board (e ∷ h)) (e ∷ h) bus by o found ≡ answer_to board (world_of board h) h bus by o found
  found_stays by o None is wanted = refl
  found_stays by o (Some request) is wanted =
      let gone : ℕ = through (e ∷ h) o in
      let before : ℕ = through h o in
      let rest : Request = without gone request in
      let A : ℕ → Answer = λ n. answer_by board (world_of board h) h bus by o (without n request) (claim board bus (without n request)) in
      let first : answer_by board (world_of board (e ∷ h)) (e ∷ h) bus by o rest (claim board bus rest) ≡ A gone = by_stays by o rest (claim board bus rest) refl in
      let of_op = request_is_of board o bus request is in
      let wanted_now : wants board (e ∷ h) bus by o ≡ true = wants_stays by o ∙ wanted in
      let grows : before ≤ gone = through_grows o in
      let P : Bool → Type 0 = λ b. is_posted request ≡ b → A gone ≡ A before in
      let second : A gone ≡ A before = elim (claimed_by_target (claim board bus rest)) [
        | inl target ↦
            let here : gone ≡ through (events_on board bus (e ∷ h)) o = gone_local board fit (e ∷ h) bus by o request run wanted_now is target in
            let fewer : through (events_on board bus h) o ≤ before = through_on board bus o h in
            let alike : through (events_on board bus (e ∷ h)) o ≡ through (events_on board bus h) o = ap (λ p. through p o) (same_events board bus h e apart) in
            let same : gone ≡ before = omega (arith, here, alike, fewer, grows) in
            ap A same
        | inr none ↦ (elim (is_posted request) as P [
          | true ↦ λ write.
              let posted : is_posted_op board o ≡ true = op_is_posted board bus o request true is write in
              let lengths : length (phases_of of_op.op) ≡ length request.phases = ap (λ r. length r.phases) (sym of_op.is_request) in
              let short : Short gone (length request.phases) = subst (Short gone) lengths (Short-run board (e ∷ h) o of_op.op of_op.is_op posted run) in
              let short_before : Short before (length request.phases) = λ some. omega (arith, short (omega (arith, some, grows)), grows) in
              let claims : claim board bus rest ≡ claim board bus request = claims_from board o bus request gone fit.one is write short in
              let claims_before : claim board bus (without before request) ≡ claim board bus request = claims_from board o bus request before fit.one is write short_before in
              rest_stays by o request gone before (claim board bus rest) write refl none
              ∙ ap (λ place. answer_by board (world_of board h) h bus by o (without before request) place) (claims ∙ sym claims_before)
          | false ↦ λ delayed.
              let nothing = delayed-not_parted board (e ∷ h) o bus request fit.single run is delayed in
              let same : gone ≡ before = omega (arith, nothing, grows) in
              ap A same
        ]) refl
      ] in
      first ∙ second

  -- the bus stays as it was
  bus_stays : Stays board bus h (e ∷ h)
  bus_stays = record {
    standing = λ lane ends. (frames lane).standing ends;
    turns = turn_stays;
    wanted = wants_stays;
    answered = λ by o wanted. found_stays by o (request_of board o bus) refl wanted;
  }

-- so of every valid board
pub other_stays : (board : Board) (h : List Event) (e : Event) (bus : ℕ) → IsValid board → Run board (e ∷ h) → bus_of board e ≢ bus → Stays board bus h (e ∷ h)
other_stays board h e bus valid run apart = bus_stays board (IsFit-valid board valid) bus h e run apart
