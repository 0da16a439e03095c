-- What is presented on a bus is answered by what the bus knows.
use Rattle.std.proofs.Common.{◌≡◌, ◌≢◌, ℕ, Bool, true, false, cond, ◌==◌, eqb, nat_lt, List, [], ◌∷◌, ◌++◌, length, Option, Some, None, ◌⊎◌, inl, inr, refl, sym, ap, subst, ◌∙◌, arith, slice_get}
use Rattle.std.proofs.lemmas.List.{append-nil}
use Rattle.std.proofs.lemmas.Bool.{eqb-true, eqb-false}
use Rattle.pci_command.specs.declared.request.Request.{Request}
use Rattle.pci_command.specs.declared.op_id.OpId.{OpId}
use Rattle.pci_command.specs.Command.{is_read, space_of}
use Rattle.board_model.specs.declared.agents.Target.{Target as TargetAgent}
use Rattle.board_model.specs.declared.bridge.Lane.{Lane as BridgeLane}
use Rattle.board_model.specs.declared.bridge.Place.{Place}
use Rattle.board_model.specs.declared.bridge.Place.TheVariants.{Target, Header, Lane, Nobody}
use Rattle.board_model.specs.declared.board.Board.{Board}
use Rattle.board_model.specs.Requests.{phases_of, request_on, request_of, is_posted}
use Rattle.board_model.specs.Claims.{claim}
use Rattle.board_model.specs.Ways.{Dword, aborts_at, address_in}
use Rattle.history_model.specs.declared.event.By.{By}
use Rattle.history_model.specs.declared.event.Step.{Step}
use Rattle.history_model.specs.declared.event.Step.TheVariants.{Land, Part, Read, Stall, TargetAbort}
use Rattle.history_model.specs.declared.event.Event.{Event}
use Rattle.history_model.specs.declared.event.Event.TheVariants.{Act, Arrive}
use Rattle.history_model.specs.declared.item.Carried.{Carried}
use Rattle.history_model.specs.declared.item.Answer.{Answer}
use Rattle.history_model.specs.declared.item.Answer.TheVariants.{Gives}
use Rattle.history_model.specs.World.{World, world_of}
use Rattle.history_model.specs.Words.{through, without, Landing, landings_of, landings_by, brought, landed, merged, opens_as, value_of}
use Rattle.history_model.specs.Answers.{stalls_used, target_step, target_answer, bridge_to, answer_by, answer_to, answer_in, answer, wants}
use Rattle.history_model.specs.Runs.{Allowed, Run}
use Rattle.history_model.specs.Local.{bus_of}
use Rattle.law_lanes.specs.order.Order.{is_posted_op}
use Rattle.law_local.specs.Known.{events_on, known, AllJoint}
use Rattle.law_local.proofs.ThroughLemmas.{through_local, through_on}
use Rattle.law_local.proofs.PlaceLemmas.{target_on_bus, answered_target, event_on_bus, stalls_local}
use Rattle.law_local.proofs.TransferLemmas.{lane_answer_local}
use Rattle.board_model.proofs.Laws.{op_there}
use Rattle.law_local.proofs.ApartLemmas.{IsFit}
use Rattle.history_model.proofs.facts.RequestLemmas.{request_is_of}
use Rattle.law_lanes.proofs.Laws.{delayed-not_parted, claim_starts}
use Rattle.law_lanes.proofs.order.Laws.{op_is_posted, Short, Short-run, rest_claimed, claims_from}
use Rattle.history_model.proofs.facts.PostedLemmas.{IsTarget, write_not_read, memory_no_header}

-- where a target claims
is_target : (place : Place) (t : ℕ) → place ≡ Target t → IsTarget place
is_target place t is = subst IsTarget (sym is) tt

module _ (board : Board) (fit : IsFit board) where
  -- how far an operation went through is known on a bus where a target claims it
  pub gone_local : (h : List Event) (bus : ℕ) (by : By) (o : OpId) (request : Request) → Run board h → wants board h bus by o ≡ true → request_of board o bus ≡ Some request
      → IsTarget (claim board bus (without (through h o) request)) → through h o ≡ through (events_on board bus h) o
  gone_local h bus by o request run wanted is claims =
      let of_op = request_is_of board o bus request is in
      let Goal : Type 0 = through h o ≡ through (events_on board bus h) o in
      let P : Bool → Type 0 = λ b. is_posted request ≡ b → Goal in
      (elim (is_posted request) as P [
        | true ↦ λ write.
            let posted : is_posted_op board o ≡ true = op_is_posted board bus o request true is write in
            let master = op_there board o of_op.op of_op.is_op in
            let rest : IsTarget (claim board bus (without (through h o) (request_on of_op.op bus))) = subst (λ r. IsTarget (claim board bus (without (through h o) r))) of_op.is_request claims in
            let whole : IsTarget (claim board bus (request_on of_op.op bus)) = subst IsTarget (rest_claimed board h o of_op.op bus fit.one of_op.is_op posted run) rest in
            through_local board fit.tree fit.one o of_op.op master.master of_op.is_op master.is_master posted h bus by run wanted whole
        | false ↦ λ delayed.
            let none = delayed-not_parted board h o bus request fit.single run is delayed in
            let fewer = through_on board bus o h in
            omega (arith, none, fewer)
      ]) refl

  -- what lands in a word of a target is known on its bus
  brought_here : (h : List Event) (bus t : ℕ) (by : By) (o : OpId) (step : Step) (word : Dword) (place : Place) → Run board h → Allowed board h (Act bus by o step place)
      → landings_by board h bus o step word place ≡ landings_by board (events_on board bus h) bus o step word place
  brought_here h bus t by o step word (Target n) run allowed =
      let at = answered_target board h bus by o step n allowed.1 in
      let same : through h o ≡ through (events_on board bus h) o = gone_local h bus by o at.request run allowed.0 at.is_request (is_target (claim board bus (without (through h o) at.request)) n at.claims) in
      ap (λ gone. cond (n == word.target) (landings_of o step gone word (request_of board o bus)) []) same
  brought_here h bus t by o step word (Header n) run allowed = refl
  brought_here h bus t by o step word (Lane lane) run allowed = refl
  brought_here h bus t by o step word Nobody run allowed = refl

  -- what an event on another bus brings to a word of a target is nothing
  brought_apart : (h : List Event) (bus : ℕ) (target : TargetAgent) (by : By) (o : OpId) (step : Step) (word : Dword) (place : Place) → slice_get board.targets word.target ≡ Some target
      → Allowed board h (Act bus by o step place) → bus ≢ target.bus → landings_by board h bus o step word place ≡ []
  brought_apart h bus target by o step word (Target n) there allowed apart =
      let some : List Landing = landings_of o step (through h o) word (request_of board o bus) in
      let P : Bool → Type 0 = λ b. eqb n word.target ≡ b → cond b some [] ≡ [] in
      (elim (eqb n word.target) as P [
        | true ↦ λ same.
            let F : ℕ → Type 0 = λ m. Allowed board h (Act bus by o step (Target m)) in
            absurd (apart (sym (event_on_bus board h bus by o step word.target target there (subst F (eqb-true n word.target same) allowed))))
        | false ↦ λ _. refl
      ]) refl
  brought_apart h bus target by o step word (Header n) there allowed apart = refl
  brought_apart h bus target by o step word (Lane lane) there allowed apart = refl
  brought_apart h bus target by o step word Nobody there allowed apart = refl

  -- what an event brings to a word, by the events of its bus
  event_brought : (h : List Event) (e : Event) (word : Dword) → Run board h → Allowed board h e → brought board h word e ≡ brought board (events_on board (bus_of board e) h) word e
  event_brought h (Act bus by o step place) word run allowed = brought_here h bus word.target by o step word place run allowed
  event_brought h (Arrive lane mark) word run allowed = refl

  -- an event on another bus brings nothing to a word of a target
  event_apart : (h : List Event) (e : Event) (word : Dword) (target : TargetAgent) → slice_get board.targets word.target ≡ Some target → Allowed board h e → bus_of board e ≢ target.bus → brought board h word e ≡ []
  event_apart h (Act bus by o step place) word target there allowed apart = brought_apart h bus target by o step word place there allowed apart
  event_apart h (Arrive lane mark) word target there allowed apart = refl

  -- so all that landed in the word is known on the bus of its target
  landed_local : (word : Dword) (target : TargetAgent) → slice_get board.targets word.target ≡ Some target → (h : List Event) → Run board h → landed board h word ≡ landed board (events_on board target.bus h) word
  landed_local word target there [] run = refl
  landed_local word target there (e ∷ h) run =
      let old = landed_local word target there h run.1 in
      let bus : ℕ = target.bus in
      let P : Bool → Type 0 = λ b. eqb (bus_of board e) bus ≡ b → landed board h word ++ brought board h word e ≡ landed board (cond b (e ∷ events_on board bus h) (events_on board bus h)) word in
      (elim (eqb (bus_of board e) bus) as P [
        | true ↦ λ same.
            let here : brought board h word e ≡ brought board (events_on board bus h) word e =
            event_brought h e word run.1 run.0 ∙ ap (λ n. brought board (events_on board n h) word e) (eqb-true (bus_of board e) bus same) in
            ap (λ l. l ++ brought board h word e) old ∙ ap (λ l. landed board (events_on board bus h) word ++ l) here
        | false ↦ λ apart.
            let none = event_apart h e word target there run.0 (eqb-false (bus_of board e) bus apart) in
            ap (λ l. landed board h word ++ l) none ∙ (append-nil (landed board h word) ∙ old)
      ]) refl

  -- and its value
  pub value_local : (word : Dword) (target : TargetAgent) → slice_get board.targets word.target ≡ Some target → (h : List Event) → Run board h → value_of board h word ≡ value_of board (events_on board target.bus h) word
  value_local word target there h run = ap (merged word (opens_as board word)) (landed_local word target there h run)

  -- the step of a target, by the events of its bus
  step_local : (h : List Event) (t : ℕ) (request : Request) (target : TargetAgent) → slice_get board.targets t ≡ Some target → Run board h
      → target_step board h t request target ≡ target_step board (events_on board target.bus h) t request target
  step_local h t request target there run =
      let word : Dword = record { target = t; space = space_of request.command; address = address_in (space_of request.command) request.address } in
      let S : ℕ → ℕ → Step = λ used value.
      cond (nat_lt used target.stalls) Stall (cond (aborts_at target request) TargetAbort (cond (is_read request.command) (Read value) (cond (nat_lt target.burst (length request.phases)) (Part target.burst) Land))) in
      ap (λ used. S used (value_of board h word)) (stalls_local board t target there h run) ∙ ap (S (stalls_used (events_on board target.bus h) t)) (value_local word target there h run)

  -- a target that claims answers by the events of its bus
  pub target_answer_local : (h : List Event) (bus t : ℕ) (request : Request) (found : Option TargetAgent) → slice_get board.targets t ≡ found → Run board h → claim board bus request ≡ Target t
      → target_answer board h t request found ≡ target_answer board (events_on board bus h) t request found
  target_answer_local h bus t request None there run claims = refl
  target_answer_local h bus t request (Some target) there run claims =
      let is_bus : target.bus ≡ bus = target_on_bus board bus request t target there claims in
      ap (λ step. Gives step (Target t)) (step_local h t request target there run ∙ ap (λ n. target_step board (events_on board n h) t request target) is_bus)

  module _ (sent : BridgeLane → List Carried) (h : List Event) (bus : ℕ) (joint : AllJoint board sent h) (run : Run board h) where
    -- the lanes as the bus knows them
    abbrev Own : World
    Own = known board sent bus h

    -- what is left is answered alike
    by_local : (by : By) (o : OpId) (rest : Request) (place : Place) → claim board bus rest ≡ place
        → answer_by board (world_of board h) h bus by o rest place ≡ answer_by board Own (events_on board bus h) bus by o rest place
    by_local by o rest (Target t) claims = target_answer_local h bus t rest (slice_get board.targets t) refl run claims
    by_local by o rest (Header n) claims = refl
    by_local by o rest (Lane lane) claims = lane_answer_local board sent h bus joint run by o rest lane (bridge_to board lane.bus) (claim_starts board bus rest lane fit.distinct claims)
    by_local by o rest Nobody claims = refl

    -- a bridge that claims a write, or nobody, answers alike whatever of it went through before
    rest_alike : (by : By) (o : OpId) (request : Request) (a b : ℕ) (place : Place) → is_posted request ≡ true → claim board bus (without a request) ≡ place → (IsTarget place → ⊥)
        → answer_by board Own (events_on board bus h) bus by o (without a request) place ≡ answer_by board Own (events_on board bus h) bus by o (without b request) place
    rest_alike by o request a b (Target t) write claims none = absurd (none tt)
    rest_alike by o request a b (Header n) write claims none = absurd (memory_no_header board bus (without a request) n (write_not_read request.command write).1 claims)
    rest_alike by o request a b (Lane lane) write claims none = refl
    rest_alike by o request a b Nobody write claims none = refl

    -- a target claims or not
    decide : (place : Place) → IsTarget place ⊎ (IsTarget place → ⊥)
    decide (Target t) = inl tt
    decide (Header n) = inr (λ e. e)
    decide (Lane lane) = inr (λ e. e)
    decide Nobody = inr (λ e. e)

    -- whatever is left of the request, it is answered alike: where a target claims, the bus knows how much went through, and elsewhere it makes no difference
    to_local : (by : By) (o : OpId) (found : Option Request) → request_of board o bus ≡ found → wants board h bus by o ≡ true
        → answer_to board (world_of board h) h bus by o found ≡ answer_to board Own (events_on board bus h) bus by o found
    to_local by o None is wanted = refl
    to_local by o (Some request) is wanted =
        let gone : ℕ = through h o in
        let known_gone : ℕ = through (events_on board bus h) o in
        let rest : Request = without gone request in
        let A : ℕ → Answer = λ n. answer_by board Own (events_on board bus h) bus by o (without n request) (claim board bus (without n request)) in
        let first : answer_by board (world_of board h) h bus by o rest (claim board bus rest) ≡ A gone = by_local by o rest (claim board bus rest) refl in
        let of_op = request_is_of board o bus request is in
        let Goal : Type 0 = A gone ≡ A known_gone in
        let P : Bool → Type 0 = λ b. is_posted request ≡ b → Goal in
        let second : Goal = elim (decide (claim board bus rest)) [
          | inl target ↦ ap A (gone_local h bus by o request run wanted is target)
          | inr none ↦ (elim (is_posted request) as P [
            | true ↦ λ write.
                let posted : is_posted_op board o ≡ true = op_is_posted board bus o request true is write in
                let lengths : length (phases_of of_op.op) ≡ length request.phases = ap (λ r. length r.phases) (sym of_op.is_request) in
                let short : Short gone (length request.phases) = subst (Short gone) lengths (Short-run board h o of_op.op of_op.is_op posted run) in
                let fewer = through_on board bus o h in
                let short_known : Short known_gone (length request.phases) = λ some. omega (arith, short (omega (arith, some, fewer)), fewer) in
                let claims : claim board bus rest ≡ claim board bus request = claims_from board o bus request gone fit.one is write short in
                let claims_known : claim board bus (without known_gone request) ≡ claim board bus request = claims_from board o bus request known_gone fit.one is write short_known in
                rest_alike by o request gone known_gone (claim board bus rest) write refl none
                ∙ ap (λ place. answer_by board Own (events_on board bus h) bus by o (without known_gone request) place) (claims ∙ sym claims_known)
            | false ↦ λ delayed.
                let nothing = delayed-not_parted board h o bus request fit.single run is delayed in
                let fewer = through_on board bus o h in
                let same : gone ≡ known_gone = omega (arith, nothing, fewer) in
                ap A same
          ]) refl
        ] in
        first ∙ second

    -- what is presented on a bus is answered by what the bus knows
    pub answer_local : (by : By) (o : OpId) → wants board h bus by o ≡ true → answer board h bus by o ≡ answer_in board Own (events_on board bus h) bus by o
    answer_local by o wanted = to_local by o (request_of board o bus) refl wanted
