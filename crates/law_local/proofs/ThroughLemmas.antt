-- How far a write went through is known on the bus of its target.
use Rattle.std.proofs.Common.{◌≡◌, ℕ, zero, suc, ◌+◌, ◌≤◌, Bool, true, false, cond, ◌||◌, ◌==◌, eqb, List, [], ◌∷◌, length, Some, ◌⊎◌, inl, inr, refl, sym, ap, subst, ◌∙◌, arith, slice_get}
use Rattle.std.specs.List.{list_any, AllByRecursion}
use Rattle.std.proofs.lemmas.Bool.{eqb-false, and_parts}
use Rattle.list_facts.specs.Lists.{less}
use Rattle.pci_command.specs.declared.op_id.OpId.{OpId}
use Rattle.pci_command.specs.Same.{same_op}
use Rattle.board_model.specs.declared.agents.Master.{Master as MasterAgent}
use Rattle.board_model.specs.declared.bridge.Lane.{Lane as BridgeLane}
use Rattle.board_model.specs.declared.bridge.Place.{Place}
use Rattle.board_model.specs.declared.bridge.Place.TheVariants.{Target, Header, Lane, Nobody}
use Rattle.board_model.specs.declared.op.Op.{Op}
use Rattle.board_model.specs.declared.board.Board.{Board}
use Rattle.board_model.specs.Requests.{op_of, request_on, request_of, is_posted}
use Rattle.board_model.specs.Claims.{claim}
use Rattle.board_model.specs.Ways.{end_of, Route, route_by, route_within, route_of, way}
use Rattle.board_model.specs.form_laws.Trees.{IsTree}
use Rattle.history_model.specs.declared.event.By.{By}
use Rattle.history_model.specs.declared.event.By.TheVariants.{Master, Lane as ByLane}
use Rattle.history_model.specs.declared.event.Step.{Step}
use Rattle.history_model.specs.declared.event.Step.TheVariants.{Land, Part, Read, Accept, Latch, Take, Stall, MasterAbort, TargetAbort}
use Rattle.history_model.specs.declared.event.Event.{Event}
use Rattle.history_model.specs.declared.event.Event.TheVariants.{Act, Arrive}
use Rattle.history_model.specs.declared.item.Carried.{Carried}
use Rattle.history_model.specs.declared.item.Answer.TheVariants.{Gives}
use Rattle.history_model.specs.Lanes.{is_of}
use Rattle.history_model.specs.World.{same_lane, world_of}
use Rattle.history_model.specs.Words.{phases_parted, parted_by, through}
use Rattle.history_model.specs.Answers.{presents, wants, answer}
use Rattle.history_model.specs.Runs.{Allowed, Run}
use Rattle.history_model.specs.Local.{bus_of}
use Rattle.law_lanes.specs.order.Order.{posts, is_posted_in, is_posted_op}
use Rattle.law_lanes.specs.order.OnWay.{WritesHaveOneClaimant, OnWay}
use Rattle.law_local.specs.Known.{events_on}
use Rattle.history_model.proofs.facts.BridgeLemmas.{same_lane_true}
use Rattle.law_lanes.proofs.Laws.{wants-at, RightKind-run}
use Rattle.history_model.proofs.facts.RequestLemmas.{same_op_true}
use Rattle.law_lanes.proofs.order.Laws.{posts-less_first, write_lands, OnWay-stands, whole_target}
use Rattle.history_model.proofs.facts.PostedLemmas.{IsTarget}
use Rattle.history_model.proofs.facts.WantsLemmas.{master_bus}

-- a way that begins where a target claims ends there
stops_by : (onwards : BridgeLane → Route) (bus : ℕ) (place : Place) → IsTarget place → (route_by onwards bus place).bus ≡ bus
stops_by onwards bus (Target target) is = refl
stops_by onwards bus (Header number) is = absurd is
stops_by onwards bus (Lane lane) is = absurd is
stops_by onwards bus Nobody is = absurd is

-- a way that begins on a bus where a target claims ends there
stops : (board : Board) (op : Op) (n bus : ℕ) → IsTarget (claim board bus (request_on op bus)) → (route_within n board op bus).bus ≡ bus
stops board op zero bus is = refl
stops board op (suc n) bus is = stops_by (λ lane. route_within n board op (end_of board lane)) bus (claim board bus (request_on op bus)) is

-- a lane of a way at whose end a target claims is its last
ends_by : (onwards : BridgeLane → Route) (bus last : ℕ) (place : Place) (k : BridgeLane)
    → ((lane : BridgeLane) → list_any (same_lane k) (onwards lane).lanes ≡ true → (onwards lane).bus ≡ last) → (onwards k).bus ≡ last
    → list_any (same_lane k) (route_by onwards bus place).lanes ≡ true → (route_by onwards bus place).bus ≡ last
ends_by onwards bus last (Target target) k old here is = cc
ends_by onwards bus last (Header number) k old here is = cc
ends_by onwards bus last (Lane lane) k old here is =
    let P : Bool → Type 0 = λ b. same_lane k lane ≡ b → (b || list_any (same_lane k) (onwards lane).lanes) ≡ true → (onwards lane).bus ≡ last in
    (elim (same_lane k lane) as P [
      | true ↦ λ same _. ap (λ l. (onwards l).bus) (sym (same_lane_true k lane same)) ∙ here
      | false ↦ λ _ e. old lane e
    ]) refl is
ends_by onwards bus last Nobody k old here is = cc

-- so of a whole way
ends_way : (board : Board) (op : Op) (n bus : ℕ) (k : BridgeLane) → IsTarget (claim board (end_of board k) (request_on op (end_of board k)))
    → list_any (same_lane k) (route_within n board op bus).lanes ≡ true → (route_within n board op bus).bus ≡ end_of board k
ends_way board op zero bus k claims is = cc
ends_way board op (suc n) bus k claims is =
    ends_by (λ lane. route_within n board op (end_of board lane)) bus (end_of board k) (claim board bus (request_on op bus)) k
    (λ lane. ends_way board op n (end_of board lane) k claims) (stops board op n (end_of board k) claims) is

module _ (board : Board) (tree : IsTree board) (one : WritesHaveOneClaimant board) (o : OpId) (op : Op) (master : MasterAgent)
    (is_op : op_of board o ≡ Some op) (is_master : slice_get board.masters o.master ≡ Some master) (posted : is_posted_op board o ≡ true) where
  -- where its way ends
  abbrev End : ℕ
  End = (route_of board op master.bus).bus

  -- a write that is presented where a target claims it is at the end of its way
  at_end : (h : List Event) (bus : ℕ) (by : By) → Run board h → wants board h bus by o ≡ true → IsTarget (claim board bus (request_on op bus)) → End ≡ bus
  at_end h bus Master run wanted claims =
      let is_bus : bus ≡ master.bus = master_bus bus (slice_get board.masters o.master) master is_master (wants-at board h bus Master o wanted) in
      let there : IsTarget (claim board master.bus (request_on op master.bus)) = subst (λ n. IsTarget (claim board n (request_on op n))) is_bus claims in
      stops board op (length board.bridges) master.bus there ∙ sym is_bus
  at_end h bus (ByLane k) run wanted claims =
      let st : List Carried = (world_of board h k).standing in
      let presented : presents board bus o st ≡ true = (and_parts (end_of board k == bus) (presents board bus o st) wanted).1 in
      let first : posts st ≡ o ∷ posts (less (is_of o) st) = posts-less_first board bus o st posted (RightKind-run board h k run).1 presented in
      let each = subst (AllByRecursion (OnWay board k)) first (OnWay-stands board tree one h k run) in
      let at : end_of board k ≡ bus = wants-at board h bus (ByLane k) o wanted in
      let there : IsTarget (claim board (end_of board k) (request_on op (end_of board k))) = subst (λ n. IsTarget (claim board n (request_on op n))) (sym at) claims in
      let same_ops : each.0.op ≡ op = let known = each.0.is_op in cc in
      let same_masters : each.0.master ≡ master = let known = each.0.is_master in cc in
      let F : Op → MasterAgent → Type 0 = λ p m. list_any (same_lane k) (way board p m.bus) ≡ true in
      let on_way : list_any (same_lane k) (way board op master.bus) ≡ true = subst (λ m. F op m) same_masters (subst (λ p. F p each.0.master) same_ops each.0.on_way) in
      ends_way board op (length board.bridges) master.bus k there on_way ∙ at

  -- a part is taken nowhere else
  part_at_end : (h : List Event) (bus : ℕ) (by : By) (p : OpId) (step : Step) (place : Place) → Run board h → Allowed board h (Act bus by p step place) → same_op p o ≡ true
      → (phases_parted step ≡ 0) ⊎ (bus ≡ End)
  part_at_end h bus by p Land place run allowed same = inl refl
  part_at_end h bus by p (Part phases) place run allowed same =
      let is : p ≡ o = same_op_true p o same in
      let wanted : wants board h bus by o ≡ true = subst (λ q. wants board h bus by q ≡ true) is allowed.0 in
      let given : answer board h bus by o ≡ Gives (Part phases) place = subst (λ q. answer board h bus by q ≡ Gives (Part phases) place) is allowed.1 in
      let requested : request_of board o bus ≡ Some (request_on op bus) = rw is_op refl in
      let write : is_posted (request_on op bus) ≡ true = sym (ap is_posted_in is_op) ∙ posted in
      let lands = write_lands board h bus by o (request_on op bus) (Part phases) place requested write given in
      inr (sym (at_end h bus by run wanted (whole_target board h o op bus one is_op posted run lands.0)))
  part_at_end h bus by p (Read value) place run allowed same = inl refl
  part_at_end h bus by p Accept place run allowed same = inl refl
  part_at_end h bus by p Latch place run allowed same = inl refl
  part_at_end h bus by p (Take outcome) place run allowed same = inl refl
  part_at_end h bus by p Stall place run allowed same = inl refl
  part_at_end h bus by p MasterAbort place run allowed same = inl refl
  part_at_end h bus by p TargetAbort place run allowed same = inl refl

  -- an event takes a part of the write only where its way ends
  event_at_end : (h : List Event) (e : Event) → Run board h → Allowed board h e → (parted_by o e ≡ 0) ⊎ (bus_of board e ≡ End)
  event_at_end h (Act bus by p step place) run allowed =
      let P : Bool → Type 0 = λ b. same_op p o ≡ b → (cond b (phases_parted step) 0 ≡ 0) ⊎ (bus ≡ End) in
      (elim (same_op p o) as P [ true ↦ λ same. part_at_end h bus by p step place run allowed same | false ↦ λ _. inl refl ]) refl
  event_at_end h (Arrive lane mark) run allowed = inl refl

  -- so how far it went through is known where its way ends
  through_end : (h : List Event) → Run board h → through h o ≡ through (events_on board End h) o
  through_end [] run = refl
  through_end (e ∷ h) run =
      let old = through_end h run.1 in
      let P : Bool → Type 0 = λ b. eqb (bus_of board e) End ≡ b → parted_by o e + through h o ≡ through (cond b (e ∷ events_on board End h) (events_on board End h)) o in
      (elim (eqb (bus_of board e) End) as P [
        | true ↦ λ _. ap (λ n. parted_by o e + n) old
        | false ↦ λ apart. elim (event_at_end h e run.1 run.0) [
          | inl none ↦ ap (λ n. n + through h o) none ∙ omega (arith, old)
          | inr here ↦ absurd (eqb-false (bus_of board e) End apart here)
        ]
      ]) refl

  -- on the bus where it is presented to a target it is known how far it went through
  pub through_local : (h : List Event) (bus : ℕ) (by : By) → Run board h → wants board h bus by o ≡ true → IsTarget (claim board bus (request_on op bus)) → through h o ≡ through (events_on board bus h) o
  through_local h bus by run wanted claims = through_end h run ∙ ap (λ n. through (events_on board n h) o) (at_end h bus by run wanted claims)

-- no bus knows of more than went through
pub through_on : (board : Board) (bus : ℕ) (o : OpId) (h : List Event) → through (events_on board bus h) o ≤ through h o
through_on board bus o [] = omega arith
through_on board bus o (e ∷ h) =
    let old = through_on board bus o h in
    let P : Bool → Type 0 = λ b. through (cond b (e ∷ events_on board bus h) (events_on board bus h)) o ≤ parted_by o e + through h o in
    elim (eqb (bus_of board e) bus) as P [ true ↦ omega (arith, old) | false ↦ omega (arith, old) ]
