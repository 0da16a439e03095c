-- Posted writes are on lanes of their way, in every run.
use Rattle.std.proofs.Common.{◌≡◌, ℕ, zero, suc, Bool, true, false, ◌||◌, ◌==◌, cond, List, [], ◌∷◌, length, Option, Some, None, refl, sym, subst, ◌∙◌, arith, slice_get, eqb-true}
use Rattle.std.specs.List.{list_any, AllByRecursion}
use Rattle.list_facts.specs.Lists.{less}
use Rattle.list_facts.proofs.EachLemmas.{Each-append}
use Rattle.pci_command.specs.declared.op_id.OpId.{OpId}
use Rattle.board_model.specs.declared.agents.Master.{Master as MasterAgent}
use Rattle.board_model.specs.declared.bridge.Lane.{Lane as BridgeLane}
use Rattle.board_model.specs.declared.bridge.Place.{Place}
use Rattle.board_model.specs.declared.bridge.Place.TheVariants.{Target, Header, Lane, Nobody}
use Rattle.board_model.specs.declared.board.Board.{Board}
use Rattle.board_model.specs.declared.op.Op.{Op}
use Rattle.board_model.specs.Requests.{op_of, request_on}
use Rattle.board_model.specs.Claims.{claim}
use Rattle.board_model.specs.Ways.{end_of, Route, route_by, route_within, route_of, way}
use Rattle.board_model.specs.form_laws.Trees.{IsTree}
use Rattle.board_model.proofs.form_laws.Laws.{WayEnds-tree}
use Rattle.history_model.specs.declared.event.By.{By}
use Rattle.history_model.specs.declared.event.By.TheVariants.{Master, Lane as ByLane}
use Rattle.history_model.specs.declared.event.Step.{Step}
use Rattle.history_model.specs.declared.event.Step.TheVariants.{Land, Part, Read, Accept, Latch, Take, Stall, MasterAbort, TargetAbort}
use Rattle.history_model.specs.declared.event.Event.{Event}
use Rattle.history_model.specs.declared.event.Event.TheVariants.{Act, Arrive}
use Rattle.history_model.specs.declared.item.Carried.{Carried}
use Rattle.history_model.specs.declared.item.Answer.TheVariants.{Gives}
use Rattle.history_model.specs.Lanes.{is_of}
use Rattle.history_model.specs.World.{same_lane, world_of}
use Rattle.history_model.specs.Words.{through, without}
use Rattle.history_model.specs.Answers.{is_on, wants, answer, presents}
use Rattle.history_model.specs.Runs.{Allowed, Run}
use Rattle.history_model.proofs.facts.AnswerLemmas.{answered_at}
use Rattle.history_model.proofs.facts.BridgeLemmas.{same_lane_true, same_lane_self}
use Rattle.law_lanes.proofs.Laws.{RightKind-run, wants-at}
use Rattle.history_model.proofs.facts.RequestLemmas.{request_is_of}
use Rattle.law_lanes.specs.order.Order.{posts, is_posted_op, enters_by, entering, entered}
use Rattle.law_lanes.specs.order.OnWay.{WritesHaveOneClaimant, OnWay}
use Rattle.law_lanes.proofs.order.PostLemmas.{op_is_posted, posts-less_first}
use Rattle.std.proofs.lemmas.Bool.{and_parts}
use Rattle.law_lanes.proofs.order.MasterLemmas.{or_true, stands_owned, flies_owned}
use Rattle.law_lanes.proofs.order.LandLemmas.{rest_claimed}

-- the lane that claims is the first of the way
first_of_way : (board : Board) (op : Op) (n on : ℕ) (l : BridgeLane) → claim board on (request_on op on) ≡ Lane l → list_any (same_lane l) (route_within (suc n) board op on).lanes ≡ true
first_of_way board op n on l claims =
    let onwards : BridgeLane → Route = λ lane. route_within n board op (end_of board lane) in
    let F : Place → Type 0 = λ place. list_any (same_lane l) (route_by onwards on place).lanes ≡ true in
    let self = same_lane_self l in
    let here : F (Lane l) = rw self refl in
    subst F (sym claims) here

-- where a lane is of a way, the lane that claims at its end is of it too
next_by : (onwards more : BridgeLane → Route) (on : ℕ) (place : Place) (k l : BridgeLane)
    → ((lane : BridgeLane) → list_any (same_lane k) (onwards lane).lanes ≡ true → list_any (same_lane l) (more lane).lanes ≡ true)
    → list_any (same_lane l) (more k).lanes ≡ true
    → list_any (same_lane k) (route_by onwards on place).lanes ≡ true → list_any (same_lane l) (route_by more on place).lanes ≡ true
next_by onwards more on (Target target) k l old next is = cc
next_by onwards more on (Header bus) k l old next is = cc
next_by onwards more on (Lane lane) k l old next is =
    let Goal : Type 0 = (same_lane l lane || list_any (same_lane l) (more lane).lanes) ≡ true in
    let P : Bool → Type 0 = λ b. same_lane k lane ≡ b → (b || list_any (same_lane k) (onwards lane).lanes) ≡ true → Goal in
    (elim (same_lane k lane) as P [
      | true ↦ λ same _.
          let one : k ≡ lane = same_lane_true k lane same in
          or_true (same_lane l lane) (list_any (same_lane l) (more lane).lanes) (subst (λ m. list_any (same_lane l) (more m).lanes ≡ true) one next)
      | false ↦ λ _ e. or_true (same_lane l lane) (list_any (same_lane l) (more lane).lanes) (old lane e)
    ]) refl is
next_by onwards more on Nobody k l old next is = cc

next_of_way : (board : Board) (op : Op) (n on : ℕ) (k l : BridgeLane) → claim board (end_of board k) (request_on op (end_of board k)) ≡ Lane l
    → list_any (same_lane k) (route_within n board op on).lanes ≡ true → list_any (same_lane l) (route_within (suc n) board op on).lanes ≡ true
next_of_way board op zero on k l claims is = cc
next_of_way board op (suc n) on k l claims is =
    next_by (λ lane. route_within n board op (end_of board lane)) (λ lane. route_within (suc n) board op (end_of board lane)) on (claim board on (request_on op on)) k l
    (λ lane. next_of_way board op n (end_of board lane) k l claims)
    (first_of_way board op n (end_of board k) l claims)
    is

-- on a tree no way is longer than the board has bridges
module _ (board : Board) (tree : IsTree board) (one : WritesHaveOneClaimant board) where
  of_way : (op : Op) (on : ℕ) (l : BridgeLane) → list_any (same_lane l) (route_within (suc (length board.bridges)) board op on).lanes ≡ true → list_any (same_lane l) (way board op on) ≡ true
  of_way op on l is =
      let ends = WayEnds-tree board op tree on in
      let same : route_within (suc (length board.bridges)) board op on ≡ route_of board op on = ends.followed (suc (length board.bridges)) (omega arith) in
      subst (λ (r : Route). list_any (same_lane l) r.lanes ≡ true) same is

  -- the master that is on the bus
  from_master : (on : ℕ) (o : OpId) (op : Op) (l : BridgeLane) (found : Option MasterAgent) → op_of board o ≡ Some op → claim board on (request_on op on) ≡ Lane l
      → slice_get board.masters o.master ≡ found → is_on on found ≡ true → OnWay board l o
  from_master on o op l None is_op claims is there = cc
  from_master on o op l (Some master) is_op claims is there =
      let bus : on ≡ master.bus = sym (eqb-true master.bus on there) in
      let claims_there : claim board master.bus (request_on op master.bus) ≡ Lane l = subst (λ n. claim board n (request_on op n) ≡ Lane l) bus claims in
      record { op = op; is_op = is_op; master = master; is_master = is; on_way = of_way op master.bus l (first_of_way board op (length board.bridges) master.bus l claims_there) }

  from_lane : (on : ℕ) (o : OpId) (op : Op) (k l : BridgeLane) → op_of board o ≡ Some op → claim board on (request_on op on) ≡ Lane l → end_of board k ≡ on → OnWay board k o → OnWay board l o
  from_lane on o op k l is_op claims ends old =
      let same : op ≡ old.op = cc_op (op_of board o) op old.op is_op old.is_op in
      let claims_op : claim board on (request_on old.op on) ≡ Lane l = subst (λ p. claim board on (request_on p on) ≡ Lane l) same claims in
      let claims_there : claim board (end_of board k) (request_on old.op (end_of board k)) ≡ Lane l = subst (λ n. claim board n (request_on old.op n) ≡ Lane l) (sym ends) claims_op in
      record {
        op = old.op;
        is_op = old.is_op;
        master = old.master;
        is_master = old.is_master;
        on_way = of_way old.op old.master.bus l (next_of_way board old.op (length board.bridges) old.master.bus k l claims_there old.on_way);
      }
    where
      cc_op : (found : Option Op) (a b : Op) → found ≡ Some a → found ≡ Some b → a ≡ b
      cc_op found a b p q = cc

  module _ (h : List Event) (run : Run board h) (old : (l : BridgeLane) → AllByRecursion (OnWay board l) (entered l h)) where
    accepted_by : (on : ℕ) (by : By) (o : OpId) (op : Op) (l : BridgeLane) → is_posted_op board o ≡ true → op_of board o ≡ Some op → wants board h on by o ≡ true
        → claim board on (request_on op on) ≡ Lane l → OnWay board l o
    accepted_by on Master o op l posted is_op wanted claims =
        from_master on o op l (slice_get board.masters o.master) is_op claims refl (wants-at board h on Master o wanted)
    accepted_by on (ByLane k) o op l posted is_op wanted claims =
        let st : List Carried = (world_of board h k).standing in
        let presented : presents board on o st ≡ true = (and_parts (end_of board k == on) (presents board on o st) wanted).1 in
        let first : posts st ≡ o ∷ posts (less (is_of o) st) = posts-less_first board on o st posted (RightKind-run board h k run).1 presented in
        let each = subst (AllByRecursion (OnWay board k)) first (stands_owned board h k (OnWay board k) run (old k)) in
        from_lane on o op k l is_op claims (wants-at board h on (ByLane k) o wanted) each.0

    accepted_on : (on : ℕ) (by : By) (o : OpId) (at : BridgeLane) → wants board h on by o ≡ true → answer board h on by o ≡ Gives Accept (Lane at) → OnWay board at o
    accepted_on on by o at wanted gives =
        let claimed = answered_at board h on by o Accept at gives in
        let posted : is_posted_op board o ≡ true = op_is_posted board on o claimed.request true claimed.is_request claimed.gives.0 in
        let of_op = request_is_of board o on claimed.request claimed.is_request in
        let claims_rest : claim board on (without (through h o) (request_on of_op.op on)) ≡ Lane at =
        subst (λ r. claim board on (without (through h o) r) ≡ Lane at) of_op.is_request claimed.claims in
        accepted_by on by o of_op.op at posted of_op.is_op wanted (sym (rest_claimed board h o of_op.op on one of_op.is_op posted run) ∙ claims_rest)

    accept_on : (on : ℕ) (by : By) (o : OpId) (place : Place) (l : BridgeLane) → wants board h on by o ≡ true → answer board h on by o ≡ Gives Accept place
        → AllByRecursion (OnWay board l) (enters_by l o Accept place)
    accept_on on by o (Target target) l wanted gives = tt
    accept_on on by o (Header bus) l wanted gives = tt
    accept_on on by o (Lane at) l wanted gives =
        let P : Bool → Type 0 = λ b. same_lane at l ≡ b → AllByRecursion (OnWay board l) (cond b (o ∷ []) []) in
        (elim (same_lane at l) as P [
          | true ↦ λ same. (subst (λ m. OnWay board m o) (same_lane_true at l same) (accepted_on on by o at wanted gives), tt)
          | false ↦ λ _. tt
        ]) refl
    accept_on on by o Nobody l wanted gives = tt

    step_on : (on : ℕ) (by : By) (o : OpId) (step : Step) (place : Place) (l : BridgeLane) → wants board h on by o ≡ true → answer board h on by o ≡ Gives step place
        → AllByRecursion (OnWay board l) (enters_by l o step place)
    step_on on by o Land place l wanted gives = tt
    step_on on by o (Part phases) place l wanted gives = tt
    step_on on by o (Read value) place l wanted gives = tt
    step_on on by o Accept place l wanted gives = accept_on on by o place l wanted gives
    step_on on by o Latch place l wanted gives = tt
    step_on on by o (Take outcome) place l wanted gives = tt
    step_on on by o Stall place l wanted gives = tt
    step_on on by o MasterAbort place l wanted gives = tt
    step_on on by o TargetAbort place l wanted gives = tt

    event_on : (e : Event) (l : BridgeLane) → Allowed board h e → AllByRecursion (OnWay board l) (entering l e)
    event_on (Act on by o step place) l allowed = step_on on by o step place l allowed.0 allowed.1
    event_on (Arrive lane mark) l allowed = tt

  pub OnWay-run : (h : List Event) → Run board h → (l : BridgeLane) → AllByRecursion (OnWay board l) (entered l h)
  OnWay-run [] run l = tt
  OnWay-run (e ∷ h) run l =
      let old = OnWay-run h run.1 in
      Each-append (OnWay board l) (entered l h) (entering l e) (old l) (event_on h run.1 old e l run.0)

  pub OnWay-stands : (h : List Event) (l : BridgeLane) → Run board h → AllByRecursion (OnWay board l) (posts (world_of board h l).standing)
  OnWay-stands h l run = stands_owned board h l (OnWay board l) run (OnWay-run h run l)

  pub OnWay-flies : (h : List Event) (l : BridgeLane) → Run board h → AllByRecursion (OnWay board l) (posts (world_of board h l).flight)
  OnWay-flies h l run = flies_owned board h l (OnWay board l) run (OnWay-run h run l)
