-- A write in memory that lands as its master presents it has no lane on its way.
use Rattle.std.proofs.Common.{◌≡◌, ℕ, ◌+◌, ◌≤◌, Bool, true, false, cond, List, [], ◌∷◌, Some, refl, sym, ap, subst, ◌∙◌, arith, slice_get}
use Rattle.pci_command.specs.declared.op_id.OpId.{OpId}
use Rattle.pci_command.specs.Same.{same_op}
use Rattle.board_model.specs.declared.agents.Master.{Master as MasterAgent}
use Rattle.board_model.specs.declared.bridge.Lane.{Lane as BridgeLane}
use Rattle.board_model.specs.declared.bridge.Place.{Place}
use Rattle.board_model.specs.declared.bridge.Place.TheVariants.{Target, Header, Lane, Nobody}
use Rattle.board_model.specs.declared.board.Board.{Board}
use Rattle.board_model.specs.declared.op.Op.{Op}
use Rattle.board_model.specs.Requests.{op_of, request_on, request_of, is_posted}
use Rattle.board_model.specs.Claims.{claim}
use Rattle.board_model.specs.Ways.{end_of, Route, route_by, route_of, way}
use Rattle.board_model.specs.form_laws.Trees.{IsTree}
use Rattle.board_model.proofs.form_laws.Laws.{WayEnds-tree}
use Rattle.history_model.specs.declared.event.By.TheVariants.{Master, Lane as ByLane}
use Rattle.history_model.specs.declared.event.Step.TheVariants.{Land, Part, Read, Accept, Latch, Take, Stall, MasterAbort, TargetAbort}
use Rattle.history_model.specs.declared.event.Event.{Event}
use Rattle.history_model.specs.declared.event.Event.TheVariants.{Act, Arrive}
use Rattle.history_model.specs.declared.item.Answer.TheVariants.{Gives}
use Rattle.history_model.specs.Words.{through, without}
use Rattle.history_model.specs.Answers.{wants, answer}
use Rattle.history_model.specs.Runs.{Allowed, Run}
use Rattle.law_lanes.proofs.Laws.{wants-at}
use Rattle.history_model.proofs.facts.RequestLemmas.{same_op_true}
use Rattle.law_lanes.specs.order.Order.{is_posted_in, is_posted_op}
use Rattle.law_lanes.specs.order.One.{times, lands_from_master}
use Rattle.law_lanes.specs.order.OnWay.{WritesHaveOneClaimant}
use Rattle.history_model.proofs.facts.PostedLemmas.{IsTarget}
use Rattle.law_lanes.proofs.order.LandLemmas.{write_lands, rest_claimed}
use Rattle.history_model.proofs.facts.WantsLemmas.{master_bus}

-- where a target claims, the way is empty
no_lanes : (onwards : BridgeLane → Route) (on : ℕ) (place : Place) → IsTarget place → (route_by onwards on place).lanes ≡ []
no_lanes onwards on (Target target) is = refl
no_lanes onwards on (Header bus) is = absurd is
no_lanes onwards on (Lane lane) is = absurd is
no_lanes onwards on Nobody is = absurd is

pub empty_way : (board : Board) (op : Op) (on : ℕ) → IsTree board → IsTarget (claim board on (request_on op on)) → way board op on ≡ []
empty_way board op on tree is =
    let ends = WayEnds-tree board op tree on in
    ap (λ (r : Route). r.lanes) ends.onwards ∙ no_lanes (λ lane. route_of board op (end_of board lane)) on (claim board on (request_on op on)) is

-- what is claimed by a target as a whole is so in what is left, and the other way round
pub whole_target : (board : Board) (h : List Event) (o : OpId) (op : Op) (on : ℕ) → WritesHaveOneClaimant board → op_of board o ≡ Some op → is_posted_op board o ≡ true → Run board h
    → IsTarget (claim board on (without (through h o) (request_on op on))) → IsTarget (claim board on (request_on op on))
whole_target board h o op on one is_op posted run is = subst IsTarget (rest_claimed board h o op on one is_op posted run) is

module _ (board : Board) (o : OpId) (op : Op) (master : MasterAgent) (tree : IsTree board) (one : WritesHaveOneClaimant board)
    (is_op : op_of board o ≡ Some op) (is_master : slice_get board.masters o.master ≡ Some master) (posted : is_posted_op board o ≡ true) where
  direct_step : (h : List Event) (on : ℕ) (p : OpId) (place : Place) → Run board h → same_op p o ≡ true → Allowed board h (Act on Master p Land place) → way board op master.bus ≡ []
  direct_step h on p place run same allowed =
      let is : p ≡ o = same_op_true p o same in
      let wanted : wants board h on Master o ≡ true = subst (λ q. wants board h on Master q ≡ true) is allowed.0 in
      let given : answer board h on Master o ≡ Gives Land place = subst (λ q. answer board h on Master q ≡ Gives Land place) is allowed.1 in
      let requested : request_of board o on ≡ Some (request_on op on) = rw is_op refl in
      let write : is_posted (request_on op on) ≡ true = sym (ap is_posted_in is_op) ∙ posted in
      let lands : IsTarget (claim board on (without (through h o) (request_on op on))) = write_lands board h on Master o (request_on op on) Land place requested write given in
      let whole = whole_target board h o op on one is_op posted run lands in
      let bus : on ≡ master.bus = master_bus on (slice_get board.masters o.master) master is_master (wants-at board h on Master o wanted) in
      subst (λ n. way board op n ≡ []) bus (empty_way board op on tree whole)

  direct_event : (h : List Event) (e : Event) → Run board h → Allowed board h e → lands_from_master o e ≡ true → way board op master.bus ≡ []
  direct_event h (Act on Master p Land place) run allowed is = direct_step h on p place run is allowed
  direct_event h (Act on Master p (Part phases) place) run allowed is = cc
  direct_event h (Act on Master p (Read value) place) run allowed is = cc
  direct_event h (Act on Master p Accept place) run allowed is = cc
  direct_event h (Act on Master p Latch place) run allowed is = cc
  direct_event h (Act on Master p (Take outcome) place) run allowed is = cc
  direct_event h (Act on Master p Stall place) run allowed is = cc
  direct_event h (Act on Master p MasterAbort place) run allowed is = cc
  direct_event h (Act on Master p TargetAbort place) run allowed is = cc
  direct_event h (Act on (ByLane lane) p step place) run allowed is = cc
  direct_event h (Arrive lane mark) run allowed is = cc

  pub direct_way : (h : List Event) → Run board h → 1 ≤ times (lands_from_master o) h → way board op master.bus ≡ []
  direct_way [] run some = absurd (omega (arith, some))
  direct_way (e ∷ h) run some =
      let P : Bool → Type 0 = λ b. lands_from_master o e ≡ b → 1 ≤ cond b 1 0 + times (lands_from_master o) h → way board op master.bus ≡ [] in
      (elim (lands_from_master o e) as P [
        | true ↦ λ is _. direct_event h e run.1 run.0 is
        | false ↦ λ _ more. direct_way h run.1 (omega (arith, more))
      ]) refl some
