-- Who claims a delayed operation that is presented, and is no lane, is the owner of its route from its master's bus.
use Rattle.std.proofs.Common.{◌≡◌, ℕ, Bool, true, false, ◌||◌, eqb, List, [], ◌∷◌, Some, refl, sym, ap, subst, ◌∙◌, slice_get}
use Rattle.std.specs.List.{list_any}
use Rattle.std.proofs.lemmas.Bool.{eqb-true, and_parts}
use Rattle.pci_command.specs.declared.op_id.OpId.{OpId}
use Rattle.pci_command.specs.declared.command.Command.TheVariants.{MemWrite}
use Rattle.pci_command.specs.Same.{same_command}
use Rattle.board_model.specs.declared.agents.Master.{Master as MasterAgent}
use Rattle.board_model.specs.declared.bridge.Lane.{Lane as BridgeLane}
use Rattle.board_model.specs.declared.bridge.Place.{Place}
use Rattle.board_model.specs.declared.bridge.Place.TheVariants.{Target, Header, Lane, Nobody}
use Rattle.board_model.specs.declared.op.Op.{Op}
use Rattle.board_model.specs.declared.board.Board.{Board}
use Rattle.board_model.specs.Requests.{op_of, command_of, request_on}
use Rattle.board_model.specs.Claims.{claim}
use Rattle.board_model.specs.Ways.{Route, end_of, route_by, route_of, way, is_lane}
use Rattle.board_model.specs.Valid.{IsValid}
use Rattle.board_model.specs.form_laws.Trees.{IsTree}
use Rattle.board_model.proofs.form_laws.Laws.{IsTree-valid, WayEnds-tree}
use Rattle.history_model.specs.declared.event.By.{By}
use Rattle.history_model.specs.declared.event.By.TheVariants.{Master, Lane as ByLane}
use Rattle.history_model.specs.declared.event.Event.{Event}
use Rattle.history_model.specs.declared.rule.Rule.{Rule}
use Rattle.history_model.specs.World.{same_lane, world_by}
use Rattle.history_model.specs.Answers.{is_on, is_turn, wants_by, presents_by}
use Rattle.history_model.specs.Program.{turn_of}
use Rattle.history_model.specs.Runs.{RunBy}
use Rattle.history_model.proofs.facts.BridgeLemmas.{same_lane_true}
use Rattle.history_model.proofs.facts.PathLemmas.{way_cons}
use Rattle.law_lanes.proofs.rules.Laws.{asked_way}

-- where a route ends, and its owner
pub record RouteEnd : Type 0 where
  pub bus : ℕ
  pub owner : Place

abbrev pub end_in : Route → RouteEnd
end_in route = record { bus = route.bus; owner = route.owner }

abbrev pub end_from : Board → Op → ℕ → RouteEnd
end_from board op on = end_in (route_of board op on)

routed : (board : Board) (op : Op) (on : ℕ) (place : Place) → IsTree board → claim board on (request_on op on) ≡ place → route_of board op on ≡ route_by (λ l. route_of board op (end_of board l)) on place
routed board op on place tree claims =
    let onwards : BridgeLane → Route = λ l. route_of board op (end_of board l) in
    let ends = WayEnds-tree board op tree on in
    ends.onwards ∙ ap (route_by onwards on) claims

here_by : (board : Board) (op : Op) (on : ℕ) (place : Place) → is_lane place ≡ false → end_in (route_by (λ l. route_of board op (end_of board l)) on place) ≡ record { bus = on; owner = place }
here_by board op on (Target target) none = refl
here_by board op on (Header bus) none = refl
here_by board op on (Lane lane) none = cc
here_by board op on Nobody none = refl

ends_here : (board : Board) (op : Op) (on : ℕ) → IsTree board → is_lane (claim board on (request_on op on)) ≡ false → end_from board op on ≡ record { bus = on; owner = claim board on (request_on op on) }
ends_here board op on tree none =
    let place : Place = claim board on (request_on op on) in
    ap end_in (routed board op on place tree refl) ∙ here_by board op on place none

-- it is the same from the end of each lane of the way
ends_on : (board : Board) (op : Op) (tree : IsTree board) (k : BridgeLane) (lanes : List BridgeLane) (on : ℕ) → lanes ≡ way board op on → list_any (same_lane k) lanes ≡ true → end_from board op on ≡ end_from board op (end_of board k)
ends_on board op tree k [] on is any = cc
ends_on board op tree k (first ∷ lanes) on is any =
    let goes = way_cons board op on first lanes tree is in
    let onward : end_from board op on ≡ end_from board op (end_of board first) = ap end_in (routed board op on (Lane first) tree goes.claims) in
    let P : Bool → Type 0 = λ b. same_lane k first ≡ b → (b || list_any (same_lane k) lanes) ≡ true → end_from board op on ≡ end_from board op (end_of board k) in
    (elim (same_lane k first) as P [
      | true ↦ λ same _. onward ∙ ap (λ (l : BridgeLane). end_from board op (end_of board l)) (sym (same_lane_true k first same))
      | false ↦ λ _ later. onward ∙ ends_on board op tree k lanes (end_of board first) goes.later later
    ]) refl any

pub ends_there : (rule : Rule) (board : Board) (valid : IsValid board) (h : List Event) (run : RunBy rule board h) (o : OpId) (op : Op) (master : MasterAgent) → op_of board o ≡ Some op → slice_get board.masters o.master ≡ Some master
    → (on : ℕ) (by : By) → same_command (command_of op) MemWrite ≡ false → wants_by rule board h on by o ≡ true → is_lane (claim board on (request_on op on)) ≡ false
    → end_from board op master.bus ≡ record { bus = on; owner = claim board on (request_on op on) }
ends_there rule board valid h run o op master is_op is_master on Master delayed wanted none =
    let on_master : is_on on (slice_get board.masters o.master) ≡ true = (and_parts (is_on on (slice_get board.masters o.master)) (is_turn o (turn_of board h o.master)) wanted).0 in
    let bus_there : is_on on (Some master) ≡ true = subst (λ found. is_on on found ≡ true) is_master on_master in
    let bus : master.bus ≡ on = eqb-true master.bus on bus_there in
    ap (end_from board op) bus ∙ ends_here board op on (IsTree-valid board valid) none
ends_there rule board valid h run o op master is_op is_master on (ByLane k) delayed wanted none =
    let tree = IsTree-valid board valid in
    let ends : end_of board k ≡ on = eqb-true (end_of board k) on (and_parts (eqb (end_of board k) on) (presents_by rule board on o (world_by rule board h k).standing) wanted).0 in
    let there = asked_way rule board h on k o op valid run is_op delayed wanted in
    let is_op_too = there.is_op in
    let ops : there.op ≡ op = cc in
    let is_master_too = there.is_master in
    let masters : there.master ≡ master = cc in
    let on_way : list_any (same_lane k) (way board op master.bus) ≡ true =
    subst (λ (p : Op). list_any (same_lane k) (way board p master.bus) ≡ true) ops (subst (λ (m : MasterAgent). list_any (same_lane k) (way board there.op m.bus) ≡ true) masters there.on_way) in
    ends_on board op tree k (way board op master.bus) master.bus refl on_way ∙ ap (end_from board op) ends ∙ ends_here board op on tree none
