-- Whether the way of an operation ends at a target that does not abort it.
use Rattle.std.proofs.Common.{◌≡◌, ℕ, Bool, true, false, ◌||◌, not, cond, eqb, List, [], ◌∷◌, Option, Some, None, refl, sym, ap, subst, ◌∙◌, slice_get}
use Rattle.std.specs.List.{list_any}
use Rattle.std.proofs.lemmas.Bool.{eqb-true, and_parts}
use Rattle.pci_command.specs.declared.request.Request.{Request}
use Rattle.pci_command.specs.declared.op_id.OpId.{OpId}
use Rattle.pci_command.specs.declared.command.Command.TheVariants.{MemWrite}
use Rattle.pci_command.specs.Same.{same_command}
use Rattle.board_model.specs.declared.agents.Master.{Master as MasterAgent}
use Rattle.board_model.specs.declared.agents.Target.{Target as TargetAgent}
use Rattle.board_model.specs.declared.bridge.Lane.{Lane as BridgeLane}
use Rattle.board_model.specs.declared.bridge.Place.{Place}
use Rattle.board_model.specs.declared.bridge.Place.TheVariants.{Target, Header, Lane, Nobody}
use Rattle.board_model.specs.declared.op.Op.{Op}
use Rattle.board_model.specs.declared.board.Board.{Board}
use Rattle.board_model.specs.Requests.{op_of, command_of, request_on}
use Rattle.board_model.specs.Claims.{claim}
use Rattle.board_model.specs.Ways.{Route, end_of, route_by, route_of, way, aborts_at, words_at, words_by, words_of, dwords_of, is_lane}
use Rattle.board_model.specs.Valid.{IsValid}
use Rattle.board_model.specs.form_laws.Trees.{IsTree}
use Rattle.board_model.proofs.form_laws.Laws.{IsTree-valid, WayEnds-tree}
use Rattle.history_model.specs.declared.event.By.{By}
use Rattle.history_model.specs.declared.event.By.TheVariants.{Master, Lane as ByLane}
use Rattle.history_model.specs.declared.event.Event.{Event}
use Rattle.history_model.specs.Lanes.{has_number}
use Rattle.history_model.specs.World.{same_lane, world_of}
use Rattle.history_model.specs.Answers.{is_on, is_turn, wants, presents}
use Rattle.history_model.specs.Program.{turn_of}
use Rattle.history_model.specs.Runs.{Run}
use Rattle.history_model.proofs.facts.BridgeLemmas.{same_lane_true}
use Rattle.law_bound.proofs.reach.Laws.{own_by, stands_of, asked_at, passed_at}
use Rattle.history_model.proofs.facts.PathLemmas.{way_cons}

-- a target that is there does not abort the request
abbrev pub word_at : Request → Option TargetAgent → Bool
word_at request None = false
word_at request (Some target) = not (aborts_at target request)

-- the request is claimed by a target that does not abort it
abbrev pub word_by : Board → Request → Place → Bool
word_by board request (Target place) = word_at request (slice_get board.targets place)
word_by board request (Header bus) = false
word_by board request (Lane lane) = false
word_by board request Nobody = false

-- the way of an operation from a bus ends there
abbrev pub word_of : Board → Op → ℕ → Bool
word_of board op on = let route = route_of board op on in word_by board (request_on op route.bus) route.owner

-- where no target takes it, the request has no word
no_words_at : (place : ℕ) (request : Request) (found : Option TargetAgent) → word_at request found ≡ false → words_at place request found ≡ []
no_words_at place request None none = refl
no_words_at place request (Some target) none =
    let P : Bool → Type 0 = λ b. not b ≡ false → cond b [] (dwords_of place request) ≡ [] in
    (elim (aborts_at target request) as P [ true ↦ λ _. refl | false ↦ λ e. cc ]) none

-- nor where whoever claims it is no such target
no_words_by : (board : Board) (request : Request) (place : Place) → word_by board request place ≡ false → words_by board request place ≡ []
no_words_by board request (Target place) none = no_words_at place request (slice_get board.targets place) none
no_words_by board request (Header bus) none = refl
no_words_by board request (Lane lane) none = refl
no_words_by board request Nobody none = refl

-- so an operation has no word where its way ends so
pub no_words : (board : Board) (op : Op) (on : ℕ) → word_of board op on ≡ false → words_of board op on ≡ []
no_words board op on none = let route = route_of board op on in no_words_by board (request_on op route.bus) route.owner none

-- the route from a bus by who claims there
routed : (board : Board) (op : Op) (on : ℕ) (place : Place) → IsTree board → claim board on (request_on op on) ≡ place → route_of board op on ≡ route_by (λ l. route_of board op (end_of board l)) on place
routed board op on place tree claims =
    let onwards : BridgeLane → Route = λ l. route_of board op (end_of board l) in
    let ends = WayEnds-tree board op tree on in
    ends.onwards ∙ ap (route_by onwards on) claims

-- a route ends at a target that does not abort the operation
abbrev word_in : Board → Op → Route → Bool
word_in board op route = word_by board (request_on op route.bus) route.owner

-- where no lane claims, it is who claims
here_by : (board : Board) (op : Op) (on : ℕ) (place : Place) → is_lane place ≡ false → word_in board op (route_by (λ l. route_of board op (end_of board l)) on place) ≡ word_by board (request_on op on) place
here_by board op on (Target target) none = refl
here_by board op on (Header bus) none = refl
here_by board op on (Lane lane) none = cc
here_by board op on Nobody none = refl

-- so at the end of the way
pub word_here : (board : Board) (op : Op) (on : ℕ) → IsTree board → is_lane (claim board on (request_on op on)) ≡ false → word_of board op on ≡ word_by board (request_on op on) (claim board on (request_on op on))
word_here board op on tree none =
    let place : Place = claim board on (request_on op on) in
    ap (word_in board op) (routed board op on place tree refl) ∙ here_by board op on place none

-- it is the same from the end of each lane of the way
pub word_on : (board : Board) (op : Op) (tree : IsTree board) (k : BridgeLane) (lanes : List BridgeLane) (on : ℕ) → lanes ≡ way board op on → list_any (same_lane k) lanes ≡ true → word_of board op on ≡ word_of board op (end_of board k)
word_on board op tree k [] on is any = cc
word_on board op tree k (first ∷ lanes) on is any =
    let goes = way_cons board op on first lanes tree is in
    let onward : word_of board op on ≡ word_of board op (end_of board first) = ap (word_in board op) (routed board op on (Lane first) tree goes.claims) in
    let P : Bool → Type 0 = λ b. same_lane k first ≡ b → (b || list_any (same_lane k) lanes) ≡ true → word_of board op on ≡ word_of board op (end_of board k) in
    (elim (same_lane k first) as P [
      | true ↦ λ same _. onward ∙ ap (λ (l : BridgeLane). word_of board op (end_of board l)) (sym (same_lane_true k first same))
      | false ↦ λ _ later. onward ∙ word_on board op tree k lanes (end_of board first) goes.later later
    ]) refl any

-- where the way of an operation that is presented ends, who claims it says whether it has a word
pub word_there : (board : Board) (valid : IsValid board) (h : List Event) (run : Run board h) (o : OpId) (op : Op) (master : MasterAgent) → op_of board o ≡ Some op → slice_get board.masters o.master ≡ Some master
    → (on : ℕ) (by : By) → same_command (command_of op) MemWrite ≡ false → wants board h on by o ≡ true → is_lane (claim board on (request_on op on)) ≡ false
    → word_of board op master.bus ≡ word_by board (request_on op on) (claim board on (request_on op on))
word_there board valid h run o op master is_op is_master on Master delayed wanted none =
    let on_master : is_on on (slice_get board.masters o.master) ≡ true = (and_parts (is_on on (slice_get board.masters o.master)) (is_turn o (turn_of board h o.master)) wanted).0 in
    let bus_there : is_on on (Some master) ≡ true = subst (λ found. is_on on found ≡ true) is_master on_master in
    let bus : master.bus ≡ on = eqb-true master.bus on bus_there in
    ap (word_of board op) bus ∙ word_here board op on (IsTree-valid board valid) none
word_there board valid h run o op master is_op is_master on (ByLane k) delayed wanted none =
    let tree = IsTree-valid board valid in
    let ends : end_of board k ≡ on = eqb-true (end_of board k) on (and_parts (eqb (end_of board k) on) (presents board on o (world_of board h k).standing) wanted).0 in
    let asked = asked_at board h on k o op run is_op delayed wanted in
    let here = passed_at board h k o asked.0 run asked.1 in
    let own = own_by board valid h run k o (has_number here.number) here.held.slot here.held.is_held here.held.is_for in
    let there = stands_of board valid h run k o op here.held.slot is_op own in
    let is_master_too = there.is_master in
    let masters : there.master ≡ master = cc in
    let on_way : list_any (same_lane k) (way board op master.bus) ≡ true = subst (λ (m : MasterAgent). list_any (same_lane k) (way board op m.bus) ≡ true) masters there.on_way in
    word_on board op tree k (way board op master.bus) master.bus refl on_way ∙ ap (word_of board op) ends ∙ word_here board op on tree none
