-- A write that landed whole brought a data phase to each word that it names.
use Rattle.std.proofs.Common.{◌≡◌, ℕ, suc, ◌+◌, ◌*◌, ◌<◌, Bool, true, false, ◌||◌, eqb, eqb-true, cond, List, [], ◌∷◌, length, Option, Some, None, refl, sym, ap, subst, ◌∙◌, arith, slice_get, Contains}
use Rattle.std.specs.List.{list_any, AllByRecursion}
use Rattle.pci_command.specs.declared.command.Command.TheVariants.{MemWrite}
use Rattle.pci_command.specs.declared.command.Space.{Space}
use Rattle.pci_command.specs.declared.command.Space.TheVariants.{Mem, Io, Cfg}
use Rattle.pci_command.specs.declared.phases.Phase.{Phase}
use Rattle.pci_command.specs.declared.request.Request.{Request}
use Rattle.pci_command.specs.declared.op_id.OpId.{OpId}
use Rattle.pci_command.specs.Command.{space_of}
use Rattle.pci_command.specs.Same.{same_command}
use Rattle.board_model.specs.declared.agents.Master.{Master as MasterAgent}
use Rattle.board_model.specs.declared.agents.Target.{Target as TargetAgent}
use Rattle.board_model.specs.declared.bridge.Lane.{Lane as BridgeLane}
use Rattle.board_model.specs.declared.bridge.Place.{Place}
use Rattle.board_model.specs.declared.bridge.Place.TheVariants.{Target, Header, Lane, Nobody}
use Rattle.board_model.specs.declared.op.Op.{Op}
use Rattle.board_model.specs.declared.board.Board.{Board}
use Rattle.board_model.specs.Requests.{op_of, command_of, request_on, request_of}
use Rattle.board_model.specs.Claims.{claim}
use Rattle.board_model.specs.Ways.{Dword, Route, route_of, way, end_of, aborts_at, address_in, words_at, words_by, dwords_from, dwords_of}
use Rattle.board_model.specs.Valid.{is_bus, IsValid}
use Rattle.board_model.specs.form_laws.Trees.{IsTree}
use Rattle.history_model.specs.declared.event.By.{By}
use Rattle.history_model.specs.declared.event.By.TheVariants.{Master, Lane as ByLane}
use Rattle.history_model.specs.declared.event.Event.{Event}
use Rattle.history_model.specs.Lanes.{has_number}
use Rattle.history_model.specs.World.{same_lane, world_of}
use Rattle.history_model.specs.Words.{through, landed}
use Rattle.history_model.specs.Answers.{is_on, is_turn, wants, presents}
use Rattle.history_model.specs.Program.{turn_of}
use Rattle.history_model.specs.Knowledge.{has_landed, is_landing_of, is_write, words_on, words_named}
use Rattle.history_model.specs.Runs.{Run}
use Rattle.law_lanes.specs.order.Order.{is_posted_in, is_posted_op}
use Rattle.std.proofs.lemmas.Bool.{and_parts}
use Rattle.board_model.proofs.form_laws.Laws.{IsTree-valid}
use Rattle.history_model.proofs.facts.BridgeLemmas.{same_lane_true}
use Rattle.history_model.proofs.facts.PathLemmas.{way_cons}
use Rattle.history_model.proofs.facts.PostedLemmas.{write_not_read}
use Rattle.law_lanes.proofs.Laws.{delayed-not_parted, WellFormed-single}
use Rattle.law_lanes.proofs.order.Laws.{OneClaimant-formed, rest_claimed}
use Rattle.law_bound.proofs.reach.Laws.{own_by, stands_of, asked_at, passed_at}
use Rattle.law_fresh.proofs.reads.Laws.{master_there}
use Rattle.law_fresh.proofs.Laws.{whole, each_contains, target_on}
use Rattle.law_fresh.proofs.Laws.{write_op}
use Rattle.law_delivered.proofs.EndLemmas.{ending, ends_on, ends_at, one_end, target_bus, master_bus_there}
use Rattle.law_delivered.proofs.WholeLemmas.{taken_at, Comes, Always, whole_lands}

-- Where a delayed request is presented and no bridge claims it, its way ends.

pub ending_on : (board : Board) (op : Op) (tree : IsTree board) (k : BridgeLane) (lanes : List BridgeLane) (on : ℕ) → lanes ≡ way board op on → list_any (same_lane k) lanes ≡ true
    → ending (route_of board op on) ≡ ending (route_of board op (end_of board k))
ending_on board op tree k [] on is any = cc
ending_on board op tree k (first ∷ lanes) on is any =
    let goes = way_cons board op on first lanes tree is in
    let onward : ending (route_of board op on) ≡ ending (route_of board op (end_of board first)) = ends_on board op on first tree goes.claims in
    let P : Bool → Type 0 = λ b. same_lane k first ≡ b → (b || list_any (same_lane k) lanes) ≡ true → ending (route_of board op on) ≡ ending (route_of board op (end_of board k)) in
    (elim (same_lane k first) as P [
      | true ↦ λ same _. onward ∙ ap (λ (l : BridgeLane). ending (route_of board op (end_of board l))) (sym (same_lane_true k first same))
      | false ↦ λ _ later. onward ∙ ending_on board op tree k lanes (end_of board first) goes.later later
    ]) refl any

pub ending_there : (board : Board) (valid : IsValid board) (h : List Event) (run : Run board h) (o : OpId) (op : Op) (master : MasterAgent) → op_of board o ≡ Some op → slice_get board.masters o.master ≡ Some master
    → (on : ℕ) (by : By) (place : ℕ) → same_command (command_of op) MemWrite ≡ false → wants board h on by o ≡ true → claim board on (request_on op on) ≡ Target place
    → ending (route_of board op master.bus) ≡ (on, Target place)
ending_there board valid h run o op master is_op is_master on Master place delayed wanted claims =
    let on_master : is_on on (slice_get board.masters o.master) ≡ true = (and_parts (is_on on (slice_get board.masters o.master)) (is_turn o (turn_of board h o.master)) wanted).0 in
    let bus_there : is_on on (Some master) ≡ true = subst (λ found. is_on on found ≡ true) is_master on_master in
    let bus : master.bus ≡ on = eqb-true master.bus on bus_there in
    ap (λ n. ending (route_of board op n)) bus ∙ ends_at board op on place (IsTree-valid board valid) claims
ending_there board valid h run o op master is_op is_master on (ByLane k) place delayed wanted claims =
    let tree = IsTree-valid board valid in
    let ends : end_of board k ≡ on = eqb-true (end_of board k) on (and_parts (eqb (end_of board k) on) (presents board on o (world_of board h k).standing) wanted).0 in
    let asked = asked_at board h on k o op run is_op delayed wanted in
    let here = passed_at board h k o asked.0 run asked.1 in
    let own = own_by board valid h run k o (has_number here.number) here.held.slot here.held.is_held here.held.is_for in
    let there = stands_of board valid h run k o op here.held.slot is_op own in
    let is_master_too = there.is_master in
    let masters : there.master ≡ master = cc in
    let on_way : list_any (same_lane k) (way board op master.bus) ≡ true = subst (λ (m : MasterAgent). list_any (same_lane k) (way board op m.bus) ≡ true) masters there.on_way in
    ending_on board op tree k (way board op master.bus) master.bus refl on_way ∙ ap (λ n. ending (route_of board op n)) ends ∙ ends_at board op on place tree claims

-- The words of an operation, where its way ends.

abbrev Placed : ℕ → Space → ℕ → ℕ → Dword → Type 0
Placed target space address long d = (i : ℕ) × (i < long) × (d ≡ record { target = target; space = space; address = address + 4 * i })

placed_further : (target : ℕ) (space : Space) (address long : ℕ) (d : Dword) → Placed target space (address + 4) long d → Placed target space address (suc long) d
placed_further target space address long d placed =
    let at : ℕ → Dword = λ a. record { target = target; space = space; address = a } in
    let further : address + 4 + 4 * placed.0 ≡ address + 4 * suc placed.0 = omega arith in
    (suc placed.0, omega (arith, placed.1), placed.2 ∙ ap at further)

dwords_placed : (target : ℕ) (space : Space) (address : ℕ) (phases : List Phase) → AllByRecursion (Placed target space address (length phases)) (dwords_from target space address phases)
dwords_placed target space address [] = tt
dwords_placed target space address (phase ∷ phases) =
    let at : ℕ → Dword = λ a. record { target = target; space = space; address = a } in
    let first : address ≡ address + 4 * 0 = omega arith in
    ((0, omega arith, ap at first), each_further (dwords_from target space (address + 4) phases) (dwords_placed target space (address + 4) phases))
  where
    each_further : (ds : List Dword) → AllByRecursion (Placed target space (address + 4) (length phases)) ds → AllByRecursion (Placed target space address (suc (length phases))) ds
    each_further [] each = tt
    each_further (d ∷ ds) each = (placed_further target space address (length phases) d each.0, each_further ds each.1)

-- a word of a request, and the target that claims it
record Named (request : Request) (owner : Place) (word : Dword) : Type 0 where
  target : ℕ
  is_owner : owner ≡ Target target
  i : ℕ
  within : i < length request.phases
  is : word ≡ record { target = target; space = space_of request.command; address = address_in (space_of request.command) request.address + 4 * i }

named_at : (place : ℕ) (request : Request) (found : Option TargetAgent) (word : Dword) → Contains (words_at place request found) word → Named request (Target place) word
named_at place request None word is = each_contains (λ (d : Dword). Named request (Target place) word) [] word tt is.0 is.1 is.2
named_at place request (Some target) word is =
    let space : Space = space_of request.command in
    let start : ℕ = address_in space request.address in
    let P : Bool → Type 0 = λ b. Contains (cond b [] (dwords_of place request)) word → Named request (Target place) word in
    (elim (aborts_at target request) as P [
      | true ↦ λ none. each_contains (λ (d : Dword). Named request (Target place) word) [] word tt none.0 none.1 none.2
      | false ↦ λ some.
          let placed = each_contains (Placed place space start (length request.phases)) (dwords_of place request) word (dwords_placed place space start request.phases) some.0 some.1 some.2 in
          record { target = place; is_owner = refl; i = placed.0; within = placed.1; is = placed.2 }
    ]) is

named_by : (board : Board) (request : Request) (owner : Place) (word : Dword) → Contains (words_by board request owner) word → Named request owner word
named_by board request (Target place) word is = named_at place request (slice_get board.targets place) word is
named_by board request (Header bus) word is = each_contains (λ (d : Dword). Named request (Header bus) word) [] word tt is.0 is.1 is.2
named_by board request (Lane lane) word is = each_contains (λ (d : Dword). Named request (Lane lane) word) [] word tt is.0 is.1 is.2
named_by board request Nobody word is = each_contains (λ (d : Dword). Named request Nobody word) [] word tt is.0 is.1 is.2

abbrev pub target_or : ℕ → Place → ℕ
target_or other (Target target) = target
target_or other (Header bus) = other
target_or other (Lane lane) = other
target_or other Nobody = other

pub based_in : (space : Space) (address gone : ℕ) → space ≡ Mem → address_in space (address + 4 * gone) ≡ address_in space address + 4 * gone
based_in Mem address gone is = refl
based_in Io address gone is = refl
based_in Cfg address gone is = cc

pub based_none : (space : Space) (address gone : ℕ) → gone ≡ 0 → address_in space (address + 4 * gone) ≡ address_in space address + 4 * gone
based_none space address gone none =
    let F : ℕ → Type 0 = λ g. address_in space (address + 4 * g) ≡ address_in space address + 4 * g in
    let whole_address : address + 4 * 0 ≡ address = omega arith in
    let there : F 0 = ap (address_in space) whole_address ∙ (let more : address_in space address ≡ address_in space address + 4 * 0 = omega arith in more) in
    subst F (sym none) there

module _ (board : Board) (valid : IsValid board) (w : OpId) (op : Op) (is_op : op_of board w ≡ Some op) (master : MasterAgent) (is_master : slice_get board.masters w.master ≡ Some master)
    (target : ℕ) (owner : (route_of board op master.bus).owner ≡ Target target) where
  abbrev route : Route
  route = route_of board op master.bus

  abbrev space : Space
  space = space_of (command_of op)

  abbrev base : ℕ
  base = address_in space (request_on op route.bus).address

  -- where a target that claims it is the end of its way
  comes : (h : List Event) (on place : ℕ) (at : Place) → ending route ≡ (on, Target place) → at ≡ Target place
      → address_in space ((request_on op on).address + 4 * through h w) ≡ address_in space (request_on op on).address + 4 * through h w → Comes board w op is_op target base h on at
  comes h on place at ends is_at based =
      let bus : route.bus ≡ on = ap (λ (pair : ℕ × Place). pair.0) ends in
      let its : Target target ≡ Target place = sym owner ∙ ap (λ (pair : ℕ × Place). pair.1) ends in
      let one : place ≡ target = sym (ap (target_or 0) its) in
      let same : address_in space (request_on op on).address ≡ base = ap (λ n. address_in space (request_on op n).address) (sym bus) in
      record { is_at = is_at ∙ ap Target one; based = based ∙ ap (λ b. b + 4 * through h w) same }

  posted_comes : is_posted_op board w ≡ true → Always board w op is_op target base
  posted_comes posted h on by step at run taken =
      let request : Request = request_on op on in
      let requested : request_of board w on ≡ Some request = rw is_op refl in
      let is_write_op : same_command (command_of op) MemWrite ≡ true = sym (ap is_posted_in is_op) ∙ posted in
      let there = taken_at board h on by w request step at requested run.0.1 taken in
      let place : ℕ = there.0 in
      let rest = rest_claimed board h w op on (OneClaimant-formed board valid.well_formed) is_op posted run.1 in
      let claims : claim board on request ≡ Target place = sym rest ∙ there.1 in
      let agent = target_on board on request place claims in
      let here = subst (λ n. is_bus board n ≡ true) agent.2 (target_bus board valid place agent.0 agent.1) in
      let ends = one_end board valid op is_write_op on master.bus place here (master_bus_there board valid w.master master is_master) claims in
      comes h on place at ends there.2 (based_in space request.address (through h w) (write_not_read (command_of op) is_write_op).1)

  delayed_comes : is_posted_op board w ≡ false → Always board w op is_op target base
  delayed_comes other h on by step at run taken =
      let request : Request = request_on op on in
      let requested : request_of board w on ≡ Some request = rw is_op refl in
      let delayed : same_command (command_of op) MemWrite ≡ false = sym (ap is_posted_in is_op) ∙ other in
      let there = taken_at board h on by w request step at requested run.0.1 taken in
      let place : ℕ = there.0 in
      let gone : through h w ≡ 0 = delayed-not_parted board h w on request (WellFormed-single board valid.well_formed) run.1 requested delayed in
      let claims : claim board on request ≡ Target place = ap (claim board on) (sym (whole (through h w) request gone)) ∙ there.1 in
      let ends = ending_there board valid h run.1 w op master is_op is_master on by place delayed run.0.0 claims in
      comes h on place at ends there.2 (based_none space request.address (through h w) gone)

  always_comes : Always board w op is_op target base
  always_comes =
      let P : Bool → Type 0 = λ b. is_posted_op board w ≡ b → Always board w op is_op target base in
      (elim (is_posted_op board w) as P [ true ↦ λ posted. posted_comes posted | false ↦ λ other. delayed_comes other ]) refl

-- what landed whole landed in each word that it names
pub named_lands : (board : Board) (h : List Event) (w : OpId) (word : Dword) → IsValid board → Run board h → is_write board w ≡ true → Contains (words_named board w) word → has_landed h w ≡ true
    → list_any (is_landing_of w) (landed board h word) ≡ true
named_lands board h w word valid run writes named lands =
    let write = write_op board w writes in
    let op : Op = write.op in
    let there = master_there board w op write.is_op in
    let master : MasterAgent = there.0 in
    let F : Option Op → Option MasterAgent → Type 0 = λ found agent. Contains (words_on board found agent) word in
    let of_op : F (Some op) (slice_get board.masters w.master) = subst (λ found. F found (slice_get board.masters w.master)) write.is_op named in
    let of_master : F (Some op) (Some master) = subst (F (Some op)) there.1 of_op in
    let route : Route = route_of board op master.bus in
    let at = named_by board (request_on op route.bus) route.owner word of_master in
    let always = always_comes board valid w op write.is_op master there.1 at.target at.is_owner in
    let base : ℕ = address_in (space_of (command_of op)) (request_on op route.bus).address in
    let landed_there = whole_lands board w op write.is_op at.target base always h at.i run at.within lands in
    subst (λ d. list_any (is_landing_of w) (landed board h d) ≡ true) (sym at.is) landed_there
