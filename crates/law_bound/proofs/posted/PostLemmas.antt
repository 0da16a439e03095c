-- The facts of a run that its events of posted writes rest on.
use Rattle.std.proofs.Common.{◌≡◌, ℕ, zero, suc, ◌+◌, ◌*◌, ◌-◌, ◌<◌, ◌≤◌, ◌==◌, Bool, true, false, cond, nat_lt, List, ◌∷◌, drop, length, Option, Some, None, refl, sym, ap, subst, ◌∙◌, arith, slice_get, length-drop}
use Rattle.std.specs.List.{find, AllByRecursion}
use Rattle.list_facts.specs.Lists.{before}
use Rattle.list_facts.proofs.EachLemmas.{Each-find, Each-slice_get}
use Rattle.list_facts.proofs.FindLemmas.{find_passes}
use Rattle.pci_command.specs.declared.command.Command.TheVariants.{MemWrite}
use Rattle.pci_command.specs.declared.request.Request.{Request}
use Rattle.pci_command.specs.declared.op_id.OpId.{OpId}
use Rattle.pci_command.specs.Command.{is_read, space_of}
use Rattle.pci_command.specs.Same.{same_command}
use Rattle.board_model.specs.declared.agents.Master.{Master as MasterAgent}
use Rattle.board_model.specs.declared.agents.Target.{Target as TargetAgent}
use Rattle.board_model.specs.declared.bridge.Bridge.{Bridge}
use Rattle.board_model.specs.declared.bridge.Lane.{Lane as BridgeLane}
use Rattle.board_model.specs.declared.bridge.Place.{Place}
use Rattle.board_model.specs.declared.bridge.Place.TheVariants.{Target, Lane}
use Rattle.board_model.specs.declared.op.Op.{Op}
use Rattle.board_model.specs.declared.board.Board.{Board}
use Rattle.board_model.specs.Requests.{op_of, command_of, phases_of, request_on, request_of, is_posted}
use Rattle.board_model.specs.Claims.{claim}
use Rattle.board_model.specs.Ways.{end_of, aborts_at, address_in, Route, route_by, route_of, way, pieces_in, pieces_at, pieces_by, pieces_of}
use Rattle.board_model.specs.form_laws.Trees.{IsTree}
use Rattle.board_model.proofs.form_laws.Laws.{WayEnds-tree}
use Rattle.history_model.specs.declared.event.By.{By}
use Rattle.history_model.specs.declared.event.By.TheVariants.{Master, Lane as ByLane}
use Rattle.history_model.specs.declared.event.Step.{Step}
use Rattle.history_model.specs.declared.event.Step.TheVariants.{Land, Part, Read, Stall, TargetAbort}
use Rattle.history_model.specs.declared.event.Event.{Event}
use Rattle.history_model.specs.declared.item.Carried.{Carried}
use Rattle.history_model.specs.declared.item.Carried.TheVariants.{Post}
use Rattle.history_model.specs.declared.item.Answer.TheVariants.{Gives}
use Rattle.history_model.specs.Lanes.{LaneState, empty_lane, is_of}
use Rattle.history_model.specs.World.{world_of}
use Rattle.history_model.specs.Words.{through, without, value_of}
use Rattle.history_model.specs.Answers.{presents_item, presents, is_on, wants, stalls_used, target_step, target_answer, bridge_to, answer_by, answer_to, answer}
use Rattle.history_model.specs.Runs.{Run}
use Rattle.history_model.specs.Left.{post_left, flying_left, standing_left}
use Rattle.law_lanes.specs.Kinds.{RightKind}
use Rattle.law_lanes.proofs.Laws.{RightKind-run, wants-at, Quiet-empty, run_no_bridge}
use Rattle.law_lanes.specs.order.Order.{is_posted_in, is_posted_op}
use Rattle.law_lanes.specs.order.OnWay.{WritesHaveOneClaimant}
use Rattle.law_lanes.specs.order.Parts.{WritesAbortWhole, HasWord}
use Rattle.law_lanes.proofs.order.Laws.{post_of, Short, Short-run, write_lands, rest_claimed, part_word}
use Rattle.std.proofs.lemmas.Bool.{and_parts}
use Rattle.history_model.proofs.facts.WantsLemmas.{master_bus}
use Rattle.law_bound.proofs.posted.PieceLemmas.{pieces_in_falls, AllTake, pieces_of_one}

-- a write in memory is there
pub record PostedOp (board : Board) (o : OpId) : Type 0 where
  pub op : Op
  pub is_op : op_of board o ≡ Some op
  pub write : same_command (command_of op) MemWrite ≡ true

-- an operation that is a write in memory
pub posted_op : (board : Board) (o : OpId) → is_posted_op board o ≡ true → PostedOp board o
posted_op board o posted =
    let P : Option Op → Type 0 = λ found. op_of board o ≡ found → is_posted_in found ≡ true → PostedOp board o in
    (elim (op_of board o) as P [ None ↦ λ _ e. cc | Some op ↦ λ is e. record { op = op; is_op = is; write = e } ]) refl posted

-- a lane on which something is, is one of a bridge
pub record OfBridge (board : Board) (lane : BridgeLane) : Type 0 where
  pub bridge : Bridge
  pub is_bridge : bridge_to board lane.bus ≡ Some bridge

-- since nothing is on a lane of no bridge
pub of_bridge : (board : Board) (h : List Event) (lane : BridgeLane) → Run board h → (world_of board h lane ≡ empty_lane → ⊥) → OfBridge board lane
of_bridge board h lane run some =
    let P : Option Bridge → Type 0 = λ found. bridge_to board lane.bus ≡ found → OfBridge board lane in
    (elim (bridge_to board lane.bus) as P [
      | None ↦ λ none. absurd (some (Quiet-empty board h lane (run_no_bridge board lane.bus h none run)))
      | Some bridge ↦ λ is. record { bridge = bridge; is_bridge = is }
    ]) refl

-- a write in memory that a lane presents stands there as a posted write
presented_post : (board : Board) (on : ℕ) (o : OpId) (xs : List Carried) (item : Option Carried) → is_posted_op board o ≡ true → AllByRecursion (RightKind board) xs
    → find (is_of o) xs ≡ item → presents_item board on (before (is_of o) xs) item ≡ true → find (is_of o) xs ≡ Some (Post o)
presented_post board on o xs None posted right some presented = cc
presented_post board on o xs (Some item) posted right some presented =
    some ∙ ap Some (post_of board o posted item (Each-find (RightKind board) (is_of o) xs item right some) (find_passes (is_of o) xs item some))

-- so where a lane presents it
pub stands_posted : (board : Board) (h : List Event) (on : ℕ) (lane : BridgeLane) (o : OpId) → is_posted_op board o ≡ true → Run board h → wants board h on (ByLane lane) o ≡ true
    → find (is_of o) (world_of board h lane).standing ≡ Some (Post o)
stands_posted board h on lane o posted run wanted =
    let st : List Carried = (world_of board h lane).standing in
    let presented : presents board on o st ≡ true = (and_parts (end_of board lane == on) (presents board on o st) wanted).1 in
    presented_post board on o st (find (is_of o) st) posted (RightKind-run board h lane run).1 refl presented

-- and the lane is one of a bridge
pub stands_bridge : (board : Board) (h : List Event) (lane : BridgeLane) (o : OpId) → Run board h → find (is_of o) (world_of board h lane).standing ≡ Some (Post o) → OfBridge board lane
stands_bridge board h lane o run stands =
    of_bridge board h lane run
    (λ empty. let none : find (is_of o) (world_of board h lane).standing ≡ None = ap (λ (s : LaneState). find (is_of o) s.standing) empty in let both : Some (Post o) ≡ None = sym stands ∙ none in cc)

-- a master that presents is on its bus
pub record OfMaster (board : Board) (on : ℕ) (o : OpId) : Type 0 where
  pub master : MasterAgent
  pub is_master : slice_get board.masters o.master ≡ Some master
  pub bus : on ≡ master.bus

-- the master of an operation that is presented by its master
pub of_master : (board : Board) (h : List Event) (on : ℕ) (o : OpId) → wants board h on Master o ≡ true → OfMaster board on o
of_master board h on o wanted =
    let P : Option MasterAgent → Type 0 = λ found. slice_get board.masters o.master ≡ found → is_on on found ≡ true → OfMaster board on o in
    (elim (slice_get board.masters o.master) as P [
      | None ↦ λ _ e. cc
      | Some master ↦ λ is e. record { master = master; is_master = is; bus = master_bus on (Some master) master refl e }
    ]) refl (wants-at board h on Master o wanted)

-- where a lane claims, it is the first of the way, and the rest of the way begins at its end
pub record WayGoesOn (board : Board) (op : Op) (on : ℕ) (lane : BridgeLane) : Type 0 where
  pub first : way board op on ≡ lane ∷ way board op (end_of board lane)
  pub pieces : (n : ℕ) → pieces_of board op on n ≡ pieces_of board op (end_of board lane) n

-- a way is that of whom the request is claimed by
route_is : (board : Board) (op : Op) (on : ℕ) (place : Place) → IsTree board → claim board on (request_on op on) ≡ place → route_of board op on ≡ route_by (λ lane. route_of board op (end_of board lane)) on place
route_is board op on place tree claims =
    let ends = WayEnds-tree board op tree on in
    ends.onwards ∙ ap (route_by (λ lane. route_of board op (end_of board lane)) on) claims

-- by the first claim
pub way_goes_on : (board : Board) (op : Op) (on : ℕ) (lane : BridgeLane) → IsTree board → claim board on (request_on op on) ≡ Lane lane → WayGoesOn board op on lane
way_goes_on board op on lane tree claims =
    let route = route_is board op on (Lane lane) tree claims in
    record { first = ap (λ (r : Route). r.lanes) route; pieces = λ n. ap (λ (r : Route). pieces_by board (request_on op r.bus) n r.owner) route }

-- where a target claims that does not abort, the pieces are those that it takes
pieces_at_target : (board : Board) (op : Op) (on n : ℕ) (word : HasWord board on (request_on op on)) → IsTree board → pieces_of board op on n ≡ pieces_in word.target.burst n
pieces_at_target board op on n word tree =
    let request : Request = request_on op on in
    let none : aborts_at word.target request ≡ false = word.no_abort in
    let at : pieces_at request n (Some word.target) ≡ pieces_in word.target.burst n = rw none refl in
    ap (λ (r : Route). pieces_by board (request_on op r.bus) n r.owner) (route_is board op on (Target word.place) tree word.claims)
    ∙ ap (pieces_at request n) word.is_target ∙ at

-- a part is as much as the target takes at a time
part_is : (board : Board) (h : List Event) (place : ℕ) (request : Request) (target : TargetAgent) (phases : ℕ) → target_step board h place request target ≡ Part phases → phases ≡ target.burst
part_is board h place request target phases is =
    let Goal : Step → Type 0 = λ step. step ≡ Part phases → phases ≡ target.burst in
    let long : ℕ = length request.phases in
    let reads : Step = Read (value_of board h (record { target = place; space = space_of request.command; address = address_in (space_of request.command) request.address })) in
    let A : Bool → Type 0 = λ b. Goal (cond b (Part target.burst) Land) in
    let a : A (nat_lt target.burst long) = elim (nat_lt target.burst long) as A [ true ↦ λ e. cc | false ↦ λ e. cc ] in
    let B : Bool → Type 0 = λ b. Goal (cond b reads (cond (nat_lt target.burst long) (Part target.burst) Land)) in
    let b : B (is_read request.command) = elim (is_read request.command) as B [ true ↦ λ e. cc | false ↦ a ] in
    let C : Bool → Type 0 = λ c. Goal (cond c TargetAbort (cond (is_read request.command) reads (cond (nat_lt target.burst long) (Part target.burst) Land))) in
    let c : C (aborts_at target request) = elim (aborts_at target request) as C [ true ↦ λ e. cc | false ↦ b ] in
    let D : Bool → Type 0 = λ d. Goal (cond d Stall (cond (aborts_at target request) TargetAbort (cond (is_read request.command) reads (cond (nat_lt target.burst long) (Part target.burst) Land)))) in
    (elim (nat_lt (stalls_used h place) target.stalls) as D [ true ↦ λ e. cc | false ↦ c ]) is

-- what has not gone whole is left
short_left : (gone long : ℕ) → Short gone long → 1 ≤ long → 1 ≤ long - gone
short_left zero long short some = omega (arith, some)
short_left (suc gone) long short some = omega (arith, short (omega arith))

module _ (board : Board) (tree : IsTree board) (one : WritesHaveOneClaimant board) (alike : WritesAbortWhole board) (take : AllTake board)
    (o : OpId) (op : Op) (is_op : op_of board o ≡ Some op) (posted : is_posted_op board o ≡ true) (some : 1 ≤ length (phases_of op)) (h : List Event) (run : Run board h) where
  -- what is left of a posted write is some piece
  pub piece_left : (on : ℕ) → 1 ≤ pieces_of board op on (length (phases_of op) - through h o)
  piece_left on = pieces_of_one board op on (length (phases_of op) - through h o) take (short_left (through h o) (length (phases_of op)) (Short-run board h o op is_op posted run) some)

  -- a lane claims the whole of it where it claims the rest
  pub whole_claimed : (on : ℕ) (request : Request) (place : Place) → request_of board o on ≡ Some request → claim board on (without (through h o) request) ≡ place → claim board on (request_on op on) ≡ place
  whole_claimed on request place is_request claims =
      let requested : request_of board o on ≡ Some (request_on op on) = rw is_op refl in
      let same : request ≡ request_on op on = let somes : Some request ≡ Some (request_on op on) = sym is_request ∙ requested in cc in
      sym (rest_claimed board h o op on one is_op posted run) ∙ subst (λ r. claim board on (without (through h o) r) ≡ place) same claims

  -- after a part of it there is one piece less
  pub part_falls : (on : ℕ) (by : By) (phases : ℕ) (at : Place) → answer board h on by o ≡ Gives (Part phases) at
      → pieces_of board op on (length (phases_of op) - (phases + through h o)) + 1 ≤ pieces_of board op on (length (phases_of op) - through h o)
  part_falls on by phases at gives =
      let whole : Request = request_on op on in
      let rest : Request = without (through h o) whole in
      let word = part_word board o op one alike is_op posted h on by phases at run gives in
      let requested : request_of board o on ≡ Some whole = rw is_op refl in
      let write : is_posted whole ≡ true = sym (ap is_posted_in is_op) ∙ posted in
      let lands = write_lands board h on by o whole (Part phases) at requested write gives in
      let F : Option Request → Type 0 = λ found. answer_to board (world_of board h) h on by o found ≡ Gives (Part phases) at in
      let given : answer_by board (world_of board h) h on by o rest (claim board on rest) ≡ Gives (Part phases) at = subst F requested gives in
      let claims : claim board on rest ≡ Target word.place = rest_claimed board h o op on one is_op posted run ∙ word.claims in
      let G : Place → Type 0 = λ place. answer_by board (world_of board h) h on by o rest place ≡ Gives (Part phases) at in
      let K : Option TargetAgent → Type 0 = λ found. target_answer board h word.place rest found ≡ Gives (Part phases) at in
      let step : Gives (target_step board h word.place rest word.target) (Target word.place) ≡ Gives (Part phases) at = subst K word.is_target (subst G claims given) in
      let steps : target_step board h word.place rest word.target ≡ Part phases = cc in
      let burst : phases ≡ word.target.burst = part_is board h word.place rest word.target phases steps in
      let takes : 1 ≤ word.target.burst = Each-slice_get (λ (t : TargetAgent). 1 ≤ t.burst) board.targets word.place word.target take word.is_target in
      let n : ℕ = length (phases_of op) - through h o in
      let below : phases < length (drop (through h o) (phases_of op)) = lands.1 in
      let enough : word.target.burst ≤ n = omega (arith, below, burst, length-drop (through h o) (phases_of op)) in
      let less : length (phases_of op) - (phases + through h o) ≡ n - word.target.burst = omega (arith, burst) in
      omega (
        arith,
        ap (pieces_of board op on) less,
        pieces_at_target board op on n word tree,
        pieces_at_target board op on (n - word.target.burst) word tree,
        pieces_in_falls word.target.burst n takes enough,
      )

  -- what it has left where it stands, and where it is in flight
  pub standing_weight : (lane : BridgeLane) → standing_left board h lane (Post o) ≡ 3 * length (way board op (end_of board lane)) + pieces_of board op (end_of board lane) (length (phases_of op) - through h o) + 1
  standing_weight lane = ap (λ found. post_left board h lane o found + 1) is_op

  -- and in flight one more
  pub flying_weight : (lane : BridgeLane) → flying_left board h lane (Post o) ≡ 3 * length (way board op (end_of board lane)) + pieces_of board op (end_of board lane) (length (phases_of op) - through h o) + 2
  flying_weight lane = ap (λ found. post_left board h lane o found + 2) is_op
