-- As long as parts of an operation go through, data phases are left, under either rule.
use Rattle.std.proofs.Common.{◌≡◌, ℕ, zero, suc, ◌+◌, ◌<◌, ◌≤◌, Bool, true, false, cond, nat_lt, List, [], ◌∷◌, length, Option, Some, None, refl, ap, subst, ◌∙◌, arith, length-drop}
use Rattle.std.specs.List.{find, list_all}
use Rattle.list_facts.specs.Lists.{before}
use Rattle.pci_command.specs.declared.request.Request.{Request}
use Rattle.pci_command.specs.declared.op_id.OpId.{OpId}
use Rattle.pci_command.specs.Command.{is_read}
use Rattle.pci_command.specs.Same.{same_op}
use Rattle.board_model.specs.declared.bridge.Bridge.{Bridge}
use Rattle.board_model.specs.declared.bridge.Lane.{Lane as BridgeLane}
use Rattle.board_model.specs.declared.bridge.Place.{Place}
use Rattle.board_model.specs.declared.bridge.Place.TheVariants.{Target, Header, Lane, Nobody}
use Rattle.board_model.specs.declared.board.Board.{Board}
use Rattle.board_model.specs.declared.op.Op.{Op}
use Rattle.board_model.specs.Requests.{request_of, is_posted, phases_of, op_of}
use Rattle.board_model.specs.Claims.{claim}
use Rattle.board_model.specs.Ways.{lane_back}
use Rattle.history_model.specs.declared.event.By.{By}
use Rattle.history_model.specs.declared.event.Step.{Step}
use Rattle.history_model.specs.declared.event.Step.TheVariants.{Land, Part, Read, Accept, Latch, Take, Stall, MasterAbort, TargetAbort}
use Rattle.history_model.specs.declared.event.Event.{Event}
use Rattle.history_model.specs.declared.event.Event.TheVariants.{Act, Arrive}
use Rattle.history_model.specs.declared.item.Carried.{Carried}
use Rattle.history_model.specs.declared.item.Carried.TheVariants.{Post, Ask, Done, Room, Gone}
use Rattle.history_model.specs.declared.item.Slot.{Slot}
use Rattle.history_model.specs.declared.item.Answer.{Answer}
use Rattle.history_model.specs.declared.item.Answer.TheVariants.{Gives, Retry}
use Rattle.history_model.specs.declared.item.Cause.TheVariants.{Full, NoSlot, Behind}
use Rattle.history_model.specs.declared.rule.Rule.{Rule}
use Rattle.history_model.specs.Lanes.{is_done_for}
use Rattle.history_model.specs.World.{World, is_own, noted, world_of, world_by}
use Rattle.history_model.specs.Words.{phases_parted, parted_by, through, without}
use Rattle.history_model.specs.Answers.{completion_passes, completion_answer, delayed_answer, posted_answer, lane_answer, bridge_to, answer_by, answer_to, answer_in}
use Rattle.history_model.specs.Runs.{AllowedBy, RunBy}
use Rattle.history_model.proofs.facts.RequestLemmas.{same_op_true, request_is_of}
use Rattle.law_lanes.specs.Phases.{DelayedAreSingle}
use Rattle.law_lanes.proofs.Laws.{PartLeft, answered_part}
use Rattle.law_lanes.proofs.PartLemmas.{op_single, lane_no_part}

-- no lane of a bridge takes a part: so it is answered whatever is on the lanes, and whoever is noted down
same_part : (board : Board) (world other : World) (h : List Event) (on : ℕ) (by : By) (o : OpId) (rest : Request) (owner : Place) (phases : ℕ) (place : Place)
    → answer_by board world h on by o rest owner ≡ Gives (Part phases) place → answer_by board other h on by o rest owner ≡ Gives (Part phases) place
same_part board world other h on by o rest (Target target) phases place gives = gives
same_part board world other h on by o rest (Header bus) phases place gives = gives
same_part board world other h on by o rest (Lane at) phases place gives = absurd (lane_no_part board world on by o rest at (bridge_to board at.bus) phases place gives)
same_part board world other h on by o rest Nobody phases place gives = gives

part_left : (board : Board) (world : World) (h : List Event) (on : ℕ) (by : By) (o : OpId) (phases : ℕ) (place : Place) → answer_in board world h on by o ≡ Gives (Part phases) place → PartLeft board h on o phases
part_left board world h on by o phases place gives =
    let P : Option Request → Type 0 = λ found. answer_to board world h on by o found ≡ Gives (Part phases) place → answer_to board (world_of board h) h on by o found ≡ Gives (Part phases) place in
    answered_part board h on by o phases place ((elim (request_of board o on) as P [
      | None ↦ λ e. e
      | Some request ↦ λ e. let rest : Request = without (through h o) request in same_part board world (world_of board h) h on by o rest (claim board on rest) phases place e
    ]) gives)

-- less than the whole went through
abbrev Short : ℕ → ℕ → Type 0
Short gone long = 1 ≤ gone → gone < long

same_short : (gone long : ℕ) → Short gone long → Short (0 + gone) long
same_short gone long old = λ some. omega (arith, old (omega (arith, some)))

step_short : (board : Board) (world : World) (h : List Event) (on : ℕ) (by : By) (o : OpId) (op : Op) (step : Step) (place : Place) → op_of board o ≡ Some op
    → answer_in board world h on by o ≡ Gives step place → Short (through h o) (length (phases_of op)) → Short (phases_parted step + through h o) (length (phases_of op))
step_short board world h on by o op Land place is gives old = same_short (through h o) (length (phases_of op)) old
step_short board world h on by o op (Part phases) place is gives old =
    let left = part_left board world h on by o phases place gives in
    let of_op = request_is_of board o on left.request left.is_request in
    let same : of_op.op ≡ op = let known = of_op.is_op in cc in
    let phases_same : left.request.phases ≡ phases_of op = ap (λ r. r.phases) of_op.is_request ∙ ap phases_of same in
    let lengths = ap length phases_same in
    λ some. omega (arith, left.fewer, length-drop (through h o) left.request.phases, lengths)
step_short board world h on by o op (Read value) place is gives old = same_short (through h o) (length (phases_of op)) old
step_short board world h on by o op Accept place is gives old = same_short (through h o) (length (phases_of op)) old
step_short board world h on by o op Latch place is gives old = same_short (through h o) (length (phases_of op)) old
step_short board world h on by o op (Take outcome) place is gives old = same_short (through h o) (length (phases_of op)) old
step_short board world h on by o op Stall place is gives old = same_short (through h o) (length (phases_of op)) old
step_short board world h on by o op MasterAbort place is gives old = same_short (through h o) (length (phases_of op)) old
step_short board world h on by o op TargetAbort place is gives old = same_short (through h o) (length (phases_of op)) old

event_short : (rule : Rule) (board : Board) (h : List Event) (o : OpId) (op : Op) (e : Event) → op_of board o ≡ Some op → AllowedBy rule board h e → Short (through h o) (length (phases_of op)) → Short (parted_by o e + through h o) (length (phases_of op))
event_short rule board h o op (Act on by p step place) is allowed old =
    let P : Bool → Type 0 = λ b. same_op p o ≡ b → Short (cond b (phases_parted step) 0 + through h o) (length (phases_of op)) in
    (elim (same_op p o) as P [
      | true ↦ λ same.
          let one : p ≡ o = same_op_true p o same in
          let F : OpId → Type 0 = λ q. answer_in board (world_by rule board h) h on (noted rule by) q ≡ Gives step place in
          step_short board (world_by rule board h) h on (noted rule by) o op step place is (subst F one allowed.1) old
      | false ↦ λ _. same_short (through h o) (length (phases_of op)) old
    ]) refl
event_short rule board h o op (Arrive lane mark) is allowed old = same_short (through h o) (length (phases_of op)) old

pub short_by : (rule : Rule) (board : Board) (h : List Event) (o : OpId) (op : Op) → op_of board o ≡ Some op → RunBy rule board h → 1 ≤ through h o → through h o < length (phases_of op)
short_by rule board [] o op is run = λ some. absurd (omega (arith, some))
short_by rule board (e ∷ h) o op is run = event_short rule board h o op e is run.0 (short_by rule board h o op is run.1)

none_of_one : (gone long : ℕ) → Short gone long → long ≤ 1 → gone ≡ 0
none_of_one zero long short one = refl
none_of_one (suc gone) long short one = absurd (omega (arith, one, short (omega arith)))

-- an operation with one data phase at most goes through in no parts
pub delayed-not_parted_by : (rule : Rule) (board : Board) (h : List Event) (o : OpId) (on : ℕ) (request : Request) → DelayedAreSingle board → RunBy rule board h → request_of board o on ≡ Some request → is_posted request ≡ false → through h o ≡ 0
delayed-not_parted_by rule board h o on request single run is_request delayed =
    let of_op = request_is_of board o on request is_request in
    let F : Request → Type 0 = λ r. is_posted r ≡ false in
    let one : length (phases_of of_op.op) ≤ 1 = op_single board o of_op.op single of_op.is_op (subst F of_op.is_request delayed) in
    none_of_one (through h o) (length (phases_of of_op.op)) (short_by rule board h o of_op.op of_op.is_op run) one
