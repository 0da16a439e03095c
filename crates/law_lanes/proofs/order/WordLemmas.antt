-- Where a write in memory has a word it is stalled, taken in part or lands, and only there it is taken in part.
use Rattle.std.proofs.Common.{◌≡◌, ℕ, zero, suc, ◌+◌, ◌*◌, Bool, true, false, cond, nat_lt, List, length, Option, Some, None, refl, sym, ap, subst, ◌∙◌, arith, slice_get}
use Rattle.std.specs.List.{list_any}
use Rattle.pci_command.specs.declared.request.Request.{Request}
use Rattle.pci_command.specs.declared.op_id.OpId.{OpId}
use Rattle.pci_command.specs.Command.{is_read, space_of}
use Rattle.board_model.specs.declared.agents.Target.{Target as TargetAgent}
use Rattle.board_model.specs.declared.bridge.Place.{Place}
use Rattle.board_model.specs.declared.bridge.Place.TheVariants.{Target, Header, Lane, Nobody}
use Rattle.board_model.specs.declared.board.Board.{Board}
use Rattle.board_model.specs.declared.op.Op.{Op}
use Rattle.board_model.specs.Requests.{op_of, request_on, request_of, is_posted}
use Rattle.board_model.specs.Claims.{range_holds, claim}
use Rattle.board_model.specs.Ways.{aborts_at, address_in}
use Rattle.history_model.specs.declared.event.By.{By}
use Rattle.history_model.specs.declared.event.Step.{Step}
use Rattle.history_model.specs.declared.event.Step.TheVariants.{Land, Part, Read, Accept, Latch, Take, Stall, MasterAbort, TargetAbort}
use Rattle.history_model.specs.declared.event.Event.{Event}
use Rattle.history_model.specs.declared.item.Answer.TheVariants.{Gives}
use Rattle.history_model.specs.World.{world_of}
use Rattle.history_model.specs.Words.{through, without, value_of}
use Rattle.history_model.specs.Answers.{stalls_used, target_step, target_answer, bridge_to, answer_by, answer_to, answer}
use Rattle.history_model.specs.Runs.{Run}
use Rattle.law_lanes.specs.order.Order.{is_posted_in, is_posted_op}
use Rattle.law_lanes.specs.order.OnWay.{WritesHaveOneClaimant}
use Rattle.law_lanes.specs.order.Parts.{WritesAbortWhole, HasWord}
use Rattle.history_model.proofs.facts.PostedLemmas.{write_not_read, memory_no_header}
use Rattle.law_lanes.proofs.order.LandLemmas.{Short, Short-run, rest_claimed, lane_claims}

-- the steps of a target that takes
abbrev pub OnlyTakes : Step → Type 0
OnlyTakes Land = Unit {0}
OnlyTakes (Part phases) = Unit {0}
OnlyTakes (Read value) = ⊥
OnlyTakes Accept = ⊥
OnlyTakes Latch = ⊥
OnlyTakes (Take outcome) = ⊥
OnlyTakes Stall = Unit {0}
OnlyTakes MasterAbort = ⊥
OnlyTakes TargetAbort = ⊥

target_takes : (board : Board) (h : List Event) (place : ℕ) (request : Request) (target : TargetAgent) → is_read request.command ≡ false → aborts_at target request ≡ false → OnlyTakes (target_step board h place request target)
target_takes board h place request target writes no_abort =
    let long : ℕ = length request.phases in
    let P : Step → Type 0 = OnlyTakes in
    let reads : Step = Read (value_of board h (record { target = place; space = space_of request.command; address = address_in (space_of request.command) request.address })) in
    let A : Bool → Type 0 = λ b. P (cond b (Part target.burst) Land) in
    let a : A (nat_lt target.burst long) = elim (nat_lt target.burst long) as A [ true ↦ tt | false ↦ tt ] in
    let B : Bool → Type 0 = λ b. P (cond b reads (cond (nat_lt target.burst long) (Part target.burst) Land)) in
    let b : B (is_read request.command) = subst B (sym writes) a in
    let C : Bool → Type 0 = λ c. P (cond c TargetAbort (cond (is_read request.command) reads (cond (nat_lt target.burst long) (Part target.burst) Land))) in
    let c : C (aborts_at target request) = subst C (sym no_abort) b in
    let D : Bool → Type 0 = λ d. P (cond d Stall (cond (aborts_at target request) TargetAbort (cond (is_read request.command) reads (cond (nat_lt target.burst long) (Part target.burst) Land)))) in
    elim (nat_lt (stalls_used h place) target.stalls) as D [ true ↦ tt | false ↦ c ]

gives_takes : (step given : Step) (place at : Place) → Gives step place ≡ Gives given at → OnlyTakes step → OnlyTakes given
gives_takes step given place at same takes = let steps : step ≡ given = cc in subst OnlyTakes steps takes

-- where the rest of a write has a word
word_answers : (board : Board) (h : List Event) (on : ℕ) (by : By) (o : OpId) (request : Request) (step : Step) (at : Place) → is_posted request ≡ true → HasWord board on request
    → answer_by board (world_of board h) h on by o request (claim board on request) ≡ Gives step at → OnlyTakes step
word_answers board h on by o request step at posted word gives =
    let F : Place → Type 0 = λ place. answer_by board (world_of board h) h on by o request place ≡ Gives step at in
    let claimed : target_answer board h word.place request (slice_get board.targets word.place) ≡ Gives step at = subst F word.claims gives in
    let G : Option TargetAgent → Type 0 = λ found. target_answer board h word.place request found ≡ Gives step at in
    let given : Gives (target_step board h word.place request word.target) (Target word.place) ≡ Gives step at = subst G word.is_target claimed in
    gives_takes (target_step board h word.place request word.target) step (Target word.place) at given
    (target_takes board h word.place request word.target (write_not_read request.command posted).0 word.no_abort)

-- a part is taken only where there is a word
pub part_no_abort : (board : Board) (h : List Event) (place : ℕ) (request : Request) (target : TargetAgent) (phases : ℕ) → target_step board h place request target ≡ Part phases → aborts_at target request ≡ false
part_no_abort board h place request target phases is =
    let rest : Step = cond (is_read request.command) (Read (value_of board h (record { target = place; space = space_of request.command; address = address_in (space_of request.command) request.address })))
    (cond (nat_lt target.burst (length request.phases)) (Part target.burst) Land) in
    let C : Bool → Type 0 = λ c. aborts_at target request ≡ c → cond c TargetAbort rest ≡ Part phases → aborts_at target request ≡ false in
    let c : cond (aborts_at target request) TargetAbort rest ≡ Part phases → aborts_at target request ≡ false = (elim (aborts_at target request) as C [ true ↦ λ _ e. cc | false ↦ λ none _. none ]) refl in
    let D : Bool → Type 0 = λ d. cond d Stall (cond (aborts_at target request) TargetAbort rest) ≡ Part phases → aborts_at target request ≡ false in
    (elim (nat_lt (stalls_used h place) target.stalls) as D [ true ↦ λ e. cc | false ↦ c ]) is

target_word : (board : Board) (h : List Event) (on place : ℕ) (request : Request) (found : Option TargetAgent) (phases : ℕ) (at : Place) → claim board on request ≡ Target place → slice_get board.targets place ≡ found
    → target_answer board h place request found ≡ Gives (Part phases) at → HasWord board on request
target_word board h on place request None phases at claims is gives = cc
target_word board h on place request (Some target) phases at claims is gives =
    let part : target_step board h place request target ≡ Part phases = cc in
    record { place = place; target = target; claims = claims; is_target = is; no_abort = part_no_abort board h place request target phases part }

place_word : (board : Board) (h : List Event) (on : ℕ) (by : By) (o : OpId) (request : Request) (place : Place) (phases : ℕ) (at : Place) → is_posted request ≡ true
    → claim board on request ≡ place → answer_by board (world_of board h) h on by o request place ≡ Gives (Part phases) at → HasWord board on request
place_word board h on by o request (Target target) phases at posted claims gives = target_word board h on target request (slice_get board.targets target) phases at claims refl gives
place_word board h on by o request (Header bus) phases at posted claims gives =
    absurd (memory_no_header board on request bus (write_not_read request.command posted).1 claims)
place_word board h on by o request (Lane lane) phases at posted claims gives =
    absurd (lane_claims board (world_of board h) on by o request lane (bridge_to board lane.bus) (Part phases) at posted gives).0
place_word board h on by o request Nobody phases at posted claims gives = cc

-- what a target aborts of the whole it aborts of what is left
aborts_from : (board : Board) (o : OpId) (on : ℕ) (request : Request) (gone place : ℕ) (target : TargetAgent) → WritesAbortWhole board → request_of board o on ≡ Some request → is_posted request ≡ true
    → Short gone (length request.phases) → slice_get board.targets place ≡ Some target → aborts_at target (without gone request) ≡ aborts_at target request
aborts_from board o on request zero place target alike is posted short is_target =
    let whole : request.address + 4 * 0 ≡ request.address = omega arith in
    ap (λ address. list_any (range_holds (space_of request.command) address) target.aborts) whole
aborts_from board o on request (suc gone) place target alike is posted short is_target = alike o on request (suc gone) place target is posted (short (omega arith)) is_target

module _ (board : Board) (o : OpId) (op : Op) (one : WritesHaveOneClaimant board) (alike : WritesAbortWhole board) (is_op : op_of board o ≡ Some op) (posted : is_posted_op board o ≡ true) where
  requested : (on : ℕ) → request_of board o on ≡ Some (request_on op on)
  requested on = rw is_op refl

  write : (on : ℕ) → is_posted (request_on op on) ≡ true
  write on = sym (ap is_posted_in is_op) ∙ posted

  aborts_rest : (h : List Event) (on place : ℕ) (target : TargetAgent) → Run board h → slice_get board.targets place ≡ Some target → aborts_at target (without (through h o) (request_on op on)) ≡ aborts_at target (request_on op on)
  aborts_rest h on place target run is_target =
      aborts_from board o on (request_on op on) (through h o) place target alike (requested on) (write on) (Short-run board h o op is_op posted run) is_target

  rest_word : (h : List Event) (on : ℕ) → Run board h → HasWord board on (request_on op on) → HasWord board on (without (through h o) (request_on op on))
  rest_word h on run word =
      record {
        place = word.place;
        target = word.target;
        claims = rest_claimed board h o op on one is_op posted run ∙ word.claims;
        is_target = word.is_target;
        no_abort = aborts_rest h on word.place word.target run word.is_target ∙ word.no_abort;
      }

  whole_word : (h : List Event) (on : ℕ) → Run board h → HasWord board on (without (through h o) (request_on op on)) → HasWord board on (request_on op on)
  whole_word h on run word =
      record {
        place = word.place;
        target = word.target;
        claims = sym (rest_claimed board h o op on one is_op posted run) ∙ word.claims;
        is_target = word.is_target;
        no_abort = sym (aborts_rest h on word.place word.target run word.is_target) ∙ word.no_abort;
      }

  given_to : (h : List Event) (on : ℕ) (by : By) (step : Step) (at : Place) → answer board h on by o ≡ Gives step at
      → answer_by board (world_of board h) h on by o (without (through h o) (request_on op on)) (claim board on (without (through h o) (request_on op on))) ≡ Gives step at
  given_to h on by step at gives =
      let F : Option Request → Type 0 = λ some. answer_to board (world_of board h) h on by o some ≡ Gives step at in
      subst F (requested on) gives

  pub takes_only : (h : List Event) (on : ℕ) (by : By) (step : Step) (at : Place) → Run board h → HasWord board on (request_on op on) → answer board h on by o ≡ Gives step at → OnlyTakes step
  takes_only h on by step at run word gives =
      word_answers board h on by o (without (through h o) (request_on op on)) step at (write on) (rest_word h on run word) (given_to h on by step at gives)

  pub part_word : (h : List Event) (on : ℕ) (by : By) (phases : ℕ) (at : Place) → Run board h → answer board h on by o ≡ Gives (Part phases) at → HasWord board on (request_on op on)
  part_word h on by phases at run gives =
      let rest : Request = without (through h o) (request_on op on) in
      whole_word h on run (place_word board h on by o rest (claim board on rest) phases at (write on) refl (given_to h on by (Part phases) at gives))
