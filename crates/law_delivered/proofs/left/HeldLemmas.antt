-- A Read event of any operation says the value of its dword.
use Rattle.std.proofs.Common.{◌≡◌, ℕ, Bool, true, false, nat_lt, cond, List, ◌∷◌, length, Option, Some, None, refl, sym, ap, subst, ◌∙◌, slice_get}
use Rattle.pci_command.specs.declared.command.Command.TheVariants.{MemWrite}
use Rattle.pci_command.specs.declared.request.Request.{Request}
use Rattle.pci_command.specs.declared.op_id.OpId.{OpId}
use Rattle.pci_command.specs.Command.{is_read, space_of}
use Rattle.pci_command.specs.Same.{same_command, same_op}
use Rattle.board_model.specs.declared.agents.Target.{Target as TargetAgent}
use Rattle.board_model.specs.declared.bridge.Place.{Place}
use Rattle.board_model.specs.declared.bridge.Place.TheVariants.{Target, Header, Lane, Nobody}
use Rattle.board_model.specs.declared.op.Op.{Op}
use Rattle.board_model.specs.declared.board.Board.{Board}
use Rattle.board_model.specs.Requests.{op_of, command_of, request_on, request_of}
use Rattle.board_model.specs.Claims.{claim}
use Rattle.board_model.specs.Ways.{Dword, address_in, aborts_at}
use Rattle.board_model.specs.Valid.{IsValid}
use Rattle.history_model.specs.declared.event.By.{By}
use Rattle.history_model.specs.declared.event.Step.{Step}
use Rattle.history_model.specs.declared.event.Step.TheVariants.{Land, Part, Read, Accept, Latch, Take, Stall, MasterAbort, TargetAbort}
use Rattle.history_model.specs.declared.event.Event.{Event}
use Rattle.history_model.specs.declared.event.Event.TheVariants.{Act, Arrive}
use Rattle.history_model.specs.declared.item.Answer.TheVariants.{Gives}
use Rattle.history_model.specs.World.{world_of}
use Rattle.history_model.specs.Answers.{stalls_used, target_step, target_answer, wants, answer_by, answer_to}
use Rattle.history_model.specs.Words.{through, without, value_of}
use Rattle.history_model.specs.Knowledge.{Reading, reading_of, reading_by, reading_in}
use Rattle.history_model.specs.Runs.{Run}
use Rattle.history_model.proofs.facts.RequestLemmas.{same_op_true}
use Rattle.law_lanes.proofs.Laws.{delayed-not_parted, WellFormed-single}
use Rattle.law_fresh.proofs.reads.Laws.{not_posted}
use Rattle.law_fresh.proofs.Laws.{whole, answers_claim}

-- a step that reads says what the word holds

pub read_value : (board : Board) (h : List Event) (place : ℕ) (request : Request) (target : TargetAgent) (value : ℕ) → target_step board h place request target ≡ Read value
    → value ≡ value_of board h (record { target = place; space = space_of request.command; address = address_in (space_of request.command) request.address })
read_value board h place request target value is =
    let held : ℕ = value_of board h (record { target = place; space = space_of request.command; address = address_in (space_of request.command) request.address }) in
    let last : Step = cond (nat_lt target.burst (length request.phases)) (Part target.burst) Land in
    let A : Bool → Type 0 = λ b. cond b (Part target.burst) Land ≡ Read value → value ≡ held in
    let a : A (nat_lt target.burst (length request.phases)) = elim (nat_lt target.burst (length request.phases)) as A [ true ↦ λ e. cc | false ↦ λ e. cc ] in
    let B : Bool → Type 0 = λ b. cond b (Read held) last ≡ Read value → value ≡ held in
    let b : B (is_read request.command) = elim (is_read request.command) as B [ true ↦ λ e. let same : held ≡ value = cc in sym same | false ↦ a ] in
    let C : Bool → Type 0 = λ c. cond c TargetAbort (cond (is_read request.command) (Read held) last) ≡ Read value → value ≡ held in
    let c : C (aborts_at target request) = elim (aborts_at target request) as C [ true ↦ λ e. cc | false ↦ b ] in
    let D : Bool → Type 0 = λ d. cond d Stall (cond (aborts_at target request) TargetAbort (cond (is_read request.command) (Read held) last)) ≡ Read value → value ≡ held in
    (elim (nat_lt (stalls_used h place) target.stalls) as D [ true ↦ λ e. cc | false ↦ c ]) is

pub answer_value : (board : Board) (h : List Event) (place : ℕ) (request : Request) (found : Option TargetAgent) (value : ℕ) (at : Place) → target_answer board h place request found ≡ Gives (Read value) at
    → value ≡ value_of board h (record { target = place; space = space_of request.command; address = address_in (space_of request.command) request.address })
answer_value board h place request None value at gives = cc
answer_value board h place request (Some target) value at gives =
    let steps : target_step board h place request target ≡ Read value = cc in
    read_value board h place request target value steps

-- where a read reads at a target, the target claims it
pub record ReadHere (board : Board) (op : Op) (on place : ℕ) (reading : Reading) : Type 0 where
  pub claims : claim board on (request_on op on) ≡ Target place
  pub word : reading.word ≡ record { target = place; space = space_of (command_of op); address = address_in (space_of (command_of op)) (request_on op on).address }
  pub held : reading.value ≡ value_of board reading.before reading.word

-- so it is on some bus
pub record ReadSome (board : Board) (r : OpId) (op : Op) (before : List Event) (reading : Reading) : Type 0 where
  pub on : ℕ
  pub by : By
  pub wanted : wants board before on by r ≡ true
  pub place : ℕ
  pub here : ReadHere board op on place reading

module _ (board : Board) (valid : IsValid board) (r : OpId) (op : Op) (is_op : op_of board r ≡ Some op) (read : is_read (command_of op) ≡ true) where
  module _ (before : List Event) (on : ℕ) (by : By) where
    read_held : (given place : ℕ) (reading : Reading) → Run board (Act on by r (Read given) (Target place) ∷ before) → reading_of place given before (request_of board r on) ≡ Some reading → ReadHere board op on place reading
    read_held given place reading run is =
        let request : Request = request_on op on in
        let requested : request_of board r on ≡ Some request = rw is_op refl in
        let delayed : same_command (command_of op) MemWrite ≡ false = not_posted (command_of op) read in
        let word : Dword = record { target = place; space = space_of (command_of op); address = address_in (space_of (command_of op)) request.address } in
        let R : Option Request → Type 0 = λ found. reading_of place given before found ≡ Some reading in
        let made : reading ≡ record { word = word; value = given; before = before } = let e : R (Some request) = subst R requested is in cc in
        let gone : through before r ≡ 0 = delayed-not_parted board before r on request (WellFormed-single board valid.well_formed) run.1 requested delayed in
        let rest : without (through before r) request ≡ request = whole (through before r) request gone in
        let claims : claim board on request ≡ Target place = ap (claim board on) (sym rest) ∙ answers_claim board before on by r request (Read given) place requested run.0.1 in
        let A : Option Request → Type 0 = λ found. answer_to board (world_of board before) before on by r found ≡ Gives (Read given) (Target place) in
        let answered : A (Some request) = subst A requested run.0.1 in
        let B : Request → Type 0 = λ q. answer_by board (world_of board before) before on by r q (claim board on q) ≡ Gives (Read given) (Target place) in
        let by_whole : B request = subst B rest answered in
        let C : Place → Type 0 = λ claimant. answer_by board (world_of board before) before on by r request claimant ≡ Gives (Read given) (Target place) in
        let by_target : C (Target place) = subst C claims by_whole in
        let held : given ≡ value_of board before word = answer_value board before place request (slice_get board.targets place) given (Target place) by_target in
        let S : Reading → Type 0 = ReadHere board op on place in
        let shown : S (record { word = word; value = given; before = before }) = record { claims = claims; word = refl; held = held } in
        subst S (sym made) shown

    step_held : (step : Step) (place : Place) (reading : Reading) → Run board (Act on by r step place ∷ before) → reading_by board before on r step place ≡ Some reading → ReadSome board r op before reading
    step_held Land place reading run is = cc
    step_held (Part phases) place reading run is = cc
    step_held (Read given) (Target place) reading run is = record { on = on; by = by; wanted = run.0.0; place = place; here = read_held given place reading run is }
    step_held (Read given) (Header bus) reading run is = cc
    step_held (Read given) (Lane lane) reading run is = cc
    step_held (Read given) Nobody reading run is = cc
    step_held Accept place reading run is = cc
    step_held Latch place reading run is = cc
    step_held (Take outcome) place reading run is = cc
    step_held Stall place reading run is = cc
    step_held MasterAbort place reading run is = cc
    step_held TargetAbort place reading run is = cc

  pub reading_held : (before : List Event) (e : Event) (reading : Reading) → Run board (e ∷ before) → reading_in board before r e ≡ Some reading → ReadSome board r op before reading
  reading_held before (Act on by o step place) reading run is =
      let P : Bool → Type 0 = λ b. same_op o r ≡ b → cond b (reading_by board before on o step place) None ≡ Some reading → ReadSome board r op before reading in
      (elim (same_op o r) as P [
        | true ↦ λ same f.
            let one : o ≡ r = same_op_true o r same in
            let F : OpId → Type 0 = λ q. Run board (Act on by q step place ∷ before) in
            let G : OpId → Type 0 = λ q. reading_by board before on q step place ≡ Some reading in
            step_held before on by step place reading (subst F one run) (subst G one f)
        | false ↦ λ _ f. cc
      ]) refl is
  reading_held before (Arrive lane mark) reading run is = cc
