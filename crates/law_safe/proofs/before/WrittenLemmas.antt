-- What landed in a dword are the data phases that writes of the board bring to it.
use Rattle.std.proofs.Common.{◌≡◌, ℕ, zero, suc, ◌+◌, ◌*◌, Bool, true, false, ◌&&◌, eqb, cond, nat_lt, List, [], ◌∷◌, ◌++◌, length, drop, Option, Some, None, is_some, refl, sym, ap, subst, ◌∙◌, arith, slice_get}
use Rattle.std.specs.List.{list_any, AllByRecursion}
use Rattle.pci_command.specs.declared.command.Command.TheVariants.{MemWrite}
use Rattle.pci_command.specs.declared.command.Space.{Space}
use Rattle.pci_command.specs.declared.phases.Phase.{Phase}
use Rattle.pci_command.specs.declared.request.Request.{Request}
use Rattle.pci_command.specs.declared.op_id.OpId.{OpId}
use Rattle.pci_command.specs.Command.{is_read, space_of}
use Rattle.pci_command.specs.Same.{same_command, same_space}
use Rattle.board_model.specs.declared.agents.Master.{Master as MasterAgent}
use Rattle.board_model.specs.declared.agents.Target.{Target as TargetAgent}
use Rattle.board_model.specs.declared.bridge.Place.{Place}
use Rattle.board_model.specs.declared.bridge.Place.TheVariants.{Target, Header, Lane, Nobody}
use Rattle.board_model.specs.declared.op.Op.{Op}
use Rattle.board_model.specs.declared.board.Board.{Board}
use Rattle.board_model.specs.Requests.{op_of, command_of, phases_of, reads, reads_in, request_on, request_of, is_posted}
use Rattle.board_model.specs.Claims.{claim}
use Rattle.board_model.specs.Ways.{Dword, address_in, aborts_at, words_at, dwords_from, dwords_of, route_of}
use Rattle.board_model.specs.Valid.{is_bus, IsValid}
use Rattle.history_model.specs.declared.event.By.{By}
use Rattle.history_model.specs.declared.event.Step.{Step}
use Rattle.history_model.specs.declared.event.Step.TheVariants.{Land, Part, Read, Stall, TargetAbort}
use Rattle.history_model.specs.declared.event.Event.{Event}
use Rattle.history_model.specs.declared.event.Event.TheVariants.{Act}
use Rattle.history_model.specs.declared.item.Answer.TheVariants.{Gives}
use Rattle.history_model.specs.World.{world_of}
use Rattle.history_model.specs.Answers.{stalls_used, target_step, target_answer, answer_by, answer_to}
use Rattle.history_model.specs.Words.{through, without, brings, Landing, landings_at, landings_of, landed, value_of}
use Rattle.history_model.specs.Knowledge.{is_write, words_named}
use Rattle.history_model.specs.Runs.{Run}
use Rattle.law_lanes.specs.order.Order.{is_posted_in, is_posted_op}
use Rattle.list_facts.proofs.EachLemmas.{Each-weaker}
use Rattle.history_model.proofs.facts.PostedLemmas.{write_not_read}
use Rattle.history_model.proofs.facts.RequestLemmas.{request_is_of}
use Rattle.law_lanes.proofs.Laws.{delayed-not_parted, WellFormed-single}
use Rattle.law_lanes.proofs.order.Laws.{OneClaimant-formed, AbortWhole-formed, rest_claimed, Short-run}
use Rattle.law_fresh.proofs.reads.Laws.{master_there}
use Rattle.law_fresh.proofs.Laws.{whole, target_on}
use Rattle.history_model.specs.Clear.{phases_at}
use Rattle.law_delivered.proofs.EndLemmas.{ending, one_end, target_bus, master_bus_there}
use Rattle.law_delivered.proofs.WholeLemmas.{is_taken, taken_at}
use Rattle.law_delivered.proofs.FlagLemmas.{IsOne, at_drop, LandsOne, at_one, brings_of, landed_each}
use Rattle.law_delivered.proofs.NamedLemmas.{ending_there, based_in, based_none}
use Rattle.law_delivered.proofs.left.Laws.{words_end}
use Rattle.safe_model.specs.Raisers.{phases_for, phases_in, phases_to}

-- The data phases for a word, by its address.

phases_zip : (word : Dword) (target : ℕ) (space : Space) (at : ℕ) (phases : List Phase) → eqb target word.target ≡ true → same_space space word.space ≡ true → phases_for word (dwords_from target space at phases) phases ≡ phases_at word.address at phases
phases_zip word target space at [] targets spaces = refl
phases_zip word target space at (phase ∷ phases) targets spaces =
    let later = phases_zip word target space (at + 4) phases targets spaces in
    let F : Bool → Bool → Type 0 = λ a b. (cond (a && b && eqb at word.address) (phase ∷ []) [] ++ phases_for word (dwords_from target space (at + 4) phases) phases) ≡ (cond (eqb at word.address) (phase ∷ []) [] ++ phases_at word.address (at + 4) phases) in
    let here : F true true = ap (λ ps. cond (eqb at word.address) (phase ∷ []) [] ++ ps) later in
    subst (λ a. F a (same_space space word.space)) (sym targets) (subst (F true) (sym spaces) here)

-- A target that takes data phases does not abort them.

step_no_abort : (board : Board) (h : List Event) (place : ℕ) (request : Request) (target : TargetAgent) → is_taken (target_step board h place request target) ≡ true → aborts_at target request ≡ false
step_no_abort board h place request target taken =
    let rest : Step = cond (is_read request.command) (Read (value_of board h (record { target = place; space = space_of request.command; address = address_in (space_of request.command) request.address })))
    (cond (nat_lt target.burst (length request.phases)) (Part target.burst) Land) in
    let C : Bool → Type 0 = λ c. aborts_at target request ≡ c → is_taken (cond c TargetAbort rest) ≡ true → aborts_at target request ≡ false in
    let c : is_taken (cond (aborts_at target request) TargetAbort rest) ≡ true → aborts_at target request ≡ false = (elim (aborts_at target request) as C [ true ↦ λ _ e. cc | false ↦ λ none _. none ]) refl in
    let D : Bool → Type 0 = λ d. is_taken (cond d Stall (cond (aborts_at target request) TargetAbort rest)) ≡ true → aborts_at target request ≡ false in
    (elim (nat_lt (stalls_used h place) target.stalls) as D [ true ↦ λ e. cc | false ↦ c ]) taken

answer_no_abort : (board : Board) (h : List Event) (place : ℕ) (request : Request) (target : TargetAgent) (step : Step) (at : Place) → target_answer board h place request (Some target) ≡ Gives step at → is_taken step ≡ true → aborts_at target request ≡ false
answer_no_abort board h place request target step at gives taken =
    let steps : target_step board h place request target ≡ step = cc in
    step_no_abort board h place request target (ap is_taken steps ∙ taken)

-- what is taken of a write at a target: its way ends there, it is not aborted, and it begins so far behind its start
pub record TakenThere (board : Board) (h : List Event) (on : ℕ) (o : OpId) (op : Op) (place : ℕ) : Type 0 where
  pub writes : is_read (command_of op) ≡ false
  pub words : words_named board o ≡ dwords_of place (request_on op on)
  pub based : address_in (space_of (command_of op)) ((request_on op on).address + 4 * through h o) ≡ address_in (space_of (command_of op)) (request_on op on).address + 4 * through h o

module _ (board : Board) (valid : IsValid board) (h : List Event) (on : ℕ) (by : By) (o : OpId) (step : Step) (place : ℕ) (run : Run board (Act on by o step (Target place) ∷ h)) (op : Op) (is_op : op_of board o ≡ Some op) (taken : is_taken step ≡ true) where
  abbrev request : Request
  request = request_on op on

  abbrev gone : ℕ
  gone = through h o

  abbrev rest : Request
  rest = without gone request

  requested : request_of board o on ≡ Some request
  requested = rw is_op refl

  given : (there : ℕ) × (claim board on rest ≡ Target there) × (◌≡◌ {A = Place} (Target place) (Target there)) × (is_read request.command ≡ false)
  given = taken_at board h on by o request step (Target place) requested run.0.1 taken

  abbrev target_or : Place → ℕ
  target_or (Target target) = target
  target_or (Header bus) = 0
  target_or (Lane lane) = 0
  target_or Nobody = 0

  rest_claims : claim board on rest ≡ Target place
  rest_claims = given.1 ∙ sym given.2

  master : (m : MasterAgent) × (slice_get board.masters o.master ≡ Some m)
  master = master_there board o op is_op

  -- by what is alike in the rest and the whole
  there_by : claim board on request ≡ Target place → ending (route_of board op master.0.bus) ≡ (on, Target place) → ((target : TargetAgent) → slice_get board.targets place ≡ Some target → aborts_at target rest ≡ aborts_at target request)
      → address_in (space_of (command_of op)) (request.address + 4 * gone) ≡ address_in (space_of (command_of op)) request.address + 4 * gone → TakenThere board h on o op place
  there_by claims ends alike based =
      let agent = target_on board on request place claims in
      let target : TargetAgent = agent.0 in
      let A : Option Request → Type 0 = λ found. answer_to board (world_of board h) h on by o found ≡ Gives step (Target place) in
      let answered : A (Some request) = subst A requested run.0.1 in
      let C : Place → Type 0 = λ claimant. answer_by board (world_of board h) h on by o rest claimant ≡ Gives step (Target place) in
      let by_target : C (Target place) = subst C rest_claims answered in
      let D : Option TargetAgent → Type 0 = λ found. target_answer board h place rest found ≡ Gives step (Target place) in
      let by_agent : D (Some target) = subst D agent.1 by_target in
      let none : aborts_at target request ≡ false = sym (alike target agent.1) ∙ answer_no_abort board h place rest target step (Target place) by_agent taken in
      let named = words_end board o op master.0 is_op master.1 on place ends in
      let E : Option TargetAgent → Type 0 = λ found. words_at place request found ≡ dwords_of place request in
      let F : Bool → Type 0 = λ b. cond b [] (dwords_of place request) ≡ dwords_of place request in
      let all : F false = refl in
      let of_agent : E (Some target) = subst F (sym none) all in
      record { writes = given.3; words = named ∙ subst E (sym agent.1) of_agent; based = based }

  posted_there : is_posted_op board o ≡ true → TakenThere board h on o op place
  posted_there posted =
      let is_write_op : same_command (command_of op) MemWrite ≡ true = sym (ap is_posted_in is_op) ∙ posted in
      let claims : claim board on request ≡ Target place = sym (rest_claimed board h o op on (OneClaimant-formed board valid.well_formed) is_op posted run.1) ∙ rest_claims in
      let agent = target_on board on request place claims in
      let here = subst (λ n. is_bus board n ≡ true) agent.2 (target_bus board valid place agent.0 agent.1) in
      let ends = one_end board valid op is_write_op on master.0.bus place here (master_bus_there board valid o.master master.0 master.1) claims in
      let alike : (target : TargetAgent) → slice_get board.targets place ≡ Some target → aborts_at target rest ≡ aborts_at target request =
      λ target is_target. from_whole target is_target posted gone refl in
      there_by claims ends alike (based_in (space_of (command_of op)) request.address gone (write_not_read (command_of op) is_write_op).1)
    where
      from_whole : (target : TargetAgent) → slice_get board.targets place ≡ Some target → is_posted_op board o ≡ true → (n : ℕ) → gone ≡ n → aborts_at target rest ≡ aborts_at target request
      from_whole target is_target posted zero none = ap (aborts_at target) (whole gone request none)
      from_whole target is_target posted (suc n) some =
          let write : is_posted request ≡ true = sym (ap is_posted_in is_op) ∙ posted in
          AbortWhole-formed board valid.well_formed o on request gone place target requested write (Short-run board h o op is_op posted run.1 (omega (arith, some))) is_target

  delayed_there : is_posted_op board o ≡ false → TakenThere board h on o op place
  delayed_there other =
      let delayed : same_command (command_of op) MemWrite ≡ false = sym (ap is_posted_in is_op) ∙ other in
      let none : gone ≡ 0 = delayed-not_parted board h o on request (WellFormed-single board valid.well_formed) run.1 requested delayed in
      let same : rest ≡ request = whole gone request none in
      let claims : claim board on request ≡ Target place = ap (claim board on) (sym same) ∙ rest_claims in
      let ends = ending_there board valid h run.1 o op master.0 is_op master.1 on by place delayed run.0.0 claims in
      there_by claims ends (λ target _. ap (aborts_at target) same) (based_none (space_of (command_of op)) request.address gone none)

  pub taken_there : TakenThere board h on o op place
  taken_there =
      let P : Bool → Type 0 = λ b. is_posted_op board o ≡ b → TakenThere board h on o op place in
      (elim (is_posted_op board o) as P [ true ↦ λ posted. posted_there posted | false ↦ λ other. delayed_there other ]) refl

-- Of a landing: it is of a write, and is one of the data phases that the write brings to the dword.
pub record Written (board : Board) (word : Dword) (landing : Landing) : Type 0 where
  pub writes : is_write board landing.op ≡ true
  pub is_one : IsOne landing.phase (phases_to board word landing.op)

module _ (board : Board) (valid : IsValid board) (word : Dword) where
  op_written : (h : List Event) (on : ℕ) (by : By) (o : OpId) (step : Step) (place : ℕ) (run : Run board (Act on by o step (Target place) ∷ h)) (op : Op) (is_op : op_of board o ≡ Some op) (taken : is_taken step ≡ true)
      → eqb place word.target ≡ true → same_space (space_of (command_of op)) word.space ≡ true
      → AllByRecursion (Written board word) (landings_at o word.address (address_in (space_of (command_of op)) ((request_on op on).address + 4 * through h o)) (brings step (drop (through h o) (phases_of op))))
  op_written h on by o step place run op is_op taken targets spaces =
      let there = taken_there board valid h on by o step place run op is_op taken in
      let space : Space = space_of (command_of op) in
      let phases : List Phase = phases_of op in
      let gone : ℕ = through h o in
      let base : ℕ = address_in space (request_on op on).address in
      let start : ℕ = address_in space ((request_on op on).address + 4 * gone) in
      let left : List Phase = brings step (drop gone phases) in
      let reads_not : reads board o ≡ false = ap reads_in is_op ∙ there.writes in
      let some : is_some (op_of board o) ≡ true = ap is_some is_op in
      let writes : is_write board o ≡ true = rw (some, reads_not) refl in
      let zipped : phases_for word (words_named board o) (phases_in (op_of board o)) ≡ phases_at word.address base phases =
      ap (λ ws. phases_for word ws (phases_in (op_of board o))) there.words
      ∙ ap (λ found. phases_for word (dwords_of place (request_on op on)) (phases_in found)) is_op
      ∙ phases_zip word place space base phases targets spaces in
      let F : Bool → Type 0 = λ b. cond b (phases_for word (words_named board o) (phases_in (op_of board o))) [] ≡ phases_at word.address base phases in
      let all : phases_to board word o ≡ phases_at word.address base phases = subst F (sym writes) zipped in
      Each-weaker (LandsOne o (phases_at word.address start left)) (Written board word)
      (λ landing one.
      let W : OpId → Type 0 = λ q. is_write board q ≡ true in
      let I : OpId → Type 0 = λ q. IsOne landing.phase (phases_to board word q) in
      let is_one : I o = λ test passes.
      let A : ℕ → Type 0 = λ a. list_any test (phases_at word.address a left) ≡ true in
      let here : A (base + 4 * gone) = subst A there.based (one.is_one test passes) in
      let dropped = brings_of test word.address (base + 4 * gone) step (drop gone phases) here in
      let from_start = at_drop test word.address base gone phases dropped in
      subst (λ ps. list_any test ps ≡ true) (sym all) from_start in
      record { writes = subst W (sym one.is_of) writes; is_one = subst I (sym one.is_of) is_one })
      (landings_at o word.address start left) (at_one o word.address start left)

  request_written : (h : List Event) (on : ℕ) (by : By) (o : OpId) (step : Step) (place : ℕ) → Run board (Act on by o step (Target place) ∷ h) → eqb place word.target ≡ true → (found : Option Request) → request_of board o on ≡ found → is_taken step ≡ true
      → AllByRecursion (Written board word) (landings_of o step (through h o) word found)
  request_written h on by o step place run targets None is taken = tt
  request_written h on by o step place run targets (Some request) is taken =
      let gone : ℕ = through h o in
      let mine = request_is_of board o on request is in
      let op : Op = mine.op in
      let R : Request → Type 0 = λ r. AllByRecursion (Written board word) (landings_of o step gone word (Some r)) in
      let space : Space = space_of (command_of op) in
      let start : ℕ = address_in space ((request_on op on).address + 4 * gone) in
      let left = brings step (drop gone (phases_of op)) in
      let P : Bool → Type 0 = λ b. same_space space word.space ≡ b → AllByRecursion (Written board word) (cond b (landings_at o word.address start left) []) in
      let of_op : R (request_on op on) = (elim (same_space space word.space) as P [
        | true ↦ λ same. op_written h on by o step place run op mine.is_op taken targets same
        | false ↦ λ _. tt
      ]) refl in
      subst R (sym mine.is_request) of_op

  -- all that landed there
  pub written : (h : List Event) → Run board h → AllByRecursion (Written board word) (landed board h word)
  written h run = landed_each board word (Written board word) request_written h run
