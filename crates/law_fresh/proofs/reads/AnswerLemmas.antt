-- How a read is answered where its way ends.
use Rattle.std.proofs.Common.{◌≡◌, ℕ, ◌+◌, ◌*◌, ◌/◌, ◌%◌, ◌^◌, Bool, true, false, not, cond, nat_lt, List, length, Option, Some, None, refl, sym, ap, subst, ◌∙◌, arith, slice_get}
use Rattle.pci_command.specs.declared.request.Request.{Request}
use Rattle.pci_command.specs.declared.op_id.OpId.{OpId}
use Rattle.pci_command.specs.Command.{space_of, is_read}
use Rattle.board_model.specs.declared.agents.Target.{Target as TargetAgent}
use Rattle.board_model.specs.declared.bridge.Bridge.{Bridge}
use Rattle.board_model.specs.declared.bridge.Place.{Place}
use Rattle.board_model.specs.declared.bridge.Place.TheVariants.{Target, Header, Lane, Nobody}
use Rattle.board_model.specs.declared.op.Op.{Op}
use Rattle.board_model.specs.declared.board.Board.{Board}
use Rattle.board_model.specs.Requests.{op_of, request_on, request_of, is_posted}
use Rattle.board_model.specs.Claims.{claim}
use Rattle.board_model.specs.Ways.{address_in, aborts_at, is_lane}
use Rattle.board_model.specs.Valid.{IsValid}
use Rattle.board_model.specs.HeaderBytes.{header_word}
use Rattle.history_model.specs.declared.event.By.{By}
use Rattle.history_model.specs.declared.event.Step.{Step}
use Rattle.history_model.specs.declared.event.Step.TheVariants.{Land, Part, Read, Accept, Latch, Take, Stall, MasterAbort, TargetAbort}
use Rattle.history_model.specs.declared.event.Event.{Event}
use Rattle.history_model.specs.declared.item.Answer.TheVariants.{Gives}
use Rattle.history_model.specs.World.{world_of}
use Rattle.history_model.specs.Words.{through, without, value_of}
use Rattle.history_model.specs.Answers.{stalls_used, target_step, target_answer, header_answer, bridge_to, answer_by, answer_to, answer}
use Rattle.history_model.specs.Runs.{Run}
use Rattle.law_lanes.proofs.Laws.{delayed-not_parted, WellFormed-single}
use Rattle.law_fresh.proofs.reads.WordLemmas.{word_at, word_by}

-- what a step and its place say of the word of a read that is presented where its way ends
abbrev pub What : Bool → Step → Place → Type 0
What word Land place = ⊥
What word (Part phases) place = ⊥
What word (Read value) (Target target) = word ≡ true
What word (Read value) (Header bus) = word ≡ false
What word (Read value) (Lane lane) = ⊥
What word (Read value) Nobody = ⊥
What word Accept place = ⊥
What word Latch place = ⊥
What word (Take outcome) place = ⊥
What word Stall place = Unit {0}
What word MasterAbort place = word ≡ false
What word TargetAbort place = word ≡ false

-- an answer with these is that step at that place
given_what : (word : Bool) (step given : Step) (place at : Place) → Gives step place ≡ Gives given at → What word step place → What word given at
given_what word step given place at same what =
    let steps : step ≡ given = cc in
    let places : place ≡ at = cc in
    subst (What word given) places (subst (λ s. What word s place) steps what)

-- the step of a target says whether it aborts the read
step_what : (board : Board) (h : List Event) (place : ℕ) (request : Request) (target : TargetAgent) → is_read request.command ≡ true → What (not (aborts_at target request)) (target_step board h place request target) (Target place)
step_what board h place request target read =
    let gives : Step = Read (value_of board h (record { target = place; space = space_of request.command; address = address_in (space_of request.command) request.address })) in
    let writes : Step = cond (nat_lt target.burst (length request.phases)) (Part target.burst) Land in
    let A : Bool → Type 0 = λ b. What true (cond b gives writes) (Target place) in
    let a : A (is_read request.command) = subst A (sym read) refl in
    let B : Bool → Type 0 = λ b. What (not b) (cond b TargetAbort (cond (is_read request.command) gives writes)) (Target place) in
    let b : B (aborts_at target request) = elim (aborts_at target request) as B [ true ↦ refl | false ↦ a ] in
    let C : Bool → Type 0 = λ c. What (not (aborts_at target request)) (cond c Stall (cond (aborts_at target request) TargetAbort (cond (is_read request.command) gives writes))) (Target place) in
    elim (nat_lt (stalls_used h place) target.stalls) as C [ true ↦ tt | false ↦ b ]

-- so does the answer at the place of a target
target_what : (board : Board) (h : List Event) (place : ℕ) (request : Request) (found : Option TargetAgent) (step : Step) (at : Place) → is_read request.command ≡ true
    → target_answer board h place request found ≡ Gives step at → What (word_at request found) step at
target_what board h place request None step at read gives = given_what false MasterAbort step Nobody at gives refl
target_what board h place request (Some target) step at read gives =
    given_what (not (aborts_at target request)) (target_step board h place request target) step (Target place) at gives (step_what board h place request target read)

-- the answer of a header says that there is no word
header_what : (bus : ℕ) (request : Request) (found : Option Bridge) (step : Step) (at : Place) → header_answer bus request found ≡ Gives step at → What false step at
header_what bus request None step at gives = given_what false MasterAbort step Nobody at gives refl
header_what bus request (Some bridge) step at gives = given_what false (Read (header_word bridge (request.address % 2 ^ 8 / 4))) step (Header bus) at gives refl

-- the answer of whoever claims, where no lane does, says whether there is a word
place_what : (board : Board) (h : List Event) (on : ℕ) (by : By) (o : OpId) (request : Request) (claimant : Place) (step : Step) (at : Place) → is_read request.command ≡ true → is_lane claimant ≡ false
    → answer_by board (world_of board h) h on by o request claimant ≡ Gives step at → What (word_by board request claimant) step at
place_what board h on by o request (Target place) step at read none gives = target_what board h place request (slice_get board.targets place) step at read gives
place_what board h on by o request (Header bus) step at read none gives = header_what bus request (bridge_to board bus) step at gives
place_what board h on by o request (Lane lane) step at read none gives = cc
place_what board h on by o request Nobody step at read none gives = given_what false MasterAbort step Nobody at gives refl

-- a request of which nothing went through is whole
whole : (gone : ℕ) (request : Request) → gone ≡ 0 → without gone request ≡ request
whole gone request none =
    let built : ℕ → Request = λ address. record { command = request.command; address = address; phases = request.phases } in
    let same : request.address + 4 * 0 ≡ request.address = omega arith in
    let at_none : without 0 request ≡ request = ap built same in
    ap (λ n. without n request) none ∙ at_none

-- a read that is presented where its way ends is answered by what claims it there
pub read_answered : (board : Board) (valid : IsValid board) (h : List Event) (run : Run board h) (on : ℕ) (by : By) (o : OpId) (op : Op) (step : Step) (place : Place) → op_of board o ≡ Some op
    → is_read (request_on op on).command ≡ true → is_posted (request_on op on) ≡ false → answer board h on by o ≡ Gives step place → is_lane (claim board on (request_on op on)) ≡ false
    → What (word_by board (request_on op on) (claim board on (request_on op on))) step place
read_answered board valid h run on by o op step place is_op read delayed gives none =
    let request : Request = request_on op on in
    let requested : request_of board o on ≡ Some request = rw is_op refl in
    let F : Option Request → Type 0 = λ some. answer_to board (world_of board h) h on by o some ≡ Gives step place in
    let answered : F (Some request) = subst F requested gives in
    let gone : through h o ≡ 0 = delayed-not_parted board h o on request (WellFormed-single board valid.well_formed) run requested delayed in
    let G : Request → Type 0 = λ rest. answer_by board (world_of board h) h on by o rest (claim board on rest) ≡ Gives step place in
    let by_whole : G request = subst G (whole (through h o) request gone) answered in
    place_what board h on by o request (claim board on request) step place read none by_whole
