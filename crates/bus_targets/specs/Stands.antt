-- What is kept of a target stands for a history, of the board or of one bus: PCI Local Bus Specification 2.2, section
-- 3.3.3.2 (from memory; termination by the target).
use Rattle.std.specs.Prelude.{◌≡◌, ℕ, ◌+◌, true, List, [], ◌∷◌, Some, is_some, map, slice_get}
use Rattle.std.specs.List.{AllByRecursion}
use Rattle.std.specs.List.Sorted.{IsStrictlyIncreasing}
use Rattle.pci_command.specs.declared.command.Space.{Space}
use Rattle.pci_command.specs.declared.request.Request.{Request}
use Rattle.pci_command.specs.declared.op_id.OpId.{OpId}
use Rattle.pci_command.specs.Command.{space_of, is_read}
use Rattle.board_model.specs.declared.agents.Target.{Target as TargetAgent}
use Rattle.board_model.specs.declared.bridge.Place.TheVariants.{Target}
use Rattle.board_model.specs.declared.board.Board.{Board}
use Rattle.board_model.specs.Requests.{request_of}
use Rattle.board_model.specs.Claims.{claim}
use Rattle.board_model.specs.Ways.{address_in}
use Rattle.history_model.specs.declared.event.By.{By}
use Rattle.history_model.specs.declared.event.Event.{Event}
use Rattle.history_model.specs.declared.event.Event.TheVariants.{Act}
use Rattle.history_model.specs.declared.item.Answer.TheVariants.{Gives}
use Rattle.history_model.specs.Words.{through, without, opens_as, value_of}
use Rattle.history_model.specs.Answers.{stalls_used, target_answer}
use Rattle.bus_targets.specs.declared.access.Access.{Access}
use Rattle.bus_targets.specs.Words.{WordsOfSpace, place_in}
use Rattle.bus_targets.specs.Reads.{KnowsProgram}
use Rattle.bus_targets.specs.State.{TargetView, words_in, step_of}

-- each word of the space holds what the model says after the history
pub record TableStands (board : Board) (p : List Event) (target : ℕ) (space : Space) (words : WordsOfSpace) : Type 0 where
  pub rises : IsStrictlyIncreasing words.addresses
  pub values : (place address : ℕ) → slice_get words.addresses place ≡ Some address
      → slice_get words.values place ≡ Some (value_of board p (record { target = target; space = space; address = address }))

-- a read of the board claimed by the target finds its word
abbrev pub FindsReads : Board → TargetView → Type 0
FindsReads board t =
    (on : ℕ) (o : OpId) (request : Request) → request_of board o on ≡ Some request → claim board on request ≡ Target t.target → is_read request.command ≡ true
    → is_some (place_in (words_in (space_of request.command) t).addresses (address_in (space_of request.command) request.address)) ≡ true

-- what is kept stands for the history
pub record TargetStands (board : Board) (p : List Event) (t : TargetView) : Type 0 where
  pub agent : TargetAgent
  pub there : slice_get board.targets t.target ≡ Some agent
  -- the tokens that are left and those that were used are all that the target has
  pub stalls : t.stalls + stalls_used p t.target ≡ agent.stalls
  pub words : (space : Space) → TableStands board p t.target space (words_in space t)
  pub reads : FindsReads board t

-- before the first event
pub record StandsAtFirst (board : Board) (target : ℕ) (t : TargetView) : Type 0 where
  pub is : t.target ≡ target
  pub stands : TargetStands board [] t

-- the request is what is left of an operation after the history, and the target claims it on the bus; of a read all
-- is left
pub record IsAccess (board : Board) (p : List Event) (target on : ℕ) (o : OpId) (request : Request) : Type 0 where
  pub whole : Request
  pub named : request_of board o on ≡ Some whole
  pub rest : request ≡ without (through p o) whole
  pub claimed : claim board on request ≡ Target target
  pub read_whole : is_read request.command ≡ true → through p o ≡ 0

-- the answer is that of the model after any history for which the target stands, and then the target stands for that
-- history and the event that the answer is
pub record AnswersAsTarget (board : Board) (old : TargetView) (request : Request) (answer : Access) (new : TargetView) : Type 0 where
  pub answers : (p : List Event) (on : ℕ) (o : OpId) → TargetStands board p old → IsAccess board p old.target on o request
      → target_answer board p old.target request (slice_get board.targets old.target) ≡ Gives (step_of answer) (Target old.target)
  pub stands : (p : List Event) (on : ℕ) (by : By) (o : OpId) → TargetStands board p old → IsAccess board p old.target on o request
      → TargetStands board (Act on by o (step_of answer) (Target old.target) ∷ p) new

-- the words of a space before the first event: as they open, and each that an operation reads of the target is there
pub record TableAtFirst (board : Board) (agent : TargetAgent) (target : ℕ) (space : Space) (words : WordsOfSpace) : Type 0 where
  pub rises : IsStrictlyIncreasing words.addresses
  pub opens : words.values ≡ map (λ address. opens_as board (record { target = target; space = space; address = address })) words.addresses
  pub knows : AllByRecursion (KnowsProgram agent space words.addresses) board.masters
