-- What is kept stands for a history.
use Rattle.std.specs.Prelude.{◌≡◌, ◌-◌, ◌≤◌, ◌<◌, ◌^◌, ℕ, true, false, List, length, Some, is_some, slice_get}
use Rattle.pci_command.specs.declared.op_id.OpId.{OpId}
use Rattle.pci_command.specs.declared.request.Request.{Request}
use Rattle.pci_command.specs.Command.{space_of, is_read}
use Rattle.board_model.specs.Limits.{most_dwords}
use Rattle.board_model.specs.declared.agents.Target.{Target as TargetAgent}
use Rattle.board_model.specs.declared.bridge.Place.TheVariants.{Target}
use Rattle.board_model.specs.declared.op.Op.{Op}
use Rattle.board_model.specs.declared.board.Board.{Board}
use Rattle.board_model.specs.Requests.{op_of, request_of}
use Rattle.board_model.specs.Claims.{claim}
use Rattle.board_model.specs.Ways.{aborts_at, address_in}
use Rattle.history_model.specs.declared.event.By.{By}
use Rattle.history_model.specs.declared.event.Event.{Event}
use Rattle.history_model.specs.declared.rule.Rule.{Rule}
use Rattle.history_model.specs.declared.rule.Rule.TheVariants.{Tagged}
use Rattle.history_model.specs.World.{world_by}
use Rattle.history_model.specs.Program.{turn_of}
use Rattle.history_model.specs.Words.{through, without, value_of}
use Rattle.history_model.specs.Answers.{wants_by, stalls_used}
use Rattle.history_model.specs.Runs.{RunBy}
use Rattle.judge_lanes.specs.Bridge.{lanes_of}
use Rattle.board_model.specs.declared.word.Word.{Word}
use Rattle.judge_state.specs.State.{KeptState, WordPlaces, turn_in, place_of, list_in}
use Rattle.judge_state.specs.Words.{place_at, dword}

-- under a rule: each word that an operation which is presented reads at a target is among those that are kept
abbrev pub CoversBy : Rule → Board → WordPlaces → Type 0
CoversBy rule board places =
    (h : List Event) (on : ℕ) (by : By) (o : OpId) (request : Request) (place : ℕ) (target : TargetAgent) → RunBy rule board h → wants_by rule board h on by o ≡ true
    → request_of board o on ≡ Some request → claim board on (without (through h o) request) ≡ Target place → slice_get board.targets place ≡ Some target
    → aborts_at target (without (through h o) request) ≡ false → is_read request.command ≡ true
    → is_some (place_at places (record { target = place; space = space_of request.command; address = address_in (space_of request.command) (without (through h o) request).address })) ≡ true

-- under a rule: what is kept stands for a run of the board, of these events, the latest first
pub record StandsForBy (rule : Rule) (board : Board) (h : List Event) (k : KeptState) : Type 0 where
  pub rule_is : k.rule ≡ rule
  pub run : RunBy rule board h
  -- the turn of each master, and of no other
  pub turns : (master : ℕ) → turn_in k.turns master ≡ turn_of board h master
  pub masters : length k.turns ≡ length board.masters
  -- the lanes of each bridge
  pub lanes : (bus place : ℕ) → place_of board bus ≡ Some place → slice_get k.lanes place ≡ Some (lanes_of (world_by rule board h) bus)
  -- the stall tokens that are left
  pub tokens : (place : ℕ) (target : TargetAgent) → slice_get board.targets place ≡ Some target → slice_get k.tokens place ≡ Some (target.stalls - stalls_used h place)
  -- how many data phases went through
  pub gone : (o : OpId) (op : Op) → op_of board o ≡ Some op → slice_get (list_in (slice_get k.gone o.master)) o.index ≡ Some (through h o)
  -- what each word holds
  pub words : (word : Word) (place : ℕ) → place_at k.places word ≡ Some place → slice_get k.values place ≡ Some (value_of board h (dword word))
  pub apart : (a b : Word) (place : ℕ) → place_at k.places a ≡ Some place → place_at k.places b ≡ Some place → a ≡ b
  -- and each word that some run reads is kept
  pub covers : CoversBy rule board k.places

-- on bridges that keep the local master
abbrev pub StandsFor : Board → List Event → KeptState → Type 0
StandsFor board h k = StandsForBy Tagged board h k

-- what is kept stands for some run of the board
abbrev pub Stands : Board → KeptState → Type 0
Stands board k = (h : List Event) × StandsFor board h k

-- under some rule: for some run, of fewer events than are counted
pub record StandsFew (board : Board) (k : KeptState) : Type 0 where
  pub rule : Rule
  pub history : List Event
  pub stands : StandsForBy rule board history k
  pub few : length history < 2 ^ 32

-- under a rule: of no operation more than eight data phases went through
abbrev pub PartsAreSmallBy : Rule → Board → Type 0
PartsAreSmallBy rule board = (h : List Event) (o : OpId) (op : Op) → RunBy rule board h → op_of board o ≡ Some op → through h o ≤ most_dwords
