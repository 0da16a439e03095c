-- The words that are kept: each has a place, and there is its value.
use Rattle.std.specs.Prelude.{◌≡◌, ℕ, Bool, true, ◌+◌, ◌<◌, length, is_some, List, [], ◌∷◌, Option, Some, None, ◌&&◌, ◌==◌, slice_get}
use Rattle.std.specs.List.{AllByRecursion}
use Rattle.std.specs.Map.{lookup}
use Rattle.pci_command.specs.declared.command.Space.{Space}
use Rattle.pci_command.specs.declared.phases.Phase.{Phase}
use Rattle.pci_command.specs.declared.request.Request.{Request}
use Rattle.pci_command.specs.Command.{space_of, is_read}
use Rattle.pci_command.specs.Same.{same_space}
use Rattle.board_model.specs.declared.board.Board.{Board}
use Rattle.board_model.specs.declared.agents.Master.{Master}
use Rattle.board_model.specs.declared.op.Op.{Op}
use Rattle.board_model.specs.declared.bridge.Place.TheVariants.{Target}
use Rattle.board_model.specs.Requests.{command_of, request_on}
use Rattle.board_model.specs.Ways.{Dword, address_in, route_of}
use Rattle.board_model.specs.device.Registers.{merge_of}
use Rattle.history_model.specs.declared.event.Step.{Step}
use Rattle.history_model.specs.Words.{mask_in, without, brings, opens_as}
use Rattle.board_model.specs.declared.word.Word.{Word}
use Rattle.judge_state.specs.State.{WordPlaces}
use Rattle.machine_steps.specs.Counts.{or_zero}
use Rattle.list_facts.specs.Lists.{changed_at}

-- the dword that is meant
abbrev pub dword : Word → Dword
dword word = record { target = word.target; space = word.space; address = word.address }

-- whether they are the same
abbrev pub same_word : Word → Word → Bool
same_word a b = a.target == b.target && same_space a.space b.space && a.address == b.address

-- the place of a word among the values, where it has one
abbrev pub place_at : WordPlaces → Word → Option ℕ
place_at places word = lookup (same_word word) places

-- the value at a place, and 0 where there is none
abbrev pub value_in : List ℕ → Option ℕ → ℕ
value_in values None = 0
value_in values (Some place) = or_zero (slice_get values place)

-- what the word holds
abbrev pub value_at : WordPlaces → List ℕ → Word → ℕ
value_at places values word = value_in values (place_at places word)

-- a data phase lands in the word
abbrev pub merged_at : WordPlaces → Word → Phase → List ℕ → List ℕ
merged_at places word phase values = changed_at (λ value. merge_of value phase (mask_in word.space word.address)) values (place_at places word)

-- data phases from an address on land in a target
abbrev pub landed_in : WordPlaces → ℕ → Space → ℕ → List Phase → List ℕ → List ℕ
landed_in places target space at [] values = values
landed_in places target space at (phase ∷ phases) values =
    landed_in places target space (at + 4) phases (merged_at places (record { target = target; space = space; address = at }) phase values)

-- what a step of a write, of which so many data phases went through before, brings into a target
abbrev pub landed_by : WordPlaces → ℕ → Step → ℕ → Request → List ℕ → List ℕ
landed_by places target step gone request values =
    let rest = without gone request in
    landed_in places target (space_of rest.command) (address_in (space_of rest.command) rest.address) (brings step rest.phases) values

-- where each word is, and what it holds
pub record WordState : Type 0 where
  pub places : WordPlaces
  pub values : List ℕ

-- each word that has a place is there as it opens, and no two have one place
pub record WordsKnown (board : Board) (k : WordState) : Type 0 where
  pub inside : (word : Word) (place : ℕ) → place_at k.places word ≡ Some place → place < length k.values
  pub apart : (a b : Word) (place : ℕ) → place_at k.places a ≡ Some place → place_at k.places b ≡ Some place → a ≡ b
  pub opens : (word : Word) (place : ℕ) → place_at k.places word ≡ Some place → slice_get k.values place ≡ Some (opens_as board (dword word))

-- each word that had a place has one
abbrev pub StillThere : WordPlaces → WordPlaces → Type 0
StillThere old new = (word : Word) → is_some (place_at old word) ≡ true → is_some (place_at new word) ≡ true

-- the word that an operation reads at a target on a bus
abbrev pub word_on : Op → ℕ → ℕ → Word
word_on op on target =
    let request = request_on op on in
    record { target = target; space = space_of request.command; address = address_in (space_of request.command) request.address }

-- the word of a read, where its way from a bus ends, has a place
abbrev pub KnowsRead : Board → ℕ → WordPlaces → Op → Type 0
KnowsRead board on places op =
    (target : ℕ) → is_read (command_of op) ≡ true → (route_of board op on).owner ≡ Target target → is_some (place_at places (word_on op (route_of board op on).bus target)) ≡ true

-- the words of the reads of a master's program have places
abbrev pub KnowsProgram : Board → WordPlaces → Master → Type 0
KnowsProgram board places master = AllByRecursion (KnowsRead board master.bus places) master.ops

-- and those of all programs
abbrev pub KnowsReads : Board → WordPlaces → Type 0
KnowsReads board places = AllByRecursion (KnowsProgram board places) board.masters
