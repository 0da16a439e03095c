-- The operations of the masters, gone through one by one, and which of them are kept.
use Rattle.std.specs.Prelude.{◌≡◌, ℕ, ◌<◌, Bool, true, false, ◌&&◌, ◌||◌, ◌==◌, nat_lt, List, [], ◌∷◌, ◌++◌, Option, Some, None, slice_get, if◌then◌else◌}
use Rattle.std.specs.List.{list_any, list_all}
use Rattle.std.specs.Map.{lookup}
use Rattle.pci_command.specs.declared.command.Command.TheVariants.{MemWrite}
use Rattle.pci_command.specs.Same.{same_command, same_request}
use Rattle.board_model.specs.declared.agents.Master.{Master}
use Rattle.board_model.specs.declared.op.Op.{Op}
use Rattle.board_model.specs.declared.board.Board.{Board}
use Rattle.board_model.specs.Requests.{command_of, address_on, request_on}
use Rattle.law_untagged.specs.ApartTest.{ops_meet, is_apart}
use Rattle.untagged_apart.specs.declared.kept.Spot.{Spot}

-- a list that may not be there yet
abbrev pub spots_in : Option (List Spot) → List Spot
spots_in None = []
spots_in (Some spots) = spots

-- those kept with the address
abbrev pub kept_at : ℕ → List (ℕ × List Spot) → List Spot
kept_at address entries = spots_in (lookup (λ other. address == other) entries)

-- one more is kept with the address, and each other has its own
pub record Keeps (address : ℕ) (spot : Spot) (old new : List (ℕ × List Spot)) : Type 0 where
  pub each : (other : ℕ) → kept_at other new ≡ kept_at other old ++ (if address == other then spot ∷ [] else [])

-- this operation stands there, of a master on the bus
pub record At (board : Board) (spot : Spot) (on : ℕ) (op : Op) : Type 0 where
  pub master : Master
  pub is_master : slice_get board.masters spot.master ≡ Some master
  pub is_bus : master.bus ≡ on
  pub is_op : slice_get master.ops spot.index ≡ Some op

-- an operation that was found has the request on bus 0
abbrev pub same_in : Op → Option Op → Bool
same_in op None = false
same_in op (Some first) = same_request (request_on first 0) (request_on op 0)

-- that of a master that was found does
abbrev pub same_at : Op → ℕ → Option Master → Bool
same_at op index None = false
same_at op index (Some master) = same_in op (slice_get master.ops index)

-- it is of the master, and asks for the same
abbrev pub represents : Board → ℕ → Op → Spot → Bool
represents board master op spot = spot.master == master && same_at op spot.index (slice_get board.masters spot.master)

-- an operation that was found meets this one
abbrev pub meets_in : Board → ℕ → Op → ℕ → Option Op → Bool
meets_in board on op first_on None = false
meets_in board on op first_on (Some first) = ops_meet board first_on first on op

-- that of a master that was found does
abbrev pub meets_at : Board → ℕ → Op → ℕ → Option Master → Bool
meets_at board on op index None = false
meets_at board on op index (Some master) = meets_in board on op master.bus (slice_get master.ops index)

-- it is of an earlier master, and meets this one
abbrev pub meets_earlier : Board → ℕ → ℕ → Op → Spot → Bool
meets_earlier board master on op spot = nat_lt spot.master master && meets_at board on op spot.index (slice_get board.masters spot.master)

-- it stands before that place, in the order of the board
abbrev pub is_before : ℕ → ℕ → Spot → Bool
is_before master index spot = nat_lt spot.master master || (spot.master == master && nat_lt spot.index index)

-- all before that place were gone through
pub record Gone (board : Board) (entries : List (ℕ × List Spot)) (master index : ℕ) : Type 0 where
  -- of each delayed one, one of its master is kept that asks for the same
  pub kept : (s : Spot) (on : ℕ) (op : Op) → At board s on op → is_before master index s ≡ true → same_command (command_of op) MemWrite ≡ false
      → list_any (represents board s.master op) (kept_at (address_on op 0) entries) ≡ true
  -- each that is kept is one of them
  pub before : (address : ℕ) → list_all (is_before master index) (kept_at address entries) ≡ true
  -- no two of different masters meet
  pub none : (s t : Spot) (on other_on : ℕ) (op other : Op) → At board s on op → At board t other_on other → is_before master index t ≡ true
      → s.master < t.master → ops_meet board on op other_on other ≡ false

-- the same, or two masters meet
abbrev pub GoneOr : Bool → Board → List (ℕ × List Spot) → ℕ → ℕ → Type 0
GoneOr true board entries master index = is_apart board ≡ false
GoneOr false board entries master index = Gone board entries master index
