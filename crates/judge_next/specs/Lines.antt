-- Where something may happen on a bus, in the order in which the next event of a run is looked for.
use Rattle.std.specs.Prelude.{◌≡◌, ◌<◌, ℕ, zero, suc, List, [], ◌∷◌, ◌++◌, length, Some, slice_get, if◌then◌else◌}
use Rattle.board_model.specs.declared.bridge.Lane.{Lane as BridgeLane}
use Rattle.board_model.specs.declared.board.Board.{Board}
use Rattle.history_model.specs.Answers.{is_on}
use Rattle.history_model.specs.Next.{down_to, up_from, ends_on}

-- the lines of a bus: the lanes that end there, and its masters
pub record BusLines : Type 0 where
  pub lanes : List BridgeLane
  pub masters : List ℕ

-- the lane, where it ends on the bus
abbrev pub listed : Board → ℕ → BridgeLane → List BridgeLane
listed board bus lane = if ends_on board bus lane then lane ∷ [] else []

-- the lanes up to the bus from bridges to the buses below a number
abbrev pub ups_below : ℕ → Board → ℕ → List BridgeLane
ups_below zero board bus = []
ups_below (suc n) board bus = ups_below n board bus ++ listed board bus (up_from n)

-- the lanes that end on the bus: that of its own bridge, then those of the bridges below by increasing number
abbrev pub lanes_ending : ℕ → Board → ℕ → List BridgeLane
lanes_ending n board bus = listed board bus (down_to bus) ++ ups_below n board bus

-- of the first so many masters those on the bus, in the order of the board
abbrev pub masters_below : ℕ → Board → ℕ → List ℕ
masters_below zero board bus = []
masters_below (suc n) board bus = masters_below n board bus ++ (if is_on bus (slice_get board.masters n) then n ∷ [] else [])

-- all lines of a bus of a board
abbrev pub lines_of : Board → ℕ → BusLines
lines_of board bus = record { lanes = lanes_ending 256 board bus; masters = masters_below (length board.masters) board bus }

-- these are the lines of each of 256 buses
abbrev pub AreLines : Board → List BusLines → Type 0
AreLines board lines = (bus : ℕ) → bus < 256 → slice_get lines bus ≡ Some (lines_of board bus)

-- the lanes that end on the buses below a number, by increasing bus and there by line
abbrev pub lanes_below : ℕ → Board → List BridgeLane
lanes_below zero board = []
lanes_below (suc n) board = lanes_below n board ++ lanes_ending 256 board n

-- all lanes of a board, in the order in which the next arrival is looked for
unfoldable pub all_lanes : Board → List BridgeLane
all_lanes board = lanes_below 256 board
