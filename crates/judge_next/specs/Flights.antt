-- Where something is in flight: what is known beside the state that is kept, so that the next arrival is looked for only on
-- the lanes of those bridges that something was sent over.
use Rattle.std.specs.Prelude.{◌≡◌, ℕ, Bool, true, false, ◌&&◌, List, [], ◌∷◌, Option, Some, None, length, slice_get}
use Rattle.std.proofs.Math.ListN.{set}
use Rattle.board_model.specs.declared.board.Board.{Board}
use Rattle.board_model.specs.declared.bridge.Lane.{Lane as BridgeLane}
use Rattle.history_model.specs.declared.event.Event.{Event}
use Rattle.history_model.specs.declared.event.Event.TheVariants.{Act, Arrive}
use Rattle.history_model.specs.declared.item.Carried.{Carried}
use Rattle.history_model.specs.Lanes.{Both}
use Rattle.judge_state.specs.State.{KeptState, lanes_in, bus_at, bus_by}
use Rattle.judge_next.specs.declared.flights.LaneFlights.{LaneFlights}
use Rattle.judge_next.specs.Lines.{all_lanes}
use Rattle.judge_next.specs.Now.{arrival_now}

-- the bridges over whose lanes an event sends: that of the lane that claims or of the arrival, by its bus
abbrev pub claiming : Event → Option ℕ
claiming (Act on by o step place) = bus_at place
claiming (Arrive lane mark) = Some lane.bus

-- and that of the lane that presents
abbrev pub presenting : Event → Option ℕ
presenting (Act on by o step place) = bus_by by
presenting (Arrive lane mark) = None

-- there is nothing
abbrev pub is_nil : List Carried → Bool
is_nil [] = true
is_nil (item ∷ rest) = false

-- nothing is in flight on both lanes of a bridge, where it is there
abbrev pub are_still : Option Both → Bool
are_still None = true
are_still (Some lanes) = is_nil lanes.here.flight && is_nil lanes.back.flight

-- the same of the bridge to a bus
abbrev pub is_still : Board → KeptState → ℕ → Bool
is_still board k bus = are_still (lanes_in board k.lanes bus)

-- what is known once the bridge was looked at, if there is one to look at
abbrev pub looked : Board → KeptState → Option ℕ → List Bool → List Bool
looked board k None still = still
looked board k (Some bus) still = set still bus (is_still board k bus)

-- nothing arrives on the lanes of a bridge that is known to be still
abbrev pub KnowsStill : Board → KeptState → List Bool → Type 0
KnowsStill board k still = (lane : BridgeLane) → slice_get still lane.bus ≡ Some true → arrival_now board k lane ≡ None

-- the lanes are those of the board, and what is known of its bridges is so
pub record KnowsFlights (board : Board) (k : KeptState) (flights : LaneFlights) : Type 0 where
  pub lanes : flights.lanes.items ≡ all_lanes board
  pub all_bridges : length flights.still.items ≡ 256
  pub still : KnowsStill board k flights.still.items
