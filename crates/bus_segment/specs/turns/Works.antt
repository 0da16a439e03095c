-- What is done from one moment of a turn to a later one.
use Rattle.std.specs.Prelude.{◌≡◌, ℕ, ◌+◌, ◌<◌, ◌≤◌, Bool, false, nat_lt, List, [], length, Some, slice_get, ◌⊎◌, if◌then◌else◌}
use Rattle.std.specs.Int.{bit_at}
use Rattle.pci_command.specs.declared.op_id.OpId.{OpId}
use Rattle.board_model.specs.Limits.{most_ports, most_lines, most_offers}
use Rattle.board_model.specs.declared.bridge.Lane.{Lane as BridgeLane}
use Rattle.board_model.specs.declared.board.Board.{Board}
use Rattle.history_model.specs.declared.event.By.{By}
use Rattle.history_model.specs.declared.event.By.TheVariants.{Master, Lane as ByLane}
use Rattle.history_model.specs.declared.event.Event.{Event}
use Rattle.history_model.specs.declared.event.Stamped.{Stamped}
use Rattle.history_model.specs.World.{World}
use Rattle.history_model.specs.Answers.{wants_in}
use Rattle.lane_items.specs.declared.item.Item.{Item}
use Rattle.lane_items.specs.Lane.{in_hand}
use Rattle.bus_core.specs.Bus.{BusView, Shape, shape_of, BusStands}
use Rattle.bus_segment.specs.Segment.{SegmentView}
use Rattle.bus_segment.specs.Steps.{StampsRise, ArrivedUpTo, GetsRetry}
use Rattle.bus_segment.specs.Turn.{Does}

-- what is seen of a segment
abbrev pub seen : BusView → ℕ → Bool → SegmentView
seen bus stamp stopped = record { bus = bus; stamp = stamp; stopped = stopped }

-- by steps of the segment, which make no more than so many events
pub record Works {End : Type 0} (had sent got : End → List Item) (kept : End → ℕ) (paired : End → End → Type 0) (board : Board) (limit : ℕ) (old new : SegmentView) (ends after : List End) (events all : List Stamped) : Type 0 where
  pub does : Does had sent got kept paired board old new ends after events all
  pub shape : shape_of new.bus ≡ shape_of old.bus
  pub stamps : StampsRise sent got old.stamp new.stamp ends after
  pub counts : new.stopped ≡ false → ArrivedUpTo (length events) old.bus → ArrivedUpTo (length all) new.bus
  pub grows : length events ≤ length all
  pub most : length all ≤ length events + limit

-- Request lines.

-- the initiator has this request line: the first lines are those of bridges, and then those of masters
abbrev pub HasLine : Shape → ℕ → By → OpId → Type 0
HasLine shape line Master o = (place : ℕ) × (line ≡ most_ports + place) × (slice_get shape.masters place ≡ Some o.master)
HasLine shape line (ByLane lane) o = slice_get shape.lanes line ≡ Some lane

-- the line is that of a bridge or a master on the bus
abbrev pub IsServed : Shape → ℕ → Type 0
IsServed shape line = (line < length shape.lanes) ⊎ ((most_ports ≤ line) × (line < most_ports + length shape.masters))

-- how many events an initiator makes in a turn, at most: a lane presents no more than it offers, a master one thing
abbrev pub most_at : ℕ → ℕ
most_at line = if nat_lt line most_ports then most_offers else 1

-- the lane of the port at this place, whatever it presents
pub record IsOfPort (shape : Shape) (place : ℕ) (by : By) (o : OpId) : Type 0 where
  pub lane : BridgeLane
  pub there : slice_get shape.lanes place ≡ Some lane
  pub is_by : by ≡ ByLane lane

-- it presents the operation nowhere
pub record NeverWants (s : BusView) (by : By) (o : OpId) : Type 0 where
  pub never : (board : Board) (tags : By → OpId → ℕ) (world : World) (p : List Event) → BusStands board tags world p s → wants_in board world p s.bus by o ≡ false

-- whoever has this line presents nothing
pub record IsSilent (s : BusView) (line : ℕ) : Type 0 where
  pub silent : (by : By) (o : OpId) → HasLine (shape_of s) line by o → NeverWants s by o

-- whoever has this line gets a Retry for what it presents
pub record IsRetried (board : Board) (s : BusView) (line : ℕ) : Type 0 where
  pub retried : (by : By) (o : OpId) → HasLine (shape_of s) line by o → GetsRetry board s by o

-- of the lines from one on and below another, those of all that present something ask; no other line asks
pub record AsksUpTo (s : BusView) (from to : ℕ) (lines : ℕ) : Type 0 where
  pub within : (line : ℕ) → bit_at lines line ≡ 1 → (from ≤ line) × (line < to)
  pub silent : (line : ℕ) → from ≤ line → line < to → bit_at lines line ≡ 0 → IsSilent s line

-- the lines of all that present something ask; each that asks is of a bridge or a master on the bus
pub record AreAsked (s : BusView) (lines : ℕ) : Type 0 where
  pub served : (line : ℕ) → bit_at lines line ≡ 1 → IsServed (shape_of s) line
  pub silent : (line : ℕ) → line < most_lines → bit_at lines line ≡ 0 → IsSilent s line

-- nothing was done, and the bus is as it was: whoever has one of the lines that do not ask any more got a Retry
pub record AllRetried {End : Type 0} (board : Board) (lines : ℕ) (old new : BusView) (ends after : List End) : Type 0 where
  pub same_ends : after ≡ ends
  pub same_bus : new ≡ old
  pub retried : (line : ℕ) → line < most_lines → bit_at lines line ≡ 0 → IsRetried board old line

-- whoever presents something on the bus gets a Retry
pub record GivesOnlyRetries (board : Board) (s : BusView) : Type 0 where
  pub retried : (line : ℕ) → line < most_lines → IsRetried board s line

-- nothing is in hand at any of these ends
pub record NoneInHand {End : Type 0} (had got : End → List Item) (ends : List End) : Type 0 where
  pub none : (n : ℕ) (end : End) → slice_get ends n ≡ Some end → in_hand (had end) (got end) ≡ []
