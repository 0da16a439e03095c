-- What the buses did, each event with the stamp that its bus gave it, and the events of all in the order of the stamps.
use Rattle.std.specs.Prelude.{◌≡◌, ◌≢◌, ℕ, ◌-◌, ◌<◌, ◌≤◌, List, [], ◌∷◌, ◌++◌, length, replicate, Some, slice_get, ◌==◌, if◌then◌else◌}
use Rattle.std.specs.List.{AllByRecursion}
use Rattle.board_model.specs.declared.bridge.Lane.{Lane as BridgeLane}
use Rattle.board_model.specs.declared.board.Board.{Board}
use Rattle.board_model.specs.Ways.{start_of, end_of}
use Rattle.history_model.specs.declared.event.Event.{Event}
use Rattle.history_model.specs.declared.event.Event.TheVariants.{Act, Arrive}
use Rattle.history_model.specs.declared.event.Stamped.{Stamped}
use Rattle.history_model.specs.declared.item.Carried.{Carried}
use Rattle.history_model.specs.Local.{bus_of, local_world, LocalRun}
use Rattle.law_lanes.specs.order.Sent.{arrivals}
use Rattle.law_local.specs.Known.{coming_to}

-- Events of one bus. All lists of events stand newest first.

-- the events without their stamps
abbrev pub events_of : List Stamped → List Event
events_of [] = []
events_of (s ∷ past) = s.event ∷ events_of past

-- how many items an event of a bus put on a lane that begins there: by so many more are in flight. `came` is what
-- comes to the bus, and before the event its own events are these
abbrev pub items_put : Board → (BridgeLane → List Carried) → BridgeLane → List Event → Event → ℕ
items_put board came lane p e = length (local_world board came (e ∷ p) lane).flight - length (local_world board came p lane).flight

-- the stamps of the items that the bus put on the lane, in the order of the items
abbrev pub put_stamps : Board → (BridgeLane → List Carried) → BridgeLane → List Stamped → List ℕ
put_stamps board came lane [] = []
put_stamps board came lane (s ∷ past) = put_stamps board came lane past ++ replicate (items_put board came lane (events_of past) s.event) s.stamp

-- an arrival is on a lane between two buses, and its stamp is above that of its item. `stamps` are those of the items
-- put on each lane, and the item is the one behind as many as arrived before
abbrev pub IsInTime : (BridgeLane → List ℕ) → Board → List Stamped → ℕ → Event → Type 0
IsInTime stamps board past stamp (Act bus by o step place) = Unit {0}
IsInTime stamps board past stamp (Arrive lane mark) =
    (end_of board lane ≢ start_of board lane) × ((put : ℕ) × (slice_get (stamps lane) (arrivals lane (events_of past)) ≡ Some put) × (put < stamp))

-- so is each arrival, after the events before it
abbrev pub AllInTime : (BridgeLane → List ℕ) → Board → List Stamped → Type 0
AllInTime stamps board [] = Unit {0}
AllInTime stamps board (s ∷ past) = IsInTime stamps board past s.stamp s.event × AllInTime stamps board past

-- Parts: for each bus what it did.

-- the stamps of the items put on each lane, by the part of the bus where the lane begins
abbrev pub stamps_of : Board → (BridgeLane → List Carried) → (ℕ → List Stamped) → BridgeLane → List ℕ
stamps_of board sent part lane = put_stamps board (coming_to board (start_of board lane) sent) lane (part (start_of board lane))

-- the parts are local runs, with `sent` what is ever sent: each bus did what it may by what it knows, what it put on a
-- lane that begins there is all that is ever sent on it, and each item arrives at a stamp above that of its sending
pub record LocalParts (board : Board) (sent : BridgeLane → List Carried) (part : ℕ → List Stamped) : Type 0 where
  pub local : (bus : ℕ) → LocalRun board bus (coming_to board bus sent) (events_of (part bus))
  pub is_sent : (lane : BridgeLane) → (local_world board (coming_to board (start_of board lane) sent) (events_of (part (start_of board lane))) lane).flight ≡ sent lane
  pub in_time : (bus : ℕ) → AllInTime (stamps_of board sent part) board (part bus)

-- The whole.

-- no stamp is below that of an older event
abbrev pub NeverFall : List Stamped → Type 0
NeverFall [] = Unit {0}
NeverFall (s ∷ past) = AllByRecursion (λ (older : Stamped). older.stamp ≤ s.stamp) past × NeverFall past

-- the stamped events of one bus
abbrev pub stamped_on : Board → ℕ → List Stamped → List Stamped
stamped_on board bus [] = []
stamped_on board bus (s ∷ past) = if bus_of board s.event == bus then s ∷ stamped_on board bus past else stamped_on board bus past

-- all parts in one list, in the order of the stamps, and the events of each bus in their own order; the order of
-- events of different buses with equal stamps is free
pub record IsMerged (board : Board) (part : ℕ → List Stamped) (all : List Stamped) : Type 0 where
  pub never_fall : NeverFall all
  pub has_part : (bus : ℕ) → stamped_on board bus all ≡ part bus
