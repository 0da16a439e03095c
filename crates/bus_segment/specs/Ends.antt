-- What a turn does with the end of a lane.
use Rattle.std.specs.Prelude.{◌≡◌, ℕ, ◌<◌, ◌≤◌, IfNone, List, [], ◌∷◌, ◌++◌, length, Option, Some, None, option_to_list, slice_get}
use Rattle.lane_items.specs.declared.item.Item.{Item}
use Rattle.lane_items.specs.Lane.{KeepsPairs, in_hand}
use Rattle.board_model.specs.Limits.{most_waiting}
use Rattle.bus_core.specs.declared.given.Sent.{Sent}
use Rattle.bus_core.specs.Calls.{items_at}
use Rattle.bus_core.specs.Places.{OneChanged}

-- these items were received, at last one that did not arrive, if there is one, and these were sent
pub record EndAfter {End : Type 0} (had sent got : End → List Item) (paired : End → End → Type 0) (old new : End) (received : List Item) (refused : Option Item) (puts : List Item) : Type 0 where
  pub got_is : got new ≡ (got old ++ received) ++ option_to_list refused
  pub sent_is : sent new ≡ sent old ++ puts
  pub had_is : had new ≡ had old
  pub pairs : KeepsPairs paired old new

-- an item may be sent at its port, where there is one: its end keeps fewer than it can
abbrev pub HasRoom : {End : Type 0} → (End → ℕ) → List End → Option Sent → Type 0
HasRoom {End} kept ends None = Unit {0}
HasRoom {End} kept ends (Some sent) = (end : End) → slice_get ends sent.place ≡ Some end → kept end < most_waiting

-- the end of its port keeps as many as it can
abbrev pub LacksRoom : {End : Type 0} → (End → ℕ) → List End → Option Sent → Type 0
LacksRoom {End} kept ends None = ⊥
LacksRoom {End} kept ends (Some sent) = (end : End) × (slice_get ends sent.place ≡ Some end) × (kept end ≡ most_waiting)

-- one end was sent one item
pub record SendsOne {End : Type 0} (had sent got : End → List Item) (paired : End → End → Type 0) (place : ℕ) (old : List End) (item : Item) (new : List End) : Type 0 where
  pub many : length new ≡ length old
  pub before : End
  pub after : End
  pub one : OneChanged place old new before after
  pub sent_is : sent after ≡ sent before ++ item ∷ []
  pub got_is : got after ≡ got before
  pub had_is : had after ≡ had before
  pub pairs : KeepsPairs paired before after

-- what is sent is sent at its port, and nothing at the others
pub record SendsAt {End : Type 0} (had sent got : End → List Item) (paired : End → End → Type 0) (old : List End) (item : Option Sent) (new : List End) : Type 0 where
  pub many : length new ≡ length old
  pub each : (n : ℕ) (end after : End) → slice_get old n ≡ Some end → slice_get new n ≡ Some after → EndAfter had sent got paired end after [] None (items_at item n)
  pub others : (n : ℕ) → items_at item n ≡ [] → slice_get new n ≡ slice_get old n

-- an item, if there is one, sent at the port of this place
abbrev pub sent_at : ℕ → Option Item → Option Sent
sent_at place None = None
sent_at place (Some item) = Some (record { place = place; item = item })

-- one end gave one item, or none
pub record ReceivesOne {End : Type 0} (had sent got : End → List Item) (kept : End → ℕ) (paired : End → End → Type 0) (place : ℕ) (old : List End) (item : Option Item) (new : List End) : Type 0 where
  pub many : length new ≡ length old
  pub before : End
  pub after : End
  pub one : OneChanged place old new before after
  pub got_is : got after ≡ got before ++ option_to_list item
  pub sent_is : sent after ≡ sent before
  pub had_is : had after ≡ had before
  pub kept_is : kept after ≤ kept before
  pub pairs : KeepsPairs paired before after
  pub none : IfNone item (in_hand (had before) (got before) ≡ [])

-- both are sent, each at its port
pub record SendsBoth {End : Type 0} (had sent got : End → List Item) (paired : End → End → Type 0) (old : List End) (over back : Option Sent) (new : List End) : Type 0 where
  pub many : length new ≡ length old
  pub each : (n : ℕ) (end after : End) → slice_get old n ≡ Some end → slice_get new n ≡ Some after → EndAfter had sent got paired end after [] None (items_at over n ++ items_at back n)
