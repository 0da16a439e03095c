-- Events of all buses in an order in which no item arrives before it was sent.
use Rattle.std.specs.Prelude.{◌≡◌, ℕ, ◌+◌, ◌<◌, List, [], ◌∷◌, ◌++◌, length}
use Rattle.board_model.specs.declared.bridge.Lane.{Lane as BridgeLane}
use Rattle.board_model.specs.declared.board.Board.{Board}
use Rattle.board_model.specs.Ways.{start_of, end_of}
use Rattle.history_model.specs.declared.event.Event.{Event}
use Rattle.history_model.specs.declared.event.Event.TheVariants.{Act, Arrive}
use Rattle.history_model.specs.declared.item.Carried.{Carried}
use Rattle.history_model.specs.Local.{bus_of, AllowedLocally}
use Rattle.law_local.specs.Known.{events_on, coming_to, known}

-- an arrival is of an item that was sent: of all that is ever sent on the lane, what was sent by now and what has not
-- arrived yet have an item in common
abbrev pub IsTimely : Board → (BridgeLane → List Carried) → List Event → Event → Type 0
IsTimely board sent h (Act on by o step place) = Unit {0}
IsTimely board sent h (Arrive lane mark) =
    length (sent lane) < length (known board sent (start_of board lane) h lane).flight + length (known board sent (end_of board lane) h lane).flight

-- on each lane that begins on the bus, what the bus sent is the front of what is ever sent
abbrev pub IsSent : Board → (BridgeLane → List Carried) → ℕ → List Event → Type 0
IsSent board sent bus h =
    (lane : BridgeLane) → start_of board lane ≡ bus → (later : List Carried) × ((known board sent bus h lane).flight ++ later ≡ sent lane)

-- an event that its bus allows by what it knows, an arrival only of an item that was sent; and what the bus sent by
-- then is the front of what it ever sends
pub record Woven (board : Board) (sent : BridgeLane → List Carried) (e : Event) (h : List Event) : Type 0 where
  pub allowed : AllowedLocally board (coming_to board (bus_of board e) sent) (events_on board (bus_of board e) h) e
  pub timely : IsTimely board sent h e
  pub sends : IsSent board sent (bus_of board e) (e ∷ h)

-- so is each event of a history, after those before it
abbrev pub AllWoven : Board → (BridgeLane → List Carried) → List Event → Type 0
AllWoven board sent [] = Unit {0}
AllWoven board sent (e ∷ h) = Woven board sent e h × AllWoven board sent h
