-- What each lane has in a picture, at each moment of a run.
use Rattle.std.specs.Prelude.{◌≡◌, ◌≤◌, ℕ, List, length, map, take}
use Rattle.std.specs.List.{filter, AllByRecursion}
use Rattle.board_model.specs.declared.bridge.Lane.{Lane as BridgeLane}
use Rattle.board_model.specs.declared.board.Board.{Board}
use Rattle.history_model.specs.declared.event.Event.{Event}
use Rattle.history_model.specs.World.{world_of}
use Rattle.history_model.specs.Runs.{history_of}
use Rattle.draw_items.specs.declared.journey.Journey.{Journey}
use Rattle.draw_items.specs.Journeys.{flies_at, stands_at}

-- it was sent, and came and left where it did, by one of the first n events
pub record IsWithin (n : ℕ) (j : Journey) : Type 0 where
  pub sent : j.sent ≤ n
  pub came : j.came ≤ n
  pub left : j.left ≤ n

-- at each moment of the run, each lane has in the picture what it has in the machine, in the same order
pub record ShowsRun (board : Board) (events : List Event) (journeys : List Journey) : Type 0 where
  pub flight : (n : ℕ) (lane : BridgeLane) → n ≤ length events
      → map (λ j. j.carried) (filter (flies_at n lane) journeys) ≡ (world_of board (history_of (take n events)) lane).flight
  pub standing : (n : ℕ) (lane : BridgeLane) → n ≤ length events
      → map (λ j. j.carried) (filter (stands_at n lane) journeys) ≡ (world_of board (history_of (take n events)) lane).standing
  -- sent, came and left are no later event
  pub ends : AllByRecursion (IsWithin (length events)) journeys
