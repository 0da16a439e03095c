-- What each bus did and put on its lanes up to some time, when it need not have received all that was put.
use Rattle.std.specs.Prelude.{◌≡◌, ℕ, true, false, List, [], Some, None}
use Rattle.board_model.specs.declared.bridge.Bridge.{Bridge}
use Rattle.board_model.specs.declared.bridge.Lane.{Lane as BridgeLane}
use Rattle.board_model.specs.declared.board.Board.{Board}
use Rattle.board_model.specs.Ways.{start_of, end_of}
use Rattle.board_model.specs.Valid.{is_bus}
use Rattle.history_model.specs.declared.event.Event.{Event}
use Rattle.history_model.specs.declared.event.Stamped.{Stamped}
use Rattle.history_model.specs.declared.item.Carried.{Carried}
use Rattle.history_model.specs.Answers.{bridge_to}
use Rattle.history_model.specs.World.{world_of}
use Rattle.history_model.specs.Local.{local_world, LocalRun}
use Rattle.law_local.specs.Known.{coming_to, known, JointRun}
use Rattle.law_local.specs.Stamps.{events_of, put_stamps, AllInTime}

-- `sent` is what was put on each lane up to now, oldest first, and `stamps` the stamps of these items: those of the events
-- that put them there.

-- What one bus did up to now, newest first: all that was put on the lanes that end there comes to it, now or later.
pub record BusPast (board : Board) (bus : ℕ) (sent : BridgeLane → List Carried) (stamps : BridgeLane → List ℕ) (p : List Stamped) : Type 0 where
  -- what comes to it on each lane, and the stamps of that
  pub came : BridgeLane → List Carried
  pub comes : (lane : BridgeLane) → came lane ≡ coming_to board bus sent lane
  pub times : BridgeLane → List ℕ
  pub timed : (lane : BridgeLane) → end_of board lane ≡ bus → times lane ≡ stamps lane
  -- each event was allowed by what the bus knew, and each item arrived at a stamp above its own
  pub run : LocalRun board bus came (events_of p)
  pub in_time : AllInTime times board p
  -- on the lanes of bridges that begin there it put just these items, with these stamps
  pub puts : (lane : BridgeLane) (bridge : Bridge) → bridge_to board lane.bus ≡ Some bridge → start_of board lane ≡ bus → (local_world board came (events_of p) lane).flight ≡ sent lane
  pub stamped : (lane : BridgeLane) (bridge : Bridge) → bridge_to board lane.bus ≡ Some bridge → start_of board lane ≡ bus → put_stamps board came lane p ≡ stamps lane

-- what all buses did up to now
pub record AllPasts (board : Board) (sent : BridgeLane → List Carried) (stamps : BridgeLane → List ℕ) (part : ℕ → List Stamped) : Type 0 where
  pub each : (bus : ℕ) → is_bus board bus ≡ true → BusPast board bus sent stamps (part bus)
  -- nothing is done on a bus that the board lacks, and nothing put on a lane of no bridge
  pub no_other : (bus : ℕ) → is_bus board bus ≡ false → part bus ≡ []
  pub bridges_alone : (lane : BridgeLane) → bridge_to board lane.bus ≡ None → (sent lane ≡ []) × (stamps lane ≡ [])

-- a run of the board in which the buses know what is on each lane, where all that is ever sent was sent by now: the bus
-- where a lane ends knows just what is in flight there
pub record RunSoFar (board : Board) (sent : BridgeLane → List Carried) (h : List Event) : Type 0 where
  pub joint : JointRun board sent h
  pub all_sent : (lane : BridgeLane) → (world_of board h lane).flight ≡ (known board sent (end_of board lane) h lane).flight
  -- only lanes of bridges carry anything
  pub bridges_alone : (lane : BridgeLane) → bridge_to board lane.bus ≡ None → sent lane ≡ []
