-- An engine works all buses phase by phase: each bus by itself, with the items that its ends of lanes give it, and then the
-- ends are settled. `received` is what came on each lane to the bus where it ends, before the phase, `hand` what was in
-- hand there when the phase began, `got` what was got in the phase and `sent` what was sent, all oldest first; `part` is
-- what each bus did so far, newest first. `carries` says what an item carries, `stamp_of` its stamp: that of the event that
-- put it on the lane.
use Rattle.std.specs.Prelude.{◌≡◌, ◌≢◌, ℕ, true, false, List, [], ◌++◌, map, Some, None, ◌==◌, if◌then◌else◌}
use Rattle.board_model.specs.declared.bridge.Bridge.{Bridge}
use Rattle.board_model.specs.declared.bridge.Lane.{Lane as BridgeLane}
use Rattle.board_model.specs.declared.board.Board.{Board}
use Rattle.board_model.specs.Valid.{is_bus}
use Rattle.board_model.specs.Ways.{start_of, end_of}
use Rattle.history_model.specs.declared.event.Event.{Event}
use Rattle.history_model.specs.declared.event.Stamped.{Stamped}
use Rattle.history_model.specs.declared.item.Carried.{Carried}
use Rattle.history_model.specs.Answers.{bridge_to}
use Rattle.history_model.specs.World.{World}
use Rattle.history_model.specs.Local.{local_world, LocalRun}
use Rattle.law_local.specs.Stamps.{events_of, put_stamps, AllInTime}
use Rattle.lane_items.specs.declared.item.Item.{Item}
use Rattle.lane_items.specs.Lane.{GotInOrder}

-- of the items of all lanes, those of the lanes that end on the bus, and what these carry
abbrev pub ending_on : Board → ℕ → (BridgeLane → List Item) → BridgeLane → List Item
ending_on board bus items lane = if end_of board lane == bus then items lane else []

-- the same of what they carry
abbrev pub carried_to : (Item → Carried) → Board → (BridgeLane → List Item) → ℕ → BridgeLane → List Carried
carried_to carries board items bus lane = map carries (ending_on board bus items lane)

-- One bus.

-- what comes to the bus goes on with what it received, and nothing comes there on lanes that end elsewhere or are of no
-- bridge
pub record GoesOn (board : Board) (bus : ℕ) (received came : BridgeLane → List Item) : Type 0 where
  pub later : (lane : BridgeLane) → end_of board lane ≡ bus → (rest : List Item) × (came lane ≡ received lane ++ rest)
  pub nothing_else : (lane : BridgeLane) → end_of board lane ≢ bus → came lane ≡ []
  pub bridges_alone : (lane : BridgeLane) → bridge_to board lane.bus ≡ None → came lane ≡ []

-- where this comes to it, the bus did what it may, all that it received arrived, and it put these items on its lanes
pub record ItemPast (carries : Item → Carried) (stamp_of : Item → ℕ) (board : Board) (bus : ℕ) (received came put : BridgeLane → List Item) (p : List Stamped) : Type 0 where
  pub run : LocalRun board bus (λ lane. map carries (came lane)) (events_of p)
  pub in_time : AllInTime (λ lane. map stamp_of (came lane)) board p
  pub left : (lane : BridgeLane) (bridge : Bridge) (rest : List Item) → bridge_to board lane.bus ≡ Some bridge → end_of board lane ≡ bus → came lane ≡ received lane ++ rest
      → (local_world board (λ l. map carries (came l)) (events_of p) lane).flight ≡ map carries rest
  pub puts : (lane : BridgeLane) (bridge : Bridge) → bridge_to board lane.bus ≡ Some bridge → start_of board lane ≡ bus
      → (local_world board (λ l. map carries (came l)) (events_of p) lane).flight ≡ map carries (put lane)
  pub stamped : (lane : BridgeLane) (bridge : Bridge) → bridge_to board lane.bus ≡ Some bridge → start_of board lane ≡ bus
      → put_stamps board (λ l. map carries (came l)) lane p ≡ map stamp_of (put lane)

-- so it is whatever comes to the bus later, behind what it received
pub record Stands (carries : Item → Carried) (stamp_of : Item → ℕ) (board : Board) (bus : ℕ) (received put : BridgeLane → List Item) (p : List Stamped) : Type 0 where
  pub past : (came : BridgeLane → List Item) → GoesOn board bus received came → ItemPast carries stamp_of board bus received came put p

-- All buses.

-- nothing is on lanes of no bridge
abbrev pub NoneElsewhere : Board → (BridgeLane → List Item) → Type 0
NoneElsewhere board items = (lane : BridgeLane) → bridge_to board lane.bus ≡ None → items lane ≡ []

-- between two phases: each bus put just what was received or is in hand where its lanes end
pub record Engine (carries : Item → Carried) (stamp_of : Item → ℕ) (board : Board) (received hand : BridgeLane → List Item) (part : ℕ → List Stamped) : Type 0 where
  pub each : (bus : ℕ) → is_bus board bus ≡ true → Stands carries stamp_of board bus received (λ lane. received lane ++ hand lane) (part bus)
  pub no_other : (bus : ℕ) → is_bus board bus ≡ false → part bus ≡ []
  pub received_there : NoneElsewhere board received
  pub hand_there : NoneElsewhere board hand

-- in a phase, when the buses did their turns and before the ends are settled
pub record Worked (carries : Item → Carried) (stamp_of : Item → ℕ) (board : Board) (received hand got sent : BridgeLane → List Item) (part : ℕ → List Stamped) : Type 0 where
  -- of what was got, a bus that stopped does not take the last
  pub taken : BridgeLane → List Item
  pub not_taken : BridgeLane → List Item
  pub got_is : (lane : BridgeLane) → got lane ≡ taken lane ++ not_taken lane
  pub each : (bus : ℕ) → is_bus board bus ≡ true
      → Stands carries stamp_of board bus (λ lane. received lane ++ taken lane) (λ lane. received lane ++ (hand lane ++ sent lane)) (part bus)
  pub no_other : (bus : ℕ) → is_bus board bus ≡ false → part bus ≡ []
  pub received_there : NoneElsewhere board received
  pub hand_there : NoneElsewhere board hand
  pub got_there : NoneElsewhere board got
  pub sent_there : NoneElsewhere board sent

-- no bus stopped at an item
abbrev pub TookAll : {carries : Item → Carried} {stamp_of : Item → ℕ} (board : Board) {received hand got sent : BridgeLane → List Item} {part : ℕ → List Stamped}
    → Worked carries stamp_of board received hand got sent part → Type 0
TookAll board worked = (lane : BridgeLane) → worked.not_taken lane ≡ []

-- each lane of a bridge brought its items in order; `kept` is how many of those sent its near end keeps
abbrev pub AllInOrder : Board → (BridgeLane → List Item) → (BridgeLane → List Item) → (BridgeLane → List Item) → (BridgeLane → ℕ) → Type 0
AllInOrder board hand got sent kept = (lane : BridgeLane) (bridge : Bridge) → bridge_to board lane.bus ≡ Some bridge → GotInOrder (hand lane) (got lane) (sent lane) (kept lane)

-- all that was put on each lane up to the end of the phase, and what that carries
abbrev pub put_up_to : (BridgeLane → List Item) → (BridgeLane → List Item) → (BridgeLane → List Item) → BridgeLane → List Item
put_up_to received hand sent lane = received lane ++ (hand lane ++ sent lane)

-- the same of what that carries
abbrev pub put_in : (Item → Carried) → (BridgeLane → List Item) → (BridgeLane → List Item) → (BridgeLane → List Item) → BridgeLane → List Carried
put_in carries received hand sent lane = map carries (put_up_to received hand sent lane)

-- the events of a bus
abbrev pub did_by : (ℕ → List Stamped) → ℕ → List Event
did_by part bus = events_of (part bus)

-- the lanes as a bus knows them at the end of the phase, where all that was put comes to it
abbrev pub known_at_end : (Item → Carried) → Board → (BridgeLane → List Item) → (BridgeLane → List Item) → (BridgeLane → List Item) → (ℕ → List Stamped) → ℕ → World
known_at_end carries board received hand sent part bus = local_world board (carried_to carries board (put_up_to received hand sent) bus) (events_of (part bus))
