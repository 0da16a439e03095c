-- Whose turn it is to act, where nothing is in flight: the initiators stand in a ring, and one master is passed over.
use Rattle.std.specs.Prelude.{◌≡◌, ◌≢◌, ◌+◌, ◌≤◌, ℕ, Bool, true, false, zero, suc, List, [], ◌∷◌, ◌++◌, length, map, Option, Some, None, ◌==◌, ◌&&◌, ◌||◌, slice_get}
use Rattle.pci_command.specs.declared.op_id.OpId.{OpId}
use Rattle.pci_command.specs.Same.{same_op}
use Rattle.board_model.specs.declared.bridge.Place.{Place}
use Rattle.board_model.specs.declared.board.Board.{Board}
use Rattle.history_model.specs.declared.event.By.TheVariants.{Master, Lane as ByLane}
use Rattle.history_model.specs.declared.event.Step.{Step}
use Rattle.history_model.specs.declared.event.Event.{Event}
use Rattle.history_model.specs.declared.event.Event.TheVariants.{Act, Arrive}
use Rattle.history_model.specs.Knowledge.{stands_after}
use Rattle.history_model.specs.Left.{left_of}
use Rattle.history_model.specs.Next.{act_of_lane, act_of_turn}
use Rattle.history_model.specs.Program.{turn_of}
use Rattle.history_model.specs.Runs.{Allowed}
use Rattle.law_delivered.specs.Laws.{LawsOfRun}
use Rattle.judge_next.specs.declared.course.Course.{Course}
use Rattle.judge_next.specs.Course.{IsCourse}
use Rattle.judge_next.specs.Lines.{BusLines, lines_of}
use Rattle.judge_adverse.specs.declared.ring.Initiator.{Initiator}
use Rattle.judge_adverse.specs.declared.ring.Initiator.TheVariants.{Lane as LaneOn, Master as MasterOn}
use Rattle.judge_adverse.specs.declared.ring.Ring.{Ring}

-- The ring.

-- the initiators of a bus: the lanes that end there, and its masters
abbrev pub initiators_on : ℕ → BusLines → List Initiator
initiators_on bus lines = map (LaneOn bus) lines.lanes ++ map (MasterOn bus) lines.masters

-- those of the first so many buses
abbrev pub ring_below : ℕ → Board → List Initiator
ring_below zero board = []
ring_below (suc bus) board = ring_below bus board ++ initiators_on bus (lines_of board bus)

-- the ring of the board, with a flag for each initiator, and the place in it at which the next act is looked for first
pub record IsRing (board : Board) (ring : Ring) : Type 0 where
  pub all : ring.initiators.items ≡ ring_below 256 board
  pub flags : length ring.idle.items ≡ length ring.initiators.items
  pub within : ring.place ≤ length ring.initiators.items

-- the ring is as it was, but for what is known to idle
pub record IsSameRing (old new : Ring) : Type 0 where
  pub initiators : new.initiators.items ≡ old.initiators.items
  pub place : new.place ≡ old.place
  pub flags : length new.idle.items ≡ length old.idle.items

-- Who has no act.

-- the bus on which the initiator acts
abbrev pub bus_on : Initiator → ℕ
bus_on (LaneOn bus lane) = bus
bus_on (MasterOn bus master) = bus

-- its act: what it presents and is not answered with Retry
abbrev pub act_of_initiator : Board → List Event → Initiator → Option Event
act_of_initiator board h (LaneOn bus lane) = act_of_lane board h bus lane
act_of_initiator board h (MasterOn bus master) = act_of_turn board h bus (turn_of board h master)

-- no act of it is allowed
abbrev pub Idles : Board → List Event → Initiator → Type 0
Idles board h (LaneOn bus lane) = (o : OpId) (step : Step) (place : Place) → Allowed board h (Act bus (ByLane lane) o step place) → ⊥
Idles board h (MasterOn bus master) = (o : OpId) (step : Step) (place : Place) → o.master ≡ master → Allowed board h (Act bus Master o step place) → ⊥

-- the initiators of the ring that are known to idle do
abbrev pub KnowsIdle : Board → List Event → Ring → Type 0
KnowsIdle board h ring = (k : ℕ) (initiator : Initiator) → slice_get ring.idle.items k ≡ Some true → slice_get ring.initiators.items k ≡ Some initiator → Idles board h initiator

-- those on a bus are not known to idle any more, and what is known of the others stays
pub record IsWoken (bus : ℕ) (initiators : List Initiator) (old new : List Bool) : Type 0 where
  pub many : length new ≡ length old
  pub fewer : (k : ℕ) → slice_get new k ≡ Some true → slice_get old k ≡ Some true
  pub others : (k : ℕ) (initiator : Initiator) → slice_get new k ≡ Some true → slice_get initiators k ≡ Some initiator → bus_on initiator ≢ bus

-- Who is passed over.

-- a master's act of the write, or of what stands behind it in its program
abbrev pub is_from_on : OpId → Event → Bool
is_from_on w (Act on Master o step place) = o.master == w.master && (same_op o w || stands_after w o)
is_from_on w (Act on (ByLane lane) o step place) = false
is_from_on w (Arrive lane mark) = false

-- the act is passed over, where a write is held back
abbrev pub is_passed_over : Option OpId → Event → Bool
is_passed_over None e = false
is_passed_over (Some w) e = is_from_on w e

-- the event may come next: it is allowed, and not passed over
abbrev pub MayCome : Board → List Event → Option OpId → Event → Type 0
MayCome board h held e = Allowed board h e × (is_passed_over held e ≡ false)

-- nothing may come next: each event that is allowed is passed over
abbrev pub NothingMayCome : Board → List Event → Option OpId → Type 0
NothingMayCome board h held = (e : Event) → Allowed board h e → is_passed_over held e ≡ true

-- no act of the initiator may come next
abbrev pub Rests : Board → List Event → Option OpId → Initiator → Type 0
Rests board h held (LaneOn bus lane) = (o : OpId) (step : Step) (place : Place) → Allowed board h (Act bus (ByLane lane) o step place) → ⊥
Rests board h held (MasterOn bus master) =
    (o : OpId) (step : Step) (place : Place) → o.master ≡ master → Allowed board h (Act bus Master o step place) →
    is_passed_over held (Act bus Master o step place) ≡ true

-- nor of any of these
abbrev pub AllRest : Board → List Event → Option OpId → List Initiator → Type 0
AllRest board h held initiators = (k : ℕ) (initiator : Initiator) → slice_get initiators k ≡ Some initiator → Rests board h held initiator

-- What comes next.

-- a run went on by an event that may come next, which lowers what is left
pub record WentOnBy (board : Board) (h : List Event) (held : Option OpId) (course : Course) (e : Event) : Type 0 where
  pub may : MayCome board h held e
  pub course_is : IsCourse board (e ∷ h) course
  pub lowers : left_of board (e ∷ h) + 1 ≤ left_of board h

-- so it did, or nothing may come next; and all laws hold of the run
abbrev pub GoesOnBy : Board → List Event → Option OpId → Course → Option Event → Type 0
GoesOnBy board h held course (Some e) = WentOnBy board h held course e
GoesOnBy board h held course None = NothingMayCome board h held × LawsOfRun board h
