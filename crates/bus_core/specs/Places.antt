-- A call on one of the ports, masters or targets of a bus, and what is sent there.
use Rattle.std.specs.Prelude.{◌≡◌, ◌≢◌, ℕ, ◌+◌, Bool, List, ◌∷◌, map, Option, Some, None, slice_get}
use Rattle.pci_command.specs.declared.request.Request.{Request}
use Rattle.pci_command.specs.declared.op_id.OpId.{OpId}
use Rattle.pci_command.specs.declared.op_id.Outcome.{Outcome}
use Rattle.board_model.specs.declared.bridge.Place.{Place}
use Rattle.board_model.specs.declared.op.Op.{Op}
use Rattle.board_model.specs.declared.board.Board.{Board}
use Rattle.board_model.specs.Requests.{op_of, tries_of, request_of}
use Rattle.history_model.specs.declared.event.By.{By}
use Rattle.history_model.specs.declared.event.By.TheVariants.{Master}
use Rattle.history_model.specs.declared.event.Step.{Step}
use Rattle.history_model.specs.declared.event.Event.{Event}
use Rattle.history_model.specs.declared.event.Mark.{Mark}
use Rattle.history_model.specs.declared.item.Carried.{Carried}
use Rattle.history_model.specs.declared.item.Carried.TheVariants.{Post, Ask, Done, Room, Gone}
use Rattle.history_model.specs.declared.event.Event.TheVariants.{Act}
use Rattle.lane_items.specs.declared.item.Item.{Item}
use Rattle.lane_items.specs.declared.item.Item.TheVariants.{Post as PostItem, Ask as AskItem}
use Rattle.bus_face.specs.declared.reply.Reply.{Reply}
use Rattle.bus_face.specs.declared.reply.Reply.TheVariants.{Accepted, Latched, Taken, Retry}
use Rattle.bus_face.specs.declared.offer.Offer.{Offer}
use Rattle.bus_face.specs.Arrivals.{is_taken}
use Rattle.bus_face.specs.Offers.{offers_of}
use Rattle.bus_core.specs.port.Port.{PortView}
use Rattle.bus_core.specs.port.Calls.{PortTests, PortArrives, PortReplies, PortStaysAtRetry, PortEnds}
use Rattle.bus_agents.specs.Turns.{MasterView, MasterStands, EndsTurn}
use Rattle.bus_targets.specs.declared.access.Access.{Access}
use Rattle.bus_targets.specs.declared.access.Access.TheVariants.{Part}
use Rattle.bus_agents.specs.Through.{ThroughStands}
use Rattle.bus_targets.specs.State.{TargetView, access_by, step_of}
use Rattle.bus_targets.specs.Stands.{AnswersAsTarget}
use Rattle.bus_core.specs.declared.given.Sent.{Sent}

-- what is at the place changed, and nothing else
pub record OneChanged {X : Type 0} (place : ℕ) (old new : List X) (before after : X) : Type 0 where
  pub was : slice_get old place ≡ Some before
  pub is : slice_get new place ≡ Some after
  pub others : (n : ℕ) → n ≢ place → slice_get new n ≡ slice_get old n

-- the port at the place offers these
pub record OffersAt (place : ℕ) (ports : List PortView) (offers : List Offer) : Type 0 where
  pub port : PortView
  pub there : slice_get ports place ≡ Some port
  pub offers_are : offers ≡ offers_of port.face

-- the port at the place replies so to the request, and no other changed
pub record RespondsAt (place : ℕ) (old : List PortView) (line : ℕ) (o : OpId) (request : Request) (reply : Reply) (new : List PortView) : Type 0 where
  pub before : PortView
  pub after : PortView
  pub one : OneChanged place old new before after
  pub lane : after.lane ≡ before.lane
  pub arrivals : after.face.arrivals ≡ before.face.arrivals
  pub replies : PortReplies before line o request reply after
  pub retried : PortStaysAtRetry before reply after

-- the target at the place answers the request so, and no other changed
pub record AccessesAt (board : Board) (place : ℕ) (old : List TargetView) (request : Request) (access : Access) (new : List TargetView) : Type 0 where
  pub before : TargetView
  pub after : TargetView
  pub one : OneChanged place old new before after
  pub target : after.target ≡ before.target
  pub access_is : access ≡ access_by before request (slice_get board.targets before.target)
  pub answers : AnswersAsTarget board before request access after

-- wherever the counts stood for a past, they stand for that past and the answer of a target
pub record NotesPart (old : List (List ℕ)) (o : OpId) (access : Access) (new : List (List ℕ)) : Type 0 where
  pub stands : (board : Board) (p : List Event) (on : ℕ) (by : By) (place : Place) (op : Op) → ThroughStands board p old → op_of board o ≡ Some op
      → ((phases : ℕ) → access ≡ Part phases → tries_of op ≡ 1) → ThroughStands board (Act on by o (step_of access) place ∷ p) new

-- the master at the place has this turn
pub record WantsAt (place : ℕ) (masters : List MasterView) (turn : Option OpId) : Type 0 where
  pub master : MasterView
  pub there : slice_get masters place ≡ Some master
  pub turn_is : master.turn ≡ turn

-- the turn of the master at the place ended with this outcome, and no other changed
pub record EndsTurnAt (board : Board) (place : ℕ) (old : List MasterView) (outcome : Outcome) (new : List MasterView) : Type 0 where
  pub before : MasterView
  pub after : MasterView
  pub one : OneChanged place old new before after
  pub master : after.master ≡ before.master
  pub ends : EndsTurn board before outcome after

-- an operation of the master at the place was answered with this step: wherever all masters stood for a past, they stand
-- for that past and the act; no other has that master's number
pub record TellsMaster (board : Board) (place : ℕ) (step : Step) (old new : List MasterView) : Type 0 where
  pub numbers : map (λ (m : MasterView). m.master) new ≡ map (λ (m : MasterView). m.master) old
  pub tells : (p : List Event) (on : ℕ) (o : OpId) (at : Place) (told : MasterView) → slice_get old place ≡ Some told → told.turn ≡ Some o → o.master ≡ told.master
      → ((n : ℕ) (m : MasterView) → n ≢ place → slice_get old n ≡ Some m → told.master ≢ m.master)
      → ((n : ℕ) (m : MasterView) → slice_get old n ≡ Some m → MasterStands board p m)
      → (n : ℕ) (m : MasterView) → slice_get new n ≡ Some m → MasterStands board (Act on Master o step at ∷ p) m

-- what the port at the place offered ended so and this item goes back; no other port changed
pub record EndsAt (place : ℕ) (old : List PortView) (offer : Offer) (outcome : Outcome) (new : List PortView) (back : Item) : Type 0 where
  pub before : PortView
  pub after : PortView
  pub one : OneChanged place old new before after
  pub lane : after.lane ≡ before.lane
  pub arrivals : after.face.arrivals ≡ before.face.arrivals
  pub ends : PortEnds before offer outcome after back

-- an item arrived at the place
pub record ComesAt (place : ℕ) (old : List PortView) (item : Carried) (request : Option Request) (mark : Mark) (back : Option Item) (new : List PortView) : Type 0 where
  pub before : PortView
  pub after : PortView
  pub one : OneChanged place old new before after
  pub lane : after.lane ≡ before.lane
  pub arrivals : after.face.arrivals ≡ before.face.arrivals + 1
  pub arrives : (board : Board) → PortArrives board before item request mark after back

-- the port at the place takes the item or not
pub record TestsAt (place : ℕ) (ports : List PortView) (item : Carried) (taken : Bool) : Type 0 where
  pub port : PortView
  pub there : slice_get ports place ≡ Some port
  pub taken_is : taken ≡ is_taken port.face item
  pub tests : PortTests port item taken

-- the request of a delayed request, as driven on the bus
abbrev pub ask_request : Board → ℕ → Carried → Option Request
ask_request board bus (Post op) = None
ask_request board bus (Ask op slot) = request_of board op bus
ask_request board bus (Done op slot outcome) = None
ask_request board bus Room = None
ask_request board bus (Gone slot) = None

-- what a reply sends over the bridge
abbrev pub sent_over : ℕ → OpId → ℕ → Reply → Option Sent
sent_over place o stamp Accepted = Some (record { place = place; item = PostItem o stamp })
sent_over place o stamp (Latched slot) = Some (record { place = place; item = AskItem o slot stamp })
sent_over place o stamp (Taken slot outcome) = None
sent_over place o stamp (Retry cause) = None
