-- What stands before the item of an event that is not allowed, where that is why: of an act that is not presented (N1) before
-- what its lane has of the operation, and of one that is answered with Retry (N3) before the completion of it.
use Rattle.std.specs.Prelude.{ℕ, ◌-◌, Bool, true, false, not, ◌&&◌, ◌==◌, nat_lt, List, [], ◌∷◌, length, Option, Some, None, slice_get, if◌then◌else◌}
use Rattle.std.specs.List.{find}
use Rattle.board_model.specs.declared.board.Board.{Board}
use Rattle.board_model.specs.Ways.{end_of}
use Rattle.history_model.specs.declared.item.Carried.{Carried}
use Rattle.history_model.specs.declared.item.Carried.TheVariants.{Post, Ask, Done, Room, Gone}
use Rattle.history_model.specs.declared.event.By.{By}
use Rattle.history_model.specs.declared.event.By.TheVariants.{Master, Lane}
use Rattle.history_model.specs.declared.event.Event.{Event}
use Rattle.history_model.specs.declared.event.Event.TheVariants.{Act, Arrive}
use Rattle.history_model.specs.declared.why.Why.{Why}
use Rattle.history_model.specs.declared.why.Why.TheVariants.{NotPresented, AnsweredOtherwise, GetsRetry, NothingInFlight, MarkedOtherwise}
use Rattle.history_model.specs.Answers.{presents}
use Rattle.draw_items.specs.declared.journey.Journey.{Journey}
use Rattle.draw_items.specs.Journeys.{stands}
use Rattle.draw_items.specs.Touched.{is_done, named_by, completion_at}
use Rattle.draw_told.specs.declared.close.Close.{Close}
use Rattle.draw_told.specs.declared.close.Close.TheVariants.{Ended, NotEnded, Refused}

-- a lane ends on the bus of the event
abbrev pub ends_on : Board → ℕ → By → Bool
ends_on board on Master = false
ends_on board on (Lane lane) = end_of board lane == on

-- the item that would be presented
abbrev pub unpresented : Board → Event → List Journey → Option Journey
unpresented board (Act on by o step place) js = if ends_on board on by then named_by (Act on by o step place) js else None
unpresented board (Arrive lane mark) js = None

-- the completion that would be taken
abbrev pub retried : Event → List Journey → Option Journey
retried (Act on by o step place) js = completion_at o place js
retried (Arrive lane mark) js = None

-- the item that waits, where that may be why the event is not allowed
abbrev pub waiting_in : Board → Why → Event → List Journey → Option Journey
waiting_in board NotPresented e js = unpresented board e js
waiting_in board AnsweredOtherwise e js = None
waiting_in board GetsRetry e js = retried e js
waiting_in board NothingInFlight e js = None
waiting_in board MarkedOtherwise e js = None

-- with this older item alone before it the lane does not present it
abbrev pub waits_for : Board → Journey → Journey → Bool
waits_for board item older = not (presents board (end_of board item.lane) item.op (older.carried ∷ item.carried ∷ []))

-- a posted write
abbrev pub is_post : Carried → Bool
is_post (Post op) = true
is_post (Ask op slot) = false
is_post (Done op slot outcome) = false
is_post Room = false
is_post (Gone slot) = false

-- what a completion that is not given waits for is a posted write
abbrev pub is_held : Board → Journey → Journey → Bool
is_held board item older = if is_done item.carried then is_post older.carried else waits_for board item older

-- it stands where the other does, came before it, and holds it up
abbrev pub is_ahead : Board → Journey → Journey → Bool
is_ahead board item older = stands item.lane older && (nat_lt older.came item.came && is_held board item older)

-- the first such item
abbrev pub first_ahead : Board → List Journey → Option Journey → Option Journey
first_ahead board js None = None
first_ahead board js (Some item) = find (is_ahead board item) js

-- the same of what an event would have to do with
abbrev pub ahead_of_event : Board → List Journey → Why → Option Event → Option Journey
ahead_of_event board js why None = None
ahead_of_event board js why (Some e) = first_ahead board js (waiting_in board why e js)

-- what stands before the item of the last of these events, if that is why it is not allowed
unfoldable pub ahead_in : Board → List Journey → Close → List Event → Option Journey
ahead_in board js Ended events = None
ahead_in board js NotEnded events = None
ahead_in board js (Refused why sentence) events = ahead_of_event board js why (slice_get events (length events - 1))
