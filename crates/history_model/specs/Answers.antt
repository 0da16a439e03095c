-- Which operations are presented on a bus, and how each is answered.
use Rattle.std.specs.Prelude.{ℕ, Bool, true, false, ◌+◌, ◌/◌, ◌%◌, ◌^◌, List, [], ◌∷◌, length, Option, Some, None, not, ◌&&◌, ◌==◌, nat_lt, if◌then◌else◌, slice_get}
use Rattle.std.specs.List.{find, list_all}
use Rattle.list_facts.specs.Lists.{before}
use Rattle.pci_command.specs.declared.command.Kind.{Kind}
use Rattle.pci_command.specs.declared.command.Kind.TheVariants.{Pmw, Drr, Dwr, Drc, Dwc}
use Rattle.pci_command.specs.declared.request.Request.{Request}
use Rattle.pci_command.specs.declared.op_id.OpId.{OpId}
use Rattle.pci_command.specs.Command.{space_of, is_read}
use Rattle.pci_command.specs.Same.{same_op}
use Rattle.order_table.specs.Order.{may_pass}
use Rattle.board_model.specs.declared.agents.Master.{Master as MasterAgent}
use Rattle.board_model.specs.declared.agents.Target.{Target as TargetAgent}
use Rattle.board_model.specs.declared.bridge.Bridge.{Bridge}
use Rattle.board_model.specs.declared.bridge.Lane.{Lane as BridgeLane}
use Rattle.board_model.specs.declared.bridge.Place.{Place}
use Rattle.board_model.specs.declared.bridge.Place.TheVariants.{Target, Header, Lane, Nobody}
use Rattle.board_model.specs.declared.board.Board.{Board}
use Rattle.board_model.specs.Requests.{request_of, reads, same_requests, is_posted}
use Rattle.board_model.specs.Claims.{claim}
use Rattle.board_model.specs.Ways.{end_of, aborts_at, address_in, lane_back}
use Rattle.board_model.specs.HeaderBytes.{header_word}
use Rattle.history_model.specs.declared.event.By.{By}
use Rattle.history_model.specs.declared.event.By.TheVariants.{Master, Lane as ByLane}
use Rattle.history_model.specs.declared.event.Step.{Step}
use Rattle.history_model.specs.declared.event.Step.TheVariants.{Land, Part, Read, Accept, Latch, Take, Stall, MasterAbort, TargetAbort}
use Rattle.history_model.specs.declared.event.Event.{Event}
use Rattle.history_model.specs.declared.event.Event.TheVariants.{Act, Arrive}
use Rattle.history_model.specs.declared.item.Carried.{Carried}
use Rattle.history_model.specs.declared.item.Carried.TheVariants.{Post, Ask, Done, Room, Gone}
use Rattle.history_model.specs.declared.item.Slot.{Slot}
use Rattle.history_model.specs.declared.item.Answer.{Answer}
use Rattle.history_model.specs.declared.item.Answer.TheVariants.{Gives, Retry}
use Rattle.history_model.specs.declared.item.Cause.TheVariants.{Full, NoSlot, Waiting, Behind}
use Rattle.history_model.specs.Lanes.{is_of, is_done_for}
use Rattle.history_model.specs.declared.rule.Rule.{Rule}
use Rattle.history_model.specs.declared.rule.Rule.TheVariants.{Tagged, Untagged}
use Rattle.history_model.specs.World.{World, noted, is_own, world_by}
use Rattle.history_model.specs.Program.{turn_of}
use Rattle.history_model.specs.Words.{through, without, value_of}

-- the row and column of the ordering table of a delayed request, to read or to write
abbrev pub request_kind : Bool → Kind
request_kind true = Drr
request_kind false = Dwr

-- and of a completion
abbrev pub completion_kind : Bool → Kind
completion_kind true = Drc
completion_kind false = Dwc

-- the row and column of an item; a credit and the word that a request was dropped never stand, and block
-- like posted writes
abbrev pub kind_of : Board → Carried → Kind
kind_of board (Post op) = Pmw
kind_of board (Ask op slot) = request_kind (reads board op)
kind_of board (Done op slot outcome) = completion_kind (reads board op)
kind_of board Room = Pmw
kind_of board (Gone slot) = Pmw

-- the operation of a delayed request
abbrev pub asked : Carried → Option OpId
asked (Post op) = None
asked (Ask op slot) = Some op
asked (Done op slot outcome) = None
asked Room = None
asked (Gone slot) = None

-- two delayed requests that are the same on the bus
abbrev pub asks_same : Board → ℕ → Option OpId → Option OpId → Bool
asks_same board on None other = false
asks_same board on (Some o) None = false
asks_same board on (Some o) (Some p) = same_requests board on o p

-- by the rule of the bridge: of two delayed requests that are the same on the bus the younger waits
abbrev pub waits_for_equal : Rule → Bool
waits_for_equal Tagged = true
waits_for_equal Untagged = false

-- under a rule: an item may go before an older one
abbrev pub goes_before_by : Rule → Board → ℕ → Carried → Carried → Bool
goes_before_by rule board on item older =
    may_pass (kind_of board item) (kind_of board older) && not (waits_for_equal rule && asks_same board on (asked item) (asked older))

-- an item may go before an older one where the ordering table lets it pass, but a delayed request not before an
-- older one that is the same on the bus
abbrev pub goes_before : Board → ℕ → Carried → Carried → Bool
goes_before board on item older = goes_before_by Tagged board on item older

-- under a rule: the item, where there is one, may go before all these older ones
abbrev pub presents_item_by : Rule → Board → ℕ → List Carried → Option Carried → Bool
presents_item_by rule board on older None = false
presents_item_by rule board on older (Some item) = list_all (goes_before_by rule board on item) older

-- the item, where there is one, may go before all these older ones
abbrev pub presents_item : Board → ℕ → List Carried → Option Carried → Bool
presents_item board on older item = presents_item_by Tagged board on older item

-- under a rule: a lane presents what stands of the operation
abbrev pub presents_by : Rule → Board → ℕ → OpId → List Carried → Bool
presents_by rule board on o standing = presents_item_by rule board on (before (is_of o) standing) (find (is_of o) standing)

-- a lane presents a posted write or delayed request that stands, if it may go before every older item that stands
abbrev pub presents : Board → ℕ → OpId → List Carried → Bool
presents board on o standing = presents_by Tagged board on o standing

-- the master is there and on the bus
abbrev pub is_on : ℕ → Option MasterAgent → Bool
is_on bus None = false
is_on bus (Some master) = master.bus == bus

-- the operation is the turn
abbrev pub is_turn : OpId → Option OpId → Bool
is_turn o None = false
is_turn o (Some turn) = same_op turn o

-- under a rule: the initiator presents the operation on the bus, with this on the lanes and after this history
abbrev pub wants_in_by : Rule → Board → World → List Event → ℕ → By → OpId → Bool
wants_in_by rule board world h on Master o = is_on on (slice_get board.masters o.master) && is_turn o (turn_of board h o.master)
wants_in_by rule board world h on (ByLane lane) o = end_of board lane == on && presents_by rule board on o (world lane).standing

-- the initiator presents the operation on the bus, with this on the lanes and after this history: a master its
-- turn, on its own bus, and a lane what stands where it ends
abbrev pub wants_in : Board → World → List Event → ℕ → By → OpId → Bool
wants_in board world h on by o = wants_in_by Tagged board world h on by o

-- under a rule: the initiator presents the operation on the bus now
abbrev pub wants_by : Rule → Board → List Event → ℕ → By → OpId → Bool
wants_by rule board h on by o = wants_in_by rule board (world_by rule board h) h on by o

-- the initiator presents the operation on the bus now
abbrev pub wants : Board → List Event → ℕ → By → OpId → Bool
wants board h on by o = wants_by Tagged board h on by o

-- how many stall tokens of the target are used
abbrev pub stalls_at : ℕ → Place → ℕ
stalls_at target (Target place) = if place == target then 1 else 0
stalls_at target (Header bus) = 0
stalls_at target (Lane lane) = 0
stalls_at target Nobody = 0

-- a Stall event uses one of the target that claims, and no other step uses any
abbrev pub stalls_in : ℕ → Place → Step → ℕ
stalls_in target place Land = 0
stalls_in target place (Part phases) = 0
stalls_in target place (Read value) = 0
stalls_in target place Accept = 0
stalls_in target place Latch = 0
stalls_in target place (Take outcome) = 0
stalls_in target place Stall = stalls_at target place
stalls_in target place MasterAbort = 0
stalls_in target place TargetAbort = 0

-- and by an event
abbrev pub stalls_by : ℕ → Event → ℕ
stalls_by target (Act on by o step place) = stalls_in target place step
stalls_by target (Arrive lane mark) = 0

-- and in a history
abbrev pub stalls_used : List Event → ℕ → ℕ
stalls_used [] target = 0
stalls_used (e ∷ h) target = stalls_by target e + stalls_used h target

-- a target that claims: a stall while tokens are left, an abort in an abort range, and else the access;
-- of a write with more data phases than it takes at a time it takes the first and disconnects
abbrev pub target_step : Board → List Event → ℕ → Request → TargetAgent → Step
target_step board h place request target =
    if nat_lt (stalls_used h place) target.stalls then Stall
    else if aborts_at target request then TargetAbort
    else if is_read request.command then
    Read (value_of board h (record { target = place; space = space_of request.command; address = address_in (space_of request.command) request.address }))
    else if nat_lt target.burst (length request.phases) then Part target.burst
    else Land

-- the answer of a target that claims
abbrev pub target_answer : Board → List Event → ℕ → Request → Option TargetAgent → Answer
target_answer board h place request None = Gives MasterAbort Nobody
target_answer board h place request (Some target) = Gives (target_step board h place request target) (Target place)

-- a bridge whose header is read answers with the register
abbrev pub header_answer : ℕ → Request → Option Bridge → Answer
header_answer bus request None = Gives MasterAbort Nobody
header_answer bus request (Some bridge) = Gives (Read (header_word bridge (request.address % 2 ^ 8 / 4))) (Header bus)

-- the completion of a read or a write may pass an item that stands before it
abbrev pub completion_passes : Board → Bool → Carried → Bool
completion_passes board read older = may_pass (completion_kind read) (kind_of board older)

-- the completion for the own slot, where it stands: it is given if it may pass all that stands before it
abbrev pub completion_answer : Board → Bool → BridgeLane → List Carried → Option Carried → Answer
completion_answer board read lane older None = Retry Waiting
completion_answer board read lane older (Some (Post op)) = Retry Waiting
completion_answer board read lane older (Some (Ask op slot)) = Retry Waiting
completion_answer board read lane older (Some (Done op slot outcome)) =
    if list_all (completion_passes board read) older then Gives (Take outcome) (Lane lane) else Retry Behind
completion_answer board read lane older (Some Room) = Retry Waiting
completion_answer board read lane older (Some (Gone slot)) = Retry Waiting

-- a delayed request: the completion of the own slot, or a new slot while there is one
abbrev pub delayed_answer : Board → Bool → ℕ → BridgeLane → List Slot → List Carried → Option Slot → Answer
delayed_answer board read depth lane held coming None =
    if nat_lt (length held) depth then Gives Latch (Lane lane) else Retry NoSlot
delayed_answer board read depth lane held coming (Some slot) =
    completion_answer board read lane (before (is_done_for slot.number) coming) (find (is_done_for slot.number) coming)

-- a posted write: accepted while fewer are owed than the bridge holds
abbrev pub posted_answer : ℕ → ℕ → BridgeLane → Answer
posted_answer owed depth lane = if nat_lt owed depth then Gives Accept (Lane lane) else Retry Full

-- the face of a bridge where the lane begins, of a posted write or a delayed request
abbrev pub lane_answer : Board → World → ℕ → By → OpId → Request → BridgeLane → Option Bridge → Answer
lane_answer board world on by o request lane None = Gives MasterAbort Nobody
lane_answer board world on by o request lane (Some bridge) =
    if is_posted request
    then posted_answer (world lane).owed bridge.posted lane
    else delayed_answer board (is_read request.command) bridge.delayed lane (world lane).held
    (world (lane_back lane)).standing (find (is_own board on by o) (world lane).held)

-- the bridge whose secondary bus has the number
abbrev pub bridge_to : Board → ℕ → Option Bridge
bridge_to board bus = find (λ bridge. bridge.bus == bus) board.bridges

-- the answer of who claims what is left of the request
abbrev pub answer_by : Board → World → List Event → ℕ → By → OpId → Request → Place → Answer
answer_by board world h on by o request (Target place) = target_answer board h place request (slice_get board.targets place)
answer_by board world h on by o request (Header bus) = header_answer bus request (bridge_to board bus)
answer_by board world h on by o request (Lane lane) = lane_answer board world on by o request lane (bridge_to board lane.bus)
answer_by board world h on by o request Nobody = Gives MasterAbort Nobody

-- of what is left of the request, by whoever claims it on the bus; an operation without a request is
-- claimed by nobody
abbrev pub answer_to : Board → World → List Event → ℕ → By → OpId → Option Request → Answer
answer_to board world h on by o None = Gives MasterAbort Nobody
answer_to board world h on by o (Some request) =
    let rest = without (through h o) request in answer_by board world h on by o rest (claim board on rest)

-- what the operation is answered, presented on the bus by the initiator, with this on the lanes and after this history
abbrev pub answer_in : Board → World → List Event → ℕ → By → OpId → Answer
answer_in board world h on by o = answer_to board world h on by o (request_of board o on)

-- under a rule: what the operation is answered, presented on the bus by the initiator now
abbrev pub answer_by_rule : Rule → Board → List Event → ℕ → By → OpId → Answer
answer_by_rule rule board h on by o = answer_in board (world_by rule board h) h on (noted rule by) o

-- what the operation is answered, presented on the bus by the initiator now
abbrev pub answer : Board → List Event → ℕ → By → OpId → Answer
answer board h on by o = answer_by_rule Tagged board h on by o
