-- What is on every lane after a history, which is a list of events, newest first.
use Rattle.std.specs.Prelude.{ℕ, Bool, true, false, List, [], ◌∷◌, Option, Some, None, ◌&&◌, ◌==◌, if◌then◌else◌}
use Rattle.std.specs.List.{find}
use Rattle.pci_command.specs.declared.op_id.OpId.{OpId}
use Rattle.pci_command.specs.declared.op_id.Outcome.{Outcome}
use Rattle.pci_command.specs.declared.op_id.Outcome.TheVariants.{Value, Written, Aborted}
use Rattle.board_model.specs.declared.bridge.Bridge.{Bridge}
use Rattle.board_model.specs.declared.bridge.Lane.{Lane as BridgeLane}
use Rattle.board_model.specs.declared.bridge.Place.{Place}
use Rattle.board_model.specs.declared.bridge.Place.TheVariants.{Target, Header, Lane, Nobody}
use Rattle.board_model.specs.declared.board.Board.{Board}
use Rattle.board_model.specs.Requests.{reads, same_requests}
use Rattle.history_model.specs.declared.event.By.{By}
use Rattle.history_model.specs.declared.event.By.TheVariants.{Master, Lane as ByLane}
use Rattle.history_model.specs.declared.event.Step.{Step}
use Rattle.history_model.specs.declared.event.Step.TheVariants.{Land, Part, Read, Accept, Latch, Take, Stall, MasterAbort, TargetAbort}
use Rattle.history_model.specs.declared.event.Event.{Event}
use Rattle.history_model.specs.declared.event.Event.TheVariants.{Act, Arrive}
use Rattle.history_model.specs.declared.item.Slot.{Slot}
use Rattle.history_model.specs.declared.rule.Rule.{Rule}
use Rattle.history_model.specs.declared.rule.Rule.TheVariants.{Tagged, Untagged}
use Rattle.history_model.specs.Lanes.{LaneState, Both, empty_lane, post_enters, ask_enters, item_ends, slot_taken, arrives}
use Rattle.board_model.specs.Ways.{lane_back}

-- what is on each lane: the lanes of a bridge are named by its secondary bus and their direction
abbrev pub World : Type 0
World = BridgeLane → LaneState

-- both up or both down
abbrev pub same_direction : Bool → Bool → Bool
same_direction false false = true
same_direction false true = false
same_direction true false = false
same_direction true true = true

-- the same lane of the same bridge
abbrev pub same_lane : BridgeLane → BridgeLane → Bool
same_lane a b = a.bus == b.bus && same_direction a.up b.up

-- one initiator: the same master of two operations, or the same lane
abbrev pub same_initiator : By → OpId → By → OpId → Bool
same_initiator Master p Master o = p.master == o.master
same_initiator Master p (ByLane b) o = false
same_initiator (ByLane a) p Master o = false
same_initiator (ByLane a) p (ByLane b) o = same_lane a b

-- a lane and the lane back
abbrev pub both : World → BridgeLane → Both
both world lane = record { here = world lane; back = world (lane_back lane) }

-- the world with one bridge's lanes replaced
abbrev pub put : World → BridgeLane → Both → World
put world lane x other =
    if same_lane other lane then x.here else if same_lane other (lane_back lane) then x.back else world other

-- the world after a move of one bridge's lanes
abbrev pub moved : (Both → Both) → BridgeLane → World → World
moved move lane world = put world lane (move (both world lane))

-- the own slot: held for the same local master with the same request on the bus
abbrev pub is_own : Board → ℕ → By → OpId → Slot → Bool
is_own board on by o slot = same_initiator slot.by slot.op by o && same_requests board on slot.op o

-- the completion for the slot is taken, where a slot was found
abbrev pub slot_found : Option Slot → Both → Both
slot_found None x = x
slot_found (Some slot) x = slot_taken slot.number x

-- what a step does at the lane that claimed
abbrev pub enters : Board → ℕ → By → OpId → Step → Both → Both
enters board on by o Land x = x
enters board on by o (Part phases) x = x
enters board on by o (Read value) x = x
enters board on by o Accept x = post_enters o x
enters board on by o Latch x = ask_enters by o x
enters board on by o (Take outcome) x = slot_found (find (is_own board on by o) x.here.held) x
enters board on by o Stall x = x
enters board on by o MasterAbort x = x
enters board on by o TargetAbort x = x

-- what a step does at the place that claimed: only a bridge's lanes are moved
abbrev pub at_place : Board → ℕ → By → OpId → Step → Place → World → World
at_place board on by o step (Target target) world = world
at_place board on by o step (Header bus) world = world
at_place board on by o step (Lane lane) world = moved (enters board on by o step) lane world
at_place board on by o step Nobody world = world

-- how a bridge ends a delayed request that nobody claimed, by its master abort mode (PCI-to-PCI Bridge
-- Architecture 1.1, section 3.2.5.18; section from memory): as if all ones were read or the write was taken, or as aborted
abbrev pub unclaimed : Bool → Bool → Outcome
unclaimed false true = Value 0xffff_ffff
unclaimed false false = Written
unclaimed true true = Aborted
unclaimed true false = Aborted

-- the master abort mode of a bridge, where it is there
abbrev pub mode_in : Option Bridge → Bool
mode_in None = false
mode_in (Some bridge) = bridge.mode

-- the master abort mode of the bridge whose secondary bus has the number
abbrev pub mode_of : Board → ℕ → Bool
mode_of board bus = mode_in (find (λ bridge. bridge.bus == bus) board.bridges)

-- how a step ends the item of a lane that presented it; a latch, a stall and a part end nothing
abbrev pub lane_outcome : Board → BridgeLane → OpId → Step → Option Outcome
lane_outcome board lane o Land = Some Written
lane_outcome board lane o (Part phases) = None
lane_outcome board lane o (Read value) = Some (Value value)
lane_outcome board lane o Accept = Some Written
lane_outcome board lane o Latch = None
lane_outcome board lane o (Take outcome) = Some outcome
lane_outcome board lane o Stall = None
lane_outcome board lane o MasterAbort = Some (unclaimed (mode_of board lane.bus) (reads board o))
lane_outcome board lane o TargetAbort = Some Aborted

-- the item of a lane ends, where the step ends it
abbrev pub leaves : BridgeLane → OpId → Option Outcome → World → World
leaves lane o None world = world
leaves lane o (Some outcome) world = moved (item_ends o outcome) lane world

-- what a step does at the initiator: only what a lane presents leaves a lane
abbrev pub at_initiator : Board → By → OpId → Step → World → World
at_initiator board Master o step world = world
at_initiator board (ByLane lane) o step world = leaves lane o (lane_outcome board lane o step) world

-- The rule of the bridge: there are two kinds of bridges, and they differ in what they note with a slot of who
-- presented its delayed request. A bridge of the revised kind (`Tagged`) notes the local master, so that slots
-- are told apart by local master and request, and a younger request waits for an older one that is the same on
-- its bus. An uncorrected one (`Untagged`) notes one and the same name for all, so that slots are told apart by
-- their request alone, and does not let a younger equal request wait (`waits_for_equal` in Answers).
-- A definition that takes a rule (`world_by`, `answer_by_rule`, `RunBy` ..) has its meaning under either; the name
-- that stands beside it (`world_of`, `answer`, `Run` ..) is of bridges of the revised kind, and is what is meant
-- wherever no rule is named.

-- the one name that an uncorrected bridge notes for all
abbrev pub anyone : By
anyone = ByLane (record { bus = 0; up = false })

-- what a bridge notes with a slot of who presented its delayed request
abbrev pub noted : Rule → By → By
noted Tagged by = by
noted Untagged by = anyone

-- under a rule: what is on the lanes after one more event
abbrev pub after_by : Rule → Board → World → Event → World
after_by rule board world (Act on by o step place) = at_initiator board by o step (at_place board on (noted rule by) o step place world)
after_by rule board world (Arrive lane mark) = moved (arrives mark) lane world

-- what is on the lanes after one more event
abbrev pub after : Board → World → Event → World
after board world e = after_by Tagged board world e

-- under a rule: what is on the lanes after a history
abbrev pub world_by : Rule → Board → List Event → World
world_by rule board [] lane = empty_lane
world_by rule board (e ∷ h) lane = after_by rule board (world_by rule board h) e lane

-- what is on the lanes after a history: nothing before its first event
abbrev pub world_of : Board → List Event → World
world_of board h = world_by Tagged board h
