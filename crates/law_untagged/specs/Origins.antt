-- What reads got on bridges that keep no local master: the completion that a master takes may have been made
-- for another operation, so each completion is followed from the reading that made it.
use Rattle.std.specs.Prelude.{◌≡◌, ℕ, Bool, true, false, List, [], ◌∷◌, Option, Some, None, Contains, is_some, ◌&&◌, ◌||◌, ◌==◌, if◌then◌else◌}
use Rattle.std.specs.List.{find}
use Rattle.pci_command.specs.declared.op_id.OpId.{OpId}
use Rattle.pci_command.specs.declared.op_id.Outcome.{Outcome}
use Rattle.pci_command.specs.Same.{same_op}
use Rattle.board_model.specs.declared.bridge.Lane.{Lane as BridgeLane}
use Rattle.board_model.specs.declared.bridge.Place.{Place}
use Rattle.board_model.specs.declared.bridge.Place.TheVariants.{Target, Header, Lane, Nobody}
use Rattle.board_model.specs.declared.board.Board.{Board}
use Rattle.board_model.specs.Requests.{reads}
use Rattle.history_model.specs.declared.event.By.{By}
use Rattle.history_model.specs.declared.event.By.TheVariants.{Master, Lane as ByLane}
use Rattle.history_model.specs.declared.event.Step.{Step}
use Rattle.history_model.specs.declared.event.Step.TheVariants.{Land, Part, Read, Accept, Latch, Take, Stall, MasterAbort, TargetAbort}
use Rattle.history_model.specs.declared.event.Event.{Event}
use Rattle.history_model.specs.declared.event.Event.TheVariants.{Act, Arrive}
use Rattle.history_model.specs.declared.item.Carried.{Carried}
use Rattle.history_model.specs.declared.item.Slot.{Slot}
use Rattle.history_model.specs.declared.rule.Rule.TheVariants.{Untagged}
use Rattle.history_model.specs.Lanes.{is_of}
use Rattle.history_model.specs.World.{anyone, World, same_lane, is_own, lane_outcome, world_by}
use Rattle.history_model.specs.Local.{is_ask_of}
use Rattle.history_model.specs.Knowledge.{ends_as, Reading, reading_by, reading_or, given_value, has_landed, words_named, is_write, later, saw_in}

-- which reading made the completion of a slot: by the lane that holds it, and its number
abbrev pub Origins : Type 0
Origins = BridgeLane → ℕ → Option Reading

-- the origin of the completion of this slot, if there is one
abbrev pub origin_in : Origins → BridgeLane → Option Slot → Option Reading
origin_in origins lane None = None
origin_in origins lane (Some slot) = origins lane slot.number

-- the origin of the completion that is taken at the place
abbrev pub taken_from : Board → World → Origins → ℕ → OpId → Place → Option Reading
taken_from board world origins on o (Target target) = None
taken_from board world origins on o (Header bus) = None
taken_from board world origins on o (Lane lane) = origin_in origins lane (find (is_own board on anyone o) (world lane).held)
taken_from board world origins on o Nobody = None

-- the same by the step: only a completion that is taken has one
abbrev pub taken_in : Board → World → Origins → ℕ → OpId → Step → Place → Option Reading
taken_in board world origins on o Land place = None
taken_in board world origins on o (Part phases) place = None
taken_in board world origins on o (Read value) place = None
taken_in board world origins on o Accept place = None
taken_in board world origins on o Latch place = None
taken_in board world origins on o (Take outcome) place = taken_from board world origins on o place
taken_in board world origins on o Stall place = None
taken_in board world origins on o MasterAbort place = None
taken_in board world origins on o TargetAbort place = None

-- where an act has its value from: it is a Read at a target, or takes what one made
abbrev pub source_of : Board → List Event → World → Origins → ℕ → OpId → Step → Place → Option Reading
source_of board h world origins on o step place =
    reading_or (reading_by board h on o step place) (taken_in board world origins on o step place)

-- the item that ends is the delayed request of that number
abbrev pub asks_for : ℕ → Option Carried → Bool
asks_for number None = false
asks_for number (Some item) = is_ask_of number item

-- the step ends the item
abbrev pub ends_item : Option Outcome → Bool
ends_item None = false
ends_item (Some outcome) = true

-- whether the act of the lane answers the delayed request of that number
abbrev pub answers : Board → World → BridgeLane → OpId → Step → ℕ → Bool
answers board world lane o step number =
    ends_item (lane_outcome board lane o step) && asks_for number (find (is_of o) (world lane).standing)

-- what the act makes of the origin at this lane and number: where it answers that request, its own source
abbrev pub origin_by : Board → List Event → World → Origins → ℕ → By → OpId → Step → Place → Origins
origin_by board h world origins on Master o step place lane number = origins lane number
origin_by board h world origins on (ByLane k) o step place lane number =
    if same_lane k lane && answers board world k o step number then source_of board h world origins on o step place else origins lane number

-- the same of an event; an arrival changes no origin
abbrev pub origin_after : Board → List Event → World → Origins → Event → Origins
origin_after board h world origins (Act on by o step place) = origin_by board h world origins on by o step place
origin_after board h world origins (Arrive lane mark) = origins

-- the origins of completions after a history
abbrev pub origins_of : Board → List Event → Origins
origins_of board [] lane number = None
origins_of board (e ∷ h) lane number = origin_after board h (world_by Untagged board h) (origins_of board h) e lane number

-- what the read that an event ends at its master got: the reading of a target whose value it was given
abbrev pub ending_reading : Board → List Event → Event → Option Reading
ending_reading board h (Act on Master o step place) =
    if reads board o then source_of board h (world_by Untagged board h) (origins_of board h) on o step place else None
ending_reading board h (Act on (ByLane lane) o step place) = None
ending_reading board h (Arrive lane mark) = None

-- what a read got that its master ended
abbrev pub untagged_got : Board → List Event → OpId → Option Reading
untagged_got board [] r = None
untagged_got board (e ∷ h) r = if is_some (ends_as r e) then ending_reading board h e else untagged_got board h r

-- a read saw a write that had landed whole before that reading, and had brought a data phase to the dword
abbrev pub untagged_saw : Board → List Event → OpId → OpId → Bool
untagged_saw board h r w = saw_in board w (untagged_got board h r)

-- a step of telling: to a later operation of the same master, or from a write to a read that saw it
abbrev pub untagged_tells : Board → List Event → OpId → OpId → Bool
untagged_tells board h p q = later board h p q || untagged_saw board h q p

-- one or more steps
pub data UntaggedChain (board : Board) (h : List Event) : OpId → OpId → Type 0 where
  one : (p q : OpId) → untagged_tells board h p q ≡ true → UntaggedChain board h p q
  more : (p q r : OpId) → untagged_tells board h p q ≡ true → UntaggedChain board h q r → UntaggedChain board h p r

-- a write told an operation, by steps of telling
abbrev pub UntaggedTold : Board → List Event → OpId → OpId → Type 0
UntaggedTold board h w r = (is_write board w ≡ true) × UntaggedChain board h w r

-- every read that was told of a write, and got a word of it, got it from a reading after the write had landed;
-- and every read returned what that reading read
pub record UntaggedFresh (board : Board) (h : List Event) : Type 0 where
  pub informed : (w r : OpId) (reading : Reading) → UntaggedTold board h w r → untagged_got board h r ≡ Some reading →
      Contains (words_named board w) reading.word → has_landed reading.before w ≡ true
  pub returned : (r : OpId) (reading : Reading) → untagged_got board h r ≡ Some reading → given_value h r ≡ Some reading.value
