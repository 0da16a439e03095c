-- The line of an event, and which events have one over a board.
use Rattle.std.specs.Prelude.{ℕ, Bool, true, false, List, [], ◌∷◌, ◌++◌, length, codes, IsTrue, is_some, nat_lt, nat_le, ◌&&◌, ◌||◌}
use Rattle.std.specs.Fmt.{decimal}
use Rattle.pci_command.specs.declared.op_id.OpId.{OpId}
use Rattle.pci_command.specs.declared.op_id.Outcome.{Outcome}
use Rattle.pci_command.specs.declared.op_id.Outcome.TheVariants.{Value, Written, Aborted, Nobody as NobodyClaimed}
use Rattle.board_model.specs.declared.bridge.Lane.{Lane as BridgeLane}
use Rattle.board_model.specs.declared.bridge.Place.{Place}
use Rattle.board_model.specs.declared.bridge.Place.TheVariants.{Target, Header, Lane, Nobody}
use Rattle.board_model.specs.declared.board.Board.{Board}
use Rattle.board_model.specs.Requests.{op_of}
use Rattle.board_model.specs.Ways.{end_of, is_lane}
use Rattle.board_model.specs.Valid.{has_bridge_to, is_bus}
use Rattle.history_model.specs.declared.event.By.{By}
use Rattle.history_model.specs.declared.event.By.TheVariants.{Master, Lane as FromLane}
use Rattle.history_model.specs.declared.event.Mark.{Mark}
use Rattle.history_model.specs.declared.event.Mark.TheVariants.{Plain, Discard, Drop}
use Rattle.history_model.specs.declared.event.Step.{Step}
use Rattle.history_model.specs.declared.event.Step.TheVariants.{Land, Part, Read, Accept, Latch, Take, Stall, MasterAbort, TargetAbort}
use Rattle.history_model.specs.declared.event.Event.{Event}
use Rattle.history_model.specs.declared.event.Event.TheVariants.{Act, Arrive}
use Rattle.board_printer.specs.Lines.{Line}
use Rattle.board_printer.specs.Numbers.{word_text}
use Rattle.trace_text.specs.Words.{lane_word, by_word, op_word, place_words, outcome_word}

-- what happened
abbrev pub step_word : Step → List ℕ
step_word Land = codes "land"
step_word (Part phases) = codes "part"
step_word (Read value) = codes "read"
step_word Accept = codes "accept"
step_word Latch = codes "latch"
step_word (Take outcome) = codes "take"
step_word Stall = codes "stall"
step_word MasterAbort = codes "nobody"
step_word TargetAbort = codes "tabort"

-- and with what: the number of data phases, the value, the outcome
abbrev pub result_words : Step → Line
result_words Land = []
result_words (Part phases) = decimal phases ∷ []
result_words (Read value) = word_text value ∷ []
result_words Accept = []
result_words Latch = []
result_words (Take outcome) = outcome_word outcome ∷ []
result_words Stall = []
result_words MasterAbort = []
result_words TargetAbort = []

-- `discard` or `drop`, where an arrival is marked
abbrev pub mark_words : Mark → Line
mark_words Plain = []
mark_words Discard = codes "discard" ∷ []
mark_words Drop = codes "drop" ∷ []

-- `BUS STEP BY OP PLACE RESULT`
abbrev pub act_line : Board → ℕ → By → OpId → Step → Place → Line
act_line board bus by op step place =
    decimal bus ∷ step_word step ∷ by_word by ∷ op_word board op ∷ (place_words board place ++ result_words step)

-- `BUS arrive LANE MARK`, with the bus at the lane's end
abbrev pub arrival_line : Board → BridgeLane → Mark → Line
arrival_line board lane mark = decimal (end_of board lane) ∷ codes "arrive" ∷ lane_word lane ∷ mark_words mark

-- the line of an event
abbrev pub event_line : Board → Event → Line
event_line board (Act bus by op step place) = act_line board bus by op step place
event_line board (Arrive lane mark) = arrival_line board lane mark

-- the initiator is there, and the place
abbrev pub has_initiator : Board → By → Bool
has_initiator board Master = true
has_initiator board (FromLane lane) = has_bridge_to board lane.bus

-- the same of what claimed, if anything did
abbrev pub has_place : Board → Place → Bool
has_place board (Target index) = nat_lt index (length board.targets)
has_place board (Header bus) = has_bridge_to board bus
has_place board (Lane lane) = has_bridge_to board lane.bus
has_place board Nobody = true

-- the place is a target
abbrev pub is_target : Place → Bool
is_target (Target index) = true
is_target (Header bus) = false
is_target (Lane lane) = false
is_target Nobody = false

-- the place is the header of a bridge
abbrev pub is_header : Place → Bool
is_header (Target index) = false
is_header (Header bus) = true
is_header (Lane lane) = false
is_header Nobody = false

-- nobody claimed it
abbrev pub is_nobody : Place → Bool
is_nobody (Target index) = false
is_nobody (Header bus) = false
is_nobody (Lane lane) = false
is_nobody Nobody = true

-- a completion that is taken has a value, or says that the write was taken or that it was aborted
abbrev pub is_completion : Outcome → Bool
is_completion (Value value) = true
is_completion Written = true
is_completion Aborted = true
is_completion NobodyClaimed = false

-- where each step can happen
abbrev pub is_step_at : Step → Place → Bool
is_step_at Land place = is_target place
is_step_at (Part phases) place = is_target place && (nat_le 1 phases && nat_le phases 8)
is_step_at (Read value) place = is_target place || is_header place
is_step_at Accept place = is_lane place
is_step_at Latch place = is_lane place
is_step_at (Take outcome) place = is_lane place && is_completion outcome
is_step_at Stall place = is_target place
is_step_at MasterAbort place = is_nobody place
is_step_at TargetAbort place = is_target place

-- the event has a line: all that it names is on the board, and the step is one of its place
abbrev pub has_line : Board → Event → Bool
has_line board (Act bus by op step place) =
    is_bus board bus && (has_initiator board by && (is_some (op_of board op) && (has_place board place && is_step_at step place)))
has_line board (Arrive lane mark) = has_bridge_to board lane.bus

-- the same as a fact
abbrev pub HasLine : Board → Event → Type 0
HasLine board event = IsTrue (has_line board event)
