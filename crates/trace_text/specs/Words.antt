-- The words of an event line: lanes, initiators, operations, places and outcomes.
use Rattle.std.specs.Prelude.{ℕ, Bool, true, false, List, [], ◌∷◌, ◌++◌, codes, slice_get, if◌then◌else◌}
use Rattle.std.specs.Option.{option_map_or, option_and_then}
use Rattle.std.specs.Fmt.{decimal}
use Rattle.pci_command.specs.declared.op_id.OpId.{OpId}
use Rattle.pci_command.specs.declared.op_id.Outcome.{Outcome}
use Rattle.pci_command.specs.declared.op_id.Outcome.TheVariants.{Value, Written, Aborted, Nobody as NobodyClaimed}
use Rattle.board_model.specs.declared.op.Op.{Op}
use Rattle.board_model.specs.declared.op.Op.TheVariants.{Read, Write, CfgRead, CfgWrite, Poll}
use Rattle.board_model.specs.declared.bridge.Lane.{Lane as BridgeLane}
use Rattle.board_model.specs.declared.bridge.Place.{Place}
use Rattle.board_model.specs.declared.bridge.Place.TheVariants.{Target, Header, Lane, Nobody}
use Rattle.board_model.specs.declared.board.Board.{Board}
use Rattle.history_model.specs.declared.event.By.{By}
use Rattle.history_model.specs.declared.event.By.TheVariants.{Master, Lane as FromLane}
use Rattle.board_printer.specs.Lines.{Line}
use Rattle.board_printer.specs.Numbers.{word_text}

-- a lane: the secondary bus of its bridge, and `u` for up or `d` for down
abbrev pub lane_word : BridgeLane → List ℕ
lane_word lane = decimal lane.bus ++ (if lane.up then codes "u" else codes "d")

-- an initiator: `m` for the operation's own master, otherwise the lane
abbrev pub by_word : By → List ℕ
by_word Master = codes "m"
by_word (FromLane lane) = lane_word lane

-- the names of a master and of a target, by their places in the board
abbrev pub master_name : Board → ℕ → List ℕ
master_name board index = option_map_or (λ master. master.name) (slice_get board.masters index) []

-- the same of a target
abbrev pub target_name : Board → ℕ → List ℕ
target_name board index = option_map_or (λ target. target.name) (slice_get board.targets index) []

-- whether the operation at this place of a program is a poll
abbrev pub is_poll : Op → Bool
is_poll (Read command address) = false
is_poll (Write command address phases) = false
is_poll (CfgRead bus device register) = false
is_poll (CfgWrite bus device register phase) = false
is_poll (Poll space address want tries) = true

-- the same of an operation of the board
abbrev pub names_poll : Board → OpId → Bool
names_poll board o =
    option_map_or is_poll (option_and_then (λ master. slice_get master.ops o.index) (slice_get board.masters o.master)) false

-- `.TRY` for a poll
abbrev pub try_text : Bool → ℕ → List ℕ
try_text polls attempt = if polls then 46 ∷ decimal attempt else []

-- an operation: `NAME.INDEX`, for a poll `NAME.INDEX.TRY`
abbrev pub op_word : Board → OpId → List ℕ
op_word board o = master_name board o.master ++ 46 ∷ (decimal o.index ++ try_text (names_poll board o) o.attempt)

-- who claimed: a target by its name, the header of a bridge as `=B`, a lane, or no word for nobody
abbrev pub place_words : Board → Place → Line
place_words board (Target index) = target_name board index ∷ []
place_words board (Header bus) = (61 ∷ decimal bus) ∷ []
place_words board (Lane lane) = lane_word lane ∷ []
place_words board Nobody = []

-- how an operation ended; no line says that nobody claimed it
abbrev pub outcome_word : Outcome → List ℕ
outcome_word (Value value) = word_text value
outcome_word Written = codes "ok"
outcome_word Aborted = codes "abort"
outcome_word NobodyClaimed = codes "nobody"
