-- What an operation is answered, by what is kept.
use Rattle.std.specs.Prelude.{ℕ, List, length, Option, Some, None, nat_lt, if◌then◌else◌, slice_get}
use Rattle.pci_command.specs.declared.request.Request.{Request}
use Rattle.pci_command.specs.declared.op_id.OpId.{OpId}
use Rattle.pci_command.specs.Command.{space_of, is_read}
use Rattle.board_model.specs.declared.agents.Target.{Target as TargetAgent}
use Rattle.board_model.specs.declared.bridge.Lane.{Lane as BridgeLane}
use Rattle.board_model.specs.declared.bridge.Place.{Place}
use Rattle.board_model.specs.declared.bridge.Place.TheVariants.{Target, Header, Lane, Nobody}
use Rattle.board_model.specs.declared.board.Board.{Board}
use Rattle.board_model.specs.Requests.{request_of}
use Rattle.board_model.specs.Claims.{claim}
use Rattle.board_model.specs.Ways.{aborts_at, address_in}
use Rattle.history_model.specs.declared.event.By.{By}
use Rattle.history_model.specs.declared.event.Step.{Step}
use Rattle.history_model.specs.declared.event.Step.TheVariants.{Land, Part, Read, Stall, MasterAbort, TargetAbort}
use Rattle.history_model.specs.declared.event.Event.{Event}
use Rattle.history_model.specs.declared.event.Event.TheVariants.{Act, Arrive}
use Rattle.history_model.specs.declared.item.Answer.{Answer}
use Rattle.history_model.specs.declared.item.Answer.TheVariants.{Gives}
use Rattle.history_model.specs.declared.why.Why.{Why}
use Rattle.history_model.specs.Lanes.{Both}
use Rattle.history_model.specs.World.{noted}
use Rattle.judge_lanes.specs.Bridge.{turned}
use Rattle.board_model.specs.declared.bridge.Bridge.{Bridge}
use Rattle.judge_lanes.specs.Faces.{face_answer}
use Rattle.history_model.specs.Words.{without}
use Rattle.history_model.specs.Answers.{header_answer, bridge_to}
use Rattle.machine_steps.specs.Verdicts.{HoldsOfAct, HoldsOfArrival}
use Rattle.judge_state.specs.State.{KeptState, WordPlaces, lanes_in, tokens_in, gone_in, wants_now, mark_in, turns_next, lanes_next, tokens_next, gone_next}
use Rattle.judge_state.specs.Words.{value_at, landed_by}

-- a target that claims: a stall while tokens are left, an abort in an abort range, the word of a read, and a write whole or
-- the part of it that it takes
abbrev pub target_step : KeptState → ℕ → Request → TargetAgent → Step
target_step k place request target =
    if nat_lt 0 (tokens_in k.tokens place) then Stall
    else if aborts_at target request then TargetAbort
    else if is_read request.command then
    Read (value_at k.places k.values (record { target = place; space = space_of request.command; address = address_in (space_of request.command) request.address }))
    else if nat_lt target.burst (length request.phases) then Part target.burst
    else Land

-- the answer of the target at this place of the board
abbrev pub target_answer : KeptState → ℕ → Request → Option TargetAgent → Answer
target_answer k place request None = Gives MasterAbort Nobody
target_answer k place request (Some target) = Gives (target_step k place request target) (Target place)

-- the face of a bridge where the lane begins
abbrev pub face_by : Board → ℕ → By → OpId → Request → BridgeLane → Bridge → Option Both → Answer
face_by board on by o request lane bridge None = Gives MasterAbort Nobody
face_by board on by o request lane bridge (Some x) = face_answer board on by o request lane bridge (turned lane.up x).here (turned lane.up x).back

-- the same, with the bridge and its lanes looked up
abbrev pub face_in : Board → KeptState → ℕ → By → OpId → Request → BridgeLane → Option Bridge → Option Both → Answer
face_in board k on by o request lane None lanes = Gives MasterAbort Nobody
face_in board k on by o request lane (Some bridge) lanes = face_by board on by o request lane bridge lanes

-- the answer of who claims
abbrev pub answer_by : Board → KeptState → ℕ → By → OpId → Request → Place → Answer
answer_by board k on by o request (Target place) = target_answer k place request (slice_get board.targets place)
answer_by board k on by o request (Header bus) = header_answer bus request (bridge_to board bus)
answer_by board k on by o request (Lane lane) = face_in board k on by o request lane (bridge_to board lane.bus) (lanes_in board k.lanes lane.bus)
answer_by board k on by o request Nobody = Gives MasterAbort Nobody

-- the answer to what is left of the request, behind the data phases that went through
abbrev pub answer_to : Board → KeptState → ℕ → By → OpId → Option Request → Answer
answer_to board k on by o None = Gives MasterAbort Nobody
answer_to board k on by o (Some request) =
    let rest = without (gone_in k.gone o) request in answer_by board k on by o rest (claim board on rest)

-- the answer to an operation that the initiator presents on the bus, who is noted as the rule says
abbrev pub answer_now : Board → KeptState → ℕ → By → OpId → Answer
answer_now board k on by o = answer_to board k on (noted k.rule by) o (request_of board o on)

-- what holds of an event by what is kept, for each verdict
abbrev pub HoldsNow : Board → KeptState → Event → Option Why → Type 0
HoldsNow board k (Act on by o step place) why = HoldsOfAct (wants_now board k on by o) (answer_now board k on by o) step place why
HoldsNow board k (Arrive lane mark) why = HoldsOfArrival (mark_in board k.lanes lane) mark why

-- The words after an event.
abbrev pub values_of : WordPlaces → ℕ → Step → ℕ → Option Request → List ℕ → List ℕ
values_of places target step gone None values = values
values_of places target step gone (Some request) values = landed_by places target step gone request values

-- only what lands at a target changes words
abbrev pub values_at : Board → WordPlaces → ℕ → OpId → Step → ℕ → Place → List ℕ → List ℕ
values_at board places on o step gone (Target target) values = values_of places target step gone (request_of board o on) values
values_at board places on o step gone (Header bus) values = values
values_at board places on o step gone (Lane lane) values = values
values_at board places on o step gone Nobody values = values

-- and only an act lands
abbrev pub values_next : Board → WordPlaces → List (List ℕ) → Event → List ℕ → List ℕ
values_next board places gone (Act on by o step place) values = values_at board places on o step (gone_in gone o) place values
values_next board places gone (Arrive lane mark) values = values

-- all that is kept, after an event
abbrev pub next_state : Board → Event → KeptState → KeptState
next_state board e k =
    record {
      rule = k.rule;
      turns = turns_next board e k.turns;
      lanes = lanes_next k.rule board e k.lanes;
      tokens = tokens_next e k.tokens;
      gone = gone_next e k.gone;
      places = k.places;
      values = values_next board k.places k.gone e k.values;
    }
