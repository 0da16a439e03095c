-- The event of a line, by its words: BUS KIND and what stands behind them.
use Rattle.std.specs.Prelude.{ℕ, Bool, List, length, Option, Some, None, is_some, ◌==◌, ◌&&◌, nat_le, codes, if◌then◌else◌, slice_get}
use Rattle.std.specs.Option.{option_map, option_and_then}
use Rattle.std.specs.Str.{bytes_eq}
use Rattle.pci_command.specs.declared.op_id.OpId.{OpId}
use Rattle.board_model.specs.declared.bridge.Place.{Place}
use Rattle.board_model.specs.declared.bridge.Place.TheVariants.{Target, Header, Lane, Nobody as AtNobody}
use Rattle.board_model.specs.declared.board.Board.{Board}
use Rattle.board_model.specs.Ways.{end_of}
use Rattle.history_model.specs.declared.event.By.{By}
use Rattle.history_model.specs.declared.event.Mark.{Mark}
use Rattle.history_model.specs.declared.event.Mark.TheVariants.{Plain, Discard, Drop}
use Rattle.history_model.specs.declared.event.Step.{Step}
use Rattle.history_model.specs.declared.event.Step.TheVariants as steps
use Rattle.history_model.specs.declared.event.Event.{Event}
use Rattle.history_model.specs.declared.event.Event.TheVariants as events
use Rattle.trace_reader.specs.declared.lines.kind.EventWord.{EventWord}
use Rattle.trace_reader.specs.declared.lines.kind.EventWord.TheVariants.{Land, Part, Read, Accept, Latch, Take, Stall, Nobody, Abort, Arrive}
use Rattle.trace_reader.specs.lines.Words.{only_where, value_of, bus_in, lane_in, by_in, target_in, op_in, begins_header, header_in, outcome_in, phases_in}

-- the ten kinds, by their words
abbrev pub later_kind_of : List ℕ → Option EventWord
later_kind_of word =
    if bytes_eq word (codes "take") then Some Take
    else if bytes_eq word (codes "stall") then Some Stall
    else if bytes_eq word (codes "nobody") then Some Nobody
    else if bytes_eq word (codes "tabort") then Some Abort
    else if bytes_eq word (codes "arrive") then Some Arrive
    else None

-- all ten
abbrev pub kind_of : List ℕ → Option EventWord
kind_of word =
    if bytes_eq word (codes "land") then Some Land
    else if bytes_eq word (codes "part") then Some Part
    else if bytes_eq word (codes "read") then Some Read
    else if bytes_eq word (codes "accept") then Some Accept
    else if bytes_eq word (codes "latch") then Some Latch
    else later_kind_of word

-- the mark of an arrival
abbrev pub mark_of : List ℕ → Option Mark
mark_of word =
    if bytes_eq word (codes "discard") then Some Discard
    else if bytes_eq word (codes "drop") then Some Drop
    else None

-- no fourth word, or a mark
abbrev pub mark_at_end : Option (List ℕ) → Option Mark
mark_at_end None = Some Plain
mark_at_end (Some word) = mark_of word

-- how many words a line of the kind has
abbrev pub has_words_for : EventWord → List (List ℕ) → Bool
has_words_for Land words = length words == 5
has_words_for Part words = length words == 6
has_words_for Read words = length words == 6
has_words_for Accept words = length words == 5
has_words_for Latch words = length words == 5
has_words_for Take words = length words == 6
has_words_for Stall words = length words == 5
has_words_for Nobody words = length words == 4
has_words_for Abort words = length words == 5
has_words_for Arrive words = nat_le 3 (length words) && nat_le (length words) 4 && is_some (mark_at_end (slice_get words 3))

-- the word at a place, from 0, read so
abbrev pub word_as : {A : Type 0} → (List ℕ → Option A) → List (List ℕ) → ℕ → Option A
word_as reads words place = option_and_then reads (slice_get words place)

-- a step, and who claimed it: a target, a target or the header of a bridge, or a lane
abbrev pub at_target : Board → List (List ℕ) → Step → Option (Step × Place)
at_target board words step = option_map (λ target. (step, Target target)) (word_as (target_in board) words 4)

-- the target that a word names, or the header of a bridge
abbrev pub reader_in : Board → List ℕ → Option Place
reader_in board word = if begins_header word then option_map Header (header_in board word) else option_map Target (target_in board word)

-- the same of a target or the header of a bridge
abbrev pub at_reader : Board → List (List ℕ) → Step → Option (Step × Place)
at_reader board words step = option_map (λ place. (step, place)) (word_as (reader_in board) words 4)

-- the same of a lane
abbrev pub at_lane : Board → List (List ℕ) → Step → Option (Step × Place)
at_lane board words step = option_map (λ lane. (step, Lane lane)) (word_as (lane_in board) words 4)

-- what an act did, by its kind
abbrev pub done_by : Board → EventWord → List (List ℕ) → Option (Step × Place)
done_by board Land words = at_target board words steps.Land
done_by board Part words = option_and_then (λ phases. at_target board words (steps.Part phases)) (word_as phases_in words 5)
done_by board Read words = option_and_then (λ value. at_reader board words (steps.Read value)) (word_as value_of words 5)
done_by board Accept words = at_lane board words steps.Accept
done_by board Latch words = at_lane board words steps.Latch
done_by board Take words = option_and_then (λ outcome. at_lane board words (steps.Take outcome)) (word_as outcome_in words 5)
done_by board Stall words = at_target board words steps.Stall
done_by board Nobody words = Some (steps.MasterAbort, AtNobody)
done_by board Abort words = at_target board words steps.TargetAbort
done_by board Arrive words = None

-- BUS KIND BY OP ..
abbrev pub act_of : ℕ → By → OpId → Step × Place → Event
act_of bus by op done = events.Act bus by op done.0 done.1

-- the act of a line, if all its words name something
abbrev pub act_in : Board → EventWord → List (List ℕ) → Option Event
act_in board kind words =
    option_and_then (λ bus. option_and_then (λ by. option_and_then (λ op. option_map (act_of bus by op) (done_by board kind words))
    (word_as (op_in board) words 3)) (word_as (by_in board) words 2)) (word_as (bus_in board) words 0)

-- BUS arrive LANE, on the bus where the lane ends
abbrev pub arrival_in : Board → List (List ℕ) → Option Event
arrival_in board words =
    option_and_then (λ bus. option_and_then (λ lane. option_and_then (λ mark. only_where (end_of board lane == bus) (Some (events.Arrive lane mark)))
    (mark_at_end (slice_get words 3))) (word_as (lane_in board) words 2)) (word_as (bus_in board) words 0)

-- the event of a line of this kind
abbrev pub event_in : Board → EventWord → List (List ℕ) → Option Event
event_in board Land words = act_in board Land words
event_in board Part words = act_in board Part words
event_in board Read words = act_in board Read words
event_in board Accept words = act_in board Accept words
event_in board Latch words = act_in board Latch words
event_in board Take words = act_in board Take words
event_in board Stall words = act_in board Stall words
event_in board Nobody words = act_in board Nobody words
event_in board Abort words = act_in board Abort words
event_in board Arrive words = arrival_in board words
