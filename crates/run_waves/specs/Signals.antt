-- The signals of a board, in the order in which they are declared: bus by bus, and on each bus what happens there, its
-- lanes, its masters and its targets.
use Rattle.std.specs.Prelude.{ℕ, Bool, true, false, List, [], ◌∷◌, ◌++◌, length, Option, Some, None, ◌==◌, if◌then◌else◌, slice_get}
use Rattle.std.specs.List.{filter, flat_map, range_with_len}
use Rattle.board_model.specs.declared.agents.Target.{Target as TargetAgent}
use Rattle.board_model.specs.declared.bridge.Lane.{Lane as BridgeLane}
use Rattle.board_model.specs.declared.board.Board.{Board}
use Rattle.history_model.specs.Answers.{is_on}
use Rattle.run_report.specs.Report.{buses_of}
use Rattle.run_waves.specs.declared.signal.BusPart.TheVariants as parts
use Rattle.run_waves.specs.declared.signal.LaneCount.TheVariants.{Owed, Held, Flight, Posts, Requests, Completions}
use Rattle.run_waves.specs.declared.signal.Signal.{Signal}
use Rattle.run_waves.specs.declared.signal.Signal.TheVariants.{Bus, Lane, Index, Try, Waits, Stall}

-- what happens on a bus: the kind of the event, who presents it, the operation, where it goes, and the value
abbrev pub happenings : ℕ → List Signal
happenings bus = Bus bus parts.Event ∷ Bus bus parts.By ∷ Bus bus parts.Op ∷ Bus bus parts.To ∷ Bus bus parts.Value ∷ []

-- what is counted of a lane
abbrev pub lane_counts : BridgeLane → List Signal
lane_counts lane = Lane lane Owed ∷ Lane lane Held ∷ Lane lane Flight ∷ Lane lane Posts ∷ Lane lane Requests ∷ Lane lane Completions ∷ []

-- the lanes of the bridge to a bus: that down to it, and that back up. Bus 0 is below no bridge
abbrev pub lanes_on : ℕ → List Signal
lanes_on bus = if bus == 0 then [] else lane_counts (record { bus = bus; up = false }) ++ lane_counts (record { bus = bus; up = true })

-- how far a master is: the place of the operation that is its turn, the try of it, and whether it waits
abbrev pub progress : ℕ → List Signal
progress master = Index master ∷ Try master ∷ Waits master ∷ []

-- the stall tokens that a target has left
abbrev pub tokens_left : ℕ → List Signal
tokens_left target = Stall target ∷ []

-- the masters of a bus, by their places in the board
abbrev pub masters_on : Board → ℕ → List ℕ
masters_on board bus = filter (λ master. is_on bus (slice_get board.masters master)) (range_with_len 0 (length board.masters))

-- whether a target is there, and on the bus
abbrev pub is_target_on : ℕ → Option TargetAgent → Bool
is_target_on bus None = false
is_target_on bus (Some target) = target.bus == bus

-- the targets of a bus, likewise
abbrev pub targets_on : Board → ℕ → List ℕ
targets_on board bus = filter (λ target. is_target_on bus (slice_get board.targets target)) (range_with_len 0 (length board.targets))

-- all signals of a bus
abbrev pub signals_on : Board → ℕ → List Signal
signals_on board bus =
    happenings bus ++ (lanes_on bus ++ (flat_map progress (masters_on board bus) ++ flat_map tokens_left (targets_on board bus)))

-- all signals of a board
unfoldable pub signals_of : Board → List Signal
signals_of board = flat_map (signals_on board) (buses_of board)
