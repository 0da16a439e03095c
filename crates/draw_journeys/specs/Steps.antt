-- What each event does to the journeys of a run: its moves, one after another.
use Rattle.std.specs.Prelude.{ℕ, ◌+◌, zero, suc, Bool, true, false, ◌&&◌, ◌==◌, List, [], ◌∷◌, ◌++◌, length, map, if◌then◌else◌}
use Rattle.std.specs.List.{filter, list_any, position_from}
use Rattle.list_facts.specs.Lists.{changed_at}
use Rattle.pci_command.specs.declared.op_id.OpId.{OpId}
use Rattle.board_model.specs.declared.bridge.Lane.{Lane as BridgeLane}
use Rattle.board_model.specs.declared.board.Board.{Board}
use Rattle.history_model.specs.declared.event.Event.{Event}
use Rattle.history_model.specs.declared.item.Carried.{Carried}
use Rattle.history_model.specs.declared.item.Move.{Move}
use Rattle.history_model.specs.declared.item.Move.TheVariants.{Sent, Came, Lost, Left, Held, Freed, Owed, Paid}
use Rattle.history_model.specs.declared.rule.Rule.TheVariants.{Tagged}
use Rattle.history_model.specs.World.{World, world_of}
use Rattle.history_model.specs.Moves.{is_like, moved_by, moves_in}
use Rattle.history_model.specs.Runs.{history_of}
use Rattle.draw_items.specs.declared.journey.Journey.{Journey}
use Rattle.draw_items.specs.Journeys.{can_stand, flies, stands, is_there}

-- Changes.

-- event n sends the item on the lane
abbrev pub begins : ℕ → BridgeLane → OpId → Carried → Journey
begins n lane o item = record { carried = item; op = o; lane = lane; sent = n; came = 0; left = 0; marked = false; track = 0 }

-- event n sends these on the lane
abbrev pub sends : ℕ → BridgeLane → OpId → List Carried → List Journey → List Journey
sends n lane o items js = js ++ map (begins n lane o) items

-- it leaves by event n
abbrev pub leaving : ℕ → Journey → Journey
leaving n j = record j { left = n }

-- the oldest that stands at the end of the lane and passes leaves by event n
abbrev pub leaves : ℕ → BridgeLane → (Carried → Bool) → List Journey → List Journey
leaves n lane test js = changed_at (leaving n) js (position_from (is_there lane test) 0 js)

-- Tracks.

-- the tracks of what stands at the end of the lane
abbrev pub tracks_on : BridgeLane → List Journey → List ℕ
tracks_on lane js = map (λ j. j.track) (filter (stands lane) js)

-- the track is one of these
abbrev pub is_in : List ℕ → ℕ → Bool
is_in tracks track = list_any (λ other. other == track) tracks

-- the least number that is none of these, from this one on; more than so many need not be tried
abbrev pub free_from : List ℕ → ℕ → ℕ → ℕ
free_from tracks track zero = track
free_from tracks track (suc more) = if is_in tracks track then free_from tracks (track + 1) more else track

-- the least number that is none of these
abbrev pub least_free : List ℕ → ℕ
least_free tracks = free_from tracks 0 (length tracks)

-- Moves.

-- it comes by event n, with a track of its own; where it is lost, it is marked if it could have stood
abbrev pub coming : ℕ → Bool → ℕ → Journey → Journey
coming n lost track j = record j { came = n; left = 0; marked = lost && can_stand j.carried; track = track }

-- the oldest in flight on the lane comes by event n, with the least track that is free where it stands
abbrev pub comes : ℕ → BridgeLane → Bool → List Journey → List Journey
comes n lane lost js = changed_at (coming n lost (least_free (tracks_on lane js))) js (position_from (flies lane) 0 js)

-- what a move of event n does to journeys: one begins, comes, or leaves
abbrev pub move_on : ℕ → Move → List Journey → List Journey
move_on n (Sent lane o item) js = sends n lane o (item ∷ []) js
move_on n (Came lane item) js = comes n lane false js
move_on n (Lost lane item) js = comes n lane true js
move_on n (Left lane item) js = leaves n lane (is_like item) js
move_on n (Held lane slot) js = js
move_on n (Freed lane number) js = js
move_on n (Owed lane) js = js
move_on n (Paid lane) js = js

-- what these do, one after another
abbrev pub moves_on : ℕ → List Move → List Journey → List Journey
moves_on n [] js = js
moves_on n (move ∷ moves) js = moves_on n moves (move_on n move js)

-- event n happens, with this on the lanes
abbrev pub next : Board → World → ℕ → Event → List Journey → List Journey
next board world n e js = moves_on n (moves_in Tagged board e (moved_by Tagged board world e)) js

-- the journeys by a history, newest event first
abbrev pub journeys_by : Board → List Event → List Journey
journeys_by board [] = []
journeys_by board (e ∷ h) = next board (world_of board h) (length h + 1) e (journeys_by board h)

-- the journeys by the events of a trace, the oldest first
unfoldable pub journeys_in : Board → List Event → List Journey
journeys_in board events = journeys_by board (history_of events)
