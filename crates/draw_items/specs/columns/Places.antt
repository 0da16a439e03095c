-- Where the columns and the lines of a picture stand.
use Rattle.std.specs.Prelude.{ℕ, ◌+◌, ◌-◌, ◌*◌, ◌/◌, Bool, false, ◌&&◌, ◌==◌, max, List, [], ◌∷◌, ◌++◌, length, slice_get, codes, Option, Some, None, is_some, if◌then◌else◌}
use Rattle.std.specs.Fmt.{decimal}
use Rattle.std.specs.List.{find}
use Rattle.std.specs.Option.{option_map, option_map_or}
use Rattle.list_facts.specs.Lists.{greatest}
use Rattle.board_model.specs.declared.bridge.Lane.{Lane as BridgeLane}
use Rattle.board_model.specs.declared.board.Board.{Board}
use Rattle.history_model.specs.World.{same_lane}
use Rattle.draw_items.specs.declared.journey.Journey.{Journey}
use Rattle.draw_items.specs.Journeys.{has_stood}
use Rattle.draw_items.specs.declared.columns.line.ColumnLine.{ColumnLine}
use Rattle.draw_items.specs.declared.columns.line.ColumnLine.TheVariants.{Left, Master, Target, Right}
use Rattle.draw_items.specs.declared.columns.columns.Band.{Band}
use Rattle.draw_items.specs.declared.columns.columns.Column.{Column}
use Rattle.draw_items.specs.columns.Sums.{plus, times}
use Rattle.draw_items.specs.columns.Order.{lines_on, in_order, middle_of}

-- the name of a line; that of a face is the number of its bridge
abbrev pub name_of : Board → ColumnLine → List ℕ
name_of board (Left lane) = codes "bridge " ++ decimal lane.bus
name_of board (Master master) = option_map_or (λ agent. agent.name) (slice_get board.masters master) []
name_of board (Target target) = option_map_or (λ agent. agent.name) (slice_get board.targets target) []
name_of board (Right lane) = codes "bridge " ++ decimal lane.bus

-- how many tracks are used on a lane in the whole trace
abbrev pub tracks_used : BridgeLane → Journey → ℕ
tracks_used lane item = if has_stood item && same_lane item.lane lane then plus item.track 1 else 0

-- the greatest of that over all items
abbrev pub most : List Journey → BridgeLane → ℕ
most items lane = greatest (tracks_used lane) items

-- the room for bars before a face at the left, and behind one at the right
abbrev pub room_before : List Journey → ColumnLine → ℕ
room_before items (Left lane) = times 6 (most items lane)
room_before items (Master master) = 0
room_before items (Target target) = 0
room_before items (Right lane) = 0

-- the room behind a face at the right
abbrev pub room_behind : List Journey → ColumnLine → ℕ
room_behind items (Left lane) = 0
room_behind items (Master master) = 0
room_behind items (Target target) = 0
room_behind items (Right lane) = times 6 (most items lane)

-- the next line stands from here on
abbrev pub next_x : List Journey → ℕ → ColumnLine → ℕ
next_x items x line = plus (plus (plus x (room_before items line)) 22) (room_behind items line)

-- the lines of a bus from a place on, with names in rows from this one on
abbrev pub columns_from : List Journey → ℕ → ℕ → List ColumnLine → List Column
columns_from items x row [] = []
columns_from items x row (line ∷ lines) =
    record { line = line; place = plus x (room_before items line); row = row } ∷ columns_from items (next_x items x line) (row + 1) lines

-- where they end, and where their names do
abbrev pub past_lines : List Journey → ℕ → List ColumnLine → ℕ
past_lines items x [] = x
past_lines items x (line ∷ lines) = past_lines items (next_x items x line) lines

-- where the names of a bus end, with that of this line
abbrev pub past_name : Board → List Journey → ℕ → ℕ → ColumnLine → ℕ
past_name board items x end line =
    max end (plus (plus x (room_before items line)) (plus (times 6 (length (name_of board line))) 6))

-- the same of all lines of a bus
abbrev pub past_names : Board → List Journey → ℕ → ℕ → List ColumnLine → ℕ
past_names board items x end [] = end
past_names board items x end (line ∷ lines) = past_names board items (next_x items x line) (past_name board items x end line) lines

-- where the column of a bus ends that starts here: it has room for its lines, for its title and for the names
abbrev pub band_end : Board → List Journey → ℕ → List ColumnLine → ℕ
band_end board items start lines =
    past_names board items (plus start 14) (max (past_lines items (plus start 14) lines - 8) (plus start 48)) lines

-- the columns, the lines from left to right, the greatest number of lines on a bus, and where the next column starts
pub record Layout : Type 0 where
  pub bands : List Band
  pub lines : List Column
  pub rows : ℕ
  pub past : ℕ

-- one bus more
abbrev pub with_bus : Board → List Journey → ℕ → List ColumnLine → Layout → Layout
with_bus board items bus lines layout =
    record {
      bands = layout.bands ++ record { bus = bus; start = layout.past; end = band_end board items layout.past lines } ∷ [];
      lines = layout.lines ++ columns_from items (plus layout.past 14) 0 lines;
      rows = max layout.rows (length lines);
      past = plus (band_end board items layout.past lines) 34;
    }

-- all these buses, from left to right
abbrev pub with_buses : Board → List Journey → ℕ → List ℕ → Layout → Layout
with_buses board items middle [] layout = layout
with_buses board items middle (bus ∷ buses) layout =
    with_buses board items middle buses (with_bus board items bus (lines_on board middle bus) layout)

-- all buses of a board from left to right, from a place on
unfoldable pub layout_of : Board → List Journey → ℕ → Layout
layout_of board items start =
    with_buses board items (middle_of board) (in_order board (middle_of board)) (record { bands = []; lines = []; rows = 0; past = start })

-- how wide the picture is: up to the end of the last column and a little more, a multiple of 4
abbrev pub width_of : Layout → ℕ
width_of layout = plus (layout.past - 26) 3 / 4 * 4

-- Where a line stands.

-- the same face at the same side, the same master, or the same target
abbrev pub same_line : ColumnLine → ColumnLine → Bool
same_line (Left a) (Left b) = same_lane a b
same_line (Left a) (Master b) = false
same_line (Left a) (Target b) = false
same_line (Left a) (Right b) = false
same_line (Master a) (Left b) = false
same_line (Master a) (Master b) = a == b
same_line (Master a) (Target b) = false
same_line (Master a) (Right b) = false
same_line (Target a) (Left b) = false
same_line (Target a) (Master b) = false
same_line (Target a) (Target b) = a == b
same_line (Target a) (Right b) = false
same_line (Right a) (Left b) = false
same_line (Right a) (Master b) = false
same_line (Right a) (Target b) = false
same_line (Right a) (Right b) = same_lane a b

-- the place of a column
abbrev pub place_of_column : Column → ℕ
place_of_column column = column.place

-- the place of a line, where it is there
abbrev pub found_place : ColumnLine → Layout → Option ℕ
found_place line layout = option_map place_of_column (find (λ column. same_line column.line line) layout.lines)

-- the number, 0 where there is none
abbrev pub or_zero : Option ℕ → ℕ
or_zero None = 0
or_zero (Some n) = n

-- a line that is not there would stand at 0
abbrev pub place_of : ColumnLine → Layout → ℕ
place_of line layout = or_zero (found_place line layout)

-- the face where a lane ends is at the left of its bus
abbrev pub is_left : BridgeLane → Layout → Bool
is_left lane layout = is_some (found_place (Left lane) layout)

-- where a face stands, at whichever side of its bus
abbrev pub face_place : BridgeLane → Layout → ℕ
face_place lane layout = if is_left lane layout then place_of (Left lane) layout else place_of (Right lane) layout

-- the bar of a track beside it: outwards from its bus
abbrev pub bar_place : BridgeLane → ℕ → Layout → ℕ
bar_place lane track layout =
    if is_left lane layout then face_place lane layout - times 6 (plus track 1) else plus (face_place lane layout) (times 6 (plus track 1))
