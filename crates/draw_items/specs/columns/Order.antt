-- The order of the buses in a picture, and of the lines on each.
use Rattle.std.specs.Prelude.{ℕ, ◌+◌, ◌/◌, Bool, not, ◌&&◌, ◌==◌, true, false, nat_lt, nat_le, List, [], ◌∷◌, ◌++◌, length, map, reverse, slice_get, if◌then◌else◌}
use Rattle.std.specs.List.{filter, range_with_len}
use Rattle.std.specs.Option.{option_map_or}
use Rattle.board_model.specs.declared.agents.Master.{Master as MasterAgent}
use Rattle.board_model.specs.declared.agents.Target.{Target as TargetAgent}
use Rattle.board_model.specs.declared.bridge.Lane.{Lane as BridgeLane}
use Rattle.board_model.specs.declared.board.Board.{Board}
use Rattle.board_model.specs.Ways.{primary_of}
use Rattle.board_model.specs.Valid.{has_bridge_to}
use Rattle.draw_items.specs.declared.columns.line.ColumnLine.{ColumnLine}
use Rattle.draw_items.specs.declared.columns.line.ColumnLine.TheVariants.{Left, Master, Target, Right}

-- all buses but bus 0
unfoldable pub lower_buses : List ℕ
lower_buses = range_with_len 1 255

-- the buses below the bridges on a bus, by increasing number
abbrev pub is_child : Board → ℕ → ℕ → Bool
is_child board parent bus = has_bridge_to board bus && primary_of board bus == parent

-- the buses below the bridges on this bus
abbrev pub children_of : Board → ℕ → List ℕ
children_of board parent = filter (is_child board parent) lower_buses

-- The left wing is what hangs below the lesser half of the children of bus 0. What hangs below a child has the numbers from
-- the child up to the next one, since a bridge has the buses from its secondary to its subordinate bus behind it (PCI-to-PCI
-- Bridge Architecture 1.1, section 3.2.5, from memory). So the wings are parted by one number: that of the first child in
-- the right wing, or 256 where there is none.
abbrev pub first_of_right : List ℕ → ℕ
first_of_right children = option_map_or (λ bus. bus) (slice_get children (length children / 2)) 256

-- the number that parts the wings of a board
unfoldable pub middle_of : Board → ℕ
middle_of board = first_of_right (children_of board 0)

-- the left wing from its last bus on, bus 0, and the right wing: what goes away from bus 0 goes outwards
abbrev pub in_order : Board → ℕ → List ℕ
in_order board middle =
    reverse (filter (λ bus. nat_lt bus middle && has_bridge_to board bus) lower_buses)
    ++ (0 ∷ filter (λ bus. nat_le middle bus && has_bridge_to board bus) lower_buses)

-- A face is named by the lane that ends there: that of the bridge to a child, and that of the bus's own bridge.
abbrev pub child_face : ℕ → BridgeLane
child_face bus = record { bus = bus; up = true }

-- the face of the bus's own bridge
abbrev pub own_face : ℕ → BridgeLane
own_face bus = record { bus = bus; up = false }

-- the masters of a bus, in board order
abbrev pub masters_on : ℕ → ℕ → List MasterAgent → List ColumnLine
masters_on bus k [] = []
masters_on bus k (agent ∷ agents) = (if agent.bus == bus then Master k ∷ [] else []) ++ masters_on bus (k + 1) agents

-- and its targets
abbrev pub targets_on : ℕ → ℕ → List TargetAgent → List ColumnLine
targets_on bus k [] = []
targets_on bus k (agent ∷ agents) = (if agent.bus == bus then Target k ∷ [] else []) ++ targets_on bus (k + 1) agents

-- the own face of a bus of the right wing is at the left of it, of one of the left wing at the right
abbrev pub own_left : ℕ → ℕ → List ColumnLine
own_left middle bus = if not (bus == 0) && nat_le middle bus then Left (own_face bus) ∷ [] else []

-- the same at its right
abbrev pub own_right : ℕ → ℕ → List ColumnLine
own_right middle bus = if not (bus == 0) && nat_lt bus middle then Right (own_face bus) ∷ [] else []

-- the faces of children in the left wing are at the left, the others at the right
abbrev pub left_faces : ℕ → List ℕ → List ColumnLine
left_faces middle children = map (λ child. Left (child_face child)) (reverse (filter (λ child. nat_lt child middle) children))

-- the same of those at the right
abbrev pub right_faces : ℕ → List ℕ → List ColumnLine
right_faces middle children = map (λ child. Right (child_face child)) (filter (λ child. nat_le middle child) children)

-- the lines of a bus from left to right: left faces, masters, targets, right faces
abbrev pub lines_on : Board → ℕ → ℕ → List ColumnLine
lines_on board middle bus =
    own_left middle bus
    ++ (left_faces middle (children_of board bus)
    ++ (masters_on bus 0 board.masters
    ++ (targets_on bus 0 board.targets
    ++ (right_faces middle (children_of board bus)
    ++ own_right middle bus))))
