-- The strips of a picture, of 32 rows each; the last may have fewer. A strip cuts what goes on beyond it, so that an element is
-- written once in each strip that it passes.
use Rattle.std.specs.Prelude.{ℕ, ◌+◌, ◌-◌, ◌*◌, ◌/◌, Bool, min, List, [], ◌++◌, codes, if◌then◌else◌}
use Rattle.draw_shapes.specs.declared.frame.Frame.{Frame}
use Rattle.draw_shapes.specs.Shapes.{Placed, shape_text, is_among}

-- the first row of strip k, if this is the first that is drawn
abbrev pub low_row : ℕ → ℕ → ℕ
low_row first k = first + 32 * k

-- and its last row, if the second is the last that is drawn
abbrev pub high_row : ℕ → ℕ → ℕ → ℕ
high_row first last k = min (first + 32 * k + 31) last

-- how many strips there are, from one row to another
unfoldable pub strips_count : ℕ → ℕ → ℕ
strips_count first last = (last + 32 - first) / 32

-- what goes from one row to another has one of strip k
abbrev pub is_in_strip : ℕ → ℕ → ℕ → ℕ → ℕ → Bool
is_in_strip first last k from to = is_among (low_row first k) (high_row first last k) from to

-- an element in strip k: its text, where it has a row of the strip
unfoldable pub passing : Frame → ℕ → Placed → List ℕ
passing frame k element = if is_in_strip frame.first frame.last k element.from element.to then shape_text element.shape else []

-- a strip around what stands in it
abbrev pub row_text : List ℕ → List ℕ
row_text drawn = codes "<tr><td>" ++ (drawn ++ codes "</svg>\n")
