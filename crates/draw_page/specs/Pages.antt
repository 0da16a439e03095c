-- The page of a picture: some text, and behind it the strips, each with the items that have a row in it.
use Rattle.std.specs.Prelude.{◌≡◌, ℕ, ◌+◌, ◌-◌, ◌/◌, Bool, ◌&&◌, List, ◌++◌, length, map, codes, Some, slice_get}
use Rattle.std.specs.List.{flat_map, filter}
use Rattle.board_model.specs.declared.board.Board.{Board}
use Rattle.history_model.specs.declared.event.Event.{Event}
use Rattle.draw_items.specs.declared.journey.Journey.{Journey}
use Rattle.draw_journeys.specs.Journeys.{ShowsRun}
use Rattle.draw_told.specs.declared.close.Close.{Close}
use Rattle.draw_told.specs.Closes.{allowed_in}
use Rattle.draw_elements.specs.Titles.{title_text, last_row_of}
use Rattle.draw_shapes.specs.Shapes.{Shape, shape_text, is_titled, titled, has_title}
use Rattle.draw_page.specs.strips.Strips.{is_in_strip, row_text}

-- a strip: the texts of its shapes, one behind the other
abbrev pub strip_text : List Shape → List ℕ
strip_text shapes = row_text (flat_map shape_text shapes)

-- an item that has a title has a row in strip k: it is drawn from the row where it was sent to its last row. The rows from one
-- number to another are drawn, and one is behind the last event
abbrev pub has_row : ℕ → ℕ → ℕ → ℕ → Journey → Bool
has_row end first last k item = is_in_strip first last k item.sent (last_row_of end item) && has_title item.carried

-- the text of a page of these items: in each strip, of 32 rows, just those that have a row there are drawn, each with its title,
-- in their order
pub record IsPage (board : Board) (journeys : List Journey) (end first last : ℕ) (text : List ℕ) : Type 0 where
  pub top : List ℕ
  pub strips : List (List Shape)
  pub count : length strips ≡ (last + 32 - first) / 32
  pub written : text ≡ top ++ (flat_map strip_text strips ++ codes "</table>\n")
  pub items : (k : ℕ) (strip : List Shape) → slice_get strips k ≡ Some strip
      → map titled (filter is_titled strip) ≡ map (title_text board) (filter (has_row end first last k) journeys)

-- the page of these events, which end so, from one number to another: of items that show, at each moment of the run, what each
-- lane has in the machine
abbrev pub ShowsPage : Board → List Event → Close → ℕ → ℕ → List ℕ → Type 0
ShowsPage board events close first last text =
    (journeys : List Journey) × (ShowsRun board (allowed_in close events) journeys × IsPage board journeys (length events + 1) first last text)
