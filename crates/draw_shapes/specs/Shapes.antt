-- The elements of a picture. What goes from the middle of a row to that of another is seen in just the rows from the one to the
-- other. An item has its title in it; what is drawn of anything else is some text.
use Rattle.std.specs.Prelude.{ℕ, Bool, true, false, ◌&&◌, nat_le, List, [], ◌∷◌, ◌++◌, if◌then◌else◌}
use Rattle.std.specs.List.{flat_map}
use Rattle.board_model.specs.declared.board.Board.{Board}
use Rattle.history_model.specs.declared.item.Carried.{Carried}
use Rattle.history_model.specs.declared.item.Carried.TheVariants.{Post, Ask, Done, Room, Gone}
use Rattle.draw_items.specs.declared.journey.Journey.{Journey}
use Rattle.draw_elements.specs.Titles.{title_text, last_row_of}

-- some text, or some text with one title in it: what stands before the title, it, and what stands behind it
pub data Shape : Type 0 where
  Plain : List ℕ → Shape
  Titled : List ℕ → List ℕ → List ℕ → Shape

-- its text
abbrev pub shape_text : Shape → List ℕ
shape_text (Plain text) = text
shape_text (Titled before title behind) = before ++ (title ++ behind)

-- it has a title
abbrev pub is_titled : Shape → Bool
is_titled (Plain text) = false
is_titled (Titled before title behind) = true

-- its title; nothing where it has none
abbrev pub titled : Shape → List ℕ
titled (Plain text) = []
titled (Titled before title behind) = title

-- an element: a shape, and the rows from which and to which it goes
pub record Placed : Type 0 where
  pub from : ℕ
  pub to : ℕ
  pub shape : Shape

-- the shape of an element with or without a title, by the three parts of its text
abbrev pub shape_of : Bool → List ℕ → List ℕ → List ℕ → Shape
shape_of false text title behind = Plain text
shape_of true text title behind = Titled text title behind

-- a title, and the rows from which and to which that goes which has it
pub record Caption : Type 0 where
  pub from : ℕ
  pub to : ℕ
  pub title : List ℕ

-- that of a shape in these rows, where it has one
abbrev pub caption_of : ℕ → ℕ → Shape → List Caption
caption_of from to (Plain text) = []
caption_of from to (Titled before title behind) = record { from = from; to = to; title = title } ∷ []

-- the same of an element
abbrev pub caption_in : Placed → List Caption
caption_in element = caption_of element.from element.to element.shape

-- all of these elements, in their order
unfoldable pub captions_in : List Placed → List Caption
captions_in elements = flat_map caption_in elements

-- a credit has no title
abbrev pub has_title : Carried → Bool
has_title (Post op) = true
has_title (Ask op slot) = true
has_title (Done op slot outcome) = true
has_title Room = false
has_title (Gone slot) = true

-- what goes from one row to another has one of the rows from the one to the other number
abbrev pub is_among : ℕ → ℕ → ℕ → ℕ → Bool
is_among low high from to = nat_le from high && nat_le low to

-- that of an item that goes from one row to another, if it has a title and one of the rows from the first to the last
abbrev pub captions_from : Board → ℕ → ℕ → Journey → ℕ → ℕ → List Caption
captions_from board first last item from to =
    if is_among first last from to && has_title item.carried
    then record { from = from; to = to; title = title_text board item } ∷ []
    else []

-- the same by the events of the item, if this row is behind the last event
unfoldable pub item_captions : Board → ℕ → ℕ → ℕ → Journey → List Caption
item_captions board end first last item = captions_from board first last item item.sent (last_row_of end item)
