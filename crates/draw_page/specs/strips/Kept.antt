-- What the program keeps of the strips: the text of each, to which elements are added one by one.
use Rattle.std.specs.Prelude.{◌≡◌, ◌<◌, ℕ, Bool, ◌&&◌, nat_le, nat_lt, List, [], ◌++◌, length, slice_index_or, if◌then◌else◌}
use Rattle.std.specs.List.{flat_map}
use Rattle.draw_shapes.specs.declared.frame.Frame.{Frame}
use Rattle.draw_shapes.specs.Shapes.{Placed}
use Rattle.draw_page.specs.strips.Strips.{strips_count, passing, row_text}

-- the text of strip k; nothing where there is none
abbrev pub text_at : List (List ℕ) → ℕ → List ℕ
text_at texts k = slice_index_or texts k []

-- all these elements more: in each strip those that pass it, behind what it had
pub record DrawsAll (frame : Frame) (elements : List Placed) (old new : List (List ℕ)) : Type 0 where
  pub all : length new ≡ length old
  pub each : (k : ℕ) → k < length old → text_at new k ≡ text_at old k ++ flat_map (passing frame k) elements

-- an element more
pub record Draws (frame : Frame) (element : Placed) (old new : List (List ℕ)) : Type 0 where
  pub all : length new ≡ length old
  pub each : (k : ℕ) → k < length old → text_at new k ≡ text_at old k ++ passing frame k element

-- the strips from one number to another have this behind what they had
abbrev pub is_between : ℕ → ℕ → ℕ → Bool
is_between begin end k = nat_le begin k && nat_lt k end

-- the same of the texts, of which there are as many as before
pub record AddsTo (begin end : ℕ) (text : List ℕ) (old new : List (List ℕ)) : Type 0 where
  pub all : length new ≡ length old
  pub each : (k : ℕ) → k < length old → text_at new k ≡ (if is_between begin end k then text_at old k ++ text else text_at old k)

-- behind a text stand the strips: each begins with some text of its own, behind which the elements are drawn
pub record PrintsStrips (frame : Frame) (elements : List Placed) (old new : List ℕ) : Type 0 where
  pub sheets : List (List ℕ)
  pub texts : List (List ℕ)
  pub count : length sheets ≡ strips_count frame.first frame.last
  pub drawn : DrawsAll frame elements sheets texts
  pub written : new ≡ old ++ flat_map row_text texts
