-- Comments behind the first line of the board of a trace text, which is the second line of the text.
use Rattle.std.specs.Prelude.{◌≡◌, ◌≤◌, ℕ, Bool, true, false, List, [], ◌∷◌, ◌++◌, length, None}
use Rattle.std.specs.List.{AllByRecursion, slice_range}
use Rattle.board_text.specs.Lines.{line_fault, lines_of}
use Rattle.board_text.specs.Tokens.{is_comment}
use Rattle.board_roundtrip.specs.Cuts.{IsWholeTo}

-- its first byte is `#`
abbrev pub begins_comment : List ℕ → Bool
begins_comment [] = false
begins_comment (byte ∷ bytes) = is_comment byte

-- a line that is a comment from its first byte on, as a board text may have it
pub record IsCommentLine (line : List ℕ) : Type 0 where
  pub begins : begins_comment line ≡ true
  pub allowed : line_fault line ≡ None

-- a text of such lines, behind which another line begins
pub record AreComments (text : List ℕ) : Type 0 where
  pub lines : AllByRecursion IsCommentLine (lines_of text)
  pub whole : (more : List ℕ) → lines_of (text ++ more) ≡ lines_of text ++ lines_of more

-- behind the first two lines of a text the next one begins at this place
pub record IsBehindTwo (text : List ℕ) (place : ℕ) : Type 0 where
  pub within : place ≤ length text
  pub first : List ℕ
  pub second : List ℕ
  pub lines : lines_of (slice_range text 0 place) ≡ first ∷ second ∷ []
  pub whole : IsWholeTo text 0 place

-- so far, up to this place of a text, its lines are such
pub record CommentsTo (text : List ℕ) (at : ℕ) : Type 0 where
  pub within : at ≤ length text
  pub lines : AllByRecursion IsCommentLine (lines_of (slice_range text 0 at))
  pub whole : IsWholeTo text 0 at
