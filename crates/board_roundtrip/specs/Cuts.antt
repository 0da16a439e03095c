-- A text that is cut at a place: the lines before it and behind it.
use Rattle.std.specs.Prelude.{◌≡◌, ℕ, ◌≤◌, ◌++◌, List, length, Option, Some, None}
use Rattle.std.specs.List.{slice_range}
use Rattle.board_text.specs.Lines.{lines_of}

-- lines before the parts of those behind them
abbrev pub behind_lines : List (List ℕ) → Option (List (List ℕ) × List (List ℕ)) → Option (List (List ℕ) × List (List ℕ))
behind_lines before None = None
behind_lines before (Some parts) = Some (before ++ parts.0, parts.1)

-- the lines of this part of a text, and of a text behind it, are those of both, unless it goes to the end
abbrev pub IsWholeTo : List ℕ → ℕ → ℕ → Type 0
IsWholeTo text from at =
    at ≤ length text → (more : List ℕ) → lines_of (slice_range text from at ++ more) ≡ lines_of (slice_range text from at) ++ lines_of more
