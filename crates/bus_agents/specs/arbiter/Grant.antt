-- Arbitration: PCI Local Bus Specification 2.2, section 3.4 (from memory). The algorithm is the system's own;
-- this one is a rotating priority over all request lines, which the specification calls fair.
use Rattle.std.specs.Prelude.{◌≡◌, ℕ, ◌+◌, ◌-◌, ◌%◌, ◌<◌, ◌≤◌, ◌==◌, List, [], ◌∷◌, All, count_by}
use Rattle.std.specs.Int.{bit_at}
use Rattle.board_model.specs.Limits.{request_lines}

-- REQ# of the line is asserted: its bit is set
abbrev pub Asks : ℕ → ℕ → Type 0
Asks lines line = bit_at lines line ≡ 1

-- the line behind this one, in the circle of all
abbrev pub line_behind : ℕ → ℕ
line_behind line = (line + 1) % request_lines

-- how many steps there are from one line on to another, in the circle of all
abbrev pub steps_to : ℕ → ℕ → ℕ
steps_to from line = (line + request_lines - from) % request_lines

-- GNT# goes to this line: it asks, and it is the first that does where the search begins with `from`
pub record IsGranted (from lines line : ℕ) : Type 0 where
  pub is_line : line < request_lines
  pub asks : Asks lines line
  pub first : (other : ℕ) → other < request_lines → Asks lines other → steps_to from line ≤ steps_to from other

-- these lines are granted one after another, while the same lines ask each time: each search begins
-- with the line behind the one that was granted last, and the first one with `from`
abbrev pub Grants : ℕ → ℕ → List ℕ → Type 0
Grants from lines [] = Unit {0}
Grants from lines (line ∷ later) = IsGranted from lines line × Grants (line_behind line) lines later

-- every line that asks is granted once, and no other line is
pub record EachOnce (lines : ℕ) (granted : List ℕ) : Type 0 where
  pub once : (line : ℕ) → Asks lines line → count_by (λ other. other == line) granted ≡ 1
  pub others : All (Asks lines) granted
