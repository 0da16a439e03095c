-- What the rows of a table of clocks say of operations, and of writes that are kept.
use Rattle.std.specs.Prelude.{◌≡◌, ℕ, ◌≤◌, Bool, true, List, [], ◌∷◌, map, not, ◌+◌, ◌==◌, ◌&&◌, ◌||◌, nat_lt, if◌then◌else◌}
use Rattle.std.specs.List.{list_any}
use Rattle.pci_command.specs.declared.op_id.OpId.{OpId}
use Rattle.pci_command.specs.Same.{same_op}
use Rattle.safe_model.specs.Clocks.{greater}
use Rattle.safe_model.specs.largest.Tests.{least}
use Rattle.board_writes.specs.declared.writers.write.WordWrite.{WordWrite}
use Rattle.board_writes.specs.Rows.{ProgramRows, number, known_in, raised_at, RisesIn}

-- how many operations of a master an operation comes after
abbrev pub clock_in : List ProgramRows → OpId → ℕ → ℕ
clock_in rows o other = raised_at (known_in rows o.master o.index other) o other

-- the same with the operation itself, of this known behind the last poll before it
abbrev pub past_at : ℕ → OpId → ℕ → ℕ
past_at known o other = if other == o.master then greater known (o.index + 1) else known

-- as the rows have it
abbrev pub clock_past : List ProgramRows → OpId → ℕ → ℕ
clock_past rows o other = past_at (known_in rows o.master o.index other) o other

-- an operation comes before another
abbrev pub before_in : List ProgramRows → OpId → OpId → Bool
before_in rows p q = nat_lt p.index (clock_in rows q p.master)

-- a write lands no more once an operation does
abbrev pub no_more_in : List ProgramRows → WordWrite → OpId → Bool
no_more_in rows a b =
    (a.posted && before_in rows a.op b)
    || ((a.op.master == b.master && nat_lt a.op.index b.index) || nat_lt (a.op.index + 1) (clock_in rows b a.op.master))

-- by this other write of a word, which comes before the poll, a raiser is left out
abbrev pub leaves_out : List ProgramRows → OpId → WordWrite → WordWrite → Bool
leaves_out rows p f x = before_in rows x.op p && (not (same_op x.op f.op) && no_more_in rows f x.op)

-- by one of these
abbrev pub left_out_in : List ProgramRows → OpId → List WordWrite → WordWrite → Bool
left_out_in rows p writes f = list_any (leaves_out rows p f) writes

-- one of these comes before the poll
abbrev pub any_before : List ProgramRows → OpId → List WordWrite → Bool
any_before rows p writes = list_any (λ x. before_in rows x.op p) writes

-- some run may come to a write that is not left out
abbrev pub is_reached_in : List ProgramRows → OpId → List WordWrite → WordWrite → Bool
is_reached_in rows p writes f = not (left_out_in rows p writes f) && not (before_in rows f.op f.op)

-- what all of these know of one master's operations, and at most this
abbrev pub known_to : List ProgramRows → List WordWrite → ℕ → ℕ → ℕ
known_to rows raisers most other = least most (map (λ f. clock_past rows f.op other) raisers)

-- of the first of these writes, if there is one, these numbers are known behind the last poll before it
abbrev pub FirstKnows : List ProgramRows → List WordWrite → List ℕ → Type 0
FirstKnows rows [] numbers = Unit {0}
FirstKnows rows (w ∷ ws) numbers = (other : ℕ) → number numbers other ≡ known_in rows w.op.master w.op.index other

-- what may be known of it behind the poll at most
abbrev pub most_in : List ProgramRows → OpId → List WordWrite → ℕ → ℕ → ℕ
most_in rows p raisers most other = greater (clock_in rows p other) (known_to rows raisers most other)

-- these writes know together what those do
abbrev pub KnowAlike : List ProgramRows → List WordWrite → List WordWrite → Type 0
KnowAlike rows these those = (most other : ℕ) → known_to rows these most other ≡ known_to rows those most other

-- of these raisers a poll is told what it is of those
abbrev pub TellAlike : List ProgramRows → OpId → List WordWrite → List WordWrite → Type 0
TellAlike rows p these those = (most other : ℕ) → most_in rows p these most other ≡ most_in rows p those most other

-- they tell the poll of nothing that is not known before it
abbrev pub TellsNothing : List ProgramRows → OpId → List WordWrite → Type 0
TellsNothing rows p these = (most other : ℕ) → known_to rows these most other ≤ clock_in rows p other

-- a write is an earlier one of the same master than another
abbrev pub is_behind : WordWrite → WordWrite → Bool
is_behind g f = g.op.master == f.op.master && nat_lt g.op.index f.op.index

-- who comes after an operation comes after all that it does
abbrev pub ClosedIn : List ProgramRows → Type 0
ClosedIn rows = (x p : OpId) → before_in rows x p ≡ true → (other : ℕ) → clock_in rows x other ≤ clock_in rows p other

-- so it is, and what is known rises along programs
pub record IsOrdered (rows : List ProgramRows) : Type 0 where
  pub rises : RisesIn rows
  pub closed : ClosedIn rows
