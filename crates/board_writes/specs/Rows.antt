-- A table of clocks as rows of numbers, and what each operation comes after by them.
use Rattle.std.specs.Prelude.{◌≡◌, ◌<◌, ◌≤◌, ℕ, Bool, true, false, zero, suc, List, [], map, length, get_or, slice_get, nat_lt, ◌==◌, ◌&&◌, Option, Some, if◌then◌else◌}
use Rattle.std.specs.Option.{option_map_or}
use Rattle.std.proofs.Math.ListN.{set}
use Rattle.pci_command.specs.declared.op_id.OpId.{OpId}
use Rattle.board_model.specs.declared.op.Op.{Op}
use Rattle.board_model.specs.declared.agents.Master.{Master}
use Rattle.board_model.specs.declared.board.Board.{Board}
use Rattle.board_model.specs.Requests.{op_of, tries_of}
use Rattle.safe_model.specs.Clocks.{Table, is_poll, at_place, known_by, greater, clock_of}

-- that of a master; 0 where there is none
abbrev pub number : List ℕ → ℕ → ℕ
number numbers master = get_or numbers master 0

-- what is kept of a program
pub record ProgramRows : Type 0 where
  -- by each operation: where it is a poll, of each master how many operations are known behind it; else nothing
  pub rows : List (List ℕ)
  -- by each operation: up to and with the last poll before it, how many operations there are; 0 where there is none
  pub lasts : List ℕ
  -- the same behind the last operation
  pub end : ℕ

-- of a master that is not there
abbrev pub no_rows : ProgramRows
no_rows = record { rows = []; lasts = []; end = 0 }

-- what is kept of the program of a master
abbrev pub rows_of : List ProgramRows → ℕ → ProgramRows
rows_of programs master = get_or programs master no_rows

-- the table that the rows are
abbrev pub table_of : List ProgramRows → Table
table_of programs master index other = number (get_or (rows_of programs master).rows index []) other

-- of a program's first so many operations, how many there are up to and with the last poll, as it is kept
abbrev pub last_in : ProgramRows → ℕ → ℕ
last_in program index = get_or program.lasts index program.end

-- what is known behind the last of so many operations
abbrev pub known_at : ProgramRows → ℕ → ℕ → ℕ
known_at program zero other = 0
known_at program (suc place) other = number (get_or program.rows place []) other

-- what is known behind the last poll before an operation, as it is kept
abbrev pub known_in : List ProgramRows → ℕ → ℕ → ℕ → ℕ
known_in programs master index other = known_at (rows_of programs master) (last_in (rows_of programs master) index) other

-- of a program's first so many operations, how many there are up to and with the last poll
abbrev pub last_of : Board → ℕ → ℕ → ℕ
last_of board master zero = 0
last_of board master (suc index) = if is_poll (op_of board (at_place master index)) then suc index else last_of board master index

-- what an operation comes after, of this known behind the last poll before it
abbrev pub raised_at : ℕ → OpId → ℕ → ℕ
raised_at known o other = if other == o.master then greater known o.index else known

-- the last poll before each operation is kept
pub record KeepsPolls (board : Board) (programs : List ProgramRows) : Type 0 where
  pub last_is : (master index : ℕ) → last_in (rows_of programs master) index ≡ last_of board master index

-- behind a poll no less is known than before it
pub record Rises (board : Board) (programs : List ProgramRows) : Type 0 where
  pub polls : (master index other : ℕ) → is_poll (op_of board (at_place master index)) ≡ true
      → known_by board (table_of programs) master index other ≤ table_of programs master index other

-- a poll behind which an operation is known knows all that the operation comes after
pub record Closes (board : Board) (programs : List ProgramRows) : Type 0 where
  pub polls : (master index : ℕ) → is_poll (op_of board (at_place master index)) ≡ true → (q : OpId) → q.index < table_of programs master index q.master
      → (other : ℕ) → clock_of board (table_of programs) q other ≤ table_of programs master index other

-- of two operations of a program no less is known before the later one
abbrev pub RisesIn : List ProgramRows → Type 0
RisesIn programs = (master early late other : ℕ) → early ≤ late → known_in programs master early other ≤ known_in programs master late other

-- To begin with.

-- how many operations the program of each master has
abbrev pub everything : Board → List ℕ
everything board = map (λ (master : Master). length master.ops) board.masters

-- behind each poll everything is known
pub record KnowsAll (board : Board) (programs : List ProgramRows) : Type 0 where
  pub polls : KeepsPolls board programs
  pub all : (master index other : ℕ) → table_of programs master index other
      ≡ (if is_poll (op_of board (at_place master index)) then number (everything board) other else 0)

-- Numbers that fall.

-- the lesser of two numbers
abbrev pub lesser : ℕ → ℕ → ℕ
lesser a b = if nat_lt b a then b else a

-- a row of which the number of a master is at most this
abbrev pub lowered : List ℕ → ℕ → ℕ → List ℕ
lowered numbers master most = set numbers master (lesser (number numbers master) most)

-- rows of a program with one that is lowered
abbrev pub lowered_in : ProgramRows → ℕ → ℕ → ℕ → ProgramRows
lowered_in program index other most =
    record program { rows = set program.rows index (lowered (get_or program.rows index []) other most) }

-- of one operation and one master the number is at most this, and all else is the same
pub record LowersAt (o : OpId) (other most : ℕ) (old new : List ProgramRows) : Type 0 where
  pub here : table_of new o.master o.index other ≡ lesser (table_of old o.master o.index other) most
  pub elsewhere : (master index author : ℕ) → (master == o.master && index == o.index && author == other) ≡ false
      → table_of new master index author ≡ table_of old master index author
  pub lasts : (master index : ℕ) → last_in (rows_of new master) index ≡ last_in (rows_of old master) index

-- How it is made.

-- the program of a master; none where it is not there
abbrev pub ops_at : Board → ℕ → List Op
ops_at board master = option_map_or (λ (agent : Master). agent.ops) (slice_get board.masters master) []

-- a poll that is tried at least once
abbrev pub is_tried : Op → Bool
is_tried op = if nat_lt 0 (tries_of op) then is_poll (Some op) else false

-- the same of an operation that was found
abbrev pub is_tried_at : Option Op → Bool
is_tried_at found = option_map_or is_tried found false

-- behind a poll everything is known; of another operation nothing is kept
abbrev pub row_behind : List ℕ → Bool → List ℕ
row_behind all is_poll = if is_poll then all else []

-- of the first so many of these operations, how many there are up to and with the last poll
abbrev pub last_among : List Op → ℕ → ℕ
last_among ops zero = 0
last_among ops (suc index) = if is_tried_at (slice_get ops index) then suc index else last_among ops index

-- what is kept of a program to begin with
pub record Started (all : List ℕ) (ops : List Op) (program : ProgramRows) : Type 0 where
  pub row_is : (index : ℕ) → get_or program.rows index [] ≡ row_behind all (is_tried_at (slice_get ops index))
  pub last_is : (index : ℕ) → last_in program index ≡ last_among ops index

-- and of all programs
pub record Starts (board : Board) (programs : List ProgramRows) : Type 0 where
  pub each : (master : ℕ) → Started (everything board) (ops_at board master) (rows_of programs master)
