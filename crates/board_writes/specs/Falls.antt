-- Numbers of a table that fall, all of a poll at once.
use Rattle.std.specs.Prelude.{◌≡◌, ℕ, Bool, true, false, ◌<◌, ◌≤◌, List, [], length, get_or, sum_by, ◌==◌, ◌&&◌}
use Rattle.pci_command.specs.declared.op_id.OpId.{OpId}
use Rattle.board_writes.specs.Rows.{number, lesser, ProgramRows, rows_of, last_in}

-- the numbers of a row together
abbrev pub sum_of : List ℕ → ℕ
sum_of numbers = sum_by (λ n. n) numbers

-- of a program
abbrev pub sum_in : ProgramRows → ℕ
sum_in program = sum_by sum_of program.rows

-- of all programs
abbrev pub sum_all : List ProgramRows → ℕ
sum_all programs = sum_by sum_in programs

-- each number is at most that of these, and it is told whether one fell
pub record Falls (most old new : List ℕ) (fell : Bool) : Type 0 where
  pub each : (other : ℕ) → other < length most → number new other ≡ lesser (number old other) (number most other)
  pub rest : (other : ℕ) → length most ≤ other → number new other ≡ number old other
  pub some : fell ≡ true → sum_of new < sum_of old
  pub none : fell ≡ false → new ≡ old

-- the row at a place of a program
abbrev pub row_in : ProgramRows → ℕ → List ℕ
row_in program index = get_or program.rows index []

-- in one row of a program, and all else of it is the same
pub record FallsIn (index : ℕ) (most : List ℕ) (old new : ProgramRows) (fell : Bool) : Type 0 where
  pub here : Falls most (row_in old index) (row_in new index) fell
  pub elsewhere : (place : ℕ) → (place == index) ≡ false → row_in new place ≡ row_in old place
  pub lasts : (place : ℕ) → last_in new place ≡ last_in old place
  pub some : fell ≡ true → sum_in new < sum_in old
  pub none : fell ≡ false → new ≡ old

-- in the row of one operation, and all else is the same
pub record LowersTo (o : OpId) (most : List ℕ) (old new : List ProgramRows) (fell : Bool) : Type 0 where
  pub here : Falls most (row_in (rows_of old o.master) o.index) (row_in (rows_of new o.master) o.index) fell
  pub elsewhere : (master index : ℕ) → (master == o.master && index == o.index) ≡ false
      → row_in (rows_of new master) index ≡ row_in (rows_of old master) index
  pub lasts : (master index : ℕ) → last_in (rows_of new master) index ≡ last_in (rows_of old master) index
  pub some : fell ≡ true → sum_all new < sum_all old
  pub none : fell ≡ false → new ≡ old
