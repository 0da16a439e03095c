-- What a port that a program reads from or writes to is seen as.
use Rattle.std.specs.Prelude.{ℕ, ◌<◌, List, length, Option, Result, IfOk, is_ok, if◌then◌else◌}
use Rattle.io_ports.specs.Faults.{next_count}

-- of a piece that is not empty something is taken
abbrev pub TakesSome : {E : Type 0} → Result ℕ E → List ℕ → Type 0
TakesSome result piece = IfOk result (λ n. 0 < length piece → 0 < n)

-- a reader, if there is one, with the count of its faults
pub record ReaderState (R : Type 0) : Type 0 where
  pub reader : Option R
  pub faults : ℕ

-- a writer, what it took of what was passed on to it, and the count of its faults
pub record WriterState (W : Type 0) : Type 0 where
  pub writer : W
  pub taken : List ℕ
  pub faults : ℕ

-- the count after a call: one more where it failed
abbrev pub faults_after : {A E : Type 0} → ℕ → Result A E → ℕ
faults_after faults result = if is_ok result then faults else next_count faults
