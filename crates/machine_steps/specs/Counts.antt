-- A count for each operation of a program.
use Rattle.std.specs.Prelude.{ℕ, List, Option, Some, None, map}
use Rattle.board_model.specs.declared.op.Op.{Op}

-- the number, where there is one, or else 0
abbrev pub or_zero : Option ℕ → ℕ
or_zero None = 0
or_zero (Some n) = n

-- none of any of these operations
abbrev pub none_of_any : List Op → List ℕ
none_of_any ops = map (λ (op : Op). 0) ops
