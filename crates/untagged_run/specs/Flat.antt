-- What may be there of what may be there.
use Rattle.std.specs.Prelude.{Option, Some, None}

-- what is there, of what may be there
abbrev pub flat : {X : Type 0} → Option (Option X) → Option X
flat None = None
flat (Some x) = x
