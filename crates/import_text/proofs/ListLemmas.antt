-- The last size of a text and the functions that repeat a slot, one step further.
use Rattle.std.proofs.Common.{◌≡◌, ℕ, Option, Some, None, refl}
use Rattle.import_text.specs.Regions.{or_else}

pub or_else_later : (a b c : Option ℕ) → or_else (or_else a b) c ≡ or_else a (or_else b c)
or_else_later None b c = refl
or_else_later (Some x) b c = refl
