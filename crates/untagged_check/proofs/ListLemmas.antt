-- The list of stale reads.
use Rattle.std.proofs.Common.{◌≡◌, List, [], ◌∷◌, refl}
use Rattle.untagged_check.specs.declared.verdict.Stale.{Stale}
use Rattle.untagged_check.specs.Judged.{reads_of}

-- nothing is listed exactly where nothing is there
pub reads_none : (stale : List Stale) → (reads_of stale ≡ []) → stale ≡ []
reads_none [] is = refl
reads_none (x ∷ xs) is = cc
