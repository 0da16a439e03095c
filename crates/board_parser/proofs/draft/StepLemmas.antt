-- What is known where a step did not end with a fault.
use Rattle.std.proofs.Common.{◌≡◌, Bool, true, false, cond, Result, Ok, Err, refl}
use Rattle.text_faults.specs.declared.board_line.LineFault.{LineFault}
use Rattle.board_parser.specs.draft.Steps.{◌>>=◌}

pub if-ok : {A F : Type 0} (test : Bool) (fault : F) (step : Result A F) (x : A) → cond test (Err fault) step ≡ Ok x → (test ≡ false) × (step ≡ Ok x)
if-ok true fault step x h = absurd (cc)
if-ok false fault step x h = (refl, h)

pub step-ok : {A B : Type 0} (step : Result A LineFault) (next : A → Result B LineFault) (y : B) → (step >>= next) ≡ Ok y → (x : A) × ((step ≡ Ok x) × (next x ≡ Ok y))
step-ok (Ok x) next y h = (x, (refl, h))
step-ok (Err fault) next y h = absurd (cc)
