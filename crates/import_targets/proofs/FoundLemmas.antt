-- The registers that are left, step by step.
use Rattle.std.proofs.Common.{◌≡◌, ℕ, zero, suc, ◌<◌, ◌-◌, true, false, ◌++◌, [], nat_lt, refl, arith}
use Rattle.import_text.specs.declared.function.Function.{Function}
use Rattle.import_targets.specs.Registers.{found_at, behind, found_from}

pub found_none : (function : Function) (many n steps : ℕ) → steps ≡ 0 → found_from steps function many n ≡ []
found_none function many n zero e = refl
found_none function many n (suc steps) e = cc

pub found_end : (function : Function) (many n steps : ℕ) → nat_lt n many ≡ false → found_from steps function many n ≡ []
found_end function many n zero e = refl
found_end function many n (suc steps) e = rw (e) refl

pub found_step : (function : Function) (many n steps : ℕ) → 0 < steps → nat_lt n many ≡ true
    → found_from steps function many n ≡ found_at function many n ++ found_from (steps - 1) function many (behind function n)
found_step function many n zero some e = absurd (omega (arith, some))
found_step function many n (suc steps) some e = let less : suc steps - 1 ≡ steps = omega arith in rw (e, less) refl

-- what the end of the list wants
pub ruleset of_end = (found_none, found_end)
