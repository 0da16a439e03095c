-- Looks in order: how far a loop has come, and what it found.
use Rattle.std.proofs.Common.{◌≡◌, ℕ, zero, suc, ◌+◌, ◌<◌, Option, Some, None, refl, sym, subst, ◌⊎◌, inl, inr, ⊎_elim, arith}
use Rattle.std.specs.Option.{option_or}
use Rattle.history_model.specs.Next.{first_below, first_bus}

-- where the first of two is not there, it is the second
pub or_none : {Y : Type 0} (a b : Option Y) → a ≡ None → option_or a b ≡ b
or_none None b none = refl
or_none (Some y) b none = cc

-- where the first of two is there, it is that
pub or_some : {Y : Type 0} (a b : Option Y) (y : Y) → a ≡ Some y → option_or a b ≡ Some y
or_some None b y some = cc
or_some (Some x) b y some = some

-- nothing below a number and nothing at it is nothing below the next
pub first_more : {Y : Type 0} (gives : ℕ → Option Y) (n : ℕ) → first_below n gives ≡ None → gives n ≡ None → first_below (n + 1) gives ≡ None
first_more {Y} gives n none here =
    let more : suc n ≡ n + 1 = omega arith in
    let at : first_below (suc n) gives ≡ None = let e = or_none (first_below n gives) (gives n) none in cc in
    subst (λ (m : ℕ). first_below m gives ≡ None) more at

-- a number below the next one is below it or it
pub below_or : (k n : ℕ) → k < suc n → (k < n) ⊎ (k ≡ n)
below_or zero zero below = inr refl
below_or zero (suc n) below = inl (omega arith)
below_or (suc k) zero below = absurd (omega arith)
below_or (suc k) (suc n) below = ⊎_elim {C = (suc k < suc n) ⊎ (suc k ≡ suc n)} (λ less. inl (omega arith)) (λ same. inr (omega arith)) (below_or k n (omega arith))

-- what is found at a number below which there is nothing is the first
pub below_found : {Y : Type 0} (gives : ℕ → Option Y) (k : ℕ) (y : Y) → first_below k gives ≡ None → gives k ≡ Some y → (n : ℕ) → k < n → first_below n gives ≡ Some y
below_found gives k y none here zero below = absurd (omega arith)
below_found {Y} gives k y none here (suc n) below =
    ⊎_elim {C = first_below (suc n) gives ≡ Some y}
    (λ (less : k < n). or_some (first_below n gives) (gives n) y (below_found gives k y none here n less))
    (λ (same : k ≡ n).
    let e : option_or (first_below k gives) (gives k) ≡ gives k = or_none (first_below k gives) (gives k) none in
    let at : option_or (first_below k gives) (gives k) ≡ Some y = cc in
    subst (λ (m : ℕ). option_or (first_below m gives) (gives m) ≡ Some y) same at)
    (below_or k n below)

-- the same of the buses
pub bus_found : {Y : Type 0} (gives : ℕ → Option Y) (k : ℕ) (y : Y) → first_below k gives ≡ None → gives k ≡ Some y → k < 256 → Some y ≡ first_bus gives
unfolding first_bus
bus_found gives k y none here below = sym (below_found gives k y none here 256 below)

-- nothing on any bus
pub bus_none : {Y : Type 0} (gives : ℕ → Option Y) (k : ℕ) → first_below k gives ≡ None → k ≡ 256 → None ≡ first_bus gives
unfolding first_bus
bus_none gives k none all = sym (subst (λ (m : ℕ). first_below m gives ≡ None) all none)
