-- Whether an address lies below the end of a range, told by its distance from the base.
use Rattle.std.proofs.Common.{◌≡◌, ℕ, ◌+◌, ◌-◌, ◌≤◌, nat_lt, inl, inr, sym, ◌∙◌, arith}
use Rattle.std.proofs.lemmas.Bool.{cases_lt, lt-ltb, le-ltb}

pub below_end : (base size address : ℕ) → base ≤ address → nat_lt (address - base) size ≡ nat_lt address (base + size)
below_end base size address from =
    elim (cases_lt address (base + size)) as (λ _. nat_lt (address - base) size ≡ nat_lt address (base + size)) [
      | inl inside ↦ lt-ltb (address - base) size (omega (arith, from, inside)) ∙ sym (lt-ltb address (base + size) inside)
      | inr past ↦ le-ltb (address - base) size (omega (arith, from, past)) ∙ sym (le-ltb address (base + size) past)
    ]
