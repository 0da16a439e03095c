-- Sums and products of places, which have 64 bits: what would be more is the greatest that there is.
use Rattle.std.specs.Prelude.{ℕ, ◌+◌, ◌-◌, ◌*◌, ◌^◌, min}

-- the sum of two places
unfoldable pub plus : ℕ → ℕ → ℕ
plus a b = min (a + b) (2 ^ 64 - 1)

-- so many times a width
unfoldable pub times : ℕ → ℕ → ℕ
times a b = min (a * b) (2 ^ 64 - 1)
