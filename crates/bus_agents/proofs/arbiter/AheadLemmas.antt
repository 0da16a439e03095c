-- The lines from one on that ask, and the first of them.
use Rattle.std.proofs.Common.{◌≡◌, ℕ, ◌-◌, ◌*◌, ◌%◌, ◌^◌, ◌<◌, ◌≤◌, min, bit_and, arith, ap, ◌∙◌, inl, inr}
use Rattle.std.proofs.lemmas.Bool.{cases_lt}
use Rattle.std.specs.Int.{bit_at}
use Rattle.std.proofs.lemmas.Nat.Bits.{bit_at_and, bit_at_mask_inside, bit_at_mask_below, bit_at-lt, bit_at-zero, ones_shl}
use Rattle.board_model.specs.Limits.{request_lines}
use Rattle.bus_agents.specs.arbiter.Grant.{Asks, IsGranted}

-- the bits of `lines & (u32::MAX << from)`
abbrev pub ahead_of : ℕ → ℕ → ℕ
ahead_of lines from = bit_and lines ((2 ^ 32 - 1) * 2 ^ from % 2 ^ 32)

bit_at-ahead : (lines from line : ℕ) → from ≤ request_lines → bit_at (ahead_of lines from) line ≡ min (bit_at lines line) (bit_at (2 ^ 32 - 2 ^ from) line)
bit_at-ahead lines from line within = rw ones_shl (bit_at_and lines (2 ^ 32 - 2 ^ from) line)

-- a line ahead asks, and is not before `from`
pub ahead_is_asked : (lines from line : ℕ) → from ≤ request_lines → Asks (ahead_of lines from) line → (from ≤ line) × Asks lines line
ahead_is_asked lines from line within asked =
    elim (cases_lt line from) [
      | inl below ↦ absurd (omega (arith, bit_at-ahead lines from line within, bit_at_mask_below from 32 line below))
      | inr reached ↦ (reached, omega (arith, bit_at-ahead lines from line within, bit_at-lt lines line, bit_at-lt (2 ^ 32 - 2 ^ from) line))
    ]

-- a line that asks from `from` on is one ahead
pub asked_is_ahead : (lines from line : ℕ) → from ≤ request_lines → from ≤ line → line < request_lines → Asks lines line → Asks (ahead_of lines from) line
asked_is_ahead lines from line within reached is_line asked =
    omega (arith, bit_at-ahead lines from line within, bit_at_mask_inside from 32 line reached is_line)

-- the lowest line ahead is granted
pub lowest_ahead : (lines from line : ℕ) → from < request_lines → line < request_lines → Asks (ahead_of lines from) line
    → ((other : ℕ) → other < line → Asks (ahead_of lines from) other → ⊥) → IsGranted from lines line
lowest_ahead lines from line within is_line asked least =
    let le : from ≤ request_lines = omega arith in
    let here : (from ≤ line) × Asks lines line = ahead_is_asked lines from line le asked in
    record {
      is_line = is_line;
      asks = here.1;
      first = λ other bound asks.
          elim (cases_lt other from) [
            | inl before ↦ omega arith
            | inr reached ↦
                elim (cases_lt other line) [
                  | inl nearer ↦ absurd (least other nearer (asked_is_ahead lines from other le reached bound asks))
                  | inr further ↦ omega arith
                ]
          ];
    }

-- where no line is ahead, the lowest of all is granted
pub lowest_of_all : (lines from line : ℕ) → from < request_lines → line < request_lines → ahead_of lines from ≡ 0 → Asks lines line
    → ((other : ℕ) → other < line → Asks lines other → ⊥) → IsGranted from lines line
lowest_of_all lines from line within is_line none asked least =
    let le : from ≤ request_lines = omega arith in
    let behind : (other : ℕ) → other < request_lines → Asks lines other → other < from = λ other bound asks.
    elim (cases_lt other from) [
      | inl before ↦ before
      | inr reached ↦ absurd (omega (arith, asked_is_ahead lines from other le reached bound asks, ap (λ n. bit_at n other) none ∙ bit_at-zero other))
    ] in
    record {
      is_line = is_line;
      asks = asked;
      first = λ other bound asks.
          elim (cases_lt other line) [
            | inl lower ↦ absurd (least other lower asks)
            | inr further ↦ let a = behind other bound asks in let b = behind line is_line asked in omega arith
          ];
    }
