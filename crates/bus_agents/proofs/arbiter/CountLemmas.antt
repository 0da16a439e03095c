-- How many lines ask, counted round the circle.
use Rattle.std.proofs.Common.{◌≡◌, ℕ, zero, suc, ◌+◌, ◌-◌, ◌/◌, ◌%◌, ◌^◌, ◌<◌, ◌≤◌, refl, ap, sym, ◌∙◌, count_ones, arith}
use Rattle.std.proofs.Math.Nat.{div-div-eq-div-mul, div-eq_of_lt, pow-suc}
use lib.Count.{ones, ones_step}
use Rattle.std.specs.Int.{bit_at}
use Rattle.board_model.specs.Limits.{request_lines}

-- how many of the `steps` lines from `from` on ask
unfoldable pub asking : ℕ → ℕ → ℕ → ℕ
asking lines from zero = 0
asking lines from (suc steps) = asking lines from steps + bit_at lines (from + steps)

-- the same, in the circle of 32
unfoldable pub asking_round : ℕ → ℕ → ℕ → ℕ
asking_round lines from zero = 0
asking_round lines from (suc steps) = asking_round lines from steps + bit_at lines ((from + steps) % request_lines)

pub asking_round-zero : (lines from : ℕ) → asking_round lines from 0 ≡ 0
unfolding asking_round
asking_round-zero lines from = refl

pub asking_round-suc : (lines from steps : ℕ) → asking_round lines from (suc steps) ≡ asking_round lines from steps + bit_at lines ((from + steps) % request_lines)
unfolding asking_round
asking_round-suc lines from steps = refl

count_ones-digits : (lines k : ℕ) → count_ones lines ≡ asking lines 0 k + count_ones (lines / 2 ^ k)
unfolding asking
count_ones-digits lines zero =
    let same : count_ones (lines / 2 ^ 0) ≡ count_ones lines = ap count_ones (omega arith) in
    omega arith
count_ones-digits lines (suc k) =
    let halved : lines / 2 ^ k / 2 ≡ lines / 2 ^ suc k = div-div-eq-div-mul lines (2 ^ k) 2 ∙ ap (λ n. lines / n) (sym (pow-suc 2 k)) in
    let there : bit_at lines (0 + k) ≡ bit_at lines k = ap (bit_at lines) (omega arith) in
    omega (arith, count_ones-digits lines k, ones_step (lines / 2 ^ k), ap count_ones halved, there)

asking-join : (lines from steps : ℕ) → asking lines 0 (from + steps) ≡ asking lines 0 from + asking lines from steps
unfolding asking
asking-join lines from zero =
    let same : asking lines 0 (from + 0) ≡ asking lines 0 from = ap (asking lines 0) (omega arith) in
    omega arith
asking-join lines from (suc steps) =
    let more : from + suc steps ≡ suc (from + steps) = omega arith in
    let whole : asking lines 0 (from + suc steps) ≡ asking lines 0 (suc (from + steps)) = ap (asking lines 0) more in
    let there : bit_at lines (0 + (from + steps)) ≡ bit_at lines (from + steps) = ap (bit_at lines) (omega arith) in
    omega (arith, asking-join lines from steps, there)

-- before line 31 the circle is a line
asking_round-low : (lines from steps : ℕ) → from + steps ≤ request_lines → asking_round lines from steps ≡ asking lines from steps
unfolding asking asking_round
asking_round-low lines from zero h = refl
asking_round-low lines from (suc steps) h =
    let there : bit_at lines ((from + steps) % request_lines) ≡ bit_at lines (from + steps) = ap (bit_at lines) (omega arith) in
    omega (arith, asking_round-low lines from steps (omega arith), there)

-- and behind it begins with line 0
asking_round-high : (lines from steps : ℕ) → from ≤ request_lines → steps ≤ from
    → asking_round lines from ((request_lines - from) + steps) ≡ asking lines from (request_lines - from) + asking lines 0 steps
unfolding asking asking_round
asking_round-high lines from zero f h =
    let same : asking_round lines from ((request_lines - from) + 0) ≡ asking_round lines from (request_lines - from) = ap (asking_round lines from) (omega arith) in
    omega (arith, asking_round-low lines from (request_lines - from) (omega arith))
asking_round-high lines from (suc steps) f h =
    let more : (request_lines - from) + suc steps ≡ suc ((request_lines - from) + steps) = omega arith in
    let whole : asking_round lines from ((request_lines - from) + suc steps) ≡ asking_round lines from (suc ((request_lines - from) + steps)) = ap (asking_round lines from) more in
    let there : bit_at lines ((from + ((request_lines - from) + steps)) % request_lines) ≡ bit_at lines (0 + steps) = ap (bit_at lines) (omega arith) in
    omega (arith, asking_round-high lines from steps f (omega arith), there)

-- once round the circle meets all lines that ask
pub asking_round-all : (lines from : ℕ) → lines < 2 ^ 32 → from ≤ request_lines → asking_round lines from 32 ≡ count_ones lines
unfolding ones
asking_round-all lines from fits f =
    let high : asking_round lines from ((request_lines - from) + from) ≡ asking lines from (request_lines - from) + asking lines 0 from = asking_round-high lines from from f (omega arith) in
    let whole : asking_round lines from ((request_lines - from) + from) ≡ asking_round lines from 32 = ap (asking_round lines from) (omega arith) in
    let joined : asking lines 0 (from + (request_lines - from)) ≡ asking lines 0 from + asking lines from (request_lines - from) = asking-join lines from (request_lines - from) in
    let straight : asking lines 0 (from + (request_lines - from)) ≡ asking lines 0 32 = ap (asking lines 0) (omega arith) in
    let none : count_ones (lines / 2 ^ 32) ≡ 0 = ap count_ones (div-eq_of_lt fits) in
    omega (arith, count_ones-digits lines 32)
