-- Which strips an element passes, by division and by the rows of each strip.
use Rattle.std.proofs.Common.{◌≡◌, ◌⊎◌, inl, inr, ℕ, ◌+◌, ◌-◌, ◌*◌, ◌/◌, ◌<◌, ◌≤◌, Bool, true, false, ◌&&◌, nat_le, nat_lt, min, max, refl, sym, ap, ◌∙◌, arith}
use Rattle.std.proofs.lemmas.Bool.Decides.{nat_tests}
use Rattle.draw_page.specs.strips.Kept.{is_between}

le_true : (a b : ℕ) → nat_le a b ≡ true → a ≤ b
le_true a b e = grind (arith, nat_tests)

le_false : (a b : ℕ) → nat_le a b ≡ false → b < a
le_false a b e = grind (arith, nat_tests)

is_le : (a b : ℕ) → a ≤ b → nat_le a b ≡ true
is_le a b h = grind (arith, nat_tests)

pub is_not_le : (a b : ℕ) → b < a → nat_le a b ≡ false
is_not_le a b h = grind (arith, nat_tests)

lt_true : (a b : ℕ) → nat_lt a b ≡ true → a < b
lt_true a b e = grind (arith, nat_tests)

lt_false : (a b : ℕ) → nat_lt a b ≡ false → b ≤ a
lt_false a b e = grind (arith, nat_tests)

is_lt : (a b : ℕ) → a < b → nat_lt a b ≡ true
is_lt a b h = grind (arith, nat_tests)

is_not_lt : (a b : ℕ) → b ≤ a → nat_lt a b ≡ false
is_not_lt a b h = grind (arith, nat_tests)

-- strips from one to another, where there are fewer
lt_same : (k s end : ℕ) → (k < s → k < end) → (k < end → k < s) → nat_lt k s ≡ nat_lt k end
lt_same k s end there back =
    (elim (nat_lt k s) as (λ v. nat_lt k s ≡ v → v ≡ nat_lt k end) [
      | true ↦ λ e. sym (is_lt k end (there (lt_true k s e)))
      | false ↦ λ e. sym (is_not_lt k end (no_more e))
    ]) refl
  where
    no_more : nat_lt k s ≡ false → end ≤ k
    no_more e =
        (elim (nat_lt k end) as (λ v. nat_lt k end ≡ v → end ≤ k) [
          | true ↦ λ f. let h : k < s = back (lt_true k end f) in let g : s ≤ k = lt_false k s e in omega arith
          | false ↦ λ f. lt_false k end f
        ]) refl

pub between_same : (begin end s count k : ℕ) → k < count → min end count ≤ s → begin ≤ s → s ≤ max begin (min end count) → is_between begin s k ≡ is_between begin end k
between_same begin end s count k within past from far =
    (elim (nat_le begin k) as (λ v. nat_le begin k ≡ v → (v && nat_lt k s) ≡ (v && nat_lt k end)) [
      | true ↦ λ e. let h : begin ≤ k = le_true begin k e in lt_same k s end (λ p. omega arith) (λ p. omega arith)
      | false ↦ λ e. refl
    ]) refl

-- the first strip that it passes, and the last
first_passed : (first last from k : ℕ) → from ≤ last → nat_le ((from - first) / 32) k ≡ nat_le from (min (first + 32 * k + 31) last)
first_passed first last from k seen =
    (elim (nat_le from (min (first + 32 * k + 31) last)) as (λ v. nat_le from (min (first + 32 * k + 31) last) ≡ v → nat_le ((from - first) / 32) k ≡ v) [
      | true ↦ λ e. let h : from ≤ min (first + 32 * k + 31) last = le_true from _ e in is_le ((from - first) / 32) k (omega arith)
      | false ↦ λ e. let h : min (first + 32 * k + 31) last < from = le_false from _ e in is_not_le ((from - first) / 32) k (omega arith)
    ]) refl

last_passed : (first to k : ℕ) → first ≤ to → nat_lt k ((to - first) / 32 + 1) ≡ nat_le (first + 32 * k) to
last_passed first to k seen =
    (elim (nat_le (first + 32 * k) to) as (λ v. nat_le (first + 32 * k) to ≡ v → nat_lt k ((to - first) / 32 + 1) ≡ v) [
      | true ↦ λ e. let h : first + 32 * k ≤ to = le_true _ to e in is_lt k ((to - first) / 32 + 1) (omega arith)
      | false ↦ λ e. let h : to < first + 32 * k = le_false _ to e in is_not_lt k ((to - first) / 32 + 1) (omega arith)
    ]) refl

pub passed : (first last from to k : ℕ) → from ≤ last → first ≤ to → is_between ((from - first) / 32) ((to - first) / 32 + 1) k ≡ (nat_le from (min (first + 32 * k + 31) last) && nat_le (first + 32 * k) to)
passed first last from to k above below =
    ap (λ (b : Bool). b && nat_lt k ((to - first) / 32 + 1)) (first_passed first last from k above)
    ∙ ap (λ (b : Bool). nat_le from (min (first + 32 * k + 31) last) && b) (last_passed first to k below)

and_false : (b : Bool) → (b && false) ≡ false
and_false true = refl
and_false false = refl

-- what is not seen passes none
pub not_passed : (first last from to k : ℕ) → (last < from) ⊎ (to < first) → (nat_le from (min (first + 32 * k + 31) last) && nat_le (first + 32 * k) to) ≡ false
not_passed first last from to k (inl above) = ap (λ (b : Bool). b && nat_le (first + 32 * k) to) (is_not_le from (min (first + 32 * k + 31) last) (omega arith))
not_passed first last from to k (inr below) =
    ap (λ (b : Bool). nat_le from (min (first + 32 * k + 31) last) && b) (is_not_le (first + 32 * k) to (omega arith)) ∙ and_false (nat_le from (min (first + 32 * k + 31) last))
