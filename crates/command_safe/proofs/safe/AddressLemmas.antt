-- An address of any size in its digits.
use Rattle.std.proofs.Common.{◌≡◌, ℕ, zero, suc, ◌+◌, ◌*◌, ◌/◌, ◌%◌, ◌^◌, ◌<◌, true, false, ◌∷◌, ◌++◌, nat_lt, refl, ap, ◌∙◌, arith}
use Rattle.std.proofs.lemmas.Bool.Decides.{nat_tests}
use Rattle.std.proofs.lemmas.Nat.{mod-pow-add}
use Rattle.board_printer.specs.Numbers.{hex, word_text, address_text}

parts : (m q r : ℕ) → r < 16 → m ≡ q * 16 + r → (m / 16 ≡ q) × (m % 16 ≡ r)
parts m q r small is = (omega arith, omega arith)

-- the low so many digits are those of the remainder
hex-mod : (k n : ℕ) → hex k (n % 2 ^ (4 * k)) ≡ hex k n
hex-mod zero n = refl
hex-mod (suc k) n =
    let more : 4 * suc k ≡ 4 * k + 4 = omega arith in
    let split : n % 2 ^ (4 * suc k) ≡ (n / 16 % 2 ^ (4 * k)) * 16 + n % 16 = ap (λ (j : ℕ). n % 2 ^ j) more ∙ mod-pow-add n (4 * k) 4 in
    let digits = parts (n % 2 ^ (4 * suc k)) (n / 16 % 2 ^ (4 * k)) (n % 16) (omega arith) split in
    rw (digits.0, digits.1, hex-mod k (n / 16)) refl

word-mod : (n : ℕ) → word_text (n % 2 ^ 32) ≡ word_text n
unfolding word_text
word-mod n = hex-mod 8 n

-- below 2^32
pub short_address : (n : ℕ) → n / 2 ^ 32 ≡ 0 → word_text (n % 2 ^ 32) ≡ address_text n
unfolding address_text
short_address n short =
    let small : nat_lt n (2 ^ 32) ≡ true = grind (arith, nat_tests) in
    rw small (word-mod n)

-- from there on
pub long_address : (n : ℕ) → 0 < n / 2 ^ 32 → word_text ((n / 2 ^ 32) % 2 ^ 32) ++ 58 ∷ word_text (n % 2 ^ 32) ≡ address_text n
unfolding address_text
long_address n long =
    let great : nat_lt n (2 ^ 32) ≡ false = grind (arith, nat_tests) in
    rw great (rw (word-mod (n / 2 ^ 32)) refl)
