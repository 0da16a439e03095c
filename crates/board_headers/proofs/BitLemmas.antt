-- A flag of one bit is contained in a set where that bit is set.
use Rattle.std.proofs.Common.{◌≡◌, ◌==◌, ℕ, ◌*◌, ◌/◌, ◌%◌, ◌^◌, ◌<◌, bit_and, arith}
use Rattle.std.proofs.lemmas.Nat.{pow_pos}
use Rattle.std.proofs.lemmas.Nat.Bits.{and_pow}
use Rattle.std.proofs.lemmas.Bool.Decides.{nat_tests}
use Rattle.board_headers.specs.Windows.{has_bit}

scaled_bit : (b p : ℕ) → b < 2 → 0 < p → (b * p == p) ≡ (b == 1)
scaled_bit b p b_lt p_gt = grind (arith, nat_tests)

contained_bit : (n k : ℕ) → (bit_and n (2 ^ k) == 2 ^ k) ≡ has_bit k n
contained_bit n k = rw (and_pow n k) (scaled_bit (n / 2 ^ k % 2) (2 ^ k) (omega arith) (pow_pos k))

pub contained_0 : (n : ℕ) → (bit_and n 0x01 == 0x01) ≡ has_bit 0 n
contained_0 n = contained_bit n 0

pub contained_1 : (n : ℕ) → (bit_and n 0x02 == 0x02) ≡ has_bit 1 n
contained_1 n = contained_bit n 1

pub contained_2 : (n : ℕ) → (bit_and n 0x04 == 0x04) ≡ has_bit 2 n
contained_2 n = contained_bit n 2

pub contained_3 : (n : ℕ) → (bit_and n 0x08 == 0x08) ≡ has_bit 3 n
contained_3 n = contained_bit n 3

pub contained_5 : (n : ℕ) → (bit_and n 0x20 == 0x20) ≡ has_bit 5 n
contained_5 n = contained_bit n 5

pub contained_6 : (n : ℕ) → (bit_and n 0x40 == 0x40) ≡ has_bit 6 n
contained_6 n = contained_bit n 6

pub ruleset contained_bits = (contained_0, contained_1, contained_2, contained_3, contained_5, contained_6)
