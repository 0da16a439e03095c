-- Request lines as bits, and how many events those that still ask can make.
use Rattle.std.proofs.Common.{◌≡◌, ◌≢◌, ℕ, zero, suc, ◌+◌, ◌*◌, ◌%◌, ◌^◌, ◌<◌, ◌≤◌, bit_and, w32, Bool, true, false, cond, ◌==◌, nat_lt, length, refl, sym, ap, subst, ◌∙◌, arith, inl, inr}
use Rattle.std.specs.Int.{bit_at}
use Rattle.std.proofs.lemmas.Bool.{eqb-true, eqb-false, eq-eqb}
use Rattle.std.specs.Int.{bit_not}
use Rattle.std.proofs.lemmas.Bool.Decides.{nat_tests}
use Rattle.std.proofs.lemmas.List.{length-map}
use Rattle.std.proofs.lemmas.Nat.Bits.{bit_at-lt, bit_at_and, bit_at_clear_same, bit_at_clear_other}
use Rattle.board_model.specs.Limits.{most_agents, most_ports, most_lines, most_offers, most_served}
use Rattle.bus_core.specs.Bus.{BusView, Shape, shape_of}
use Rattle.bus_segment.specs.turns.Works.{IsServed, most_at}

-- of the lines below this one, what those that ask can make
unfoldable pub left : ℕ → ℕ → ℕ
left lines zero = 0
left lines (suc n) = left lines n + cond (bit_at lines n == 1) (most_at n) 0

abbrev pub all_left : ℕ → ℕ
all_left zero = 0
all_left (suc n) = all_left n + most_at n

left_below : (lines n : ℕ) → left lines n ≤ all_left n
unfolding left
left_below lines zero = omega arith
left_below lines (suc n) =
    let P : Bool → Type 0 = λ b. left lines n + cond b (most_at n) 0 ≤ all_left n + most_at n in
    let before = left_below lines n in
    elim (bit_at lines n == 1) as P [ true ↦ omega (arith, before) | false ↦ omega (arith, before) ]

pub left_at_first : (lines : ℕ) → left lines most_lines ≤ most_served
left_at_first lines = let le = left_below lines most_lines in let full : all_left most_lines ≡ most_served = refl in omega arith

-- one line less
left_same : (old new n : ℕ) → ((i : ℕ) → i < n → bit_at new i ≡ bit_at old i) → left new n ≡ left old n
unfolding left
left_same old new zero same = refl
left_same old new (suc n) same =
    let before = left_same old new n (λ i below. same i (omega (arith, below))) in
    let here : bit_at new n ≡ bit_at old n = same n (omega arith) in
    let bit : cond (bit_at new n == 1) (most_at n) 0 ≡ cond (bit_at old n == 1) (most_at n) 0 = ap (λ b. cond (b == 1) (most_at n) 0) here in
    omega (arith, before, bit)

pub left_less : (old new line n : ℕ) → line < n → ((i : ℕ) → i < n → i ≢ line → bit_at new i ≡ bit_at old i) → bit_at old line ≡ 1 → bit_at new line ≡ 0 → left new n + most_at line ≡ left old n
unfolding left
left_less old new line zero within same was is = absurd (omega (arith, within))
left_less old new line (suc n) within same was is =
    let P : Bool → Type 0 = λ b. (n == line) ≡ b → left new (suc n) + most_at line ≡ left old (suc n) in
    (elim (n == line) as P [
      | true ↦ λ here.
          let number : n ≡ line = eqb-true n line here in
          let before = left_same old new n (λ i below. same i (omega (arith, below)) (omega (arith, below, number))) in
          let one : (bit_at old n == 1) ≡ true = eq-eqb (bit_at old n) 1 (ap (bit_at old) number ∙ was) in
          let none : (bit_at new n == 1) ≡ false = ap (λ b. b == 1) (ap (bit_at new) number ∙ is) in
          let first : cond (bit_at old n == 1) (most_at n) 0 ≡ most_at n = ap (λ b. cond b (most_at n) 0) one in
          let then : cond (bit_at new n == 1) (most_at n) 0 ≡ 0 = ap (λ b. cond b (most_at n) 0) none in
          let weight : most_at n ≡ most_at line = ap most_at number in
          omega (arith, before, first, then, weight)
      | false ↦ λ apart.
          let other : n ≢ line = eqb-false n line apart in
          let before = left_less old new line n (omega (arith, within, other)) (λ i below differ. same i (omega (arith, below)) differ) was is in
          let bit : cond (bit_at new n == 1) (most_at n) 0 ≡ cond (bit_at old n == 1) (most_at n) 0 = ap (λ b. cond (b == 1) (most_at n) 0) (same n (omega arith) other) in
          omega (arith, before, bit)
    ]) refl

-- The line that is granted asks no more.
abbrev pub cleared : ℕ → ℕ → ℕ
cleared lines line = bit_and lines (bit_not w32 (1 * 2 ^ line % 2 ^ 32))

pub cleared_other : (lines line n : ℕ) → line < most_lines → n < most_lines → n ≢ line → bit_at (cleared lines line) n ≡ bit_at lines n
cleared_other lines line n low below apart = bit_at_clear_other w32 lines line (omega (arith, low)) n (omega (arith, below)) apart

pub cleared_asks : (lines line n : ℕ) → bit_at (cleared lines line) n ≡ 1 → bit_at lines n ≡ 1
cleared_asks lines line n is =
    let m = bit_at_and lines (bit_not w32 (1 * 2 ^ line % 2 ^ 32)) n in
    omega (arith, is, m, bit_at-lt lines n, bit_at-lt (bit_not w32 (1 * 2 ^ line % 2 ^ 32)) n)

pub left_cleared : (lines line : ℕ) → line < most_lines → bit_at lines line ≡ 1 → left (cleared lines line) most_lines + most_at line ≡ left lines most_lines
left_cleared lines line low asks =
    left_less lines (cleared lines line) line most_lines low (λ i below apart. cleared_other lines line i low below apart) asks (bit_at_clear_same w32 lines line (omega (arith, low)))

pub most_some : (line : ℕ) → 1 ≤ most_at line
most_some line =
    let P : Bool → Type 0 = λ b. 1 ≤ cond b most_offers 1 in
    elim (nat_lt line most_ports) as P [ true ↦ omega arith | false ↦ omega arith ]

pub most_master : (line : ℕ) → most_ports ≤ line → most_at line ≡ 1
most_master line high = grind (arith, nat_tests)

-- Lines and who is on the bus.
pub lanes_many : (s : BusView) → length (shape_of s).lanes ≡ length s.ports
lanes_many s = simp length-map

pub masters_many : (s : BusView) → length (shape_of s).masters ≡ length s.masters
masters_many s = simp length-map

pub ports_same : (a b : BusView) → shape_of a ≡ shape_of b → length a.ports ≡ length b.ports
ports_same a b shape = let same = ap (λ (s : Shape). length s.lanes) shape in omega (arith, lanes_many a, lanes_many b, same)

pub masters_same : (a b : BusView) → shape_of a ≡ shape_of b → length a.masters ≡ length b.masters
masters_same a b shape = let same = ap (λ (s : Shape). length s.masters) shape in omega (arith, masters_many a, masters_many b, same)

pub served_low : (s : BusView) (line : ℕ) → length s.ports ≤ most_ports → length s.masters ≤ most_agents → IsServed (shape_of s) line → line < most_lines
served_low s line ports masters served =
    elim served as (λ _. line < most_lines) [
      | inl lane ↦ omega (arith, lanes_many s, lane, ports)
      | inr master ↦ omega (arith, masters_many s, master.1, masters)
    ]

pub served_there : (a b : BusView) (line : ℕ) → shape_of b ≡ shape_of a → IsServed (shape_of a) line → IsServed (shape_of b) line
served_there a b line shape served = subst (λ (s : Shape). IsServed s line) (sym shape) served
