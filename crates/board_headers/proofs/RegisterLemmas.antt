-- What is written into the registers of a header is read out of them again.
use Rattle.std.proofs.Common.{◌≡◌, ◌≤◌, ◌<◌, ◌==◌, ◌||◌, ℕ, Bool, true, false, ◌+◌, ◌*◌, ◌%◌, ◌^◌, IsTrue, Option, Some, None, if◌then◌else◌, refl, lit<, arith}
use Rattle.std.proofs.lemmas.Bool.{and_parts}
use Rattle.std.proofs.lemmas.Bool.Decides.{nat_tests}
use Rattle.board_model.specs.declared.bridge.Bridge.{Bridge}
use Rattle.board_model.specs.declared.bridge.Window.{Window}
use Rattle.board_model.specs.WellFormed.{is_window}
use Rattle.board_headers.specs.declared.windows.Windows.{Windows}
use Rattle.board_model.specs.HeaderBytes.{bits, bytes_2, bytes_4, register_2, register_4, header_bytes, control_of, is_wide, io_base, io_limit, io_base_upper, io_limit_upper, memory_base, memory_limit, prefetchable_base, prefetchable_limit, prefetchable_base_upper, prefetchable_limit_upper}
use Rattle.board_headers.specs.Windows.{window_between, has_whole_windows, has_bit, windows_of, windows_in}

-- ---- numbers in registers
two_bytes : (n : ℕ) → n < 2 ^ 16 → register_2 (bytes_2 n) 0 ≡ n
two_bytes n h = omega arith

four_bytes : (n : ℕ) → n < 2 ^ 32 → register_4 (bytes_4 n) 0 ≡ n
four_bytes n h = omega arith

-- twelve bits above a nibble, and that nibble
twelve_bits : (a low : ℕ) → low < 16 → bits 4 12 (register_2 (bytes_2 (16 * bits 20 12 a + low)) 0) ≡ bits 20 12 a
twelve_bits a low h = omega arith

-- twelve bits alone
twelve_bits_alone : (a : ℕ) → bits 4 12 (register_2 (bytes_2 (16 * bits 20 12 a)) 0) ≡ bits 20 12 a
twelve_bits_alone a = omega arith

low_nibble : (a low : ℕ) → low < 16 → bits 0 4 ((16 * a + low) % 2 ^ 8) ≡ low
low_nibble a low h = omega arith

-- four bits above a nibble
four_bits : (a : ℕ) → bits 4 4 (16 * bits 12 4 a + 1) ≡ bits 12 4 a
four_bits a = omega arith

-- ---- whole windows
record IsWholeBetween (unit bound : ℕ) (window : Window) : Type 0 where
  is_open : window.base ≤ window.limit
  base_whole : window.base % unit ≡ 0
  limit_whole : (window.limit + 1) % unit ≡ 0
  below : window.limit < bound

whole_facts : (unit bound : ℕ) (window : Window) → IsTrue (is_window unit bound (Some window)) → IsWholeBetween unit bound window
whole_facts unit bound window h = record {
  is_open = grind (arith, nat_tests);
  base_whole = grind (arith, nat_tests);
  limit_whole = grind (arith, nat_tests);
  below = grind (arith, nat_tests);
}

between : (base limit : ℕ) (window : Window) → base ≡ window.base → limit ≡ window.limit → window.base ≤ window.limit → window_between base limit ≡ Some window
between base limit window p q h = rw (p, q) (grind (arith, nat_tests))

-- ---- memory
first_of_32 : (a : ℕ) → a < 2 ^ 32 → a % 2 ^ 20 ≡ 0 → 2 ^ 20 * bits 20 12 a ≡ a
first_of_32 a h w = omega arith

last_of_32 : (a : ℕ) → a < 2 ^ 32 → (a + 1) % 2 ^ 20 ≡ 0 → 2 ^ 20 * bits 20 12 a + 0xfffff ≡ a
last_of_32 a h w = omega arith

-- the window that is read where this stands in the registers
abbrev memory_read : ℕ → ℕ → Option Window
memory_read base limit =
    window_between (2 ^ 20 * bits 4 12 (register_2 (bytes_2 base) 0)) (2 ^ 20 * bits 4 12 (register_2 (bytes_2 limit) 0) + 0xfffff)

memory_back : (window : Option Window) → IsTrue (is_window (2 ^ 20) (2 ^ 32) window) → memory_read (memory_base window) (memory_limit window) ≡ window
memory_back None h = refl
memory_back (Some window) h =
    let whole = whole_facts (2 ^ 20) (2 ^ 32) window h in
    between _ _ window
    (rw (twelve_bits_alone window.base) (first_of_32 window.base (omega arith) whole.base_whole))
    (rw (twelve_bits_alone window.limit) (last_of_32 window.limit whole.below whole.limit_whole))
    whole.is_open

-- ---- prefetchable memory
first_of_64 : (a : ℕ) → a < 2 ^ 64 → a % 2 ^ 20 ≡ 0 → 2 ^ 32 * bits 32 32 a + 2 ^ 20 * bits 20 12 a ≡ a
first_of_64 a h w = omega arith

last_of_64 : (a : ℕ) → a < 2 ^ 64 → (a + 1) % 2 ^ 20 ≡ 0 → 2 ^ 32 * bits 32 32 a + 2 ^ 20 * bits 20 12 a + 0xfffff ≡ a
last_of_64 a h w = omega arith

four_of_64 : (a : ℕ) → register_4 (bytes_4 (bits 32 32 a)) 0 ≡ bits 32 32 a
four_of_64 a = four_bytes (bits 32 32 a) (omega arith)

abbrev prefetchable_read : ℕ → ℕ → ℕ → ℕ → Option Window
prefetchable_read base limit base_upper limit_upper =
    let upper = λ (n : ℕ). if bits 0 4 (base % 2 ^ 8) == 1 then register_4 (bytes_4 n) 0 else 0 in
    window_between (2 ^ 32 * upper base_upper + 2 ^ 20 * bits 4 12 (register_2 (bytes_2 base) 0))
    (2 ^ 32 * upper limit_upper + 2 ^ 20 * bits 4 12 (register_2 (bytes_2 limit) 0) + 0xfffff)

wide_back : (window : Window) → IsWholeBetween (2 ^ 20) (2 ^ 64) window → prefetchable_read (16 * bits 20 12 window.base + 1) (16 * bits 20 12 window.limit + 1) (bits 32 32 window.base) (bits 32 32 window.limit) ≡ Some window
wide_back window whole =
    rw (low_nibble (bits 20 12 window.base) 1 (lit< tt))
    (between _ _ window
    (rw (four_of_64 window.base, twelve_bits window.base 1 (lit< tt)) (first_of_64 window.base (omega arith) whole.base_whole))
    (rw (four_of_64 window.limit, twelve_bits window.limit 1 (lit< tt)) (last_of_64 window.limit whole.below whole.limit_whole))
    whole.is_open)

narrow_back : (window : Window) → IsWholeBetween (2 ^ 20) (2 ^ 64) window → window.limit < 2 ^ 32 → prefetchable_read (16 * bits 20 12 window.base + 0) (16 * bits 20 12 window.limit + 0) 0 0 ≡ Some window
narrow_back window whole narrow =
    rw (low_nibble (bits 20 12 window.base) 0 (lit< tt))
    (between _ _ window
    (rw (twelve_bits window.base 0 (lit< tt)) (omega (arith, first_of_32 window.base (omega arith) whole.base_whole)))
    (rw (twelve_bits window.limit 0 (lit< tt)) (omega (arith, last_of_32 window.limit narrow whole.limit_whole)))
    whole.is_open)

on_bool : {P : Type 0} (b : Bool) → (b ≡ true → P) → (b ≡ false → P) → P
on_bool true t f = t refl
on_bool false t f = f refl

prefetchable_back : (window : Option Window) → IsTrue (is_window (2 ^ 20) (2 ^ 64) window) → prefetchable_read (prefetchable_base window) (prefetchable_limit window) (prefetchable_base_upper window) (prefetchable_limit_upper window) ≡ window
prefetchable_back None h = refl
prefetchable_back (Some window) h =
    let whole = whole_facts (2 ^ 20) (2 ^ 64) window h in
    on_bool (is_wide window) (λ wide. rw wide (wide_back window whole))
    (λ narrow. rw narrow (narrow_back window whole (grind (arith, nat_tests))))

-- ---- I/O
first_of_io : (a : ℕ) → a < 2 ^ 32 → a % 2 ^ 12 ≡ 0 → 2 ^ 16 * bits 16 16 a + 2 ^ 12 * bits 12 4 a ≡ a
first_of_io a h w = omega arith

last_of_io : (a : ℕ) → a < 2 ^ 32 → (a + 1) % 2 ^ 12 ≡ 0 → 2 ^ 16 * bits 16 16 a + 2 ^ 12 * bits 12 4 a + 0xfff ≡ a
last_of_io a h w = omega arith

two_of_32 : (a : ℕ) → register_2 (bytes_2 (bits 16 16 a)) 0 ≡ bits 16 16 a
two_of_32 a = two_bytes (bits 16 16 a) (omega arith)

io_nibble : (a : ℕ) → bits 0 4 (16 * bits 12 4 a + 1) ≡ 1
io_nibble a = omega arith

abbrev io_read : ℕ → ℕ → ℕ → ℕ → Option Window
io_read base limit base_upper limit_upper =
    let upper = λ (n : ℕ). if bits 0 4 base == 1 then register_2 (bytes_2 n) 0 else 0 in
    window_between (2 ^ 16 * upper base_upper + 2 ^ 12 * bits 4 4 base)
    (2 ^ 16 * upper limit_upper + 2 ^ 12 * bits 4 4 limit + 0xfff)

io_back : (window : Option Window) → IsTrue (is_window (2 ^ 12) (2 ^ 32) window) → io_read (io_base window) (io_limit window) (io_base_upper window) (io_limit_upper window) ≡ window
io_back None h = refl
io_back (Some window) h =
    let whole = whole_facts (2 ^ 12) (2 ^ 32) window h in
    rw (io_nibble window.base)
    (between _ _ window
    (rw (two_of_32 window.base, four_bits window.base) (first_of_io window.base (omega arith) whole.base_whole))
    (rw (two_of_32 window.limit, four_bits window.limit) (last_of_io window.limit whole.below whole.limit_whole))
    whole.is_open)

-- ---- bridge control
pub refused_back : (mode : Bool) → (let control = register_2 (bytes_2 (control_of mode)) 0 in has_bit 2 control || has_bit 3 control || has_bit 6 control) ≡ false
refused_back true = refl
refused_back false = refl

mode_back : (mode : Bool) → has_bit 5 (register_2 (bytes_2 (control_of mode)) 0) ≡ mode
mode_back true = refl
mode_back false = refl

-- ---- the header
-- windows with equal parts are equal
same_windows : (bridge : Bridge) (mem mem' pref pref' io io' : Option Window) (mode mode' : Bool) → mem ≡ mem' → pref ≡ pref' → io ≡ io' → mode ≡ mode' → (let with : Option Window → Option Window → Option Window → Bool → Windows = λ m p i o. record (windows_in bridge) { mem = m; pref = p; io = i; mode = o } in with mem pref io mode ≡ with mem' pref' io' mode')
same_windows bridge mem mem' pref pref' io io' mode mode' a b c d = cc

pub windows_back : (bridge : Bridge) → IsTrue (has_whole_windows (windows_in bridge)) → windows_of (header_bytes bridge) ≡ windows_in bridge
windows_back bridge whole =
    let outer = and_parts _ _ whole in
    let inner = and_parts _ _ outer.0 in
    same_windows bridge _ _ _ _ _ _ _ _ (memory_back bridge.mem inner.0) (prefetchable_back bridge.pref inner.1)
    (io_back bridge.io outer.1)
    (mode_back bridge.mode)
