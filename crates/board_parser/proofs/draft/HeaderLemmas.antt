-- The windows that a header says are in whole units, and its buses are numbered.
use Rattle.std.proofs.Common.{subst, zero, suc, ◌≡◌, ℕ, ◌+◌, ◌*◌, ◌^◌, ◌<◌, Bool, true, false, cond, not, ◌||◌, List, [], ◌∷◌, refl, arith}
use Rattle.std.specs.Prelude.{Some, None, Ok, ◌==◌, nat_le, nat_lt, slice_index}
use Rattle.std.specs.List.{list_all}
use Rattle.std.proofs.lemmas.Bool.{and_parts, and_from, not-false, ltb-true, lt-ltb, le-leb, eq-eqb}
use Rattle.board_model.specs.Limits.{most_posted, most_delayed}
use Rattle.board_model.specs.WellFormed.{is_within, is_window, is_well_formed_bridge}
use Rattle.board_headers.specs.declared.windows.Windows.{Windows}
use Rattle.board_model.specs.HeaderBytes.{bits, register_2, register_4}
use Rattle.board_headers.specs.Windows.{window_between, prefetchable_upper, io_upper, reading_of, windows_of, is_type_1, is_enabled, has_refused_control, has_ordered_buses, has_whole_windows}
use Rattle.board_parser.specs.draft.Bridges.{bridge_of}
use Rattle.board_parser.specs.draft.Formed.{is_byte}
use Rattle.board_parser.proofs.draft.StepLemmas.{if-ok}

byte_below : (bytes : List ℕ) (at : ℕ) → list_all is_byte bytes ≡ true → slice_index bytes at < 256
byte_below [] at all = omega arith
byte_below (b ∷ bytes) zero all = ltb-true _ _ (and_parts _ _ all).0
byte_below (b ∷ bytes) (suc at) all = byte_below bytes at (and_parts _ _ all).1

register_2_below : (bytes : List ℕ) (at : ℕ) → list_all is_byte bytes ≡ true → register_2 bytes at < 65536
register_2_below bytes at all =
    let low = byte_below bytes at all in
    let high = byte_below bytes (at + 1) all in
    omega (arith, low, high)

register_4_below : (bytes : List ℕ) (at : ℕ) → list_all is_byte bytes ≡ true → register_4 bytes at < 2 ^ 32
register_4_below bytes at all =
    let low = register_2_below bytes at all in
    let high = register_2_below bytes (at + 2) all in
    omega (arith, low, high)

if_below : (test : Bool) (n end : ℕ) → n < end → 0 < end → cond test n 0 < end
if_below true n end below some = below
if_below false n end below some = some

mega_window : (base limit b l end : ℕ) → base ≡ 2 ^ 20 * b → limit ≡ 2 ^ 20 * l + 0xfffff → limit < end → is_window (2 ^ 20) end (window_between base limit) ≡ true
mega_window base limit b l end based limited within =
    let P : Bool → Type 0 = λ test. nat_le base limit ≡ test → is_window (2 ^ 20) end (cond test (Some (record { base = base; limit = limit })) None) ≡ true in
    (elim (nat_le base limit) as P [
      | true ↦ λ ordered. and_from _ _ (and_from _ _ (and_from _ _ ordered (eq-eqb _ _ (omega arith))) (eq-eqb _ _ (omega arith))) (lt-ltb _ _ within)
      | false ↦ λ _. refl
    ]) refl

kilo_window : (base limit b l end : ℕ) → base ≡ 2 ^ 12 * b → limit ≡ 2 ^ 12 * l + 0xfff → limit < end → is_window (2 ^ 12) end (window_between base limit) ≡ true
kilo_window base limit b l end based limited within =
    let P : Bool → Type 0 = λ test. nat_le base limit ≡ test → is_window (2 ^ 12) end (cond test (Some (record { base = base; limit = limit })) None) ≡ true in
    (elim (nat_le base limit) as P [
      | true ↦ λ ordered. and_from _ _ (and_from _ _ (and_from _ _ ordered (eq-eqb _ _ (omega arith))) (eq-eqb _ _ (omega arith))) (lt-ltb _ _ within)
      | false ↦ λ _. refl
    ]) refl

memory_whole : (base limit : ℕ) → is_window (2 ^ 20) (2 ^ 32) (window_between (2 ^ 20 * bits 4 12 base) (2 ^ 20 * bits 4 12 limit + 0xfffff)) ≡ true
memory_whole base limit = mega_window _ _ (bits 4 12 base) (bits 4 12 limit) (2 ^ 32) refl refl (omega arith)

prefetchable_whole : (base_upper base limit_upper limit : ℕ) → limit_upper < 2 ^ 32 → is_window (2 ^ 20) (2 ^ 64) (window_between (2 ^ 32 * base_upper + 2 ^ 20 * bits 4 12 base) (2 ^ 32 * limit_upper + 2 ^ 20 * bits 4 12 limit + 0xfffff)) ≡ true
prefetchable_whole base_upper base limit_upper limit below =
    mega_window (2 ^ 32 * base_upper + 2 ^ 20 * bits 4 12 base) (2 ^ 32 * limit_upper + 2 ^ 20 * bits 4 12 limit + 0xfffff) (2 ^ 12 * base_upper + bits 4 12 base) (2 ^ 12 * limit_upper + bits 4 12 limit) (2 ^ 64) (omega arith) (omega arith) (omega arith)

io_whole : (base_upper base limit_upper limit : ℕ) → limit_upper < 65536 → is_window (2 ^ 12) (2 ^ 32) (window_between (2 ^ 16 * base_upper + 2 ^ 12 * bits 4 4 base) (2 ^ 16 * limit_upper + 2 ^ 12 * bits 4 4 limit + 0xfff)) ≡ true
io_whole base_upper base limit_upper limit below =
    kilo_window (2 ^ 16 * base_upper + 2 ^ 12 * bits 4 4 base) (2 ^ 16 * limit_upper + 2 ^ 12 * bits 4 4 limit + 0xfff) (2 ^ 4 * base_upper + bits 4 4 base) (2 ^ 4 * limit_upper + bits 4 4 limit) (2 ^ 32) (omega arith) (omega arith) (omega arith)

windows_whole : (bytes : List ℕ) → list_all is_byte bytes ≡ true → has_whole_windows (windows_of bytes) ≡ true
windows_whole bytes all =
    and_from _ _
    (and_from _ _ (memory_whole (register_2 bytes 0x20) (register_2 bytes 0x22))
    (prefetchable_whole (prefetchable_upper bytes 0x28) (register_2 bytes 0x24) (prefetchable_upper bytes 0x2c) (register_2 bytes 0x26)
    (if_below (bits 0 4 (slice_index bytes 0x24) == 1) (register_4 bytes 0x2c) (2 ^ 32) (register_4_below bytes 0x2c all) (omega arith))))
    (io_whole (io_upper bytes 0x30) (slice_index bytes 0x1c) (io_upper bytes 0x32) (slice_index bytes 0x1d)
    (if_below (bits 0 4 (slice_index bytes 0x1c) == 1) (register_2 bytes 0x32) 65536 (register_2_below bytes 0x32 all) (omega arith)))

reading_whole : (bytes : List ℕ) (windows : Windows) → list_all is_byte bytes ≡ true → reading_of bytes ≡ Ok windows → (has_whole_windows windows ≡ true) × (has_ordered_buses windows ≡ true)
reading_whole bytes windows all h =
    let first = if-ok (not (is_type_1 bytes)) _ _ _ h in
    let second = if-ok (not (is_enabled bytes) || has_refused_control bytes) _ _ _ first.1 in
    let third = if-ok (not (has_ordered_buses (windows_of bytes))) _ _ _ second.1 in
    let is : windows_of bytes ≡ windows = cc in
    let P : Windows → Type 0 = λ w. (has_whole_windows w ≡ true) × (has_ordered_buses w ≡ true) in
    subst P is (windows_whole bytes all, not-false _ third.0)

some_bus : (primary secondary : ℕ) → nat_lt primary secondary ≡ true → nat_le 1 secondary ≡ true
some_bus primary secondary below = let more = ltb-true primary secondary below in le-leb _ _ (omega arith)

pub header_formed : (bytes : List ℕ) (windows : Windows) (device posted delayed : ℕ) → nat_le device 31 ≡ true → is_within 1 most_posted posted ≡ true
    → is_within 1 most_delayed delayed ≡ true → list_all is_byte bytes ≡ true → reading_of bytes ≡ Ok windows → is_well_formed_bridge (bridge_of windows device posted delayed) ≡ true
header_formed bytes windows device posted delayed in_range deep wide all h =
    let read = reading_whole bytes windows all h in
    let w2 = and_parts _ _ read.0 in
    let w1 = and_parts _ _ w2.0 in
    let buses = and_parts (nat_lt windows.primary windows.secondary) (nat_le windows.secondary windows.subordinate) read.1 in
    and_from _ _ (and_from _ _ (and_from _ _ (and_from _ _ (and_from _ _ (and_from _ _
    (some_bus windows.primary windows.secondary buses.0) in_range) deep) wide) w1.0) w1.1) w2.1
