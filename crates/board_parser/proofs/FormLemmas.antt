-- What each form of a line sees to.
use Rattle.std.proofs.Common.{subst, ◌≡◌, ℕ, zero, suc, ◌^◌, ◌<◌, ◌≤◌, Bool, true, false, List, [], ◌∷◌, length, take, refl, arith}
use Rattle.std.specs.Prelude.{Option, Some, None, Ok, nat_le, codes}
use Rattle.std.specs.List.{list_all}
use Rattle.std.proofs.lemmas.Bool.{and_parts, and_from, lt-ltb, le-leb}
use Rattle.pci_command.specs.declared.command.Command.{Command}
use Rattle.pci_command.specs.declared.command.Space.{Space}
use Rattle.pci_command.specs.declared.command.Space.TheVariants.{Mem, Io, Cfg}
use Rattle.pci_command.specs.declared.phases.Phase.{Phase}
use Rattle.pci_command.specs.Command.{space_of}
use Rattle.board_model.specs.Limits.{most_posted, most_delayed, most_dwords, most_tries}
use Rattle.board_model.specs.declared.bridge.Window.{Window}
use Rattle.board_model.specs.declared.agents.Range.{Range}
use Rattle.board_model.specs.declared.board.Planned.{Planned}
use Rattle.board_model.specs.WellFormed.{is_within, is_well_formed_phase, is_well_formed_plan, read_space, write_space}
use Rattle.board_parser.specs.draft.Formed.{ends_within, is_byte, is_target_space, is_address, is_size, is_formed_read, is_formed_write, is_formed}
use Rattle.board_statements.specs.declared.statement.Statement.{Statement}
use Rattle.board_statements.specs.declared.statement.Statement.TheVariants.{NewBridge}
use Rattle.board_statements.specs.Words.{Reader, ◌>>=◌, ◌>>◌, give, one_word, choice, decimal, decimal_of, fixed, hex, hex_of, name, long, long_of, data_word, data_word_of, header_bytes, header_of}
use Rattle.board_statements.specs.Bridges.{base_limit, window, depth, abort_mode, bridge_form, header_form}
use Rattle.board_statements.specs.Targets.{is_wide_in, space_word, space_of_word, target_form, id_form, stall_form, burst_form, range_form, claim_form, abort_form, opening_form}
use Rattle.board_statements.specs.Masters.{master_form, tail_form, read_form, data_words, other_words, as_many, burst_words, burst_write_form, port_write_form, register_read_form, register_write_form, poll_form, direction_of_word, planned_form, discard_form, drop_form}
use Rattle.board_parser.proofs.ReaderLemmas.{Yields, on-ok, rest-ok, word-ok, give-ok, yields-give, yields-word, yields-choice, yields-optional}
use Rattle.board_parser.proofs.WordKindLemmas.{part-ok, hex-below, narrow-below, long-below, decimal-within, decimal-most, phase-formed, header-bytes, space-of-target}

-- Words of a line.

abbrev Words : Type 0
Words = List (List ℕ)

decimal-read : (low high : ℕ) (words : Words) (read : ℕ × Words) → decimal low high words ≡ Ok read → is_within low high (read.0) ≡ true
decimal-read low high = word-ok (decimal_of low high) (λ n. is_within low high n ≡ true) (decimal-within low high)

most-read : (low high : ℕ) (words : Words) (read : ℕ × Words) → decimal low high words ≡ Ok read → nat_le (read.0) high ≡ true
most-read low high = word-ok (decimal_of low high) (λ n. nat_le n high ≡ true) (decimal-most low high)

least-read : (low high : ℕ) (words : Words) (read : ℕ × Words) → decimal low high words ≡ Ok read → nat_le low (read.0) ≡ true
least-read low high words read h = (and_parts (nat_le low (read.0)) (nat_le (read.0) high) (decimal-read low high words read h)).0

phase-read : (words : Words) (read : Phase × Words) → data_word words ≡ Ok read → is_well_formed_phase (read.0) ≡ true
phase-read = word-ok data_word_of (λ p. is_well_formed_phase p ≡ true) phase-formed

hex-read : (words : Words) (read : ℕ × Words) → hex 8 words ≡ Ok read → read.0 < 2 ^ 32
hex-read = word-ok (hex_of 8) (λ n. n < 2 ^ 32) hex-below

space-read : (words : Words) (read : Space × Words) → space_word words ≡ Ok read → is_target_space (read.0) ≡ true
space-read = word-ok space_of_word (λ s. is_target_space s ≡ true) space-of-target

-- Bridges.

abbrev Ends : ℕ → Option Window → Type 0
Ends end window = ends_within end window ≡ true

limit-ends : (wide : Bool) (end : ℕ) → ((word : List ℕ) (n : ℕ) → long_of wide word ≡ Ok n → n < end) → Yields (base_limit wide) (Ends end)
limit-ends wide end below = record {
  at = λ words read h.
      let from = on-ok (long wide words) _ read h in
      let to = on-ok (long wide (from.0.1)) _ read from.1.1 in
      let limit = word-ok (long_of wide) (λ n. n < end) below (from.0.1) to.0 to.1.0 in
      let is = give-ok (Some (record { base = from.0.0; limit = to.0.0 })) (to.0.1) read to.1.1 in
      let P : Option Window → Type 0 = λ w. Ends end w in
      subst P is (lt-ltb _ _ limit);
}

window-ends : (word : List ℕ) (wide : Bool) (end : ℕ) → ((w : List ℕ) (n : ℕ) → long_of wide w ≡ Ok n → n < end) → Yields (window word wide) (Ends end)
unfolding window
window-ends word wide end below =
    yields-optional word None (choice (codes "none") (give None) (base_limit wide)) (Ends end) refl
    (yields-choice (codes "none") (give None) (base_limit wide) (Ends end) (yields-give None (Ends end) refl) (limit-ends wide end below))

depth-within : (word : List ℕ) (most : ℕ) → is_within 1 most 4 ≡ true → Yields (depth word most) (λ n. is_within 1 most n ≡ true)
unfolding depth
depth-within word most usual =
    yields-optional word 4 (decimal 1 most) (λ n. is_within 1 most n ≡ true) usual
    (yields-word (decimal_of 1 most) (λ n. is_within 1 most n ≡ true) (decimal-within 1 most))

abbrev IsFormed : Statement → Type 0
IsFormed statement = is_formed statement ≡ true

-- the bridge that the last steps of its line give
abbrev bridge_end : (bus parent device last : ℕ) (mem pref io : Option Window) → Reader Statement
bridge_end bus parent device last mem pref io = do
  posted ← depth (codes "posted") most_posted
  delayed ← depth (codes "delayed") most_delayed
  mode ← abort_mode
  give (NewBridge (record { bus = bus; parent = parent; device = device; last = last; mem = mem; pref = pref; io = io; posted = posted; delayed = delayed; mode = mode }))

bridge_end-formed : (bus parent device last : ℕ) (mem pref io : Option Window) → nat_le 1 bus ≡ true → nat_le device 31 ≡ true → Ends (2 ^ 32) mem → Ends (2 ^ 64) pref → Ends (2 ^ 32) io → (words : Words) (read : Statement × Words) → bridge_end bus parent device last mem pref io words ≡ Ok read → IsFormed (read.0)
bridge_end-formed bus parent device last mem pref io some in_range low high port words read h =
    let posted = on-ok (depth (codes "posted") most_posted words) _ read h in
    let delayed = on-ok (depth (codes "delayed") most_delayed (posted.0.1)) _ read posted.1.1 in
    let mode = on-ok (abort_mode (delayed.0.1)) _ read delayed.1.1 in
    let is = give-ok (NewBridge (record { bus = bus; parent = parent; device = device; last = last; mem = mem; pref = pref; io = io; posted = posted.0.0; delayed = delayed.0.0; mode = mode.0.0 })) (mode.0.1) read mode.1.1 in
    subst IsFormed is
    (and_from _ _ (and_from _ _ (and_from _ _ (and_from _ _ (and_from _ _ (and_from _ _ some in_range)
    ((depth-within (codes "posted") most_posted refl).at words posted.0 posted.1.0))
    ((depth-within (codes "delayed") most_delayed refl).at (posted.0.1) delayed.0 delayed.1.0)) low) high) port)

abbrev bridge_windows : (wide : Bool) (bus parent device last : ℕ) → Reader Statement
bridge_windows wide bus parent device last = do
  mem ← window (codes "mem") false
  pref ← window (codes "pref") wide
  io ← window (codes "io") false
  bridge_end bus parent device last mem pref io

bridge_windows-formed : (wide : Bool) (bus parent device last : ℕ) → nat_le 1 bus ≡ true → nat_le device 31 ≡ true → (words : Words) (read : Statement × Words) → bridge_windows wide bus parent device last words ≡ Ok read → IsFormed (read.0)
bridge_windows-formed wide bus parent device last some in_range words read h =
    let mem = on-ok (window (codes "mem") false words) (λ mem. window (codes "pref") wide >>= (λ pref. window (codes "io") false >>= (λ io. bridge_end bus parent device last mem pref io))) read h in
    let pref = on-ok (window (codes "pref") wide (mem.0.1)) (λ pref. window (codes "io") false >>= (λ io. bridge_end bus parent device last (mem.0.0) pref io)) read mem.1.1 in
    let io = on-ok (window (codes "io") false (pref.0.1)) (λ io. bridge_end bus parent device last (mem.0.0) (pref.0.0) io) read pref.1.1 in
    bridge_end-formed bus parent device last (mem.0.0) (pref.0.0) (io.0.0) some in_range
    ((window-ends (codes "mem") false (2 ^ 32) narrow-below).at words mem.0 mem.1.0)
    ((window-ends (codes "pref") wide (2 ^ 64) (long-below wide)).at (mem.0.1) pref.0 pref.1.0)
    ((window-ends (codes "io") false (2 ^ 32) narrow-below).at (pref.0.1) io.0 io.1.0)
    (io.0.1) read io.1.1

abbrev bridge_place : (wide : Bool) (bus parent : ℕ) → Reader Statement
bridge_place wide bus parent = do
  fixed (codes "dev")
  device ← decimal 0 31
  fixed (codes "last")
  last ← decimal 0 255
  bridge_windows wide bus parent device last

bridge_place-formed : (wide : Bool) (bus parent : ℕ) → nat_le 1 bus ≡ true → (words : Words) (read : Statement × Words) → bridge_place wide bus parent words ≡ Ok read → IsFormed (read.0)
bridge_place-formed wide bus parent some words read h =
    let dev = on-ok (fixed (codes "dev") words) (λ _. decimal 0 31 >>= (λ device. fixed (codes "last") >> (decimal 0 255 >>= (λ last. bridge_windows wide bus parent device last)))) read h in
    let device = on-ok (decimal 0 31 (dev.0.1)) (λ device. fixed (codes "last") >> (decimal 0 255 >>= (λ last. bridge_windows wide bus parent device last))) read dev.1.1 in
    let behind = on-ok (fixed (codes "last") (device.0.1)) (λ _. decimal 0 255 >>= (λ last. bridge_windows wide bus parent (device.0.0) last)) read device.1.1 in
    let last = on-ok (decimal 0 255 (behind.0.1)) (λ last. bridge_windows wide bus parent (device.0.0) last) read behind.1.1 in
    bridge_windows-formed wide bus parent (device.0.0) (last.0.0) some (most-read 0 31 (dev.0.1) device.0 device.1.0) (last.0.1) read last.1.1

pub bridge-formed : (wide : Bool) (words : Words) (read : Statement × Words) → bridge_form wide words ≡ Ok read → IsFormed (read.0)
unfolding bridge_form
bridge-formed wide words read h =
    let bus = on-ok (decimal 1 255 words) (λ bus. fixed (codes "on") >> (decimal 0 255 >>= (λ parent. bridge_place wide bus parent))) read h in
    let on = on-ok (fixed (codes "on") (bus.0.1)) (λ _. decimal 0 255 >>= (λ parent. bridge_place wide (bus.0.0) parent)) read bus.1.1 in
    let parent = on-ok (decimal 0 255 (on.0.1)) (λ parent. bridge_place wide (bus.0.0) parent) read on.1.1 in
    bridge_place-formed wide (bus.0.0) (parent.0.0) (least-read 1 255 words bus.0 bus.1.0) (parent.0.1) read parent.1.1

pub header-formed : (words : Words) (read : Statement × Words) → header_form words ≡ Ok read → IsFormed (read.0)
unfolding header_form
header-formed words read h =
    let device = on-ok (decimal 0 31 words) _ read h in
    let bytes = on-ok (header_bytes (device.0.1)) _ read device.1.1 in
    let posted = on-ok (depth (codes "posted") most_posted (bytes.0.1)) _ read bytes.1.1 in
    let delayed = on-ok (depth (codes "delayed") most_delayed (posted.0.1)) _ read posted.1.1 in
    let is = give-ok _ (delayed.0.1) read delayed.1.1 in
    subst IsFormed is
    (and_from _ _ (and_from _ _ (and_from _ _
    (most-read 0 31 words device.0 device.1.0)
    ((depth-within (codes "posted") most_posted refl).at (bytes.0.1) posted.0 posted.1.0))
    ((depth-within (codes "delayed") most_delayed refl).at (posted.0.1) delayed.0 delayed.1.0))
    (word-ok header_of (λ bs. list_all is_byte bs ≡ true) header-bytes (device.0.1) bytes.0 bytes.1.0))

-- Targets.

pub target-formed : (words : Words) (read : Statement × Words) → target_form words ≡ Ok read → IsFormed (read.0)
unfolding target_form
target-formed words read h =
    let named = on-ok (name words) _ read h in
    let on = on-ok (fixed (codes "on") (named.0.1)) _ read named.1.1 in
    let bus = on-ok (decimal 0 255 (on.0.1)) _ read on.1.1 in
    let dev = on-ok (fixed (codes "dev") (bus.0.1)) _ read bus.1.1 in
    let device = on-ok (decimal 0 31 (dev.0.1)) _ read dev.1.1 in
    let is = give-ok _ (device.0.1) read device.1.1 in
    subst IsFormed is (most-read 0 31 (dev.0.1) device.0 device.1.0)

pub id-formed : (words : Words) (read : Statement × Words) → id_form words ≡ Ok read → IsFormed (read.0)
unfolding id_form
id-formed words read h =
    let vendor = on-ok (hex 4 words) _ read h in
    let model = on-ok (hex 4 (vendor.0.1)) _ read vendor.1.1 in
    let is = give-ok _ (model.0.1) read model.1.1 in
    subst IsFormed is refl

pub stall-formed : (words : Words) (read : Statement × Words) → stall_form words ≡ Ok read → IsFormed (read.0)
unfolding stall_form
stall-formed words read h =
    let tokens = on-ok (decimal 0 1000000 words) _ read h in
    let is = give-ok _ (tokens.0.1) read tokens.1.1 in
    subst IsFormed is (most-read 0 1000000 words tokens.0 tokens.1.0)

pub burst-formed : (words : Words) (read : Statement × Words) → burst_form words ≡ Ok read → IsFormed (read.0)
unfolding burst_form
burst-formed words read h =
    let phases = on-ok (decimal 1 most_dwords words) _ read h in
    let is = give-ok _ (phases.0.1) read phases.1.1 in
    subst IsFormed is (decimal-read 1 most_dwords words phases.0 phases.1.0)

-- a number of the space is the size of a range there
size-by : (wide : Bool) (space : Space) → is_target_space space ≡ true → (word : List ℕ) (n : ℕ) → long_of (is_wide_in wide space) word ≡ Ok n → is_size space n ≡ true
size-by wide Mem named word n h = lt-ltb _ _ (long-below (is_wide_in wide Mem) word n h)
size-by wide Io named word n h = lt-ltb _ _ (narrow-below word n h)
size-by wide Cfg named word n h = absurd (cc)

range-formed : (wide : Bool) (words : Words) (read : Range × Words) → range_form wide words ≡ Ok read → is_size read.0.space read.0.size ≡ true
unfolding range_form
range-formed wide words read h =
    let space = on-ok (space_word words) _ read h in
    let base = on-ok (long (is_wide_in wide (space.0.0)) (space.0.1)) _ read space.1.1 in
    let size = on-ok (long (is_wide_in wide (space.0.0)) (base.0.1)) _ read base.1.1 in
    let is = give-ok _ (size.0.1) read size.1.1 in
    let P : Range → Type 0 = λ r. is_size r.space r.size ≡ true in
    let named = space-read words space.0 space.1.0 in
    subst P is (word-ok (long_of (is_wide_in wide (space.0.0))) (λ n. is_size (space.0.0) n ≡ true) (size-by wide (space.0.0) named) (base.0.1) size.0 size.1.0)

pub claim-formed : (wide : Bool) (words : Words) (read : Statement × Words) → claim_form wide words ≡ Ok read → IsFormed (read.0)
unfolding claim_form
claim-formed wide words read h =
    let range = on-ok (range_form wide words) _ read h in
    let is = give-ok _ (range.0.1) read range.1.1 in
    subst IsFormed is (range-formed wide words range.0 range.1.0)

pub abort-formed : (wide : Bool) (words : Words) (read : Statement × Words) → abort_form wide words ≡ Ok read → IsFormed (read.0)
unfolding abort_form
abort-formed wide words read h =
    let range = on-ok (range_form wide words) _ read h in
    let is = give-ok _ (range.0.1) read range.1.1 in
    subst IsFormed is (range-formed wide words range.0 range.1.0)

-- a number of the space is one of its addresses
address-by : (wide : Bool) (space : Space) → is_target_space space ≡ true → (word : List ℕ) (n : ℕ) → long_of (is_wide_in wide space) word ≡ Ok n → is_address space n ≡ true
address-by wide Mem named word n h = refl
address-by wide Io named word n h = lt-ltb _ _ (narrow-below word n h)
address-by wide Cfg named word n h = absurd (cc)

pub opening-formed : (wide : Bool) (words : Words) (read : Statement × Words) → opening_form wide words ≡ Ok read → IsFormed (read.0)
unfolding opening_form
opening-formed wide words read h =
    let space = on-ok (space_word words) _ read h in
    let address = on-ok (long (is_wide_in wide (space.0.0)) (space.0.1)) _ read space.1.1 in
    let value = on-ok (hex 8 (address.0.1)) _ read address.1.1 in
    let is = give-ok _ (value.0.1) read value.1.1 in
    subst IsFormed is
    (word-ok (long_of (is_wide_in wide (space.0.0))) (λ n. is_address (space.0.0) n ≡ true)
    (address-by wide (space.0.0) (space-read words space.0 space.1.0)) (space.0.1) address.0 address.1.0)

-- Masters.

pub master-formed : (words : Words) (read : Statement × Words) → master_form words ≡ Ok read → IsFormed (read.0)
unfolding master_form
master-formed words read h =
    let named = on-ok (name words) _ read h in
    let on = on-ok (fixed (codes "on") (named.0.1)) _ read named.1.1 in
    let bus = on-ok (decimal 0 255 (on.0.1)) _ read on.1.1 in
    let is = give-ok _ (bus.0.1) read bus.1.1 in
    subst IsFormed is refl

-- the space that a command stands for, which is memory or I/O
abbrev pub is_space_of : Option Space → Space → Bool
is_space_of None space = false
is_space_of (Some Mem) Mem = true
is_space_of (Some Mem) Io = false
is_space_of (Some Mem) Cfg = false
is_space_of (Some Io) Mem = false
is_space_of (Some Io) Io = true
is_space_of (Some Io) Cfg = false
is_space_of (Some Cfg) Mem = false
is_space_of (Some Cfg) Io = false
is_space_of (Some Cfg) Cfg = false

read-by : (wide : Bool) (stated : Option Space) (space : Space) → is_space_of stated space ≡ true → (word : List ℕ) (n : ℕ) → long_of (is_wide_in wide space) word ≡ Ok n → is_formed_read n stated ≡ true
read-by wide None space named word n h = absurd (cc)
read-by wide (Some Mem) Mem named word n h = refl
read-by wide (Some Mem) Io named word n h = absurd (cc)
read-by wide (Some Mem) Cfg named word n h = absurd (cc)
read-by wide (Some Io) Mem named word n h = absurd (cc)
read-by wide (Some Io) Io named word n h = lt-ltb _ _ (narrow-below word n h)
read-by wide (Some Io) Cfg named word n h = absurd (cc)
read-by wide (Some Cfg) Mem named word n h = absurd (cc)
read-by wide (Some Cfg) Io named word n h = absurd (cc)
read-by wide (Some Cfg) Cfg named word n h = absurd (cc)

pub read-formed : (wide : Bool) (command : Command) → is_space_of (read_space command) (space_of command) ≡ true → (words : Words) (read : Statement × Words) → read_form wide command words ≡ Ok read → IsFormed (read.0)
unfolding read_form
read-formed wide command named words read h =
    let address = on-ok (long (is_wide_in wide (space_of command)) words) _ read h in
    let tail = on-ok (tail_form (address.0.1)) _ read address.1.1 in
    let is = give-ok _ (tail.0.1) read tail.1.1 in
    subst IsFormed is
    (word-ok (long_of (is_wide_in wide (space_of command))) (λ n. is_formed_read n (read_space command) ≡ true)
    (read-by wide (read_space command) (space_of command) named) words address.0 address.1.0)

phases-formed : (words : Words) (phases : List Phase) → data_words words ≡ Ok phases → list_all is_well_formed_phase phases ≡ true
phases-formed [] phases h =
    let P : List Phase → Type 0 = λ ps. list_all is_well_formed_phase ps ≡ true in
    let is : [] ≡ phases = cc in
    subst P is refl
phases-formed (word ∷ words) phases h =
    let first = part-ok (data_word_of word) _ phases h in
    let others = part-ok (data_words words) _ phases first.1.1 in
    let P : List Phase → Type 0 = λ ps. list_all is_well_formed_phase ps ≡ true in
    let is : (first.0 ∷ others.0) ≡ phases = cc in
    subst P is (and_from _ _ (phase-formed word first.0 first.1.0) (phases-formed words others.0 others.1.0))

all-take : (n : ℕ) (phases : List Phase) → list_all is_well_formed_phase phases ≡ true → list_all is_well_formed_phase (take n phases) ≡ true
all-take zero phases all = refl
all-take (suc n) [] all = refl
all-take (suc n) (phase ∷ phases) all =
    let parts = and_parts _ _ all in
    and_from _ _ parts.0 (all-take n phases parts.1)

length-few : (n : ℕ) (phases : List Phase) → length (take n phases) ≤ n
length-few zero phases = omega arith
length-few (suc n) [] = omega arith
length-few (suc n) (phase ∷ phases) = let fewer = length-few n phases in omega (arith, fewer)

-- one to eight data words
pub record IsBurst (phases : List Phase) : Type 0 where
  pub count : is_within 1 most_dwords (length phases) ≡ true
  pub formed : list_all is_well_formed_phase phases ≡ true

burst-of : (first : Phase) (others : List Phase) → is_well_formed_phase first ≡ true → list_all is_well_formed_phase others ≡ true → IsBurst (take most_dwords (first ∷ others))
burst-of first others one all = record {
  count = let few = length-few 7 others in and_from _ _ (le-leb 1 (suc (length (take 7 others))) (omega arith)) (le-leb (suc (length (take 7 others))) 8 (omega (arith, few)));
  formed = all-take most_dwords (first ∷ others) (and_from _ _ one all);
}

burst-read : (words : Words) (read : (List Phase × Bool) × Words) → burst_words words ≡ Ok read → IsBurst (read.0.0)
unfolding burst_words
burst-read words read h =
    let first = on-ok (data_word words) _ read h in
    let others = on-ok (other_words (first.0.1)) _ read first.1.1 in
    let is = give-ok (as_many (first.0.0 ∷ others.0.0)) (others.0.1) read others.1.1 in
    let P : (List Phase × Bool) → Type 0 = λ burst. IsBurst (burst.0) in
    subst P is (burst-of (first.0.0) (others.0.0) (phase-read words first.0 first.1.0)
    (phases-formed (first.0.1) (others.0.0) (rest-ok (data_words (first.0.1)) [] others.0 others.1.0)))

write-by : (address : ℕ) (phases : List Phase) (stated : Option Space) → is_space_of stated Mem ≡ true → IsBurst phases → is_formed_write address phases stated ≡ true
write-by address phases None named burst = absurd (cc)
write-by address phases (Some Mem) named burst = and_from _ _ (and_from _ _ refl burst.count) burst.formed
write-by address phases (Some Io) named burst = absurd (cc)
write-by address phases (Some Cfg) named burst = absurd (cc)

pub burst_write-formed : (wide : Bool) (command : Command) → is_space_of (write_space command) Mem ≡ true → (words : Words) (read : Statement × Words) → burst_write_form wide command words ≡ Ok read → IsFormed (read.0)
unfolding burst_write_form
burst_write-formed wide command named words read h =
    let address = on-ok (long wide words) _ read h in
    let burst = on-ok (burst_words (address.0.1)) _ read address.1.1 in
    let is = give-ok _ (burst.0.1) read burst.1.1 in
    subst IsFormed is (write-by (address.0.0) (burst.0.0.0) (write_space command) named (burst-read (address.0.1) burst.0 burst.1.0))

pub port_write-formed : (words : Words) (read : Statement × Words) → port_write_form words ≡ Ok read → IsFormed (read.0)
unfolding port_write_form
port_write-formed words read h =
    let address = on-ok (hex 8 words) _ read h in
    let phase = on-ok (data_word (address.0.1)) _ read address.1.1 in
    let is = give-ok _ (phase.0.1) read phase.1.1 in
    subst IsFormed is
    (and_from _ _ (and_from _ _ (lt-ltb _ _ (hex-read words address.0 address.1.0)) refl)
    (and_from _ _ (phase-read (address.0.1) phase.0 phase.1.0) refl))

pub register_read-formed : (words : Words) (read : Statement × Words) → register_read_form words ≡ Ok read → IsFormed (read.0)
unfolding register_read_form
register_read-formed words read h =
    let bus = on-ok (decimal 0 255 words) _ read h in
    let device = on-ok (decimal 0 31 (bus.0.1)) _ read bus.1.1 in
    let register = on-ok (decimal 0 63 (device.0.1)) _ read device.1.1 in
    let tail = on-ok (tail_form (register.0.1)) _ read register.1.1 in
    let is = give-ok _ (tail.0.1) read tail.1.1 in
    subst IsFormed is
    (and_from _ _ (most-read 0 31 (bus.0.1) device.0 device.1.0) (most-read 0 63 (device.0.1) register.0 register.1.0))

pub register_write-formed : (words : Words) (read : Statement × Words) → register_write_form words ≡ Ok read → IsFormed (read.0)
unfolding register_write_form
register_write-formed words read h =
    let bus = on-ok (decimal 0 255 words) _ read h in
    let device = on-ok (decimal 0 31 (bus.0.1)) _ read bus.1.1 in
    let register = on-ok (decimal 0 63 (device.0.1)) _ read device.1.1 in
    let phase = on-ok (data_word (register.0.1)) _ read register.1.1 in
    let is = give-ok _ (phase.0.1) read phase.1.1 in
    subst IsFormed is
    (and_from _ _ (and_from _ _ (most-read 0 31 (bus.0.1) device.0 device.1.0) (most-read 0 63 (device.0.1) register.0 register.1.0))
    (phase-read (register.0.1) phase.0 phase.1.0))

pub poll-formed : (wide : Bool) (space : Space) (differs : Bool) → is_target_space space ≡ true → (words : Words) (read : Statement × Words) → poll_form wide space differs words ≡ Ok read → IsFormed (read.0)
unfolding poll_form
poll-formed wide space differs named words read h =
    let address = on-ok (long (is_wide_in wide space) words) _ read h in
    let mask = on-ok (hex 8 (address.0.1)) _ read address.1.1 in
    let value = on-ok (hex 8 (mask.0.1)) _ read mask.1.1 in
    let tries = on-ok (decimal 1 most_tries (value.0.1)) _ read value.1.1 in
    let is = give-ok _ (tries.0.1) read tries.1.1 in
    subst IsFormed is
    (and_from _ _
    (word-ok (long_of (is_wide_in wide space)) (λ n. is_address space n ≡ true) (address-by wide space named) words address.0 address.1.0)
    (decimal-read 1 most_tries (value.0.1) tries.0 tries.1.0))

planned-formed : (words : Words) (read : Planned × Words) → planned_form words ≡ Ok read → is_well_formed_plan (read.0) ≡ true
unfolding planned_form
planned-formed words read h =
    let bus = on-ok (decimal 0 255 words) _ read h in
    let up = on-ok (one_word direction_of_word (bus.0.1)) _ read bus.1.1 in
    let count = on-ok (decimal 1 1000000 (up.0.1)) _ read up.1.1 in
    let is = give-ok _ (count.0.1) read count.1.1 in
    let P : Planned → Type 0 = λ p. is_well_formed_plan p ≡ true in
    subst P is (decimal-read 1 1000000 (up.0.1) count.0 count.1.0)

pub discard-formed : (words : Words) (read : Statement × Words) → discard_form words ≡ Ok read → IsFormed (read.0)
unfolding discard_form
discard-formed words read h =
    let planned = on-ok (planned_form words) _ read h in
    let is = give-ok _ (planned.0.1) read planned.1.1 in
    subst IsFormed is (planned-formed words planned.0 planned.1.0)

pub drop-formed : (words : Words) (read : Statement × Words) → drop_form words ≡ Ok read → IsFormed (read.0)
unfolding drop_form
drop-formed words read h =
    let planned = on-ok (planned_form words) _ read h in
    let is = give-ok _ (planned.0.1) read planned.1.1 in
    subst IsFormed is (planned-formed words planned.0 planned.1.0)
