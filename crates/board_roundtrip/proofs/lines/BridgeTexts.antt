-- The line of a bridge as it is printed is read as what it says.
use Rattle.std.proofs.Common.{◌≡◌, ℕ, ◌+◌, ◌%◌, ◌^◌, ◌<◌, ◌≤◌, Bool, true, false, cond, eqb, ltb, leb, ◌&&◌, ◌||◌, List, [], ◌∷◌, ◌++◌, Option, Some, None, Result, Ok, arith, refl, sym, ap}
use Rattle.std.specs.Prelude.{codes}
use Rattle.std.specs.Str.{bytes_eq}
use Rattle.std.specs.Fmt.{decimal}
use Rattle.std.proofs.lemmas.Bool.{lt-ltb, eqb-true}
use Rattle.board_model.specs.Limits.{most_posted, most_delayed}
use Rattle.board_model.specs.declared.bridge.Window.{Window}
use Rattle.board_model.specs.declared.bridge.Bridge.{Bridge}
use Rattle.board_model.specs.WellFormed.{is_window, is_well_formed_bridge}
use Rattle.board_printer.specs.Numbers.{address_text}
use Rattle.board_printer.specs.Bridges.{window_words, depth_words, mode_words, bridge_line}
use Rattle.board_printer.specs.Boards.{is_short, is_short_window, is_short_bridge}
use Rattle.text_faults.specs.declared.board_line.LineFault.{LineFault}
use Rattle.board_statements.specs.declared.statement.Statement.TheVariants.{NewBridge}
use Rattle.board_statements.specs.Words.{has_mark, begins_with, decimal_of, fixed_of}
use Rattle.board_statements.specs.Keywords.{line_form}
use Rattle.board_statements.specs.Bridges.{window, depth, abort_mode, bridge_form}
use Rattle.board_statements.specs.Statements.{behind_word, statement_form, statement_of}
use Rattle.board_model.specs.Fits.{BridgeFits}
use Rattle.board_roundtrip.proofs.lines.NumberTexts.{decimal_is_read}
use Rattle.board_roundtrip.proofs.lines.PartTexts.{address_is_read, address_has_none}
use Rattle.board_roundtrip.proofs.lines.TargetTexts.{first_may, second_may}
use Rattle.board_model.proofs.Laws.{Window-parts, Bridge-parts}

-- a word with no such byte does not begin with one
not_this : (mark : ℕ) (word rest : List ℕ) → has_mark mark word ≡ false → bytes_eq word (mark ∷ rest) ≡ false
not_this mark [] rest none = refl
not_this mark (byte ∷ word) rest none =
    let here : eqb byte mark ≡ false = grind arith in
    rw here refl

not_none : (n : ℕ) → bytes_eq (address_text n) (codes "none") ≡ false
not_none n = not_this 110 (address_text n) (codes "one") (address_has_none 110 n refl refl)

-- What does not begin with a word.

skip_window : (expected word : List ℕ) (frame : Option Window) (rest : List (List ℕ)) → bytes_eq word expected ≡ false → begins_with expected rest ≡ false → begins_with expected (window_words word frame ++ rest) ≡ false
skip_window expected word None rest other behind = behind
skip_window expected word (Some it) rest other behind = other

skip_depth : (expected word : List ℕ) (n : ℕ) (rest : List (List ℕ)) → bytes_eq word expected ≡ false → begins_with expected rest ≡ false → begins_with expected (depth_words word n ++ rest) ≡ false
skip_depth expected word n rest other behind =
    let P : Bool → Type 0 = λ b. begins_with expected (cond b [] (word ∷ decimal n ∷ []) ++ rest) ≡ false in
    elim (eqb n 4) as P [ true ↦ behind | false ↦ other ]

skip_mode : (expected : List ℕ) (mode : Bool) → bytes_eq (codes "abort") expected ≡ false → begins_with expected (mode_words mode) ≡ false
skip_mode expected true other = other
skip_mode expected false other = refl

-- What each group is read as.

abbrev WindowMay : Bool → Option Window → Type 0
WindowMay wide None = Unit {0}
WindowMay wide (Some it) = (it.base < 2 ^ 64) × (it.limit < 2 ^ 64) × ((wide || ltb it.base (2 ^ 32)) ≡ true) × ((wide || ltb it.limit (2 ^ 32)) ≡ true)

abbrev window_so : Option Window → List (List ℕ) → Result (Option Window × List (List ℕ)) LineFault
window_so frame rest = Ok (frame, rest)

window_is_read : (word : List ℕ) (wide : Bool) (frame : Option Window) (rest : List (List ℕ)) → bytes_eq word word ≡ true → WindowMay wide frame → begins_with word rest ≡ false → window word wide (window_words word frame ++ rest) ≡ window_so frame rest
unfolding window
window_is_read word wide None rest same may behind = rw behind refl
window_is_read word wide (Some it) rest same may behind =
    rw (same, not_none it.base, address_is_read wide it.base may.0 may.2, address_is_read wide it.limit may.1 may.3) refl

abbrev depth_so : ℕ → List (List ℕ) → Result (ℕ × List (List ℕ)) LineFault
depth_so n rest = Ok (n, rest)

depth_is_read : (word : List ℕ) (most n : ℕ) (rest : List (List ℕ)) → bytes_eq word word ≡ true → 1 ≤ n → n ≤ most → most < 2 ^ 32
    → begins_with word rest ≡ false → depth word most (depth_words word n ++ rest) ≡ depth_so n rest
unfolding depth
depth_is_read word most n rest same some few small behind =
    let P : Bool → Type 0 = λ b. eqb n 4 ≡ b → depth word most (cond b [] (word ∷ decimal n ∷ []) ++ rest) ≡ depth_so n rest in
    (elim (eqb n 4) as P [
      | true ↦ λ four. rw behind (ap (λ (d : ℕ). depth_so d rest) (sym (eqb-true _ _ four)))
      | false ↦ λ other. rw (same, decimal_is_read 1 most n some few small) refl
    ]) refl

abbrev mode_so : Bool → Result (Bool × List (List ℕ)) LineFault
mode_so mode = Ok (mode, [])

mode_is_read : (mode : Bool) → abort_mode (mode_words mode) ≡ mode_so mode
unfolding abort_mode decimal_of
mode_is_read true = refl
mode_is_read false = refl

may_short : (unit : ℕ) (frame : Option Window) → is_window unit (2 ^ 32) frame ≡ true → WindowMay false frame
may_short unit None formed = tt
may_short unit (Some it) formed =
    let is = Window-parts unit (2 ^ 32) it formed in
    let below = is.ends in
    let ordered = is.ordered in
    (omega arith, omega arith, lt-ltb _ _ (omega arith), lt-ltb _ _ below)

may_long : (wide : Bool) (unit : ℕ) (frame : Option Window) → is_window unit (2 ^ 64) frame ≡ true → (wide || is_short_window frame) ≡ true → WindowMay wide frame
may_long wide unit None formed may = tt
may_long wide unit (Some it) formed may =
    let is = Window-parts unit (2 ^ 64) it formed in
    let below = is.ends in
    let ordered = is.ordered in
    (omega arith, below, first_may wide (is_short it.base) (is_short it.limit) may, second_may wide (is_short it.base) (is_short it.limit) may)

-- the prefetchable window is short where the bridge is
pref_may : (wide : Bool) (bridge : Bridge) → (wide || is_short_bridge bridge) ≡ true → (wide || is_short_window bridge.pref) ≡ true
pref_may wide bridge may =
    let others = second_may wide (is_short_window bridge.mem) (is_short_window bridge.pref && is_short_window bridge.io) may in
    first_may wide (is_short_window bridge.pref) (is_short_window bridge.io) others

pub bridge_is_read : (wide : Bool) (bridge : Bridge) → BridgeFits bridge → is_well_formed_bridge bridge ≡ true → (wide || is_short_bridge bridge) ≡ true → statement_of wide (bridge_line bridge) ≡ Ok (NewBridge bridge)
unfolding statement_of statement_form behind_word line_form bridge_form fixed_of
bridge_is_read wide bridge fits formed may =
    let it = Bridge-parts bridge formed in
    let of_bus = fits.bus in
    let of_parent = fits.parent in
    let of_last = fits.last in
    let modes = mode_words bridge.mode in
    let delays = depth_words (codes "delayed") bridge.delayed ++ modes in
    let posts = depth_words (codes "posted") bridge.posted ++ delays in
    let ios = window_words (codes "io") bridge.io ++ posts in
    let prefs = window_words (codes "pref") bridge.pref ++ ios in
    let delayed_modes = skip_mode (codes "delayed") bridge.mode refl in
    let posted_delays = skip_depth (codes "posted") (codes "delayed") bridge.delayed modes refl (skip_mode (codes "posted") bridge.mode refl) in
    let io_posts = skip_depth (codes "io") (codes "posted") bridge.posted delays refl (skip_depth (codes "io") (codes "delayed") bridge.delayed modes refl (skip_mode (codes "io") bridge.mode refl)) in
    let pref_ios = skip_window (codes "pref") (codes "io") bridge.io posts refl (skip_depth (codes "pref") (codes "posted") bridge.posted delays refl (skip_depth (codes "pref") (codes "delayed") bridge.delayed modes refl (skip_mode (codes "pref") bridge.mode refl))) in
    let mem_prefs = skip_window (codes "mem") (codes "pref") bridge.pref ios refl (skip_window (codes "mem") (codes "io") bridge.io posts refl (skip_depth (codes "mem") (codes "posted") bridge.posted delays refl (skip_depth (codes "mem") (codes "delayed") bridge.delayed modes refl (skip_mode (codes "mem") bridge.mode refl)))) in
    rw (
      decimal_is_read 1 255 bridge.bus it.bus (omega arith) (omega arith),
      decimal_is_read 0 255 bridge.parent (omega arith) (omega arith) (omega arith),
      decimal_is_read 0 31 bridge.device (omega arith) it.device (omega arith),
      decimal_is_read 0 255 bridge.last (omega arith) (omega arith) (omega arith),
      window_is_read (codes "mem") false bridge.mem prefs refl (may_short (2 ^ 20) bridge.mem it.mem) mem_prefs,
      window_is_read (codes "pref") wide bridge.pref ios refl (may_long wide (2 ^ 20) bridge.pref it.pref (pref_may wide bridge may)) pref_ios,
      window_is_read (codes "io") false bridge.io posts refl (may_short (2 ^ 12) bridge.io it.io) io_posts,
      depth_is_read (codes "posted") most_posted bridge.posted delays refl it.posted.from it.posted.to (omega arith) posted_delays,
      depth_is_read (codes "delayed") most_delayed bridge.delayed modes refl it.delayed.from it.delayed.to (omega arith) delayed_modes,
      mode_is_read bridge.mode,
    ) refl
