-- Buses, bridges, lanes and initiators, as they are printed, are read as the same.
use Rattle.std.proofs.Common.{◌≡◌, ℕ, ◌^◌, ◌<◌, ◌≤◌, Bool, true, false, cond, ltb, List, [], ◌∷◌, ◌++◌, length, Some, None, inl, inr, refl, ap, ◌∙◌, arith}
use Rattle.std.specs.Prelude.{codes}
use Rattle.std.specs.List.{list_all, list_any, AllByRecursion}
use Rattle.std.specs.Str.{bytes_eq}
use Rattle.std.specs.Option.{option_map}
use Rattle.std.specs.Fmt.{decimal}
use Rattle.std.proofs.lemmas.Bool.{and_parts, or_cases, eqb-true, ltb-true, lt-ltb, le-leb, false_from_ne_true}
use Rattle.std.proofs.lemmas.List.{length-append, get_or_at, take_at}
use Rattle.std.proofs.lemmas.List.Folds.{list_all-append}
use Rattle.std.proofs.lemmas.Slice.Eq.{bytes_eq-Decides}
use Rattle.board_model.specs.declared.bridge.Bridge.{Bridge}
use Rattle.board_model.specs.declared.bridge.Lane.{Lane as BridgeLane}
use Rattle.board_model.specs.declared.board.Board.{Board}
use Rattle.board_model.specs.WellFormed.{has_bus}
use Rattle.board_model.specs.Valid.{has_bridge_to, is_bus}
use Rattle.history_model.specs.declared.event.By.{By}
use Rattle.history_model.specs.declared.event.By.TheVariants.{Master, Lane as FromLane}
use Rattle.board_model.specs.Fits.{BridgeFits}
use Rattle.board_model.specs.Fits.{BoardFits}
use Rattle.board_roundtrip.specs.words.Printed.{is_word_byte, is_word}
use Rattle.trace_text.specs.Words.{lane_word, by_word}
use Rattle.trace_text.specs.Events.{has_initiator}
use Rattle.trace_reader.specs.lines.Words.{number_of, at_most, bus_in, bridge_in, towards, without_last, last_byte, lane_in, by_in}
use Rattle.trace_roundtrip.proofs.names.NumberLemmas.{number_is_read, number_is_short}
use Rattle.board_roundtrip.proofs.words.Laws.{decimal_word}

-- the number of a bridge of the board fits eight bits
bridge_small : (bus : ℕ) (bridges : List Bridge) → AllByRecursion BridgeFits bridges → list_any (has_bus bus) bridges ≡ true → bus < 2 ^ 8
bridge_small bus [] fits there = absurd (let apart : false ≡ true = there in cc)
bridge_small bus (bridge ∷ bridges) fits there =
    elim (or_cases (has_bus bus bridge) (list_any (has_bus bus) bridges) there) [
      | inl here ↦ let same : bridge.bus ≡ bus = eqb-true _ _ here in let below = fits.0.bus in omega arith
      | inr later ↦ bridge_small bus bridges fits.1 later
    ]

-- so does that of a lane of the board
pub lane_small : (board : Board) (bus : ℕ) → BoardFits board → has_bridge_to board bus ≡ true → bus < 2 ^ 8
lane_small board bus fits there = bridge_small bus board.bridges fits.bridges there

-- so does that of any bus of the board
pub bus_small : (board : Board) (bus : ℕ) → BoardFits board → is_bus board bus ≡ true → bus < 2 ^ 8
bus_small board bus fits there =
    elim (or_cases _ (has_bridge_to board bus) there) [
      | inl root ↦ let same : bus ≡ 0 = eqb-true _ _ root in omega arith
      | inr later ↦ lane_small board bus fits later
    ]

-- a number of so few bits is at most 255
pub at_most_so : (most n : ℕ) → n ≤ most → at_most most (Some n) ≡ Some n
at_most_so most n few = rw (le-leb n most few) refl

-- the number of a bus is read as the bus
pub bus_read : (board : Board) (bus : ℕ) → BoardFits board → is_bus board bus ≡ true → bus_in board (decimal bus) ≡ Some bus
bus_read board bus fits there =
    let below = bus_small board bus fits there in
    rw (number_is_read bus (omega arith), le-leb bus 255 (omega arith), there) refl

-- the number of a bridge is read as the bridge
pub bridge_read : (board : Board) (bus : ℕ) → BoardFits board → has_bridge_to board bus ≡ true → bridge_in board (decimal bus) ≡ Some bus
bridge_read board bus fits there =
    let below = lane_small board bus fits there in
    rw (number_is_read bus (omega arith), le-leb bus 255 (omega arith), there) refl

-- the number of a bus is not the word `end`
pub bus_no_end : (n : ℕ) → n < 2 ^ 8 → bytes_eq (decimal n) (codes "end") ≡ false
bus_no_end n below =
    false_from_ne_true _ (λ same.
    let equal : decimal n ≡ codes "end" = (bytes_eq-Decides (decimal n) (codes "end")).0 same in
    let none : number_of (codes "end") ≡ None = refl in
    let one : number_of (decimal n) ≡ number_of (codes "end") = ap number_of equal in
    let read = number_is_read n (omega arith) in
    absurd (cc))

-- Lanes.

-- the last byte behind a word
last_is : (word : List ℕ) (byte : ℕ) → last_byte (word ++ byte ∷ []) ≡ byte
last_is word byte =
    let sum = length-append word (byte ∷ []) in
    get_or_at word byte [] 0 _ (omega (arith, sum))

-- the word before a last byte
front_is : (word : List ℕ) (byte : ℕ) → without_last (word ++ byte ∷ []) ≡ word
front_is word byte =
    let sum = length-append word (byte ∷ []) in
    take_at word (byte ∷ []) _ (omega (arith, sum))

-- `u` for up or `d` for down
abbrev direction : Bool → List ℕ
direction up = cond up (codes "u") (codes "d")

-- a number and a direction are read as the lane
direction_read : (board : Board) (number : ℕ) (up : Bool) → BoardFits board → has_bridge_to board number ≡ true → lane_in board (decimal number ++ direction up) ≡ Some (towards up number)
direction_read board number true fits there =
    rw (last_is (decimal number) 117, front_is (decimal number) 117) (ap (option_map (towards true)) (bridge_read board number fits there))
direction_read board number false fits there =
    rw (last_is (decimal number) 100, front_is (decimal number) 100) (ap (option_map (towards false)) (bridge_read board number fits there))

-- a lane is read as the lane
pub lane_read : (board : Board) (lane : BridgeLane) → BoardFits board → has_bridge_to board lane.bus ≡ true → lane_in board (lane_word lane) ≡ Some lane
lane_read board lane fits there = direction_read board lane.bus lane.up fits there

-- more bytes of words behind a word
pub longer_word : (word more : List ℕ) → is_word word ≡ true → list_all is_word_byte more ≡ true → is_word (word ++ more) ≡ true
longer_word word more good rest =
    let parts = and_parts (ltb 0 (length word)) (list_all is_word_byte word) good in
    let some = ltb-true _ _ parts.0 in
    let sum = length-append word more in
    let long : ltb 0 (length (word ++ more)) ≡ true = lt-ltb _ _ (omega (arith, some, sum)) in
    rw long (list_all-append is_word_byte word more ∙ rw (parts.1, rest) refl)

-- a direction is of bytes of words
direction_plain : (up : Bool) → list_all is_word_byte (direction up) ≡ true
direction_plain true = refl
direction_plain false = refl

-- it is a word
pub lane_plain : (lane : BridgeLane) → lane.bus < 2 ^ 8 → is_word (lane_word lane) ≡ true
lane_plain lane below = longer_word (decimal lane.bus) (direction lane.up) (decimal_word lane.bus (omega arith)) (direction_plain lane.up)

-- a direction is one byte
direction_length : (up : Bool) → length (direction up) ≡ 1
direction_length true = refl
direction_length false = refl

-- of so few bytes
pub lane_short : (lane : BridgeLane) → lane.bus < 2 ^ 8 → length (lane_word lane) ≤ 11
lane_short lane below =
    let sum = length-append (decimal lane.bus) (direction lane.up) in
    let last = direction_length lane.up in
    let front = number_is_short lane.bus (omega arith) in
    omega (arith, sum, last, front)

-- texts of different lengths differ
pub lengths_differ : (xs ys : List ℕ) → (length xs ≡ length ys → ⊥) → bytes_eq xs ys ≡ false
lengths_differ xs ys differ = false_from_ne_true _ (λ same. differ (ap length ((bytes_eq-Decides xs ys).0 same)))

-- a word has a byte
word_long : (word : List ℕ) → is_word word ≡ true → 0 < length word
word_long word good = ltb-true _ _ (and_parts (ltb 0 (length word)) (list_all is_word_byte word) good).0

-- Initiators.

-- a lane is not the word `m`
lane_no_master : (lane : BridgeLane) → lane.bus < 2 ^ 8 → bytes_eq (lane_word lane) (codes "m") ≡ false
lane_no_master lane below =
    let sum = length-append (decimal lane.bus) (direction lane.up) in
    let last = direction_length lane.up in
    let front = word_long (decimal lane.bus) (decimal_word lane.bus (omega arith)) in
    lengths_differ (lane_word lane) (codes "m") (λ same. omega (arith, sum, last, front, same))

-- an initiator is read as the initiator
pub by_read : (board : Board) (by : By) → BoardFits board → has_initiator board by ≡ true → by_in board (by_word by) ≡ Some by
by_read board Master fits there = refl
by_read board (FromLane lane) fits there =
    let below = lane_small board lane.bus fits there in
    rw (lane_no_master lane below) (ap (option_map FromLane) (lane_read board lane fits there))

-- it is a word
pub by_plain : (board : Board) (by : By) → BoardFits board → has_initiator board by ≡ true → is_word (by_word by) ≡ true
by_plain board Master fits there = refl
by_plain board (FromLane lane) fits there = lane_plain lane (lane_small board lane.bus fits there)

-- of so few bytes
pub by_short : (board : Board) (by : By) → BoardFits board → has_initiator board by ≡ true → length (by_word by) ≤ 11
by_short board Master fits there = omega arith
by_short board (FromLane lane) fits there = lane_short lane (lane_small board lane.bus fits there)
