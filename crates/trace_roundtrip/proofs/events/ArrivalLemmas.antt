-- The line of an arrival, as it is printed, is read as the arrival.
use Rattle.std.proofs.Common.{◌≡◌, ℕ, ◌≤◌, Bool, true, false, cond, not, eqb, ◌||◌, List, [], ◌∷◌, Option, Some, Ok, refl, arith}
use Rattle.std.specs.Prelude.{codes, slice_get}
use Rattle.std.specs.List.{list_all, list_any, find}
use Rattle.std.specs.Option.{option_and_then}
use Rattle.std.specs.Fmt.{decimal}
use Rattle.std.proofs.lemmas.Bool.{or_parts, or_right, not-false, eq-eqb}
use Rattle.board_model.specs.declared.agents.Target.{Target}
use Rattle.board_model.specs.declared.agents.Master.{Master}
use Rattle.board_model.specs.declared.bridge.Bridge.{Bridge}
use Rattle.board_model.specs.declared.bridge.Lane.{Lane as BridgeLane}
use Rattle.board_model.specs.declared.board.Board.{Board}
use Rattle.board_model.specs.declared.board.Planned.{Planned}
use Rattle.board_model.specs.Ways.{primary_in, primary_of, end_of}
use Rattle.board_model.specs.Valid.{has_bridge_to, is_bus, lacks_a_bus}
use Rattle.history_model.specs.declared.event.Mark.{Mark}
use Rattle.history_model.specs.declared.event.Mark.TheVariants.{Plain, Discard, Drop}
use Rattle.history_model.specs.declared.event.Event.TheVariants.{Arrive}
use Rattle.board_model.specs.Fits.{BoardFits}
use Rattle.board_roundtrip.proofs.lines.AllowedTexts.{width}
use Rattle.board_roundtrip.specs.words.Printed.{is_word, has_words_alone, joined}
use Rattle.trace_text.specs.Words.{lane_word}
use Rattle.trace_text.specs.Events.{mark_words, arrival_line}
use Rattle.board_roundtrip.proofs.words.Laws.{decimal_word}
use Rattle.trace_reader.specs.declared.lines.kind.EventWord.TheVariants as kinds
use Rattle.trace_reader.specs.lines.Words.{only_where, bus_in, lane_in}
use Rattle.trace_reader.specs.declared.lines.line.TraceLine.TheVariants.{Happens}
use Rattle.trace_reader.specs.lines.Events.{mark_at_end, has_words_for, arrival_in}
use Rattle.trace_reader.specs.lines.Lines.{line_of}
use Rattle.trace_roundtrip.proofs.names.NumberLemmas.{number_is_short}
use Rattle.trace_roundtrip.proofs.events.LineLemmas.{event_by_kind}
use Rattle.trace_roundtrip.proofs.events.LaneLemmas.{lane_small, bus_small, bus_read, bus_no_end, lane_read, lane_plain, lane_short}

-- the bus above each bridge is one of the board
above_is_bus : (test : ℕ → Bool) (pick : Bridge → Bool) (bridges : List Bridge) → test 0 ≡ true → list_any (λ (bridge : Bridge). not (test bridge.parent)) bridges ≡ false → test (primary_in (find pick bridges)) ≡ true
above_is_bus test pick [] root all = root
above_is_bus test pick (bridge ∷ bridges) root all =
    let parts = or_parts (not (test bridge.parent)) (list_any (λ (other : Bridge). not (test other.parent)) bridges) all in
    let later = above_is_bus test pick bridges root parts.1 in
    let P : Bool → Type 0 = λ b. test (primary_in (cond b (Some bridge) (find pick bridges))) ≡ true in
    elim (pick bridge) as P [ true ↦ not-false _ parts.0 | false ↦ later ]

-- where none of five holds, the first does not
first_of_five : (a b c d e : Bool) → (a || b || c || d || e) ≡ false → a ≡ false
first_of_five true b c d e none = absurd (let apart : true ≡ false = none in cc)
first_of_five false b c d e none = refl

-- no bridge of the board is below a bus that is not there
parents_are_buses : (board : Board) → lacks_a_bus board ≡ false → list_any (λ (bridge : Bridge). not (is_bus board bridge.parent)) board.bridges ≡ false
parents_are_buses board all =
    first_of_five (list_any (λ (bridge : Bridge). not (is_bus board bridge.parent)) board.bridges)
    (list_any (λ (target : Target). not (is_bus board target.bus)) board.targets)
    (list_any (λ (master : Master). not (is_bus board master.bus)) board.masters)
    (list_any (λ (planned : Planned). not (has_bridge_to board planned.bus)) board.discards)
    (list_any (λ (planned : Planned). not (has_bridge_to board planned.bus)) board.drops) all

-- the bus at an end, by the direction
end_by : (board : Board) (number : ℕ) (up : Bool) → lacks_a_bus board ≡ false → has_bridge_to board number ≡ true → is_bus board (cond up (primary_of board number) number) ≡ true
end_by board number true all there = above_is_bus (is_bus board) (λ bridge. eqb bridge.bus number) board.bridges refl (parents_are_buses board all)
end_by board number false all there = or_right (eqb number 0) (has_bridge_to board number) there

-- a lane ends on a bus of the board
pub end_is_bus : (board : Board) (lane : BridgeLane) → lacks_a_bus board ≡ false → has_bridge_to board lane.bus ≡ true → is_bus board (end_of board lane) ≡ true
end_is_bus board lane all there = end_by board lane.bus lane.up all there

-- what is known of the words of a mark
pub record MarkStands (mark : Mark) : Type 0 where
  pub read : (bus kind lane : List ℕ) → mark_at_end (slice_get (bus ∷ kind ∷ lane ∷ mark_words mark) 3) ≡ Some mark
  pub many : (bus kind lane : List ℕ) → has_words_for kinds.Arrive (bus ∷ kind ∷ lane ∷ mark_words mark) ≡ true
  pub plain : list_all is_word (mark_words mark) ≡ true
  pub short : width (mark_words mark) ≤ 8

-- so stand the words of each mark
mark_stands : (mark : Mark) → MarkStands mark
mark_stands Plain = record { read = λ bus kind lane. refl; many = λ bus kind lane. refl; plain = refl; short = omega arith }
mark_stands Discard = record { read = λ bus kind lane. refl; many = λ bus kind lane. refl; plain = refl; short = omega arith }
mark_stands Drop = record { read = λ bus kind lane. refl; many = λ bus kind lane. refl; plain = refl; short = omega arith }

-- three parts that are read, and agree, give the whole
three_parts : {A B C E : Type 0} (test : A → B → Bool) (f : B → C → E) (a : Option A) (b : Option B) (c : Option C) (x : A) (y : B) (z : C) → a ≡ Some x → b ≡ Some y → c ≡ Some z → test x y ≡ true → option_and_then (λ p. option_and_then (λ q. option_and_then (λ r. only_where (test p q) (Some (f q r))) c) b) a ≡ Some (f y z)
three_parts test f a b c x y z of_a of_b of_c agree = rw (of_a, of_b, of_c, agree) refl

-- its words are words
pub arrival_plain : (board : Board) (lane : BridgeLane) (mark : Mark) → BoardFits board → lacks_a_bus board ≡ false → has_bridge_to board lane.bus ≡ true → has_words_alone (arrival_line board lane mark) ≡ true
arrival_plain board lane mark fits all there =
    let stand = mark_stands mark in
    let few = bus_small board (end_of board lane) fits (end_is_bus board lane all there) in
    rw (decimal_word (end_of board lane) (omega arith), lane_plain lane (lane_small board lane.bus fits there)) stand.plain

-- and few enough
arrival_short : (board : Board) (lane : BridgeLane) (mark : Mark) → BoardFits board → lacks_a_bus board ≡ false → has_bridge_to board lane.bus ≡ true → width (arrival_line board lane mark) ≤ 257
arrival_short board lane mark fits all there =
    let stand = mark_stands mark in
    let few = bus_small board (end_of board lane) fits (end_is_bus board lane all there) in
    let one = number_is_short (end_of board lane) (omega arith) in
    let two = lane_short lane (lane_small board lane.bus fits there) in
    let three = stand.short in
    omega (arith, one, two, three)

-- the line is read as the arrival
pub arrival_read : (board : Board) (lane : BridgeLane) (mark : Mark) → BoardFits board → lacks_a_bus board ≡ false → has_bridge_to board lane.bus ≡ true → line_of board (joined (arrival_line board lane mark)) ≡ Ok (Happens (Arrive lane mark))
arrival_read board lane mark fits all there =
    let stand = mark_stands mark in
    let bus = end_of board lane in
    let is = end_is_bus board lane all there in
    let rest : List (List ℕ) = lane_word lane ∷ mark_words mark in
    let words : List (List ℕ) = decimal bus ∷ codes "arrive" ∷ rest in
    let whole : arrival_in board words ≡ Some (Arrive lane mark) =
    three_parts (λ (b : ℕ) (l : BridgeLane). eqb (end_of board l) b) (λ (l : BridgeLane) (m : Mark). Arrive l m) (bus_in board (decimal bus)) (lane_in board (lane_word lane)) (mark_at_end (slice_get words 3)) bus lane mark
    (bus_read board bus fits is) (lane_read board lane fits there) (stand.read (decimal bus) (codes "arrive") (lane_word lane)) (eq-eqb bus bus refl) in
    event_by_kind board (decimal bus) (codes "arrive") rest kinds.Arrive (Arrive lane mark)
    (arrival_plain board lane mark fits all there)
    (arrival_short board lane mark fits all there)
    (bus_no_end bus (bus_small board bus fits is)) refl
    (stand.many (decimal bus) (codes "arrive") (lane_word lane))
    whole
