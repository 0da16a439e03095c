-- A block of signals that is passed over has none that is touched.
use Rattle.std.proofs.Common.{◌≡◌, ℕ, ◌+◌, ◌<◌, ◌≤◌, zero, suc, Bool, true, false, eqb, leb, ◌&&◌, ◌||◌, min, max, List, [], ◌++◌, length, drop, get_or, Option, Some, None, refl, sym, ap, subst, ◌∙◌, arith, slice_get, eqb-true}
use Rattle.std.proofs.lemmas.Bool.{le-leb, leb-true, leb-false}
use Rattle.std.proofs.lemmas.Bool.Decides.{nat_tests}
use Rattle.std.proofs.lemmas.List.{drop_all}
use Rattle.std.proofs.lemmas.Option.{slice_get-get_or, slice_get_within}
use Rattle.std.proofs.Math.Seq.{drop-cons}
use Rattle.std.specs.Option.{option_map, option_and_then}
use Rattle.pci_command.specs.declared.op_id.OpId.{OpId}
use Rattle.board_model.specs.declared.bridge.Place.{Place}
use Rattle.board_model.specs.declared.bridge.Place.TheVariants as places
use Rattle.board_model.specs.declared.board.Board.{Board}
use Rattle.history_model.specs.declared.event.By.{By}
use Rattle.history_model.specs.declared.event.By.TheVariants.{Master, Lane as ByLane}
use Rattle.history_model.specs.declared.event.Event.{Event}
use Rattle.history_model.specs.declared.event.Event.TheVariants.{Act, Arrive}
use Rattle.board_printer.specs.Lines.{Line}
use Rattle.run_waves.specs.declared.blocks.BlockSpan.{BlockSpan}
use Rattle.run_waves.specs.declared.scene.Scene.{Scene}
use Rattle.run_waves.specs.declared.reading.SignalReading.{SignalReading}
use Rattle.run_waves.specs.declared.signal.BusPart.TheVariants as parts
use Rattle.run_waves.specs.declared.signal.Signal.{Signal}
use Rattle.run_waves.specs.declared.signal.Signal.TheVariants.{Bus, Lane, Index, Try, Waits, Stall}
use Rattle.run_waves.specs.declared.touched.Touch.{Touch}
use Rattle.run_waves.specs.Shown.{Moment}
use Rattle.run_waves.specs.Scenes.{Follows, Reads, ReadsFrom, ReadsBelow, scene_of}
use Rattle.run_waves.specs.Dump.{change_line, change_lines}
use Rattle.run_waves.specs.Touched.{presents_over, claims_over, moves_lanes, moves_master, claims_at, moves_target, is_at, happens_so, may_change, touch_of}
use Rattle.run_waves.specs.Homes.{bus_of_master, bus_of_target, home, presenter_bus, claimer_bus, mover_bus, taker_bus}
use Rattle.run_waves.specs.Blocks.{is_in, holds, meets, lines_from, Spans, AreSpans}
use Rattle.run_waves.proofs.TouchLemmas.{neither_left, neither_right, untouched_line, untouched_reads}

neither : (a b : Bool) → a ≡ false → b ≡ false → (a || b) ≡ false
neither a b e f = ap (λ (x : Bool). x || b) e ∙ f

both_left : (a b : Bool) → (a && b) ≡ true → a ≡ true
both_left true b e = refl
both_left false b e = e

both_right : (a b : Bool) → (a && b) ≡ true → b ≡ true
both_right true b e = e
both_right false b e = cc

both : (a b : Bool) → a ≡ true → b ≡ true → (a && b) ≡ true
both a b e f = ap (λ (x : Bool). x && b) e ∙ f

-- Spans.

-- a bus more
pub wider : (span : BlockSpan) (bus other : ℕ) → is_in span other ≡ true → is_in (record { low = min span.low bus; high = max span.high bus }) other ≡ true
wider span bus other inside =
    let low : span.low ≤ other = leb-true span.low other (both_left (leb span.low other) (leb other span.high) inside) in
    let high : other ≤ span.high = leb-true other span.high (both_right (leb span.low other) (leb other span.high) inside) in
    both (leb (min span.low bus) other) (leb other (max span.high bus)) (le-leb (min span.low bus) other (omega (arith, low))) (le-leb other (max span.high bus) (omega (arith, high)))

pub now_in : (span : BlockSpan) (bus : ℕ) → is_in (record { low = min span.low bus; high = max span.high bus }) bus ≡ true
now_in span bus = both (leb (min span.low bus) bus) (leb bus (max span.high bus)) (le-leb (min span.low bus) bus (omega arith)) (le-leb bus (max span.high bus) (omega arith))

-- the signals from a place on up to another belong to buses in the span
abbrev pub SpansTo : Board → List Signal → ℕ → ℕ → BlockSpan → Type 0
SpansTo board signals start end span = (k : ℕ) (signal : Signal) → start ≤ k → k < end → slice_get signals k ≡ Some signal → is_in span (home board signal) ≡ true

-- a signal more
pub span_more : (board : Board) (signals : List Signal) (start n bus low high : ℕ) (d : Signal) (span : BlockSpan) → n < length signals → bus ≡ home board (get_or signals n d) → low ≡ min span.low bus → high ≡ max span.high bus → SpansTo board signals start n span
    → SpansTo board signals start (n + 1) (record { low = low; high = high })
span_more board signals start n bus low high d span within bus_is low_is high_is before = λ k signal from less is.
    let wide : BlockSpan = record { low = min span.low bus; high = max span.high bus } in
    let same_span : wide ≡ record { low = low; high = high } = ap (λ (l : ℕ). record { low = l; high = max span.high bus }) (sym low_is) ∙ ap (λ (h : ℕ). record { low = low; high = h }) (sym high_is) in
    let P : Bool → Type 0 = λ b. eqb n k ≡ b → is_in wide (home board signal) ≡ true in
    subst (λ (s : BlockSpan). is_in s (home board signal) ≡ true) same_span ((elim (eqb n k) as P [
      | true ↦ λ same.
          let there : slice_get signals n ≡ Some (get_or signals n d) = slice_get-get_or signals n d within in
          let one : Some signal ≡ Some (get_or signals n d) = sym is ∙ ap (slice_get signals) (sym (eqb-true n k same)) ∙ there in
          let signal_is : signal ≡ get_or signals n d = cc in
          ap (λ (s : Signal). is_in wide (home board s)) signal_is ∙ ap (is_in wide) (sym bus_is) ∙ now_in span bus
      | false ↦ λ differ.
          let less : k < n = grind (arith, nat_tests) in
          wider span bus (home board signal) (before k signal from less is)
    ]) refl)

-- each block has its span, by the program's own board, signals and spans
pub spans_given : (given board : Board) (signals s1 : List Signal) (spans p1 : List BlockSpan) → given ≡ board → signals ≡ s1 → spans ≡ p1 → AreSpans given signals spans → AreSpans board s1 p1
spans_given given board signals s1 spans p1 same signals_are spans_are each =
    subst (λ (l : List BlockSpan). AreSpans board s1 l) spans_are (subst (λ (l : List Signal). AreSpans board l spans) signals_are (subst (λ (b : Board). AreSpans b signals spans) same each))

-- What is touched belongs to one of these buses.

apart : (P : ℕ → Bool) (a b : ℕ) → P b ≡ true → P a ≡ false → eqb a b ≡ false
apart P a b here gone =
    let Q : Bool → Type 0 = λ x. eqb a b ≡ x → x ≡ false in
    (elim (eqb a b) as Q [
      | true ↦ λ same. sym here ∙ ap P (sym (eqb-true a b same)) ∙ gone
      | false ↦ λ differ. refl
    ]) refl

not_at : (span : BlockSpan) (bus : ℕ) (found : Option ℕ) → is_in span bus ≡ true → holds span found ≡ false → is_at bus found ≡ false
not_at span bus None inside off = refl
not_at span bus (Some other) inside off = apart (is_in span) other bus inside off

no_presenter : (board : Board) (span : BlockSpan) (by : By) (o : OpId) (bus : ℕ) → is_in span bus ≡ true → is_in span (presenter_bus board by o) ≡ false → presents_over by bus ≡ false
no_presenter board span Master o bus inside off = refl
no_presenter board span (ByLane lane) o bus inside off = apart (is_in span) lane.bus bus inside off

no_claimer : (board : Board) (span : BlockSpan) (place : Place) (bus : ℕ) → is_in span bus ≡ true → holds span (claimer_bus board place) ≡ false → claims_over place bus ≡ false
no_claimer board span (places.Target target) bus inside off = refl
no_claimer board span (places.Header header) bus inside off = refl
no_claimer board span (places.Lane lane) bus inside off = apart (is_in span) lane.bus bus inside off
no_claimer board span places.Nobody bus inside off = refl

no_target : (board : Board) (span : BlockSpan) (place : Place) (target : ℕ) → is_in span (bus_of_target board target) ≡ true → holds span (claimer_bus board place) ≡ false → claims_at place target ≡ false
no_target board span (places.Target place) target inside off = apart (λ (t : ℕ). is_in span (bus_of_target board t)) place target inside off
no_target board span (places.Header header) target inside off = refl
no_target board span (places.Lane lane) target inside off = refl
no_target board span places.Nobody target inside off = refl

-- an event of other buses
abbrev Off : Board → BlockSpan → Event → Type 0
Off board span e = (is_in span (mover_bus board e) ≡ false) × (holds span (taker_bus board e) ≡ false)

lanes_off : (board : Board) (span : BlockSpan) (e : Event) (bus : ℕ) → is_in span bus ≡ true → Off board span e → moves_lanes bus e ≡ false
lanes_off board span (Act on by o step place) bus inside off =
    neither (presents_over by bus) (claims_over place bus) (no_presenter board span by o bus inside off.0) (no_claimer board span place bus inside off.1)
lanes_off board span (Arrive lane mark) bus inside off = apart (is_in span) lane.bus bus inside off.0

master_off : (board : Board) (span : BlockSpan) (e : Event) (master : ℕ) → is_in span (bus_of_master board master) ≡ true → Off board span e → moves_master master e ≡ false
master_off board span (Act on Master o step place) master inside off = apart (λ (m : ℕ). is_in span (bus_of_master board m)) o.master master inside off.0
master_off board span (Act on (ByLane lane) o step place) master inside off = refl
master_off board span (Arrive lane mark) master inside off = refl

target_off : (board : Board) (span : BlockSpan) (e : Event) (target : ℕ) → is_in span (bus_of_target board target) ≡ true → Off board span e → moves_target target e ≡ false
target_off board span (Act on by o step place) target inside off = no_target board span place target inside off.1
target_off board span (Arrive lane mark) target inside off = refl

happens_off : (board : Board) (span : BlockSpan) (test : Event → Bool) (to : Option Scene) → ((e : Event) → Off board span e → test e ≡ false)
    → holds span (option_map (λ (scene : Scene). mover_bus board scene.event) to) ≡ false → holds span (option_and_then (λ (scene : Scene). taker_bus board scene.event) to) ≡ false
    → happens_so test (option_map (λ (scene : Scene). scene.event) to) ≡ false
happens_off board span test None off mover taker = refl
happens_off board span test (Some scene) off mover taker = off scene.event (mover, taker)

span_off : (board : Board) (span : BlockSpan) (from to : Option Scene) (signal : Signal) → is_in span (home board signal) ≡ true → meets span (touch_of board from to) ≡ false → may_change (touch_of board from to) signal ≡ false
span_off board span from to signal inside off =
    let t : Touch = touch_of board from to in
    let a : Bool = holds span t.from in
    let b : Bool = holds span t.to in
    let c : Bool = holds span t.mover in
    let d : Bool = holds span t.taker in
    let behind : (b || (c || d)) ≡ false = neither_right a (b || (c || d)) off in
    let moved : (c || d) ≡ false = neither_right b (c || d) behind in
    by_kind signal inside (neither_left a (b || (c || d)) off) (neither_left b (c || d) behind) (neither_left c d moved) (neither_right c d moved)
  where
    by_kind : (s : Signal) → is_in span (home board s) ≡ true → holds span (touch_of board from to).from ≡ false → holds span (touch_of board from to).to ≡ false → holds span (touch_of board from to).mover ≡ false → holds span (touch_of board from to).taker ≡ false
        → may_change (touch_of board from to) s ≡ false
    by_kind (Bus bus part) inside before now mover taker = neither (is_at bus (touch_of board from to).from) (is_at bus (touch_of board from to).to) (not_at span bus _ inside before) (not_at span bus _ inside now)
    by_kind (Lane lane count) inside before now mover taker = happens_off board span (moves_lanes lane.bus) to (λ e. lanes_off board span e lane.bus inside) mover taker
    by_kind (Index master) inside before now mover taker = happens_off board span (moves_master master) to (λ e. master_off board span e master inside) mover taker
    by_kind (Try master) inside before now mover taker = happens_off board span (moves_master master) to (λ e. master_off board span e master inside) mover taker
    by_kind (Waits master) inside before now mover taker = happens_off board span (moves_master master) to (λ e. master_off board span e master inside) mover taker
    by_kind (Stall target) inside before now mover taker = happens_off board span (moves_target target) to (λ e. target_off board span e target inside) mover taker

-- Lines.

-- signals that write none
no_lines : (board : Board) (before after : Moment) (signals : List Signal) (n start : ℕ) → ((k : ℕ) (signal : Signal) → start ≤ k → k < start + n → slice_get signals k ≡ Some signal → change_line board before after k signal ≡ [])
    → lines_from board before after start signals ≡ lines_from board before after (start + n) signals
no_lines board before after signals zero start none =
    let here : start ≡ start + zero = omega arith in
    ap (λ (k : ℕ). lines_from board before after k signals) here
no_lines board before after signals (suc n) start none =
    let behind : (start + 1) + n ≡ start + suc n = omega arith in
    one (leb (length signals) start) refl ∙ no_lines board before after signals n (start + 1) (λ k signal from less is. none k signal (omega arith) (omega arith) is)
    ∙ ap (λ (k : ℕ). lines_from board before after k signals) behind
  where
    d : Signal
    d = Bus 0 parts.Event

    one : (past : Bool) → leb (length signals) start ≡ past → lines_from board before after start signals ≡ lines_from board before after (start + 1) signals
    one true past =
        let all : length signals ≤ start = leb-true (length signals) start past in
        let more : length signals ≤ start + 1 = omega (arith, all) in
        ap (change_lines board before after start) (drop_all start signals all) ∙ sym (ap (change_lines board before after (start + 1)) (drop_all (start + 1) signals more))
    one false past =
        let within : start < length signals = leb-false (length signals) start past in
        let rest : List Line = change_lines board before after (start + 1) (drop (suc start) signals) in
        let next : suc start ≡ start + 1 = omega arith in
        ap (change_lines board before after start) (drop-cons signals start d within)
        ∙ ap (λ (l : List Line). l ++ rest) (none start (get_or signals start d) (omega arith) (omega arith) (slice_get-get_or signals start d within))
        ∙ ap (λ (k : ℕ). change_lines board before after (start + 1) (drop k signals)) next

-- behind the last signal
pub lines_end : (board : Board) (before after : Moment) (signals : List Signal) (n m : ℕ) → n ≡ min (length signals) m → lines_from board before after n signals ≡ lines_from board before after m signals
lines_end board before after signals n m end = at (leb (length signals) m) refl
  where
    at : (past : Bool) → leb (length signals) m ≡ past → lines_from board before after n signals ≡ lines_from board before after m signals
    at true past =
        let all : length signals ≤ m = leb-true (length signals) m past in
        let here : length signals ≤ n = omega (arith, end, all) in
        ap (change_lines board before after n) (drop_all n signals here) ∙ sym (ap (change_lines board before after m) (drop_all m signals all))
    at false past =
        let within : m < length signals = leb-false (length signals) m past in
        let same : n ≡ m = omega (arith, end, within) in
        ap (λ (k : ℕ). lines_from board before after k signals) same

pub passed_lines : (board : Board) (before after : Moment) (from to : Option Scene) (signals : List Signal) (start : ℕ) (span : BlockSpan) → Follows before after → from ≡ scene_of board before → to ≡ scene_of board after
    → Spans board signals start span → meets span (touch_of board from to) ≡ false → lines_from board before after start signals ≡ lines_from board before after (start + 32) signals
passed_lines board before after from to signals start span follows from_is to_is spans off =
    no_lines board before after signals 32 start
    (λ k signal first less is. untouched_line board before after from to k signal follows from_is to_is (span_off board span from to signal (spans k signal first less is) off))

-- Readings.

-- those to come, where they are as they were
pub reads_rest : (board : Board) (m : Moment) (signals : List Signal) (first shown : List SignalReading) (n : ℕ) → ReadsFrom board m signals first 0 → ((k : ℕ) → n ≤ k → slice_get shown k ≡ slice_get first k) → ReadsFrom board m signals shown n
reads_rest board m signals first shown n was rest = λ k signal reading from is got. was k signal reading (omega arith) is (sym (rest k from) ∙ got)

-- behind the last signal
pub reads_end : (board : Board) (m : Moment) (signals : List Signal) (shown : List SignalReading) (n end : ℕ) → min (length signals) end ≤ n → ReadsBelow board m signals shown n → ReadsBelow board m signals shown end
reads_end board m signals shown n end all below = λ k signal reading less is got.
    let within : k < length signals = slice_get_within signals k signal is in
    below k signal reading (omega (arith, all, within, less)) is got

pub passed_reads : (board : Board) (before after : Moment) (from to : Option Scene) (signals : List Signal) (shown : List SignalReading) (start : ℕ) (span : BlockSpan) → Follows before after → from ≡ scene_of board before → to ≡ scene_of board after
    → Spans board signals start span → meets span (touch_of board from to) ≡ false → ReadsFrom board before signals shown start → ReadsBelow board after signals shown start → ReadsBelow board after signals shown (start + 32)
passed_reads board before after from to signals shown start span follows from_is to_is spans off was below = λ k signal reading less is got.
    let P : Bool → Type 0 = λ b. leb start k ≡ b → Reads board after signal reading in
    (elim (leb start k) as P [
      | true ↦ λ behind.
          let first : start ≤ k = leb-true start k behind in
          untouched_reads board before after from to signal reading follows from_is to_is (span_off board span from to signal (spans k signal first less is) off) (was k signal reading first is got)
      | false ↦ λ front. below k signal reading (leb-false start k front) is got
    ]) refl
