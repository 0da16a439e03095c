-- The lines of a dump, moment by moment, and what they tell of each signal.
use Rattle.std.proofs.Common.{◌≡◌, ℕ, zero, suc, ◌+◌, ◌^◌, ◌<◌, ◌≤◌, Bool, true, false, not, cond, codes, List, [], ◌∷◌, ◌++◌, length, drop, reverse, Option, Some, None, slice_get, refl, sym, ap, ◌∙◌, arith, append_assoc}
use Rattle.std.specs.List.{find}
use Rattle.std.specs.Option.{option_or}
use Rattle.std.proofs.Math.Seq.{drop-append_seam}
use Rattle.std.proofs.lemmas.Bool.{or_parts, not-false}
use Rattle.std.proofs.lemmas.List.{drop_all}
use Rattle.std.proofs.lemmas.Option.{slice_get_within}
use Rattle.board_model.specs.declared.board.Board.{Board}
use Rattle.history_model.specs.declared.event.Event.{Event}
use Rattle.board_printer.specs.Lines.{Line}
use Rattle.run_waves.specs.declared.signal.Signal.{Signal}
use Rattle.run_waves.specs.Signals.{signals_of}
use Rattle.run_waves.specs.Shown.{Moment, beginning, next, ending, Shown, shown}
use Rattle.run_waves.specs.Dump.{code_of, head_lines, value_line, value_lines, is_of_event, same_shown, is_written, change_line, change_lines, time_line, moment_lines, moments}
use Rattle.run_waves.specs.Told.{moment_from, lines_to, gives, TellsSignals, IsDumped}
use Rattle.run_waves.proofs.CodeLemmas.{shown_alike}
use Rattle.run_waves.proofs.LastLemmas.{last_append, or_none, pieces, AreOwn, last_piece, last_value, no_value}

-- Moments.

-- the event of a moment
event_at : (events : List Event) (n : ℕ) → n < length events → (e : Event) × (drop n events ≡ e ∷ drop (suc n) events)
event_at [] n within = absurd (omega arith)
event_at (e ∷ events) zero within = (e, refl)
event_at (e ∷ events) (suc n) within = event_at events n (omega arith)

moment_next : (m : Moment) (events rest : List Event) (n : ℕ) (e : Event) → drop n events ≡ e ∷ rest → moment_from m events (suc n) ≡ next (moment_from m events n) e
moment_next m [] rest zero e is = cc
moment_next m [] rest (suc n) e is = cc
moment_next m (first ∷ events) rest zero e is = let same : first ≡ e = cc in ap (next m) same
moment_next m (first ∷ events) rest (suc n) e is = moment_next (next m first) events rest n e is

-- the moment behind the last event
moment_last : (m : Moment) (events : List Event) → moment_from m events (suc (length events)) ≡ ending (moment_from m events (length events))
moment_last m [] = refl
moment_last m (e ∷ events) = moment_last (next m e) events

-- The dump is its lines.

-- those up to a moment, and those to come
lines_split : (board : Board) (events : List Event) (n : ℕ) → n ≤ length events
    → lines_to board events n ++ moments board (n + 1) (moment_from beginning events n) (drop n events) ≡ value_lines board beginning 0 (signals_of board) ++ moments board 1 beginning events
lines_split board events zero within = refl
lines_split board events (suc n) within =
    let there = event_at events n (omega arith) in
    let e : Event = there.0 in
    let rest : List Event = drop (suc n) events in
    let from : Moment = moment_from beginning events n in
    let to : Moment = moment_from beginning events (suc n) in
    let goes : to ≡ next from e = moment_next beginning events rest n e there.1 in
    let more : n + 1 ≡ suc n = omega arith in
    let step : moments board (n + 1) from (drop n events) ≡ moment_lines board (suc n) from to ++ moments board (suc n + 1) to rest =
    ap (moments board (n + 1) from) there.1 ∙ ap (λ (m : Moment). moment_lines board (n + 1) from m ++ moments board (n + 1 + 1) m rest) (sym goes)
    ∙ ap (λ (j : ℕ). moment_lines board j from to ++ moments board (j + 1) to rest) more in
    append_assoc (lines_to board events n) (moment_lines board (suc n) from to) (moments board (suc n + 1) to rest)
    ∙ ap (λ (lines : List Line). lines_to board events n ++ lines) (sym step) ∙ lines_split board events n (omega arith)

-- up to the last
lines_all : (board : Board) (events : List Event) → lines_to board events (length events + 1) ≡ value_lines board beginning 0 (signals_of board) ++ moments board 1 beginning events
lines_all board events =
    let n : ℕ = length events in
    let from : Moment = moment_from beginning events n in
    let more : n + 1 ≡ suc n = omega arith in
    let none : drop n events ≡ [] = drop_all n events (omega arith) in
    ap (lines_to board events) more
    ∙ ap (λ (m : Moment). lines_to board events n ++ moment_lines board (suc n) from m) (moment_last beginning events)
    ∙ ap (λ (j : ℕ). lines_to board events n ++ moment_lines board j from (ending from)) (sym more)
    ∙ ap (λ (rest : List Event). lines_to board events n ++ moments board (n + 1) from rest) (sym none)
    ∙ lines_split board events n (omega arith)

length_values : (board : Board) (m : Moment) (k : ℕ) (signals : List Signal) → length (value_lines board m k signals) ≡ length signals
length_values board m k [] = refl
length_values board m k (signal ∷ signals) = ap suc (length_values board m (k + 1) signals)

pub dumped : (board : Board) (events : List Event) → IsDumped board events
dumped board events =
    let values : List Line = value_lines board beginning 0 (signals_of board) in
    let behind : List Line = moments board 1 beginning events in
    let same : drop (length (signals_of board)) (lines_to board events (length events + 1)) ≡ behind =
    ap (drop (length (signals_of board))) (lines_all board events)
    ∙ ap (λ (n : ℕ). drop n (values ++ behind)) (sym (length_values board beginning 0 (signals_of board)))
    ∙ drop-append_seam values behind in
    ap (λ (lines : List Line). head_lines board ++ (time_line 0 ∷ (codes "$dumpvars" ∷ []) ∷ (values ++ ((codes "$end" ∷ []) ∷ lines)))) (sym same)

-- What is given last.

values_pieces : (board : Board) (m : Moment) (k : ℕ) (signals : List Signal) → value_lines board m k signals ≡ pieces (λ j signal. value_line j (shown board m signal) ∷ []) k signals
values_pieces board m k [] = refl
values_pieces board m k (signal ∷ signals) = ap (λ (lines : List Line). value_line k (shown board m signal) ∷ lines) (values_pieces board m (k + 1) signals)

changes_pieces : (board : Board) (from to : Moment) (k : ℕ) (signals : List Signal) → change_lines board from to k signals ≡ pieces (change_line board from to) k signals
changes_pieces board from to k [] = refl
changes_pieces board from to k (signal ∷ signals) = ap (λ (lines : List Line). change_line board from to k signal ++ lines) (changes_pieces board from to (k + 1) signals)

changes_own : (board : Board) (from to : Moment) → AreOwn (change_line board from to)
changes_own board from to = λ k j signal within also differ.
    let P : Bool → Type 0 = λ b. find (gives (code_of k)) (reverse (cond b (value_line j (shown board to signal) ∷ []) [])) ≡ None in
    elim (is_written board from to signal) as P [ true ↦ no_value k j (shown board to signal) within also differ | false ↦ refl ]

-- a signal that is not written shows what it showed
still_shown : (board : Board) (from to : Moment) (signal : Signal) → is_written board from to signal ≡ false → shown board from signal ≡ shown board to signal
still_shown board from to signal none =
    let differs = (or_parts (is_of_event board to.event signal) (not (same_shown (shown board from signal) (shown board to signal))) none).1 in
    shown_alike (shown board from signal) (shown board to signal) (not-false (same_shown (shown board from signal) (shown board to signal)) differs)

-- what is given of a signal between two moments, and else the value before
change_told : (board : Board) (from to : Moment) (k : ℕ) (signal : Signal)
    → option_or (find (gives (code_of k)) (reverse (change_line board from to k signal))) (Some (value_line k (shown board from signal))) ≡ Some (value_line k (shown board to signal))
change_told board from to k signal =
    let now : Line = value_line k (shown board to signal) in
    let before : Option Line = Some (value_line k (shown board from signal)) in
    let P : Bool → Type 0 = λ b. is_written board from to signal ≡ b → option_or (find (gives (code_of k)) (reverse (cond b (now ∷ []) []))) before ≡ Some now in
    (elim (is_written board from to signal) as P [
      | true ↦ λ _. ap (λ (found : Option Line). option_or found before) (last_value k (shown board to signal))
      | false ↦ λ none. ap (λ (what : Shown). Some (value_line k what)) (still_shown board from to signal none)
    ]) refl

pub told : (board : Board) (events : List Event) (k : ℕ) (signal : Signal) → length (signals_of board) ≤ 94 ^ 3 → k < 94 ^ 3 → slice_get (signals_of board) k ≡ Some signal → (n : ℕ)
    → find (gives (code_of k)) (reverse (lines_to board events n)) ≡ Some (value_line k (shown board (moment_from beginning events n) signal))
told board events k signal few named is zero =
    let f : ℕ → Signal → List Line = λ j s. value_line j (shown board beginning s) ∷ [] in
    let own : AreOwn f = λ i j s within also differ. no_value i j (shown board beginning s) within also differ in
    ap (λ (lines : List Line). find (gives (code_of k)) (reverse lines)) (values_pieces board beginning 0 (signals_of board))
    ∙ last_piece f own k 0 k (signals_of board) signal is (omega arith) named (omega arith)
    ∙ last_value k (shown board beginning signal)
told board events k signal few named is (suc n) =
    let test : Line → Bool = gives (code_of k) in
    let signals : List Signal = signals_of board in
    let from : Moment = moment_from beginning events n in
    let to : Moment = moment_from beginning events (suc n) in
    let before : List Line = lines_to board events n in
    let changes : List Line = change_lines board from to 0 signals in
    let here : Option Line = find test (reverse (change_line board from to k signal)) in
    let given : find test (reverse (time_line (suc n) ∷ changes)) ≡ here =
    last_append test (time_line (suc n) ∷ []) changes ∙ or_none (find test (reverse changes))
    ∙ ap (λ (lines : List Line). find test (reverse lines)) (changes_pieces board from to 0 signals)
    ∙ last_piece (change_line board from to) (changes_own board from to) k 0 k signals signal is (omega arith) named (omega arith) in
    last_append test before (moment_lines board (suc n) from to)
    ∙ ap (λ (found : Option Line). option_or found (find test (reverse before))) given
    ∙ ap (λ (found : Option Line). option_or here found) (told board events k signal few named is n)
    ∙ change_told board from to k signal

pub tells : (board : Board) (events : List Event) → length (signals_of board) ≤ 94 ^ 3 → TellsSignals board events
tells board events few = λ n k signal _ is.
    let within : k < length (signals_of board) = slice_get_within (signals_of board) k signal is in
    told board events k signal few (omega arith) is n
