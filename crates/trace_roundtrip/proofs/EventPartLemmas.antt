-- The events of a trace text stand behind the line `events`.
use Rattle.std.proofs.Common.{◌≡◌, ℕ, ◌+◌, ◌^◌, ◌<◌, Bool, true, false, cond, List, [], ◌∷◌, ◌++◌, append_assoc, append-nil, length, map, Result, Ok, Err, refl, sym, ap, subst, ◌∙◌}
use Rattle.std.specs.Prelude.{codes}
use Rattle.std.specs.List.{list_all, AllByRecursion}
use Rattle.std.specs.Fmt.{decimal}
use Rattle.std.proofs.lemmas.Bool.{and_from, eq-eqb}
use Rattle.board_model.specs.declared.board.Board.{Board}
use Rattle.board_model.specs.WellFormed.{is_well_formed}
use Rattle.board_model.specs.Valid.{lacks_a_bus}
use Rattle.history_model.specs.declared.event.Event.{Event}
use Rattle.board_printer.specs.Lines.{Line}
use Rattle.board_model.specs.Fits.{BoardFits}
use Rattle.board_roundtrip.specs.words.Printed.{has_words_alone, joined}
use Rattle.trace_text.specs.Events.{event_line, HasLine}
use Rattle.trace_reader.specs.declared.lines.line.TraceLine.{TraceLine}
use Rattle.trace_reader.specs.declared.fault.TraceFault.{TraceFault}
use Rattle.trace_reader.specs.declared.fault.TraceFault.TheVariants.{Trace}
use Rattle.text_faults.specs.declared.trace_line.TraceLineFault.{TraceLineFault}
use Rattle.text_faults.specs.declared.trace_line.TraceLineFault.TheVariants.{WrongCount}
use Rattle.trace_reader.specs.Traces.{nothing_behind, events_by, events_read}
use Rattle.trace_roundtrip.specs.events.Fits.{EventFits}
use Rattle.trace_roundtrip.proofs.events.EventLemmas.{event_read, event_plain}
use Rattle.trace_roundtrip.proofs.events.EndLemmas.{end_read, end_plain}

-- a board over which events can be printed
pub record Bears (board : Board) : Type 0 where
  pub fits : BoardFits board
  pub formed : is_well_formed board ≡ true
  pub buses : lacks_a_bus board ≡ false

-- the line that ends so many events
abbrev pub end_of : ℕ → Line
end_of count = codes "end" ∷ decimal count ∷ []

-- the lines of these events, and the last line
abbrev pub lines_from : Board → List Event → ℕ → List Line
lines_from board events count = map (event_line board) events ++ end_of count ∷ []

-- they are of words alone
pub words_from : (board : Board) (events : List Event) (count : ℕ) → Bears board → AllByRecursion EventFits events → AllByRecursion (HasLine board) events → count < 2 ^ 32 → list_all has_words_alone (lines_from board events count) ≡ true
words_from board [] count bears fit has small = and_from _ _ (end_plain count small) refl
words_from board (event ∷ events) count bears fit has small =
    and_from _ _ (event_plain board event bears.fits bears.formed bears.buses fit.0 has.0) (words_from board events count bears fit.1 has.1 small)

-- read as these events
abbrev events_so : List Event → Result (List Event) TraceFault
events_so events = Ok events

-- the last line ends the events, where it tells how many they are
ends : (board : Board) (number : ℕ) (before : List Event) → length before < 2 ^ 32 → events_read board number before (joined (end_of (length before)) ∷ []) ≡ events_so before
ends board number before small =
    ap (λ (r : Result TraceLine TraceLineFault). events_by (λ more. events_read board (number + 1) more []) number before [] r) (end_read board (length before) small)
    ∙ ap (λ (b : Bool). cond b (nothing_behind (number + 1) before []) (Err (Trace number WrongCount))) (eq-eqb (length before) (length before) refl)

-- the lines of events are read as these events, behind those before
pub events_from : (board : Board) (number : ℕ) (before events all : List Event) → Bears board → AllByRecursion EventFits events → AllByRecursion (HasLine board) events → before ++ events ≡ all → length all < 2 ^ 32
    → events_read board number before (map joined (lines_from board events (length all))) ≡ events_so all
events_from board number before [] all bears fit has is small =
    let same : before ≡ all = sym (append-nil before) ∙ is in
    let P : List Event → Type 0 = λ xs. length xs < 2 ^ 32 → events_read board number before (joined (end_of (length xs)) ∷ []) ≡ events_so xs in
    subst P same (ends board number before) small
events_from board number before (event ∷ events) all bears fit has is small =
    let later = events_from board (number + 1) (before ++ event ∷ []) events all bears fit.1 has.1 (append_assoc before (event ∷ []) events ∙ is) small in
    let behind = map joined (lines_from board events (length all)) in
    ap (λ (r : Result TraceLine TraceLineFault). events_by (λ more. events_read board (number + 1) more behind) number before behind r) (event_read board event bears.fits bears.formed bears.buses fit.0 has.0)
    ∙ later
