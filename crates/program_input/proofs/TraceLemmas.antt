-- What is known of a trace text that is read.
use Rattle.std.proofs.Common.{◌≡◌, ℕ, List, None, Result, Ok, Err, sym, ap, refl, ◌∙◌}
use Rattle.board_model.specs.declared.board.Board.{Board}
use Rattle.history_model.specs.declared.event.Event.{Event}
use Rattle.trace_reader.specs.declared.fault.TraceFault.{TraceFault}
use Rattle.trace_reader.specs.Traces.{trace_read}
use Rattle.program_status.specs.declared.status.Status.{Status}
use Rattle.program_status.specs.declared.status.Status.TheVariants.{NoMemory}
use Rattle.program_input.specs.Refusals.{trace_reading_refusal, trace_refusal}
use Rattle.program_input.specs.Traces.{ReadsTrace, RefusesTrace}
use Rattle.program_input.proofs.RefusalLemmas.{refused_by_memory}

board_in : Board → Result (Board × List Event) TraceFault → Board
board_in board (Ok read) = read.0
board_in board (Err fault) = board

events_in : List Event → Result (Board × List Event) TraceFault → List Event
events_in events (Ok read) = read.1
events_in events (Err fault) = events

-- a text is read as one board and one list of events
pub same_trace : (input : List ℕ) (board other : Board) (events others : List Event) → trace_read input ≡ Ok (board, events) → trace_read input ≡ Ok (other, others) → (board ≡ other) × (events ≡ others)
unfolding board_in events_in
same_trace input board other events others one two =
    (sym (ap (board_in board) one) ∙ ap (board_in board) two, sym (ap (events_in events) one) ∙ ap (events_in events) two)

-- a text that is read is refused only for want of memory
pub read_refused_by_memory : (input : List ℕ) (board : Board) (events : List Event) (status : Status) → ReadsTrace input board events → RefusesTrace input status → status ≡ NoMemory
read_refused_by_memory input board events status reads refuses =
    let read = reads.read in
    let tree = reads.tree in
    let none : trace_refusal input ≡ None = ap trace_reading_refusal read ∙ rw tree refl in
    refused_by_memory (trace_refusal input) status none refuses
