use Rattle.std.proofs.Common.{◌≡◌, ◌++◌, take, map}
use Rattle.board_printer.specs.Lines.{text_of}
use Rattle.trace_text.specs.Events.{event_line}
use Rattle.trace_text.proofs.trace.push_events.Given as goal

-- the text so far
abbrev pub invariant-loop-event : goal.invariant-loop-event
invariant-loop-event l = l.text.items ≡ l.initial.text.items ++ text_of (map (event_line l.board) (take l.event-index l.events))
