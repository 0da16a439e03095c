-- The line of an event, as it is printed, is read as the event.
use Rattle.std.proofs.Common.{◌≡◌, true, false, Ok}
use Rattle.board_model.specs.declared.board.Board.{Board}
use Rattle.board_model.specs.WellFormed.{is_well_formed}
use Rattle.board_model.specs.Valid.{lacks_a_bus}
use Rattle.history_model.specs.declared.event.Event.{Event}
use Rattle.history_model.specs.declared.event.Event.TheVariants.{Act, Arrive}
use Rattle.board_model.specs.Fits.{BoardFits}
use Rattle.board_roundtrip.specs.words.Printed.{has_words_alone, joined}
use Rattle.trace_text.specs.Events.{event_line, HasLine}
use Rattle.trace_reader.specs.declared.lines.line.TraceLine.TheVariants.{Happens}
use Rattle.trace_reader.specs.lines.Lines.{line_of}
use Rattle.trace_roundtrip.specs.events.Fits.{EventFits}
use Rattle.trace_roundtrip.proofs.events.ActLemmas.{act_parts, act_plain, act_read}
use Rattle.trace_roundtrip.proofs.events.ArrivalLemmas.{arrival_plain, arrival_read}

-- the line of an event is read as the event
pub event_read : (board : Board) (event : Event) → BoardFits board → is_well_formed board ≡ true → lacks_a_bus board ≡ false → EventFits event → HasLine board event → line_of board (joined (event_line board event)) ≡ Ok (Happens event)
event_read board (Act bus by op step place) fits formed all wide has = act_read board bus by op step place fits formed wide.0 wide.1 wide.2 (act_parts board bus by op step place has)
event_read board (Arrive lane mark) fits formed all wide has = arrival_read board lane mark fits all has

-- its words are words
pub event_plain : (board : Board) (event : Event) → BoardFits board → is_well_formed board ≡ true → lacks_a_bus board ≡ false → EventFits event → HasLine board event → has_words_alone (event_line board event) ≡ true
event_plain board (Act bus by op step place) fits formed all wide has = act_plain board bus by op step place fits formed wide.1 wide.2 (act_parts board bus by op step place has)
event_plain board (Arrive lane mark) fits formed all wide has = arrival_plain board lane mark fits all has
