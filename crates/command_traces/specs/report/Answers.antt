-- report: what is written for a trace text, and with which status it is refused.
use Rattle.std.specs.Prelude.{◌≡◌, ℕ, List, length}
use Rattle.list_facts.specs.Lists.{total}
use Rattle.board_model.specs.declared.board.Board.{Board}
use Rattle.board_model.specs.Valid.{IsValid}
use Rattle.history_model.specs.declared.event.Event.{Event}
use Rattle.history_model.specs.Runs.{Run, Complete, history_of}
use Rattle.history_model.specs.Knowledge.{Fresh}
use Rattle.law_delivered.specs.left.Left.{ReturnsAsLeft, ReturnsAsHeld}
use Rattle.run_report.specs.Counts.{kinds, count_of}
use Rattle.run_report.specs.Lapses.{whole_report}
use Rattle.run_report.specs.Report.{buses_of, report_of}
use Rattle.run_report.specs.way_counts.Plain.{IsSteady}
use Rattle.run_report.specs.way_counts.WayCounts.{way_report}
use Rattle.program_input.specs.Traces.{ReadsTrace}

-- a run of a board, which is fresh: each read that was told of a write reads its words after it has landed, and returns
-- them as that write, or what landed later, left them; each read returns what its word held; and the text of its report
pub record Reports (board : Board) (events : List Event) (text : List ℕ) : Type 0 where
  pub run : Run board (history_of events)
  pub fresh : Fresh board (history_of events)
  pub as_left : ReturnsAsLeft board (history_of events)
  pub as_held : ReturnsAsHeld board (history_of events)
  pub written : text ≡ whole_report board events
  -- of a complete run of a board without stalls, bursts in parts, polls, discards and drops, whoever made it, its
  -- counts are the way counts of the board
  pub counted : IsSteady board → Complete board (history_of events) → report_of board (history_of events) ≡ way_report board
  -- the counts of all its buses and kinds add up to the number of its events
  pub sums : total (λ bus. total (count_of board (history_of events) bus) kinds) (buses_of board) ≡ length events

-- the input is the text of a valid board and of a run of it, complete or not, and its report is written
pub record AnswersReport (input text : List ℕ) : Type 0 where
  pub board : Board
  pub events : List Event
  pub reads : ReadsTrace input board events
  pub valid : IsValid board
  pub reports : Reports board events text
