-- waves: what is written for a trace text.
use Rattle.std.specs.Prelude.{◌≡◌, ℕ, List}
use Rattle.board_model.specs.declared.board.Board.{Board}
use Rattle.board_model.specs.Valid.{IsValid}
use Rattle.history_model.specs.declared.event.Event.{Event}
use Rattle.history_model.specs.Runs.{Run, history_of}
use Rattle.run_waves.specs.Dump.{dump_of}
use Rattle.run_waves.specs.Told.{TellsSignals, IsDumped}
use Rattle.run_waves.specs.Widths.{NumbersFit}
use Rattle.program_input.specs.Traces.{ReadsTrace}

-- the input is the text of a valid board and of a run of it, complete or not, and its value change dump is written
pub record AnswersWaves (input text : List ℕ) : Type 0 where
  pub board : Board
  pub events : List Event
  pub reads : ReadsTrace input board events
  pub valid : IsValid board
  pub run : Run board (history_of events)
  pub written : text ≡ dump_of board events
  -- it is the declarations, the values at first, and the lines of the moments
  pub dumped : IsDumped board events
  -- by these each signal has at each moment the value that it shows
  pub tells : TellsSignals board events
  -- and a number of a lane, a master or a target has the bits that its signal is declared with
  pub widths : NumbersFit board events
