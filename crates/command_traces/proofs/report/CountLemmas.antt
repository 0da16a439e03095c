-- The report of a run: of a complete run of a steady board it has the way counts of the board, and its counts add up.
use Rattle.std.proofs.Common.{◌≡◌, ℕ, List, length, ◌∙◌}
use Rattle.std.proofs.lemmas.List.{length-reverse}
use Rattle.list_facts.specs.Lists.{total}
use Rattle.board_model.specs.declared.board.Board.{Board}
use Rattle.board_model.specs.Valid.{IsValid}
use Rattle.history_model.specs.declared.event.Event.{Event}
use Rattle.history_model.specs.Runs.{Run, history_of}
use Rattle.history_model.specs.Knowledge.{Fresh}
use Rattle.law_delivered.specs.left.Left.{ReturnsAsLeft, ReturnsAsHeld}
use Rattle.run_report.specs.Counts.{kinds, count_of}
use Rattle.run_report.specs.Lapses.{whole_report}
use Rattle.run_report.specs.Report.{buses_of}
use Rattle.run_report.proofs.way_counts.Laws.{complete_weighs, complete_report}
use Rattle.command_traces.specs.report.Answers.{Reports}

pub reports_run : (board : Board) (events : List Event) (text : List ℕ) → IsValid board → Run board (history_of events) → Fresh board (history_of events)
    → ReturnsAsLeft board (history_of events) → ReturnsAsHeld board (history_of events) → text ≡ whole_report board events
    → total (λ bus. total (count_of board (history_of events) bus) kinds) (buses_of board) ≡ length (history_of events) → Reports board events text
reports_run board events text valid run fresh left held written sum =
    let h = history_of events in
    record {
      run = run;
      fresh = fresh;
      as_left = left;
      as_held = held;
      written = written;
      counted = λ steady complete. complete_report board h (λ weight. complete_weighs board weight h valid steady run complete) valid steady;
      sums = sum ∙ length-reverse events;
    }
