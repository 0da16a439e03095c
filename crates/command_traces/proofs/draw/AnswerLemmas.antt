-- What is drawn of the rows of what is shown is drawn of the text.
use Rattle.std.proofs.Common.{◌≡◌, ℕ, List, Option, Some, None, min, length, sym, ap, ◌∙◌, subst, arith}
use Rattle.board_model.specs.declared.board.Board.{Board}
use Rattle.history_model.specs.declared.event.Event.{Event}
use Rattle.draw_told.specs.declared.close.Close.{Close}
use Rattle.draw_page.specs.Pages.{ShowsPage}
use Rattle.program_input.specs.declared.trace.TreeTrace.{TreeTrace}
use Rattle.program_input.specs.Traces.{ReadsTree, RefusesTrace}
use Rattle.program_status.specs.declared.status.Status.{Status}
use Rattle.program_status.specs.declared.status.Status.TheVariants.{TooManyEvents}
use Rattle.command_traces.specs.declared.draw.rows.Rows.{Rows}
use Rattle.command_traces.specs.draw.Rows.{Asked, first_row, last_row}
use Rattle.command_traces.specs.draw.Answers.{AnswersDraw, RefusesDraw, DrawsRows, CountsTooMany, HidesRows, Shows}

pub answered : (input : List ℕ) (asked : Asked) (read : TreeTrace) (events shown : List Event) (close : Close) (rows : Option Rows) (text : List ℕ) (ending : Status) → ReadsTree input read → events ≡ read.events
    → Shows read.tree events shown close → rows ≡ asked read.tree shown → DrawsRows read.tree shown close rows text ending → AnswersDraw input asked text ending
answered input asked read events shown close rows text ending reads same shows is draws =
    record {
      board = read.tree;
      events = read.events;
      shown = shown;
      close = close;
      reads = reads.reads;
      valid = reads.valid;
      shows = subst (λ (l : List Event). Shows read.tree l shown close) same shows;
      draws = subst (λ (r : Option Rows). DrawsRows read.tree shown close r text ending) is draws;
    }

pub hidden : (input : List ℕ) (asked : Asked) (read : TreeTrace) (events shown : List Event) (close : Close) (rows : Option Rows) (status : Status) → ReadsTree input read → events ≡ read.events
    → Shows read.tree events shown close → rows ≡ asked read.tree shown → HidesRows shown close rows status → RefusesDraw input asked status
hidden input asked read events shown close rows (TooManyEvents count) reads same shows is hides =
    record {
      board = read.tree;
      events = read.events;
      shown = shown;
      close = close;
      reads = reads.reads;
      valid = reads.valid;
      shows = subst (λ (l : List Event). Shows read.tree l shown close) same shows;
      counts = subst (λ (r : Option Rows). CountsTooMany shown close r count) is hides;
    }
hidden input asked read events shown close rows status reads same shows is hides = subst (λ (s : Status). RefusesDraw input asked s) (sym hides) tt

-- the last row that is drawn is that of an event that is there
last_is_there : (rows : Option Rows) (count : ℕ) → min (last_row rows count) count ≡ last_row rows count
last_is_there None count = omega arith
last_is_there (Some rows) count = omega arith

pub drawn_rows : (board : Board) (events : List Event) (close : Close) (rows : Option Rows) (count first last : ℕ) (page : List ℕ) → count ≡ length events → first ≡ first_row close rows count → last ≡ last_row rows count
    → ShowsPage board events close first (min last (length events)) page → ShowsPage board events close (first_row close rows (length events)) (last_row rows (length events)) page
drawn_rows board events close rows count first last page is_count is_first is_last shows =
    let all : ℕ = length events in
    let low : first ≡ first_row close rows all = is_first ∙ ap (λ (n : ℕ). first_row close rows n) is_count in
    let high : min last all ≡ last_row rows all = ap (λ (n : ℕ). min n all) (is_last ∙ ap (λ (n : ℕ). last_row rows n) is_count) ∙ last_is_there rows all in
    subst (λ (n : ℕ). ShowsPage board events close (first_row close rows all) n page) high (subst (λ (n : ℕ). ShowsPage board events close n (min last all) page) low shows)
