-- draw: what is written for a trace text, the status that it ends with, and why it is refused.
use Rattle.std.specs.Prelude.{◌≡◌, ◌<◌, ◌≤◌, ℕ, List, ◌++◌, length, Option}
use Rattle.board_model.specs.declared.board.Board.{Board}
use Rattle.board_model.specs.Valid.{IsValid}
use Rattle.history_model.specs.declared.event.Event.{Event}
use Rattle.history_model.specs.declared.why.Why.{Why}
use Rattle.history_model.specs.Runs.{Run, Complete, history_of}
use Rattle.judge_state.specs.Refused.{FirstRefused}
use Rattle.program_input.specs.Traces.{ReadsTrace, RefusesTrace}
use Rattle.draw_told.specs.declared.close.Close.{Close}
use Rattle.draw_told.specs.declared.close.Close.TheVariants.{Ended, NotEnded, Refused}
use Rattle.draw_page.specs.Pages.{ShowsPage}
use Rattle.command_traces.specs.declared.draw.rows.Rows.{Rows}
use Rattle.program_pages.specs.Sentences.{sentence_of}
use Rattle.program_status.specs.declared.status.Status.{Status}
use Rattle.program_status.specs.declared.status.Status.TheVariants.{Done, TooManyEvents, NoMemory, DrawnTo}
use Rattle.command_traces.specs.draw.Rows.{Asked, first_row, last_row, drawn_count}

-- all events are a complete run
pub record IsEnded (board : Board) (events shown : List Event) : Type 0 where
  pub all : shown ≡ events
  pub run : Run board (history_of events)
  pub complete : Complete board (history_of events)

-- all events are a run that is not complete
pub record IsNotEnded (board : Board) (events shown : List Event) : Type 0 where
  pub all : shown ≡ events
  pub run : Run board (history_of events)
  pub incomplete : ¬ Complete board (history_of events)

-- the last of these events is the first that is not allowed after those before it, for this cause, of which its sentence tells
pub record EndsRefused (board : Board) (events shown : List Event) (why : Why) (sentence : List ℕ) : Type 0 where
  pub after : List Event
  pub split : events ≡ shown ++ after
  pub refused : FirstRefused board events (length shown) why
  pub told : sentence ≡ sentence_of why

-- what a picture shows of events, and how that ends: all of a run, or else those up to the first that is not allowed
abbrev pub Shows : Board → List Event → List Event → Close → Type 0
Shows board events shown Ended = IsEnded board events shown
Shows board events shown NotEnded = IsNotEnded board events shown
Shows board events shown (Refused why sentence) = EndsRefused board events shown why sentence.now

-- the status that a picture ends with, by the number of its last event
abbrev pub ending_of : ℕ → Close → Status
ending_of count Ended = Done
ending_of count NotEnded = Done
ending_of count (Refused why sentence) = DrawnTo count why

-- at most 4,096 events are drawn, and a page of items is written that show, at each moment of the run, what each lane has in the
-- machine; each of them stands in the page, in just the strips in which it has a row
pub record DrawsRows (board : Board) (shown : List Event) (close : Close) (rows : Option Rows) (text : List ℕ) (ending : Status) : Type 0 where
  pub few : drawn_count close rows (length shown) ≤ 4096
  pub page : ShowsPage board shown close (first_row close rows (length shown)) (last_row rows (length shown)) text
  pub ends : ending ≡ ending_of (length shown) close

-- the input is the text of a valid board and of events of it, and so it is of those that are shown, and of them those that
-- are asked for
pub record AnswersDraw (input : List ℕ) (asked : Asked) (text : List ℕ) (ending : Status) : Type 0 where
  pub board : Board
  pub events : List Event
  pub shown : List Event
  pub close : Close
  pub reads : ReadsTrace input board events
  pub valid : IsValid board
  pub shows : Shows board events shown close
  pub draws : DrawsRows board shown close (asked board shown) text ending

-- more of them are to be drawn: so many
pub record CountsTooMany (shown : List Event) (close : Close) (rows : Option Rows) (count : ℕ) : Type 0 where
  pub many : 4096 < count
  pub counted : count ≡ drawn_count close rows (length shown)

-- for that, or for want of memory
abbrev pub HidesRows : List Event → Close → Option Rows → Status → Type 0
HidesRows shown close rows (TooManyEvents count) = CountsTooMany shown close rows count
HidesRows shown close rows status = status ≡ NoMemory

-- the input is the text of events of which too many are to be drawn
pub record DrawsTooMany (input : List ℕ) (asked : Asked) (count : ℕ) : Type 0 where
  pub board : Board
  pub events : List Event
  pub shown : List Event
  pub close : Close
  pub reads : ReadsTrace input board events
  pub valid : IsValid board
  pub shows : Shows board events shown close
  pub counts : CountsTooMany shown close (asked board shown) count

-- it is refused since too many events are to be drawn, or as no trace text
abbrev pub RefusesDraw : List ℕ → Asked → Status → Type 0
RefusesDraw input asked (TooManyEvents count) = DrawsTooMany input asked count
RefusesDraw input asked status = RefusesTrace input status

-- of what is shown of these events few enough are to be drawn
abbrev pub FewDrawn : Board → List Event → Asked → Type 0
FewDrawn board events asked =
    (shown : List Event) → (close : Close) → Shows board events shown close → drawn_count close (asked board shown) (length shown) ≤ 4096

-- the input has no fault: it is the text of events, allowed or not, of which few enough are to be drawn
pub record IsDrawable (asked : Asked) (input : List ℕ) : Type 0 where
  pub board : Board
  pub events : List Event
  pub reads : ReadsTrace input board events
  pub few : FewDrawn board events asked
