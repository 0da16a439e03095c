-- What is known beside the state that is kept, so that the next event is looked for only where something may have
-- changed: the lines of each bus, which buses are quiet, and where something is in flight.
use Rattle.std.specs.Prelude.{◌≡◌, ℕ, Bool, true, List, Some, None, slice_get}
use Rattle.board_model.specs.declared.board.Board.{Board}
use Rattle.board_model.specs.Fits.{BoardFits}
use Rattle.history_model.specs.declared.event.Event.{Event}
use Rattle.history_model.specs.declared.event.Event.TheVariants.{Act, Arrive}
use Rattle.judge_state.specs.State.{KeptState}
use Rattle.judge_state.specs.Stands.{StandsFor}
use Rattle.judge_next.specs.declared.course.Course.{Course}
use Rattle.judge_next.specs.Lines.{AreLines}
use Rattle.judge_next.specs.Now.{act_on_now}
use Rattle.judge_next.specs.Flights.{KnowsFlights}
use Rattle.judge_next.specs.Quiet.{AreFlags}

-- on a bus that is known to be quiet there is no act
abbrev pub KnowsQuiet : Board → KeptState → List Bool → Type 0
KnowsQuiet board k quiet = (bus : ℕ) → slice_get quiet bus ≡ Some true → act_on_now board k bus ≡ None

-- what is kept stands for a run of the board, and what is known of its buses is so
pub record IsCourse (board : Board) (h : List Event) (c : Course) : Type 0 where
  pub stands : StandsFor board h c.kept
  -- its bus numbers are as wide as their fields
  pub fits : BoardFits board
  pub lines : AreLines board c.lines.items
  pub flags : AreFlags c.quiet
  pub quiet : KnowsQuiet board c.kept c.quiet.buses.items
  pub flights : KnowsFlights board c.kept c.flights

-- for some run of the board
abbrev pub HasCourse : Board → Course → Type 0
HasCourse board c = (h : List Event) × IsCourse board h c

-- the event is an arrival
abbrev pub IsArrival : Event → Type 0
IsArrival (Act on by o step place) = ⊥
IsArrival (Arrive lane mark) = Unit {0}
