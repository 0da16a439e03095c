-- Whether some run has the acts of events.
use Rattle.std.specs.Prelude.{◌≡◌, ℕ, List}
use Rattle.board_model.specs.declared.board.Board.{Board}
use Rattle.history_model.specs.declared.event.Event.{Event}
use Rattle.history_model.specs.declared.why.Why.{Why}
use Rattle.history_model.specs.Runs.{Run, history_of}
use Rattle.law_early.specs.Early.{acts_of}
use Rattle.judge_fill.specs.Filling.{ActRefused}
use Rattle.observe_order.specs.declared.judging.ActsVerdict.{ActsVerdict}
use Rattle.observe_order.specs.declared.judging.ActsVerdict.TheVariants.{IsRun, Refused}

-- some run has the acts of these events
pub record ActsRun (board : Board) (events : List Event) : Type 0 where
  pub history : List Event
  pub run : Run board history
  pub same_acts : acts_of history ≡ acts_of (history_of events)

-- the event of this number, from 1 on, is an act that is refused for this cause: no run has the acts before it and then this
-- one, wherever their arrivals are put
pub record ActsStop (board : Board) (events : List Event) (why : Why) : Type 0 where
  pub event : ℕ
  pub refused : ActRefused board events event why

-- what a verdict says of the acts of events
abbrev pub JudgesActs : Board → List Event → ActsVerdict → Type 0
JudgesActs board events IsRun = ActsRun board events
JudgesActs board events (Refused event why) = ActsStop board events why
