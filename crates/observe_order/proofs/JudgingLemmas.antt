-- What arrivals that were put say of the acts of events.
use Rattle.std.specs.Prelude.{ℕ, List}
use Rattle.board_model.specs.declared.board.Board.{Board}
use Rattle.history_model.specs.declared.event.Event.{Event}
use Rattle.history_model.specs.declared.why.Why.{Why}
use Rattle.history_model.specs.Runs.{history_of}
use Rattle.judge_fill.specs.Filling.{Fills, ActRefused}
use Rattle.observe_order.specs.Judging.{ActsRun, ActsStop}

-- what is filled is a run of the acts, and what is not has an act that is refused

pub fills_run : (board : Board) (events whole : List Event) → Fills board events whole → ActsRun board events
fills_run board events whole fills = record { history = history_of whole; run = fills.placed.run; same_acts = fills.placed.same_acts }

pub stops : (board : Board) (events : List Event) (event : ℕ) (why : Why) → ActRefused board events event why → ActsStop board events why
stops board events event why refused = record { event = event; refused = refused }
