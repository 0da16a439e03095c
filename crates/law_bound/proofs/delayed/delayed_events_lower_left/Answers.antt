use Rattle.std.proofs.Common.{◌+◌, ◌≤◌, List, ◌∷◌}
use Rattle.board_model.specs.declared.board.Board.{Board}
use Rattle.board_model.specs.Valid.{IsValid}
use Rattle.history_model.specs.declared.event.Event.{Event}
use Rattle.history_model.specs.declared.event.Event.TheVariants.{Act, Arrive}
use Rattle.history_model.specs.Runs.{Run}
use Rattle.history_model.specs.Left.{left_of}
use Rattle.law_bound.specs.delayed.Delayed.{IsDelayedEvent}
use Rattle.law_bound.proofs.delayed.ActEventLemmas.{act_lowers}
use Rattle.law_bound.proofs.delayed.ArriveEventLemmas.{arrival_lowers}
use Rattle.law_bound.proofs.delayed.delayed_events_lower_left.Goals as goal

-- by the kind of the event
event_lowers : (board : Board) (h : List Event) (e : Event) → IsValid board → Run board (e ∷ h) → IsDelayedEvent board h e → left_of board (e ∷ h) + 1 ≤ left_of board h
event_lowers board h (Act on by o step place) valid run delayed = act_lowers board valid h on o delayed.0.op delayed.0.is_op delayed.0.is_posted by step place delayed.1 run
event_lowers board h (Arrive lane mark) valid run delayed = arrival_lowers board valid h lane mark run delayed

pub returns : goal.returns
returns c = event_lowers
