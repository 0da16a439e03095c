-- Why an event is not allowed after a history, under either rule of the bridge. The name without `By` is of bridges that
-- keep the local master.
use Rattle.std.specs.Prelude.{◌≡◌, ◌≢◌, true, false, List, Option, Some, None}
use Rattle.board_model.specs.declared.board.Board.{Board}
use Rattle.board_model.specs.declared.bridge.Place.{Place}
use Rattle.history_model.specs.declared.event.Mark.{Mark}
use Rattle.history_model.specs.declared.event.Step.{Step}
use Rattle.history_model.specs.declared.event.Event.{Event}
use Rattle.history_model.specs.declared.event.Event.TheVariants.{Act, Arrive}
use Rattle.history_model.specs.declared.item.Answer.{Answer}
use Rattle.history_model.specs.declared.item.Answer.TheVariants.{Gives, Retry}
use Rattle.history_model.specs.declared.rule.Rule.{Rule}
use Rattle.history_model.specs.declared.rule.Rule.TheVariants.{Tagged}
use Rattle.history_model.specs.World.{world_by}
use Rattle.history_model.specs.Answers.{wants_by, answer_by_rule}
use Rattle.history_model.specs.Runs.{next_mark_in}

-- NotPresented: the initiator does not present the operation on the bus
abbrev pub IsNotPresentedBy : Rule → Board → List Event → Event → Type 0
IsNotPresentedBy rule board h (Act on by o step place) = wants_by rule board h on by o ≡ false
IsNotPresentedBy rule board h (Arrive lane mark) = ⊥

-- the same of bridges that keep the local master
abbrev pub IsNotPresented : Board → List Event → Event → Type 0
IsNotPresented board h e = IsNotPresentedBy Tagged board h e

-- an answer that is an event, but with another step or from another place
abbrev pub GivesOther : Step → Place → Answer → Type 0
GivesOther step place (Gives given from) = ¬ ((given ≡ step) × (from ≡ place))
GivesOther step place (Retry cause) = ⊥

-- AnsweredOtherwise: it is presented, and answered by another event
abbrev pub IsAnsweredOtherwiseBy : Rule → Board → List Event → Event → Type 0
IsAnsweredOtherwiseBy rule board h (Act on by o step place) = (wants_by rule board h on by o ≡ true) × GivesOther step place (answer_by_rule rule board h on by o)
IsAnsweredOtherwiseBy rule board h (Arrive lane mark) = ⊥

-- the same of bridges that keep the local master
abbrev pub IsAnsweredOtherwise : Board → List Event → Event → Type 0
IsAnsweredOtherwise board h e = IsAnsweredOtherwiseBy Tagged board h e

-- an answer that is no event
abbrev pub IsRetry : Answer → Type 0
IsRetry (Gives step place) = ⊥
IsRetry (Retry cause) = Unit {0}

-- GetsRetry: it is presented, and answered with Retry
abbrev pub IsRetriedBy : Rule → Board → List Event → Event → Type 0
IsRetriedBy rule board h (Act on by o step place) = (wants_by rule board h on by o ≡ true) × IsRetry (answer_by_rule rule board h on by o)
IsRetriedBy rule board h (Arrive lane mark) = ⊥

-- the same of bridges that keep the local master
abbrev pub IsRetried : Board → List Event → Event → Type 0
IsRetried board h e = IsRetriedBy Tagged board h e

-- NothingInFlight: nothing is in flight on the lane
abbrev pub HasNothingInFlightBy : Rule → Board → List Event → Event → Type 0
HasNothingInFlightBy rule board h (Act on by o step place) = ⊥
HasNothingInFlightBy rule board h (Arrive lane mark) = next_mark_in board (world_by rule board h) lane ≡ None

-- the same of bridges that keep the local master
abbrev pub HasNothingInFlight : Board → List Event → Event → Type 0
HasNothingInFlight board h e = HasNothingInFlightBy Tagged board h e

-- something is in flight, and the board marks it otherwise
abbrev pub IsOtherMark : Mark → Option Mark → Type 0
IsOtherMark mark None = ⊥
IsOtherMark mark (Some given) = given ≢ mark

-- MarkedOtherwise: the board marks what arrives next on the lane otherwise
abbrev pub IsMarkedOtherwiseBy : Rule → Board → List Event → Event → Type 0
IsMarkedOtherwiseBy rule board h (Act on by o step place) = ⊥
IsMarkedOtherwiseBy rule board h (Arrive lane mark) = IsOtherMark mark (next_mark_in board (world_by rule board h) lane)

-- the same of bridges that keep the local master
abbrev pub IsMarkedOtherwise : Board → List Event → Event → Type 0
IsMarkedOtherwise board h e = IsMarkedOtherwiseBy Tagged board h e
