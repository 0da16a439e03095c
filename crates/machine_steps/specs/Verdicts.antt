-- What holds where an event is allowed, and where it is not for each of the causes.
use Rattle.std.specs.Prelude.{◌≡◌, Bool, true, false, List, Option, Some, None, Result, Ok, Err}
use Rattle.board_model.specs.declared.board.Board.{Board}
use Rattle.board_model.specs.declared.bridge.Place.{Place}
use Rattle.history_model.specs.declared.event.Mark.{Mark}
use Rattle.history_model.specs.declared.event.Step.{Step}
use Rattle.history_model.specs.declared.event.Event.{Event}
use Rattle.history_model.specs.declared.item.Answer.{Answer}
use Rattle.history_model.specs.declared.item.Answer.TheVariants.{Gives}
use Rattle.history_model.specs.declared.why.Why.{Why}
use Rattle.history_model.specs.declared.why.Why.TheVariants.{NotPresented, AnsweredOtherwise, GetsRetry, NothingInFlight, MarkedOtherwise}
use Rattle.history_model.specs.declared.rule.Rule.{Rule}
use Rattle.history_model.specs.declared.rule.Rule.TheVariants.{Tagged}
use Rattle.history_model.specs.Runs.{AllowedBy}
use Rattle.machine_steps.specs.Whys.{IsNotPresentedBy, IsAnsweredOtherwiseBy, IsRetriedBy, HasNothingInFlightBy, IsMarkedOtherwiseBy, GivesOther, IsRetry, IsOtherMark}

-- the cause that a result names, none where it is Ok
abbrev pub cause_in : {T : Type 0} → Result T Why → Option Why
cause_in (Ok value) = None
cause_in (Err why) = Some why

-- under a rule: of an event after a history
abbrev pub HoldsBy : Rule → Board → List Event → Event → Option Why → Type 0
HoldsBy rule board h e None = AllowedBy rule board h e
HoldsBy rule board h e (Some NotPresented) = IsNotPresentedBy rule board h e
HoldsBy rule board h e (Some AnsweredOtherwise) = IsAnsweredOtherwiseBy rule board h e
HoldsBy rule board h e (Some GetsRetry) = IsRetriedBy rule board h e
HoldsBy rule board h e (Some NothingInFlight) = HasNothingInFlightBy rule board h e
HoldsBy rule board h e (Some MarkedOtherwise) = IsMarkedOtherwiseBy rule board h e

-- of an event after a history
abbrev pub Holds : Board → List Event → Event → Option Why → Type 0
Holds board h e why = HoldsBy Tagged board h e why

-- of an act, by whether it is wanted and by its answer
abbrev pub HoldsOfAct : Bool → Answer → Step → Place → Option Why → Type 0
HoldsOfAct wanted answer step place None = (wanted ≡ true) × (answer ≡ Gives step place)
HoldsOfAct wanted answer step place (Some NotPresented) = wanted ≡ false
HoldsOfAct wanted answer step place (Some AnsweredOtherwise) = (wanted ≡ true) × GivesOther step place answer
HoldsOfAct wanted answer step place (Some GetsRetry) = (wanted ≡ true) × IsRetry answer
HoldsOfAct wanted answer step place (Some NothingInFlight) = ⊥
HoldsOfAct wanted answer step place (Some MarkedOtherwise) = ⊥

-- of an arrival, by the mark of the next one
abbrev pub HoldsOfArrival : Option Mark → Mark → Option Why → Type 0
HoldsOfArrival next mark None = next ≡ Some mark
HoldsOfArrival next mark (Some NotPresented) = ⊥
HoldsOfArrival next mark (Some AnsweredOtherwise) = ⊥
HoldsOfArrival next mark (Some GetsRetry) = ⊥
HoldsOfArrival next mark (Some NothingInFlight) = next ≡ None
HoldsOfArrival next mark (Some MarkedOtherwise) = IsOtherMark mark next
