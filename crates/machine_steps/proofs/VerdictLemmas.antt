-- No two of the causes hold of one event, and none where it is allowed.
use Rattle.std.proofs.Common.{◌≡◌, ℕ, Bool, true, false, ◌↔◌, ◌⊎◌, inl, inr, List, Option, Some, None, Result, Ok, Err, IsOk, refl, sym, ap, subst, ◌∙◌}
use Rattle.pci_command.specs.declared.op_id.OpId.{OpId}
use Rattle.board_model.specs.declared.board.Board.{Board}
use Rattle.board_model.specs.declared.bridge.Lane.{Lane as BridgeLane}
use Rattle.board_model.specs.declared.bridge.Place.{Place}
use Rattle.history_model.specs.declared.event.By.{By}
use Rattle.history_model.specs.declared.event.Mark.{Mark}
use Rattle.history_model.specs.declared.event.Step.{Step}
use Rattle.history_model.specs.declared.event.Event.{Event}
use Rattle.history_model.specs.declared.event.Event.TheVariants.{Act, Arrive}
use Rattle.history_model.specs.declared.item.Answer.{Answer}
use Rattle.history_model.specs.declared.item.Cause.{Cause}
use Rattle.history_model.specs.declared.item.Answer.TheVariants.{Gives, Retry}
use Rattle.history_model.specs.declared.why.Why.{Why}
use Rattle.history_model.specs.declared.why.Why.TheVariants.{NotPresented, AnsweredOtherwise, GetsRetry, NothingInFlight, MarkedOtherwise}
use Rattle.history_model.specs.declared.rule.Rule.{Rule}
use Rattle.history_model.specs.declared.rule.Rule.TheVariants.{Tagged}
use Rattle.history_model.specs.World.{world_by}
use Rattle.history_model.specs.Answers.{wants_by, answer_by_rule}
use Rattle.history_model.specs.Runs.{Allowed, AllowedBy, next_mark_in}
use Rattle.machine_steps.specs.Verdicts.{cause_in, Holds, HoldsBy, HoldsOfAct, HoldsOfArrival}

-- what is not presented has that cause alone
unwanted : (answer : Answer) (step : Step) (place : Place) (w : Option Why) → HoldsOfAct false answer step place w → w ≡ Some NotPresented
unwanted answer step place None holds = let no : false ≡ true = holds.0 in cc
unwanted answer step place (Some NotPresented) holds = refl
unwanted answer step place (Some AnsweredOtherwise) holds = let no : false ≡ true = holds.0 in cc
unwanted answer step place (Some GetsRetry) holds = let no : false ≡ true = holds.0 in cc
unwanted answer step place (Some NothingInFlight) holds = absurd holds
unwanted answer step place (Some MarkedOtherwise) holds = absurd holds

retried : (cause : Cause) (step : Step) (place : Place) (w : Option Why) → HoldsOfAct true (Retry cause) step place w → w ≡ Some GetsRetry
retried cause step place None holds = let no = holds.1 in cc
retried cause step place (Some NotPresented) holds = cc
retried cause step place (Some AnsweredOtherwise) holds = absurd holds.1
retried cause step place (Some GetsRetry) holds = refl
retried cause step place (Some NothingInFlight) holds = absurd holds
retried cause step place (Some MarkedOtherwise) holds = absurd holds

-- what is answered by an event has that event, or another one
given : (step : Step) (place : Place) (other : Step) (from : Place) (w : Option Why) → HoldsOfAct true (Gives other from) step place w →
    ((w ≡ None) × ((other ≡ step) × (from ≡ place))) ⊎ ((w ≡ Some AnsweredOtherwise) × (¬ ((other ≡ step) × (from ≡ place))))
given step place other from None holds =
    let same = holds.1 in let steps : other ≡ step = cc in let places : from ≡ place = cc in inl (refl, (steps, places))
given step place other from (Some NotPresented) holds = cc
given step place other from (Some AnsweredOtherwise) holds = inr (refl, holds.1)
given step place other from (Some GetsRetry) holds = absurd holds.1
given step place other from (Some NothingInFlight) holds = absurd holds
given step place other from (Some MarkedOtherwise) holds = absurd holds

act_one : (wanted : Bool) (answer : Answer) (step : Step) (place : Place) (v w : Option Why) →
    HoldsOfAct wanted answer step place v → HoldsOfAct wanted answer step place w → v ≡ w
act_one false answer step place v w first second = unwanted answer step place v first ∙ sym (unwanted answer step place w second)
act_one true (Retry cause) step place v w first second = retried cause step place v first ∙ sym (retried cause step place w second)
act_one true (Gives other from) step place v w first second =
    elim (given step place other from v first) as (λ _. v ≡ w) [
      | inl one ↦ elim (given step place other from w second) as (λ _. v ≡ w) [
        | inl two ↦ one.0 ∙ sym two.0
        | inr two ↦ absurd (two.1 one.1)
      ]
      | inr one ↦ elim (given step place other from w second) as (λ _. v ≡ w) [
        | inl two ↦ absurd (one.1 two.1)
        | inr two ↦ one.0 ∙ sym two.0
      ]
    ]

-- the same of arrivals
none_flies : (mark : Mark) (w : Option Why) → HoldsOfArrival None mark w → w ≡ Some NothingInFlight
none_flies mark None holds = cc
none_flies mark (Some NotPresented) holds = absurd holds
none_flies mark (Some AnsweredOtherwise) holds = absurd holds
none_flies mark (Some GetsRetry) holds = absurd holds
none_flies mark (Some NothingInFlight) holds = refl
none_flies mark (Some MarkedOtherwise) holds = absurd holds

marked : (mark other : Mark) (w : Option Why) → HoldsOfArrival (Some other) mark w →
    ((w ≡ None) × (other ≡ mark)) ⊎ ((w ≡ Some MarkedOtherwise) × (¬ (other ≡ mark)))
marked mark other None holds = let same : other ≡ mark = cc in inl (refl, same)
marked mark other (Some NotPresented) holds = absurd holds
marked mark other (Some AnsweredOtherwise) holds = absurd holds
marked mark other (Some GetsRetry) holds = absurd holds
marked mark other (Some NothingInFlight) holds = cc
marked mark other (Some MarkedOtherwise) holds = inr (refl, holds)

arrival_one : (next : Option Mark) (mark : Mark) (v w : Option Why) → HoldsOfArrival next mark v → HoldsOfArrival next mark w → v ≡ w
arrival_one None mark v w first second = none_flies mark v first ∙ sym (none_flies mark w second)
arrival_one (Some other) mark v w first second =
    elim (marked mark other v first) as (λ _. v ≡ w) [
      | inl one ↦ elim (marked mark other w second) as (λ _. v ≡ w) [
        | inl two ↦ one.0 ∙ sym two.0
        | inr two ↦ absurd (two.1 one.1)
      ]
      | inr one ↦ elim (marked mark other w second) as (λ _. v ≡ w) [
        | inl two ↦ absurd (one.1 two.1)
        | inr two ↦ one.0 ∙ sym two.0
      ]
    ]

-- what holds of an act, and of an arrival, is what holds of the event
pub of_act : (rule : Rule) (board : Board) (h : List Event) (on : ℕ) (by : By) (o : OpId) (step : Step) (place : Place) (w : Option Why) →
    HoldsOfAct (wants_by rule board h on by o) (answer_by_rule rule board h on by o) step place w → HoldsBy rule board h (Act on by o step place) w
of_act rule board h on by o step place None holds = holds
of_act rule board h on by o step place (Some NotPresented) holds = holds
of_act rule board h on by o step place (Some AnsweredOtherwise) holds = holds
of_act rule board h on by o step place (Some GetsRetry) holds = holds
of_act rule board h on by o step place (Some NothingInFlight) holds = holds
of_act rule board h on by o step place (Some MarkedOtherwise) holds = holds

pub of_arrival : (rule : Rule) (board : Board) (h : List Event) (lane : BridgeLane) (mark : Mark) (w : Option Why) →
    HoldsOfArrival (next_mark_in board (world_by rule board h) lane) mark w → HoldsBy rule board h (Arrive lane mark) w
of_arrival rule board h lane mark None holds = holds
of_arrival rule board h lane mark (Some NotPresented) holds = holds
of_arrival rule board h lane mark (Some AnsweredOtherwise) holds = holds
of_arrival rule board h lane mark (Some GetsRetry) holds = holds
of_arrival rule board h lane mark (Some NothingInFlight) holds = holds
of_arrival rule board h lane mark (Some MarkedOtherwise) holds = holds

to_act : (rule : Rule) (board : Board) (h : List Event) (on : ℕ) (by : By) (o : OpId) (step : Step) (place : Place) (w : Option Why) →
    HoldsBy rule board h (Act on by o step place) w → HoldsOfAct (wants_by rule board h on by o) (answer_by_rule rule board h on by o) step place w
to_act rule board h on by o step place None holds = holds
to_act rule board h on by o step place (Some NotPresented) holds = holds
to_act rule board h on by o step place (Some AnsweredOtherwise) holds = holds
to_act rule board h on by o step place (Some GetsRetry) holds = holds
to_act rule board h on by o step place (Some NothingInFlight) holds = holds
to_act rule board h on by o step place (Some MarkedOtherwise) holds = holds

to_arrival : (rule : Rule) (board : Board) (h : List Event) (lane : BridgeLane) (mark : Mark) (w : Option Why) →
    HoldsBy rule board h (Arrive lane mark) w → HoldsOfArrival (next_mark_in board (world_by rule board h) lane) mark w
to_arrival rule board h lane mark None holds = holds
to_arrival rule board h lane mark (Some NotPresented) holds = holds
to_arrival rule board h lane mark (Some AnsweredOtherwise) holds = holds
to_arrival rule board h lane mark (Some GetsRetry) holds = holds
to_arrival rule board h lane mark (Some NothingInFlight) holds = holds
to_arrival rule board h lane mark (Some MarkedOtherwise) holds = holds

holds_one : (rule : Rule) (board : Board) (h : List Event) (e : Event) (v w : Option Why) → HoldsBy rule board h e v → HoldsBy rule board h e w → v ≡ w
holds_one rule board h (Act on by o step place) v w first second =
    act_one (wants_by rule board h on by o) (answer_by_rule rule board h on by o) step place v w (to_act rule board h on by o step place v first) (to_act rule board h on by o step place w second)
holds_one rule board h (Arrive lane mark) v w first second =
    arrival_one (next_mark_in board (world_by rule board h) lane) mark v w (to_arrival rule board h lane mark v first) (to_arrival rule board h lane mark w second)

err_by_cause : (r : Result (Unit {0}) Why) (why : Why) → cause_in r ≡ Some why → r ≡ Err why
err_by_cause (Ok value) why is = cc
err_by_cause (Err other) why is = cc

ok_by_cause : (r : Result (Unit {0}) Why) → cause_in r ≡ None → IsOk r
ok_by_cause (Ok value) is = refl
ok_by_cause (Err other) is = cc

cause_of_ok : (r : Result (Unit {0}) Why) → IsOk r → cause_in r ≡ None
cause_of_ok (Ok value) is = refl
cause_of_ok (Err other) is = cc

-- a result names a cause exactly where it holds, and none exactly where the event is allowed
pub named_exactly_by : (rule : Rule) (board : Board) (h : List Event) (e : Event) (r : Result (Unit {0}) Why) (why : Why) → HoldsBy rule board h e (cause_in r) →
    (r ≡ Err why) ↔ HoldsBy rule board h e (Some why)
named_exactly_by rule board h e r why holds =
    let P : Option Why → Type 0 = λ w. HoldsBy rule board h e w in
    let cause : Result (Unit {0}) Why → Option Why = λ s. cause_in s in
    (λ is. subst P (ap cause is) holds, λ other. err_by_cause r why (holds_one rule board h e (cause_in r) (Some why) holds other))

pub allowed_exactly_by : (rule : Rule) (board : Board) (h : List Event) (e : Event) (r : Result (Unit {0}) Why) → HoldsBy rule board h e (cause_in r) → IsOk r ↔ AllowedBy rule board h e
allowed_exactly_by rule board h e r holds =
    let P : Option Why → Type 0 = λ w. HoldsBy rule board h e w in
    (λ is. subst P (cause_of_ok r is) holds, λ other. ok_by_cause r (holds_one rule board h e (cause_in r) None holds other))

-- on bridges that keep the local master
pub allowed_exactly : (board : Board) (h : List Event) (e : Event) (r : Result (Unit {0}) Why) → Holds board h e (cause_in r) → IsOk r ↔ Allowed board h e
allowed_exactly board h e r holds = allowed_exactly_by Tagged board h e r holds
