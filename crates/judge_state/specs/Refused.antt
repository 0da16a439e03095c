-- Which event of a list is refused first, the first event first.
use Rattle.std.specs.Prelude.{◌≡◌, ℕ, ◌+◌, List, ◌∷◌, ◌++◌, length, Some}
use Rattle.board_model.specs.declared.board.Board.{Board}
use Rattle.history_model.specs.declared.event.Event.{Event}
use Rattle.history_model.specs.declared.why.Why.{Why}
use Rattle.history_model.specs.declared.rule.Rule.{Rule}
use Rattle.history_model.specs.declared.rule.Rule.TheVariants.{Tagged}
use Rattle.history_model.specs.Runs.{RunBy, history_of}
use Rattle.machine_steps.specs.Verdicts.{HoldsBy}

-- under a rule: the event of this number, from 1, is the first that is not allowed after those before it, and this is why
pub record FirstRefusedBy (rule : Rule) (board : Board) (events : List Event) (number : ℕ) (why : Why) : Type 0 where
  pub before : List Event
  pub event : Event
  pub after : List Event
  pub split : events ≡ before ++ event ∷ after
  pub number_is : number ≡ length before + 1
  pub run : RunBy rule board (history_of before)
  pub cause : HoldsBy rule board (history_of before) event (Some why)

-- the same on bridges that keep the local master
abbrev pub FirstRefused : Board → List Event → ℕ → Why → Type 0
FirstRefused board events number why = FirstRefusedBy Tagged board events number why

-- the same of a number and a cause
abbrev pub RefusesFirst : Board → List Event → ℕ × Why → Type 0
RefusesFirst board events refused = FirstRefused board events refused.0 refused.1
