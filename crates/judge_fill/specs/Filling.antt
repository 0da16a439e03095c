-- Events whose arrivals are left away, and put where they are earliest.
use Rattle.std.specs.Prelude.{◌≡◌, ◌+◌, ◌≤◌, ℕ, List, [], ◌∷◌, ◌++◌, length, Some}
use Rattle.board_model.specs.declared.board.Board.{Board}
use Rattle.board_model.specs.Ways.{bound_of}
use Rattle.history_model.specs.declared.event.Event.{Event}
use Rattle.history_model.specs.declared.event.Event.TheVariants.{Act, Arrive}
use Rattle.history_model.specs.declared.why.Why.{Why}
use Rattle.history_model.specs.declared.rule.Rule.TheVariants.{Tagged}
use Rattle.history_model.specs.Runs.{Run, Complete, history_of}
use Rattle.history_model.specs.Next.{next_of}
use Rattle.machine_steps.specs.Verdicts.{Holds}
use Rattle.law_early.specs.Early.{acts_of, NothingFlies}
use Rattle.judge_fill.specs.declared.unfilled.Unfilled.{Unfilled}
use Rattle.judge_fill.specs.declared.unfilled.Unfilled.TheVariants.{NotRun, NoMemory}

-- where arrivals stand in a history: before an act nothing is in flight, and an arrival is the next event of the fixed
-- order
abbrev pub IsEarly : Board → List Event → Type 0
IsEarly board [] = Unit {0}
IsEarly board (Act on by o step place ∷ h) = NothingFlies Tagged board h × IsEarly board h
IsEarly board (Arrive lane mark ∷ h) = (next_of board h ≡ Some (Arrive lane mark)) × IsEarly board h

-- a run of the acts of these events, in which all that is in flight arrives before the next act, and at the end
pub record PlacedEarly (board : Board) (events whole : List Event) : Type 0 where
  pub run : Run board (history_of whole)
  pub same_acts : acts_of (history_of whole) ≡ acts_of (history_of events)
  pub early : IsEarly board (history_of whole)
  pub landed : NothingFlies Tagged board (history_of whole)

-- such a run: it has at most as many events as the board's bound, and where any run of these acts is complete, it is
pub record Fills (board : Board) (events whole : List Event) : Type 0 where
  pub placed : PlacedEarly board events whole
  pub bound : length whole ≤ bound_of board
  pub complete : (h : List Event) → Run board h → acts_of h ≡ acts_of (history_of events) → Complete board h →
      Complete board (history_of whole)

-- an act among the events, by its number from 1 on, with arrivals counted: it is not allowed after such a run of the acts
-- before it, for this cause; and no run has these acts and then this one, wherever its arrivals are, whatever follows
pub record ActRefused (board : Board) (events : List Event) (number : ℕ) (why : Why) : Type 0 where
  pub before : List Event
  pub act : Event
  pub after : List Event
  pub split : events ≡ before ++ act ∷ after
  pub number_is : number ≡ length before + 1
  pub is_act : acts_of (act ∷ []) ≡ act ∷ []
  pub filled : List Event
  pub placed : PlacedEarly board before filled
  pub cause : Holds board (history_of filled) act (Some why)
  pub no_run : (h later : List Event) → Run board h → ¬ (acts_of h ≡ later ++ act ∷ acts_of (history_of before))

-- why arrivals are not put anew: an act is refused, or for want of memory
abbrev pub IsUnfilled : Board → List Event → Unfilled → Type 0
IsUnfilled board events (NotRun event why) = ActRefused board events event why
IsUnfilled board events NoMemory = Unit {0}
