-- The acts of a history, and the history in which everything arrives as early as can be. Histories stand newest first.
use Rattle.std.specs.Prelude.{◌≡◌, ℕ, zero, suc, false, true, List, [], ◌∷◌, length, Option, Some, None}
use Rattle.board_model.specs.declared.bridge.Bridge.{Bridge}
use Rattle.board_model.specs.declared.bridge.Lane.{Lane as BridgeLane}
use Rattle.board_model.specs.declared.board.Board.{Board}
use Rattle.history_model.specs.declared.event.Mark.{Mark}
use Rattle.history_model.specs.declared.event.Event.{Event}
use Rattle.history_model.specs.declared.event.Event.TheVariants.{Act, Arrive}
use Rattle.history_model.specs.declared.rule.Rule.{Rule}
use Rattle.history_model.specs.World.{world_by}
use Rattle.history_model.specs.Runs.{next_mark_in, RunBy}

-- the events that are no arrivals
abbrev pub acts_of : List Event → List Event
acts_of [] = []
acts_of (Act on by o step place ∷ h) = Act on by o step place ∷ acts_of h
acts_of (Arrive lane mark ∷ h) = acts_of h

-- the lanes of bridges: of each the lane down, then the lane up
abbrev pub lanes_of_bridges : List Bridge → List BridgeLane
lanes_of_bridges [] = []
lanes_of_bridges (bridge ∷ bridges) =
    record { bus = bridge.bus; up = false } ∷ record { bus = bridge.bus; up = true } ∷ lanes_of_bridges bridges

-- the history with one more arrival, with the mark that the board gives it; itself where there is none
abbrev pub arrival_with : BridgeLane → List Event → Option Mark → List Event
arrival_with lane h None = h
arrival_with lane h (Some mark) = Arrive lane mark ∷ h

-- the oldest item in flight on the lane arrives
abbrev pub one_arrives : Rule → Board → BridgeLane → List Event → List Event
one_arrives rule board lane h = arrival_with lane h (next_mark_in board (world_by rule board h) lane)

-- so many arrive
abbrev pub so_many_arrive : ℕ → Rule → Board → BridgeLane → List Event → List Event
so_many_arrive zero rule board lane h = h
so_many_arrive (suc n) rule board lane h = so_many_arrive n rule board lane (one_arrives rule board lane h)

-- all that is in flight on the lane arrives
abbrev pub lane_arrives : Rule → Board → BridgeLane → List Event → List Event
lane_arrives rule board lane h = so_many_arrive (length (world_by rule board h lane).flight) rule board lane h

-- so on these lanes, one after the other
abbrev pub lanes_arrive : Rule → Board → List BridgeLane → List Event → List Event
lanes_arrive rule board [] h = h
lanes_arrive rule board (lane ∷ lanes) h = lanes_arrive rule board lanes (lane_arrives rule board lane h)

-- all that is in flight arrives: bridge by bridge, and then once more, since a request that is dropped as it arrives
-- sends word of that (no such word sends anything)
abbrev pub all_arrive : Rule → Board → List Event → List Event
all_arrive rule board h =
    lanes_arrive rule board (lanes_of_bridges board.bridges) (lanes_arrive rule board (lanes_of_bridges board.bridges) h)

-- these acts, with all that each puts in flight arriving at once; before the first nothing is in flight
abbrev pub filled : Rule → Board → List Event → List Event
filled rule board [] = []
filled rule board (act ∷ acts) = all_arrive rule board (act ∷ filled rule board acts)

-- nothing is in flight after the history
abbrev pub NothingFlies : Rule → Board → List Event → Type 0
NothingFlies rule board h = (lane : BridgeLane) → (world_by rule board h lane).flight ≡ []

-- all arrivals after a history make a run of the same acts, after which nothing is in flight
pub record AllArrive (rule : Rule) (board : Board) (h : List Event) : Type 0 where
  pub run : RunBy rule board (all_arrive rule board h)
  pub same_acts : acts_of (all_arrive rule board h) ≡ acts_of h
  pub landed : NothingFlies rule board (all_arrive rule board h)

-- these acts with early arrivals are a run of just these acts, and after it nothing is in flight
pub record RunsEarly (rule : Rule) (board : Board) (acts : List Event) : Type 0 where
  pub run : RunBy rule board (filled rule board acts)
  pub same_acts : acts_of (filled rule board acts) ≡ acts
  pub landed : NothingFlies rule board (filled rule board acts)
