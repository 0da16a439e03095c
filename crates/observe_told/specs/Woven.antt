-- A run whose arrivals stand apart from its acts.
use Rattle.std.specs.Prelude.{◌≡◌, ℕ, ◌+◌, List, [], ◌∷◌, length}
use Rattle.history_model.specs.declared.event.Event.{Event}
use Rattle.history_model.specs.declared.event.Event.TheVariants.{Arrive}
use Rattle.history_model.specs.Runs.{history_of}
use Rattle.observe_told.specs.declared.woven.Strand.{Strand}
use Rattle.observe_told.specs.declared.woven.Strand.TheVariants as strands
use Rattle.observe_told.specs.declared.woven.Woven.{Woven}

-- the acts one after the other, and the arrivals between them
abbrev pub weave : List Strand → List Event → List Event
weave [] acts = []
weave (strands.Act ∷ rest) [] = []
weave (strands.Act ∷ rest) (act ∷ acts) = act ∷ weave rest acts
weave (strands.Arrive lane mark ∷ rest) acts = Arrive lane mark ∷ weave rest acts

-- the events of the run, the oldest first
abbrev pub events_of : Woven → List Event
events_of woven = weave woven.strands.items woven.acts.items

-- how many acts have a place among them
abbrev pub acts_among : List Strand → ℕ
acts_among [] = 0
acts_among (strands.Act ∷ rest) = 1 + acts_among rest
acts_among (strands.Arrive lane mark ∷ rest) = acts_among rest

-- each act has its place
abbrev pub IsWhole : Woven → Type 0
IsWhole woven = acts_among woven.strands.items ≡ length woven.acts.items

-- by this event more
pub record WentOn (event : Event) (before after : Woven) : Type 0 where
  pub whole : IsWhole after
  pub more : history_of (events_of after) ≡ event ∷ history_of (events_of before)

-- the same, where each act had its place
abbrev pub GoesOn : Event → Woven → Woven → Type 0
GoesOn event before after = IsWhole before → WentOn event before after
