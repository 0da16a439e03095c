-- What can stand at the far face of a lane.
use Rattle.history_model.specs.declared.item.Carried.{Carried}
use Rattle.history_model.specs.declared.item.Carried.TheVariants.{Post, Ask, Done, Room, Gone}

-- posted writes, delayed requests and completions stand; a credit, and the word that a request was
-- dropped, act as they arrive
abbrev pub CanStand : Carried → Type 0
CanStand (Post op) = Unit {0}
CanStand (Ask op slot) = Unit {0}
CanStand (Done op slot outcome) = Unit {0}
CanStand Room = ⊥
CanStand (Gone slot) = ⊥
