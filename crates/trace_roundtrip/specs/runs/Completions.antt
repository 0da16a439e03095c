-- What a completion says of its request.
use Rattle.std.specs.Prelude.{◌≡◌, true}
use Rattle.history_model.specs.declared.item.Carried.{Carried}
use Rattle.history_model.specs.declared.item.Carried.TheVariants.{Post, Ask, Done, Room, Gone}
use Rattle.trace_text.specs.Events.{is_completion}

-- a completion says what came of its request: a value, that the write was taken, or that it was aborted
abbrev pub SaysHow : Carried → Type 0
SaysHow (Post op) = Unit {0}
SaysHow (Ask op slot) = Unit {0}
SaysHow (Done op slot outcome) = is_completion outcome ≡ true
SaysHow Room = Unit {0}
SaysHow (Gone slot) = Unit {0}
