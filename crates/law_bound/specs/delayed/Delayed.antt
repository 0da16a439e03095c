-- The events of delayed requests: PCI Local Bus Specification 2.2, section 3.3.3.3 (from memory; delayed transactions).
use Rattle.std.specs.Prelude.{◌≡◌, Bool, true, false, List, [], ◌∷◌}
use Rattle.board_model.specs.declared.board.Board.{Board}
use Rattle.history_model.specs.declared.event.Event.{Event}
use Rattle.history_model.specs.declared.event.Event.TheVariants.{Act, Arrive}
use Rattle.history_model.specs.declared.item.Carried.{Carried}
use Rattle.history_model.specs.declared.item.Carried.TheVariants.{Post, Ask, Done, Room, Gone}
use Rattle.history_model.specs.World.{world_of}
use Rattle.law_lanes.specs.Kinds.{NamesOp}
use Rattle.history_model.specs.Steps.{is_stall}

-- a delayed request, a completion, or the word that a request was dropped
abbrev pub is_delayed_item : Carried → Bool
is_delayed_item (Post op) = false
is_delayed_item (Ask op slot) = true
is_delayed_item (Done op slot outcome) = true
is_delayed_item Room = false
is_delayed_item (Gone slot) = true

-- the oldest of some items is one of these
abbrev pub is_delayed_first : List Carried → Bool
is_delayed_first [] = false
is_delayed_first (item ∷ items) = is_delayed_item item

-- an act, other than a stall, of an operation that is no posted write; or an arrival whose item is a delayed
-- request, a completion, or the word that a request was dropped
abbrev pub IsDelayedEvent : Board → List Event → Event → Type 0
IsDelayedEvent board h (Act on by o step place) = NamesOp board false o × (is_stall step ≡ false)
IsDelayedEvent board h (Arrive lane mark) = is_delayed_first (world_of board h lane).flight ≡ true
