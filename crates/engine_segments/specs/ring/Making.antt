-- The ends of the bridges to buses below a number, while they are made.
use Rattle.std.specs.Prelude.{◌≡◌, ℕ, List, [], ◌∷◌, ◌++◌, length, map, Option, Some, nat_lt, ◌&&◌, if◌then◌else◌}
use Rattle.std.specs.List.{filter, range_with_len}
use Rattle.board_model.specs.declared.bridge.Lane.{Lane as BridgeLane}
use Rattle.board_model.specs.declared.board.Board.{Board}
use Rattle.board_model.specs.Valid.{has_bridge_to}
use Rattle.board_model.specs.Ways.{lane_back}
use Rattle.lane_items.specs.declared.item.Item.{Item}
use Rattle.lane_ends.specs.declared.ring.ring_end.RingEnd.{RingEnd}
use Rattle.lane_ends.specs.ring.Ends.{sent_out, got_in, AreOneLane}
use Rattle.engine_segments.specs.First.{buses_of, is_below, down_to, up_from}
use Rattle.engine_segments.specs.ring.Pairs.{IsNew}

-- of the lanes that end on a bus, those of bridges to buses below the number
abbrev pub own_below : Board → ℕ → ℕ → List BridgeLane
own_below board n bus = if has_bridge_to board bus && nat_lt bus n then down_to bus ∷ [] else []

-- the same of all lanes that end on the bus: that of its own bridge first
abbrev pub lanes_below : Board → ℕ → ℕ → List BridgeLane
lanes_below board n bus = own_below board n bus ++ map up_from (filter (is_below board bus) (range_with_len 0 n))

-- there is an end for each of them, in their order, and the ends of a bridge are paired
pub record AreSoFar {End : Type 0} (had sent got : End → List Item) (kept : End → ℕ) (paired : End → End → Type 0) (board : Board) (n : ℕ) (ends : List (List End)) : Type 0 where
  pub given : BridgeLane → Option End
  pub are : map (λ (at : List End). map (λ (end : End). Some end) at) ends ≡ map (λ (bus : ℕ). map given (lanes_below board n bus)) (buses_of board)
  pub new : (lane : BridgeLane) (end : End) → given lane ≡ Some end → IsNew had sent got kept end
  pub pairs : (lane : BridgeLane) (end other : End) → given lane ≡ Some end → given (lane_back lane) ≡ Some other → paired end other

-- so it is of ends over rings
abbrev pub RingsSoFar : Board → ℕ → List (List RingEnd) → Type 0
RingsSoFar board n ends =
    AreSoFar (λ end. end.inward.hand.items) (λ end. sent_out end.outward) (λ end. got_in end.inward) (λ end. length end.outward.waiting.items) (λ a b. AreOneLane a.outward b.inward × AreOneLane b.outward a.inward) board n ends
