-- Ends of lanes, bus by bus: the two ends of each bridge are those of one pair.
use Rattle.std.specs.Prelude.{◌≡◌, ℕ, zero, suc, List, [], ◌∷◌, ◌++◌, Some, slice_get}
use Rattle.board_model.specs.declared.bridge.Lane.{Lane as BridgeLane}
use Rattle.board_model.specs.declared.board.Board.{Board}
use Rattle.board_model.specs.Ways.{lane_back}
use Rattle.lane_items.specs.declared.item.Item.{Item}
use Rattle.lane_items.specs.Lane.{IsEmptied}
use Rattle.engine_segments.specs.First.{buses_of, lanes_to}

-- the end at the port of the lane, on the bus where the lane ends
pub record IsEndAt {End : Type 0} (board : Board) (ends : List (List End)) (lane : BridgeLane) (end : End) : Type 0 where
  pub place : ℕ
  pub bus : ℕ
  pub port : ℕ
  pub at : List End
  pub bus_is : slice_get (buses_of board) place ≡ Some bus
  pub lane_is : slice_get (lanes_to board bus) port ≡ Some lane
  pub at_is : slice_get ends place ≡ Some at
  pub end_is : slice_get at port ≡ Some end

-- nothing is in hand at any of them, or sent or got
pub record IsNew {End : Type 0} (had sent got : End → List Item) (kept : End → ℕ) (end : End) : Type 0 where
  pub none_in_hand : had end ≡ []
  pub emptied : IsEmptied (sent end) (got end) (kept end)

-- all ends are new, and the two of each bridge are paired
pub record AreNewPairs {End : Type 0} (had sent got : End → List Item) (kept : End → ℕ) (paired : End → End → Type 0) (board : Board) (ends : List (List End)) : Type 0 where
  pub new : (lane : BridgeLane) (end : End) → IsEndAt board ends lane end → IsNew had sent got kept end
  pub pairs : (lane : BridgeLane) (end other : End) → IsEndAt board ends lane end → IsEndAt board ends (lane_back lane) other → paired end other

-- one more end at the place, behind those that it has
abbrev pub one_more : {End : Type 0} → ℕ → End → List (List End) → List (List End)
one_more place end [] = []
one_more zero end (at ∷ ends) = (at ++ end ∷ []) ∷ ends
one_more (suc place) end (at ∷ ends) = at ∷ one_more place end ends
