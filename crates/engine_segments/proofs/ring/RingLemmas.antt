-- Ends over rings, two by two.
use Rattle.std.proofs.Common.{◌≡◌, ℕ, ◌+◌, true, false, List, [], length, map, Some, subst, slice_get}
use Rattle.board_model.specs.declared.board.Board.{Board}
use Rattle.board_model.specs.Valid.{has_bridge_to, IsValid}
use Rattle.board_model.specs.Ways.{primary_of}
use Rattle.lane_items.specs.declared.item.Item.{Item}
use Rattle.lane_items.specs.Lane.{IsEmptied}
use Rattle.lane_ends.specs.declared.ring.ring_end.RingEnd.{RingEnd}
use Rattle.lane_ends.specs.ring.Ends.{sent_out, got_in, AreOneLane}
use Rattle.engine_segments.specs.First.{buses_of, AreEndsOf}
use Rattle.engine_segments.specs.ring.Pairs.{AreNewPairs, one_more}
use Rattle.engine_segments.specs.ring.Making.{RingsSoFar}
use Rattle.engine_segments.proofs.ring.PairLemmas.{no_list, none_so_far, many_so_far, skipped, pair_more, all_fit, all_pairs}

-- what an end over rings tells of itself
abbrev pub Had : RingEnd → List Item
Had end = end.inward.hand.items

abbrev pub Sent : RingEnd → List Item
Sent end = sent_out end.outward

abbrev pub Got : RingEnd → List Item
Got end = got_in end.inward

abbrev pub Kept : RingEnd → ℕ
Kept end = length end.outward.waiting.items

abbrev pub Paired : RingEnd → RingEnd → Type 0
Paired a b = AreOneLane a.outward b.inward × AreOneLane b.outward a.inward

pub rings_none : (board : Board) (ends : List (List RingEnd)) → ends ≡ map no_list (buses_of board) → RingsSoFar board 0 ends
rings_none board ends none = none_so_far Had Sent Got Kept Paired board ends none

pub rings_skipped : (board : Board) (n : ℕ) (ends : List (List RingEnd)) → RingsSoFar board n ends → has_bridge_to board n ≡ false → RingsSoFar board (n + 1) ends
rings_skipped board n ends so_far lacks = skipped Had Sent Got Kept Paired board n ends so_far lacks

pub rings_more : (board : Board) (valid : IsValid board) (n : ℕ) (ends : List (List RingEnd)) (so_far : RingsSoFar board n ends) (has : has_bridge_to board n ≡ true) (upper lower : RingEnd) (above here : ℕ)
    → slice_get (buses_of board) above ≡ Some (primary_of board n) → slice_get (buses_of board) here ≡ Some n
    → Paired upper lower → (Had upper ≡ []) × (Had lower ≡ []) → IsEmptied (Sent upper) (Got upper) (Kept upper) → IsEmptied (Sent lower) (Got lower) (Kept lower)
    → (after : List (List RingEnd)) → after ≡ one_more here lower (one_more above upper ends) → RingsSoFar board (n + 1) after
rings_more board valid n ends so_far has upper lower above here above_is here_is pairs none first second after more =
    pair_more Had Sent Got Kept Paired board valid n ends so_far has upper lower above here above_is here_is
    (record { none_in_hand = none.0; emptied = first }) (record { none_in_hand = none.1; emptied = second }) pairs (pairs.1, pairs.0) after more

pub rings_fit : (board : Board) (n : ℕ) (ends : List (List RingEnd)) → n ≡ 256 → RingsSoFar board n ends → AreEndsOf board ends
rings_fit board n ends last so_far = all_fit Had Sent Got Kept Paired board ends (subst (λ (k : ℕ). RingsSoFar board k ends) last so_far)

pub rings_pairs : (board : Board) (n : ℕ) (ends : List (List RingEnd)) → n ≡ 256 → RingsSoFar board n ends → AreNewPairs Had Sent Got Kept Paired board ends
rings_pairs board n ends last so_far = all_pairs Had Sent Got Kept Paired board ends (subst (λ (k : ℕ). RingsSoFar board k ends) last so_far)

pub rings_many : (board : Board) (n : ℕ) (ends : List (List RingEnd)) → RingsSoFar board n ends → length ends ≡ length (buses_of board)
rings_many board n ends so_far = many_so_far Had Sent Got Kept Paired board n ends so_far
