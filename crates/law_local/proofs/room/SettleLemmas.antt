-- Two ends of a bridge may be settled.
use Rattle.std.proofs.Common.{◌≡◌, ℕ, ◌-◌, ◌<◌, ◌≤◌, List, ◌++◌, length, map, sym, ap, ◌∙◌, arith, append_assoc, length-append, take-append-drop}
use Rattle.std.proofs.lemmas.List.{map-append, length-map, append_cancel_right}
use Rattle.board_model.specs.Limits.{most_posted, most_delayed, most_in_flight}
use Rattle.board_model.specs.declared.bridge.Lane.{Lane as BridgeLane}
use Rattle.board_model.specs.declared.board.Board.{Board}
use Rattle.board_model.specs.Valid.{IsValid}
use Rattle.board_model.specs.Ways.{end_of, lane_back}
use Rattle.history_model.specs.declared.event.Event.{Event}
use Rattle.history_model.specs.declared.item.Carried.{Carried}
use Rattle.law_local.proofs.Laws.{end_back}
use Rattle.lane_items.specs.declared.item.Item.{Item}
use Rattle.lane_items.specs.Lane.{passed_on, kept_back, GotInOrder, left_count, Crosses}
use Rattle.law_local.specs.room.Room.{put_on, TwoRuns, Leaves, Puts, LaneInPhase}
use Rattle.law_local.proofs.room.RoomLemmas.{both_fit, to_limits, what_is_left}
use Rattle.law_local.proofs.room.FullLemmas.{not_full}

-- a lane that is settled brought its items in order
pub settled_in_order : (had got sent hand : List Item) (kept : ℕ) → Crosses had got sent kept hand → GotInOrder had got sent kept
settled_in_order had got sent hand kept crosses =
    let front : List Item = crosses.kept_crossed.0 in
    let back : List Item = kept_back sent kept in
    let whole : passed_on sent kept ++ back ≡ sent = take-append-drop (length sent - kept) sent in
    let same : (got ++ front) ++ back ≡ (had ++ passed_on sent kept) ++ back =
    append_assoc got front back ∙ (ap (λ (l : List Item). got ++ l) (sym crosses.kept_crossed.1) ∙ (crosses.in_order
    ∙ (ap (λ (l : List Item). had ++ l) (sym whole) ∙ sym (append_assoc had (passed_on sent kept) back)))) in
    (front, append_cancel_right (got ++ front) (had ++ passed_on sent kept) back same)

-- what did not come is what was not taken, and then what was not got
left_in_phase : (carries : Item → Carried) (board : Board) (came : ℕ → BridgeLane → List Carried) (part : ℕ → List Event) (lane : BridgeLane) (before had got sent left : List Item)
    → (phase : LaneInPhase carries board came part lane before had got sent) → got ++ left ≡ had ++ sent
    → came (end_of board lane) lane ++ (phase.not_taken ++ map carries left) ≡ put_on board came part lane
left_in_phase carries board came part lane before had got sent left phase whole =
    sym (append_assoc (came (end_of board lane) lane) phase.not_taken (map carries left))
    ∙ (ap (λ (l : List Carried). l ++ map carries left) phase.came_is
    ∙ (sym (map-append carries (before ++ got) left)
    ∙ (ap (map carries) (append_assoc before got left ∙ ap (λ (l : List Item). before ++ l) whole) ∙ sym phase.put_is)))

module _ (carries : Item → Carried) (board : Board) (came : ℕ → BridgeLane → List Carried) (part : ℕ → List Event) (lane : BridgeLane)
    (before had got sent before_back had_back got_back sent_back : List Item) (kept kept_back : ℕ) (valid : IsValid board) (runs : TwoRuns board came part lane)
    (here : LaneInPhase carries board came part lane before had got sent) (back : LaneInPhase carries board came part (lane_back lane) before_back had_back got_back sent_back)
    (order : GotInOrder had got sent kept) (order_back : GotInOrder had_back got_back sent_back kept_back) where
  abbrev Left : List Carried
  Left = here.not_taken ++ map carries (what_is_left had got sent kept order).0

  abbrev LeftBack : List Carried
  LeftBack = back.not_taken ++ map carries (what_is_left had_back got_back sent_back kept_back order_back).0

  leaves_both : Leaves board came part lane Left LeftBack
  leaves_both =
      let one = what_is_left had got sent kept order in
      let other = what_is_left had_back got_back sent_back kept_back order_back in
      let there = left_in_phase carries board came part (lane_back lane) before_back had_back got_back sent_back other.0 back other.1 in
      record {
        runs = runs;
        here = left_in_phase carries board came part lane before had got sent one.0 here one.1;
        back = ap (λ (bus : ℕ). came bus (lane_back lane) ++ LeftBack) (sym (end_back board lane)) ∙ there;
      }

  pub may_settle : (left_count had got sent ≤ most_in_flight) × (left_count had_back got_back sent_back ≤ most_in_flight)
  may_settle =
      let one = what_is_left had got sent kept order in
      let other = what_is_left had_back got_back sent_back kept_back order_back in
      let room = both_fit board came part lane Left LeftBack most_posted most_delayed valid (to_limits board lane valid) leaves_both in (
        omega (arith, room.here, one.2, length-append here.not_taken (map carries one.0), length-map one.0 carries),
        omega (arith, room.back, other.2, length-append back.not_taken (map carries other.0), length-map other.0 carries),
      )

  pub fewer_left : (e : Event) → Puts board came part lane e → left_count had got sent < 32
  fewer_left e puts =
      let one = what_is_left had got sent kept order in
      let few = not_full board came part lane Left LeftBack e valid leaves_both puts in
      omega (arith, few, one.2, length-append here.not_taken (map carries one.0), length-map one.0 carries)
