-- At most 32 items are left on each lane of a bridge of which each bus kept its side.
use Rattle.std.proofs.Common.{◌≡◌, ◌≢◌, ℕ, ◌+◌, ◌*◌, ◌-◌, ◌≤◌, ◌==◌, List, [], ◌∷◌, ◌++◌, length, Some, refl, sym, ap, subst, ◌∙◌, arith, append_assoc, length-append, take-append-drop}
use Rattle.list_facts.specs.Lists.{total}
use Rattle.list_facts.proofs.TotalLemmas.{total-append}
use Rattle.list_facts.proofs.EachLemmas.{Each-find}
use Rattle.board_model.specs.Limits.{most_posted, most_delayed}
use Rattle.board_model.specs.declared.bridge.Bridge.{Bridge}
use Rattle.board_model.specs.declared.bridge.Lane.{Lane as BridgeLane}
use Rattle.board_model.specs.declared.board.Board.{Board}
use Rattle.board_model.specs.Valid.{IsValid}
use Rattle.board_model.specs.Ways.{start_of, end_of, lane_back}
use Rattle.history_model.specs.declared.event.Event.{Event}
use Rattle.history_model.specs.declared.item.Carried.{Carried}
use Rattle.history_model.specs.declared.item.Carried.TheVariants.{Post, Ask, Done, Room, Gone}
use Rattle.history_model.specs.Answers.{bridge_to}
use Rattle.history_model.specs.Lanes.{Both}
use Rattle.history_model.specs.World.{World, both}
use Rattle.history_model.proofs.facts.BridgeLemmas.{flip, both_back, lane_back_back}
use Rattle.law_lanes.specs.Credits.{post_count, room_count}
use Rattle.law_lanes.proofs.Laws.{WellFormed-depths}
use Rattle.law_local.proofs.Laws.{IsFit-valid, start_back, end_back}
use Rattle.lane_items.specs.declared.item.Item.{Item}
use Rattle.lane_items.specs.Lane.{passed_on, kept_back, GotInOrder, left_count}
use Rattle.law_local.specs.room.Sides.{ask_count, answer_count, Side, HasDepths}
use Rattle.law_local.specs.room.Room.{lanes_at, came_on, Leaves, HasRoom}
use Rattle.law_local.proofs.room.SideLemmas.{run_keeps}

-- each item is of one of four kinds
each_counted : (xs : List Carried) → length xs ≡ total post_count xs + total room_count xs + total ask_count xs + total answer_count xs
each_counted [] = refl
each_counted (Post op ∷ xs) = omega (arith, each_counted xs)
each_counted (Ask op slot ∷ xs) = omega (arith, each_counted xs)
each_counted (Done op slot outcome ∷ xs) = omega (arith, each_counted xs)
each_counted (Room ∷ xs) = omega (arith, each_counted xs)
each_counted (Gone slot ∷ xs) = omega (arith, each_counted xs)

-- two sides of one bridge, each with what came there and what of it did not arrive: `here` is the lane from the one bus
-- to the other
pub sides_fit : (posted delayed : ℕ) (came came_back left left_back : List Carried) (x y : Both) → Side posted delayed came_back x → Side posted delayed came y
    → came ++ left ≡ x.here.flight → came_back ++ left_back ≡ y.here.flight → length y.back.flight + length left ≤ 2 * posted + 2 * delayed
sides_fit posted delayed came came_back left left_back x y one other here back =
    let put : (f : Carried → ℕ) → total f x.here.flight ≡ total f came + total f left = λ f. sym (ap (total f) here) ∙ total-append f came left in
    let put_back : (f : Carried → ℕ) → total f y.here.flight ≡ total f came_back + total f left_back = λ f. sym (ap (total f) back) ∙ total-append f came_back left_back in
    let posts : total post_count left + total post_count y.back.flight ≤ posted =
    omega (arith, put post_count, put_back room_count, one.posts, other.rooms, one.few_owed) in
    let rooms : total room_count left + total room_count y.back.flight ≤ posted =
    omega (arith, put room_count, put_back post_count, one.rooms, other.posts, other.few_owed) in
    let asks : total ask_count left + total ask_count y.back.flight ≤ delayed =
    omega (arith, put ask_count, put_back answer_count, one.asks, other.answers, one.few_held) in
    let answers : total answer_count left + total answer_count y.back.flight ≤ delayed =
    omega (arith, put answer_count, put_back ask_count, one.answers, other.asks, other.few_held) in
    omega (arith, each_counted left, each_counted y.back.flight, posts, rooms, asks, answers)

-- the side of the bus where the lane begins
near_side : (board : Board) (came : ℕ → BridgeLane → List Carried) (part : ℕ → List Event) (lane : BridgeLane) (left left_back : List Carried) (posted delayed : ℕ)
    → IsValid board → HasDepths board lane posted delayed → Leaves board came part lane left left_back
    → Side posted delayed (came (start_of board lane) (lane_back lane)) (both (lanes_at board came part (start_of board lane)) lane)
near_side board came part lane left left_back posted delayed valid depths ran =
    let bus : ℕ = start_of board lane in
    run_keeps board (IsFit-valid board valid) bus posted delayed (came bus) (part bus) ran.runs.near lane depths refl ran.runs.apart ran.runs.none_near

-- and that of the bus where it ends, with the lane as the lane back
pub far_side : (board : Board) (came : ℕ → BridgeLane → List Carried) (part : ℕ → List Event) (lane : BridgeLane) (left left_back : List Carried) (posted delayed : ℕ)
    → IsValid board → HasDepths board lane posted delayed → Leaves board came part lane left left_back
    → Side posted delayed (came (end_of board lane) lane) (flip (both (lanes_at board came part (end_of board lane)) lane))
far_side board came part lane left left_back posted delayed valid depths ran =
    let bus : ℕ = end_of board lane in
    let back : BridgeLane = lane_back lane in
    let w : World = lanes_at board came part bus in
    let apart : end_of board back ≢ bus = λ same. ran.runs.apart (sym same ∙ end_back board lane) in
    let side = run_keeps board (IsFit-valid board valid) bus posted delayed (came bus) (part bus) ran.runs.far back depths (start_back board lane) apart ran.runs.none_far in
    let twice : came bus (lane_back back) ≡ came bus lane = ap (came bus) (lane_back_back lane) in
    subst (Side posted delayed (came bus lane)) (both_back w lane) (subst (λ (all : List Carried). Side posted delayed all (both w back)) twice side)

pub both_fit : (board : Board) (came : ℕ → BridgeLane → List Carried) (part : ℕ → List Event) (lane : BridgeLane) (left left_back : List Carried) (posted delayed : ℕ)
    → IsValid board → HasDepths board lane posted delayed → Leaves board came part lane left left_back
    → HasRoom (2 * posted + 2 * delayed) board came part lane left left_back
both_fit board came part lane left left_back posted delayed valid depths ran =
    let from : ℕ = start_of board lane in
    let to : ℕ = end_of board lane in
    let back : BridgeLane = lane_back lane in
    let x : Both = both (lanes_at board came part from) lane in
    let y : Both = flip (both (lanes_at board came part to) lane) in
    let one = near_side board came part lane left left_back posted delayed valid depths ran in
    let other = far_side board came part lane left left_back posted delayed valid depths ran in
    let put_back : came from back ++ left_back ≡ y.here.flight = ran.back ∙ ap (λ (bus : ℕ). (lanes_at board came part bus back).flight) (start_back board lane) in
    let there = sides_fit posted delayed (came to lane) (came from back) left left_back x y one other ran.here put_back in
    let here_back = sides_fit posted delayed (came from back) (came to lane) left_back left y x other one put_back ran.here in
    let arrives : came_on board came part back ≡ x.back.flight = ap (λ (bus : ℕ). (lanes_at board came part bus back).flight) (end_back board lane) in
    record { here = there; back = omega (arith, here_back, ap length arrives) }

-- each depth is one that may be written
pub to_limits : (board : Board) (lane : BridgeLane) → IsValid board → HasDepths board lane most_posted most_delayed
to_limits board lane valid = λ bridge is.
    Each-find (λ (b : Bridge). (b.posted ≤ most_posted) × (b.delayed ≤ most_delayed)) (λ (b : Bridge). b.bus == lane.bus) board.bridges bridge (WellFormed-depths board valid.well_formed) is

-- of a bridge that is there, its own
pub of_bridge : (board : Board) (lane : BridgeLane) (bridge : Bridge) → bridge_to board lane.bus ≡ Some bridge → HasDepths board lane bridge.posted bridge.delayed
of_bridge board lane bridge is = λ found also.
    let same : bridge ≡ found = cc in
    (omega (arith, ap (λ (b : Bridge). b.posted) same), omega (arith, ap (λ (b : Bridge). b.delayed) same))

-- what was not got of what came in order
pub what_is_left : (had got sent : List Item) (kept : ℕ) → GotInOrder had got sent kept → (left : List Item) × (got ++ left ≡ had ++ sent) × (length left ≡ left_count had got sent)
what_is_left had got sent kept order =
    let back : List Item = kept_back sent kept in
    let whole : passed_on sent kept ++ back ≡ sent = take-append-drop (length sent - kept) sent in
    let same : got ++ (order.0 ++ back) ≡ had ++ sent =
    sym (append_assoc got order.0 back) ∙ (ap (λ (xs : List Item). xs ++ back) order.1 ∙ (append_assoc had (passed_on sent kept) back ∙ ap (λ (xs : List Item). had ++ xs) whole)) in
    (order.0 ++ back, same, omega (arith, ap length same, length-append got (order.0 ++ back), length-append had sent))
