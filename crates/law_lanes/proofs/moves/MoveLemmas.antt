-- The moves of an event leave on each lane what is there after it.
use Rattle.std.proofs.Common.{◌≡◌, ℕ, Bool, true, false, List, [], ◌∷◌, ◌++◌, Option, None, Some, cond, append-nil, refl, sym, ap, ◌∙◌}
use Rattle.std.specs.List.{find}
use Rattle.std.specs.Option.{option_map}
use Rattle.list_facts.specs.Lists.{less}
use Rattle.list_facts.proofs.FindLemmas.{find_passes, find-less_other, less-none}
use Rattle.pci_command.specs.declared.op_id.OpId.{OpId}
use Rattle.pci_command.specs.declared.op_id.Outcome.{Outcome}
use Rattle.board_model.specs.declared.bridge.Lane.{Lane as BridgeLane}
use Rattle.board_model.specs.declared.bridge.Place.{Place}
use Rattle.board_model.specs.declared.bridge.Place.TheVariants.{Target, Header, Lane, Nobody}
use Rattle.board_model.specs.declared.board.Board.{Board}
use Rattle.board_model.specs.Ways.{lane_back}
use Rattle.history_model.specs.declared.event.By.{By}
use Rattle.history_model.specs.declared.event.By.TheVariants.{Master, Lane as ByLane}
use Rattle.history_model.specs.declared.event.Mark.{Mark}
use Rattle.history_model.specs.declared.event.Mark.TheVariants.{Plain, Discard, Drop}
use Rattle.history_model.specs.declared.event.Step.{Step}
use Rattle.history_model.specs.declared.event.Step.TheVariants.{Land, Part, Read, Accept, Latch, Take, Stall, MasterAbort, TargetAbort}
use Rattle.history_model.specs.declared.event.Event.{Event}
use Rattle.history_model.specs.declared.event.Event.TheVariants.{Act, Arrive}
use Rattle.history_model.specs.declared.item.Carried.{Carried}
use Rattle.history_model.specs.declared.item.Carried.TheVariants.{Post, Ask, Done, Room, Gone}
use Rattle.history_model.specs.declared.item.Move.{Move}
use Rattle.history_model.specs.declared.item.Move.TheVariants.{Sent, Came, Lost, Left, Held, Freed, Owed, Paid}
use Rattle.history_model.specs.declared.item.Moved.{Moved}
use Rattle.history_model.specs.declared.item.Slot.{Slot}
use Rattle.history_model.specs.declared.rule.Rule.{Rule}
use Rattle.history_model.specs.Lanes.{LaneState, Both, Effect, Stands, Credits, Frees, Drops, is_of, is_done_for, has_number, lowest_free, post_enters, ask_enters, reply_to, item_ends, slot_taken, effect_of, takes_effect, came_off, arrives_first, arrives}
use Rattle.history_model.specs.World.{World, same_lane, both, put, moved, noted, is_own, slot_found, enters, at_place, lane_outcome, leaves, at_initiator, after_by}
use Rattle.history_model.specs.Moves.{slot_moved, slot_at, item_moved, item_by, oldest, moved_by, effect_moves, arrival_moves, claim_moves, place_moves, end_moves, initiator_moves, moves_in, younger, lane_of, put_on, put_move, put_moves}
use Rattle.history_model.proofs.facts.BridgeLemmas.{same_lane_self, same_lane_back, same_lane_symm}
use Rattle.history_model.proofs.facts.MovedLemmas.{moved_each}
use Rattle.history_model.proofs.facts.RequestLemmas.{same_op_true}

-- Moves, one after another.

pub put_append : (xs ys : List Move) (world : World) (lane : BridgeLane) → put_moves (xs ++ ys) world lane ≡ put_moves ys (put_moves xs world) lane
put_append [] ys world lane = refl
put_append (x ∷ xs) ys world lane = put_append xs ys (put_move x world) lane

-- on each lane they go by what is on it
pub put_same : (moves : List Move) (a b : World) (lane : BridgeLane) → a lane ≡ b lane → put_moves moves a lane ≡ put_moves moves b lane
put_same [] a b lane is = is
put_same (move ∷ moves) a b lane is =
    put_same moves (put_move move a) (put_move move b) lane (ap (λ (x : LaneState). cond (same_lane lane (lane_of move)) (put_on move x) x) is)

-- on its lane, and on another
here_of : (move : Move) (world : World) (lane : BridgeLane) → lane_of move ≡ lane → put_move move world lane ≡ put_on move (world lane)
here_of move world lane is =
    let self : same_lane lane (lane_of move) ≡ true = ap (same_lane lane) is ∙ same_lane_self lane in
    ap (λ (b : Bool). cond b (put_on move (world lane)) (world lane)) self

apart_of : (move : Move) (world : World) (lane other : BridgeLane) → lane_of move ≡ lane → same_lane other lane ≡ false → put_move move world other ≡ world other
apart_of move world lane other is apart =
    let differ : same_lane other (lane_of move) ≡ false = ap (same_lane other) is ∙ apart in
    ap (λ (b : Bool). cond b (put_on move (world other)) (world other)) differ

same_lane_forth : (lane : BridgeLane) → same_lane lane (lane_back lane) ≡ false
same_lane_forth lane = same_lane_symm lane (lane_back lane) ∙ same_lane_back lane

-- No move, one, and two: on one lane, or on a lane and on the lane back.

no_moves : (world : World) (lane : BridgeLane) (x : Both) → world lane ≡ x.here → world (lane_back lane) ≡ x.back → (l : BridgeLane) → put_moves [] world l ≡ put world lane x l
no_moves world lane x here back = moved_each (λ l state. world l ≡ state) (λ _. x) lane world (λ l _ _. refl) here back

one_move : (world : World) (lane : BridgeLane) (move : Move) (x : Both) → lane_of move ≡ lane → put_on move (world lane) ≡ x.here → world (lane_back lane) ≡ x.back
    → (l : BridgeLane) → put_moves (move ∷ []) world l ≡ put world lane x l
one_move world lane move x is here back =
    moved_each (λ l state. put_move move world l ≡ state) (λ _. x) lane world
    (λ l apart _. apart_of move world lane l is apart)
    (here_of move world lane is ∙ here)
    (apart_of move world lane (lane_back lane) is (same_lane_back lane) ∙ back)

two_here : (world : World) (lane : BridgeLane) (first second : Move) (x : Both) → lane_of first ≡ lane → lane_of second ≡ lane
    → put_on second (put_on first (world lane)) ≡ x.here → world (lane_back lane) ≡ x.back
    → (l : BridgeLane) → put_moves (first ∷ second ∷ []) world l ≡ put world lane x l
two_here world lane first second x one two here back =
    let w : World = put_move first world in
    moved_each (λ l state. put_move second w l ≡ state) (λ _. x) lane world
    (λ l apart _. apart_of second w lane l two apart ∙ apart_of first world lane l one apart)
    (here_of second w lane two ∙ (ap (put_on second) (here_of first world lane one) ∙ here))
    (apart_of second w lane (lane_back lane) two (same_lane_back lane) ∙ (apart_of first world lane (lane_back lane) one (same_lane_back lane) ∙ back))

two_apart : (world : World) (lane : BridgeLane) (first second : Move) (x : Both) → lane_of first ≡ lane → lane_of second ≡ lane_back lane
    → put_on first (world lane) ≡ x.here → put_on second (world (lane_back lane)) ≡ x.back
    → (l : BridgeLane) → put_moves (first ∷ second ∷ []) world l ≡ put world lane x l
two_apart world lane first second x one two here back =
    let w : World = put_move first world in
    moved_each (λ l state. put_move second w l ≡ state) (λ _. x) lane world
    (λ l apart apart_back. apart_of second w (lane_back lane) l two apart_back ∙ apart_of first world lane l one apart)
    (apart_of second w (lane_back lane) lane two (same_lane_forth lane) ∙ (here_of first world lane one ∙ here))
    (here_of second w (lane_back lane) two ∙ (ap (put_on second) (apart_of first world lane (lane_back lane) one (same_lane_back lane)) ∙ back))

-- The claim.

claim_after : (board : Board) (on : ℕ) (by : By) (o : OpId) (step : Step) (lane : BridgeLane) (world : World) (l : BridgeLane)
    → put_moves (claim_moves lane by o step (slot_moved board on by o step (world lane).held)) world l ≡ moved (enters board on by o step) lane world l
claim_after board on by o Land lane world l = no_moves world lane (both world lane) refl refl l
claim_after board on by o (Part phases) lane world l = no_moves world lane (both world lane) refl refl l
claim_after board on by o (Read value) lane world l = no_moves world lane (both world lane) refl refl l
claim_after board on by o Accept lane world l = two_here world lane (Sent lane o (Post o)) (Owed lane) (post_enters o (both world lane)) refl refl refl refl l
claim_after board on by o Latch lane world l =
    let number : ℕ = lowest_free (world lane).held in
    two_here world lane (Held lane (record { number = number; by = by; op = o })) (Sent lane o (Ask o number)) (ask_enters by o (both world lane)) refl refl refl refl l
claim_after board on by o (Take outcome) lane world l =
    let P : Option Slot → Type 0 = λ found.
    put_moves (claim_moves lane by o (Take outcome) (option_map (λ (slot : Slot). slot.number) found)) world l ≡ put world lane (slot_found found (both world lane)) l in
    elim (find (is_own board on by o) (world lane).held) as P [
      | None ↦ no_moves world lane (both world lane) refl refl l
      | Some slot ↦ two_apart world lane (Freed lane slot.number) (Left (lane_back lane) (Done o slot.number outcome)) (slot_taken slot.number (both world lane)) refl refl refl refl l
    ]
claim_after board on by o Stall lane world l = no_moves world lane (both world lane) refl refl l
claim_after board on by o MasterAbort lane world l = no_moves world lane (both world lane) refl refl l
claim_after board on by o TargetAbort lane world l = no_moves world lane (both world lane) refl refl l

place_after : (board : Board) (on : ℕ) (by : By) (o : OpId) (step : Step) (place : Place) (world : World) (l : BridgeLane)
    → put_moves (place_moves by o step place (slot_at board on by o step place world)) world l ≡ at_place board on by o step place world l
place_after board on by o step (Target target) world l = refl
place_after board on by o step (Header bus) world l = refl
place_after board on by o step (Lane lane) world l = claim_after board on by o step lane world l
place_after board on by o step Nobody world l = refl

-- The end of an item.

of_one : (o p : OpId) → is_of o (Post p) ≡ true → o ≡ p
of_one o p is = same_op_true o p is

found_after : (lane : BridgeLane) (o : OpId) (outcome : Outcome) (world : World) (found : Option Carried) (l : BridgeLane) → find (is_of o) (world lane).standing ≡ found
    → put_moves (end_moves lane o (Some outcome) found) world l
    ≡ put world lane (record {
      here = record (world lane) { standing = less (is_of o) (world lane).standing };
      back = record (world (lane_back lane)) { flight = (world (lane_back lane)).flight ++ reply_to outcome found };
    }) l
found_after lane o outcome world None l is =
    let here : LaneState = world lane in
    let back : LaneState = world (lane_back lane) in
    no_moves world lane _
    (ap (λ (xs : List Carried). record here { standing = xs }) (sym (less-none (is_of o) here.standing is)))
    (ap (λ (xs : List Carried). record back { flight = xs }) (sym (append-nil back.flight))) l
found_after lane o outcome world (Some (Post op)) l is =
    let same : o ≡ op = of_one o op (find_passes (is_of o) (world lane).standing (Post op) is) in
    two_apart world lane (Left lane (Post op)) (Sent (lane_back lane) o Room) _ refl refl
    (ap (λ (p : OpId). record (world lane) { standing = less (is_of p) (world lane).standing }) (sym same)) refl l
found_after lane o outcome world (Some (Ask op slot)) l is =
    let same : o ≡ op = of_one o op (find_passes (is_of o) (world lane).standing (Ask op slot) is) in
    two_apart world lane (Left lane (Ask op slot)) (Sent (lane_back lane) o (Done op slot outcome)) _ refl refl
    (ap (λ (p : OpId). record (world lane) { standing = less (is_of p) (world lane).standing }) (sym same)) refl l
found_after lane o outcome world (Some (Done op slot given)) l is =
    let never : false ≡ true = find_passes (is_of o) (world lane).standing (Done op slot given) is in cc
found_after lane o outcome world (Some Room) l is =
    let never : false ≡ true = find_passes (is_of o) (world lane).standing Room is in cc
found_after lane o outcome world (Some (Gone slot)) l is =
    let never : false ≡ true = find_passes (is_of o) (world lane).standing (Gone slot) is in cc

end_after : (lane : BridgeLane) (o : OpId) (outcome : Option Outcome) (world : World) (l : BridgeLane)
    → put_moves (end_moves lane o outcome (item_moved o outcome (world lane).standing)) world l ≡ leaves lane o outcome world l
end_after lane o None world l = refl
end_after lane o (Some outcome) world l = found_after lane o outcome world (find (is_of o) (world lane).standing) l refl

initiator_after : (board : Board) (by : By) (o : OpId) (step : Step) (world : World) (l : BridgeLane)
    → put_moves (initiator_moves board by o step (item_by board by o step world)) world l ≡ at_initiator board by o step world l
initiator_after board Master o step world l = refl
initiator_after board (ByLane lane) o step world l = end_after lane o (lane_outcome board lane o step) world l

-- The claim changes nothing that is found of requests.

done_apart : (o : OpId) (number : ℕ) (item : Carried) → is_done_for number item ≡ true → is_of o item ≡ false
done_apart o number (Post op) is = cc
done_apart o number (Ask op slot) is = cc
done_apart o number (Done op slot outcome) is = refl
done_apart o number Room is = cc
done_apart o number (Gone slot) is = cc

pub enters_here : (board : Board) (on : ℕ) (by : By) (p : OpId) (step : Step) (x : Both) → (enters board on by p step x).here.standing ≡ x.here.standing
enters_here board on by p Land x = refl
enters_here board on by p (Part phases) x = refl
enters_here board on by p (Read value) x = refl
enters_here board on by p Accept x = refl
enters_here board on by p Latch x = refl
enters_here board on by p (Take outcome) x =
    let P : Option Slot → Type 0 = λ found. (slot_found found x).here.standing ≡ x.here.standing in
    elim (find (is_own board on by p) x.here.held) as P [ None ↦ refl | Some slot ↦ refl ]
enters_here board on by p Stall x = refl
enters_here board on by p MasterAbort x = refl
enters_here board on by p TargetAbort x = refl

pub enters_back : (board : Board) (on : ℕ) (by : By) (p o : OpId) (step : Step) (x : Both) → find (is_of o) (enters board on by p step x).back.standing ≡ find (is_of o) x.back.standing
enters_back board on by p o Land x = refl
enters_back board on by p o (Part phases) x = refl
enters_back board on by p o (Read value) x = refl
enters_back board on by p o Accept x = refl
enters_back board on by p o Latch x = refl
enters_back board on by p o (Take outcome) x =
    let P : Option Slot → Type 0 = λ found. find (is_of o) (slot_found found x).back.standing ≡ find (is_of o) x.back.standing in
    elim (find (is_own board on by p) x.here.held) as P [
      | None ↦ refl
      | Some slot ↦ find-less_other (is_done_for slot.number) (is_of o) (done_apart o slot.number) x.back.standing
    ]
enters_back board on by p o Stall x = refl
enters_back board on by p o MasterAbort x = refl
enters_back board on by p o TargetAbort x = refl

found_then : (board : Board) (on : ℕ) (by : By) (p o : OpId) (step : Step) (place : Place) (world : World) (l : BridgeLane)
    → find (is_of o) (at_place board on by p step place world l).standing ≡ find (is_of o) (world l).standing
found_then board on by p o step (Target target) world l = refl
found_then board on by p o step (Header bus) world l = refl
found_then board on by p o step (Lane lane) world l =
    moved_each (λ l state. find (is_of o) state.standing ≡ find (is_of o) (world l).standing) (enters board on by p step) lane world (λ l _ _. refl)
    (ap (λ (xs : List Carried). find (is_of o) xs) (enters_here board on by p step (both world lane)))
    (enters_back board on by p o step (both world lane)) l
found_then board on by p o step Nobody world l = refl

pub item_same : (o : OpId) (outcome : Option Outcome) (xs ys : List Carried) → find (is_of o) xs ≡ find (is_of o) ys → item_moved o outcome xs ≡ item_moved o outcome ys
item_same o None xs ys is = refl
item_same o (Some outcome) xs ys is = is

-- so what ends is found before the claim as after it
pub item_then : (board : Board) (on : ℕ) (noted_by : By) (p : OpId) (by : By) (o : OpId) (step : Step) (place : Place) (world : World)
    → item_by board by o step (at_place board on noted_by p step place world) ≡ item_by board by o step world
item_then board on noted_by p Master o step place world = refl
item_then board on noted_by p (ByLane lane) o step place world =
    item_same o (lane_outcome board lane o step) (at_place board on noted_by p step place world lane).standing (world lane).standing
    (found_then board on noted_by p o step place world lane)

-- Arrivals.

came_as : (item : Carried) (flight rest : List Carried) (x : LaneState) → flight ≡ item ∷ rest → came_off item (younger flight) x ≡ came_off item rest x
came_as item flight rest x is = ap (λ (xs : List Carried). came_off item (younger xs) x) is

-- what arrives as both lanes were
abbrev with_rest : Carried → List Carried → Both → Both
with_rest item rest x = record x { here = came_off item rest x.here }

stands_after : (lane : BridgeLane) (item : Carried) (rest : List Carried) (world : World) (l : BridgeLane) → (world lane).flight ≡ item ∷ rest
    → put_moves (Came lane item ∷ []) world l ≡ put world lane (takes_effect Stands item (with_rest item rest (both world lane))) l
stands_after lane item rest world l is =
    one_move world lane (Came lane item) (takes_effect Stands item (with_rest item rest (both world lane))) refl
    (ap (λ (x : LaneState). record x { standing = (world lane).standing ++ item ∷ [] }) (came_as item (world lane).flight rest (world lane) is)) refl l

credits_after : (lane : BridgeLane) (item : Carried) (rest : List Carried) (world : World) (l : BridgeLane) → (world lane).flight ≡ item ∷ rest
    → put_moves (Lost lane item ∷ Paid (lane_back lane) ∷ []) world l ≡ put world lane (takes_effect Credits item (with_rest item rest (both world lane))) l
credits_after lane item rest world l is =
    two_apart world lane (Lost lane item) (Paid (lane_back lane)) (takes_effect Credits item (with_rest item rest (both world lane))) refl refl
    (came_as item (world lane).flight rest (world lane) is) refl l

frees_after : (lane : BridgeLane) (item : Carried) (slot : ℕ) (rest : List Carried) (world : World) (l : BridgeLane) → (world lane).flight ≡ item ∷ rest
    → put_moves (Lost lane item ∷ Freed (lane_back lane) slot ∷ []) world l ≡ put world lane (takes_effect (Frees slot) item (with_rest item rest (both world lane))) l
frees_after lane item slot rest world l is =
    two_apart world lane (Lost lane item) (Freed (lane_back lane) slot) (takes_effect (Frees slot) item (with_rest item rest (both world lane))) refl refl
    (came_as item (world lane).flight rest (world lane) is) refl l

drops_after : (lane : BridgeLane) (op : OpId) (slot : ℕ) (rest : List Carried) (world : World) (l : BridgeLane) → (world lane).flight ≡ Ask op slot ∷ rest
    → put_moves (Lost lane (Ask op slot) ∷ Sent (lane_back lane) op (Gone slot) ∷ []) world l
    ≡ put world lane (takes_effect (Drops slot) (Ask op slot) (with_rest (Ask op slot) rest (both world lane))) l
drops_after lane op slot rest world l is =
    two_apart world lane (Lost lane (Ask op slot)) (Sent (lane_back lane) op (Gone slot)) (takes_effect (Drops slot) (Ask op slot) (with_rest (Ask op slot) rest (both world lane))) refl refl
    (came_as (Ask op slot) (world lane).flight rest (world lane) is) refl l

comes_after : (lane : BridgeLane) (mark : Mark) (item : Carried) (rest : List Carried) (world : World) (l : BridgeLane) → (world lane).flight ≡ item ∷ rest
    → put_moves (effect_moves lane item (effect_of mark item)) world l ≡ put world lane (takes_effect (effect_of mark item) item (with_rest item rest (both world lane))) l
comes_after lane mark (Post op) rest world l is = stands_after lane (Post op) rest world l is
comes_after lane Plain (Ask op slot) rest world l is = stands_after lane (Ask op slot) rest world l is
comes_after lane Discard (Ask op slot) rest world l is = stands_after lane (Ask op slot) rest world l is
comes_after lane Drop (Ask op slot) rest world l is = drops_after lane op slot rest world l is
comes_after lane Plain (Done op slot outcome) rest world l is = stands_after lane (Done op slot outcome) rest world l is
comes_after lane Discard (Done op slot outcome) rest world l is = frees_after lane (Done op slot outcome) slot rest world l is
comes_after lane Drop (Done op slot outcome) rest world l is = stands_after lane (Done op slot outcome) rest world l is
comes_after lane mark Room rest world l is = credits_after lane Room rest world l is
comes_after lane mark (Gone slot) rest world l is = frees_after lane (Gone slot) slot rest world l is

arrives_after : (lane : BridgeLane) (mark : Mark) (flight : List Carried) (world : World) (l : BridgeLane) → (world lane).flight ≡ flight
    → put_moves (arrival_moves lane mark (oldest flight)) world l ≡ put world lane (arrives_first mark flight (both world lane)) l
arrives_after lane mark [] world l is = no_moves world lane (both world lane) refl refl l
arrives_after lane mark (item ∷ rest) world l is = comes_after lane mark item rest world l is

-- The law.

pub moves_after : (rule : Rule) (board : Board) (world : World) (e : Event) (lane : BridgeLane)
    → put_moves (moves_in rule board e (moved_by rule board world e)) world lane ≡ after_by rule board world e lane
moves_after rule board world (Act on by o step place) lane =
    let slot : Option ℕ = slot_at board on (noted rule by) o step place world in
    let item : Option Carried = item_by board by o step world in
    let then : World = at_place board on (noted rule by) o step place world in
    let first : List Move = place_moves (noted rule by) o step place slot in
    let second : Option Carried → List Move = λ found. initiator_moves board by o step found in
    let claimed : put_moves first world lane ≡ then lane = place_after board on (noted rule by) o step place world lane in
    let found : item ≡ item_by board by o step then = sym (item_then board on (noted rule by) o by o step place world) in
    put_append first (second item) world lane
    ∙ (put_same (second item) (put_moves first world) then lane claimed
    ∙ (ap (λ (it : Option Carried). put_moves (second it) then lane) found ∙ initiator_after board by o step then lane))
moves_after rule board world (Arrive at mark) lane = arrives_after at mark (world at).flight world lane refl

-- What an event finds.

slot_same : (board : Board) (on : ℕ) (by : By) (o : OpId) (step : Step) (place : Place) (a b : World) → ((lane : BridgeLane) → a lane ≡ b lane)
    → slot_at board on by o step place a ≡ slot_at board on by o step place b
slot_same board on by o step (Target target) a b same = refl
slot_same board on by o step (Header bus) a b same = refl
slot_same board on by o step (Lane lane) a b same = ap (λ (x : LaneState). slot_moved board on by o step x.held) (same lane)
slot_same board on by o step Nobody a b same = refl

item_alike : (board : Board) (by : By) (o : OpId) (step : Step) (a b : World) → ((lane : BridgeLane) → a lane ≡ b lane) → item_by board by o step a ≡ item_by board by o step b
item_alike board Master o step a b same = refl
item_alike board (ByLane lane) o step a b same = ap (λ (x : LaneState). item_moved o (lane_outcome board lane o step) x.standing) (same lane)

pub moved_same : (rule : Rule) (board : Board) (a b : World) (e : Event) → ((lane : BridgeLane) → a lane ≡ b lane) → moved_by rule board a e ≡ moved_by rule board b e
moved_same rule board a b (Act on by o step place) same =
    let pair : Option ℕ → Option Carried → Moved = λ slot item. record { slot = slot; item = item } in
    let slots : slot_at board on (noted rule by) o step place a ≡ slot_at board on (noted rule by) o step place b = slot_same board on (noted rule by) o step place a b same in
    let items : item_by board by o step a ≡ item_by board by o step b = item_alike board by o step a b same in
    ap (λ slot. pair slot (item_by board by o step a)) slots ∙ ap (pair (slot_at board on (noted rule by) o step place b)) items
moved_same rule board a b (Arrive lane mark) same = ap (λ (x : LaneState). record { slot = None; item = oldest x.flight }) (same lane)
