-- The journeys agree with the machine: on each lane there is now what the machine has there, in its order.
use Rattle.std.proofs.Common.{◌≡◌, ℕ, ◌<◌, Bool, true, false, not, ◌&&◌, cond, List, [], ◌∷◌, ◌++◌, map, Option, Some, None, refl, sym, ap, subst, ◌∙◌, append-nil}
use Rattle.std.specs.List.{find}
use Rattle.list_facts.specs.Lists.{less}
use Rattle.pci_command.specs.declared.op_id.OpId.{OpId}
use Rattle.pci_command.specs.declared.op_id.Outcome.{Outcome}
use Rattle.board_model.specs.declared.bridge.Lane.{Lane as BridgeLane}
use Rattle.board_model.specs.declared.bridge.Place.{Place}
use Rattle.board_model.specs.declared.bridge.Place.TheVariants.{Target, Header, Lane, Nobody}
use Rattle.board_model.specs.declared.board.Board.{Board}
use Rattle.board_model.specs.Ways.{lane_back}
use Rattle.history_model.specs.declared.event.By.{By}
use Rattle.history_model.specs.declared.event.By.TheVariants.{Master, Lane as ByLane}
use Rattle.history_model.specs.declared.event.Mark.{Mark}
use Rattle.history_model.specs.declared.event.Mark.TheVariants.{Plain, Discard, Drop}
use Rattle.history_model.specs.declared.event.Step.{Step}
use Rattle.history_model.specs.declared.event.Step.TheVariants.{Land, Part, Read, Accept, Latch, Take, Stall, MasterAbort, TargetAbort}
use Rattle.history_model.specs.declared.event.Event.{Event}
use Rattle.history_model.specs.declared.event.Event.TheVariants.{Act, Arrive}
use Rattle.history_model.specs.declared.item.Carried.{Carried}
use Rattle.history_model.specs.declared.item.Carried.TheVariants.{Post, Ask, Done, Room, Gone}
use Rattle.history_model.specs.declared.item.Move.{Move}
use Rattle.history_model.specs.declared.item.Move.TheVariants.{Sent, Came, Lost, Left, Held, Freed, Owed, Paid}
use Rattle.history_model.specs.declared.rule.Rule.TheVariants.{Tagged}
use Rattle.history_model.specs.Lanes.{LaneState, reply_to}
use Rattle.history_model.specs.World.{World, same_lane, lane_outcome, after}
use Rattle.history_model.specs.Moves.{slot_at, item_by, oldest, moved_by, arrival_moves, latch_moves, take_moves, claim_moves, place_moves, end_moves, initiator_moves, moves_in, is_like, younger, lane_of, put_on, put_move, put_moves}
use Rattle.history_model.proofs.facts.BridgeLemmas.{same_lane_symm, same_lane_true}
use Rattle.law_lanes.proofs.moves.Laws.{moves_after}
use Rattle.draw_items.specs.declared.journey.Journey.{Journey}
use Rattle.draw_items.specs.Journeys.{can_stand, flies, stands}
use Rattle.draw_journeys.specs.Steps.{sends, leaves, comes, move_on, moves_on, next}
use Rattle.draw_journeys.proofs.ChangeLemmas.{kept, first-none}
use Rattle.draw_journeys.proofs.SeenLemmas.{Seen, seen_from, seen_same, item_of, sees, on_lane, sees_sends_here, sees_sends_other, sees_leaves_here, sees_leaves_other, stood, sees_comes_here, sees_comes_other}
use Rattle.draw_journeys.proofs.KeepLemmas.{Ordered, order_keeps, move_keeps}

abbrev pub Agrees : World → List Journey → Type 0
Agrees world js = (l : BridgeLane) → sees l js ≡ on_lane (world l)

-- a move that changes what is seen of its lane alone
agree_at : (world : World) (move : Move) (js new : List Journey) → sees (lane_of move) new ≡ on_lane (put_on move (world (lane_of move)))
    → ((l : BridgeLane) → same_lane (lane_of move) l ≡ false → sees l new ≡ sees l js) → Agrees world js → Agrees (put_move move world) new
agree_at world move js new here apart agrees l =
    let P : Bool → Type 0 = λ b. same_lane l (lane_of move) ≡ b → sees l new ≡ on_lane (cond b (put_on move (world l)) (world l)) in
    (elim (same_lane l (lane_of move)) as P [
      | true ↦ λ same. subst (λ (k : BridgeLane). sees k new ≡ on_lane (put_on move (world k))) (sym (same_lane_true l (lane_of move) same)) here
      | false ↦ λ other. apart l (same_lane_symm (lane_of move) l ∙ other) ∙ agrees l
    ]) refl

-- What comes.

-- it is the oldest in flight
abbrev Comes : World → BridgeLane → Carried → Type 0
Comes world lane item = (rest : List Carried) × ((world lane).flight ≡ item ∷ rest)

-- what the journeys have on the lane then
record Comes_so (n : ℕ) (lane : BridgeLane) (lost : Bool) (item : Carried) (world : World) (js : List Journey) : Type 0 where
  flight : (sees lane (comes n lane lost js)).flight ≡ younger (world lane).flight
  standing : (sees lane (comes n lane lost js)).standing ≡ (world lane).standing ++ stood lost item

comes_so : (n : ℕ) (lane : BridgeLane) (lost : Bool) (item : Carried) (world : World) (js : List Journey) → 0 < n → Ordered js → Agrees world js → Comes world lane item → Comes_so n lane lost item world js
comes_so n lane lost item world js some order agrees (rest, flight) =
    let new : List Journey = comes n lane lost js in
    let flown : (sees lane js).flight ≡ item ∷ rest = ap (λ (s : Seen). s.flight) (agrees lane) ∙ flight in
    let later : younger (world lane).flight ≡ rest = ap younger flight in
    let P : Option Journey → Type 0 = λ found. find (flies lane) js ≡ found → Comes_so n lane lost item world js in
    (elim (find (flies lane) js) as P [
      | None ↦ λ none. let empty : (sees lane js).flight ≡ [] = first-none item_of (flies lane) js none in cc
      | Some j ↦ λ found.
          let seen = sees_comes_here n lane lost js j some (order lane) found in
          let both : j.carried ∷ (sees lane new).flight ≡ item ∷ rest = sym seen.0 ∙ flown in
          let same : j.carried ≡ item = cc in
          let left : (sees lane new).flight ≡ rest = cc in
          record {
            flight = left ∙ sym later;
            standing = seen.1 ∙ ap (λ (s : Seen). s.standing ++ stood lost j.carried) (agrees lane) ∙ ap (λ (it : Carried). (world lane).standing ++ stood lost it) same;
          }
    ]) refl

stands_so : (item : Carried) → can_stand item ≡ true → stood false item ≡ item ∷ []
stands_so item can = ap (λ (b : Bool). cond (b && true) (item ∷ []) []) can

lost_so : (item : Carried) → stood true item ≡ []
lost_so item =
    let P : Bool → Type 0 = λ b. cond (not b && (b && true)) (item ∷ []) [] ≡ [] in
    elim (can_stand item) as P [ true ↦ refl | false ↦ refl ]

-- Moves that fit what is on the lanes: what comes is the oldest in flight, and what stands then can stand.

abbrev Fits : Move → World → Type 0
Fits (Sent lane o item) world = Unit {0}
Fits (Came lane item) world = Comes world lane item × (can_stand item ≡ true)
Fits (Lost lane item) world = Comes world lane item
Fits (Left lane item) world = Unit {0}
Fits (Held lane slot) world = Unit {0}
Fits (Freed lane number) world = Unit {0}
Fits (Owed lane) world = Unit {0}
Fits (Paid lane) world = Unit {0}

-- one after another
abbrev AllFit : List Move → World → Type 0
AllFit [] world = Unit {0}
AllFit (move ∷ moves) world = Fits move world × AllFit moves (put_move move world)

agree_move : (n : ℕ) (move : Move) (world : World) (js : List Journey) → 0 < n → Fits move world → Ordered js → Agrees world js → Agrees (put_move move world) (move_on n move js)
agree_move n (Sent lane o item) world js some fits order agrees =
    agree_at world (Sent lane o item) js (sends n lane o (item ∷ []) js)
    (sees_sends_here n lane o (item ∷ []) js ∙ ap (λ (s : Seen). seen_from (s.flight ++ item ∷ []) s.standing) (agrees lane))
    (λ l other. sees_sends_other n lane l o (item ∷ []) js other) agrees
agree_move n (Came lane item) world js some fits order agrees =
    let so = comes_so n lane false item world js some order agrees fits.0 in
    agree_at world (Came lane item) js (comes n lane false js)
    (seen_same _ _ _ _ so.flight (so.standing ∙ ap (λ (xs : List Carried). (world lane).standing ++ xs) (stands_so item fits.1)))
    (λ l other. sees_comes_other n lane l false js other) agrees
agree_move n (Lost lane item) world js some fits order agrees =
    let so = comes_so n lane true item world js some order agrees fits in
    agree_at world (Lost lane item) js (comes n lane true js)
    (seen_same _ _ _ _ so.flight (so.standing ∙ ap (λ (xs : List Carried). (world lane).standing ++ xs) (lost_so item) ∙ append-nil (world lane).standing))
    (λ l other. sees_comes_other n lane l true js other) agrees
agree_move n (Left lane item) world js some fits order agrees =
    agree_at world (Left lane item) js (leaves n lane (is_like item) js)
    (sees_leaves_here n lane (is_like item) js some ∙ ap (λ (s : Seen). seen_from s.flight (less (is_like item) s.standing)) (agrees lane))
    (λ l other. sees_leaves_other n lane l (is_like item) js other) agrees
agree_move n (Held lane slot) world js some fits order agrees = agree_at world (Held lane slot) js js (agrees lane) (λ l _. refl) agrees
agree_move n (Freed lane number) world js some fits order agrees = agree_at world (Freed lane number) js js (agrees lane) (λ l _. refl) agrees
agree_move n (Owed lane) world js some fits order agrees = agree_at world (Owed lane) js js (agrees lane) (λ l _. refl) agrees
agree_move n (Paid lane) world js some fits order agrees = agree_at world (Paid lane) js js (agrees lane) (λ l _. refl) agrees

agree_all : (n : ℕ) (moves : List Move) (world : World) (js : List Journey) → 0 < n → AllFit moves world → Ordered js → Agrees world js → Agrees (put_moves moves world) (moves_on n moves js)
agree_all n [] world js some fits order agrees = agrees
agree_all n (move ∷ moves) world js some fits order agrees =
    agree_all n moves (put_move move world) (move_on n move js) some fits.1 (move_keeps n Ordered (order_keeps n some) move js order)
    (agree_move n move world js some fits.0 order agrees)

-- The moves of an event fit.

-- of an act nothing comes
abbrev Still : Move → Type 0
Still (Sent lane o item) = Unit {0}
Still (Came lane item) = ⊥
Still (Lost lane item) = ⊥
Still (Left lane item) = Unit {0}
Still (Held lane slot) = Unit {0}
Still (Freed lane number) = Unit {0}
Still (Owed lane) = Unit {0}
Still (Paid lane) = Unit {0}

abbrev AllStill : List Move → Type 0
AllStill [] = Unit {0}
AllStill (move ∷ moves) = Still move × AllStill moves

still_fits : (move : Move) (world : World) → Still move → Fits move world
still_fits (Sent lane o item) world still = tt
still_fits (Came lane item) world still = absurd still
still_fits (Lost lane item) world still = absurd still
still_fits (Left lane item) world still = tt
still_fits (Held lane slot) world still = tt
still_fits (Freed lane number) world still = tt
still_fits (Owed lane) world still = tt
still_fits (Paid lane) world still = tt

all_still_fit : (moves : List Move) (world : World) → AllStill moves → AllFit moves world
all_still_fit [] world still = tt
all_still_fit (move ∷ moves) world still = (still_fits move world still.0, all_still_fit moves (put_move move world) still.1)

still_append : (xs ys : List Move) → AllStill xs → AllStill ys → AllStill (xs ++ ys)
still_append [] ys first second = second
still_append (x ∷ xs) ys first second = (first.0, still_append xs ys first.1 second)

latch_still : (lane : BridgeLane) (by : By) (o : OpId) (slot : Option ℕ) → AllStill (latch_moves lane by o slot)
latch_still lane by o None = tt
latch_still lane by o (Some number) = (tt, (tt, tt))

take_still : (lane : BridgeLane) (o : OpId) (outcome : Outcome) (slot : Option ℕ) → AllStill (take_moves lane o outcome slot)
take_still lane o outcome None = tt
take_still lane o outcome (Some number) = (tt, (tt, tt))

claim_still : (lane : BridgeLane) (by : By) (o : OpId) (step : Step) (slot : Option ℕ) → AllStill (claim_moves lane by o step slot)
claim_still lane by o Land slot = tt
claim_still lane by o (Part phases) slot = tt
claim_still lane by o (Read value) slot = tt
claim_still lane by o Accept slot = (tt, (tt, tt))
claim_still lane by o Latch slot = latch_still lane by o slot
claim_still lane by o (Take outcome) slot = take_still lane o outcome slot
claim_still lane by o Stall slot = tt
claim_still lane by o MasterAbort slot = tt
claim_still lane by o TargetAbort slot = tt

place_still : (by : By) (o : OpId) (step : Step) (place : Place) (slot : Option ℕ) → AllStill (place_moves by o step place slot)
place_still by o step (Target target) slot = tt
place_still by o step (Header bus) slot = tt
place_still by o step (Lane lane) slot = claim_still lane by o step slot
place_still by o step Nobody slot = tt

end_still : (lane : BridgeLane) (o : OpId) (outcome : Option Outcome) (item : Option Carried) → AllStill (end_moves lane o outcome item)
end_still lane o None item = tt
end_still lane o (Some outcome) None = tt
end_still lane o (Some outcome) (Some (Post op)) = (tt, (tt, tt))
end_still lane o (Some outcome) (Some (Ask op slot)) = (tt, (tt, tt))
end_still lane o (Some outcome) (Some (Done op slot given)) = (tt, tt)
end_still lane o (Some outcome) (Some Room) = (tt, tt)
end_still lane o (Some outcome) (Some (Gone slot)) = (tt, tt)

initiator_still : (board : Board) (by : By) (o : OpId) (step : Step) (item : Option Carried) → AllStill (initiator_moves board by o step item)
initiator_still board Master o step item = tt
initiator_still board (ByLane lane) o step item = end_still lane o (lane_outcome board lane o step) item

-- what arrives was the oldest in flight
arrival_fits : (lane : BridgeLane) (mark : Mark) (flight : List Carried) (world : World) → (world lane).flight ≡ flight → AllFit (arrival_moves lane mark (oldest flight)) world
arrival_fits lane mark [] world is = tt
arrival_fits lane mark (Post op ∷ rest) world is = (((rest, is), refl), tt)
arrival_fits lane Plain (Ask op slot ∷ rest) world is = (((rest, is), refl), tt)
arrival_fits lane Discard (Ask op slot ∷ rest) world is = (((rest, is), refl), tt)
arrival_fits lane Drop (Ask op slot ∷ rest) world is = ((rest, is), (tt, tt))
arrival_fits lane Plain (Done op slot outcome ∷ rest) world is = (((rest, is), refl), tt)
arrival_fits lane Discard (Done op slot outcome ∷ rest) world is = ((rest, is), (tt, tt))
arrival_fits lane Drop (Done op slot outcome ∷ rest) world is = (((rest, is), refl), tt)
arrival_fits lane mark (Room ∷ rest) world is = ((rest, is), (tt, tt))
arrival_fits lane mark (Gone slot ∷ rest) world is = ((rest, is), (tt, tt))

next_fits : (board : Board) (world : World) (e : Event) → AllFit (moves_in Tagged board e (moved_by Tagged board world e)) world
next_fits board world (Act on by o step place) =
    let slot : Option ℕ = slot_at board on by o step place world in
    let item : Option Carried = item_by board by o step world in
    all_still_fit (place_moves by o step place slot ++ initiator_moves board by o step item) world
    (still_append (place_moves by o step place slot) (initiator_moves board by o step item) (place_still by o step place slot) (initiator_still board by o step item))
next_fits board world (Arrive lane mark) = arrival_fits lane mark (world lane).flight world refl

-- one more event
pub agree_next : (board : Board) (world : World) (n : ℕ) (e : Event) (js : List Journey) → 0 < n → Ordered js → Agrees world js → Agrees (after board world e) (next board world n e js)
agree_next board world n e js some order agrees l =
    let moves : List Move = moves_in Tagged board e (moved_by Tagged board world e) in
    agree_all n moves world js some (next_fits board world e) order agrees l ∙ ap on_lane (moves_after Tagged board world e l)
