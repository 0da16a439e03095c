-- What a lane owes is the posted writes accepted at it, less the credits that came back, in every run.
use Rattle.std.proofs.Common.{◌≡◌, ℕ, ◌+◌, ◌==◌, Bool, true, false, ◌&&◌, cond, List, [], ◌∷◌, ◌++◌, length, Option, Some, None, is_some, refl, sym, ap, subst, ◌∙◌, length-append, arith}
use Rattle.std.specs.List.{find, AllByRecursion}
use Rattle.list_facts.specs.Lists.{before, total}
use Rattle.list_facts.proofs.TotalLemmas.{total-append}
use Rattle.list_facts.proofs.EachLemmas.{Each-find}
use Rattle.list_facts.proofs.FindLemmas.{find_passes}
use Rattle.pci_command.specs.declared.op_id.OpId.{OpId}
use Rattle.pci_command.specs.declared.op_id.Outcome.{Outcome}
use Rattle.board_model.specs.declared.bridge.Lane.{Lane as BridgeLane}
use Rattle.board_model.specs.declared.bridge.Place.{Place}
use Rattle.board_model.specs.declared.bridge.Place.TheVariants.{Target, Header, Lane, Nobody}
use Rattle.board_model.specs.declared.board.Board.{Board}
use Rattle.board_model.specs.Ways.{end_of, lane_back}
use Rattle.history_model.specs.declared.event.By.{By}
use Rattle.history_model.specs.declared.event.By.TheVariants.{Master, Lane as ByLane}
use Rattle.history_model.specs.declared.event.Mark.{Mark}
use Rattle.history_model.specs.declared.event.Step.{Step}
use Rattle.history_model.specs.declared.event.Step.TheVariants.{Land, Part, Read, Accept, Latch, Take, Stall, MasterAbort, TargetAbort}
use Rattle.history_model.specs.declared.event.Event.{Event}
use Rattle.history_model.specs.declared.event.Event.TheVariants.{Act, Arrive}
use Rattle.history_model.specs.declared.item.Carried.{Carried}
use Rattle.history_model.specs.declared.item.Carried.TheVariants.{Post, Ask, Done, Room, Gone}
use Rattle.history_model.specs.declared.item.Slot.{Slot}
use Rattle.history_model.specs.Lanes.{is_of, reply_to, Effect, Stands, Credits as CreditsBack, Frees, Drops, effect_of}
use Rattle.history_model.specs.World.{World, same_lane, lane_outcome, world_of}
use Rattle.history_model.specs.Answers.{wants, presents, presents_item}
use Rattle.history_model.specs.Runs.{Allowed, Run}
use Rattle.law_lanes.specs.Kinds.{RightKind}
use Rattle.law_lanes.specs.Credits.{post_count, room_count}
use Rattle.history_model.proofs.facts.BridgeLemmas.{lane_back_back, same_lane_flip}
use Rattle.law_lanes.proofs.Laws.{RightKind-run, Credits-run}
use Rattle.law_lanes.specs.order.Order.{post_in, posts, is_posted_op, entered, leaves_by, leaving, left}
use Rattle.law_lanes.specs.order.Sent.{item_for, sent_to, reply_for, sent_back, dropped_by, dropped_first, sending, sent, came}
use Rattle.std.proofs.lemmas.Bool.{and_parts}
use Rattle.law_lanes.proofs.order.PostLemmas.{post_of, other_no_post}
use Rattle.law_lanes.proofs.order.OrderRunLemmas.{InOrder-run}
use Rattle.law_lanes.proofs.order.SentLemmas.{sent_received}

post_counted : (item : Carried) → length (post_in item) ≡ post_count item
post_counted (Post op) = refl
post_counted (Ask op slot) = refl
post_counted (Done op slot outcome) = refl
post_counted Room = refl
post_counted (Gone slot) = refl

posts_counted : (items : List Carried) → length (posts items) ≡ total post_count items
posts_counted [] = refl
posts_counted (item ∷ items) = omega (arith, length-append (post_in item) (posts items), post_counted item, posts_counted items)

-- no credit is among what is sent to the claimant, or for a request that is dropped
item_no_room : (held : List Slot) (o : OpId) (step : Step) → total room_count (item_for held o step) ≡ 0
item_no_room held o Land = refl
item_no_room held o (Part phases) = refl
item_no_room held o (Read value) = refl
item_no_room held o Accept = refl
item_no_room held o Latch = refl
item_no_room held o (Take outcome) = refl
item_no_room held o Stall = refl
item_no_room held o MasterAbort = refl
item_no_room held o TargetAbort = refl

sent_no_room : (world : World) (l : BridgeLane) (o : OpId) (step : Step) (place : Place) → total room_count (sent_to world l o step place) ≡ 0
sent_no_room world l o step (Target target) = refl
sent_no_room world l o step (Header bus) = refl
sent_no_room world l o step (Lane at) =
    let P : Bool → Type 0 = λ b. total room_count (cond b (item_for (world l).held o step) []) ≡ 0 in
    elim (same_lane at l) as P [ true ↦ item_no_room (world l).held o step | false ↦ refl ]
sent_no_room world l o step Nobody = refl

dropped_no_room : (effect : Effect) → total room_count (dropped_by effect) ≡ 0
dropped_no_room Stands = refl
dropped_no_room CreditsBack = refl
dropped_no_room (Frees slot) = refl
dropped_no_room (Drops slot) = refl

first_no_room : (mark : Mark) (flight : List Carried) → total room_count (dropped_first mark flight) ≡ 0
first_no_room mark [] = refl
first_no_room mark (item ∷ rest) = dropped_no_room (effect_of mark item)

-- the reply to a posted write that leaves is a credit, and no other reply is
abbrev one_for : Bool → OpId → List OpId
one_for leaves o = cond leaves (o ∷ []) []

reply_room : (outcome : Outcome) (o : OpId) (found : Option Carried) → found ≡ Some (Post o) → total room_count (reply_to outcome found) ≡ 1
reply_room outcome o found is = ap (λ f. total room_count (reply_to outcome f)) is

reply_no_room : (outcome : Outcome) (found : Option Carried) → ((y : Carried) → found ≡ Some y → post_in y ≡ []) → total room_count (reply_to outcome found) ≡ 0
reply_no_room outcome None none = refl
reply_no_room outcome (Some (Post op)) none = let e : op ∷ [] ≡ [] = none (Post op) refl in cc
reply_no_room outcome (Some (Ask op slot)) none = refl
reply_no_room outcome (Some (Done op slot given)) none = refl
reply_no_room outcome (Some Room) none = refl
reply_no_room outcome (Some (Gone slot)) none = refl

found_post : (board : Board) (on : ℕ) (o : OpId) (xs : List Carried) (item : Option Carried) → is_posted_op board o ≡ true → AllByRecursion (RightKind board) xs
    → find (is_of o) xs ≡ item → presents_item board on (before (is_of o) xs) item ≡ true → item ≡ Some (Post o)
found_post board on o xs None posted right some presented = cc
found_post board on o xs (Some item) posted right some presented =
    ap Some (post_of board o posted item (Each-find (RightKind board) (is_of o) xs item right some) (find_passes (is_of o) xs item some))

ends_room : (board : Board) (on : ℕ) (world : World) (o : OpId) (k : BridgeLane) (outcome : Option Outcome) → AllByRecursion (RightKind board) (world k).standing → presents board on o (world k).standing ≡ true
    → length (one_for (is_posted_op board o && is_some outcome) o) ≡ total room_count (reply_for world o k outcome)
ends_room board on world o k None right presented =
    let P : Bool → Type 0 = λ b. length (one_for (b && false) o) ≡ 0 in
    elim (is_posted_op board o) as P [ true ↦ refl | false ↦ refl ]
ends_room board on world o k (Some outcome) right presented =
    let st : List Carried = (world k).standing in
    let item : Option Carried = find (is_of o) st in
    let P : Bool → Type 0 = λ b. is_posted_op board o ≡ b → length (one_for (b && true) o) ≡ total room_count (reply_to outcome item) in
    (elim (is_posted_op board o) as P [
      | true ↦ λ posted. sym (reply_room outcome o item (found_post board on o st item posted right refl presented))
      | false ↦ λ other. sym (reply_no_room outcome item
          (λ y some. other_no_post board o other y (Each-find (RightKind board) (is_of o) st y right some) (find_passes (is_of o) st y some)))
    ]) refl

same_back : (a b : BridgeLane) → same_lane (lane_back a) (lane_back b) ≡ same_lane a b
same_back a b = same_lane_flip a (lane_back b) ∙ ap (same_lane a) (lane_back_back b)

act_room : (board : Board) (h : List Event) (on : ℕ) (by : By) (o : OpId) (step : Step) (l : BridgeLane) → Run board h → wants board h on by o ≡ true
    → length (leaves_by board l by o step) ≡ total room_count (sent_back board (world_of board h) (lane_back l) by o step)
act_room board h on Master o step l run wanted = refl
act_room board h on (ByLane k) o step l run wanted =
    let world : World = world_of board h in
    let outcome : Option Outcome = lane_outcome board k o step in
    let presented : presents board on o (world k).standing ≡ true = (and_parts (end_of board k == on) (presents board on o (world k).standing) wanted).1 in
    let ends = ends_room board on world o k outcome (RightKind-run board h k run).1 presented in
    let P : Bool → Type 0 = λ b. length (one_for (b && is_posted_op board o && is_some outcome) o) ≡ total room_count (cond b (reply_for world o k outcome) []) in
    let Q : Bool → Type 0 = λ b. length (one_for (same_lane k l && is_posted_op board o && is_some outcome) o) ≡ total room_count (cond b (reply_for world o k outcome) []) in
    subst Q (sym (same_back k l)) (elim (same_lane k l) as P [ true ↦ ends | false ↦ refl ])

event_room : (board : Board) (h : List Event) (e : Event) (l : BridgeLane) → Run board h → Allowed board h e
    → length (leaving board l e) ≡ total room_count (sending board (world_of board h) (lane_back l) e)
event_room board h (Act on by o step place) l run allowed =
    let world : World = world_of board h in
    let back : BridgeLane = lane_back l in
    omega (arith, act_room board h on by o step l run allowed.0, total-append room_count (sent_to world back o step place) (sent_back board world back by o step), sent_no_room world back o step place)
event_room board h (Arrive at mark) l run allowed =
    let flight : List Carried = (world_of board h at).flight in
    let P : Bool → Type 0 = λ b. 0 ≡ total room_count (cond b (dropped_first mark flight) []) in
    elim (same_lane (lane_back at) (lane_back l)) as P [ true ↦ sym (first_no_room mark flight) | false ↦ refl ]

-- as many credits were sent back as posted writes left
left_rooms : (board : Board) (h : List Event) (l : BridgeLane) → Run board h → length (left board l h) ≡ total room_count (sent board (lane_back l) h)
left_rooms board [] l run = refl
left_rooms board (e ∷ h) l run =
    let back : BridgeLane = lane_back l in
    omega (
      arith,
      left_rooms board h l run.1,
      event_room board h e l run.1 run.0,
      length-append (left board l h) (leaving board l e),
      total-append room_count (sent board back h) (sending board (world_of board h) back e),
    )

pub owed_counted : (board : Board) (h : List Event) (l : BridgeLane) → Run board h
    → (world_of board h l).owed + total room_count (came board (lane_back l) h) ≡ length (entered l h)
owed_counted board h l run =
    let here : List Carried = (world_of board h l).flight in
    let stands : List Carried = (world_of board h l).standing in
    let back : List Carried = (world_of board h (lane_back l)).flight in
    let first : List Carried = came board (lane_back l) h in
    let gone : List OpId = left board l h in
    omega (
      arith,
      (Credits-run board h l run).owed,
      left_rooms board h l run,
      ap (total room_count) (sent_received board h (lane_back l) run),
      total-append room_count first back,
      ap (λ (s : List OpId). length s) (InOrder-run board h run l),
      length-append (gone ++ posts stands) (posts here),
      length-append gone (posts stands),
      posts_counted stands,
      posts_counted here,
    )
