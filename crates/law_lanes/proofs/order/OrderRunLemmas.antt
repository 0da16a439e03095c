-- The posted writes of a lane keep their order in every run.
use Rattle.std.proofs.Common.{◌≡◌, ℕ, Bool, true, false, ◌&&◌, cond, List, [], ◌∷◌, ◌++◌, ◌==◌, Option, Some, None, is_some, refl, sym, ap, subst, ◌∙◌, append_assoc, append-nil}
use Rattle.std.specs.List.{find, AllByRecursion}
use Rattle.list_facts.specs.Lists.{less}
use Rattle.pci_command.specs.declared.op_id.OpId.{OpId}
use Rattle.pci_command.specs.declared.op_id.Outcome.{Outcome}
use Rattle.board_model.specs.declared.bridge.Lane.{Lane as BridgeLane}
use Rattle.board_model.specs.declared.bridge.Place.{Place}
use Rattle.board_model.specs.declared.board.Board.{Board}
use Rattle.board_model.specs.Ways.{end_of, lane_back}
use Rattle.history_model.specs.declared.event.By.{By}
use Rattle.history_model.specs.declared.event.By.TheVariants.{Master, Lane as ByLane}
use Rattle.history_model.specs.declared.event.Mark.{Mark}
use Rattle.history_model.specs.declared.event.Step.{Step}
use Rattle.history_model.specs.declared.event.Event.{Event}
use Rattle.history_model.specs.declared.event.Event.TheVariants.{Act, Arrive}
use Rattle.history_model.specs.declared.item.Carried.{Carried}
use Rattle.history_model.specs.declared.item.Carried.TheVariants.{Post, Ask, Done, Room, Gone}
use Rattle.history_model.specs.Lanes.{LaneState, Both, is_of, reply_to, item_ends, Effect, Stands, Credits, Frees, Drops, effect_of, takes_effect, came_off, arrives_first, arrives}
use Rattle.history_model.specs.World.{World, same_lane, both, at_place, lane_outcome, leaves, at_initiator, moved, world_of}
use Rattle.history_model.specs.Answers.{wants, presents}
use Rattle.history_model.specs.Runs.{Allowed, Run}
use Rattle.law_lanes.specs.Kinds.{RightKind}
use Rattle.history_model.proofs.facts.BridgeLemmas.{same_lane_self, same_lane_symm, moved_gives, moved_keeps}
use Rattle.law_lanes.proofs.Laws.{IsRoom, IsLastOf, IsAskOf, Fits, effect_fits}
use Rattle.law_lanes.specs.order.Order.{post_in, posts, is_posted_op, entering, entered, leaves_by, leaving, left}
use Rattle.law_lanes.proofs.order.PostLemmas.{posts-append, posts-reply, posts-less_other, posts-less_first}
use Rattle.std.proofs.lemmas.Bool.{and_parts}
use Rattle.law_lanes.proofs.order.OrderLemmas.{Placed, back_apart, place_places}

-- a lane after the initiator's part of an event: what left it stood before all other posted writes
record Departed (gone : List OpId) (old x : LaneState) : Type 0 where
  flies : posts x.flight ≡ posts old.flight
  stands : posts old.standing ≡ gone ++ posts x.standing

module _ (board : Board) (k : BridgeLane) (o : OpId) (world : World) where
  -- what leaves a lane where the initiator is lane `k`
  abbrev gone_by : BridgeLane → Option Outcome → List OpId
  gone_by l outcome = cond (same_lane k l && is_posted_op board o && is_some outcome) (o ∷ []) []

  none_gone : (l : BridgeLane) → gone_by l None ≡ []
  none_gone l =
      let P : Bool → Bool → Type 0 = λ a b. cond (a && b && false) (o ∷ []) [] ≡ [] in
      elim (same_lane k l) as (λ a. P a (is_posted_op board o)) [
        | true ↦ elim (is_posted_op board o) as (λ b. P true b) [ true ↦ refl | false ↦ refl ]
        | false ↦ refl
      ]

  apart_gone : (l : BridgeLane) (outcome : Outcome) → same_lane k l ≡ false → gone_by l (Some outcome) ≡ []
  apart_gone l outcome apart = rw apart refl

  still : (l : BridgeLane) (outcome : Outcome) → same_lane k l ≡ false → Departed (gone_by l (Some outcome)) (world l) (world l)
  still l outcome apart =
      subst (λ n. Departed n (world l) (world l)) (sym (apart_gone l outcome apart)) record { flies = refl; stands = refl }

  -- at the lane that presents
  first_leaves : (on : ℕ) (outcome : Outcome) → AllByRecursion (RightKind board) (world k).standing
      → (is_posted_op board o ≡ true → presents board on o (world k).standing ≡ true)
      → posts (world k).standing ≡ gone_by k (Some outcome) ++ posts (less (is_of o) (world k).standing)
  first_leaves on outcome right presented =
      let st : List Carried = (world k).standing in
      let self = same_lane_self k in
      let P : Bool → Type 0 = λ b. is_posted_op board o ≡ b → posts st ≡ cond (true && b && true) (o ∷ []) [] ++ posts (less (is_of o) st) in
      rw self ((elim (is_posted_op board o) as P [
        | true ↦ λ posted. posts-less_first board on o st posted right (presented posted)
        | false ↦ λ other. sym (posts-less_other board o st other right)
      ]) refl)

  departs : (on : ℕ) (outcome : Option Outcome) → AllByRecursion (RightKind board) (world k).standing
      → (is_posted_op board o ≡ true → presents board on o (world k).standing ≡ true)
      → (l : BridgeLane) → Departed (gone_by l outcome) (world l) (leaves k o outcome world l)
  departs on None right presented l =
      subst (λ n. Departed n (world l) (world l)) (sym (none_gone l)) record { flies = refl; stands = refl }
  departs on (Some outcome) right presented l =
      let P : BridgeLane → Both → Type 0 = λ l x. Departed (gone_by l (Some outcome)) (world l) x.here in
      let back : LaneState = world (lane_back k) in
      let reply : List Carried = reply_to outcome (find (is_of o) (world k).standing) in
      moved_gives P (item_ends o outcome) k world
      (λ l far. still l outcome (same_lane_symm k l ∙ far))
      record { flies = refl; stands = first_leaves on outcome right presented }
      record {
        flies = posts-append back.flight reply ∙ ap (λ n. posts back.flight ++ n) (posts-reply outcome (find (is_of o) (world k).standing)) ∙ append-nil (posts back.flight);
        stands = (still (lane_back k) outcome (back_apart k)).stands;
      }
      l

-- at every lane, whoever the initiator is
initiator_departs : (board : Board) (h : List Event) (on : ℕ) (by : By) (o : OpId) (step : Step) (new : BridgeLane → List OpId) (world : World)
    → wants board h on by o ≡ true → ((l : BridgeLane) → Placed board o (new l) (world_of board h l) (world l))
    → (l : BridgeLane) → Departed (leaves_by board l by o step) (world l) (at_initiator board by o step world l)
initiator_departs board h on Master o step new world wanted placed l = record { flies = refl; stands = refl }
initiator_departs board h on (ByLane k) o step new world wanted placed l =
    let presented : presents board on o (world_of board h k).standing ≡ true = (and_parts (end_of board k == on) (presents board on o (world_of board h k).standing) wanted).1 in
    departs board k o world on (lane_outcome board k o step) (placed k).right
    (λ posted. subst (λ st. presents board on o st ≡ true) (sym ((placed k).same posted)) presented) l

-- an arrival moves the oldest item in flight behind those that stand
record Came (item : Carried) (x y : Both) : Type 0 where
  here : posts y.here.standing ++ posts y.here.flight ≡ posts x.here.standing ++ (post_in item ++ posts x.here.flight)
  back : posts y.back.standing ++ posts y.back.flight ≡ posts x.back.standing ++ posts x.back.flight

room_no_post : (item : Carried) → IsRoom item → post_in item ≡ []
room_no_post (Post op) fits = absurd fits
room_no_post (Ask op slot) fits = refl
room_no_post (Done op slot outcome) fits = refl
room_no_post Room fits = refl
room_no_post (Gone slot) fits = refl

last_no_post : (slot : ℕ) (item : Carried) → IsLastOf slot item → post_in item ≡ []
last_no_post number (Post op) fits = absurd fits
last_no_post number (Ask op slot) fits = refl
last_no_post number (Done op slot outcome) fits = refl
last_no_post number Room fits = refl
last_no_post number (Gone slot) fits = refl

ask_no_post : (slot : ℕ) (item : Carried) → IsAskOf slot item → post_in item ≡ []
ask_no_post number (Post op) fits = absurd fits
ask_no_post number (Ask op slot) fits = refl
ask_no_post number (Done op slot outcome) fits = refl
ask_no_post number Room fits = refl
ask_no_post number (Gone slot) fits = refl

effect_comes : (effect : Effect) (item : Carried) (x : Both) → Fits effect item → Came item x (takes_effect effect item x)
effect_comes Stands item x fits =
    let s : List OpId = posts x.here.standing in
    let f : List OpId = posts x.here.flight in
    let p : List OpId = post_in item in
    record {
      here = ap (λ z. z ++ f) (posts-append x.here.standing (item ∷ []) ∙ ap (λ z. s ++ z) (append-nil p)) ∙ append_assoc s p f;
      back = refl;
    }
effect_comes Credits item x fits =
    record { here = ap (λ p. posts x.here.standing ++ (p ++ posts x.here.flight)) (sym (room_no_post item fits)); back = refl }
effect_comes (Frees slot) item x fits =
    record { here = ap (λ p. posts x.here.standing ++ (p ++ posts x.here.flight)) (sym (last_no_post slot item fits)); back = refl }
effect_comes (Drops slot) item x fits =
    record {
      here = ap (λ p. posts x.here.standing ++ (p ++ posts x.here.flight)) (sym (ask_no_post slot item fits));
      back = ap (λ f. posts x.back.standing ++ f) (posts-append x.back.flight (Gone slot ∷ []) ∙ append-nil (posts x.back.flight));
    }

-- what stands and what is in flight, on a lane and on the lane back
abbrev SameOrder : Both → Both → Type 0
SameOrder x y =
    (posts y.here.standing ++ posts y.here.flight ≡ posts x.here.standing ++ posts x.here.flight)
    × (posts y.back.standing ++ posts y.back.flight ≡ posts x.back.standing ++ posts x.back.flight)

first_comes : (mark : Mark) (flight : List Carried) (x : Both) → x.here.flight ≡ flight → SameOrder x (arrives_first mark flight x)
first_comes mark [] x same = (refl, refl)
first_comes mark (item ∷ rest) x same =
    let came = effect_comes (effect_of mark item) item (record x { here = came_off item rest x.here }) (effect_fits mark item) in
    (came.here ∙ ap (λ f. posts x.here.standing ++ posts f) (sym same), came.back)

arrival_comes : (board : Board) (world : World) (lane : BridgeLane) (mark : Mark) (l : BridgeLane)
    → posts (moved (arrives mark) lane world l).standing ++ posts (moved (arrives mark) lane world l).flight ≡ posts (world l).standing ++ posts (world l).flight
arrival_comes board world lane mark l =
    let P : BridgeLane → Both → Type 0 = λ l x. posts x.here.standing ++ posts x.here.flight ≡ posts (world l).standing ++ posts (world l).flight in
    let new = first_comes mark (world lane).flight (both world lane) refl in
    moved_keeps P (arrives mark) lane world (λ l. refl) new.0 new.1 l

-- the lists joined after an act, and after an arrival
act_joins : (e new l gone s s2 f f2 : List OpId) → e ≡ l ++ s ++ f → s ≡ gone ++ s2 → f2 ≡ f ++ new → e ++ new ≡ l ++ gone ++ s2 ++ f2
act_joins e new l gone s s2 f f2 before stands flies =
    ap (λ z. z ++ new) before ∙ append_assoc (l ++ s) f new ∙ ap (λ z. l ++ s ++ z) (sym flies) ∙ ap (λ z. l ++ z ++ f2) stands ∙ ap (λ z. z ++ f2) (sym (append_assoc l gone s2))

arrival_joins : (e l s s2 f f2 : List OpId) → e ≡ l ++ s ++ f → s2 ++ f2 ≡ s ++ f → e ++ [] ≡ l ++ [] ++ s2 ++ f2
arrival_joins e l s s2 f f2 before same =
    append-nil e ∙ before ∙ append_assoc l s f ∙ ap (λ z. l ++ z) (sym same) ∙ sym (append_assoc l s2 f2) ∙ ap (λ z. z ++ s2 ++ f2) (sym (append-nil l))

abbrev InOrder : Board → List Event → BridgeLane → Type 0
InOrder board h l = entered l h ≡ left board l h ++ posts (world_of board h l).standing ++ posts (world_of board h l).flight

event_orders : (board : Board) (h : List Event) (e : Event) → Run board h → Allowed board h e → ((l : BridgeLane) → InOrder board h l) → (l : BridgeLane) → InOrder board (e ∷ h) l
event_orders board h (Act on by o step place) run allowed old l =
    let e : Event = Act on by o step place in
    let world : World = at_place board on by o step place (world_of board h) in
    let placed = place_places board h run on by o step place allowed.1 in
    let gone = initiator_departs board h on by o step (λ l. entering l e) world allowed.0 placed l in
    let was : LaneState = world_of board h l in
    let now : LaneState = world_of board (e ∷ h) l in
    act_joins (entered l h) (entering l e) (left board l h) (leaving board l e) (posts was.standing) (posts now.standing) (posts was.flight) (posts now.flight)
    (old l) (sym (placed l).stands ∙ gone.stands) (gone.flies ∙ (placed l).flies)
event_orders board h (Arrive lane mark) run allowed old l =
    let was : LaneState = world_of board h l in
    let now : LaneState = world_of board (Arrive lane mark ∷ h) l in
    arrival_joins (entered l h) (left board l h) (posts was.standing) (posts now.standing) (posts was.flight) (posts now.flight) (old l)
    (arrival_comes board (world_of board h) lane mark l)

pub InOrder-run : (board : Board) (h : List Event) → Run board h → (l : BridgeLane) → InOrder board h l
InOrder-run board [] run l = refl
InOrder-run board (e ∷ h) run l = event_orders board h e run.1 run.0 (InOrder-run board h run.1) l

-- what stands of the posted writes after an act is what stood, less the oldest where it left
pub act_stands : (board : Board) (h : List Event) (on : ℕ) (by : By) (o : OpId) (step : Step) (place : Place) → Run board h → Allowed board h (Act on by o step place)
    → (l : BridgeLane) → posts (world_of board h l).standing ≡ leaves_by board l by o step ++ posts (world_of board (Act on by o step place ∷ h) l).standing
act_stands board h on by o step place run allowed l =
    let e : Event = Act on by o step place in
    let world : World = at_place board on by o step place (world_of board h) in
    let placed = place_places board h run on by o step place allowed.1 in
    let gone = initiator_departs board h on by o step (λ l. entering l e) world allowed.0 placed l in
    sym (placed l).stands ∙ gone.stands
