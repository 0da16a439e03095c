-- What was sent on a lane is what came and what is in flight, in every run.
use Rattle.std.proofs.Common.{◌≡◌, ℕ, ◌+◌, Bool, true, false, cond, List, [], ◌∷◌, ◌++◌, length, take, Option, Some, None, refl, sym, ap, subst, ◌∙◌, append_assoc, append-nil, length-append, arith}
use Rattle.std.proofs.Math.Seq.{take-append_seam}
use Rattle.std.specs.List.{find}
use Rattle.list_facts.proofs.FindLemmas.{find-less_other}
use Rattle.pci_command.specs.declared.op_id.OpId.{OpId}
use Rattle.pci_command.specs.declared.op_id.Outcome.{Outcome}
use Rattle.board_model.specs.declared.bridge.Lane.{Lane as BridgeLane}
use Rattle.board_model.specs.declared.bridge.Place.{Place}
use Rattle.board_model.specs.declared.bridge.Place.TheVariants.{Target, Header, Lane, Nobody}
use Rattle.board_model.specs.declared.board.Board.{Board}
use Rattle.history_model.specs.declared.event.By.{By}
use Rattle.history_model.specs.declared.event.By.TheVariants.{Master, Lane as ByLane}
use Rattle.history_model.specs.declared.event.Mark.{Mark}
use Rattle.history_model.specs.declared.event.Step.{Step}
use Rattle.history_model.specs.declared.event.Step.TheVariants.{Land, Part, Read, Accept, Latch, Take, Stall, MasterAbort, TargetAbort}
use Rattle.history_model.specs.declared.event.Event.{Event}
use Rattle.history_model.specs.declared.event.Event.TheVariants.{Act, Arrive}
use Rattle.history_model.specs.declared.item.Carried.{Carried}
use Rattle.history_model.specs.declared.item.Carried.TheVariants.{Post, Ask, Done, Room, Gone}
use Rattle.history_model.specs.declared.item.Slot.{Slot}
use Rattle.history_model.specs.declared.item.Answer.TheVariants.{Gives}
use Rattle.history_model.specs.Lanes.{LaneState, Both, is_of, is_done_for, reply_to, item_ends, Effect, Stands, Credits, Frees, Drops, effect_of, takes_effect, came_off, arrives_first, arrives}
use Rattle.history_model.specs.World.{World, same_lane, both, slot_found, enters, at_place, lane_outcome, leaves, at_initiator, moved, world_of}
use Rattle.board_model.specs.Ways.{lane_back}
use Rattle.history_model.specs.Answers.{answer}
use Rattle.history_model.specs.Runs.{mark_of_first, Allowed, Run}
use Rattle.history_model.proofs.facts.BridgeLemmas.{same_lane_self, same_lane_back, same_lane_symm}
use Rattle.history_model.proofs.facts.AnswerLemmas.{AtLane, answered_at}
use Rattle.law_lanes.specs.order.Sent.{item_for, sent_to, reply_for, sent_back, dropped_by, dropped_first, sending, sent, arrives_by, arrivals, came}
use Rattle.history_model.proofs.facts.MovedLemmas.{moved_each}
use Rattle.law_lanes.proofs.order.OrderLemmas.{back_apart}

-- a lane after the claimant's part: what was sent is behind what was in flight, and what stands of each operation stands
record Sent_on (new : List Carried) (old x : LaneState) : Type 0 where
  pub flies : x.flight ≡ old.flight ++ new
  pub finds : (o : OpId) → find (is_of o) x.standing ≡ find (is_of o) old.standing

same_on : (s : LaneState) → Sent_on [] s s
same_on s = record { flies = sym (append-nil s.flight); finds = λ o. refl }

done_apart : (number : ℕ) (o : OpId) (item : Carried) → is_done_for number item ≡ true → is_of o item ≡ false
done_apart number o (Post op) passes = cc
done_apart number o (Ask op slot) passes = cc
done_apart number o (Done op slot outcome) passes = refl
done_apart number o Room passes = refl
done_apart number o (Gone slot) passes = refl

sent_apart : (world : World) (at l : BridgeLane) (o : OpId) (step : Step) → same_lane at l ≡ false → sent_to world l o step (Lane at) ≡ []
sent_apart world at l o step apart = rw apart refl

sent_here : (world : World) (l : BridgeLane) (o : OpId) (step : Step) → sent_to world l o step (Lane l) ≡ item_for (world l).held o step
sent_here world l o step = let self = same_lane_self l in rw self refl

module _ (board : Board) (h : List Event) where
  enters_sends : (on : ℕ) (by : By) (o : OpId) (step : Step) (lane : BridgeLane) → AtLane board h on by o step lane
      → Sent_on (item_for (world_of board h lane).held o step) (world_of board h lane) (enters board on by o step (both (world_of board h) lane)).here
      × Sent_on [] (world_of board h (lane_back lane)) (enters board on by o step (both (world_of board h) lane)).back
  enters_sends on by o Land lane at = absurd at.gives
  enters_sends on by o (Part phases) lane at = absurd at.gives
  enters_sends on by o (Read value) lane at = absurd at.gives
  enters_sends on by o Accept lane at = (record { flies = refl; finds = λ p. refl }, same_on (world_of board h (lane_back lane)))
  enters_sends on by o Latch lane at = (record { flies = refl; finds = λ p. refl }, same_on (world_of board h (lane_back lane)))
  enters_sends on by o (Take outcome) lane at =
      let x : Both = both (world_of board h) lane in
      let taken = at.gives.1 in
      let number : ℕ = taken.slot.number in
      let Goal : Option Slot → Type 0 = λ own. Sent_on [] x.here (slot_found own x).here × Sent_on [] x.back (slot_found own x).back in
      let there : Goal (Some taken.slot) = (
        record { flies = sym (append-nil x.here.flight); finds = λ p. refl },
        record { flies = sym (append-nil x.back.flight); finds = λ p. find-less_other (is_done_for number) (is_of p) (done_apart number p) x.back.standing },
      ) in
      subst Goal (sym taken.is_own_slot) there
  enters_sends on by o Stall lane at = absurd at.gives
  enters_sends on by o MasterAbort lane at = absurd at.gives
  enters_sends on by o TargetAbort lane at = absurd at.gives

  place_sends : (on : ℕ) (by : By) (o : OpId) (step : Step) (place : Place) → answer board h on by o ≡ Gives step place
      → (l : BridgeLane) → Sent_on (sent_to (world_of board h) l o step place) (world_of board h l) (at_place board on by o step place (world_of board h) l)
  place_sends on by o step (Target target) gives l = same_on (world_of board h l)
  place_sends on by o step (Header bus) gives l = same_on (world_of board h l)
  place_sends on by o step (Lane lane) gives l =
      let world : World = world_of board h in
      let P : BridgeLane → LaneState → Type 0 = λ l s. Sent_on (sent_to world l o step (Lane lane)) (world l) s in
      let new = enters_sends on by o step lane (answered_at board h on by o step lane gives) in
      let x : Both = enters board on by o step (both world lane) in
      let back : BridgeLane = lane_back lane in
      moved_each P (enters board on by o step) lane world
      (λ l far _. subst (λ n. Sent_on n (world l) (world l)) (sym (sent_apart world lane l o step (same_lane_symm lane l ∙ far))) (same_on (world l)))
      (subst (λ n. Sent_on n (world lane) x.here) (sym (sent_here world lane o step)) new.0)
      (subst (λ n. Sent_on n (world back) x.back) (sym (sent_apart world lane back o step (back_apart lane))) new.1)
      l
  place_sends on by o step Nobody gives l = same_on (world_of board h l)

-- what goes back for the item that a lane presented
module _ (world : World) (k : BridgeLane) (o : OpId) where
  abbrev back_by : BridgeLane → Option Outcome → List Carried
  back_by l outcome = cond (same_lane (lane_back k) l) (reply_for world o k outcome) []

  back_apart_by : (l : BridgeLane) (outcome : Option Outcome) → same_lane (lane_back k) l ≡ false → back_by l outcome ≡ []
  back_apart_by l outcome apart = rw apart refl

  none_back : (l : BridgeLane) → back_by l None ≡ []
  none_back l =
      let P : Bool → Type 0 = λ b. cond b (reply_for world o k None) [] ≡ [] in
      elim (same_lane (lane_back k) l) as P [ true ↦ refl | false ↦ refl ]

  back_here : (outcome : Option Outcome) → back_by (lane_back k) outcome ≡ reply_for world o k outcome
  back_here outcome = let self = same_lane_self (lane_back k) in rw self refl

  leaves_sends : (outcome : Option Outcome) (l : BridgeLane) → (leaves k o outcome world l).flight ≡ (world l).flight ++ back_by l outcome
  leaves_sends None l = sym (append-nil (world l).flight) ∙ ap (λ n. (world l).flight ++ n) (sym (none_back l))
  leaves_sends (Some outcome) l =
      let P : BridgeLane → LaneState → Type 0 = λ l s. s.flight ≡ (world l).flight ++ back_by l (Some outcome) in
      let same : (l : BridgeLane) → same_lane (lane_back k) l ≡ false → P l (world l) = λ l apart.
      sym (append-nil (world l).flight) ∙ ap (λ n. (world l).flight ++ n) (sym (back_apart_by l (Some outcome) apart)) in
      moved_each P (item_ends o outcome) k world
      (λ l _ far. same l (same_lane_symm (lane_back k) l ∙ far))
      (same k (same_lane_back k))
      (ap (λ n. (world (lane_back k)).flight ++ n) (sym (back_here (Some outcome))))
      l

reply_same : (old new : World) (o : OpId) (k : BridgeLane) (outcome : Option Outcome) → find (is_of o) (new k).standing ≡ find (is_of o) (old k).standing → reply_for new o k outcome ≡ reply_for old o k outcome
reply_same old new o k None same = refl
reply_same old new o k (Some outcome) same = ap (reply_to outcome) same

initiator_sends : (board : Board) (by : By) (o : OpId) (step : Step) (old new : World) → ((l : BridgeLane) → find (is_of o) (new l).standing ≡ find (is_of o) (old l).standing)
    → (l : BridgeLane) → (at_initiator board by o step new l).flight ≡ (new l).flight ++ sent_back board old l by o step
initiator_sends board Master o step old new same l = sym (append-nil (new l).flight)
initiator_sends board (ByLane k) o step old new same l =
    let outcome : Option Outcome = lane_outcome board k o step in
    leaves_sends new k o outcome l ∙ ap (λ r. (new l).flight ++ cond (same_lane (lane_back k) l) r []) (reply_same old new o k outcome (same k))

-- what was in flight and is sent is what comes off and what is in flight then
record Flown (count : ℕ) (new old x : List Carried) : Type 0 where
  off : List Carried
  many : length off ≡ count
  all : old ++ new ≡ off ++ x

stays_flown : (old new x : List Carried) → x ≡ old ++ new → Flown 0 new old x
stays_flown old new x same = record { off = []; many = refl; all = sym same }

effect_flies : (effect : Effect) (item : Carried) (x : Both) → ((takes_effect effect item x).here.flight ≡ x.here.flight) × ((takes_effect effect item x).back.flight ≡ x.back.flight ++ dropped_by effect)
effect_flies Stands item x = (refl, sym (append-nil x.back.flight))
effect_flies Credits item x = (refl, sym (append-nil x.back.flight))
effect_flies (Frees slot) item x = (refl, sym (append-nil x.back.flight))
effect_flies (Drops slot) item x = (refl, refl)

first_flies : (board : Board) (lane : BridgeLane) (mark : Mark) (flight : List Carried) (x : Both) → x.here.flight ≡ flight → mark_of_first board lane x.here flight ≡ Some mark
    → Flown 1 [] x.here.flight (arrives_first mark flight x).here.flight × ((arrives_first mark flight x).back.flight ≡ x.back.flight ++ dropped_first mark flight)
first_flies board lane mark [] x same marked = cc
first_flies board lane mark (item ∷ rest) x same marked =
    let y : Both = record x { here = came_off item rest x.here } in
    let effect : Effect = effect_of mark item in
    let new = effect_flies effect item y in
    (record { off = item ∷ []; many = refl; all = append-nil x.here.flight ∙ (same ∙ ap (λ f. item ∷ f) (sym new.0)) }, new.1)

arrives_here : (lane : BridgeLane) (mark : Mark) → arrives_by lane (Arrive lane mark) ≡ 1
arrives_here lane mark = let self = same_lane_self lane in rw self refl

arrives_apart : (at l : BridgeLane) (mark : Mark) → same_lane at l ≡ false → arrives_by l (Arrive at mark) ≡ 0
arrives_apart at l mark apart = rw apart refl

drops_apart : (board : Board) (world : World) (at l : BridgeLane) (mark : Mark) → same_lane (lane_back at) l ≡ false → sending board world l (Arrive at mark) ≡ []
drops_apart board world at l mark apart = rw apart refl

drops_here : (board : Board) (world : World) (at : BridgeLane) (mark : Mark) → sending board world (lane_back at) (Arrive at mark) ≡ dropped_first mark (world at).flight
drops_here board world at mark = let self = same_lane_self (lane_back at) in rw self refl

arrival_flies : (board : Board) (world : World) (at : BridgeLane) (mark : Mark) → mark_of_first board at (world at) (world at).flight ≡ Some mark
    → (l : BridgeLane) → Flown (arrives_by l (Arrive at mark)) (sending board world l (Arrive at mark)) (world l).flight (moved (arrives mark) at world l).flight
arrival_flies board world at mark marked l =
    let e : Event = Arrive at mark in
    let P : BridgeLane → LaneState → Type 0 = λ l s. Flown (arrives_by l e) (sending board world l e) (world l).flight s.flight in
    let x : Both = both world at in
    let y : Both = arrives mark x in
    let new = first_flies board at mark (world at).flight x refl marked in
    let back : BridgeLane = lane_back at in
    let count_of : (l : BridgeLane) (n : ℕ) (sends : List Carried) (s : List Carried) → arrives_by l e ≡ n → sending board world l e ≡ sends → Flown n sends (world l).flight s → Flown (arrives_by l e) (sending board world l e) (world l).flight s =
    λ l n sends s count is flown. subst (λ m. Flown m (sending board world l e) (world l).flight s) (sym count) (subst (λ r. Flown n r (world l).flight s) (sym is) flown) in
    moved_each P (arrives mark) at world
    (λ l far far_back. count_of l 0 [] (world l).flight (arrives_apart at l mark (same_lane_symm at l ∙ far)) (drops_apart board world at l mark (same_lane_symm back l ∙ far_back))
    (stays_flown (world l).flight [] (world l).flight (sym (append-nil (world l).flight))))
    (count_of at 1 [] y.here.flight (arrives_here at mark) (drops_apart board world at at mark (same_lane_back at)) new.0)
    (count_of back 0 (dropped_first mark (world at).flight) y.back.flight (arrives_apart at back mark (back_apart at)) (drops_here board world at mark)
    (stays_flown (world back).flight (dropped_first mark (world at).flight) y.back.flight new.1))
    l

-- each event
event_flies : (board : Board) (h : List Event) (e : Event) → Allowed board h e → (l : BridgeLane) → Flown (arrives_by l e) (sending board (world_of board h) l e) (world_of board h l).flight (world_of board (e ∷ h) l).flight
event_flies board h (Act on by o step place) allowed l =
    let world : World = world_of board h in
    let new : World = at_place board on by o step place world in
    let placed = place_sends board h on by o step place allowed.1 in
    let sends : List Carried = sent_to world l o step place in
    let replies : List Carried = sent_back board world l by o step in
    stays_flown (world l).flight (sends ++ replies) (at_initiator board by o step new l).flight
    (initiator_sends board by o step world new (λ k. (placed k).finds o) l ∙ ap (λ f. f ++ replies) (placed l).flies ∙ append_assoc (world l).flight sends replies)
event_flies board h (Arrive at mark) allowed l = arrival_flies board (world_of board h) at mark allowed l

-- what was sent is what came, as many items as arrived, and what is in flight
pub record Received (board : Board) (h : List Event) (l : BridgeLane) : Type 0 where
  pub first : List Carried
  pub many : length first ≡ arrivals l h
  pub all : sent board l h ≡ first ++ (world_of board h l).flight

pub Received-run : (board : Board) (h : List Event) → Run board h → (l : BridgeLane) → Received board h l
Received-run board [] run l = record { first = []; many = refl; all = refl }
Received-run board (e ∷ h) run l =
    let old = Received-run board h run.1 l in
    let new = event_flies board h e run.0 l in
    let sends : List Carried = sending board (world_of board h) l e in
    let was : List Carried = (world_of board h l).flight in
    let now : List Carried = (world_of board (e ∷ h) l).flight in
    record {
      first = old.first ++ new.off;
      many = omega (arith, length-append old.first new.off, old.many, new.many);
      all = ap (λ s. s ++ sends) old.all ∙ append_assoc old.first was sends ∙ ap (λ s. old.first ++ s) new.all ∙ sym (append_assoc old.first new.off now);
    }

pub came_first : (board : Board) (h : List Event) (l : BridgeLane) → (is : Received board h l) → came board l h ≡ is.first
came_first board h l is =
    let F : ℕ → List Carried → Type 0 = λ n s. take n s ≡ is.first in
    subst (λ n. F n (sent board l h)) is.many (subst (F (length is.first)) (sym is.all) (take-append_seam is.first (world_of board h l).flight))

pub sent_received : (board : Board) (h : List Event) (l : BridgeLane) → Run board h → sent board l h ≡ came board l h ++ (world_of board h l).flight
sent_received board h l run =
    let is = Received-run board h run l in
    is.all ∙ ap (λ s. s ++ (world_of board h l).flight) (sym (came_first board h l is))

pub sent_counted : (board : Board) (h : List Event) (l : BridgeLane) → Run board h → length (sent board l h) ≡ arrivals l h + length (world_of board h l).flight
sent_counted board h l run =
    let is = Received-run board h run l in
    omega (arith, ap (λ (s : List Carried). length s) is.all, length-append is.first (world_of board h l).flight, is.many)
