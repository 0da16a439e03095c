-- After an event of a bus only more is in flight on the lanes that begin there, and on those that end there what arrived
-- and what is in flight are all that comes.
use Rattle.std.proofs.Common.{◌≡◌, ◌≢◌, ℕ, suc, ◌+◌, Bool, true, false, cond, ◌==◌, List, [], ◌∷◌, ◌++◌, length, Option, Some, None, refl, sym, ap, subst, ◌∙◌, arith}
use Rattle.std.proofs.lemmas.Bool.{eqb-true, and_parts}
use Rattle.std.proofs.lemmas.List.{append-nil, append_assoc}
use Rattle.pci_command.specs.declared.op_id.OpId.{OpId}
use Rattle.pci_command.specs.declared.op_id.Outcome.{Outcome}
use Rattle.board_model.specs.declared.bridge.Lane.{Lane as BridgeLane}
use Rattle.board_model.specs.declared.bridge.Place.{Place}
use Rattle.board_model.specs.declared.bridge.Place.TheVariants.{Target, Header, Lane, Nobody}
use Rattle.board_model.specs.declared.board.Board.{Board}
use Rattle.board_model.specs.Ways.{start_of, end_of, lane_back}
use Rattle.history_model.specs.declared.event.By.{By}
use Rattle.history_model.specs.declared.event.By.TheVariants.{Master, Lane as ByLane}
use Rattle.history_model.specs.declared.event.Mark.{Mark}
use Rattle.history_model.specs.declared.event.Step.{Step}
use Rattle.history_model.specs.declared.event.Event.{Event}
use Rattle.history_model.specs.declared.event.Event.TheVariants.{Act, Arrive}
use Rattle.history_model.specs.declared.item.Carried.{Carried}
use Rattle.history_model.specs.Lanes.{LaneState, Both, item_ends, effect_of, came_off, arrives_first, arrives}
use Rattle.history_model.specs.World.{World, same_lane, both, moved, enters, at_place, leaves, lane_outcome, at_initiator}
use Rattle.history_model.specs.Answers.{presents, wants_in}
use Rattle.history_model.specs.Runs.{mark_of_first, next_mark_in}
use Rattle.history_model.specs.Local.{bus_of, local_world, AllowedLocally, LocalRun}
use Rattle.law_lanes.specs.order.Sent.{arrives_by, arrivals}
use Rattle.law_local.proofs.JointLemmas.{start_back, moved_here, moved_back, moved_other, by_lanes}
use Rattle.law_local.proofs.EventLemmas.{Grows, initiator_grows}
use Rattle.law_local.proofs.ApartLemmas.{IsFit, IsApart, place_apart}
use Rattle.law_local.proofs.FlightLemmas.{enters_flight, none_grow, effect_flight, arrives_back}
use Rattle.history_model.proofs.facts.BridgeLemmas.{same_lane_true, same_lane_self, same_lane_symm}

-- one after the other
grows_then : (a b c : LaneState) → Grows a b → Grows b c → Grows a c
grows_then a b c first second = record {
  items = first.items ++ second.items;
  grown = second.grown ∙ (ap (λ flight. flight ++ second.items) first.grown ∙ append_assoc a.flight first.items second.items);
}

module _ (board : Board) (fit : IsFit board) where
  -- a lane that begins on the bus only grows
  place_grows : (w : World) (bus : ℕ) (by : By) (o : OpId) (step : Step) (place : Place) (l : BridgeLane) → ((k : BridgeLane) → place ≡ Lane k → start_of board k ≡ bus) → Grows (w l) (at_place board bus by o step place w l)
  place_grows w bus by o step (Target t) l begins = none_grow (w l)
  place_grows w bus by o step (Header n) l begins = none_grow (w l)
  place_grows w bus by o step (Lane k) l begins =
      let move : Both → Both = enters board bus by o step in
      let flight = enters_flight board bus by o step (both w k) in
      let Goal : BridgeLane → Type 0 = λ l. Grows (w l) (moved move k w l) in
      by_lanes Goal k (subst (Grows (w k)) (sym (moved_here move k w)) flight.0)
      (subst (Grows (w (lane_back k))) (sym (moved_back move k w)) record { items = []; grown = flight.1 ∙ sym (append-nil (w (lane_back k)).flight) })
      (λ m apart apart_back. subst (Grows (w m)) (sym (moved_other move k w m apart apart_back)) (none_grow (w m))) l
  place_grows w bus by o step Nobody l begins = none_grow (w l)

  -- an arrival on another lane
  arrive_grows : (w : World) (lane l : BridgeLane) (mark : Mark) → same_lane l lane ≡ false → Grows (w l) (moved (arrives mark) lane w l)
  arrive_grows w lane l mark apart =
      let Goal : BridgeLane → Type 0 = λ m. same_lane m lane ≡ false → Grows (w m) (moved (arrives mark) lane w m) in
      by_lanes Goal lane (λ wrong. let self = same_lane_self lane in let no : true ≡ false = sym self ∙ wrong in cc)
      (λ _. subst (Grows (w (lane_back lane))) (sym (moved_back (arrives mark) lane w)) (arrives_back mark (w lane).flight (both w lane)))
      (λ m differ differ_back _. subst (Grows (w m)) (sym (moved_other (arrives mark) lane w m differ differ_back)) (none_grow (w m))) l apart

  -- lanes that begin and end on a bus differ
  differ_lanes : (bus : ℕ) (l lane : BridgeLane) → start_of board l ≡ bus → end_of board lane ≡ bus → end_of board lane ≢ start_of board lane → same_lane l lane ≡ false
  differ_lanes bus l lane starts ends apart =
      let P : Bool → Type 0 = λ b. same_lane l lane ≡ b → b ≡ false in
      (elim (same_lane l lane) as P [
        | true ↦ λ same. let one : l ≡ lane = same_lane_true l lane same in absurd (apart (ends ∙ (sym starts ∙ ap (start_of board) one)))
        | false ↦ λ _. refl
      ]) refl

  -- after an event of the bus only more is in flight on a lane that begins there
  pub event_grows : (came : BridgeLane → List Carried) (p : List Event) (e : Event) (bus : ℕ) (l : BridgeLane) → bus_of board e ≡ bus → AllowedLocally board came p e → IsApart board e → start_of board l ≡ bus
      → Grows (local_world board came p l) (local_world board came (e ∷ p) l)
  event_grows came p (Act at by o step place) bus l is allowed apart starts =
      let w : World = local_world board came p in
      let begins : (k : BridgeLane) → place ≡ Lane k → start_of board k ≡ at = λ k same. (place_apart board fit w p at by o step place allowed.1 k same).0 in
      let mid : World = at_place board at by o step place w in
      grows_then (w l) (mid l) (at_initiator board by o step mid l) (place_grows w at by o step place l begins) (initiator_grows board by o step mid l)
  event_grows came p (Arrive lane mark) bus l is allowed apart starts =
      arrive_grows (local_world board came p) lane l mark (differ_lanes bus l lane starts is apart)

  -- a lane that ends on the bus, and what its own events leave in flight there
  place_keeps : (w : World) (bus : ℕ) (by : By) (o : OpId) (step : Step) (place : Place) (l : BridgeLane) → end_of board l ≡ bus → end_of board l ≢ start_of board l
      → ((k : BridgeLane) → place ≡ Lane k → start_of board k ≡ bus) → (at_place board bus by o step place w l).flight ≡ (w l).flight
  place_keeps w bus by o step (Target t) l ends apart begins = refl
  place_keeps w bus by o step (Header n) l ends apart begins = refl
  place_keeps w bus by o step (Lane k) l ends apart begins =
      let move : Both → Both = enters board bus by o step in
      let Goal : BridgeLane → Type 0 = λ m. end_of board m ≡ bus → end_of board m ≢ start_of board m → (moved move k w m).flight ≡ (w m).flight in
      by_lanes Goal k (λ here differ. absurd (differ (here ∙ sym (begins k refl))))
      (λ _ _. ap (λ (s : LaneState). s.flight) (moved_back move k w) ∙ (enters_flight board bus by o step (both w k)).1)
      (λ m differ differ_back _ _. ap (λ (s : LaneState). s.flight) (moved_other move k w m differ differ_back)) l ends apart
  place_keeps w bus by o step Nobody l ends apart begins = refl

  -- an item that left a lane that ends on the bus leaves alone what is in flight to the bus
  leaves_keeps : (w : World) (bus : ℕ) (j : BridgeLane) (o : OpId) (outcome : Option Outcome) (l : BridgeLane) → end_of board l ≡ bus → end_of board l ≢ start_of board l → end_of board j ≡ bus
      → (leaves j o outcome w l).flight ≡ (w l).flight
  leaves_keeps w bus j o None l ends apart at = refl
  leaves_keeps w bus j o (Some outcome) l ends apart at =
      let move : Both → Both = item_ends o outcome in
      let Goal : BridgeLane → Type 0 = λ m. end_of board m ≡ bus → end_of board m ≢ start_of board m → (moved move j w m).flight ≡ (w m).flight in
      by_lanes Goal j (λ _ _. ap (λ (s : LaneState). s.flight) (moved_here move j w))
      (λ here differ. absurd (differ (here ∙ (sym at ∙ sym (start_back board j)))))
      (λ m differ differ_back _ _. ap (λ (s : LaneState). s.flight) (moved_other move j w m differ differ_back)) l ends apart

  -- so does all that an event does at its initiator
  initiator_keeps : (w : World) (bus : ℕ) (by : By) (o : OpId) (step : Step) (l : BridgeLane) → end_of board l ≡ bus → end_of board l ≢ start_of board l → ((j : BridgeLane) → by ≡ ByLane j → end_of board j ≡ bus)
      → (at_initiator board by o step w l).flight ≡ (w l).flight
  initiator_keeps w bus Master o step l ends apart at = refl
  initiator_keeps w bus (ByLane j) o step l ends apart at = leaves_keeps w bus j o (lane_outcome board j o step) l ends apart (at j refl)

  -- an arrival takes one item off what is in flight
  first_flight : (mark : Mark) (flight : List Carried) (x : Both) → flight ≢ [] → x.here.flight ≡ flight → suc (length (arrives_first mark flight x).here.flight) ≡ length flight
  first_flight mark [] x some is = absurd (some refl)
  first_flight mark (item ∷ rest) x some is = ap (λ (l : List Carried). suc (length l)) (effect_flight (effect_of mark item) item (record x { here = came_off item rest x.here })).0

  -- something arrives only where something is in flight
  some_in_flight : (lane : BridgeLane) (s : LaneState) (flight : List Carried) (mark : Mark) → mark_of_first board lane s flight ≡ Some mark → flight ≢ []
  some_in_flight lane s [] mark is = λ _. let wrong : None ≡ Some mark = is in cc
  some_in_flight lane s (item ∷ rest) mark is = λ none. cc

  -- what arrived and what is in flight are all that comes
  arrive_counts : (w : World) (lane l : BridgeLane) (mark : Mark) (bus : ℕ) → end_of board l ≡ bus → end_of board lane ≡ bus → end_of board l ≢ start_of board l → next_mark_in board w lane ≡ Some mark
      → arrives_by l (Arrive lane mark) + length (moved (arrives mark) lane w l).flight ≡ length (w l).flight
  arrive_counts w lane l mark bus ends at apart marked =
      let C : Bool → ℕ = λ b. cond b 1 0 in
      let Goal : BridgeLane → Type 0 = λ m. end_of board m ≡ bus → end_of board m ≢ start_of board m → C (same_lane lane m) + length (moved (arrives mark) lane w m).flight ≡ length (w m).flight in
      let some : (w lane).flight ≢ [] = some_in_flight lane (w lane) (w lane).flight mark marked in
      by_lanes Goal lane
      (λ _ _.
      let self : C (same_lane lane lane) ≡ 1 = ap C (same_lane_self lane) in
      let here : length (moved (arrives mark) lane w lane).flight ≡ length (arrives mark (both w lane)).here.flight = ap (λ (s : LaneState). length s.flight) (moved_here (arrives mark) lane w) in
      let off = first_flight mark (w lane).flight (both w lane) some refl in
      omega (arith, self, here, off))
      (λ here differ. absurd (differ (here ∙ (sym at ∙ sym (start_back board lane)))))
      (λ m differ differ_back _ _.
      let none : C (same_lane lane m) ≡ 0 = ap C (same_lane_symm lane m ∙ differ) in
      let kept : length (moved (arrives mark) lane w m).flight ≡ length (w m).flight = ap (λ (s : LaneState). length s.flight) (moved_other (arrives mark) lane w m differ differ_back) in
      omega (arith, none, kept)) l ends apart

  -- an event of the bus: an arrival takes one item off what is in flight to the bus, and an act none
  event_counts : (came : BridgeLane → List Carried) (p : List Event) (e : Event) (bus : ℕ) (l : BridgeLane) → bus_of board e ≡ bus → AllowedLocally board came p e → end_of board l ≡ bus → end_of board l ≢ start_of board l
      → arrives_by l e + length (local_world board came (e ∷ p) l).flight ≡ length (local_world board came p l).flight
  event_counts came p (Act at by o step place) bus l is allowed ends apart =
      let w : World = local_world board came p in
      let mid : World = at_place board at by o step place w in
      let here : end_of board l ≡ at = ends ∙ sym is in
      let begins : (k : BridgeLane) → place ≡ Lane k → start_of board k ≡ at = λ k same. (place_apart board fit w p at by o step place allowed.1 k same).0 in
      let presents_at : (j : BridgeLane) → by ≡ ByLane j → end_of board j ≡ at =
      λ j same.
      let wanted = subst (λ b. wants_in board w p at b o ≡ true) same allowed.0 in
      eqb-true (end_of board j) at (and_parts (end_of board j == at) (presents board at o (w j).standing) wanted).0 in
      let kept : length (at_initiator board by o step mid l).flight ≡ length (w l).flight = ap length (initiator_keeps mid at by o step l here apart presents_at ∙ place_keeps w at by o step place l here apart begins) in
      omega (arith, kept)
  event_counts came p (Arrive lane mark) bus l is allowed ends apart = arrive_counts (local_world board came p) lane l mark bus ends is apart allowed

  -- so in a local run what arrived on a lane that ends on the bus and what is in flight there are all that comes
  pub all_counted : (came : BridgeLane → List Carried) (bus : ℕ) (l : BridgeLane) → end_of board l ≡ bus → end_of board l ≢ start_of board l → (p : List Event) → LocalRun board bus came p
      → arrivals l p + length (local_world board came p l).flight ≡ length (came l)
  all_counted came bus l ends apart [] run = omega arith
  all_counted came bus l ends apart (e ∷ p) run =
      let old = all_counted came bus l ends apart p run.2 in
      let one = event_counts came p e bus l run.0 run.1 ends apart in
      omega (arith, old, one)
