-- A local run keeps the bus's side of each of its bridges.
use Rattle.std.proofs.Common.{◌≡◌, ◌≢◌, ℕ, true, ◌==◌, List, [], ◌∷◌, Option, Some, None, refl, sym, ap, subst, ◌∙◌, arith}
use Rattle.std.proofs.lemmas.Bool.{eqb-true, and_parts}
use Rattle.list_facts.specs.Lists.{total}
use Rattle.pci_command.specs.declared.op_id.OpId.{OpId}
use Rattle.pci_command.specs.declared.op_id.Outcome.{Outcome}
use Rattle.board_model.specs.declared.bridge.Lane.{Lane as BridgeLane}
use Rattle.board_model.specs.declared.bridge.Place.{Place}
use Rattle.board_model.specs.declared.bridge.Place.TheVariants.{Target, Header, Lane, Nobody}
use Rattle.board_model.specs.declared.board.Board.{Board}
use Rattle.board_model.specs.Ways.{start_of, end_of, lane_back}
use Rattle.history_model.specs.declared.event.By.{By}
use Rattle.history_model.specs.declared.event.By.TheVariants.{Master, Lane as ByLane}
use Rattle.history_model.specs.declared.event.Event.{Event}
use Rattle.history_model.specs.declared.event.Event.TheVariants.{Act, Arrive}
use Rattle.history_model.specs.declared.event.Mark.{Mark}
use Rattle.history_model.specs.declared.event.Step.{Step}
use Rattle.history_model.specs.declared.item.Carried.{Carried}
use Rattle.history_model.specs.declared.item.Answer.TheVariants.{Gives}
use Rattle.history_model.specs.Lanes.{Both, item_ends, arrives}
use Rattle.history_model.specs.World.{World, both, moved, enters, at_place, lane_outcome, leaves, at_initiator}
use Rattle.history_model.specs.Answers.{presents, wants_in, answer_in}
use Rattle.history_model.specs.Local.{bus_of, local_world, AllowedLocally, LocalRun}
use Rattle.history_model.proofs.facts.AnswerLemmas.{answered_in}
use Rattle.history_model.proofs.facts.BridgeLemmas.{flip, both_back, moved_keeps}
use Rattle.law_local.proofs.Laws.{IsFit, place_apart, end_back}
use Rattle.law_lanes.specs.Credits.{post_count, room_count}
use Rattle.law_local.specs.room.Sides.{ask_count, answer_count, Side, HasDepths}
use Rattle.law_local.proofs.room.MoveLemmas.{ends_side, arrives_side, enters_side}

module _ (board : Board) (fit : IsFit board) (bus posted delayed : ℕ) (came : BridgeLane → List Carried) where
  -- the bus keeps its side of the bridge of a lane that begins there and ends elsewhere
  abbrev Keeps : BridgeLane → Both → Type 0
  Keeps lane x =
      HasDepths board lane posted delayed → start_of board lane ≡ bus → end_of board lane ≢ bus → came lane ≡ [] → Side posted delayed (came (lane_back lane)) x

  -- nothing is said of a lane that ends on the bus
  ends_here : (lane : BridgeLane) (x : Both) → end_of board lane ≡ bus → Keeps lane x
  ends_here lane x ends = λ depths starts apart none. absurd (apart ends)

  -- a move of a lane that ends on the bus, seen from the lane back
  back_move : (lane : BridgeLane) (move : Both → Both) (w : World) → end_of board lane ≡ bus
      → ((x : Both) (all : List Carried) → x ≡ both w lane → Side posted delayed all (flip x) → Side posted delayed all (flip (move x)))
      → ((l : BridgeLane) → Keeps l (both w l)) → Keeps (lane_back lane) (flip (move (both w lane)))
  back_move lane move w ends keeps old = λ depths starts apart none.
      let back : BridgeLane = lane_back lane in
      let all : List Carried = came (lane_back back) in
      keeps (both w lane) all refl (subst (Side posted delayed all) (both_back w lane) (old back depths starts apart none))

  place_keeps : (w : World) (p : List Event) (by : By) (o : OpId) (step : Step) (place : Place) → answer_in board w p bus by o ≡ Gives step place → ((l : BridgeLane) → Keeps l (both w l))
      → (l : BridgeLane) → Keeps l (both (at_place board bus by o step place w) l)
  place_keeps w p by o step (Target target) gives old = old
  place_keeps w p by o step (Header number) gives old = old
  place_keeps w p by o step (Lane lane) gives old =
      let at = answered_in board w p bus by o step lane gives in
      let there = place_apart board fit w p bus by o step (Lane lane) gives lane refl in
      moved_keeps Keeps (enters board bus by o step) lane w old
      (λ depths starts apart none. enters_side posted delayed (came (lane_back lane)) board w p bus by o step lane depths at (old lane depths starts apart none))
      (ends_here (lane_back lane) (flip (enters board bus by o step (both w lane))) (end_back board lane ∙ there.0))
  place_keeps w p by o step Nobody gives old = old

  leaves_keeps : (w : World) (lane : BridgeLane) (o : OpId) (outcome : Option Outcome) → end_of board lane ≡ bus → ((l : BridgeLane) → Keeps l (both w l))
      → (l : BridgeLane) → Keeps l (both (leaves lane o outcome w) l)
  leaves_keeps w lane o None ends old = old
  leaves_keeps w lane o (Some outcome) ends old =
      let move : Both → Both = item_ends o outcome in
      moved_keeps Keeps move lane w old
      (ends_here lane (move (both w lane)) ends)
      (back_move lane move w ends (λ x all _ side. ends_side posted delayed all o outcome x side) old)

  initiator_keeps : (w : World) (by : By) (o : OpId) (step : Step) → ((lane : BridgeLane) → by ≡ ByLane lane → end_of board lane ≡ bus) → ((l : BridgeLane) → Keeps l (both w l))
      → (l : BridgeLane) → Keeps l (both (at_initiator board by o step w) l)
  initiator_keeps w Master o step ends old = old
  initiator_keeps w (ByLane lane) o step ends old = leaves_keeps w lane o (lane_outcome board lane o step) (ends lane refl) old

  arrive_keeps : (w : World) (lane : BridgeLane) (mark : Mark) → end_of board lane ≡ bus → ((l : BridgeLane) → Keeps l (both w l))
      → (l : BridgeLane) → Keeps l (both (moved (arrives mark) lane w) l)
  arrive_keeps w lane mark ends old =
      moved_keeps Keeps (arrives mark) lane w old
      (ends_here lane (arrives mark (both w lane)) ends)
      (back_move lane (arrives mark) w ends (λ x all _ side. arrives_side posted delayed all mark x.here.flight x refl side) old)

  event_keeps : (p : List Event) (e : Event) → bus_of board e ≡ bus → AllowedLocally board came p e → ((l : BridgeLane) → Keeps l (both (local_world board came p) l))
      → (l : BridgeLane) → Keeps l (both (local_world board came (e ∷ p)) l)
  event_keeps p (Act on by o step place) is allowed old =
      let w : World = local_world board came p in
      let A : ℕ → Type 0 = λ n. AllowedLocally board came p (Act n by o step place) in
      let G : ℕ → Type 0 = λ n. (l : BridgeLane) → Keeps l (both (local_world board came (Act n by o step place ∷ p)) l) in
      let here : A bus = subst A is allowed in
      let presents_at : (lane : BridgeLane) → by ≡ ByLane lane → end_of board lane ≡ bus =
      λ lane same.
      let wanted = subst (λ (b : By). wants_in board w p bus b o ≡ true) same here.0 in
      eqb-true (end_of board lane) bus (and_parts (end_of board lane == bus) (presents board bus o (w lane).standing) wanted).0 in
      let done : G bus = initiator_keeps (at_place board bus by o step place w) by o step presents_at (place_keeps w p by o step place here.1 old) in
      subst G (sym is) done
  event_keeps p (Arrive lane mark) is allowed old = arrive_keeps (local_world board came p) lane mark is old

  pub run_keeps : (p : List Event) → LocalRun board bus came p → (l : BridgeLane) → Keeps l (both (local_world board came p) l)
  run_keeps [] run l = λ depths starts apart none.
      let all : List Carried = came (lane_back l) in
      let here : (f : Carried → ℕ) → total f (came l) ≡ 0 = λ f. ap (total f) none in
      record {
        posts = omega (arith, here post_count);
        rooms = omega (arith, here room_count);
        asks = omega (arith, here ask_count);
        answers = omega (arith, here answer_count);
        few_owed = omega arith;
        few_held = omega arith;
      }
  run_keeps (e ∷ p) run l = event_keeps p e run.0 run.1 (run_keeps p run.2) l
