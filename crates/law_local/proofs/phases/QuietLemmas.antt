-- A run in which no bus of the board has anything more to do is complete.
use Rattle.std.proofs.Common.{◌≡◌, ℕ, ◌==◌, Bool, true, false, List, [], Option, Some, None, refl, sym, ap, subst, ◌∙◌, slice_get}
use Rattle.std.proofs.lemmas.Bool.{and_parts, eqb-true}
use Rattle.pci_command.specs.declared.op_id.OpId.{OpId}
use Rattle.board_model.specs.declared.bridge.Bridge.{Bridge}
use Rattle.board_model.specs.declared.bridge.Lane.{Lane as BridgeLane}
use Rattle.board_model.specs.declared.board.Board.{Board}
use Rattle.board_model.specs.Valid.{is_bus, IsValid}
use Rattle.board_model.specs.Ways.{end_of}
use Rattle.history_model.specs.declared.event.By.{By}
use Rattle.history_model.specs.declared.event.By.TheVariants.{Master, Lane as ByLane}
use Rattle.history_model.specs.declared.event.Event.{Event}
use Rattle.history_model.specs.declared.item.Carried.{Carried}
use Rattle.history_model.specs.Lanes.{LaneState, empty_lane}
use Rattle.history_model.specs.World.{world_of}
use Rattle.history_model.specs.Program.{turn_of}
use Rattle.history_model.specs.Answers.{is_on, is_turn, presents, wants, bridge_to}
use Rattle.history_model.specs.Runs.{Complete}
use Rattle.law_lanes.proofs.Laws.{Quiet-empty, run_no_bridge}
use Rattle.law_local.specs.Known.{events_on, known}
use Rattle.law_local.specs.Quiet.{IsQuiet}
use Rattle.law_local.proofs.Laws.{wants_local, quiet_complete, IsFit-valid}
use Rattle.law_local.specs.phases.Pasts.{RunSoFar}
use Rattle.law_local.specs.phases.Taken.{BusesAreQuiet}
use Rattle.law_local.proofs.phases.BusLemmas.{not_there, end_is_bus, master_is_there}

module _ (board : Board) (valid : IsValid board) (sent : BridgeLane → List Carried) (h : List Event) (so_far : RunSoFar board sent h) where
  -- nothing is on a lane of no bridge
  pub empty : (lane : BridgeLane) → bridge_to board lane.bus ≡ None → world_of board h lane ≡ empty_lane
  empty lane missing = Quiet-empty board h lane (run_no_bridge board lane.bus h missing so_far.joint.run)

  -- nothing comes to a bus that the board lacks
  none_comes : (bus : ℕ) → is_bus board bus ≡ false → (lane : BridgeLane) → end_of board lane ≡ bus → (known board sent bus h lane).flight ≡ []
  none_comes bus lacks lane ends =
      let G : ℕ → Type 0 = λ n. (known board sent n h lane).flight ≡ [] in
      let P : Option Bridge → Type 0 = λ found. bridge_to board lane.bus ≡ found → G (end_of board lane) in
      subst G ends ((elim (bridge_to board lane.bus) as P [
        | None ↦ λ missing. sym (so_far.all_sent lane) ∙ ap (λ (s : LaneState). s.flight) (empty lane missing)
        | Some bridge ↦ λ some. absurd (not_there board bus (end_of board lane) lacks (end_is_bus board valid.buses lane bridge some) ends)
      ]) refl)

  -- and nothing is presented there
  none_wanted : (bus : ℕ) → is_bus board bus ≡ false → (by : By) (o : OpId) → wants board h bus by o ≡ true → ⊥
  none_wanted bus lacks Master o wanted =
      let on = (and_parts (is_on bus (slice_get board.masters o.master)) (is_turn o (turn_of board h o.master)) wanted).0 in
      not_there board bus bus lacks (master_is_there board valid.buses o.master bus (slice_get board.masters o.master) refl on) refl
  none_wanted bus lacks (ByLane lane) o wanted =
      let parts = and_parts (end_of board lane == bus) (presents board bus o (world_of board h lane).standing) wanted in
      let P : Option Bridge → Type 0 = λ found. bridge_to board lane.bus ≡ found → ⊥ in
      (elim (bridge_to board lane.bus) as P [
        | None ↦ λ missing. let wrong : false ≡ true = subst (λ (s : LaneState). presents board bus o s.standing ≡ true) (empty lane missing) parts.1 in cc
        | Some bridge ↦ λ some. not_there board bus (end_of board lane) lacks (end_is_bus board valid.buses lane bridge some) (eqb-true (end_of board lane) bus parts.0)
      ]) refl

  quiet_at : BusesAreQuiet board sent h → (bus : ℕ) → IsQuiet board bus (known board sent bus h) (events_on board bus h)
  quiet_at quiet bus =
      let P : Bool → Type 0 = λ b. is_bus board bus ≡ b → IsQuiet board bus (known board sent bus h) (events_on board bus h) in
      (elim (is_bus board bus) as P [
        | true ↦ λ there. quiet bus there
        | false ↦ λ lacks. record {
          nothing_comes = none_comes bus lacks;
          retried = λ by o wanted. absurd (none_wanted bus lacks by o (wants_local board sent h bus so_far.joint.joint so_far.joint.run by o ∙ wanted));
        }
      ]) refl

  pub buses_complete : BusesAreQuiet board sent h → Complete board h
  buses_complete quiet = quiet_complete board (IsFit-valid board valid) sent h so_far.joint.joint so_far.joint.run valid (quiet_at quiet)
