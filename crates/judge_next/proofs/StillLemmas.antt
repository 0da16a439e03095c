-- A bus that stays as it was has the same first act.
use Rattle.std.proofs.Common.{◌≡◌, ℕ, Bool, true, false, cond, eqb, List, length, Option, Some, None, refl, sym, ap, ◌∙◌, slice_get}
use Rattle.std.specs.Option.{option_or}
use Rattle.std.proofs.lemmas.Bool.{eqb-true, and_parts}
use Rattle.pci_command.specs.declared.op_id.OpId.{OpId}
use Rattle.board_model.specs.declared.board.Board.{Board}
use Rattle.board_model.specs.declared.bridge.Lane.{Lane as BridgeLane}
use Rattle.board_model.specs.Valid.{has_bridge_to}
use Rattle.board_model.specs.Ways.{end_of}
use Rattle.history_model.specs.declared.event.By.{By}
use Rattle.history_model.specs.declared.event.By.TheVariants.{Master, Lane as ByLane}
use Rattle.history_model.specs.declared.event.Event.{Event}
use Rattle.history_model.specs.declared.item.Carried.{Carried}
use Rattle.history_model.specs.declared.item.Carried.TheVariants.{Post, Ask, Done, Room, Gone}
use Rattle.history_model.specs.World.{world_of}
use Rattle.history_model.specs.Program.{turn_of}
use Rattle.history_model.specs.Answers.{is_on, wants, answer}
use Rattle.law_local.specs.Stays.{Stays}
use Rattle.history_model.specs.Next.{first_in, first_bus, down_to, up_from, ends_on, given_on, first_lane, act_given, act_of, act_of_item, act_of_lane, act_of_turn, act_of_masters, act_on}
use Rattle.judge_next.proofs.LineLemmas.{first_in_same, first_below_same, first_bus_same, not_here}

module _ (board : Board) (bus : ℕ) (h later : List Event) (stays : Stays board bus h later) where
  act_stays : (by : By) (o : OpId) → act_of board later bus by o ≡ act_of board h bus by o
  act_stays by o =
      let P : Bool → Type 0 = λ b. wants board h bus by o ≡ b → cond b (act_given bus by o (answer board later bus by o)) None ≡ cond b (act_given bus by o (answer board h bus by o)) None in
      ap (λ b. cond b (act_given bus by o (answer board later bus by o)) None) (stays.wanted by o)
      ∙ (elim (wants board h bus by o) as P [
        | true ↦ λ wanted. ap (act_given bus by o) (stays.answered by o wanted)
        | false ↦ λ _. refl
      ]) refl

  item_stays : (lane : BridgeLane) (item : Carried) → act_of_item board later bus lane item ≡ act_of_item board h bus lane item
  item_stays lane (Post o) = act_stays (ByLane lane) o
  item_stays lane (Ask o slot) = act_stays (ByLane lane) o
  item_stays lane (Done o slot outcome) = refl
  item_stays lane Room = refl
  item_stays lane (Gone slot) = refl

  lane_stays : (lane : BridgeLane) → given_on board bus (act_of_lane board later bus) lane ≡ given_on board bus (act_of_lane board h bus) lane
  lane_stays lane =
      let P : Bool → Type 0 = λ b. ends_on board bus lane ≡ b → cond b (act_of_lane board later bus lane) None ≡ cond b (act_of_lane board h bus lane) None in
      (elim (ends_on board bus lane) as P [
        | true ↦ λ there.
            let ends : end_of board lane ≡ bus = eqb-true (end_of board lane) bus (and_parts (has_bridge_to board lane.bus) (eqb (end_of board lane) bus) there).1 in
            ap (first_in (act_of_item board later bus lane)) (stays.standing lane ends)
            ∙ first_in_same (act_of_item board later bus lane) (act_of_item board h bus lane) (item_stays lane) (world_of board h lane).standing
        | false ↦ λ _. refl
      ]) refl

  lanes_stay : first_lane board bus (act_of_lane board later bus) ≡ first_lane board bus (act_of_lane board h bus)
  lanes_stay =
      let later_lane : BridgeLane → Option Event = given_on board bus (act_of_lane board later bus) in
      let lane : BridgeLane → Option Event = given_on board bus (act_of_lane board h bus) in
      ap (λ a. option_or a (first_bus (λ child. later_lane (up_from child)))) (lane_stays (down_to bus))
      ∙ ap (option_or (lane (down_to bus))) (first_bus_same (λ child. later_lane (up_from child)) (λ child. lane (up_from child)) (λ child. lane_stays (up_from child)))

  turn_stays : (turn : Option OpId) → act_of_turn board later bus turn ≡ act_of_turn board h bus turn
  turn_stays None = refl
  turn_stays (Some o) = act_stays Master o

  master_stays : (m : ℕ) → act_of_turn board later bus (turn_of board later m) ≡ act_of_turn board h bus (turn_of board h m)
  master_stays m =
      let P : Bool → Type 0 = λ b. is_on bus (slice_get board.masters m) ≡ b → act_of_turn board later bus (turn_of board later m) ≡ act_of_turn board h bus (turn_of board h m) in
      (elim (is_on bus (slice_get board.masters m)) as P [
        | true ↦ λ here. ap (act_of_turn board later bus) (stays.turns m here) ∙ turn_stays (turn_of board h m)
        | false ↦ λ other. not_here board later bus m other ∙ sym (not_here board h bus m other)
      ]) refl

  pub act_on_stays : act_on board later bus ≡ act_on board h bus
  act_on_stays =
      let masters = first_below_same (λ m. act_of_turn board later bus (turn_of board later m)) (λ m. act_of_turn board h bus (turn_of board h m)) master_stays (length board.masters) in
      ap (λ a. option_or a (act_of_masters board later bus)) lanes_stay ∙ ap (option_or (first_lane board bus (act_of_lane board h bus))) masters
