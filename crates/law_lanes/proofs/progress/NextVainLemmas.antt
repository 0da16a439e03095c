-- Where the look for a next event finds none, no event is allowed.
use Rattle.std.proofs.Common.{◌≡◌, ℕ, ◌<◌, Bool, true, false, cond, List, [], ◌∷◌, length, Option, Some, None, refl, sym, subst}
use Rattle.std.specs.List.{find}
use Rattle.pci_command.specs.declared.op_id.OpId.{OpId}
use Rattle.board_model.specs.declared.bridge.Bridge.{Bridge}
use Rattle.board_model.specs.declared.bridge.Lane.{Lane as BridgeLane}
use Rattle.board_model.specs.declared.bridge.Place.{Place}
use Rattle.board_model.specs.declared.board.Board.{Board}
use Rattle.board_model.specs.Ways.{end_of}
use Rattle.history_model.specs.declared.event.By.{By}
use Rattle.history_model.specs.declared.event.By.TheVariants.{Master, Lane as ByLane}
use Rattle.history_model.specs.declared.event.Mark.{Mark}
use Rattle.history_model.specs.declared.event.Step.{Step}
use Rattle.history_model.specs.declared.event.Event.{Event}
use Rattle.history_model.specs.declared.event.Event.TheVariants.{Act, Arrive}
use Rattle.history_model.specs.declared.item.Carried.{Carried}
use Rattle.history_model.specs.declared.item.Carried.TheVariants.{Post, Ask, Done, Room, Gone}
use Rattle.history_model.specs.declared.item.Answer.{Answer}
use Rattle.history_model.specs.declared.item.Answer.TheVariants.{Gives}
use Rattle.history_model.specs.Lanes.{LaneState, empty_lane, is_of}
use Rattle.history_model.specs.World.{world_of}
use Rattle.history_model.specs.Program.{turn_of}
use Rattle.history_model.specs.Answers.{bridge_to, presents, wants, answer}
use Rattle.history_model.specs.Runs.{Run, Allowed, mark_of_first, next_mark}
use Rattle.history_model.proofs.facts.RequestLemmas.{same_op_true}
use Rattle.law_lanes.proofs.progress.ArrivalLemmas.{no_bridge_empty}
use Rattle.board_model.specs.Fits.{BoardFits}
use Rattle.history_model.specs.Next.{first_in, first_lane, arrival_of, arrival_at, first_arrival, act_given, act_of, act_of_item, act_of_lane, act_of_turn, act_of_masters, act_on, first_act, next_of}
use Rattle.law_lanes.proofs.progress.NextNoneLemmas.{or_none_both, below_none, bus_gives_none, IsOnBoard, IsOnBoard-found, lanes_give_none}
use Rattle.law_lanes.proofs.progress.NextWantLemmas.{presents_some, at_master, master_bus, master_wants, lane_wants}

module _ (board : Board) (h : List Event) (run : Run board h) where
  -- where a lane looks for an act of each item in vain, one that it presents has none
  item_none : (on : ℕ) (lane : BridgeLane) (o : OpId) (item : Carried) (xs : List Carried) → first_in (act_of_item board h on lane) xs ≡ None → find (is_of o) xs ≡ Some item → act_of board h on (ByLane lane) o ≡ None
  item_none on lane o item [] none found = cc
  item_none on lane o item (x ∷ xs) none found =
      let both = or_none_both (act_of_item board h on lane x) (first_in (act_of_item board h on lane) xs) none in
      let P : Bool → Type 0 = λ b. is_of o x ≡ b → cond b (Some x) (find (is_of o) xs) ≡ Some item → act_of board h on (ByLane lane) o ≡ None in
      (elim (is_of o x) as P [
        | true ↦ λ passes _. of_item x passes both.0
        | false ↦ λ _ later. item_none on lane o item xs both.1 later
      ]) refl found
    where
      -- an item of the operation has none
      of_item : (x : Carried) → is_of o x ≡ true → act_of_item board h on lane x ≡ None → act_of board h on (ByLane lane) o ≡ None
      of_item (Post p) passes none = subst (λ (q : OpId). act_of board h on (ByLane lane) q ≡ None) (sym (same_op_true o p passes)) none
      of_item (Ask p slot) passes none = subst (λ (q : OpId). act_of board h on (ByLane lane) q ≡ None) (sym (same_op_true o p passes)) none
      of_item (Done p slot outcome) passes none = cc
      of_item Room passes none = cc
      of_item (Gone slot) passes none = cc

  -- an act that is presented and answered is there
  act_there : (on : ℕ) (by : By) (o : OpId) (step : Step) (place : Place) → wants board h on by o ≡ true → answer board h on by o ≡ Gives step place → act_of board h on by o ≡ None → ⊥
  act_there on by o step place wanted gives none =
      let asked : act_given on by o (answer board h on by o) ≡ None = subst (λ (b : Bool). cond b (act_given on by o (answer board h on by o)) None ≡ None) wanted none in
      let given : act_given on by o (Gives step place) ≡ None = subst (λ (a : Answer). act_given on by o a ≡ None) gives asked in
      cc

  -- a lane of no bridge has nothing
  no_bridge : (lane : BridgeLane) → bridge_to board lane.bus ≡ None → world_of board h lane ≡ empty_lane
  no_bridge lane none = no_bridge_empty board h lane run none

  -- an arrival that is allowed is on a lane of the board
  arrives_on_board : (lane : BridgeLane) (mark : Mark) → BoardFits board → next_mark board h lane ≡ Some mark → IsOnBoard board lane
  arrives_on_board lane mark fits is =
      let P : Option Bridge → Type 0 = λ found. bridge_to board lane.bus ≡ found → IsOnBoard board lane in
      (elim (bridge_to board lane.bus) as P [
        | None ↦ λ none.
            let nothing : mark_of_first board lane empty_lane empty_lane.flight ≡ Some mark = subst (λ (state : LaneState). mark_of_first board lane state state.flight ≡ Some mark) (no_bridge lane none) is in
            cc
        | Some bridge ↦ λ found. IsOnBoard-found board lane bridge fits found
      ]) refl

  -- what a lane presents is on a lane of the board
  presents_on_board : (on : ℕ) (o : OpId) (lane : BridgeLane) → BoardFits board → presents board on o (world_of board h lane).standing ≡ true → IsOnBoard board lane
  presents_on_board on o lane fits is =
      let P : Option Bridge → Type 0 = λ found. bridge_to board lane.bus ≡ found → IsOnBoard board lane in
      (elim (bridge_to board lane.bus) as P [
        | None ↦ λ none.
            let nothing : presents board on o empty_lane.standing ≡ true = subst (λ (state : LaneState). presents board on o state.standing ≡ true) (no_bridge lane none) is in
            cc
        | Some bridge ↦ λ found. IsOnBoard-found board lane bridge fits found
      ]) refl

  -- where the look finds nothing, no event is allowed
  pub none_allowed : BoardFits board → next_of board h ≡ None → (e : Event) → Allowed board h e → ⊥
  none_allowed fits none (Arrive lane mark) is =
      let both = or_none_both (first_arrival board h) (first_act board h) none in
      let on_bus : (bus : ℕ) → bus < 256 → first_lane board bus (arrival_at board h) ≡ None =
      λ bus below. bus_gives_none (λ b. first_lane board b (arrival_at board h)) bus both.0 below in
      let here : arrival_at board h lane ≡ None = lanes_give_none board (λ _. arrival_at board h) lane on_bus (arrives_on_board lane mark fits is) in
      let given : arrival_of lane (Some mark) ≡ None = subst (λ (m : Option Mark). arrival_of lane m ≡ None) is here in
      cc
  none_allowed fits none (Act on Master o step place) is =
      let both = or_none_both (first_arrival board h) (first_act board h) none in
      let wanted = master_wants board h on o is.0 in
      let here : act_on board h on ≡ None = bus_gives_none (act_on board h) on both.1 (master_bus on board.masters o.master fits.masters wanted.0) in
      let masters : act_of_masters board h on ≡ None = (or_none_both (first_lane board on (act_of_lane board h on)) (act_of_masters board h on) here).1 in
      let its : act_of_turn board h on (turn_of board h o.master) ≡ None =
      below_none (λ master. act_of_turn board h on (turn_of board h master)) (length board.masters) o.master masters (at_master on board.masters o.master wanted.0) in
      let act : act_of board h on Master o ≡ None = subst (λ (t : Option OpId). act_of_turn board h on t ≡ None) wanted.1 its in
      act_there on Master o step place is.0 is.1 act
  none_allowed fits none (Act on (ByLane lane) o step place) is =
      let both = or_none_both (first_arrival board h) (first_act board h) none in
      let standing : List Carried = (world_of board h lane).standing in
      let wanted = lane_wants board h on lane o is.0 in
      let on_bus : (bus : ℕ) → bus < 256 → first_lane board bus (act_of_lane board h bus) ≡ None =
      λ bus below. (or_none_both (first_lane board bus (act_of_lane board h bus)) (act_of_masters board h bus) (bus_gives_none (act_on board h) bus both.1 below)).0 in
      let there : act_of_lane board h (end_of board lane) lane ≡ None = lanes_give_none board (act_of_lane board h) lane on_bus (presents_on_board on o lane fits wanted.1) in
      let here : act_of_lane board h on lane ≡ None = subst (λ (bus : ℕ). act_of_lane board h bus lane ≡ None) wanted.0 there in
      let some = presents_some board on o standing wanted.1 in
      act_there on (ByLane lane) o step place is.0 is.1 (item_none on lane o some.0 standing here some.1)
