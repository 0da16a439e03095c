-- What the look at one initiator finds is allowed, and where it finds nothing no act of it is allowed.
use Rattle.std.proofs.Common.{◌≡◌, ℕ, zero, suc, ◌<◌, Bool, true, false, cond, List, [], ◌∷◌, Option, Some, None, refl, sym, subst}
use Rattle.std.specs.Prelude.{IfSome}
use Rattle.std.specs.List.{find}
use Rattle.std.specs.Option.{option_or}
use Rattle.pci_command.specs.declared.op_id.OpId.{OpId}
use Rattle.board_model.specs.declared.bridge.Bridge.{Bridge}
use Rattle.board_model.specs.declared.bridge.Lane.{Lane as BridgeLane}
use Rattle.board_model.specs.declared.bridge.Place.{Place}
use Rattle.board_model.specs.declared.board.Board.{Board}
use Rattle.board_model.specs.Fits.{BoardFits}
use Rattle.board_model.specs.Ways.{end_of}
use Rattle.history_model.specs.declared.event.By.{By}
use Rattle.history_model.specs.declared.event.By.TheVariants.{Master, Lane as ByLane}
use Rattle.history_model.specs.declared.event.Mark.{Mark}
use Rattle.history_model.specs.declared.event.Step.{Step}
use Rattle.history_model.specs.declared.event.Event.{Event}
use Rattle.history_model.specs.declared.event.Event.TheVariants.{Act, Arrive}
use Rattle.history_model.specs.declared.item.Carried.{Carried}
use Rattle.history_model.specs.declared.item.Carried.TheVariants.{Post, Ask, Done, Room, Gone}
use Rattle.history_model.specs.declared.item.Answer.{Answer}
use Rattle.history_model.specs.declared.item.Answer.TheVariants.{Gives, Retry}
use Rattle.history_model.specs.Lanes.{LaneState, empty_lane, is_of}
use Rattle.history_model.specs.World.{world_of}
use Rattle.history_model.specs.Program.{turn_of}
use Rattle.history_model.specs.Answers.{bridge_to, presents, wants, answer}
use Rattle.history_model.specs.Runs.{Run, Allowed, mark_of_first}
use Rattle.history_model.specs.Next.{first_in, first_below, first_bus, first_lane, arrival_of, arrival_at, first_arrival, first_act, act_given, act_of, act_of_item, act_of_lane, act_of_turn}
use Rattle.history_model.proofs.facts.RequestLemmas.{same_op_true}
use Rattle.judge_state.specs.State.{KeptState, mark_in}
use Rattle.judge_next.specs.Lines.{lanes_ending}
use Rattle.judge_next.specs.Now.{arrival_now, arrival_on}
use Rattle.judge_next.specs.Course.{IsArrival}
use Rattle.law_lanes.proofs.progress.Laws.{next_allowed, no_bridge_empty}
use Rattle.law_lanes.proofs.progress.NextNoneLemmas.{or_none_both, bus_gives_none, IsOnBoard, IsOnBoard-found, lanes_give_none}
use Rattle.law_lanes.proofs.progress.NextWantLemmas.{presents_some, master_wants, lane_wants}

-- what holds of each of two holds of the first that is there
first_holds : {Y : Type 0} (P : Y → Type 0) (a b : Option Y) → IfSome a P → IfSome b P → IfSome (option_or a b) P
first_holds P None b here there = there
first_holds P (Some y) b here there = here

-- What is found by what is kept is an arrival.

arrival_is : (lane : BridgeLane) (mark : Option Mark) → IfSome (arrival_of lane mark) IsArrival
arrival_is lane None = tt
arrival_is lane (Some mark) = tt

lanes_arrive : (board : Board) (k : KeptState) (lanes : List BridgeLane) → IfSome (first_in (arrival_now board k) lanes) IsArrival
lanes_arrive board k [] = tt
lanes_arrive board k (lane ∷ lanes) = first_holds IsArrival (arrival_now board k lane) (first_in (arrival_now board k) lanes) (arrival_is lane (mark_in board k.lanes lane)) (lanes_arrive board k lanes)

below_arrive : (board : Board) (k : KeptState) (n : ℕ) → IfSome (first_below n (arrival_on board k)) IsArrival
below_arrive board k zero = tt
below_arrive board k (suc n) = first_holds IsArrival (first_below n (arrival_on board k)) (arrival_on board k n) (below_arrive board k n) (lanes_arrive board k (lanes_ending 256 board n))

pub first_arrives : (board : Board) (k : KeptState) → IfSome (first_bus (arrival_on board k)) IsArrival
unfolding first_bus
first_arrives board k = below_arrive board k 256

module _ (board : Board) (h : List Event) where
  -- Allowed.

  -- the first arrival is the next event
  pub arrival_allowed : IfSome (first_arrival board h) (Allowed board h)
  arrival_allowed =
      let P : Option Event → Type 0 = λ found. IfSome (option_or found (first_act board h)) (Allowed board h) → IfSome found (Allowed board h) in
      (elim (first_arrival board h) as P [ None ↦ λ _. tt | Some e ↦ λ is. is ]) (next_allowed board h)

  -- an act that is presented, with its answer
  given_allowed : (on : ℕ) (by : By) (o : OpId) (wanted : Bool) (given : Answer) → wants board h on by o ≡ wanted → answer board h on by o ≡ given
      → IfSome (cond wanted (act_given on by o given) None) (Allowed board h)
  given_allowed on by o true (Gives step place) is gives = (is, gives)
  given_allowed on by o true (Retry cause) is gives = tt
  given_allowed on by o false given is gives = tt

  act_allowed : (on : ℕ) (by : By) (o : OpId) → IfSome (act_of board h on by o) (Allowed board h)
  act_allowed on by o = given_allowed on by o (wants board h on by o) (answer board h on by o) refl refl

  -- of what stands on a lane
  item_allowed : (on : ℕ) (lane : BridgeLane) (item : Carried) → IfSome (act_of_item board h on lane item) (Allowed board h)
  item_allowed on lane (Post o) = act_allowed on (ByLane lane) o
  item_allowed on lane (Ask o slot) = act_allowed on (ByLane lane) o
  item_allowed on lane (Done o slot outcome) = tt
  item_allowed on lane Room = tt
  item_allowed on lane (Gone slot) = tt

  items_allowed : (on : ℕ) (lane : BridgeLane) (xs : List Carried) → IfSome (first_in (act_of_item board h on lane) xs) (Allowed board h)
  items_allowed on lane [] = tt
  items_allowed on lane (x ∷ xs) =
      first_holds (Allowed board h) (act_of_item board h on lane x) (first_in (act_of_item board h on lane) xs) (item_allowed on lane x) (items_allowed on lane xs)

  -- of a lane
  pub lane_allowed : (on : ℕ) (lane : BridgeLane) → IfSome (act_of_lane board h on lane) (Allowed board h)
  lane_allowed on lane = items_allowed on lane (world_of board h lane).standing

  -- of a master
  pub turn_allowed : (on : ℕ) (turn : Option OpId) → IfSome (act_of_turn board h on turn) (Allowed board h)
  turn_allowed on None = tt
  turn_allowed on (Some o) = act_allowed on Master o

  -- Nothing.

  -- an act that is allowed is there
  act_there : (on : ℕ) (by : By) (o : OpId) (step : Step) (place : Place) → Allowed board h (Act on by o step place) → act_of board h on by o ≡ None → ⊥
  act_there on by o step place is none =
      let asked : act_given on by o (answer board h on by o) ≡ None = subst (λ (b : Bool). cond b (act_given on by o (answer board h on by o)) None ≡ None) is.0 none in
      let given : act_given on by o (Gives step place) ≡ None = subst (λ (a : Answer). act_given on by o a ≡ None) is.1 asked in
      cc

  -- the act of an item of the operation
  of_item : (on : ℕ) (lane : BridgeLane) (o : OpId) (x : Carried) → is_of o x ≡ true → act_of_item board h on lane x ≡ None → act_of board h on (ByLane lane) o ≡ None
  of_item on lane o (Post p) passes none = subst (λ (q : OpId). act_of board h on (ByLane lane) q ≡ None) (sym (same_op_true o p passes)) none
  of_item on lane o (Ask p slot) passes none = subst (λ (q : OpId). act_of board h on (ByLane lane) q ≡ None) (sym (same_op_true o p passes)) none
  of_item on lane o (Done p slot outcome) passes none = cc
  of_item on lane o Room passes none = cc
  of_item on lane o (Gone slot) passes none = cc

  -- of the items of a lane
  item_none : (on : ℕ) (lane : BridgeLane) (o : OpId) (item : Carried) (xs : List Carried) → first_in (act_of_item board h on lane) xs ≡ None → find (is_of o) xs ≡ Some item → act_of board h on (ByLane lane) o ≡ None
  item_none on lane o item [] none found = cc
  item_none on lane o item (x ∷ xs) none found =
      let both = or_none_both (act_of_item board h on lane x) (first_in (act_of_item board h on lane) xs) none in
      let P : Bool → Type 0 = λ b. is_of o x ≡ b → cond b (Some x) (find (is_of o) xs) ≡ Some item → act_of board h on (ByLane lane) o ≡ None in
      (elim (is_of o x) as P [
        | true ↦ λ passes _. of_item on lane o x passes both.0
        | false ↦ λ _ later. item_none on lane o item xs both.1 later
      ]) refl found

  -- where a lane is looked at in vain no act of it is allowed
  pub lane_none : (on : ℕ) (lane : BridgeLane) → act_of_lane board h on lane ≡ None → (o : OpId) (step : Step) (place : Place) → Allowed board h (Act on (ByLane lane) o step place) → ⊥
  lane_none on lane none o step place is =
      let standing : List Carried = (world_of board h lane).standing in
      let some = presents_some board on o standing (lane_wants board h on lane o is.0).1 in
      act_there on (ByLane lane) o step place is (item_none on lane o some.0 standing none some.1)

  -- nor of a master
  pub master_none : (on master : ℕ) → act_of_turn board h on (turn_of board h master) ≡ None → (o : OpId) (step : Step) (place : Place) → o.master ≡ master → Allowed board h (Act on Master o step place) → ⊥
  master_none on master none o step place its is =
      let turn : turn_of board h master ≡ Some o = subst (λ (m : ℕ). turn_of board h m ≡ Some o) its (master_wants board h on o is.0).1 in
      let act : act_of board h on Master o ≡ None = subst (λ (t : Option OpId). act_of_turn board h on t ≡ None) turn none in
      act_there on Master o step place is act

  -- Lanes of the board.

  module _ (run : Run board h) (fits : BoardFits board) where
    -- a lane on which anything is is one of the board
    lane_there : (lane : BridgeLane) (P : LaneState → Type 0) → (P empty_lane → ⊥) → P (world_of board h lane) → IsOnBoard board lane
    lane_there lane P empty is =
        let Q : Option Bridge → Type 0 = λ found. bridge_to board lane.bus ≡ found → IsOnBoard board lane in
        (elim (bridge_to board lane.bus) as Q [
          | None ↦ λ none. absurd (empty (subst P (no_bridge_empty board h lane run none) is))
          | Some bridge ↦ λ found. IsOnBoard-found board lane bridge fits found
        ]) refl

    -- so is a lane that acts
    pub acts_on_board : (on : ℕ) (lane : BridgeLane) (o : OpId) (step : Step) (place : Place) → Allowed board h (Act on (ByLane lane) o step place) → (end_of board lane ≡ on) × IsOnBoard board lane
    acts_on_board on lane o step place is =
        let wanted = lane_wants board h on lane o is.0 in
        (wanted.0, lane_there lane (λ (state : LaneState). presents board on o state.standing ≡ true) (λ e. cc) wanted.1)

    -- where no arrival is found none is allowed
    pub arrival_none : first_arrival board h ≡ None → (lane : BridgeLane) (mark : Mark) → Allowed board h (Arrive lane mark) → ⊥
    arrival_none none lane mark is =
        let on_bus : (bus : ℕ) → bus < 256 → first_lane board bus (arrival_at board h) ≡ None =
        λ bus below. bus_gives_none (λ b. first_lane board b (arrival_at board h)) bus none below in
        let there : IsOnBoard board lane = lane_there lane (λ (state : LaneState). mark_of_first board lane state state.flight ≡ Some mark) (λ e. cc) is in
        let here : arrival_at board h lane ≡ None = lanes_give_none board (λ _. arrival_at board h) lane on_bus there in
        let given : arrival_of lane (Some mark) ≡ None = subst (λ (m : Option Mark). arrival_of lane m ≡ None) is here in
        cc
