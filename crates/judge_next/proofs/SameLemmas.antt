-- What may happen next by what is kept is what may by the history.
use Rattle.std.proofs.Common.{◌≡◌, ℕ, Bool, true, false, List, length, Option, Some, None, refl, ap, ◌∙◌, if◌then◌else◌}
use Rattle.std.specs.Option.{option_or}
use Rattle.pci_command.specs.declared.op_id.OpId.{OpId}
use Rattle.board_model.specs.declared.board.Board.{Board}
use Rattle.board_model.specs.declared.bridge.Lane.{Lane as BridgeLane}
use Rattle.history_model.specs.declared.event.By.{By}
use Rattle.history_model.specs.declared.event.By.TheVariants.{Master, Lane as ByLane}
use Rattle.history_model.specs.declared.event.Event.{Event}
use Rattle.history_model.specs.declared.item.Carried.{Carried}
use Rattle.history_model.specs.declared.item.Carried.TheVariants.{Post, Ask, Done, Room, Gone}
use Rattle.history_model.specs.Lanes.{LaneState}
use Rattle.history_model.specs.World.{world_of}
use Rattle.history_model.specs.Program.{turn_of}
use Rattle.history_model.specs.Answers.{wants, answer}
use Rattle.history_model.specs.Next.{first_in, first_bus, first_lane, arrival_of, arrival_at, first_arrival, act_given, act_of, act_of_item, act_of_lane, act_of_turn, act_of_masters, act_on, next_of}
use Rattle.judge_state.specs.State.{KeptState}
use Rattle.judge_state.specs.Answer.{answer_now}
use Rattle.judge_state.specs.Stands.{StandsFor}
use Rattle.judge_state.proofs.LookLemmas as look
use Rattle.judge_state.proofs.AnswerLemmas.{answer_same}
use Rattle.judge_next.specs.Lines.{lanes_ending, masters_below}
use Rattle.judge_next.specs.Now.{arrival_now, arrival_on, act_now, item_now, lane_now, turn_now, master_now, act_on_now}
use Rattle.judge_next.proofs.LineLemmas.{first_in_same, first_bus_same, first_ending, first_masters}

module _ (board : Board) (h : List Event) (k : KeptState) (stands : StandsFor board h k) where
  -- arrivals
  arrival_same : (lane : BridgeLane) → arrival_now board k lane ≡ arrival_at board h lane
  arrival_same lane = ap (arrival_of lane) (look.mark_same board h k lane stands)

  arrivals_same : (bus : ℕ) → arrival_on board k bus ≡ first_lane board bus (arrival_at board h)
  arrivals_same bus =
      first_in_same (arrival_now board k) (arrival_at board h) arrival_same (lanes_ending 256 board bus) ∙ first_ending board bus (arrival_at board h)

  -- acts
  act_same : (on : ℕ) (by : By) (o : OpId) → act_now board k on by o ≡ act_of board h on by o
  act_same on by o =
      let P : Bool → Type 0 = λ b. wants board h on by o ≡ b → (if b then act_given on by o (answer_now board k on by o) else None) ≡ (if b then act_given on by o (answer board h on by o) else None) in
      ap (λ (b : Bool). if b then act_given on by o (answer_now board k on by o) else None) (look.wants_same board h k on by o stands)
      ∙ (elim (wants board h on by o) as P [
        | true ↦ λ wanted. ap (act_given on by o) (answer_same board h k on by o stands stands.covers wanted)
        | false ↦ λ _. refl
      ]) refl

  item_same : (on : ℕ) (lane : BridgeLane) (item : Carried) → item_now board k on lane item ≡ act_of_item board h on lane item
  item_same on lane (Post o) = act_same on (ByLane lane) o
  item_same on lane (Ask o slot) = act_same on (ByLane lane) o
  item_same on lane (Done o slot outcome) = refl
  item_same on lane Room = refl
  item_same on lane (Gone slot) = refl

  pub lane_same : (on : ℕ) (lane : BridgeLane) → lane_now board k on lane ≡ act_of_lane board h on lane
  lane_same on lane =
      ap (λ (l : LaneState). first_in (item_now board k on lane) l.standing) (look.lane_now board h k lane stands)
      ∙ first_in_same (item_now board k on lane) (act_of_item board h on lane) (item_same on lane) (world_of board h lane).standing

  turn_same : (on : ℕ) (turn : Option OpId) → turn_now board k on turn ≡ act_of_turn board h on turn
  turn_same on None = refl
  turn_same on (Some o) = act_same on Master o

  pub master_same : (on m : ℕ) → master_now board k on m ≡ act_of_turn board h on (turn_of board h m)
  master_same on m = ap (turn_now board k on) (stands.turns m) ∙ turn_same on (turn_of board h m)

  pub act_on_same : (bus : ℕ) → act_on_now board k bus ≡ act_on board h bus
  unfolding act_on_now
  act_on_same bus =
      let masters : List ℕ = masters_below (length board.masters) board bus in
      let lanes : first_in (lane_now board k bus) (lanes_ending 256 board bus) ≡ first_lane board bus (act_of_lane board h bus) =
      first_in_same (lane_now board k bus) (act_of_lane board h bus) (lane_same bus) (lanes_ending 256 board bus) ∙ first_ending board bus (act_of_lane board h bus) in
      let turns : first_in (master_now board k bus) masters ≡ act_of_masters board h bus =
      first_in_same (master_now board k bus) (λ m. act_of_turn board h bus (turn_of board h m)) (master_same bus) masters ∙ first_masters board h bus (length board.masters) in
      ap (λ a. option_or a (first_in (master_now board k bus) masters)) lanes ∙ ap (option_or (first_lane board bus (act_of_lane board h bus))) turns

  -- so the first arrival is that of the run
  pub first_arrival_same : first_bus (arrival_on board k) ≡ first_arrival board h
  first_arrival_same = first_bus_same (arrival_on board k) (λ bus. first_lane board bus (arrival_at board h)) arrivals_same

  -- and the next event
  pub next_same : option_or (first_bus (arrival_on board k)) (first_bus (act_on_now board k)) ≡ next_of board h
  next_same =
      let acts = first_bus_same (act_on_now board k) (act_on board h) act_on_same in
      ap (λ a. option_or a (first_bus (act_on_now board k))) first_arrival_same ∙ ap (option_or (first_arrival board h)) acts
