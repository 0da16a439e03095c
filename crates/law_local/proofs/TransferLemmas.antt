-- What a bus knows by its own events is so in the whole history.
use Rattle.std.proofs.Common.{◌≡◌, ℕ, Bool, true, false, cond, ◌&&◌, eqb, List, [], ◌∷◌, Option, Some, None, refl, sym, ap, subst, ◌∙◌, slice_get}
use Rattle.std.specs.List.{find}
use Rattle.std.proofs.lemmas.Bool.{eqb-true, eqb-false}
use Rattle.pci_command.specs.declared.request.Request.{Request}
use Rattle.pci_command.specs.declared.op_id.OpId.{OpId}
use Rattle.pci_command.specs.declared.op_id.Outcome.{Outcome}
use Rattle.pci_command.specs.Command.{is_read}
use Rattle.board_model.specs.declared.agents.Master.{Master as MasterAgent}
use Rattle.board_model.specs.declared.bridge.Bridge.{Bridge}
use Rattle.board_model.specs.declared.bridge.Lane.{Lane as BridgeLane}
use Rattle.board_model.specs.declared.board.Board.{Board}
use Rattle.board_model.specs.Requests.{is_posted}
use Rattle.board_model.specs.Ways.{start_of, end_of, lane_back}
use Rattle.history_model.specs.declared.event.By.{By}
use Rattle.history_model.specs.declared.event.By.TheVariants.{Master, Lane as ByLane}
use Rattle.history_model.specs.declared.event.Event.{Event}
use Rattle.history_model.specs.declared.event.Event.TheVariants.{Act, Arrive}
use Rattle.history_model.specs.declared.item.Carried.{Carried}
use Rattle.history_model.specs.declared.item.Slot.{Slot}
use Rattle.history_model.specs.declared.item.Answer.{Answer}
use Rattle.history_model.specs.World.{World, is_own, world_of}
use Rattle.history_model.specs.Program.{turn_of, turn_after, ending_of, ended, master_outcome}
use Rattle.history_model.specs.Answers.{is_on, is_turn, presents, wants, wants_in, delayed_answer, posted_answer, lane_answer}
use Rattle.history_model.specs.Runs.{Allowed, Run}
use Rattle.history_model.specs.Local.{bus_of}
use Rattle.law_local.specs.Known.{events_on, known, AllJoint}
use Rattle.law_local.proofs.JointLemmas.{end_back}
use Rattle.law_lanes.proofs.Laws.{wants-at}

-- a master is on one bus
one_bus : (a b : ℕ) (found : Option MasterAgent) → is_on a found ≡ true → is_on b found ≡ true → a ≡ b
one_bus a b None first second = cc
one_bus a b (Some master) first second = sym (eqb-true master.bus a first) ∙ eqb-true master.bus b second

-- what ends at another bus ends no operation of the master
not_ended : (board : Board) (m bus : ℕ) (turn : Option OpId) (o : OpId) (outcome : Option Outcome) → eqb o.master m ≡ false → turn_after board m turn (ending_of o outcome) ≡ turn
not_ended board m bus turn o None apart = refl
not_ended board m bus turn o (Some outcome) apart = rw apart refl

-- an event on another bus leaves the turn of the master alone
elsewhere : (board : Board) (m bus : ℕ) (turn : Option OpId) (h : List Event) (e : Event) → is_on bus (slice_get board.masters m) ≡ true → Allowed board h e → eqb (bus_of board e) bus ≡ false
    → turn_after board m turn (ended e) ≡ turn
elsewhere board m bus turn h (Act at Master o step place) there allowed apart =
    let presented : is_on at (slice_get board.masters o.master) ≡ true = wants-at board h at Master o allowed.0 in
    let P : Bool → Type 0 = λ b. eqb o.master m ≡ b → turn_after board m turn (ending_of o (master_outcome step)) ≡ turn in
    (elim (eqb o.master m) as P [
      | true ↦ λ same.
          let here : is_on at (slice_get board.masters m) ≡ true = subst (λ n. is_on at (slice_get board.masters n) ≡ true) (eqb-true o.master m same) presented in
          absurd (eqb-false at bus apart (one_bus at bus (slice_get board.masters m) here there))
      | false ↦ λ differ. not_ended board m bus turn o (master_outcome step) differ
    ]) refl
elsewhere board m bus turn h (Act at (ByLane lane) o step place) there allowed apart = refl
elsewhere board m bus turn h (Arrive lane mark) there allowed apart = refl

-- a master's turn, by the events of its bus alone
pub turn_local : (board : Board) (m bus : ℕ) → is_on bus (slice_get board.masters m) ≡ true → (h : List Event) → Run board h → turn_of board h m ≡ turn_of board (events_on board bus h) m
turn_local board m bus there [] run = refl
turn_local board m bus there (e ∷ h) run =
    let before_it = turn_local board m bus there h run.1 in
    let P : Bool → Type 0 = λ b. eqb (bus_of board e) bus ≡ b → turn_of board (e ∷ h) m ≡ turn_of board (cond b (e ∷ events_on board bus h) (events_on board bus h)) m in
    (elim (eqb (bus_of board e) bus) as P [
      | true ↦ λ _. ap (λ turn. turn_after board m turn (ended e)) before_it
      | false ↦ λ apart. elsewhere board m bus (turn_of board h m) h e there run.0 apart ∙ before_it
    ]) refl

module _ (board : Board) (sent : BridgeLane → List Carried) (h : List Event) (bus : ℕ) (joint : AllJoint board sent h) (run : Run board h) where
  -- the lanes as the bus knows them
  abbrev Knows : World
  Knows = known board sent bus h

  -- what is on a lane that begins on the bus, and on one that ends there
  begins : (lane : BridgeLane) → start_of board lane ≡ bus → ((world_of board h lane).held ≡ (Knows lane).held) × ((world_of board h lane).owed ≡ (Knows lane).owed)
  begins lane starts =
      let F : ℕ → Type 0 = λ n. ((world_of board h lane).held ≡ (known board sent n h lane).held) × ((world_of board h lane).owed ≡ (known board sent n h lane).owed) in
      let j = joint lane in
      subst F starts (j.held, j.owed)

  ends : (lane : BridgeLane) → end_of board lane ≡ bus → (world_of board h lane).standing ≡ (Knows lane).standing
  ends lane at =
      let F : ℕ → Type 0 = λ n. (world_of board h lane).standing ≡ (known board sent n h lane).standing in
      let j = joint lane in
      subst F at j.standing

  -- who presents what
  pub wants_local : (by : By) (o : OpId) → wants board h bus by o ≡ wants_in board Knows (events_on board bus h) bus by o
  wants_local Master o =
      let P : Bool → Type 0 = λ b. is_on bus (slice_get board.masters o.master) ≡ b → (b && is_turn o (turn_of board h o.master)) ≡ (b && is_turn o (turn_of board (events_on board bus h) o.master)) in
      (elim (is_on bus (slice_get board.masters o.master)) as P [
        | true ↦ λ there. ap (is_turn o) (turn_local board o.master bus there h run)
        | false ↦ λ _. refl
      ]) refl
  wants_local (ByLane lane) o =
      let P : Bool → Type 0 = λ b. eqb (end_of board lane) bus ≡ b → (b && presents board bus o (world_of board h lane).standing) ≡ (b && presents board bus o (Knows lane).standing) in
      (elim (eqb (end_of board lane) bus) as P [
        | true ↦ λ there. ap (presents board bus o) (ends lane (eqb-true (end_of board lane) bus there))
        | false ↦ λ _. refl
      ]) refl

  -- how a bridge answers that claims
  pub lane_answer_local : (by : By) (o : OpId) (request : Request) (lane : BridgeLane) (found : Option Bridge) → start_of board lane ≡ bus
      → lane_answer board (world_of board h) bus by o request lane found ≡ lane_answer board Knows bus by o request lane found
  lane_answer_local by o request lane None starts = refl
  lane_answer_local by o request lane (Some bridge) starts =
      let here = begins lane starts in
      let coming : (world_of board h (lane_back lane)).standing ≡ (Knows (lane_back lane)).standing = ends (lane_back lane) (end_back board lane ∙ starts) in
      let A : ℕ → List Slot → List Carried → Answer = λ owed held standing.
      cond (is_posted request) (posted_answer owed bridge.posted lane) (delayed_answer board (is_read request.command) bridge.delayed lane held standing (find (is_own board bus by o) held)) in
      ap (λ owed. A owed (world_of board h lane).held (world_of board h (lane_back lane)).standing) here.1
      ∙ (ap (λ held. A (Knows lane).owed held (world_of board h (lane_back lane)).standing) here.0 ∙ ap (A (Knows lane).owed (Knows lane).held) coming)
