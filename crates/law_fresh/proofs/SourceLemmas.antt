-- What is presented, and carries knowledge of a write, is presented on a bus that is covered.
use Rattle.std.proofs.Common.{◌≡◌, ℕ, Bool, true, false, ◌&&◌, ◌||◌, not, ◌==◌, eqb-true, List, [], ◌∷◌, Option, Some, None, refl, subst, slice_get}
use Rattle.std.specs.List.{list_any, list_all}
use Rattle.list_facts.specs.Lists.{before}
use Rattle.list_facts.proofs.FindLemmas.{find_passes}
use Rattle.pci_command.specs.declared.op_id.OpId.{OpId}
use Rattle.pci_command.specs.declared.op_id.Outcome.{Outcome}
use Rattle.pci_command.specs.Same.{same_op}
use Rattle.board_model.specs.declared.agents.Master.{Master as MasterAgent}
use Rattle.board_model.specs.declared.bridge.Bridge.{Bridge}
use Rattle.board_model.specs.declared.bridge.Lane.{Lane as BridgeLane}
use Rattle.board_model.specs.declared.bridge.Place.{Place}
use Rattle.board_model.specs.declared.op.Op.{Op}
use Rattle.board_model.specs.declared.board.Board.{Board}
use Rattle.board_model.specs.Requests.{reads}
use Rattle.board_model.specs.Ways.{end_of, start_of}
use Rattle.history_model.specs.declared.event.By.{By}
use Rattle.history_model.specs.declared.event.By.TheVariants.{Master, Lane as ByLane}
use Rattle.history_model.specs.declared.event.Step.{Step}
use Rattle.history_model.specs.declared.event.Event.{Event}
use Rattle.history_model.specs.declared.event.Event.TheVariants.{Act}
use Rattle.history_model.specs.declared.item.Carried.{Carried}
use Rattle.history_model.specs.declared.item.Carried.TheVariants.{Post, Ask, Done, Room, Gone}
use Rattle.history_model.specs.declared.rule.Rule.TheVariants.{Tagged}
use Rattle.history_model.specs.Lanes.{is_of, is_post}
use Rattle.history_model.specs.World.{world_of}
use Rattle.history_model.specs.Program.{master_outcome, turn_of}
use Rattle.history_model.specs.Answers.{asks_same, request_kind, goes_before, presents_item, presents, is_on, is_turn, wants, bridge_to}
use Rattle.history_model.specs.Runs.{Run}
use Rattle.order_table.specs.Order.{may_pass}
use Rattle.pci_command.specs.declared.command.Kind.TheVariants.{Pmw}
use Rattle.std.proofs.lemmas.Bool.{and_parts}
use Rattle.law_fresh.specs.Aware.{Aware, knows, bears, aware_of}
use Rattle.law_fresh.specs.Cover.{is_on_lane, covered, Informed}
use Rattle.law_fresh.proofs.SafeLemmas.{Safe-find}
use Rattle.law_fresh.proofs.AwareLemmas.{master_knows}
use Rattle.law_fresh.proofs.NamedLemmas.{presented_at}
use Rattle.history_model.proofs.facts.RequestLemmas.{same_op_true}

-- How a write is covered, whether it is posted or delayed: what its proof needs of it, and nothing else.
pub record Covers (board : Board) (w : OpId) (op : Op) : Type 0 where
  -- a bus that is covered stays so
  pub kept : (e : Event) (h : List Event) (on : ℕ) → Run board (e ∷ h) → covered board w op h on ≡ true → covered board w op (e ∷ h) on ≡ true
  -- across a bridge the bus is covered too, or the posted write is on the lane
  pub crosses : (h : List Event) (lane : BridgeLane) (bridge : Bridge) → Run board h → bridge_to board lane.bus ≡ Some bridge → covered board w op h (start_of board lane) ≡ true
      → (covered board w op h (end_of board lane) || is_on_lane w (world_of board h) lane) ≡ true
  -- where the write ends for who presents it the bus is covered
  pub ends : (h : List Event) (on : ℕ) (by : By) (step : Step) (place : Place) (outcome : Outcome) → Run board (Act on by w step place ∷ h) → master_outcome step ≡ Some outcome
      → covered board w op (Act on by w step place ∷ h) on ≡ true

-- A request or posted write that is presented has no posted write before it.

passes_no_post : (board : Board) (on : ℕ) (o : OpId) (item older : Carried) → is_of o item ≡ true → goes_before board on item older ≡ true → is_post older ≡ false
passes_no_post board on o (Post p) (Post q) is goes = cc
passes_no_post board on o (Ask p slot) (Post q) is goes =
    let P : Bool → Type 0 = λ b. (may_pass (request_kind b) Pmw && not (asks_same board on (Some p) None)) ≡ true → true ≡ false in
    (elim (reads board p) as P [ true ↦ λ e. cc | false ↦ λ e. cc ]) goes
passes_no_post board on o (Done p slot outcome) (Post q) is goes = cc
passes_no_post board on o Room (Post q) is goes = cc
passes_no_post board on o (Gone slot) (Post q) is goes = cc
passes_no_post board on o item (Ask q slot) is goes = refl
passes_no_post board on o item (Done q slot outcome) is goes = refl
passes_no_post board on o item Room is goes = refl
passes_no_post board on o item (Gone slot) is goes = refl

none_older : (board : Board) (on : ℕ) (o : OpId) (item : Carried) (older : List Carried) → is_of o item ≡ true → list_all (goes_before board on item) older ≡ true → list_any is_post older ≡ false
none_older board on o item [] is all = refl
none_older board on o item (x ∷ older) is all =
    let parts = and_parts (goes_before board on item x) (list_all (goes_before board on item) older) all in
    let here = passes_no_post board on o item x is parts.0 in
    rw here (none_older board on o item older is parts.1)

-- an item of an operation that knows of the write carries knowledge
knows_bears : (w o : OpId) (aware : Aware) (item : Carried) → is_of o item ≡ true → same_op o w ≡ false → knows aware o ≡ true → bears w aware item ≡ true
knows_bears w o aware (Post q) is other known =
    let one : o ≡ q = same_op_true o q is in
    let others : same_op q w ≡ false = subst (λ p. same_op p w ≡ false) one other in
    let knows_it : knows aware q ≡ true = subst (λ p. knows aware p ≡ true) one known in
    rw others knows_it
knows_bears w o aware (Ask q slot) is other known =
    let one : o ≡ q = same_op_true o q is in
    let others : same_op q w ≡ false = subst (λ p. same_op p w ≡ false) one other in
    let knows_it : knows aware q ≡ true = subst (λ p. knows aware p ≡ true) one known in
    rw others knows_it
knows_bears w o aware (Done q slot outcome) is other known = cc
knows_bears w o aware Room is other known = cc
knows_bears w o aware (Gone slot) is other known = cc

-- the master that presents is on the bus
pub record Agent (board : Board) (on : ℕ) (o : OpId) : Type 0 where
  pub agent : MasterAgent
  pub is_agent : slice_get board.masters o.master ≡ Some agent
  pub bus : agent.bus ≡ on

agent_by : (board : Board) (on : ℕ) (o : OpId) (found : Option MasterAgent) → slice_get board.masters o.master ≡ found → is_on on found ≡ true → Agent board on o
agent_by board on o None is there = cc
agent_by board on o (Some agent) is there = record { agent = agent; is_agent = is; bus = eqb-true agent.bus on there }

pub agent_of : (board : Board) (h : List Event) (on : ℕ) (o : OpId) → wants board h on Master o ≡ true → Agent board on o
agent_of board h on o wanted =
    agent_by board on o (slice_get board.masters o.master) refl (and_parts (is_on on (slice_get board.masters o.master)) (is_turn o (turn_of board h o.master)) wanted).0

-- who presents an operation that knows of the write is on a bus that is covered
pub source : (board : Board) (w : OpId) (op : Op) (h : List Event) (on : ℕ) (by : By) (o : OpId) → Informed board w op h → wants board h on by o ≡ true → same_op o w ≡ false → knows (aware_of board w h) o ≡ true
    → covered board w op h on ≡ true
source board w op h on Master o informed wanted other known =
    let here = agent_of board h on o wanted in
    subst (λ n. covered board w op h n ≡ true) here.bus (informed.masters o.master here.agent here.is_agent (master_knows (aware_of board w h) o known))
source board w op h on (ByLane k) o informed wanted other known =
    let standing : List Carried = (world_of board h k).standing in
    let aware : Aware = aware_of board w h in
    let at = presented_at Tagged board h on k o wanted in
    let here = at.1 in
    let presented : presents board on o standing ≡ true = (and_parts (end_of board k == on) (presents board on o standing) wanted).1 in
    let F : Option Carried → Type 0 = λ item. presents_item board on (before (is_of o) standing) item ≡ true in
    let all : F (Some here.item) = subst F here.found presented in
    let is : is_of o here.item ≡ true = find_passes (is_of o) standing here.item here.found in
    let none : list_any is_post (before (is_of o) standing) ≡ false = none_older board on o here.item (before (is_of o) standing) is all in
    let sure : covered board w op h (end_of board k) ≡ true =
    Safe-find w (bears w aware) (covered board w op h (end_of board k)) (is_of o) standing (world_of board h k).flight here.item (informed.lanes k) here.found (knows_bears w o aware here.item is other known) none in
    subst (λ n. covered board w op h n ≡ true) at.0 sure
