-- What is presented and answered is the same, whether or not local masters are noted down, where the same slots are
-- own ones and no delayed request waits for an equal one.
use Rattle.std.proofs.Common.{◌≡◌, ℕ, Bool, true, false, not, ◌&&◌, ◌==◌, eqb, eqb-true, nat_lt, cond, List, [], ◌∷◌, map, length, Option, Some, None, refl, sym, ap, subst, ◌∙◌, option_map, slice_get}
use Rattle.std.specs.List.{find, list_all, AllByRecursion}
use Rattle.list_facts.specs.Lists.{before}
use Rattle.pci_command.specs.declared.request.Request.{Request}
use Rattle.pci_command.specs.declared.op_id.OpId.{OpId}
use Rattle.pci_command.specs.declared.op_id.Outcome.{Outcome}
use Rattle.pci_command.specs.Command.{is_read}
use Rattle.order_table.specs.Order.{may_pass}
use Rattle.board_model.specs.declared.bridge.Bridge.{Bridge}
use Rattle.board_model.specs.declared.bridge.Lane.{Lane as BridgeLane}
use Rattle.board_model.specs.declared.bridge.Place.{Place}
use Rattle.board_model.specs.declared.bridge.Place.TheVariants.{Target, Header, Lane, Nobody}
use Rattle.board_model.specs.declared.board.Board.{Board}
use Rattle.board_model.specs.Requests.{request_of, is_posted}
use Rattle.board_model.specs.Claims.{claim}
use Rattle.board_model.specs.Ways.{end_of, lane_back}
use Rattle.history_model.specs.declared.event.By.{By}
use Rattle.history_model.specs.declared.event.By.TheVariants.{Master, Lane as ByLane}
use Rattle.history_model.specs.declared.event.Event.{Event}
use Rattle.history_model.specs.declared.item.Carried.{Carried}
use Rattle.history_model.specs.declared.item.Slot.{Slot}
use Rattle.history_model.specs.declared.item.Answer.{Answer}
use Rattle.history_model.specs.Lanes.{LaneState, is_of}
use Rattle.history_model.specs.declared.rule.Rule.TheVariants.{Untagged}
use Rattle.history_model.specs.World.{anyone, World, is_own}
use Rattle.history_model.specs.Words.{through, without}
use Rattle.history_model.specs.Answers.{kind_of, goes_before_by, presents_item_by, asked, asks_same, goes_before, presents_item, presents, wants_in, posted_answer, delayed_answer, lane_answer, bridge_to, answer_by, answer_to, answer_in, presents_by, wants_in_by}
use Rattle.law_untagged.specs.Forgets.{unnamed, forget}
use Rattle.law_untagged.proofs.ForgetLemmas.{Alike, length_unnamed, own_unnamed, Forgets}

-- Answers.

delayed_forget : (board : Board) (read : Bool) (depth : ℕ) (lane : BridgeLane) (held : List Slot) (coming : List Carried) (own : Option Slot)
    → delayed_answer board read depth lane (map unnamed held) coming (option_map unnamed own) ≡ delayed_answer board read depth lane held coming own
delayed_forget board read depth lane held coming None = let e = length_unnamed held in rw e refl
delayed_forget board read depth lane held coming (Some slot) = refl

-- the same slots are own ones at the lane that claims what is left of a delayed request
abbrev pub AlikeAt : Board → World → List Event → ℕ → By → OpId → Type 0
AlikeAt board world h on by o =
    (request : Request) → request_of board o on ≡ Some request → is_posted request ≡ false → (lane : BridgeLane) → claim board on (without (through h o) request) ≡ Lane lane
    → Alike board on by o (world lane).held

module _ (board : Board) (plain world : World) (forgets : Forgets plain world) (h : List Event) (on : ℕ) (by : By) (o : OpId) where
  lane_forget : (request : Request) (lane : BridgeLane) (found : Option Bridge) → (is_posted request ≡ false → Alike board on by o (world lane).held)
      → lane_answer board plain on anyone o request lane found ≡ lane_answer board world on by o request lane found
  lane_forget request lane None alike = refl
  lane_forget request lane (Some bridge) alike =
      let F : LaneState → LaneState → Answer = λ here back. cond (is_posted request) (posted_answer here.owed bridge.posted lane)
      (delayed_answer board (is_read request.command) bridge.delayed lane here.held back.standing (find (is_own board on anyone o) here.held)) in
      let there : F (plain lane) (plain (lane_back lane)) ≡ F (forget (world lane)) (forget (world (lane_back lane))) =
      ap (λ here. F here (plain (lane_back lane))) (forgets lane) ∙ ap (λ back. F (forget (world lane)) back) (forgets (lane_back lane)) in
      let held : List Slot = (world lane).held in
      let coming : List Carried = (world (lane_back lane)).standing in
      let read : Bool = is_read request.command in
      let posted : Answer = posted_answer (world lane).owed bridge.posted lane in
      let P : Bool → Type 0 = λ b. is_posted request ≡ b
      → cond b posted (delayed_answer board read bridge.delayed lane (map unnamed held) coming (find (is_own board on anyone o) (map unnamed held)))
      ≡ cond b posted (delayed_answer board read bridge.delayed lane held coming (find (is_own board on by o) held)) in
      let here : P (is_posted request) = elim (is_posted request) as P [
        | true ↦ λ _. refl
        | false ↦ λ delayed.
            ap (delayed_answer board read bridge.delayed lane (map unnamed held) coming) (own_unnamed board on by o held (alike delayed))
            ∙ delayed_forget board read bridge.delayed lane held coming (find (is_own board on by o) held)
      ] in
      there ∙ here refl

  by_forget : (request : Request) (place : Place) → ((lane : BridgeLane) → place ≡ Lane lane → is_posted request ≡ false → Alike board on by o (world lane).held)
      → answer_by board plain h on anyone o request place ≡ answer_by board world h on by o request place
  by_forget request (Target target) alike = refl
  by_forget request (Header bus) alike = refl
  by_forget request (Lane lane) alike = lane_forget request lane (bridge_to board lane.bus) (alike lane refl)
  by_forget request Nobody alike = refl

  to_forget : (found : Option Request) → request_of board o on ≡ found → AlikeAt board world h on by o → answer_to board plain h on anyone o found ≡ answer_to board world h on by o found
  to_forget None is alike = refl
  to_forget (Some request) is alike =
      let rest : Request = without (through h o) request in
      by_forget rest (claim board on rest) (λ lane claims delayed. alike request is delayed lane claims)

  pub answer_forget : AlikeAt board world h on by o → answer_in board plain h on anyone o ≡ answer_in board world h on by o
  answer_forget alike = to_forget (request_of board o on) refl alike

-- What is presented.

-- no older item asks for the same
abbrev pub Differs : Board → ℕ → Carried → Carried → Type 0
Differs board on item older = asks_same board on (asked item) (asked older) ≡ false

passes_goes : (board : Board) (on : ℕ) (item : Carried) (older : List Carried) → AllByRecursion (Differs board on item) older
    → list_all (goes_before_by Untagged board on item) older ≡ list_all (goes_before board on item) older
passes_goes board on item [] differs = refl
passes_goes board on item (other ∷ older) differs =
    let passes : Bool = may_pass (kind_of board item) (kind_of board other) in
    let rest : Bool = list_all (goes_before_by Untagged board on item) older in
    let F : Bool → Type 0 = λ same. ((passes && true) && rest) ≡ ((passes && not same) && list_all (goes_before board on item) older) in
    let P : Bool → Type 0 = λ b. ((b && true) && rest) ≡ ((b && true) && list_all (goes_before board on item) older) in
    let here : F false = elim passes as P [ true ↦ passes_goes board on item older differs.1 | false ↦ refl ] in
    subst F (sym differs.0) here

-- where no older item asks for the same as the item that is found
abbrev pub NoneSame : Board → ℕ → OpId → List Carried → Type 0
NoneSame board on o standing = (item : Carried) → find (is_of o) standing ≡ Some item → AllByRecursion (Differs board on item) (before (is_of o) standing)

presents_forget : (board : Board) (on : ℕ) (o : OpId) (standing : List Carried) → NoneSame board on o standing → presents_by Untagged board on o standing ≡ presents board on o standing
presents_forget board on o standing none =
    let older : List Carried = before (is_of o) standing in
    let P : Option Carried → Type 0 = λ found. find (is_of o) standing ≡ found → presents_item_by Untagged board on older found ≡ presents_item board on older found in
    (elim (find (is_of o) standing) as P [ None ↦ λ _. refl | Some item ↦ λ is. passes_goes board on item older (none item is) ]) refl

pub wants_forget : (board : Board) (plain world : World) → Forgets plain world → (h : List Event) (on : ℕ) (by : By) (o : OpId)
    → ((lane : BridgeLane) → end_of board lane ≡ on → NoneSame board on o (world lane).standing) → wants_in_by Untagged board plain h on by o ≡ wants_in board world h on by o
wants_forget board plain world forgets h on Master o none = refl
wants_forget board plain world forgets h on (ByLane lane) o none =
    let standing : List Carried = (world lane).standing in
    let same : (plain lane).standing ≡ standing = ap (λ (s : LaneState). s.standing) (forgets lane) in
    let there = ap (λ items. end_of board lane == on && presents_by Untagged board on o items) same in
    let P : Bool → Type 0 = λ b. eqb (end_of board lane) on ≡ b → (b && presents_by Untagged board on o standing) ≡ (b && presents board on o standing) in
    let here : P (eqb (end_of board lane) on) = elim (eqb (end_of board lane) on) as P [
      | true ↦ λ is. presents_forget board on o standing (none lane (eqb-true (end_of board lane) on is))
      | false ↦ λ _. refl
    ] in
    there ∙ here refl
