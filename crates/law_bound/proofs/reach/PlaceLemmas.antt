-- A delayed request is answered by the lane that claims it, and nothing of it goes through before or now.
use Rattle.std.proofs.Common.{◌≡◌, ℕ, ◌+◌, ◌*◌, Bool, true, false, cond, nat_lt, List, ◌∷◌, length, Option, Some, None, refl, sym, ap, subst, ◌∙◌, arith, ⊎_elim}
use Rattle.std.specs.List.{find, list_all}
use Rattle.list_facts.specs.Lists.{before}
use Rattle.pci_command.specs.declared.request.Request.{Request}
use Rattle.pci_command.specs.declared.op_id.OpId.{OpId}
use Rattle.pci_command.specs.Command.{space_of, is_read}
use Rattle.pci_command.specs.Same.{same_op}
use Rattle.board_model.specs.declared.bridge.Bridge.{Bridge}
use Rattle.board_model.specs.declared.bridge.Lane.{Lane as BridgeLane}
use Rattle.board_model.specs.declared.bridge.Place.{Place}
use Rattle.board_model.specs.declared.bridge.Place.TheVariants.{Lane}
use Rattle.board_model.specs.declared.op.Op.{Op}
use Rattle.board_model.specs.declared.board.Board.{Board}
use Rattle.board_model.specs.Requests.{op_of, request_on, request_of, is_posted}
use Rattle.board_model.specs.Claims.{claim_in_space, claim}
use Rattle.board_model.specs.Ways.{lane_back}
use Rattle.board_model.specs.Valid.{IsValid}
use Rattle.board_model.proofs.form_laws.Laws.{Up, Down, steps, IsTree-valid}
use Rattle.history_model.specs.declared.event.By.{By}
use Rattle.history_model.specs.declared.event.Step.{Step}
use Rattle.history_model.specs.declared.event.Step.TheVariants.{Latch, Take}
use Rattle.history_model.specs.declared.event.Event.{Event}
use Rattle.history_model.specs.declared.event.Event.TheVariants.{Act}
use Rattle.history_model.specs.declared.item.Answer.TheVariants.{Gives, Retry}
use Rattle.history_model.specs.declared.item.Cause.TheVariants.{NoSlot, Behind}
use Rattle.history_model.specs.declared.item.Carried.{Carried}
use Rattle.history_model.specs.declared.item.Carried.TheVariants.{Post, Ask, Done, Room, Gone}
use Rattle.history_model.specs.declared.item.Slot.{Slot}
use Rattle.history_model.specs.Lanes.{is_done_for}
use Rattle.history_model.specs.World.{World, is_own, world_of}
use Rattle.history_model.specs.Words.{phases_parted, parted_by, through, without}
use Rattle.history_model.specs.Answers.{completion_passes, completion_answer, delayed_answer, posted_answer, lane_answer, bridge_to, answer_by, answer_to}
use Rattle.history_model.specs.Runs.{Run}
use Rattle.history_model.proofs.facts.RequestLemmas.{same_op_self}
use Rattle.law_lanes.proofs.Laws.{delayed-not_parted, WellFormed-single}

-- a lane answers at itself
completion_place : (board : Board) (read : Bool) (lane : BridgeLane) (older : List Carried) (item : Option Carried) (step : Step) (place : Place) → completion_answer board read lane older item ≡ Gives step place → place ≡ Lane lane
completion_place board read lane older None step place gives = cc
completion_place board read lane older (Some (Post op)) step place gives = cc
completion_place board read lane older (Some (Ask op slot)) step place gives = cc
completion_place board read lane older (Some (Done op slot outcome)) step place gives =
    let P : Bool → Type 0 = λ b. cond b (Gives (Take outcome) (Lane lane)) (Retry Behind) ≡ Gives step place → place ≡ Lane lane in
    (elim (list_all (completion_passes board read) older) as P [ true ↦ λ e. cc | false ↦ λ e. cc ]) gives
completion_place board read lane older (Some Room) step place gives = cc
completion_place board read lane older (Some (Gone slot)) step place gives = cc

-- so does it for every delayed request
delayed_place : (board : Board) (depth : ℕ) (read : Bool) (lane : BridgeLane) (held : List Slot) (coming : List Carried) (own : Option Slot) (step : Step) (place : Place) → delayed_answer board read depth lane held coming own ≡ Gives step place → place ≡ Lane lane
delayed_place board depth read lane held coming None step place gives =
    let P : Bool → Type 0 = λ b. cond b (Gives Latch (Lane lane)) (Retry NoSlot) ≡ Gives step place → place ≡ Lane lane in
    (elim (nat_lt (length held) depth) as P [ true ↦ λ e. cc | false ↦ λ e. cc ]) gives
delayed_place board depth read lane held coming (Some slot) step place gives = completion_place board read lane (before (is_done_for slot.number) coming) (find (is_done_for slot.number) coming) step place gives

module _ (board : Board) (valid : IsValid board) (h : List Event) (on : ℕ) (by : By) (o : OpId) (op : Op) (step : Step) (place : Place) (run : Run board (Act on by o step place ∷ h)) (is_op : op_of board o ≡ Some op) (delayed : is_posted (request_on op on) ≡ false) where
  -- the request of the operation
  requested : request_of board o on ≡ Some (request_on op on)
  requested = rw is_op refl

  -- nothing of it went through before
  pub none_through : through h o ≡ 0
  none_through = delayed-not_parted board h o on (request_on op on) (WellFormed-single board valid.well_formed) run.1 requested delayed

  -- nor does anything of it go through now
  pub not_parted : phases_parted step ≡ 0
  not_parted =
      let after : through (Act on by o step place ∷ h) o ≡ 0 = delayed-not_parted board (Act on by o step place ∷ h) o on (request_on op on) (WellFormed-single board valid.well_formed) run requested delayed in
      let self : same_op o o ≡ true = same_op_self o in
      let F : Bool → Type 0 = λ b. cond b (phases_parted step) 0 + through h o ≡ 0 in
      let here : phases_parted step + through h o ≡ 0 = subst F self after in
      omega arith

  -- nothing of any write goes through
  pub nothing_parted : (p : OpId) → parted_by p (Act on by o step place) ≡ 0
  nothing_parted p =
      let none = not_parted in
      let F : Bool → Type 0 = λ b. cond b (phases_parted step) 0 ≡ 0 in
      elim (same_op o p) as F [ true ↦ none | false ↦ refl ]

  -- what is claimed of the whole request is claimed of what is left
  pub claims_rest : claim board on (without (through h o) (request_on op on)) ≡ claim board on (request_on op on)
  claims_rest =
      let request : Request = request_on op on in
      let none = none_through in
      let whole : request.address + 4 * through h o ≡ request.address = omega arith in
      ap (claim_in_space board on (space_of request.command)) whole

  -- who claims what is left of it answers
  pub answered : answer_by board (world_of board h) h on by o (without (through h o) (request_on op on)) (claim board on (without (through h o) (request_on op on))) ≡ Gives step place
  answered = let F : Option Request → Type 0 = λ some. answer_to board (world_of board h) h on by o some ≡ Gives step place in subst F requested run.0.1

  -- a lane that claims has a bridge
  lane_bridge : (lane : BridgeLane) → claim board on (request_on op on) ≡ Lane lane → (bridge : Bridge) × (bridge_to board lane.bus ≡ Some bridge)
  lane_bridge lane claims =
      let tree = IsTree-valid board valid in
      ⊎_elim {C = (bridge : Bridge) × (bridge_to board lane.bus ≡ Some bridge)}
      (λ (up : Up board op on lane). let bus : on ≡ lane.bus = sym (ap (λ (l : BridgeLane). l.bus) up.is) in (up.own, subst (λ n. bridge_to board n ≡ Some up.own) bus up.is_own))
      (λ (down : Down board op on lane). (down.child, down.is_child))
      (steps board op on lane tree.apart claims)

  -- where a lane claims it, the lane answers
  pub lane_there : (lane : BridgeLane) → claim board on (request_on op on) ≡ Lane lane → place ≡ Lane lane
  lane_there lane claims =
      let rest : Request = without (through h o) (request_on op on) in
      let there = lane_bridge lane claims in
      let world : World = world_of board h in
      let F : Place → Type 0 = λ claimant. answer_by board world h on by o rest claimant ≡ Gives step place in
      let by_lane : lane_answer board world on by o rest lane (bridge_to board lane.bus) ≡ Gives step place = subst F (claims_rest ∙ claims) answered in
      let G : Option Bridge → Type 0 = λ found. lane_answer board world on by o rest lane found ≡ Gives step place in
      let by_bridge : lane_answer board world on by o rest lane (Some there.0) ≡ Gives step place = subst G there.1 by_lane in
      delayed_place board there.0.delayed (is_read rest.command) lane (world lane).held (world (lane_back lane)).standing (find (is_own board on by o) (world lane).held) step place
      (let H : Bool → Type 0 = λ b. cond b (posted_answer (world lane).owed there.0.posted lane) (delayed_answer board (is_read rest.command) there.0.delayed lane (world lane).held (world (lane_back lane)).standing (find (is_own board on by o) (world lane).held)) ≡ Gives step place in subst H delayed by_bridge)
