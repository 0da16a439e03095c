-- How a delayed request is answered: by who claims it, at the end of its way or at a lane.
use Rattle.std.proofs.Common.{◌≡◌, ℕ, ◌/◌, ◌%◌, ◌^◌, ◌≤◌, Bool, true, false, cond, nat_lt, List, ◌∷◌, length, Option, Some, None, refl, sym, ap, subst, ◌∙◌, arith, slice_get}
use Rattle.list_facts.proofs.TestLemmas.{list_all-get}
use Rattle.pci_command.specs.declared.request.Request.{Request}
use Rattle.pci_command.specs.declared.op_id.OpId.{OpId}
use Rattle.pci_command.specs.Command.{space_of, is_read}
use Rattle.board_model.specs.declared.agents.Target.{Target as TargetAgent}
use Rattle.board_model.specs.declared.bridge.Bridge.{Bridge}
use Rattle.board_model.specs.declared.bridge.Place.{Place}
use Rattle.board_model.specs.declared.bridge.Place.TheVariants.{Target, Header, Lane, Nobody}
use Rattle.board_model.specs.declared.op.Op.{Op}
use Rattle.board_model.specs.declared.board.Board.{Board}
use Rattle.board_model.specs.Requests.{op_of, request_on, is_posted}
use Rattle.board_model.specs.Claims.{claim}
use Rattle.board_model.specs.Ways.{address_in, aborts_at, is_lane}
use Rattle.board_model.specs.WellFormed.{is_well_formed_target}
use Rattle.board_model.specs.Valid.{IsValid}
use Rattle.board_model.proofs.Laws.{WellFormed-parts, Target-parts}
use Rattle.board_model.specs.HeaderBytes.{header_word}
use Rattle.history_model.specs.declared.event.By.{By}
use Rattle.history_model.specs.declared.event.Step.{Step}
use Rattle.history_model.specs.declared.event.Step.TheVariants.{Land, Part, Read, Stall, MasterAbort, TargetAbort}
use Rattle.history_model.specs.declared.event.Event.{Event}
use Rattle.history_model.specs.declared.event.Event.TheVariants.{Act}
use Rattle.history_model.specs.declared.item.Answer.TheVariants.{Gives}
use Rattle.history_model.specs.World.{world_of}
use Rattle.history_model.specs.Words.{phases_parted, through, without, value_of}
use Rattle.history_model.specs.Answers.{stalls_used, target_step, target_answer, header_answer, bridge_to, answer_by}
use Rattle.history_model.specs.Runs.{Run}
use Rattle.history_model.specs.Steps.{is_stall}
use Rattle.law_bound.specs.changes.Steps.{IsEnd}
use Rattle.law_bound.proofs.reach.Laws.{not_parted, claims_rest, answered}

-- no stall, and no part of a write but an empty one
abbrev Whole : Step → Type 0
Whole step = (is_stall step ≡ false) × (phases_parted step ≡ 0)

-- a target takes at least one data phase at a time
pub some_burst : (board : Board) (place : ℕ) (target : TargetAgent) → IsValid board → slice_get board.targets place ≡ Some target → 1 ≤ target.burst
some_burst board place target valid is =
    (Target-parts target (list_all-get is_well_formed_target board.targets place target (WellFormed-parts board valid.well_formed).targets is)).burst.from

module _ (board : Board) (valid : IsValid board) where
  -- a target that takes no part ends what it answers
  target_ends : (h : List Event) (place : ℕ) (request : Request) (target : TargetAgent) → 1 ≤ target.burst → Whole (target_step board h place request target) → IsEnd (target_step board h place request target)
  target_ends h place request target some =
      let P : Step → Type 0 = λ step. Whole step → IsEnd step in
      let reads : Step = Read (value_of board h (record { target = place; space = space_of request.command; address = address_in (space_of request.command) request.address })) in
      let writes : Step = cond (nat_lt target.burst (length request.phases)) (Part target.burst) Land in
      let A : Bool → Type 0 = λ b. P (cond b (Part target.burst) Land) in
      let a : P writes = elim (nat_lt target.burst (length request.phases)) as A [ true ↦ λ whole. absurd (omega (arith, whole.1, some)) | false ↦ λ _. tt ] in
      let B : Bool → Type 0 = λ b. P (cond b reads writes) in
      let b : B (is_read request.command) = elim (is_read request.command) as B [ true ↦ λ _. tt | false ↦ a ] in
      let C : Bool → Type 0 = λ c. P (cond c TargetAbort (cond (is_read request.command) reads writes)) in
      let c : C (aborts_at target request) = elim (aborts_at target request) as C [ true ↦ λ _. tt | false ↦ b ] in
      let D : Bool → Type 0 = λ d. P (cond d Stall (cond (aborts_at target request) TargetAbort (cond (is_read request.command) reads writes))) in
      elim (nat_lt (stalls_used h place) target.stalls) as D [ true ↦ λ whole. let stalled = whole.0 in cc | false ↦ c ]

  -- the place of an answer where the way ends is no lane
  record Ended (step : Step) (place : Place) : Type 0 where
    is_end : IsEnd step
    no_lane : is_lane place ≡ false

  -- an answer with these is that step at that place
  ended_by : (step given : Step) (place at : Place) → Gives step place ≡ Gives given at → Whole given → (Whole step → IsEnd step) → is_lane place ≡ false → Ended given at
  ended_by step given place at same whole ends none =
      let steps : step ≡ given = cc in
      let places : place ≡ at = cc in
      record { is_end = subst IsEnd steps (ends (subst Whole (sym steps) whole)); no_lane = subst (λ p. is_lane p ≡ false) places none }

  -- the answer of a target
  target_ended : (h : List Event) (place : ℕ) (request : Request) (found : Option TargetAgent) (step : Step) (at : Place) → slice_get board.targets place ≡ found
      → target_answer board h place request found ≡ Gives step at → Whole step → Ended step at
  target_ended h place request None step at is gives whole = ended_by MasterAbort step Nobody at gives whole (λ _. tt) refl
  target_ended h place request (Some target) step at is gives whole =
      ended_by (target_step board h place request target) step (Target place) at gives whole (target_ends h place request target (some_burst board place target valid is)) refl

  -- the answer of a header
  header_ended : (bus : ℕ) (request : Request) (found : Option Bridge) (step : Step) (at : Place) → header_answer bus request found ≡ Gives step at → Whole step → Ended step at
  header_ended bus request None step at gives whole = ended_by MasterAbort step Nobody at gives whole (λ _. tt) refl
  header_ended bus request (Some bridge) step at gives whole = ended_by (Read (header_word bridge (request.address % 2 ^ 8 / 4))) step (Header bus) at gives whole (λ _. tt) refl

  -- an answer where the way of the request ends
  place_ended : (h : List Event) (on : ℕ) (by : By) (o : OpId) (request : Request) (claimant : Place) (step : Step) (at : Place) → is_lane claimant ≡ false
      → answer_by board (world_of board h) h on by o request claimant ≡ Gives step at → Whole step → Ended step at
  place_ended h on by o request (Target target) step at none gives whole = target_ended h target request (slice_get board.targets target) step at refl gives whole
  place_ended h on by o request (Header bus) step at none gives whole = header_ended bus request (bridge_to board bus) step at gives whole
  place_ended h on by o request (Lane lane) step at none gives whole = cc
  place_ended h on by o request Nobody step at none gives whole = ended_by MasterAbort step Nobody at gives whole (λ _. tt) refl

  module _ (h : List Event) (on : ℕ) (by : By) (o : OpId) (op : Op) (step : Step) (place : Place) (run : Run board (Act on by o step place ∷ h)) (is_op : op_of board o ≡ Some op) (delayed : is_posted (request_on op on) ≡ false) (moves : is_stall step ≡ false) where
    -- where no lane claims it, it ends
    pub ends_there : is_lane (claim board on (request_on op on)) ≡ false → IsEnd step × (is_lane place ≡ false)
    ends_there none =
        let rest : Request = without (through h o) (request_on op on) in
        let none_rest : is_lane (claim board on rest) ≡ false = ap is_lane (claims_rest board valid h on by o op step place run is_op delayed) ∙ none in
        let at = place_ended h on by o rest (claim board on rest) step place none_rest (answered board valid h on by o op step place run is_op delayed) (moves, not_parted board valid h on by o op step place run is_op delayed) in
        (at.is_end, at.no_lane)
