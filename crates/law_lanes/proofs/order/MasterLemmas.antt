-- The posted writes on the lanes are those of masters, in every run.
use Rattle.std.proofs.Common.{◌≡◌, ℕ, ◌==◌, Bool, true, false, ◌||◌, cond, List, [], ◌∷◌, ◌++◌, refl, subst}
use Rattle.std.specs.List.{list_any, AllByRecursion}
use Rattle.list_facts.specs.Lists.{less}
use Rattle.list_facts.proofs.EachLemmas.{Each-append, Each-weaker}
use Rattle.pci_command.specs.declared.op_id.OpId.{OpId}
use Rattle.board_model.specs.declared.bridge.Lane.{Lane as BridgeLane}
use Rattle.board_model.specs.declared.bridge.Place.{Place}
use Rattle.board_model.specs.declared.bridge.Place.TheVariants.{Target, Header, Lane, Nobody}
use Rattle.board_model.specs.declared.board.Board.{Board}
use Rattle.board_model.specs.Ways.{end_of}
use Rattle.history_model.specs.declared.event.By.{By}
use Rattle.history_model.specs.declared.event.By.TheVariants.{Master, Lane as ByLane}
use Rattle.history_model.specs.declared.event.Step.{Step}
use Rattle.history_model.specs.declared.event.Step.TheVariants.{Land, Part, Read, Accept, Latch, Take, Stall, MasterAbort, TargetAbort}
use Rattle.history_model.specs.declared.event.Event.{Event}
use Rattle.history_model.specs.declared.event.Event.TheVariants.{Act, Arrive}
use Rattle.history_model.specs.declared.item.Carried.{Carried}
use Rattle.history_model.specs.declared.item.Answer.TheVariants.{Gives}
use Rattle.history_model.specs.Lanes.{is_of}
use Rattle.history_model.specs.World.{same_lane, world_of}
use Rattle.history_model.specs.Answers.{wants, answer, presents}
use Rattle.history_model.specs.Runs.{Allowed, Run}
use Rattle.history_model.proofs.facts.AnswerLemmas.{answered_at}
use Rattle.law_lanes.proofs.Laws.{RightKind-run}
use Rattle.history_model.proofs.facts.RequestLemmas.{same_op_self}
use Rattle.law_lanes.specs.order.Order.{posts, is_posted_op, enters_by, entering, entered, left}
use Rattle.law_lanes.specs.order.Masters.{accepts_from_master, MastersWrite}
use Rattle.law_lanes.proofs.order.PostLemmas.{op_is_posted, posts-less_first}
use Rattle.std.proofs.lemmas.Bool.{and_parts}
use Rattle.law_lanes.proofs.order.OrderRunLemmas.{InOrder-run}

Each-second : {X : Type 0} (P : X → Type 0) (xs ys : List X) → AllByRecursion P (xs ++ ys) → AllByRecursion P ys
Each-second P [] ys each = each
Each-second P (x ∷ xs) ys each = Each-second P xs ys each.1

Each-first : {X : Type 0} (P : X → Type 0) (xs ys : List X) → AllByRecursion P (xs ++ ys) → AllByRecursion P xs
Each-first P [] ys each = tt
Each-first P (x ∷ xs) ys each = (each.0, Each-first P xs ys each.1)

-- what entered is masters' writes; so is what stands and what is in flight
pub stands_owned : (board : Board) (h : List Event) (l : BridgeLane) (P : OpId → Type 0) → Run board h → AllByRecursion P (entered l h) → AllByRecursion P (posts (world_of board h l).standing)
stands_owned board h l P run each =
    let here = subst (AllByRecursion P) (InOrder-run board h run l) each in
    let gone : List OpId = left board l h in
    let st : List OpId = posts (world_of board h l).standing in
    Each-second P gone st (Each-first P (gone ++ st) (posts (world_of board h l).flight) here)

pub flies_owned : (board : Board) (h : List Event) (l : BridgeLane) (P : OpId → Type 0) → Run board h → AllByRecursion P (entered l h) → AllByRecursion P (posts (world_of board h l).flight)
flies_owned board h l P run each =
    let here = subst (AllByRecursion P) (InOrder-run board h run l) each in
    Each-second P (left board l h ++ posts (world_of board h l).standing) (posts (world_of board h l).flight) here

pub or_true : (a b : Bool) → b ≡ true → (a || b) ≡ true
or_true true b is = refl
or_true false b is = is

-- it stays so
stays_owned : (board : Board) (h : List Event) (e : Event) (o : OpId) → MastersWrite board h o → MastersWrite board (e ∷ h) o
stays_owned board h e o old =
    record { is_write = old.is_write; is_accepted = or_true (accepts_from_master o e) (list_any (accepts_from_master o) h) old.is_accepted }

module _ (board : Board) (h : List Event) (run : Run board h) (old : (l : BridgeLane) → AllByRecursion (MastersWrite board h) (entered l h)) where
  -- whom a bridge takes a posted write from
  accepted_owned : (on : ℕ) (by : By) (o : OpId) (place : Place) → is_posted_op board o ≡ true → wants board h on by o ≡ true → MastersWrite board (Act on by o Accept place ∷ h) o
  accepted_owned on Master o place posted wanted =
      let self = same_op_self o in
      record { is_write = posted; is_accepted = rw self refl }
  accepted_owned on (ByLane k) o place posted wanted =
      let st : List Carried = (world_of board h k).standing in
      let presented : presents board on o st ≡ true = (and_parts (end_of board k == on) (presents board on o st) wanted).1 in
      let first : posts st ≡ o ∷ posts (less (is_of o) st) = posts-less_first board on o st posted (RightKind-run board h k run).1 presented in
      let each = subst (AllByRecursion (MastersWrite board h)) first (stands_owned board h k (MastersWrite board h) run (old k)) in
      stays_owned board h (Act on (ByLane k) o Accept place) o each.0

  accept_owned : (on : ℕ) (by : By) (o : OpId) (place : Place) (l : BridgeLane) → wants board h on by o ≡ true → answer board h on by o ≡ Gives Accept place
      → AllByRecursion (MastersWrite board (Act on by o Accept place ∷ h)) (enters_by l o Accept place)
  accept_owned on by o (Target target) l wanted gives = tt
  accept_owned on by o (Header bus) l wanted gives = tt
  accept_owned on by o (Lane at) l wanted gives =
      let claimed = answered_at board h on by o Accept at gives in
      let posted : is_posted_op board o ≡ true = op_is_posted board on o claimed.request true claimed.is_request claimed.gives.0 in
      let P : Bool → Type 0 = λ b. AllByRecursion (MastersWrite board (Act on by o Accept (Lane at) ∷ h)) (cond b (o ∷ []) []) in
      elim (same_lane at l) as P [ true ↦ (accepted_owned on by o (Lane at) posted wanted, tt) | false ↦ tt ]
  accept_owned on by o Nobody l wanted gives = tt

  step_owned : (on : ℕ) (by : By) (o : OpId) (step : Step) (place : Place) (l : BridgeLane) → wants board h on by o ≡ true → answer board h on by o ≡ Gives step place
      → AllByRecursion (MastersWrite board (Act on by o step place ∷ h)) (enters_by l o step place)
  step_owned on by o Land place l wanted gives = tt
  step_owned on by o (Part phases) place l wanted gives = tt
  step_owned on by o (Read value) place l wanted gives = tt
  step_owned on by o Accept place l wanted gives = accept_owned on by o place l wanted gives
  step_owned on by o Latch place l wanted gives = tt
  step_owned on by o (Take outcome) place l wanted gives = tt
  step_owned on by o Stall place l wanted gives = tt
  step_owned on by o MasterAbort place l wanted gives = tt
  step_owned on by o TargetAbort place l wanted gives = tt

  event_owned : (e : Event) (l : BridgeLane) → Allowed board h e → AllByRecursion (MastersWrite board (e ∷ h)) (entering l e)
  event_owned (Act on by o step place) l allowed = step_owned on by o step place l allowed.0 allowed.1
  event_owned (Arrive lane mark) l allowed = tt

pub Owned-run : (board : Board) (h : List Event) → Run board h → (l : BridgeLane) → AllByRecursion (MastersWrite board h) (entered l h)
Owned-run board [] run l = tt
Owned-run board (e ∷ h) run l =
    let old = Owned-run board h run.1 in
    let now : OpId → Type 0 = MastersWrite board (e ∷ h) in
    Each-append now (entered l h) (entering l e) (Each-weaker (MastersWrite board h) now (stays_owned board h e) (entered l h) (old l)) (event_owned board h run.1 old e l run.0)

pub standing_owned : (board : Board) (h : List Event) (l : BridgeLane) → Run board h → AllByRecursion (MastersWrite board h) (posts (world_of board h l).standing)
standing_owned board h l run = stands_owned board h l (MastersWrite board h) run (Owned-run board h run l)

pub flying_owned : (board : Board) (h : List Event) (l : BridgeLane) → Run board h → AllByRecursion (MastersWrite board h) (posts (world_of board h l).flight)
flying_owned board h l run = flies_owned board h l (MastersWrite board h) run (Owned-run board h run l)
