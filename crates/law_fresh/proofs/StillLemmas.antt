-- While a completion of a read is about, the read reads nothing more.
use Rattle.std.proofs.Common.{◌≡◌, ℕ, Bool, true, false, cond, List, ◌∷◌, Option, Some, None, is_some, refl, sym, ap, subst, ◌∙◌}
use Rattle.std.specs.List.{AllByRecursion}
use Rattle.list_facts.proofs.EachLemmas.{Each-all, Each-weaker, Each-append}
use Rattle.pci_command.specs.declared.command.Command.TheVariants.{MemWrite}
use Rattle.pci_command.specs.declared.op_id.OpId.{OpId}
use Rattle.pci_command.specs.Command.{is_read}
use Rattle.pci_command.specs.Same.{same_op, same_command}
use Rattle.board_model.specs.declared.bridge.Lane.{Lane as BridgeLane}
use Rattle.board_model.specs.declared.bridge.Place.{Place}
use Rattle.board_model.specs.declared.bridge.Place.TheVariants.{Target, Header, Lane, Nobody}
use Rattle.board_model.specs.declared.op.Op.{Op}
use Rattle.board_model.specs.declared.board.Board.{Board}
use Rattle.board_model.specs.Requests.{op_of, command_of, request_on, request_of}
use Rattle.board_model.specs.Claims.{claim}
use Rattle.board_model.specs.Valid.{IsValid}
use Rattle.history_model.specs.declared.event.By.{By}
use Rattle.history_model.specs.declared.event.Mark.{Mark}
use Rattle.history_model.specs.declared.event.Step.{Step}
use Rattle.history_model.specs.declared.event.Step.TheVariants.{Land, Part, Read, Accept, Latch, Take, Stall, MasterAbort, TargetAbort}
use Rattle.history_model.specs.declared.event.Event.{Event}
use Rattle.history_model.specs.declared.event.Event.TheVariants.{Act, Arrive}
use Rattle.history_model.specs.declared.item.Carried.{Carried}
use Rattle.history_model.specs.declared.item.Carried.TheVariants.{Post, Ask, Done, Room, Gone}
use Rattle.history_model.specs.World.{world_of}
use Rattle.history_model.specs.Knowledge.{Reading, reading_by, reading_in, reading_or, last_reading}
use Rattle.history_model.specs.Runs.{Run}
use Rattle.law_fresh.specs.Cover.{items}
use Rattle.law_fresh.proofs.TargetLemmas.{answers_claim}
use Rattle.board_model.specs.Ways.{is_lane}
use Rattle.history_model.proofs.facts.RequestLemmas.{same_op_true, same_op_self}
use Rattle.law_bound.proofs.reach.Laws.{claims_rest}
use Rattle.law_fresh.proofs.reads.Laws.{NotDone, none_about, not_posted, no_reading, read_or_not}

-- what is a completion is not of an operation that reads by the event
abbrev pub Still : Board → List Event → Event → Carried → Type 0
Still board h e (Post q) = Unit {0}
Still board h e (Ask q slot) = Unit {0}
Still board h e (Done q slot outcome) = reading_in board h q e ≡ None
Still board h e Room = Unit {0}
Still board h e (Gone slot) = Unit {0}

-- where an event reads nothing
still_none : (board : Board) (h : List Event) (on : ℕ) (by : By) (o : OpId) (step : Step) (place : Place) → reading_by board h on o step place ≡ None → (item : Carried) → Still board h (Act on by o step place) item
still_none board h on by o step place none (Post q) = tt
still_none board h on by o step place none (Ask q slot) = tt
still_none board h on by o step place none (Done q slot outcome) =
    let P : Bool → Type 0 = λ b. cond b (reading_by board h on o step place) None ≡ None in
    elim (same_op o q) as P [ true ↦ none | false ↦ refl ]
still_none board h on by o step place none Room = tt
still_none board h on by o step place none (Gone slot) = tt

-- where an item is no completion of the operation
still_other : (board : Board) (h : List Event) (on : ℕ) (by : By) (o : OpId) (step : Step) (place : Place) (item : Carried) → NotDone o item → Still board h (Act on by o step place) item
still_other board h on by o step place (Post q) other = tt
still_other board h on by o step place (Ask q slot) other = tt
still_other board h on by o step place (Done q slot outcome) other =
    let P : Bool → Type 0 = λ b. same_op o q ≡ b → cond b (reading_by board h on o step place) None ≡ None in
    (elim (same_op o q) as P [
      | true ↦ λ same.
          let one : o ≡ q = same_op_true o q same in
          let self : same_op q o ≡ true = subst (λ p. same_op p o ≡ true) one (same_op_self o) in
          let e : true ≡ false = sym self ∙ other in
          cc
      | false ↦ λ _. refl
    ]) refl
still_other board h on by o step place Room other = tt
still_other board h on by o step place (Gone slot) other = tt

module _ (board : Board) (valid : IsValid board) (h : List Event) (on : ℕ) (by : By) (o : OpId) where
  -- what claims a read that is answered by a target is no lane
  no_lane : (step : Step) (target : ℕ) (mine : Op) → Run board (Act on by o step (Target target) ∷ h) → op_of board o ≡ Some mine → is_read (command_of mine) ≡ true → (value : ℕ) → step ≡ Read value → is_lane (claim board on (request_on mine on)) ≡ false
  no_lane step target mine run is_op read value is =
      let requested : request_of board o on ≡ Some (request_on mine on) = rw is_op refl in
      let R : Step → Type 0 = λ s. Run board (Act on by o s (Target target) ∷ h) in
      let run_of : R (Read value) = subst R is run in
      let delayed : same_command (command_of mine) MemWrite ≡ false = not_posted (command_of mine) read in
      let claims = answers_claim board h on by o (request_on mine on) (Read value) target requested run_of.0.1 in
      let rest = claims_rest board valid h on by o mine (Read value) (Target target) run_of is_op delayed in
      ap is_lane (sym rest ∙ claims)

  -- where it reads at a target no completion of it is about
  read_still : (value target : ℕ) → Run board (Act on by o (Read value) (Target target) ∷ h) → is_some (reading_by board h on o (Read value) (Target target)) ≡ true → (lane : BridgeLane) → AllByRecursion (Still board h (Act on by o (Read value) (Target target))) (items (world_of board h lane))
  read_still value target run some lane =
      let e : Event = Act on by o (Read value) (Target target) in
      let X : Type 0 = AllByRecursion (Still board h e) (items (world_of board h lane)) in
      read_or_not board X o
      (λ other.
      let none : last_reading board o (e ∷ h) ≡ None = no_reading board o (e ∷ h) other run in
      let F : Bool → Type 0 = λ b. reading_or (cond b (reading_by board h on o (Read value) (Target target)) None) (last_reading board o h) ≡ None in
      let here : F true = subst F (same_op_self o) none in
      let P : Option Reading → Type 0 = λ r. is_some r ≡ true → reading_or r (last_reading board o h) ≡ None → X in
      (elim (reading_by board h on o (Read value) (Target target)) as P [ None ↦ λ f _. cc | Some reading ↦ λ _ f. cc ]) some here)
      (λ mine is_op read master is_master.
      let delayed : same_command (command_of mine) MemWrite ≡ false = not_posted (command_of mine) read in
      let none = none_about board valid h run.1 o mine is_op on by delayed run.0.0 (no_lane (Read value) target mine run is_op read value refl) lane in
      let weaker : (item : Carried) → NotDone o item → Still board h e item = still_other board h on by o (Read value) (Target target) in
      Each-append (Still board h e) (world_of board h lane).standing (world_of board h lane).flight
      (Each-weaker (NotDone o) (Still board h e) weaker (world_of board h lane).standing none.1)
      (Each-weaker (NotDone o) (Still board h e) weaker (world_of board h lane).flight none.0))

  -- an act
  act_still : (step : Step) (place : Place) → Run board (Act on by o step place ∷ h) → (lane : BridgeLane) → AllByRecursion (Still board h (Act on by o step place)) (items (world_of board h lane))
  act_still Land place run lane = Each-all _ (still_none board h on by o Land place refl) (items (world_of board h lane))
  act_still (Part phases) place run lane = Each-all _ (still_none board h on by o (Part phases) place refl) (items (world_of board h lane))
  act_still (Read value) (Target target) run lane =
      let e : Event = Act on by o (Read value) (Target target) in
      let P : Option Reading → Type 0 = λ r. reading_by board h on o (Read value) (Target target) ≡ r → AllByRecursion (Still board h e) (items (world_of board h lane)) in
      (elim (reading_by board h on o (Read value) (Target target)) as P [
        | None ↦ λ none. Each-all _ (still_none board h on by o (Read value) (Target target) none) (items (world_of board h lane))
        | Some reading ↦ λ some. read_still value target run (ap is_some some) lane
      ]) refl
  act_still (Read value) (Header bus) run lane = Each-all _ (still_none board h on by o (Read value) (Header bus) refl) (items (world_of board h lane))
  act_still (Read value) (Lane at) run lane = Each-all _ (still_none board h on by o (Read value) (Lane at) refl) (items (world_of board h lane))
  act_still (Read value) Nobody run lane = Each-all _ (still_none board h on by o (Read value) Nobody refl) (items (world_of board h lane))
  act_still Accept place run lane = Each-all _ (still_none board h on by o Accept place refl) (items (world_of board h lane))
  act_still Latch place run lane = Each-all _ (still_none board h on by o Latch place refl) (items (world_of board h lane))
  act_still (Take outcome) place run lane = Each-all _ (still_none board h on by o (Take outcome) place refl) (items (world_of board h lane))
  act_still Stall place run lane = Each-all _ (still_none board h on by o Stall place refl) (items (world_of board h lane))
  act_still MasterAbort place run lane = Each-all _ (still_none board h on by o MasterAbort place refl) (items (world_of board h lane))
  act_still TargetAbort place run lane = Each-all _ (still_none board h on by o TargetAbort place refl) (items (world_of board h lane))

arrival_still : (board : Board) (h : List Event) (at : BridgeLane) (mark : Mark) (item : Carried) → Still board h (Arrive at mark) item
arrival_still board h at mark (Post q) = tt
arrival_still board h at mark (Ask q slot) = tt
arrival_still board h at mark (Done q slot outcome) = refl
arrival_still board h at mark Room = tt
arrival_still board h at mark (Gone slot) = tt

-- every event
pub event_still : (board : Board) (valid : IsValid board) (h : List Event) (e : Event) → Run board (e ∷ h) → (lane : BridgeLane) → AllByRecursion (Still board h e) (items (world_of board h lane))
event_still board valid h (Act on by o step place) run lane = act_still board valid h on by o step place run lane
event_still board valid h (Arrive at mark) run lane = Each-all (Still board h (Arrive at mark)) (arrival_still board h at mark) (items (world_of board h lane))
