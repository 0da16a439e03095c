-- Every completion of a read says what it last read, in every run.
use Rattle.std.proofs.Common.{◌≡◌, ℕ, Bool, true, false, cond, List, [], ◌∷◌, Option, Some, None, refl, sym, ap, subst, ◌∙◌, slice_get}
use Rattle.std.specs.List.{AllByRecursion}
use Rattle.list_facts.proofs.EachLemmas.{Each-find, Each-weaker}
use Rattle.pci_command.specs.declared.request.Request.{Request}
use Rattle.pci_command.specs.declared.command.Command.{Command}
use Rattle.pci_command.specs.declared.command.Command.TheVariants.{MemWrite}
use Rattle.pci_command.specs.declared.op_id.OpId.{OpId}
use Rattle.pci_command.specs.declared.op_id.Outcome.{Outcome}
use Rattle.pci_command.specs.Command.{is_read}
use Rattle.pci_command.specs.Same.{same_command, same_op}
use Rattle.board_model.specs.declared.agents.Master.{Master as MasterAgent}
use Rattle.board_model.specs.declared.bridge.Lane.{Lane as BridgeLane}
use Rattle.board_model.specs.declared.bridge.Place.{Place}
use Rattle.board_model.specs.declared.bridge.Place.TheVariants.{Target, Header, Lane, Nobody}
use Rattle.board_model.specs.declared.op.Op.{Op}
use Rattle.board_model.specs.declared.board.Board.{Board}
use Rattle.board_model.specs.Requests.{command_of, op_of, request_on, request_of, is_posted}
use Rattle.board_model.specs.Claims.{claim}
use Rattle.board_model.specs.Valid.{IsValid}
use Rattle.board_model.specs.Ways.{is_lane, lane_back}
use Rattle.history_model.specs.declared.event.By.{By}
use Rattle.history_model.specs.declared.event.By.TheVariants.{Master, Lane as ByLane}
use Rattle.history_model.specs.declared.event.Step.{Step}
use Rattle.history_model.specs.declared.event.Step.TheVariants.{Land, Part, Read, Accept, Latch, Take, Stall, MasterAbort, TargetAbort}
use Rattle.history_model.specs.declared.event.Event.{Event}
use Rattle.history_model.specs.declared.event.Event.TheVariants.{Act, Arrive}
use Rattle.history_model.specs.declared.item.Carried.{Carried}
use Rattle.history_model.specs.declared.item.Carried.TheVariants.{Post, Ask, Done, Room, Gone}
use Rattle.history_model.specs.declared.item.Answer.TheVariants.{Gives}
use Rattle.history_model.specs.Lanes.{is_done_for}
use Rattle.history_model.specs.World.{lane_outcome, world_of}
use Rattle.history_model.specs.Program.{master_outcome, ending_of}
use Rattle.history_model.specs.Knowledge.{Reading, outcome_in, ends_as, reading_of, reading_by, reading_or, last_reading}
use Rattle.history_model.specs.Answers.{answer}
use Rattle.history_model.specs.Runs.{Run}
use Rattle.law_lanes.specs.Owners.{TakesItsOwn}
use Rattle.history_model.proofs.facts.AnswerLemmas.{AtLane, answered_at}
use Rattle.law_lanes.proofs.Laws.{TakesItsOwn-run, WellFormed-numbers, WellFormed-single}
use Rattle.history_model.proofs.facts.RequestLemmas.{same_op_true}
use Rattle.history_model.proofs.facts.PostedLemmas.{write_not_read}
use Rattle.law_bound.proofs.reach.Laws.{lane_there}
use Rattle.history_model.specs.Steps.{is_stall}
use Rattle.law_fresh.proofs.reads.AboutLemmas.{NotDone, none_about}
use Rattle.law_fresh.proofs.reads.WordLemmas.{word_of, word_there}
use Rattle.law_fresh.proofs.reads.FitLemmas.{Good, Fits, LaneFits, WorldFits, Brings, act_fits, arrival_fits}
use Rattle.law_fresh.proofs.reads.AnswerLemmas.{What, read_answered}

-- what was read has a word
abbrev pub HasWord : Bool → Option Reading → Type 0
HasWord word None = Unit {0}
HasWord word (Some reading) = word ≡ true

-- where there is no word nothing was read, and every outcome says so
none_good : (word : Bool) (last : Option Reading) (outcome : Outcome) → HasWord word last → word ≡ false → Good word last outcome
none_good word None outcome has none = none
none_good word (Some reading) outcome has none = let e : true ≡ false = sym has ∙ none in cc

-- an item that is no completion of the operation fits
not_done_fits : (o : OpId) (word : Bool) (last : Option Reading) (item : Carried) → NotDone o item → Fits o word last item
not_done_fits o word last (Post op) none = tt
not_done_fits o word last (Ask op slot) none = tt
not_done_fits o word last (Done op slot outcome) none = λ is. let e : true ≡ false = sym is ∙ none in cc
not_done_fits o word last Room none = tt
not_done_fits o word last (Gone slot) none = tt

-- a read is no write in memory
pub not_posted : (command : Command) → is_read command ≡ true → same_command command MemWrite ≡ false
not_posted command read =
    let P : Bool → Type 0 = λ b. same_command command MemWrite ≡ b → b ≡ false in
    (elim (same_command command MemWrite) as P [
      | true ↦ λ is. let e : true ≡ false = sym read ∙ (write_not_read command is).0 in cc
      | false ↦ λ _. refl
    ]) refl

-- the outcome with which an event ends the operation at its master
brings_good : (o : OpId) (word : Bool) (last : Option Reading) (p : OpId) (given : Option Outcome) (outcome : Outcome) → Brings o word last p given → outcome_in o (ending_of p given) ≡ Some outcome → Good word last outcome
brings_good o word last p None outcome brings is = cc
brings_good o word last p (Some given) outcome brings is =
    let P : Bool → Type 0 = λ b. same_op p o ≡ b → cond b (Some given) None ≡ Some outcome → Good word last outcome in
    (elim (same_op p o) as P [
      | true ↦ λ same e. let one : given ≡ outcome = cc in subst (Good word last) one (brings same)
      | false ↦ λ _ e. cc
    ]) refl is

-- an event of another operation brings nothing of this one
other_brings : (o : OpId) (word : Bool) (last : Option Reading) (p : OpId) (given : Option Outcome) → same_op p o ≡ false → Brings o word last p given
other_brings o word last p None other = tt
other_brings o word last p (Some given) other = λ is. let e : true ≡ false = sym is ∙ other in cc

module _ (board : Board) (valid : IsValid board) (o : OpId) (op : Op) (is_op : op_of board o ≡ Some op) (read : is_read (command_of op) ≡ true) (master : MasterAgent) (is_master : slice_get board.masters o.master ≡ Some master) where
  -- whether it has a word
  abbrev pub word : Bool
  word = word_of board op master.bus

  -- what was read last has a word, and every completion says it
  pub record Known (last : Option Reading) (h : List Event) : Type 0 where
    pub has : HasWord word last
    pub fits : (lane : BridgeLane) → LaneFits o word last (world_of board h lane)

  -- the same after an event, and the outcome with which it ended the operation at its master says it
  pub record After (e : Event) (h : List Event) (last : Option Reading) : Type 0 where
    pub known : Known last (e ∷ h)
    pub ends : (outcome : Outcome) → ends_as o e ≡ Some outcome → Good word last outcome

  -- what an act does of it
  record Moves (h : List Event) (p : OpId) (step : Step) (last : Option Reading) : Type 0 where
    has : HasWord word last
    fits : WorldFits o word last (world_of board h)
    by_lane : (k : BridgeLane) → Brings o word last p (lane_outcome board k p step)
    by_master : Brings o word last p (master_outcome step)

  -- so it is after the act
  moves_after : (h : List Event) (on : ℕ) (by : By) (p : OpId) (step : Step) (place : Place) (last : Option Reading) → Moves h p step last → After (Act on by p step place) h last
  moves_after h on Master p step place last moves =
      record {
        known = record { has = moves.has; fits = λ lane. act_fits o word last board on Master p step place (world_of board h) tt moves.fits lane };
        ends = λ outcome is. brings_good o word last p (master_outcome step) outcome moves.by_master is;
      }
  moves_after h on (ByLane k) p step place last moves =
      record {
        known = record { has = moves.has; fits = λ lane. act_fits o word last board on (ByLane k) p step place (world_of board h) (moves.by_lane k) moves.fits lane };
        ends = λ outcome is. cc;
      }

  -- an act of another operation
  other_moves : (h : List Event) (p : OpId) (step : Step) (last : Option Reading) → same_op p o ≡ false → Known last h → Moves h p step last
  other_moves h p step last other known =
      record {
        has = known.has;
        fits = known.fits;
        by_lane = λ k. other_brings o word last p (lane_outcome board k p step) other;
        by_master = other_brings o word last p (master_outcome step) other;
      }

  -- a step where the way ends, that ends it without a word
  no_word_moves : (h : List Event) (step : Step) (last : Option Reading) → Known last h → word ≡ false → Moves h o step last
  no_word_moves h step last known none =
      let any : (given : Option Outcome) → Brings o word last o given =
      λ given. let P : Option Outcome → Type 0 = λ g. Brings o word last o g in elim given as P [ None ↦ tt | Some outcome ↦ λ _. none_good word last outcome known.has none ] in
      record { has = known.has; fits = known.fits; by_lane = λ k. any (lane_outcome board k o step); by_master = any (master_outcome step) }

  -- the operation reads at a target
  read_moves : (h : List Event) (value : ℕ) (reading : Reading) → value ≡ reading.value → word ≡ true
      → ((lane : BridgeLane) → AllByRecursion (NotDone o) (world_of board h lane).flight × AllByRecursion (NotDone o) (world_of board h lane).standing) → Moves h o (Read value) (Some reading)
  read_moves h value reading same has none =
      let fit : (item : Carried) → NotDone o item → Fits o word (Some reading) item = not_done_fits o word (Some reading) in
      record {
        has = has;
        fits = λ lane. (Each-weaker (NotDone o) (Fits o word (Some reading)) fit (world_of board h lane).flight (none lane).0, Each-weaker (NotDone o) (Fits o word (Some reading)) fit (world_of board h lane).standing (none lane).1);
        by_lane = λ k _. same;
        by_master = λ _. same;
      }

  -- a step of it where its way ends
  end_moves : (h : List Event) (on : ℕ) (step : Step) (place : Place) (last : Option Reading) → Known last h → What word step place
      → ((lane : BridgeLane) → AllByRecursion (NotDone o) (world_of board h lane).flight × AllByRecursion (NotDone o) (world_of board h lane).standing)
      → Moves h o step (reading_or (reading_by board h on o step place) last)
  end_moves h on Land place last known what none = absurd what
  end_moves h on (Part phases) place last known what none = absurd what
  end_moves h on (Read value) (Target target) last known what none =
      let requested : request_of board o on ≡ Some (request_on op on) = rw is_op refl in
      let F : Option Request → Type 0 = λ some. Moves h o (Read value) (reading_or (reading_of target value h some) last) in
      let there : F (Some (request_on op on)) = read_moves h value _ refl what none in
      subst F (sym requested) there
  end_moves h on (Read value) (Header bus) last known what none = no_word_moves h (Read value) last known what
  end_moves h on (Read value) (Lane lane) last known what none = absurd what
  end_moves h on (Read value) Nobody last known what none = absurd what
  end_moves h on Accept place last known what none = absurd what
  end_moves h on Latch place last known what none = absurd what
  end_moves h on (Take outcome) place last known what none = absurd what
  end_moves h on Stall place last known what none = record { has = known.has; fits = known.fits; by_lane = λ k. tt; by_master = tt }
  end_moves h on MasterAbort place last known what none = no_word_moves h MasterAbort last known what
  end_moves h on TargetAbort place last known what none = no_word_moves h TargetAbort last known what

  -- a step of it at a lane
  lane_moves : (h : List Event) (on : ℕ) (by : By) (step : Step) (lane : BridgeLane) (last : Option Reading) → Known last h → AtLane board h on by o step lane
      → ((outcome : Outcome) → step ≡ Take outcome → TakesItsOwn board h on by o outcome lane)
      → Moves h o step (reading_or (reading_by board h on o step (Lane lane)) last)
  lane_moves h on by Land lane last known at own = absurd at.gives
  lane_moves h on by (Part phases) lane last known at own = absurd at.gives
  lane_moves h on by (Read value) lane last known at own = absurd at.gives
  lane_moves h on by Accept lane last known at own =
      let requested : request_of board o on ≡ Some (request_on op on) = rw is_op refl in
      let is = at.is_request in
      let one : at.request ≡ request_on op on = cc in
      let posted : is_posted (request_on op on) ≡ true = subst (λ r. is_posted r ≡ true) one at.gives.0 in
      let e : true ≡ false = sym posted ∙ not_posted (command_of op) read in
      cc
  lane_moves h on by Latch lane last known at own = record { has = known.has; fits = known.fits; by_lane = λ k. tt; by_master = tt }
  lane_moves h on by (Take outcome) lane last known at own =
      let mine = own outcome refl in
      let fits : Fits o word last (Done o mine.slot.number outcome) =
      Each-find (Fits o word last) (is_done_for mine.slot.number) (world_of board h (lane_back lane)).standing (Done o mine.slot.number outcome) (known.fits (lane_back lane)).1 mine.stands in
      record { has = known.has; fits = known.fits; by_lane = λ k. fits; by_master = fits }
  lane_moves h on by Stall lane last known at own = absurd at.gives
  lane_moves h on by MasterAbort lane last known at own = absurd at.gives
  lane_moves h on by TargetAbort lane last known at own = absurd at.gives

  -- a stall moves nothing
  stall_moves : (h : List Event) (on : ℕ) (step : Step) (place : Place) (last : Option Reading) → Known last h → is_stall step ≡ true → Moves h o step (reading_or (reading_by board h on o step place) last)
  stall_moves h on Land place last known stall = cc
  stall_moves h on (Part phases) place last known stall = cc
  stall_moves h on (Read value) place last known stall = cc
  stall_moves h on Accept place last known stall = cc
  stall_moves h on Latch place last known stall = cc
  stall_moves h on (Take outcome) place last known stall = cc
  stall_moves h on Stall place last known stall = record { has = known.has; fits = known.fits; by_lane = λ k. tt; by_master = tt }
  stall_moves h on MasterAbort place last known stall = cc
  stall_moves h on TargetAbort place last known stall = cc

  module _ (h : List Event) (on : ℕ) (by : By) (step : Step) (place : Place) (run : Run board (Act on by o step place ∷ h)) (last : Option Reading) (known : Known last h) where
    -- what an act of it comes to
    abbrev Moved : Type 0
    Moved = Moves h o step (reading_or (reading_by board h on o step place) last)

    -- where its way ends
    ended_moves : is_lane (claim board on (request_on op on)) ≡ false → Moved
    ended_moves none =
        let delayed : same_command (command_of op) MemWrite ≡ false = not_posted (command_of op) read in
        let what = read_answered board valid h run.1 on by o op step place is_op read delayed run.0.1 none in
        let there = word_there board valid h run.1 o op master is_op is_master on by delayed run.0.0 none in
        end_moves h on step place last known (subst (λ b. What b step place) (sym there) what) (none_about board valid h run.1 o op is_op on by delayed run.0.0 none)

    -- at a lane
    at_lane_moves : (lane : BridgeLane) → place ≡ Lane lane → Moved
    at_lane_moves lane is =
        let F : Place → Type 0 = λ p. Moves h o step (reading_or (reading_by board h on o step p) last) in
        let gives : answer board h on by o ≡ Gives step (Lane lane) = subst (λ p. answer board h on by o ≡ Gives step p) is run.0.1 in
        let R : Step → Place → Type 0 = λ s p. Run board (Act on by o s p ∷ h) in
        let own : (outcome : Outcome) → step ≡ Take outcome → TakesItsOwn board h on by o outcome lane =
        λ outcome takes. TakesItsOwn-run board h on by o outcome lane (WellFormed-numbers board valid.well_formed) (WellFormed-single board valid.well_formed)
        (subst (λ s. R s (Lane lane)) takes (subst (R step) is run)) in
        let there : F (Lane lane) = lane_moves h on by step lane last known (answered_at board h on by o step lane gives) own in
        subst F (sym is) there

    -- whoever claims it
    claimed_moves : (claimant : Place) → claim board on (request_on op on) ≡ claimant → is_stall step ≡ false → Moved
    claimed_moves (Target target) claims goes = ended_moves (ap is_lane claims)
    claimed_moves (Header bus) claims goes = ended_moves (ap is_lane claims)
    claimed_moves (Lane lane) claims goes =
        at_lane_moves lane (lane_there board valid h on by o op step place run is_op (not_posted (command_of op) read) lane claims)
    claimed_moves Nobody claims goes = ended_moves (ap is_lane claims)

    -- every act of it does that
    act_moves : Moved
    act_moves =
        let P : Bool → Type 0 = λ b. is_stall step ≡ b → Moved in
        (elim (is_stall step) as P [
          | true ↦ λ stall. stall_moves h on step place last known stall
          | false ↦ λ goes. claimed_moves (claim board on (request_on op on)) refl goes
        ]) refl

  -- every event of a run keeps it
  event_after : (e : Event) (h : List Event) → Run board (e ∷ h) → Known (last_reading board o h) h → After e h (last_reading board o (e ∷ h))
  event_after (Act on by p step place) h run known =
      let last : Option Reading = last_reading board o h in
      let P : Bool → Type 0 = λ b. same_op p o ≡ b → After (Act on by p step place) h (reading_or (cond b (reading_by board h on p step place) None) last) in
      (elim (same_op p o) as P [
        | true ↦ λ same.
            let one : p ≡ o = same_op_true p o same in
            let F : OpId → Type 0 = λ q. After (Act on by q step place) h (reading_or (reading_by board h on q step place) last) in
            let run_of : Run board (Act on by o step place ∷ h) = subst (λ q. Run board (Act on by q step place ∷ h)) one run in
            let here : F o = moves_after h on by o step place (reading_or (reading_by board h on o step place) last) (act_moves h on by step place run_of last known) in
            subst F (sym one) here
        | false ↦ λ other. moves_after h on by p step place last (other_moves h p step last other known)
      ]) refl
  event_after (Arrive lane mark) h run known =
      let last : Option Reading = last_reading board o h in
      record {
        known = record { has = known.has; fits = λ l. arrival_fits o word last lane mark board (world_of board h) known.fits l };
        ends = λ outcome is. cc;
      }

  -- it holds in every run
  pub Known-run : (h : List Event) → Run board h → Known (last_reading board o h) h
  Known-run [] run = record { has = tt; fits = λ lane. (tt, tt) }
  Known-run (e ∷ h) run = (event_after e h run (Known-run h run.1)).known

  -- an outcome with which it ended says what was last read
  pub ends_good : (e : Event) (h : List Event) → Run board (e ∷ h) → (outcome : Outcome) → ends_as o e ≡ Some outcome → Good word (last_reading board o (e ∷ h)) outcome
  ends_good e h run outcome is = (event_after e h run (Known-run h run.1)).ends outcome is
