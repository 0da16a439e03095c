-- Where an operation ends that was taught of a write, its bus is covered.
use Rattle.std.proofs.Common.{◌≡◌, ℕ, Bool, true, false, ◌||◌, cond, List, [], ◌∷◌, Option, Some, None, is_some, refl, sym, ap, subst, ◌∙◌, slice_get}
use Rattle.std.specs.List.{list_any, list_all}
use Rattle.list_facts.specs.Lists.{before}
use Rattle.list_facts.proofs.FindLemmas.{find_passes}
use Rattle.pci_command.specs.declared.command.Command.TheVariants.{MemWrite}
use Rattle.pci_command.specs.declared.request.Request.{Request}
use Rattle.pci_command.specs.declared.op_id.OpId.{OpId}
use Rattle.pci_command.specs.declared.op_id.Outcome.{Outcome}
use Rattle.pci_command.specs.Command.{space_of, is_read}
use Rattle.pci_command.specs.Same.{same_op, same_command}
use Rattle.board_model.specs.declared.agents.Master.{Master as MasterAgent}
use Rattle.board_model.specs.declared.agents.Target.{Target as TargetAgent}
use Rattle.board_model.specs.declared.bridge.Lane.{Lane as BridgeLane}
use Rattle.board_model.specs.declared.bridge.Place.{Place}
use Rattle.board_model.specs.declared.bridge.Place.TheVariants.{Target, Header, Lane, Nobody}
use Rattle.board_model.specs.declared.op.Op.{Op}
use Rattle.board_model.specs.declared.board.Board.{Board}
use Rattle.board_model.specs.Requests.{op_of, command_of, request_on, request_of, is_posted}
use Rattle.board_model.specs.Claims.{claim}
use Rattle.board_model.specs.Ways.{Dword, address_in, end_of, start_of, is_lane, lane_back}
use Rattle.board_model.specs.Valid.{IsValid}
use Rattle.history_model.specs.declared.event.By.{By}
use Rattle.history_model.specs.declared.event.Step.{Step}
use Rattle.history_model.specs.declared.event.Step.TheVariants.{Land, Part, Read, Accept, Latch, Take, Stall, MasterAbort, TargetAbort}
use Rattle.history_model.specs.declared.event.Event.{Event}
use Rattle.history_model.specs.declared.event.Event.TheVariants.{Act}
use Rattle.history_model.specs.declared.item.Carried.{Carried}
use Rattle.history_model.specs.declared.item.Carried.TheVariants.{Post, Ask, Done, Room, Gone}
use Rattle.history_model.specs.declared.item.Answer.TheVariants.{Gives}
use Rattle.history_model.specs.declared.item.Slot.{Slot}
use Rattle.history_model.specs.Lanes.{is_post, is_done_for}
use Rattle.history_model.specs.World.{world_of}
use Rattle.history_model.specs.Program.{master_outcome}
use Rattle.history_model.specs.Words.{Landing, through, without, landed}
use Rattle.history_model.specs.Knowledge.{Reading, reading_of, reading_by, reading_in, reading_or, last_reading, has_landed, is_landing_of}
use Rattle.history_model.specs.Answers.{completion_passes, answer_to}
use Rattle.history_model.specs.Runs.{Run}
use Rattle.std.proofs.lemmas.Bool.{and_parts, or_left}
use Rattle.law_fresh.specs.Aware.{Aware, knows, shows, shown, taught_by, taught_after, aware_of, bears}
use Rattle.law_fresh.specs.Cover.{covered, Informed}
use Rattle.law_fresh.proofs.SafeLemmas.{Safe-find}
use Rattle.law_fresh.proofs.TargetLemmas.{answers_on}
use Rattle.history_model.proofs.facts.AnswerLemmas.{AtLane, answered_at}
use Rattle.law_lanes.proofs.Laws.{claim_starts, TakesItsOwn-run, WellFormed-numbers, WellFormed-single}
use Rattle.history_model.proofs.facts.RequestLemmas.{same_op_true, same_op_self}
use Rattle.law_bound.proofs.reach.Laws.{lane_there}
use Rattle.history_model.specs.Steps.{is_stall}
use Rattle.list_facts.proofs.AnyLemmas.{any_some, found_any}
use Rattle.law_fresh.proofs.reads.Laws.{What, read_answered, word_of, word_by, word_there, HasWord, not_posted, Known-run, no_reading, read_or_not}

-- what was taught was last read
taught_by_read : (board : Board) (w : OpId) (aware : Aware) (old : Bool) (here last : Option Reading) → (old ≡ true → is_some last ≡ true) → taught_by board w aware old here ≡ true → is_some (reading_or here last) ≡ true
taught_by_read board w aware old None last older is = older is
taught_by_read board w aware old (Some reading) last older is = refl

pub taught_read : (board : Board) (w : OpId) (h : List Event) (o : OpId) → (aware_of board w h).taught o ≡ true → is_some (last_reading board o h) ≡ true
taught_read board w [] o is = cc
taught_read board w (e ∷ h) o is =
    taught_by_read board w (aware_of board w h) ((aware_of board w h).taught o) (reading_in board h o e) (last_reading board o h) (taught_read board w h o) is

-- a read with a word ends only as its target gives it, or as its completion is taken
has_word : (word : Bool) (last : Option Reading) → is_some last ≡ true → HasWord word last → word ≡ true
has_word word None some has = cc
has_word word (Some reading) some has = has

-- the other lane of a bridge ends where the lane starts
pub back_ends : (board : Board) (lane : BridgeLane) → end_of board (lane_back lane) ≡ start_of board lane
back_ends board lane =
    let P : Bool → Type 0 = λ up. end_of board (lane_back (record { bus = lane.bus; up = up })) ≡ start_of board (record { bus = lane.bus; up = up }) in
    elim lane.up as P [ true ↦ refl | false ↦ refl ]

-- no read at a target
abbrev NoReading : Step → Place → Type 0
NoReading Land place = Unit {0}
NoReading (Part phases) place = Unit {0}
NoReading (Read value) (Target target) = ⊥
NoReading (Read value) (Header bus) = Unit {0}
NoReading (Read value) (Lane lane) = Unit {0}
NoReading (Read value) Nobody = Unit {0}
NoReading Accept place = Unit {0}
NoReading Latch place = Unit {0}
NoReading (Take outcome) place = Unit {0}
NoReading Stall place = Unit {0}
NoReading MasterAbort place = Unit {0}
NoReading TargetAbort place = Unit {0}

over : (X : Type 0) (step : Step) (place : Place) (outcome : Outcome) → What true step place → master_outcome step ≡ Some outcome → NoReading step place → X
over X Land place outcome what ends none = absurd what
over X (Part phases) place outcome what ends none = absurd what
over X (Read value) (Target target) outcome what ends none = absurd none
over X (Read value) (Header bus) outcome what ends none = cc
over X (Read value) (Lane lane) outcome what ends none = absurd what
over X (Read value) Nobody outcome what ends none = absurd what
over X Accept place outcome what ends none = absurd what
over X Latch place outcome what ends none = absurd what
over X (Take given) place outcome what ends none = absurd what
over X Stall place outcome what ends none = cc
over X MasterAbort place outcome what ends none = cc
over X TargetAbort place outcome what ends none = cc

pub ends_moves : (step : Step) (outcome : Outcome) → master_outcome step ≡ Some outcome → is_stall step ≡ false
ends_moves Land outcome is = refl
ends_moves (Part phases) outcome is = refl
ends_moves (Read value) outcome is = refl
ends_moves Accept outcome is = refl
ends_moves Latch outcome is = refl
ends_moves (Take given) outcome is = refl
ends_moves Stall outcome is = cc
ends_moves MasterAbort outcome is = refl
ends_moves TargetAbort outcome is = refl

-- the completion of a read passes no posted write
not_passed : (board : Board) (item : Carried) → completion_passes board true item ≡ true → is_post item ≡ false
not_passed board (Post q) passes = cc
not_passed board (Ask q slot) passes = refl
not_passed board (Done q slot outcome) passes = refl
not_passed board Room passes = refl
not_passed board (Gone slot) passes = refl

none_passed : (board : Board) (older : List Carried) → list_all (completion_passes board true) older ≡ true → list_any is_post older ≡ false
none_passed board [] all = refl
none_passed board (item ∷ older) all =
    let parts = and_parts (completion_passes board true item) (list_all (completion_passes board true) older) all in
    let here = not_passed board item parts.0 in
    rw here (none_passed board older parts.1)

module _ (board : Board) (valid : IsValid board) (w : OpId) (op : Op) (h : List Event) (informed : Informed board w op h) (on : ℕ) (by : By) (o : OpId) where
  abbrev aware : Aware
  aware = aware_of board w h

  abbrev Covered : Type 0
  Covered = covered board w op h on ≡ true

  -- it saw the write, or a write that was told of it, in a word of a target that is on the bus
  shown_source : (place : ℕ) (agent : TargetAgent) (word : Dword) → word.target ≡ place → slice_get board.targets place ≡ Some agent → agent.bus ≡ on → shown board w aware h word ≡ true → Covered
  shown_source place agent word is_target is_agent bus is =
      let some = any_some (shows w aware h) (landed board h word) is in
      let landing : Landing = some.0 in
      let passes : shows w aware h landing ≡ true = find_passes (shows w aware h) (landed board h word) landing some.1 in
      let parts = and_parts (has_landed h landing.op) (same_op landing.op w || knows aware landing.op) passes in
      let lands : list_any (is_landing_of landing.op) (landed board h word) ≡ true = found_any (shows w aware h) (is_landing_of landing.op) (landed board h word) landing some.1 (same_op_self landing.op) in
      let there : slice_get board.targets word.target ≡ Some agent = subst (λ n. slice_get board.targets n ≡ Some agent) (sym is_target) is_agent in
      let P : Bool → Type 0 = λ b. same_op landing.op w ≡ b → (b || knows aware landing.op) ≡ true → Covered in
      (elim (same_op landing.op w) as P [
        | true ↦ λ same _. or_left (has_landed h w) _ (subst (λ p. has_landed h p ≡ true) (same_op_true landing.op w same) parts.0)
        | false ↦ λ other known. subst (λ n. covered board w op h n ≡ true) bus (informed.landings word landing.op agent there other lands known)
      ]) refl parts.1

  -- its completion is taken, and no posted write stands before it
  take_source : (mine : Op) (outcome : Outcome) (lane : BridgeLane) → op_of board o ≡ Some mine → is_read (command_of mine) ≡ true → Run board (Act on by o (Take outcome) (Lane lane) ∷ h)
      → AtLane board h on by o (Take outcome) lane → aware.taught o ≡ true → Covered
  take_source mine outcome lane is_op read run at taught =
      let takes = TakesItsOwn-run board h on by o outcome lane (WellFormed-numbers board valid.well_formed) (WellFormed-single board valid.well_formed) run in
      let back : BridgeLane = lane_back lane in
      let coming : List Carried = (world_of board h back).standing in
      let taken = at.gives.1 in
      let slots : Some taken.slot ≡ Some takes.slot = sym taken.is_own_slot ∙ takes.is_own_slot in
      let requests : Some at.request ≡ Some (request_on mine on) = sym at.is_request ∙ (rw is_op refl) in
      let request : at.request ≡ request_on mine on = cc in
      let reads_it : is_read at.request.command ≡ true = ap (λ (r : Request). is_read r.command) request ∙ read in
      let slot : taken.slot ≡ takes.slot = cc in
      let passed : Slot → Bool → Type 0 = λ s b. list_all (completion_passes board b) (before (is_done_for s.number) coming) ≡ true in
      let by_own : passed takes.slot (is_read at.request.command) = subst (λ s. passed s (is_read at.request.command)) slot taken.passes in
      let by_read : passed takes.slot true = subst (passed takes.slot) reads_it by_own in
      let none : list_any is_post (before (is_done_for takes.slot.number) coming) ≡ false = none_passed board (before (is_done_for takes.slot.number) coming) by_read in
      let sure : covered board w op h (end_of board back) ≡ true =
      Safe-find w (bears w aware) (covered board w op h (end_of board back)) (is_done_for takes.slot.number) coming (world_of board h back).flight (Done o takes.slot.number outcome) (informed.lanes back) takes.stands taught none in
      let start : start_of board lane ≡ on = claim_starts board on (without (through h o) at.request) lane (WellFormed-numbers board valid.well_formed) at.claims in
      subst (λ n. covered board w op h n ≡ true) (back_ends board lane ∙ start) sure

  -- the step of a lane that ends it
  lane_source : (mine : Op) (step : Step) (outcome : Outcome) (lane : BridgeLane) → op_of board o ≡ Some mine → is_read (command_of mine) ≡ true → Run board (Act on by o step (Lane lane) ∷ h)
      → AtLane board h on by o step lane → master_outcome step ≡ Some outcome → aware.taught o ≡ true → Covered
  lane_source mine Land outcome lane is_op read run at ends taught = absurd at.gives
  lane_source mine (Part phases) outcome lane is_op read run at ends taught = absurd at.gives
  lane_source mine (Read value) outcome lane is_op read run at ends taught = absurd at.gives
  lane_source mine Accept outcome lane is_op read run at ends taught =
      let requests : Some at.request ≡ Some (request_on mine on) = sym at.is_request ∙ (rw is_op refl) in
      let request : at.request ≡ request_on mine on = cc in
      let delayed : is_posted at.request ≡ false = ap is_posted request ∙ not_posted (command_of mine) read in
      let e : true ≡ false = sym at.gives.0 ∙ delayed in
      cc
  lane_source mine Latch outcome lane is_op read run at ends taught = cc
  lane_source mine (Take given) outcome lane is_op read run at ends taught = take_source mine given lane is_op read run at taught
  lane_source mine Stall outcome lane is_op read run at ends taught = cc
  lane_source mine MasterAbort outcome lane is_op read run at ends taught = absurd at.gives
  lane_source mine TargetAbort outcome lane is_op read run at ends taught = absurd at.gives

  module _ (step : Step) (place : Place) (outcome : Outcome) (run : Run board (Act on by o step place ∷ h)) (ends : master_outcome step ≡ Some outcome) (none : NoReading step place) (taught : aware.taught o ≡ true) where
    -- it was taught before the event
    old_source : (mine : Op) (master : MasterAgent) → op_of board o ≡ Some mine → is_read (command_of mine) ≡ true → slice_get board.masters o.master ≡ Some master → Covered
    old_source mine master is_op read is_master =
        let delayed : same_command (command_of mine) MemWrite ≡ false = not_posted (command_of mine) read in
        let known = Known-run board valid o mine is_op read master is_master h run.1 in
        let word : word_of board mine master.bus ≡ true = has_word (word_of board mine master.bus) (last_reading board o h) (taught_read board w h o taught) known.has in
        let way_ends : is_lane (claim board on (request_on mine on)) ≡ false → Covered =
        λ no_lane.
        let what = read_answered board valid h run.1 on by o mine step place is_op read delayed run.0.1 no_lane in
        let there = word_there board valid h run.1 o mine master is_op is_master on by delayed run.0.0 no_lane in
        let is : word_by board (request_on mine on) (claim board on (request_on mine on)) ≡ true = sym there ∙ word in
        over Covered step place outcome (subst (λ b. What b step place) is what) ends none in
        let P : Place → Type 0 = λ claimant. claim board on (request_on mine on) ≡ claimant → Covered in
        (elim (claim board on (request_on mine on)) as P [
          | Target target ↦ λ claims. way_ends (ap is_lane claims)
          | Header bus ↦ λ claims. way_ends (ap is_lane claims)
          | Lane lane ↦ λ claims.
              let at_lane : place ≡ Lane lane = lane_there board valid h on by o mine step place run is_op delayed lane claims in
              let R : Place → Type 0 = λ p. Run board (Act on by o step p ∷ h) in
              let run_of : R (Lane lane) = subst R at_lane run in
              lane_source mine step outcome lane is_op read run_of (answered_at board h on by o step lane run_of.0.1) ends taught
          | Nobody ↦ λ claims. way_ends (ap is_lane claims)
        ]) refl

    taught_before : Covered
    taught_before =
        read_or_not board Covered o
        (λ other. let last = no_reading board o h other run.1 in let some = taught_read board w h o taught in let e : is_some (last_reading board o h) ≡ false = ap is_some last in let f : true ≡ false = sym some ∙ e in cc)
        (λ mine is_op read master is_master. old_source mine master is_op read is_master)

  -- where an operation ends that was taught, by this event or before, its bus was covered
  target_source : (value target : ℕ) (request : Option Request) → Run board (Act on by o (Read value) (Target target) ∷ h) → request_of board o on ≡ request
      → taught_by board w aware (aware.taught o) (reading_of target value h request) ≡ true → Covered
  target_source value target None run requested is =
      let F : Option Request → Type 0 = λ found. answer_to board (world_of board h) h on by o found ≡ Gives (Read value) (Target target) in
      let none : F None = subst F requested run.0.1 in
      cc
  target_source value target (Some request) run requested is =
      let there = answers_on board h on by o (Read value) target run.0.1 in
      shown_source target there.0 (record { target = target; space = space_of request.command; address = address_in (space_of request.command) request.address }) refl there.1 there.2 is

  taught_here : (step : Step) (place : Place) (outcome : Outcome) → Run board (Act on by o step place ∷ h) → master_outcome step ≡ Some outcome
      → taught_by board w aware (aware.taught o) (reading_by board h on o step place) ≡ true → Covered
  taught_here Land place outcome run ends is = taught_before Land place outcome run ends tt is
  taught_here (Part phases) place outcome run ends is = cc
  taught_here (Read value) (Target target) outcome run ends is = target_source value target (request_of board o on) run refl is
  taught_here (Read value) (Header bus) outcome run ends is = taught_before (Read value) (Header bus) outcome run ends tt is
  taught_here (Read value) (Lane lane) outcome run ends is = taught_before (Read value) (Lane lane) outcome run ends tt is
  taught_here (Read value) Nobody outcome run ends is = taught_before (Read value) Nobody outcome run ends tt is
  taught_here Accept place outcome run ends is = taught_before Accept place outcome run ends tt is
  taught_here Latch place outcome run ends is = cc
  taught_here (Take given) place outcome run ends is = taught_before (Take given) place outcome run ends tt is
  taught_here Stall place outcome run ends is = cc
  taught_here MasterAbort place outcome run ends is = taught_before MasterAbort place outcome run ends tt is
  taught_here TargetAbort place outcome run ends is = taught_before TargetAbort place outcome run ends tt is

  pub taught_source : (step : Step) (place : Place) (outcome : Outcome) → Run board (Act on by o step place ∷ h) → master_outcome step ≡ Some outcome
      → taught_after board w aware h (Act on by o step place) o ≡ true → Covered
  taught_source step place outcome run ends is =
      let F : Bool → Type 0 = λ b. taught_by board w aware (aware.taught o) (cond b (reading_by board h on o step place) None) ≡ true in
      taught_here step place outcome run ends (subst F (same_op_self o) is)
