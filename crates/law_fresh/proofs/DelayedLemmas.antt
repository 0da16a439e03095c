-- How a delayed write with a word is covered: it has landed before anybody is told that it ended.
use Rattle.std.proofs.Common.{◌≡◌, ℕ, ◌+◌, ◌*◌, Bool, true, false, not, cond, nat_lt, List, [], ◌∷◌, length, Option, Some, None, is_some, refl, sym, ap, subst, ◌∙◌, arith, slice_get}
use Rattle.std.specs.List.{list_any, AllByRecursion}
use Rattle.std.proofs.lemmas.Bool.{or_left, or_right}
use Rattle.list_facts.proofs.EachLemmas.{Each-find, Each-weaker, Each-append}
use Rattle.pci_command.specs.declared.command.Command.TheVariants.{MemWrite}
use Rattle.pci_command.specs.declared.request.Request.{Request}
use Rattle.pci_command.specs.declared.op_id.OpId.{OpId}
use Rattle.pci_command.specs.declared.op_id.Outcome.{Outcome}
use Rattle.pci_command.specs.Command.{space_of, is_read}
use Rattle.pci_command.specs.Same.{same_op, same_command}
use Rattle.board_model.specs.declared.agents.Master.{Master as MasterAgent}
use Rattle.board_model.specs.declared.agents.Target.{Target as TargetAgent}
use Rattle.board_model.specs.declared.bridge.Lane.{Lane as BridgeLane}
use Rattle.board_model.specs.declared.bridge.Place.{Place}
use Rattle.board_model.specs.declared.bridge.Place.TheVariants.{Target, Header, Lane, Nobody}
use Rattle.board_model.specs.declared.op.Op.{Op}
use Rattle.board_model.specs.declared.board.Board.{Board}
use Rattle.board_model.specs.Requests.{op_of, command_of, request_on, request_of, is_posted}
use Rattle.board_model.specs.Claims.{claim}
use Rattle.board_model.specs.Ways.{address_in, way, end_of, start_of, aborts_at, is_lane, lane_back}
use Rattle.board_model.specs.Valid.{IsValid}
use Rattle.board_model.specs.form_laws.Trees.{IsTree}
use Rattle.history_model.specs.declared.event.By.{By}
use Rattle.history_model.specs.declared.event.By.TheVariants.{Master, Lane as ByLane}
use Rattle.history_model.specs.declared.event.Step.{Step}
use Rattle.history_model.specs.declared.event.Step.TheVariants.{Land, Part, Read, Accept, Latch, Take, Stall, MasterAbort, TargetAbort}
use Rattle.history_model.specs.declared.event.Event.{Event}
use Rattle.history_model.specs.declared.event.Event.TheVariants.{Act, Arrive}
use Rattle.history_model.specs.declared.item.Carried.{Carried}
use Rattle.history_model.specs.declared.item.Carried.TheVariants.{Post, Ask, Done, Room, Gone}
use Rattle.history_model.specs.declared.item.Answer.TheVariants.{Gives}
use Rattle.history_model.specs.declared.rule.Rule.TheVariants.{Tagged}
use Rattle.history_model.specs.Lanes.{is_done_for}
use Rattle.history_model.specs.World.{lane_outcome, world_of}
use Rattle.history_model.specs.Program.{master_outcome}
use Rattle.history_model.specs.Words.{through, without, value_of}
use Rattle.history_model.specs.Answers.{stalls_used, target_step, target_answer, answer_by, answer_to}
use Rattle.history_model.specs.Knowledge.{is_land_of, has_landed}
use Rattle.history_model.specs.Runs.{Run}
use Rattle.law_lanes.specs.Kinds.{NamesOp, RightKind}
use Rattle.law_fresh.specs.Cover.{is_post_of, items, is_on_lane, covered}
use Rattle.law_fresh.proofs.ListLemmas.{or_either}
use Rattle.law_fresh.proofs.MoveLemmas.{WorldHas, Enters, Replies, RepliesBy, act_has, arrival_has}
use Rattle.law_fresh.proofs.InformedLemmas.{step_ends}
use Rattle.law_fresh.proofs.SourceLemmas.{Covers}
use Rattle.law_fresh.proofs.KeptLemmas.{EndsCovered, kept_covered}
use Rattle.board_model.proofs.form_laws.Laws.{IsTree-valid}
use Rattle.history_model.proofs.facts.AnswerLemmas.{AtLane, answered_at}
use Rattle.law_lanes.proofs.Laws.{RightKind-run, TakesItsOwn-run, delayed-not_parted, WellFormed-numbers, WellFormed-single}
use Rattle.history_model.proofs.facts.RequestLemmas.{same_op_true, same_op_self}
use Rattle.law_bound.proofs.reach.Laws.{lane_there}
use Rattle.law_lanes.proofs.order.Laws.{OnlyTakes}
use Rattle.law_fresh.proofs.reads.Laws.{word_at, word_by, word_of, word_there}

-- a target takes a write that it does not abort
target_takes : (board : Board) (h : List Event) (place : ℕ) (request : Request) (target : TargetAgent) → is_read request.command ≡ false → aborts_at target request ≡ false → OnlyTakes (target_step board h place request target)
target_takes board h place request target writes no_abort =
    let long : ℕ = length request.phases in
    let P : Step → Type 0 = OnlyTakes in
    let reads : Step = Read (value_of board h (record { target = place; space = space_of request.command; address = address_in (space_of request.command) request.address })) in
    let A : Bool → Type 0 = λ b. P (cond b (Part target.burst) Land) in
    let a : A (nat_lt target.burst long) = elim (nat_lt target.burst long) as A [ true ↦ tt | false ↦ tt ] in
    let B : Bool → Type 0 = λ b. P (cond b reads (cond (nat_lt target.burst long) (Part target.burst) Land)) in
    let b : B (is_read request.command) = subst B (sym writes) a in
    let C : Bool → Type 0 = λ c. P (cond c TargetAbort (cond (is_read request.command) reads (cond (nat_lt target.burst long) (Part target.burst) Land))) in
    let c : C (aborts_at target request) = subst C (sym no_abort) b in
    let D : Bool → Type 0 = λ d. P (cond d Stall (cond (aborts_at target request) TargetAbort (cond (is_read request.command) reads (cond (nat_lt target.burst long) (Part target.burst) Land)))) in
    elim (nat_lt (stalls_used h place) target.stalls) as D [ true ↦ tt | false ↦ c ]

answer_takes : (board : Board) (h : List Event) (place : ℕ) (request : Request) (found : Option TargetAgent) (step : Step) (at : Place) → is_read request.command ≡ false → word_at request found ≡ true
    → target_answer board h place request found ≡ Gives step at → OnlyTakes step
answer_takes board h place request None step at writes word gives = cc
answer_takes board h place request (Some target) step at writes word gives =
    let P : Bool → Type 0 = λ b. not b ≡ true → b ≡ false in
    let no_abort : aborts_at target request ≡ false = (elim (aborts_at target request) as P [ true ↦ λ e. cc | false ↦ λ _. refl ]) word in
    let steps : target_step board h place request target ≡ step = cc in
    subst OnlyTakes steps (target_takes board h place request target writes no_abort)

place_takes : (board : Board) (h : List Event) (on : ℕ) (by : By) (o : OpId) (request : Request) (claimant : Place) (step : Step) (at : Place) → is_read request.command ≡ false → word_by board request claimant ≡ true
    → answer_by board (world_of board h) h on by o request claimant ≡ Gives step at → OnlyTakes step
place_takes board h on by o request (Target place) step at writes word gives = answer_takes board h place request (slice_get board.targets place) step at writes word gives
place_takes board h on by o request (Header bus) step at writes word gives = cc
place_takes board h on by o request (Lane lane) step at writes word gives = cc
place_takes board h on by o request Nobody step at writes word gives = cc

-- a request of which nothing went through is whole
pub whole : (gone : ℕ) (request : Request) → gone ≡ 0 → without gone request ≡ request
whole gone request none =
    let built : ℕ → Request = λ address. record { command = request.command; address = address; phases = request.phases } in
    let same : request.address + 4 * 0 ≡ request.address = omega arith in
    let at_none : without 0 request ≡ request = ap built same in
    ap (λ n. without n request) none ∙ at_none

-- a completion of the write says that it landed
abbrev pub SaysLanded : OpId → Bool → Carried → Type 0
SaysLanded w landed (Post q) = Unit {0}
SaysLanded w landed (Ask q slot) = Unit {0}
SaysLanded w landed (Done q slot outcome) = same_op q w ≡ true → landed ≡ true
SaysLanded w landed Room = Unit {0}
SaysLanded w landed (Gone slot) = Unit {0}

says_more : (w : OpId) (a b : Bool) → (a ≡ true → b ≡ true) → (item : Carried) → SaysLanded w a item → SaysLanded w b item
says_more w a b more (Post q) says = tt
says_more w a b more (Ask q slot) says = tt
says_more w a b more (Done q slot outcome) says = λ same. more (says same)
says_more w a b more Room says = tt
says_more w a b more (Gone slot) says = tt

module _ (board : Board) (valid : IsValid board) (w : OpId) (op : Op) (is_op : op_of board w ≡ Some op) (writes : is_read (command_of op) ≡ false) (delayed : same_command (command_of op) MemWrite ≡ false)
    (master : MasterAgent) (is_master : slice_get board.masters w.master ≡ Some master) (word : word_of board op master.bus ≡ true) where
  tree : IsTree board
  tree = IsTree-valid board valid

  abbrev Says : List Event → Type 0
  Says h = WorldHas (SaysLanded w (has_landed h w)) (world_of board h)

  -- the write ends for who presents it only where it has landed
  abbrev Lands : List Event → Type 0
  Lands h = (on : ℕ) (by : By) (step : Step) (place : Place) (outcome : Outcome) → Run board (Act on by w step place ∷ h) → master_outcome step ≡ Some outcome → has_landed (Act on by w step place ∷ h) w ≡ true

  module _ (h : List Event) (says : Says h) (on : ℕ) (by : By) where
    -- at a target
    takes_lands : (step : Step) (place : Place) (outcome : Outcome) → OnlyTakes step → master_outcome step ≡ Some outcome → has_landed (Act on by w step place ∷ h) w ≡ true
    takes_lands Land place outcome takes ends =
        let e : Event = Act on by w Land place in
        let self : is_land_of w e ≡ true = let same = same_op_self w in rw same refl in
        or_left (is_land_of w e) (has_landed h w) self
    takes_lands (Part phases) place outcome takes ends = cc
    takes_lands (Read value) place outcome takes ends = absurd takes
    takes_lands Accept place outcome takes ends = absurd takes
    takes_lands Latch place outcome takes ends = absurd takes
    takes_lands (Take given) place outcome takes ends = absurd takes
    takes_lands Stall place outcome takes ends = cc
    takes_lands MasterAbort place outcome takes ends = absurd takes
    takes_lands TargetAbort place outcome takes ends = absurd takes

    -- by its completion
    take_lands : (outcome : Outcome) (lane : BridgeLane) → Run board (Act on by w (Take outcome) (Lane lane) ∷ h) → has_landed (Act on by w (Take outcome) (Lane lane) ∷ h) w ≡ true
    take_lands outcome lane run =
        let takes = TakesItsOwn-run board h on by w outcome lane (WellFormed-numbers board valid.well_formed) (WellFormed-single board valid.well_formed) run in
        let said = Each-find (SaysLanded w (has_landed h w)) (is_done_for takes.slot.number) (world_of board h (lane_back lane)).standing (Done w takes.slot.number outcome) (says (lane_back lane)).1 takes.stands in
        or_right (is_land_of w (Act on by w (Take outcome) (Lane lane))) (has_landed h w) (said (same_op_self w))

    lane_lands : (step : Step) (outcome : Outcome) (lane : BridgeLane) → Run board (Act on by w step (Lane lane) ∷ h) → AtLane board h on by w step lane → master_outcome step ≡ Some outcome → has_landed (Act on by w step (Lane lane) ∷ h) w ≡ true
    lane_lands Land outcome lane run at ends = absurd at.gives
    lane_lands (Part phases) outcome lane run at ends = absurd at.gives
    lane_lands (Read value) outcome lane run at ends = absurd at.gives
    lane_lands Accept outcome lane run at ends =
        let requests : Some at.request ≡ Some (request_on op on) = sym at.is_request ∙ (rw is_op refl) in
        let request : at.request ≡ request_on op on = cc in
        let e : true ≡ false = sym at.gives.0 ∙ (ap is_posted request ∙ delayed) in
        cc
    lane_lands Latch outcome lane run at ends = cc
    lane_lands (Take given) outcome lane run at ends = take_lands given lane run
    lane_lands Stall outcome lane run at ends = cc
    lane_lands MasterAbort outcome lane run at ends = absurd at.gives
    lane_lands TargetAbort outcome lane run at ends = absurd at.gives

    ends_landed : (step : Step) (place : Place) (outcome : Outcome) → Run board (Act on by w step place ∷ h) → master_outcome step ≡ Some outcome → has_landed (Act on by w step place ∷ h) w ≡ true
    ends_landed step place outcome run ends =
        let Goal : Place → Type 0 = λ p. has_landed (Act on by w step p ∷ h) w ≡ true in
        let request : Request = request_on op on in
        let requested : request_of board w on ≡ Some request = rw is_op refl in
        let way_ends : is_lane (claim board on request) ≡ false → Goal place =
        λ none.
        let there = word_there board valid h run.1 w op master is_op is_master on by delayed run.0.0 none in
        let has : word_by board request (claim board on request) ≡ true = sym there ∙ word in
        let gone : through h w ≡ 0 = delayed-not_parted board h w on request (WellFormed-single board valid.well_formed) run.1 requested delayed in
        let F : Option Request → Type 0 = λ found. answer_to board (world_of board h) h on by w found ≡ Gives step place in
        let answered : F (Some request) = subst F requested run.0.1 in
        let G : Request → Type 0 = λ rest. answer_by board (world_of board h) h on by w rest (claim board on rest) ≡ Gives step place in
        let by_whole : G request = subst G (whole (through h w) request gone) answered in
        takes_lands step place outcome (place_takes board h on by w request (claim board on request) step place writes has by_whole) ends in
        let P : Place → Type 0 = λ claimant. claim board on request ≡ claimant → Goal place in
        (elim (claim board on request) as P [
          | Target target ↦ λ claims. way_ends (ap is_lane claims)
          | Header bus ↦ λ claims. way_ends (ap is_lane claims)
          | Lane lane ↦ λ claims.
              let at_lane : place ≡ Lane lane = lane_there board valid h on by w op step place run is_op delayed lane claims in
              let R : Place → Type 0 = λ p. Run board (Act on by w step p ∷ h) in
              let run_of : R (Lane lane) = subst R at_lane run in
              subst Goal (sym at_lane) (lane_lands step outcome lane run_of (answered_at board h on by w step lane run_of.0.1) ends)
          | Nobody ↦ λ claims. way_ends (ap is_lane claims)
        ]) refl

  -- Every completion of the write says that it landed.

  enters_says : (landed : Bool) (o : OpId) (step : Step) → Enters (SaysLanded w landed) o step
  enters_says landed o Land = tt
  enters_says landed o (Part phases) = tt
  enters_says landed o (Read value) = tt
  enters_says landed o Accept = tt
  enters_says landed o Latch = λ slot. tt
  enters_says landed o (Take outcome) = tt
  enters_says landed o Stall = tt
  enters_says landed o MasterAbort = tt
  enters_says landed o TargetAbort = tt

  replies_says : (on : ℕ) (o : OpId) (step : Step) (place : Place) (k : BridgeLane) (h : List Event) → Run board (Act on (ByLane k) o step place ∷ h) → Says h → (outcome : Option Outcome) → lane_outcome board k o step ≡ outcome
      → Replies (SaysLanded w (has_landed (Act on (ByLane k) o step place ∷ h) w)) o outcome
  replies_says on o step place k h run says None is = tt
  replies_says on o step place k h run says (Some outcome) is = λ slot same.
      let given = step_ends board k o step (ap is_some is) in
      let one : o ≡ w = same_op_true o w same in
      let F : OpId → Type 0 = λ p. Run board (Act on (ByLane k) p step place ∷ h) → has_landed (Act on (ByLane k) p step place ∷ h) w ≡ true in
      let by_w : F w = λ r. ends_landed h says on (ByLane k) step place given.0 r given.1 in
      subst F (sym one) by_w run

  replies_by_says : (on : ℕ) (o : OpId) (step : Step) (place : Place) (by : By) (h : List Event) → Run board (Act on by o step place ∷ h) → Says h → RepliesBy (SaysLanded w (has_landed (Act on by o step place ∷ h) w)) board o step by
  replies_by_says on o step place Master h run says = tt
  replies_by_says on o step place (ByLane k) h run says = replies_says on o step place k h run says (lane_outcome board k o step) refl

  says_kept : (e : Event) (h : List Event) → Says h → WorldHas (SaysLanded w (has_landed (e ∷ h) w)) (world_of board h)
  says_kept e h says lane =
      let more : (item : Carried) → SaysLanded w (has_landed h w) item → SaysLanded w (has_landed (e ∷ h) w) item =
      says_more w (has_landed h w) (has_landed (e ∷ h) w) (λ is. or_right (is_land_of w e) (has_landed h w) is) in (
        Each-weaker (SaysLanded w (has_landed h w)) (SaysLanded w (has_landed (e ∷ h) w)) more (world_of board h lane).flight (says lane).0,
        Each-weaker (SaysLanded w (has_landed h w)) (SaysLanded w (has_landed (e ∷ h) w)) more (world_of board h lane).standing (says lane).1,
      )

  event_says : (e : Event) (h : List Event) → Run board (e ∷ h) → Says h → Says (e ∷ h)
  event_says (Act on by o step place) h run says =
      let e : Event = Act on by o step place in
      act_has (SaysLanded w (has_landed (e ∷ h) w)) tt (λ slot. tt) Tagged board on by o step place (world_of board h)
      (enters_says (has_landed (e ∷ h) w) o step) (replies_by_says on o step place by h run says) (says_kept e h says)
  event_says (Arrive lane mark) h run says =
      let e : Event = Arrive lane mark in
      arrival_has (SaysLanded w (has_landed (e ∷ h) w)) tt (λ slot. tt) Tagged board lane mark (world_of board h) (says_kept e h says)

  Says-run : (h : List Event) → Run board h → Says h
  Says-run [] run = λ lane. (tt, tt)
  Says-run (e ∷ h) run = event_says e h run (Says-run h run.1)

  -- It is never posted.

  never_post : (item : Carried) → RightKind board item → is_post_of w item ≡ false
  never_post (Post q) right =
      let P : Bool → Type 0 = λ b. same_op q w ≡ b → b ≡ false in
      (elim (same_op q w) as P [
        | true ↦ λ same.
            let one : q ≡ w = same_op_true q w same in
            let names : NamesOp board true w = subst (NamesOp board true) one right in
            let ops : Some names.op ≡ Some op = sym names.is_op ∙ is_op in
            let one_op : names.op ≡ op = cc in
            let posted : same_command (command_of op) MemWrite ≡ true = subst (λ p. same_command (command_of p) MemWrite ≡ true) one_op names.is_posted in
            let e : true ≡ false = sym posted ∙ delayed in
            cc
        | false ↦ λ _. refl
      ]) refl
  never_post (Ask q slot) right = refl
  never_post (Done q slot outcome) right = refl
  never_post Room right = refl
  never_post (Gone slot) right = refl

  none_posted : (xs : List Carried) → AllByRecursion (RightKind board) xs → list_any (is_post_of w) xs ≡ false
  none_posted [] right = refl
  none_posted (x ∷ xs) right = let here = never_post x right.0 in rw here (none_posted xs right.1)

  never_on : (h : List Event) (lane : BridgeLane) → Run board h → is_on_lane w (world_of board h) lane ≡ false
  never_on h lane run =
      let right = RightKind-run board h lane run in
      let state = world_of board h lane in
      none_posted (items state) (Each-append (RightKind board) state.standing state.flight right.1 right.0)

  none_on : (h : List Event) (lanes : List BridgeLane) → Run board h → list_any (is_on_lane w (world_of board h)) lanes ≡ false
  none_on h [] run = refl
  none_on h (lane ∷ lanes) run = let here = never_on h lane run in rw here (none_on h lanes run)

  covered_landed : (h : List Event) (on : ℕ) → Run board h → covered board w op h on ≡ true → has_landed h w ≡ true
  covered_landed h on run is =
      or_either (has_landed h w ≡ true) (has_landed h w) (list_any (is_on_lane w (world_of board h)) (way board op on)) (λ landed. landed)
      (λ there. let e : true ≡ false = sym there ∙ none_on h (way board op on) run in cc) is

  landed_covered : (h : List Event) (on : ℕ) → has_landed h w ≡ true → covered board w op h on ≡ true
  landed_covered h on landed = or_left (has_landed h w) (list_any (is_on_lane w (world_of board h)) (way board op on)) landed

  delayed_ends : (h : List Event) → Run board h → EndsCovered board tree w op h
  delayed_ends h before on by step place outcome run ends =
      landed_covered (Act on by w step place ∷ h) on (ends_landed h (Says-run h before) on by step place outcome run ends)

  -- so a delayed write is covered
  pub delayed_covers : Covers board w op
  delayed_covers =
      record {
        kept = λ e h on run is. kept_covered board tree w op h (delayed_ends h run.1) e on run is;
        crosses = λ h lane bridge run is_bridge is.
            or_left (covered board w op h (end_of board lane)) (is_on_lane w (world_of board h) lane)
            (landed_covered h (end_of board lane) (covered_landed h (start_of board lane) run is));
        ends = λ h on by step place outcome run ends. delayed_ends h run.1 on by step place outcome run ends;
      }
