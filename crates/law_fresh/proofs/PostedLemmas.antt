-- How a posted write with a word is covered: it has landed, or is on its way.
use Rattle.std.proofs.Common.{◌≡◌, ℕ, Bool, true, false, not, ◌==◌, cond, nat_lt, List, ◌∷◌, Option, Some, None, refl, sym, ap, subst, ◌∙◌, slice_get, ⊎_elim}
use Rattle.std.specs.List.{find, list_any, AllByRecursion}
use Rattle.list_facts.specs.Lists.{less}
use Rattle.pci_command.specs.declared.command.Command.TheVariants.{MemWrite}
use Rattle.pci_command.specs.declared.request.Request.{Request}
use Rattle.pci_command.specs.declared.op_id.OpId.{OpId}
use Rattle.pci_command.specs.declared.op_id.Outcome.{Outcome}
use Rattle.pci_command.specs.Command.{is_read}
use Rattle.pci_command.specs.Same.{same_command}
use Rattle.board_model.specs.declared.agents.Master.{Master as MasterAgent}
use Rattle.board_model.specs.declared.agents.Target.{Target as TargetAgent}
use Rattle.board_model.specs.declared.bridge.Bridge.{Bridge}
use Rattle.board_model.specs.declared.bridge.Lane.{Lane as BridgeLane}
use Rattle.board_model.specs.declared.bridge.Place.{Place}
use Rattle.board_model.specs.declared.bridge.Place.TheVariants.{Target, Header, Lane, Nobody}
use Rattle.board_model.specs.declared.op.Op.{Op}
use Rattle.board_model.specs.declared.board.Board.{Board}
use Rattle.board_model.specs.Requests.{op_of, command_of, request_on, request_of}
use Rattle.board_model.specs.Claims.{claim}
use Rattle.board_model.specs.Ways.{way, end_of, aborts_at, is_lane, lane_back}
use Rattle.board_model.specs.Valid.{IsValid}
use Rattle.board_model.specs.form_laws.Trees.{IsTree}
use Rattle.history_model.specs.declared.event.By.{By}
use Rattle.history_model.specs.declared.event.By.TheVariants.{Master, Lane as ByLane}
use Rattle.history_model.specs.declared.event.Step.{Step}
use Rattle.history_model.specs.declared.event.Step.TheVariants.{Land, Part, Read, Accept, Latch, Take, Stall, MasterAbort, TargetAbort}
use Rattle.history_model.specs.declared.event.Event.{Event}
use Rattle.history_model.specs.declared.event.Event.TheVariants.{Act}
use Rattle.history_model.specs.declared.item.Carried.{Carried}
use Rattle.history_model.specs.declared.item.Answer.{Answer}
use Rattle.history_model.specs.declared.item.Answer.TheVariants.{Gives, Retry}
use Rattle.history_model.specs.declared.item.Cause.TheVariants.{Full}
use Rattle.history_model.specs.declared.rule.Rule.TheVariants.{Tagged}
use Rattle.history_model.specs.Lanes.{is_of}
use Rattle.history_model.specs.World.{same_lane, is_own, at_place, lane_outcome, world_of}
use Rattle.history_model.specs.Program.{master_outcome}
use Rattle.history_model.specs.Words.{through, without}
use Rattle.history_model.specs.Answers.{wants, presents, posted_answer, delayed_answer, lane_answer, bridge_to, answer_by, answer_to}
use Rattle.history_model.specs.Knowledge.{is_land_of, has_landed}
use Rattle.history_model.specs.Runs.{Run}
use Rattle.law_lanes.specs.order.Order.{posts, is_posted_in, is_posted_op}
use Rattle.law_lanes.specs.order.OnWay.{OnWay}
use Rattle.law_lanes.specs.order.Parts.{HasWord}
use Rattle.std.proofs.lemmas.Bool.{and_parts, or_left, or_right}
use Rattle.std.proofs.lemmas.List.Folds.{list_any-append}
use Rattle.law_fresh.specs.Cover.{is_post_of, is_on_lane, covered}
use Rattle.law_fresh.proofs.OnLaneLemmas.{leaves_flies, accept_flies}
use Rattle.law_fresh.proofs.SourceLemmas.{Covers, agent_of}
use Rattle.law_fresh.proofs.KeptLemmas.{EndsCovered, kept_covered}
use Rattle.law_fresh.proofs.CrossLemmas.{crosses_covered}
use Rattle.board_model.proofs.form_laws.Laws.{IsTree-valid, Up, Down, steps}
use Rattle.law_lanes.proofs.Laws.{RightKind-run}
use Rattle.history_model.proofs.facts.RequestLemmas.{same_op_self}
use Rattle.law_lanes.proofs.order.Laws.{OneClaimant-formed, AbortWhole-formed, rest_claimed, OnWay-stands, posts-less_first, OnlyTakes, takes_only}
use Rattle.history_model.proofs.facts.PathLemmas.{way_goes}
use Rattle.law_fresh.proofs.reads.Laws.{word_at, word_by, word_of, word_on, word_here}
use Rattle.law_fresh.proofs.NamedLemmas.{presented_at}

-- a target that takes it has its word
word_at_has : (board : Board) (on place : ℕ) (request : Request) (found : Option TargetAgent) → claim board on request ≡ Target place → slice_get board.targets place ≡ found → word_at request found ≡ true → HasWord board on request
word_at_has board on place request None claims is word = cc
word_at_has board on place request (Some target) claims is word =
    let P : Bool → Type 0 = λ b. not b ≡ true → b ≡ false in
    record { place = place; target = target; claims = claims; is_target = is; no_abort = (elim (aborts_at target request) as P [ true ↦ λ e. cc | false ↦ λ _. refl ]) word }

word_by_has : (board : Board) (on : ℕ) (request : Request) (place : Place) → claim board on request ≡ place → word_by board request place ≡ true → HasWord board on request
word_by_has board on request (Target place) claims word = word_at_has board on place request (slice_get board.targets place) claims refl word
word_by_has board on request (Header bus) claims word = cc
word_by_has board on request (Lane lane) claims word = cc
word_by_has board on request Nobody claims word = cc

-- the step of a lane at which a write in memory is presented
abbrev Accepts : Step → Place → BridgeLane → Type 0
Accepts step place lane = (step ≡ Accept) × (place ≡ Lane lane)

posted_accepts : (owed depth : ℕ) (lane : BridgeLane) (step : Step) (place : Place) → posted_answer owed depth lane ≡ Gives step place → Accepts step place lane
posted_accepts owed depth lane step place gives =
    let P : Bool → Type 0 = λ b. cond b (Gives Accept (Lane lane)) (Retry Full) ≡ Gives step place → Accepts step place lane in
    (elim (nat_lt owed depth) as P [ true ↦ λ e. (let s : Accept ≡ step = cc in sym s, let p : Lane lane ≡ place = cc in sym p) | false ↦ λ e. cc ]) gives

module _ (board : Board) (valid : IsValid board) (w : OpId) (op : Op) (is_op : op_of board w ≡ Some op) (posted : is_posted_op board w ≡ true)
    (master : MasterAgent) (is_master : slice_get board.masters w.master ≡ Some master) (word : word_of board op master.bus ≡ true) where
  tree : IsTree board
  tree = IsTree-valid board valid

  is_write : same_command (command_of op) MemWrite ≡ true
  is_write = sym (ap is_posted_in is_op) ∙ posted

  -- its way from a bus where it is presented ends at its word
  word_where : (h : List Event) (on : ℕ) (by : By) → Run board h → wants board h on by w ≡ true → word_of board op on ≡ true
  word_where h on Master run wanted =
      let here = agent_of board h on w wanted in
      let masters : Some here.agent ≡ Some master = sym here.is_agent ∙ is_master in
      let one : here.agent ≡ master = cc in
      let bus : master.bus ≡ on = sym (ap (λ (m : MasterAgent). m.bus) one) ∙ here.bus in
      subst (λ n. word_of board op n ≡ true) bus word
  word_where h on (ByLane k) run wanted =
      let st : List Carried = (world_of board h k).standing in
      let presented : presents board on w st ≡ true = (and_parts (end_of board k == on) (presents board on w st) wanted).1 in
      let first : posts st ≡ w ∷ posts (less (is_of w) st) = posts-less_first board on w st posted (RightKind-run board h k run).1 presented in
      let each = subst (AllByRecursion (OnWay board k)) first (OnWay-stands board tree (OneClaimant-formed board valid.well_formed) h k run) in
      let way_of : OnWay board k w = each.0 in
      let masters : Some way_of.master ≡ Some master = sym way_of.is_master ∙ is_master in
      let ops : Some way_of.op ≡ Some op = sym way_of.is_op ∙ is_op in
      let one_master : way_of.master ≡ master = cc in
      let one_op : way_of.op ≡ op = cc in
      let on_op : list_any (same_lane k) (way board op way_of.master.bus) ≡ true = subst (λ p. list_any (same_lane k) (way board p way_of.master.bus) ≡ true) one_op way_of.on_way in
      let on_way : list_any (same_lane k) (way board op master.bus) ≡ true = subst (λ (m : MasterAgent). list_any (same_lane k) (way board op m.bus) ≡ true) one_master on_op in
      let ends : end_of board k ≡ on = (presented_at Tagged board h on k w wanted).0 in
      sym (word_on board op tree k (way board op master.bus) master.bus refl on_way ∙ ap (word_of board op) ends) ∙ word

  module _ (h : List Event) (on : ℕ) (by : By) (step : Step) (place : Place) (run : Run board (Act on by w step place ∷ h)) where
    -- where a lane claims it, that lane accepts it
    lane_accepts : (lane : BridgeLane) → claim board on (request_on op on) ≡ Lane lane → Accepts step place lane
    lane_accepts lane claims =
        let bridge : (b : Bridge) × (bridge_to board lane.bus ≡ Some b) =
        ⊎_elim {C = (b : Bridge) × (bridge_to board lane.bus ≡ Some b)}
        (λ (up : Up board op on lane). let bus : on ≡ lane.bus = sym (ap (λ (l : BridgeLane). l.bus) up.is) in (up.own, subst (λ n. bridge_to board n ≡ Some up.own) bus up.is_own))
        (λ (down : Down board op on lane). (down.child, down.is_child))
        (steps board op on lane tree.apart claims) in
        let requested : request_of board w on ≡ Some (request_on op on) = rw is_op refl in
        let rest : Request = without (through h w) (request_on op on) in
        let claims_rest : claim board on rest ≡ Lane lane = rest_claimed board h w op on (OneClaimant-formed board valid.well_formed) is_op posted run.1 ∙ claims in
        let F : Option Request → Type 0 = λ found. answer_to board (world_of board h) h on by w found ≡ Gives step place in
        let answered : F (Some (request_on op on)) = subst F requested run.0.1 in
        let G : Place → Type 0 = λ claimant. answer_by board (world_of board h) h on by w rest claimant ≡ Gives step place in
        let by_lane : G (Lane lane) = subst G claims_rest answered in
        let H : Option Bridge → Type 0 = λ found. lane_answer board (world_of board h) on by w rest lane found ≡ Gives step place in
        let by_bridge : H (Some bridge.0) = subst H bridge.1 by_lane in
        let other : Answer = delayed_answer board (is_read rest.command) bridge.0.delayed lane (world_of board h lane).held (world_of board h (lane_back lane)).standing (find (is_own board on by w) (world_of board h lane).held) in
        let K : Bool → Type 0 = λ b. cond b (posted_answer (world_of board h lane).owed bridge.0.posted lane) other ≡ Gives step place in
        posted_accepts (world_of board h lane).owed bridge.0.posted lane step place (subst K is_write by_bridge)

    -- and elsewhere its target takes it
    target_takes : is_lane (claim board on (request_on op on)) ≡ false → OnlyTakes step
    target_takes none =
        let here : word_by board (request_on op on) (claim board on (request_on op on)) ≡ true = sym (word_here board op on tree none) ∙ word_where h on by run.1 run.0.0 in
        takes_only board w op (OneClaimant-formed board valid.well_formed) (AbortWhole-formed board valid.well_formed) is_op posted h on by step place run.1
        (word_by_has board on (request_on op on) (claim board on (request_on op on)) refl here) run.0.1

  -- where it lands the bus is covered
  takes_covered : (h : List Event) (on : ℕ) (by : By) (step : Step) (place : Place) (outcome : Outcome) → OnlyTakes step → master_outcome step ≡ Some outcome → covered board w op (Act on by w step place ∷ h) on ≡ true
  takes_covered h on by Land place outcome takes ends =
      let e : Event = Act on by w Land place in
      let self : is_land_of w e ≡ true = let same = same_op_self w in rw same refl in
      or_left (has_landed (e ∷ h) w) _ (or_left (is_land_of w e) (has_landed h w) self)
  takes_covered h on by (Part phases) place outcome takes ends = cc
  takes_covered h on by (Read value) place outcome takes ends = absurd takes
  takes_covered h on by Accept place outcome takes ends = absurd takes
  takes_covered h on by Latch place outcome takes ends = absurd takes
  takes_covered h on by (Take given) place outcome takes ends = absurd takes
  takes_covered h on by Stall place outcome takes ends = cc
  takes_covered h on by MasterAbort place outcome takes ends = absurd takes
  takes_covered h on by TargetAbort place outcome takes ends = absurd takes

  -- the posted write is in flight on the lane that accepted it
  accepted_flies : (h : List Event) (on : ℕ) (by : By) (lane : BridgeLane) → list_any (is_post_of w) (world_of board (Act on by w Accept (Lane lane) ∷ h) lane).flight ≡ true
  accepted_flies h on Master lane = accept_flies w (world_of board h) board on Master lane
  accepted_flies h on (ByLane k) lane =
      leaves_flies w (at_place board on (ByLane k) w Accept (Lane lane) (world_of board h)) k w (lane_outcome board k w Accept) lane (accept_flies w (world_of board h) board on (ByLane k) lane)

  -- where a lane accepts it the bus is covered
  accepts_covered : (h : List Event) (on : ℕ) (by : By) (lane : BridgeLane) → claim board on (request_on op on) ≡ Lane lane → covered board w op (Act on by w Accept (Lane lane) ∷ h) on ≡ true
  accepts_covered h on by lane claims =
      let e : Event = Act on by w Accept (Lane lane) in
      let state = world_of board (e ∷ h) lane in
      let there : is_on_lane w (world_of board (e ∷ h)) lane ≡ true =
      list_any-append (is_post_of w) state.standing state.flight ∙ or_right (list_any (is_post_of w) state.standing) (list_any (is_post_of w) state.flight) (accepted_flies h on by lane) in
      let goes = way_goes board op on lane tree claims in
      let on_lane : BridgeLane → Bool = is_on_lane w (world_of board (e ∷ h)) in
      or_right (has_landed (e ∷ h) w) (list_any on_lane (way board op on))
      (subst (λ ls. list_any on_lane ls ≡ true) (sym goes) (or_left (on_lane lane) (list_any on_lane (way board op (end_of board lane))) there))

  posted_ends : (h : List Event) → EndsCovered board tree w op h
  posted_ends h on by step place outcome run ends =
      let Goal : Step → Place → Type 0 = λ s p. covered board w op (Act on by w s p ∷ h) on ≡ true in
      let way_ends : is_lane (claim board on (request_on op on)) ≡ false → Goal step place = λ none. takes_covered h on by step place outcome (target_takes h on by step place run none) ends in
      let P : Place → Type 0 = λ claimant. claim board on (request_on op on) ≡ claimant → Goal step place in
      (elim (claim board on (request_on op on)) as P [
        | Target target ↦ λ claims. way_ends (ap is_lane claims)
        | Header bus ↦ λ claims. way_ends (ap is_lane claims)
        | Lane lane ↦ λ claims.
            let accepts = lane_accepts h on by step place run lane claims in
            subst (λ s. Goal s place) (sym accepts.0) (subst (Goal Accept) (sym accepts.1) (accepts_covered h on by lane claims))
        | Nobody ↦ λ claims. way_ends (ap is_lane claims)
      ]) refl

  -- so a posted write is covered
  pub posted_covers : Covers board w op
  posted_covers =
      record {
        kept = λ e h on run is. kept_covered board tree w op h (posted_ends h) e on run is;
        crosses = λ h lane bridge run is_bridge is. crosses_covered board valid op is_write w h lane bridge is_bridge is;
        ends = λ h on by step place outcome run ends. posted_ends h on by step place outcome run ends;
      }
