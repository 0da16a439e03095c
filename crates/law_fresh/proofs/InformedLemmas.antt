-- Whoever knows of a write is covered, in every run, however the write is covered.
use Rattle.std.proofs.Common.{◌≡◌, ℕ, Bool, true, false, ◌&&◌, ◌||◌, not, ◌==◌, cond, eqb-true, List, [], ◌∷◌, append-nil, Option, Some, None, is_some, refl, sym, ap, subst, ◌∙◌, slice_get}
use Rattle.std.specs.List.{find, list_any}
use Rattle.list_facts.proofs.EachLemmas.{Each-append, Each-find, Each-weaker, Each-both}
use Rattle.list_facts.proofs.FindLemmas.{find_passes}
use Rattle.pci_command.specs.declared.op_id.OpId.{OpId}
use Rattle.pci_command.specs.declared.op_id.Outcome.{Outcome}
use Rattle.pci_command.specs.Same.{same_op}
use Rattle.board_model.specs.declared.agents.Master.{Master as MasterAgent}
use Rattle.board_model.specs.declared.agents.Target.{Target as TargetAgent}
use Rattle.board_model.specs.declared.bridge.Bridge.{Bridge}
use Rattle.board_model.specs.declared.bridge.Lane.{Lane as BridgeLane}
use Rattle.board_model.specs.declared.bridge.Place.{Place}
use Rattle.board_model.specs.declared.bridge.Place.TheVariants.{Target, Header, Lane, Nobody}
use Rattle.board_model.specs.declared.op.Op.{Op}
use Rattle.board_model.specs.declared.board.Board.{Board}
use Rattle.board_model.specs.Requests.{request_of}
use Rattle.board_model.specs.Ways.{Dword, end_of, start_of, lane_back}
use Rattle.board_model.specs.Valid.{IsValid}
use Rattle.history_model.specs.declared.event.By.{By}
use Rattle.history_model.specs.declared.event.By.TheVariants.{Master, Lane as ByLane}
use Rattle.history_model.specs.declared.event.Step.{Step}
use Rattle.history_model.specs.declared.event.Step.TheVariants.{Land, Part, Read, Accept, Latch, Take, Stall, MasterAbort, TargetAbort}
use Rattle.history_model.specs.declared.event.Event.{Event}
use Rattle.history_model.specs.declared.event.Event.TheVariants.{Act, Arrive}
use Rattle.history_model.specs.declared.item.Carried.{Carried}
use Rattle.history_model.specs.declared.item.Answer.TheVariants.{Gives}
use Rattle.history_model.specs.declared.item.Carried.TheVariants.{Post, Ask, Done, Room, Gone}
use Rattle.history_model.specs.declared.rule.Rule.TheVariants.{Tagged}
use Rattle.history_model.specs.Lanes.{is_of, empty_lane}
use Rattle.history_model.specs.World.{World, at_place, lane_outcome, leaves, world_of}
use Rattle.history_model.specs.Program.{Ending, ending_of, ended, master_outcome}
use Rattle.history_model.specs.Words.{through, without, landings_of, landings_by, landed}
use Rattle.history_model.specs.Knowledge.{value_in, Reading, is_landing_of}
use Rattle.history_model.specs.Answers.{wants, answer, bridge_to}
use Rattle.history_model.specs.Runs.{Run}
use Rattle.std.proofs.lemmas.Bool.{and_parts, or_left, or_right}
use Rattle.std.proofs.lemmas.List.Folds.{list_any-append}
use Rattle.law_fresh.specs.Aware.{Aware, knows, bears, first_known, taught_by, taught_after, aware_of}
use Rattle.law_fresh.specs.Cover.{items, is_on_lane, covered, Informed}
use Rattle.law_fresh.proofs.ListLemmas.{or_either}
use Rattle.law_fresh.proofs.SafeLemmas.{Safe-weaker}
use Rattle.law_fresh.proofs.BehindLemmas.{Begun}
use Rattle.law_fresh.proofs.BegunLemmas.{ItemBegun, ItemsBegun-run, Begun-wanted, LandingBegun, LandingsBegun-run}
use Rattle.law_fresh.proofs.AwareLemmas.{first_brought, knew}
use Rattle.law_fresh.proofs.LaneLemmas.{WorldSafe, EntersSafe, enters_safe, leaves_safe, arrives_safe}
use Rattle.law_fresh.proofs.OnLaneLemmas.{place_on}
use Rattle.law_fresh.proofs.SourceLemmas.{Covers, agent_of, source}
use Rattle.law_fresh.proofs.TargetLemmas.{answers_on}
use Rattle.law_fresh.proofs.TaughtLemmas.{back_ends, taught_source}
use Rattle.law_fresh.proofs.StillLemmas.{Still, event_still}
use Rattle.law_fresh.proofs.NamedLemmas.{IsOf, brought_of, presented_at}
use Rattle.history_model.proofs.facts.AnswerLemmas.{AtLane, answered_at}
use Rattle.history_model.proofs.facts.BridgeLemmas.{lane_back_back}
use Rattle.law_lanes.proofs.Laws.{claim_starts, Quiet-empty, run_no_bridge, WellFormed-numbers}
use Rattle.history_model.proofs.facts.RequestLemmas.{same_op_true}
use Rattle.list_facts.proofs.AnyLemmas.{any_some}

-- a step that ends an item of a lane ends the operation of a master
pub step_ends : (board : Board) (k : BridgeLane) (o : OpId) (step : Step) → is_some (lane_outcome board k o step) ≡ true → (outcome : Outcome) × (master_outcome step ≡ Some outcome)
step_ends board k o Land is = (_, refl)
step_ends board k o (Part phases) is = cc
step_ends board k o (Read value) is = (_, refl)
step_ends board k o Accept is = (_, refl)
step_ends board k o Latch is = cc
step_ends board k o (Take outcome) is = (_, refl)
step_ends board k o Stall is = cc
step_ends board k o MasterAbort is = (_, refl)
step_ends board k o TargetAbort is = (_, refl)

-- a lane on which something stands is of a bridge
pub lane_bridge : (board : Board) (h : List Event) (on : ℕ) (k : BridgeLane) (o : OpId) → Run board h → wants board h on (ByLane k) o ≡ true → (bridge : Bridge) × (bridge_to board k.bus ≡ Some bridge)
lane_bridge board h on k o run wanted =
    let here = (presented_at Tagged board h on k o wanted).1 in
    let P : Option Bridge → Type 0 = λ found. bridge_to board k.bus ≡ found → (bridge : Bridge) × (bridge_to board k.bus ≡ Some bridge) in
    (elim (bridge_to board k.bus) as P [
      | None ↦ λ none.
          let empty : world_of board h k ≡ empty_lane = Quiet-empty board h k (run_no_bridge board k.bus h none run) in
          let F : List Carried → Type 0 = λ standing. find (is_of o) standing ≡ Some here.item in
          let nothing : F [] = subst (λ s. F (Rattle.history_model.specs.Lanes.LaneState.standing s)) empty here.found in
          cc
      | Some bridge ↦ λ is. (bridge, is)
    ]) refl

module _ (board : Board) (valid : IsValid board) (w : OpId) (op : Op) (covers : Covers board w op) where
  module _ (e : Event) (h : List Event) (run : Run board (e ∷ h)) (old : Informed board w op h) where
    abbrev was : Aware
    was = aware_of board w h

    abbrev now : Aware
    now = aware_of board w (e ∷ h)

    abbrev sure : BridgeLane → Bool
    sure lane = covered board w op (e ∷ h) (end_of board lane)

    stays : (on : ℕ) → covered board w op h on ≡ true → covered board w op (e ∷ h) on ≡ true
    stays on is = covers.kept e h on run is

    -- what is on a lane carries no more than it did
    bears_less : (item : Carried) → ItemBegun board h item × Still board h e item → bears w now item ≡ true → bears w was item ≡ true
    bears_less (Post q) known is =
        let parts = and_parts (not (same_op q w)) (knows now q) is in
        let before : knows was q ≡ true = knew board w e h q run known.0 parts.1 in
        rw (parts.0, before)
    bears_less (Ask q slot) known is =
        let parts = and_parts (not (same_op q w)) (knows now q) is in
        let before : knows was q ≡ true = knew board w e h q run known.0 parts.1 in
        rw (parts.0, before)
    bears_less (Done q slot outcome) known is =
        let F : Option Reading → Type 0 = λ reading. taught_by board w was (was.taught q) reading ≡ true in
        subst F known.1 is
    bears_less Room known is = cc
    bears_less (Gone slot) known is = cc

    before_safe : WorldSafe w (bears w now) refl (λ slot. refl) sure (world_of board h)
    before_safe lane =
        let state = world_of board h lane in
        let begun = ItemsBegun-run Tagged board h run.1 lane in
        let both = Each-both (ItemBegun board h) (Still board h e) (items state)
        (Each-append (ItemBegun board h) state.standing state.flight begun.1 begun.0) (event_still board valid h e run lane) in
        Safe-weaker w (bears w was) (bears w now) (covered board w op h (end_of board lane)) (sure lane) (stays (end_of board lane)) (items state)
        (Each-weaker (λ item. ItemBegun board h item × Still board h e item) (λ item. bears w now item ≡ true → bears w was item ≡ true) bears_less (items state) both)
        (old.lanes lane)

    -- a landing of a write that was told
    old_landing : (word : Dword) (v : OpId) (target : TargetAgent) → slice_get board.targets word.target ≡ Some target → same_op v w ≡ false
        → list_any (is_landing_of v) (landed board h word) ≡ true → knows now v ≡ true → covered board w op (e ∷ h) target.bus ≡ true
    old_landing word v target is_target other lands known =
        let some = any_some (is_landing_of v) (landed board h word) lands in
        let one : some.0.op ≡ v = same_op_true some.0.op v (find_passes (is_landing_of v) (landed board h word) some.0 some.1) in
        let begun : Begun board h v = subst (Begun board h) one (Each-find (LandingBegun board h) (is_landing_of v) (landed board h word) some.0 (LandingsBegun-run Tagged board h word run.1) some.1) in
        stays target.bus (old.landings word v target is_target other lands (knew board w e h v run begun known))

  module _ (on : ℕ) (by : By) (o : OpId) (step : Step) (place : Place) (h : List Event) (run : Run board (Act on by o step place ∷ h)) (old : Informed board w op h) where
    abbrev e : Event
    e = Act on by o step place

    abbrev test : Carried → Bool
    test = bears w (aware_of board w (e ∷ h))

    abbrev covers_end : BridgeLane → Bool
    covers_end lane = covered board w op (e ∷ h) (end_of board lane)

    -- where the operation knows of the write, its bus was covered
    knows_source : same_op o w ≡ false → knows (aware_of board w (e ∷ h)) o ≡ true → covered board w op h on ≡ true
    knows_source other known = source board w op h on by o old run.0.0 other (knew board w e h o run (Begun-wanted Tagged board h on by o run.1 run.0.0) known)

    -- across a bridge
    crosses_to : (lane : BridgeLane) (bridge : Bridge) → bridge_to board lane.bus ≡ Some bridge → start_of board lane ≡ on → covered board w op h on ≡ true → (covers_end lane || is_on_lane w (world_of board h) lane) ≡ true
    crosses_to lane bridge is_bridge start is =
        let there : covered board w op h (start_of board lane) ≡ true = subst (λ n. covered board w op h n ≡ true) (sym start) is in
        let on_lane : Bool = is_on_lane w (world_of board h) lane in
        or_either ((covers_end lane || on_lane) ≡ true) (covered board w op h (end_of board lane)) on_lane
        (λ sure. or_left (covers_end lane) on_lane (covers.kept e h (end_of board lane) run sure))
        (λ posted. or_right (covers_end lane) on_lane posted)
        (covers.crosses h lane bridge run.1 is_bridge there)

    -- what enters a lane
    new_item : (lane : BridgeLane) (item : Carried) → AtLane board h on by o step lane → (not (same_op o w) && knows (aware_of board w (e ∷ h)) o) ≡ true → (covers_end lane || is_on_lane w (world_of board h) lane) ≡ true
    new_item lane item at is =
        let parts = and_parts (not (same_op o w)) (knows (aware_of board w (e ∷ h)) o) is in
        let P : Bool → Type 0 = λ b. not b ≡ true → b ≡ false in
        let other : same_op o w ≡ false = (elim (same_op o w) as P [ true ↦ λ f. cc | false ↦ λ _. refl ]) parts.0 in
        let start : start_of board lane ≡ on = claim_starts board on (without (through h o) at.request) lane (WellFormed-numbers board valid.well_formed) at.claims in
        crosses_to lane at.bridge at.is_bridge start (knows_source other parts.1)

    -- the lanes after what the step did where it was claimed
    abbrev Mid : World → Type 0
    Mid world = WorldSafe w test refl (λ slot. refl) covers_end world

  -- by the step
  entering : (on : ℕ) (by : By) (o : OpId) (step : Step) (lane : BridgeLane) (h : List Event) (run : Run board (Act on by o step (Lane lane) ∷ h)) (old : Informed board w op h) → AtLane board h on by o step lane
      → EntersSafe w (bears w (aware_of board w (Act on by o step (Lane lane) ∷ h))) refl (λ slot. refl) (λ l. covered board w op (Act on by o step (Lane lane) ∷ h) (end_of board l)) (world_of board h) lane o step
  entering on by o Land lane h run old at = tt
  entering on by o (Part phases) lane h run old at = tt
  entering on by o (Read value) lane h run old at = tt
  entering on by o Accept lane h run old at = λ is. new_item on by o Accept (Lane lane) h run old lane (Post o) at is
  entering on by o Latch lane h run old at = λ slot is. new_item on by o Latch (Lane lane) h run old lane (Ask o slot) at is
  entering on by o (Take outcome) lane h run old at = tt
  entering on by o Stall lane h run old at = tt
  entering on by o MasterAbort lane h run old at = tt
  entering on by o TargetAbort lane h run old at = tt

  placed : (on : ℕ) (by : By) (o : OpId) (step : Step) (place : Place) (h : List Event) (run : Run board (Act on by o step place ∷ h)) (old : Informed board w op h)
      → Mid on by o step place h run old (at_place board on by o step place (world_of board h))
  placed on by o step (Target target) h run old = before_safe (Act on by o step (Target target)) h run old
  placed on by o step (Header bus) h run old = before_safe (Act on by o step (Header bus)) h run old
  placed on by o step (Lane lane) h run old =
      let e : Event = Act on by o step (Lane lane) in
      enters_safe w (bears w (aware_of board w (e ∷ h))) refl (λ slot. refl) (λ l. covered board w op (e ∷ h) (end_of board l)) (world_of board h) (before_safe e h run old) board on by o step lane
      (entering on by o step lane h run old (answered_at board h on by o step lane run.0.1))
  placed on by o step Nobody h run old = before_safe (Act on by o step Nobody) h run old

  module _ (on : ℕ) (o : OpId) (step : Step) (place : Place) (h : List Event) where
    -- the lanes after what left the lane that presented it
    left : (k : BridgeLane) (run : Run board (Act on (ByLane k) o step place ∷ h)) (old : Informed board w op h) (outcome : Option Outcome) → lane_outcome board k o step ≡ outcome
        → Mid on (ByLane k) o step place h run old (leaves k o outcome (at_place board on (ByLane k) o step place (world_of board h)))
    left k run old None is = placed on (ByLane k) o step place h run old
    left k run old (Some outcome) is =
        let e : Event = Act on (ByLane k) o step place in
        let test : Carried → Bool = bears w (aware_of board w (e ∷ h)) in
        let sure : BridgeLane → Bool = λ l. covered board w op (e ∷ h) (end_of board l) in
        let world : World = world_of board h in
        let mid : World = at_place board on (ByLane k) o step place world in
        let at_end = presented_at Tagged board h on k o run.0.0 in
        let ends : end_of board k ≡ on = at_end.0 in
        let given = step_ends board k o step (ap is_some is) in
        let lost : same_op o w ≡ true → sure k ≡ true =
        λ same.
        let one : o ≡ w = same_op_true o w same in
        let F : OpId → Type 0 = λ p. Run board (Act on (ByLane k) p step place ∷ h) → covered board w op (Act on (ByLane k) p step place ∷ h) on ≡ true in
        let by_w : F w = λ r. covers.ends h on (ByLane k) step place given.0 r given.1 in
        subst (λ n. covered board w op (e ∷ h) n ≡ true) (sym ends) (subst F (sym one) by_w run) in
        let back : BridgeLane = lane_back k in
        let bridge = lane_bridge board h on k o run.1 run.0.0 in
        let start : start_of board back ≡ on = sym (back_ends board back) ∙ ap (end_of board) (lane_back_back k) ∙ ends in
        let reply : (slot : ℕ) → test (Done o slot outcome) ≡ true → (sure back || is_on_lane w mid back) ≡ true =
        λ slot taught.
        let source_covered : covered board w op h on ≡ true = taught_source board valid w op h old on (ByLane k) o step place given.0 run given.1 taught in
        let across = crosses_to on (ByLane k) o step place h run old back bridge.0 bridge.1 start source_covered in
        or_either ((sure back || is_on_lane w mid back) ≡ true) (sure back) (is_on_lane w world back)
        (λ is_sure. or_left (sure back) (is_on_lane w mid back) is_sure)
        (λ posted. or_right (sure back) (is_on_lane w mid back) (place_on w world board on (ByLane k) o step place back posted))
        across in
        leaves_safe w test refl (λ slot. refl) sure mid (placed on (ByLane k) o step place h run old) k o outcome lost reply

    lanes_after : (by : By) (run : Run board (Act on by o step place ∷ h)) (old : Informed board w op h) → Mid on by o step place h run old (world_of board (Act on by o step place ∷ h))
    lanes_after Master run old = placed on Master o step place h run old
    lanes_after (ByLane k) run old = left k run old (lane_outcome board k o step) refl

    -- the masters after the event
    ending_known : (run : Run board (Act on Master o step place ∷ h)) (old : Informed board w op h) (outcome : Outcome) (master : ℕ) (agent : MasterAgent) → master_outcome step ≡ Some outcome → slice_get board.masters master ≡ Some agent
        → (first : Option OpId) → first_known None master w (taught_after board w (aware_of board w h) h (Act on Master o step place)) (Some (record { op = o; outcome = outcome })) ≡ first → is_some first ≡ true
        → covered board w op (Act on Master o step place ∷ h) agent.bus ≡ true
    ending_known run old outcome master agent ends is_agent None is known = cc
    ending_known run old outcome master agent ends is_agent (Some first) is known =
        let e : Event = Act on Master o step place in
        let taught : OpId → Bool = taught_after board w (aware_of board w h) h e in
        let ending : Ending = record { op = o; outcome = outcome } in
        let brought = first_brought master w taught ending first is in
        let here = agent_of board h on o run.0.0 in
        let agents : Some here.agent ≡ Some agent = sym here.is_agent ∙ ap (slice_get board.masters) brought.of_master ∙ is_agent in
        let one_agent : here.agent ≡ agent = cc in
        let bus : on ≡ agent.bus = sym here.bus ∙ ap (λ (a : MasterAgent). a.bus) one_agent in
        let there : covered board w op (e ∷ h) on ≡ true =
        or_either (covered board w op (e ∷ h) on ≡ true) (same_op o w) (is_some (value_in outcome) && taught o)
        (λ same.
        let one : o ≡ w = same_op_true o w same in
        let F : OpId → Type 0 = λ p. Run board (Act on Master p step place ∷ h) → covered board w op (Act on Master p step place ∷ h) on ≡ true in
        let by_w : F w = λ r. covers.ends h on Master step place outcome r ends in
        subst F (sym one) by_w run)
        (λ both. stays e h run old on (taught_source board valid w op h old on Master o step place outcome run ends (and_parts (is_some (value_in outcome)) (taught o) both).1))
        brought.brings_it in
        subst (λ n. covered board w op (e ∷ h) n ≡ true) bus there

    master_known : (by : By) (run : Run board (Act on by o step place ∷ h)) (old : Informed board w op h) (master : ℕ) (agent : MasterAgent) → slice_get board.masters master ≡ Some agent
        → is_some (first_known None master w (taught_after board w (aware_of board w h) h (Act on by o step place)) (ended (Act on by o step place))) ≡ true → covered board w op (Act on by o step place ∷ h) agent.bus ≡ true
    master_known (ByLane k) run old master agent is_agent known = cc
    master_known Master run old master agent is_agent known =
        let taught : OpId → Bool = taught_after board w (aware_of board w h) h (Act on Master o step place) in
        let P : Option Outcome → Type 0 = λ given. master_outcome step ≡ given → is_some (first_known None master w taught (ending_of o given)) ≡ true → covered board w op (Act on Master o step place ∷ h) agent.bus ≡ true in
        (elim (master_outcome step) as P [
          | None ↦ λ _ f. cc
          | Some outcome ↦ λ ends f. ending_known run old outcome master agent ends is_agent (first_known None master w taught (Some (record { op = o; outcome = outcome }))) refl f
        ]) refl known

    -- what the event brought to a dword
    brought_known : (by : By) (run : Run board (Act on by o step place ∷ h)) (old : Informed board w op h) (word : Dword) (v : OpId) (target : TargetAgent) → slice_get board.targets word.target ≡ Some target → same_op v w ≡ false
        → list_any (is_landing_of v) (landings_by board h on o step word place) ≡ true → knows (aware_of board w (Act on by o step place ∷ h)) v ≡ true → covered board w op (Act on by o step place ∷ h) target.bus ≡ true
    brought_known by run old word v target is_target other lands known =
        let e : Event = Act on by o step place in
        let aware = aware_of board w (e ∷ h) in
        let some = any_some (is_landing_of v) (landings_by board h on o step word place) lands in
        let of_o : some.0.op ≡ o = Each-find (IsOf o) (is_landing_of v) (landings_by board h on o step word place) some.0 (brought_of board h on o step word place) some.1 in
        let of_v : some.0.op ≡ v = same_op_true some.0.op v (find_passes (is_landing_of v) (landings_by board h on o step word place) some.0 some.1) in
        let one : v ≡ o = sym of_v ∙ of_o in
        let there : covered board w op (e ∷ h) on ≡ true =
        stays e h run old on (knows_source on by o step place h run old (subst (λ p. same_op p w ≡ false) one other) (subst (λ p. knows aware p ≡ true) one known)) in
        let on_bus : target.bus ≡ on = target_bus place run.0.1 lands in
        subst (λ n. covered board w op (e ∷ h) n ≡ true) (sym on_bus) there
      where
        target_bus : (at : Place) → answer board h on by o ≡ Gives step at → list_any (is_landing_of v) (landings_by board h on o step word at) ≡ true → target.bus ≡ on
        target_bus (Target number) gives brings_it =
            let P : Bool → Type 0 = λ b. (number == word.target) ≡ b → list_any (is_landing_of v) (cond b (landings_of o step (through h o) word (request_of board o on)) []) ≡ true → target.bus ≡ on in
            (elim (number == word.target) as P [
              | true ↦ λ same _.
                  let numbers : number ≡ word.target = eqb-true number word.target same in
                  let there = answers_on board h on by o step number gives in
                  let targets : Some there.0 ≡ Some target = sym there.1 ∙ ap (slice_get board.targets) numbers ∙ is_target in
                  let one_target : there.0 ≡ target = cc in
                  sym (ap (λ (t : TargetAgent). t.bus) one_target) ∙ there.2
              | false ↦ λ _ f. cc
            ]) refl brings_it
        target_bus (Header bus) gives brings_it = cc
        target_bus (Lane lane) gives brings_it = cc
        target_bus Nobody gives brings_it = cc

  event_informed : (e : Event) (h : List Event) (run : Run board (e ∷ h)) (old : Informed board w op h) → Informed board w op (e ∷ h)
  event_informed (Act on by o step place) h run old =
      let e : Event = Act on by o step place in
      record {
        masters = λ master agent is_agent known.
            let P : Option OpId → Type 0 = λ since. (aware_of board w h).since master ≡ since → is_some (first_known since master w (taught_after board w (aware_of board w h) h e) (ended e)) ≡ true → covered board w op (e ∷ h) agent.bus ≡ true in
            (elim ((aware_of board w h).since master) as P [
              | None ↦ λ _ f. master_known on o step place h by run old master agent is_agent f
              | Some p ↦ λ is _. stays e h run old agent.bus (old.masters master agent is_agent (ap is_some is))
            ]) refl known;
        lanes = lanes_after on o step place h by run old;
        landings = λ word v target is_target other lands known.
            or_either (covered board w op (e ∷ h) target.bus ≡ true) (list_any (is_landing_of v) (landed board h word)) (list_any (is_landing_of v) (landings_by board h on o step word place))
            (λ here. old_landing e h run old word v target is_target other here known)
            (λ there. brought_known on o step place h by run old word v target is_target other there known)
            (sym (list_any-append (is_landing_of v) (landed board h word) (landings_by board h on o step word place)) ∙ lands);
      }
  event_informed (Arrive lane mark) h run old =
      let e : Event = Arrive lane mark in
      record {
        masters = λ master agent is_agent known.
            let P : Option OpId → Type 0 = λ since. (aware_of board w h).since master ≡ since → is_some (first_known since master w (taught_after board w (aware_of board w h) h e) None) ≡ true → covered board w op (e ∷ h) agent.bus ≡ true in
            (elim ((aware_of board w h).since master) as P [
              | None ↦ λ _ f. cc
              | Some p ↦ λ is _. stays e h run old agent.bus (old.masters master agent is_agent (ap is_some is))
            ]) refl known;
        lanes = arrives_safe w (bears w (aware_of board w (e ∷ h))) refl (λ slot. refl) (λ l. covered board w op (e ∷ h) (end_of board l)) (world_of board h) (before_safe e h run old) lane mark;
        landings = λ word v target is_target other lands known.
            old_landing e h run old word v target is_target other (subst (λ ls. list_any (is_landing_of v) ls ≡ true) (append-nil (landed board h word)) lands) known;
      }

  -- in every run
  pub Informed-run : (h : List Event) → Run board h → Informed board w op h
  Informed-run [] run =
      record { masters = λ master agent is_agent known. cc; lanes = λ lane. tt; landings = λ word v target is_target other lands known. cc }
  Informed-run (e ∷ h) run = event_informed e h run (Informed-run h run.1)
