-- On boards on which masters are apart the origin of a completion is the last reading of its operation, so that what a
-- read got is the same by either rule.
use Rattle.std.proofs.Common.{◌≡◌, ℕ, Bool, true, false, ◌&&◌, ◌||◌, cond, List, [], ◌∷◌, ◌++◌, map, Option, Some, None, is_some, refl, sym, ap, subst, ◌∙◌, option_map}
use Rattle.std.proofs.lemmas.Bool.{or_left, or_right}
use Rattle.std.specs.List.{find, AllByRecursion}
use Rattle.pci_command.specs.declared.op_id.OpId.{OpId}
use Rattle.pci_command.specs.declared.op_id.Outcome.{Outcome}
use Rattle.pci_command.specs.Same.{same_op}
use Rattle.board_model.specs.declared.bridge.Lane.{Lane as BridgeLane}
use Rattle.board_model.specs.declared.bridge.Place.{Place}
use Rattle.board_model.specs.declared.bridge.Place.TheVariants.{Target, Header, Lane, Nobody}
use Rattle.board_model.specs.declared.op.Op.{Op}
use Rattle.board_model.specs.declared.board.Board.{Board}
use Rattle.board_model.specs.Requests.{op_of, reads}
use Rattle.board_model.specs.WellFormed.{is_well_formed_op}
use Rattle.board_model.specs.Valid.{IsValid}
use Rattle.board_model.proofs.form_laws.ValidLemmas.{IsTree-valid}
use Rattle.history_model.specs.declared.event.By.{By}
use Rattle.history_model.specs.declared.event.By.TheVariants.{Master, Lane as ByLane}
use Rattle.history_model.specs.declared.event.Step.{Step}
use Rattle.history_model.specs.declared.event.Step.TheVariants.{Land, Part, Read, Accept, Latch, Take, Stall, MasterAbort, TargetAbort}
use Rattle.history_model.specs.declared.event.Event.{Event}
use Rattle.history_model.specs.declared.event.Event.TheVariants.{Act, Arrive}
use Rattle.history_model.specs.declared.item.Carried.{Carried}
use Rattle.history_model.specs.declared.item.Carried.TheVariants.{Post, Ask, Done, Room, Gone}
use Rattle.history_model.specs.declared.item.Slot.{Slot}
use Rattle.history_model.specs.declared.rule.Rule.TheVariants.{Untagged}
use Rattle.history_model.specs.Lanes.{LaneState, is_done_for}
use Rattle.board_model.specs.Ways.{lane_back}
use Rattle.history_model.specs.World.{anyone, World, both, is_own, world_of, world_by}
use Rattle.history_model.specs.Program.{Ending, ending_of, master_outcome}
use Rattle.history_model.specs.Knowledge.{ends_as, ends_with, value_of_ending, given_value, up_to_end, Reading, reading_at, reading_by, reading_in, reading_or, last_reading, got, has_landed, saw_in, saw, later, tells, Chain, Told, Fresh}
use Rattle.history_model.specs.Runs.{Run}
use Rattle.law_lanes.specs.Owners.{TakesItsOwn}
use Rattle.history_model.proofs.facts.AnswerLemmas.{answered_at, answered_in}
use Rattle.law_lanes.proofs.MatchedLemmas.{TakesItsOwn-run}
use Rattle.history_model.proofs.facts.RequestLemmas.{same_op_self, same_op_true}
use Rattle.law_lanes.proofs.WellFormedLemmas.{WellFormed-numbers, WellFormed-single}
use Rattle.board_model.proofs.Laws.{op_formed}
use Rattle.law_fresh.specs.Cover.{items}
use Rattle.law_fresh.proofs.StillLemmas.{Still, event_still}
use Rattle.law_fresh.proofs.Laws.{or_either}
use Rattle.law_untagged.specs.Untagged.{UntaggedAllowed, UntaggedRun}
use Rattle.law_untagged.specs.Apart.{Apart}
use Rattle.law_untagged.specs.Forgets.{unnamed, forget}
use Rattle.law_untagged.specs.Origins.{Origins, origin_in, taken_from, source_of, origins_of, ending_reading, untagged_got, untagged_saw, untagged_tells, UntaggedChain, UntaggedTold, UntaggedFresh}
use Rattle.law_untagged.proofs.OrderLemmas.{Ends, ends_some}
use Rattle.law_untagged.proofs.ForgetLemmas.{Alike, own_unnamed, Forgets}
use Rattle.law_untagged.proofs.ApartLemmas.{presented_alike}
use Rattle.law_untagged.proofs.RunLemmas.{runs_alike}
use Rattle.law_untagged.proofs.CarryLemmas.{Carries, AllCarry, taken_good, Makes, event_carries}
use Rattle.law_untagged.proofs.ReturnLemmas.{ending_value, got_returned}

-- the reading that made a completion is the last of its operation
abbrev LastOf : Board → List Event → OpId → Outcome → Reading → Type 0
LastOf board h op outcome reading = last_reading board op h ≡ Some reading

still_last : (board : Board) (h : List Event) (e : Event) (origin : ℕ → Option Reading) (item : Carried) → Still board h e item → Carries (LastOf board h) origin item → Carries (LastOf board (e ∷ h)) origin item
still_last board h e origin (Post q) still old = tt
still_last board h e origin (Ask q slot) still old = tt
still_last board h e origin (Done q slot outcome) still old = λ reading is. (
    let F : Option Reading → Type 0 = λ here. reading_or here (last_reading board q h) ≡ Some reading in
    subst F (sym still) (old reading is))
still_last board h e origin Room still old = tt
still_last board h e origin (Gone slot) still old = tt

each_still : (board : Board) (h : List Event) (e : Event) (origin : ℕ → Option Reading) (xs : List Carried) → AllByRecursion (Still board h e) xs → AllByRecursion (Carries (LastOf board h) origin) xs → AllByRecursion (Carries (LastOf board (e ∷ h)) origin) xs
each_still board h e origin [] still old = tt
each_still board h e origin (x ∷ xs) still old = (still_last board h e origin x still.0 old.0, each_still board h e origin xs still.1 old.1)

each_first : {X : Type 0} (P : X → Type 0) (xs ys : List X) → AllByRecursion P (xs ++ ys) → AllByRecursion P xs × AllByRecursion P ys
each_first P [] ys all = (tt, all)
each_first P (x ∷ xs) ys all = let rest = each_first P xs ys all.1 in ((all.0, rest.0), rest.1)

module _ (board : Board) (valid : IsValid board) (apart : Apart board) where
  well_at : (q : OpId) (op : Op) → op_of board q ≡ Some op → is_well_formed_op op ≡ true
  well_at q op is = op_formed board q op valid.well_formed is

  forgets : (h : List Event) → Run board h → Forgets (world_by Untagged board h) (world_of board h)
  forgets h run =
      (runs_alike board (IsTree-valid board valid) (WellFormed-numbers board valid.well_formed) (WellFormed-single board valid.well_formed) well_at apart h).world run

  -- an event leaves the last reading of each completion that is about
  weaker : (e : Event) (h : List Event) → Run board (e ∷ h) → ((l : BridgeLane) → AllCarry (LastOf board h) (origins_of board h) l (both (world_by Untagged board h) l))
      → (l : BridgeLane) → AllCarry (LastOf board (e ∷ h)) (origins_of board h) l (both (world_by Untagged board h) l)
  weaker e h run old l =
      let back : BridgeLane = lane_back l in
      let same : world_by Untagged board h back ≡ forget (world_of board h back) = forgets h run.1 back in
      let S : Carried → Type 0 = Still board h e in
      let still = each_first S (world_of board h back).standing (world_of board h back).flight (event_still board valid h e run back) in
      let flying : AllByRecursion S (world_by Untagged board h back).flight = subst (λ (s : LaneState). AllByRecursion S s.flight) (sym same) still.1 in
      let standing : AllByRecursion S (world_by Untagged board h back).standing = subst (λ (s : LaneState). AllByRecursion S s.standing) (sym same) still.0 in (
        each_still board h e (origins_of board h l) (world_by Untagged board h back).flight flying (old l).0,
        each_still board h e (origins_of board h l) (world_by Untagged board h back).standing standing (old l).1,
      )

  -- the own slot and its completion are the operation's by either rule
  taken_last : (h : List Event) (on : ℕ) (by : By) (o : OpId) (outcome : Outcome) (lane : BridgeLane) → Run board (Act on by o (Take outcome) (Lane lane) ∷ h) → UntaggedAllowed board h (Act on by o (Take outcome) (Lane lane))
      → ((l : BridgeLane) → AllCarry (LastOf board h) (origins_of board h) l (both (world_by Untagged board h) l)) → (reading : Reading)
      → origin_in (origins_of board h) lane (find (is_own board on anyone o) (world_by Untagged board h lane).held) ≡ Some reading → last_reading board o h ≡ Some reading
  taken_last h on by o outcome lane run allowed carry reading is =
      let formed = valid.well_formed in
      let at = answered_in board (world_by Untagged board h) h on anyone o (Take outcome) lane allowed.1 in
      let there = answered_at board h on by o (Take outcome) lane run.0.1 in
      let takes = TakesItsOwn-run board h on by o outcome lane (WellFormed-numbers board formed) (WellFormed-single board formed) run in
      let alike : Alike board on by o (world_of board h lane).held =
      presented_alike board (IsTree-valid board valid) (WellFormed-numbers board formed) (WellFormed-single board formed) well_at apart h run.1 on by o run.0.0 there.request there.is_request there.gives.0 lane there.claims in
      let taken = at.gives.1 in
      let held_same : (world_by Untagged board h lane).held ≡ map unnamed (world_of board h lane).held = ap (λ (s : LaneState). s.held) (forgets h run.1 lane) in
      let own : find (is_own board on anyone o) (world_by Untagged board h lane).held ≡ Some (unnamed takes.slot) =
      ap (find (is_own board on anyone o)) held_same ∙ own_unnamed board on by o (world_of board h lane).held alike ∙ ap (option_map unnamed) takes.is_own_slot in
      let slot_some : ◌≡◌ {A = Option Slot} (Some taken.slot) (Some (unnamed takes.slot)) = sym taken.is_own_slot ∙ own in
      let slot_same : taken.slot ≡ unnamed takes.slot = cc in
      let number : taken.slot.number ≡ takes.slot.number = ap (λ (s : Slot). s.number) slot_same in
      let standing_same : (world_by Untagged board h (lane_back lane)).standing ≡ (world_of board h (lane_back lane)).standing = ap (λ (s : LaneState). s.standing) (forgets h run.1 (lane_back lane)) in
      let done : find (is_done_for taken.slot.number) (world_by Untagged board h (lane_back lane)).standing ≡ Some (Done o takes.slot.number outcome) =
      ap (find (is_done_for taken.slot.number)) standing_same ∙ ap (λ n. find (is_done_for n) (world_of board h (lane_back lane)).standing) number ∙ takes.stands in
      let dones : ◌≡◌ {A = Option Carried} (Some (Done taken.op taken.number outcome)) (Some (Done o takes.slot.number outcome)) = sym taken.stands ∙ done in
      let op_same : taken.op ≡ o = cc in
      let good : last_reading board taken.op h ≡ Some reading = taken_good (LastOf board h) board (world_by Untagged board h) h (origins_of board h) carry on o outcome lane at reading is in
      subst (λ p. last_reading board p h ≡ Some reading) op_same good

  -- where an act has its value from is then the last reading of its operation
  module _ (h : List Event) (on : ℕ) (by : By) (o : OpId) (carry : (l : BridgeLane) → AllCarry (LastOf board h) (origins_of board h) l (both (world_by Untagged board h) l)) where
    older : (step : Step) (place : Place) (reading : Reading) → reading_by board h on o step place ≡ None → last_reading board o h ≡ Some reading → last_reading board o (Act on by o step place ∷ h) ≡ Some reading
    older step place reading none last =
        let P : Bool → Type 0 = λ b. reading_or (cond b (reading_by board h on o step place) None) (last_reading board o h) ≡ Some reading in
        let F : Option Reading → Type 0 = λ here. reading_or here (last_reading board o h) ≡ Some reading in
        elim (same_op o o) as P [ true ↦ subst F (sym none) last | false ↦ last ]

    place_last : (outcome : Outcome) (place : Place) → Run board (Act on by o (Take outcome) place ∷ h) → UntaggedAllowed board h (Act on by o (Take outcome) place) → (reading : Reading)
        → taken_from board (world_by Untagged board h) (origins_of board h) on o place ≡ Some reading → last_reading board o h ≡ Some reading
    place_last outcome (Target target) run allowed reading is = cc
    place_last outcome (Header bus) run allowed reading is = cc
    place_last outcome (Lane lane) run allowed reading is = taken_last h on by o outcome lane run allowed carry reading is
    place_last outcome Nobody run allowed reading is = cc

    source_last : (step : Step) (place : Place) → Run board (Act on by o step place ∷ h) → UntaggedAllowed board h (Act on by o step place) → (reading : Reading)
        → source_of board h (world_by Untagged board h) (origins_of board h) on o step place ≡ Some reading → last_reading board o (Act on by o step place ∷ h) ≡ Some reading
    source_last Land place run allowed reading is = cc
    source_last (Part phases) place run allowed reading is = cc
    source_last (Read value) place run allowed reading is =
        let P : Option Reading → Type 0 = λ here. reading_at board h on o value place ≡ here → reading_or here None ≡ Some reading → reading_at board h on o value place ≡ Some reading in
        let some : reading_at board h on o value place ≡ Some reading = (elim (reading_at board h on o value place) as P [ None ↦ λ _ f. cc | Some here ↦ λ is_here f. is_here ∙ f ]) refl is in
        let F : Bool → Option Reading → Type 0 = λ b here. reading_or (cond b here None) (last_reading board o h) ≡ Some reading in
        let there : F true (Some reading) = refl in
        subst (λ b. F b (reading_at board h on o value place)) (sym (same_op_self o)) (subst (F true) (sym some) there)
    source_last Accept place run allowed reading is = cc
    source_last Latch place run allowed reading is = cc
    source_last (Take outcome) place run allowed reading is = older (Take outcome) place reading refl (place_last outcome place run allowed reading is)
    source_last Stall place run allowed reading is = cc
    source_last MasterAbort place run allowed reading is = cc
    source_last TargetAbort place run allowed reading is = cc

  makes_last : (e : Event) (h : List Event) → Run board (e ∷ h) → UntaggedAllowed board h e → ((l : BridgeLane) → AllCarry (LastOf board h) (origins_of board h) l (both (world_by Untagged board h) l)) → Makes (LastOf board (e ∷ h)) board h e
  makes_last (Act on Master o step place) h run allowed carry = tt
  makes_last (Act on (ByLane k) o step place) h run allowed carry = λ outcome ends reading is. source_last h on (ByLane k) o carry step place run allowed reading is
  makes_last (Arrive lane mark) h run allowed carry = tt

  last_run : (h : List Event) → Run board h → UntaggedRun board h → (l : BridgeLane) → AllCarry (LastOf board h) (origins_of board h) l (both (world_by Untagged board h) l)
  last_run [] run plain = λ l. (tt, tt)
  last_run (e ∷ h) run plain =
      let old = last_run h run.1 plain.1 in
      event_carries (LastOf board (e ∷ h)) board e h plain.1 plain.0 (makes_last e h run plain.0 old) (weaker e h run old)

  -- What a read got.

  ending_last : (e : Event) (h : List Event) (r : OpId) (reading : Reading) → Run board (e ∷ h) → UntaggedRun board (e ∷ h) → is_some (ends_as r e) ≡ true → ending_reading board h e ≡ Some reading → last_reading board r (e ∷ h) ≡ Some reading
  ending_last (Act on Master o step place) h r reading run plain ends is =
      let source : Option Reading = source_of board h (world_by Untagged board h) (origins_of board h) on o step place in
      let P : Bool → Type 0 = λ b. cond b source None ≡ Some reading → source ≡ Some reading in
      let from : source ≡ Some reading = (elim (reads board o) as P [ true ↦ λ f. f | false ↦ λ f. cc ]) is in
      let last = source_last h on Master o (last_run h run.1 plain.1) step place run plain.0 reading from in
      let ended_it = ends_some r (Act on Master o step place) ends in
      let Q : Option Outcome → Type 0 = λ given. ending_of o given ≡ Some (record { op = r; outcome = ended_it.outcome }) → o ≡ r in
      let same : o ≡ r = (elim (master_outcome step) as Q [ None ↦ λ f. cc | Some outcome ↦ λ f. ap (op_or o) f ]) ended_it.is in
      subst (λ p. last_reading board p (Act on Master o step place ∷ h) ≡ Some reading) same last
    where
      op_or : OpId → Option Ending → OpId
      op_or o None = o
      op_or o (Some other) = other.op
  ending_last (Act on (ByLane lane) o step place) h r reading run plain ends is = cc
  ending_last (Arrive lane mark) h r reading run plain ends is = cc

  pub got_same : (h : List Event) (r : OpId) (reading : Reading) → Run board h → UntaggedRun board h → untagged_got board h r ≡ Some reading → got board h r ≡ Some reading
  got_same [] r reading run plain is = cc
  got_same (e ∷ h) r reading run plain is =
      let P : Option Outcome → Type 0 = λ given. ends_as r e ≡ given → cond (is_some given) (ending_reading board h e) (untagged_got board h r) ≡ Some reading → last_reading board r (cond (is_some (value_of_ending given)) (e ∷ h) (up_to_end r h)) ≡ Some reading in
      (elim (ends_as r e) as P [
        | None ↦ λ _ f. got_same h r reading run.1 plain.1 f
        | Some outcome ↦ λ some f.
            let ends : is_some (ends_as r e) ≡ true = ap is_some some in
            let with_value : ends_with r e ≡ Some reading.value = ending_value board e h r reading plain ends f in
            let value : is_some (value_of_ending (Some outcome)) ≡ true = ap (λ g. is_some (value_of_ending g)) (sym some) ∙ ap is_some with_value in
            let F : Bool → Type 0 = λ b. last_reading board r (cond b (e ∷ h) (up_to_end r h)) ≡ Some reading in
            subst F (sym value) (ending_last e h r reading run plain ends f)
      ]) refl is

  -- Freshness.

  module _ (h : List Event) (run : Run board h) (plain : UntaggedRun board h) where
    tells_same : (p q : OpId) → untagged_tells board h p q ≡ true → tells board h p q ≡ true
    tells_same p q is =
        or_either (tells board h p q ≡ true) (later board h p q) (untagged_saw board h q p)
        (λ later_it. or_left (later board h p q) (saw board h q p) later_it)
        (λ saw_it.
        let P : Option Reading → Type 0 = λ found. untagged_got board h q ≡ found → saw_in board p found ≡ true → saw board h q p ≡ true in
        let F : Option Reading → Type 0 = λ found. saw_in board p found ≡ true in
        or_right (later board h p q) (saw board h q p)
        ((elim (untagged_got board h q) as P [ None ↦ λ _ f. cc | Some reading ↦ λ got_it f. subst F (sym (got_same h q reading run plain got_it)) f ]) refl saw_it))
        is

    chain_same : (p q : OpId) → UntaggedChain board h p q → Chain board h p q
    chain_same a b (UntaggedChain.one p q is) = Chain.one p q (tells_same p q is)
    chain_same a b (UntaggedChain.more p q r is rest) = Chain.more p q r (tells_same p q is) (chain_same q r rest)

    -- a fresh run is fresh by what its reads got on bridges that keep no local master
    pub fresh_same : Fresh board h → UntaggedFresh board h
    fresh_same fresh = record {
      informed = λ w r reading told got_it of_word. fresh.informed w r reading (told.0, chain_same w r told.1) (got_same h r reading run plain got_it) of_word;
      returned = λ r reading got_it. got_returned board h r reading plain got_it;
    }
