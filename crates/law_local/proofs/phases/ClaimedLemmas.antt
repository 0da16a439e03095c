-- What a lane carries was claimed by it where it begins, and so is not claimed by its lane back where it ends.
use Rattle.std.proofs.Common.{◌≡◌, ℕ, ◌+◌, ◌≤◌, ◌==◌, eqb, Bool, true, false, cond, List, [], ◌∷◌, length, Option, Some, None, refl, sym, subst, ◌∙◌, arith}
use Rattle.std.specs.List.{find, AllByRecursion}
use Rattle.std.proofs.lemmas.Bool.{and_parts}
use Rattle.list_facts.specs.Lists.{before}
use Rattle.list_facts.proofs.EachLemmas.{Each-append, Each-push, Each-less, Each-find}
use Rattle.list_facts.proofs.FindLemmas.{find_passes}
use Rattle.pci_command.specs.declared.request.Request.{Request}
use Rattle.pci_command.specs.declared.op_id.OpId.{OpId}
use Rattle.pci_command.specs.declared.op_id.Outcome.{Outcome}
use Rattle.board_model.specs.declared.bridge.Lane.{Lane as BridgeLane}
use Rattle.board_model.specs.declared.bridge.Place.TheVariants.{Lane}
use Rattle.board_model.specs.declared.op.Op.{Op}
use Rattle.board_model.specs.declared.board.Board.{Board}
use Rattle.board_model.specs.Requests.{op_of, request_on, request_of, is_posted}
use Rattle.board_model.specs.Claims.{claim}
use Rattle.board_model.specs.Valid.{IsValid}
use Rattle.board_model.specs.Ways.{end_of, lane_back}
use Rattle.board_model.proofs.Laws.{WellFormed-parts}
use Rattle.board_model.proofs.form_laws.Laws.{no_turn}
use Rattle.history_model.specs.declared.event.By.{By}
use Rattle.history_model.specs.declared.event.By.TheVariants.{Lane as ByLane}
use Rattle.history_model.specs.declared.event.Event.{Event}
use Rattle.history_model.specs.declared.event.Mark.{Mark}
use Rattle.history_model.specs.declared.event.Step.TheVariants.{Accept, Latch}
use Rattle.history_model.specs.declared.item.Carried.{Carried}
use Rattle.history_model.specs.declared.item.Carried.TheVariants.{Post, Ask, Done, Room, Gone}
use Rattle.history_model.specs.Lanes.{Both, is_of, is_done_for, lowest_free, reply_to, post_enters, ask_enters, Effect, Stands, Credits, Frees, Drops, effect_of, takes_effect, came_off, arrives_first}
use Rattle.history_model.specs.World.{both, world_of}
use Rattle.history_model.specs.Words.{parted_by, through, without}
use Rattle.history_model.specs.Answers.{presents_item, presents}
use Rattle.history_model.specs.Runs.{Run}
use Rattle.history_model.specs.Local.{bus_of}
use Rattle.history_model.proofs.facts.AnswerLemmas.{AtLane}
use Rattle.history_model.proofs.facts.KeptLemmas.{Pair, Kept, runs_keep}
use Rattle.history_model.proofs.facts.RequestLemmas.{same_op_true, request_is_of, claim_whole}
use Rattle.law_lanes.proofs.Laws.{delayed-not_parted}
use Rattle.law_lanes.specs.order.Order.{is_posted_op}
use Rattle.law_lanes.proofs.order.Laws.{op_is_posted, Short, Short-run, claims_from, rest_claimed}
use Rattle.law_local.specs.Known.{events_on, known, JointRun}
use Rattle.law_local.proofs.Laws.{IsFit, IsFit-valid, wants_local}
use Rattle.law_local.specs.phases.Taken.{NothingTurnsBack}

-- on some bus the lane claims the whole operation
record ClaimedBy (board : Board) (lane : BridgeLane) (o : OpId) : Type 0 where
  on : ℕ
  op : Op
  is_op : op_of board o ≡ Some op
  claims : claim board on (request_on op on) ≡ Lane lane

-- so it does the operation of a posted write or of a delayed request
abbrev Claimed : Board → BridgeLane → Carried → Type 0
Claimed board lane (Post op) = ClaimedBy board lane op
Claimed board lane (Ask op slot) = ClaimedBy board lane op
Claimed board lane (Done op slot outcome) = Unit {0}
Claimed board lane Room = Unit {0}
Claimed board lane (Gone slot) = Unit {0}

abbrev AllClaimed : Board → BridgeLane → Both → Type 0
AllClaimed board lane x = AllByRecursion (Claimed board lane) x.here.flight × AllByRecursion (Claimed board lane) x.here.standing

reply_claimed : (board : Board) (lane : BridgeLane) (outcome : Outcome) (item : Option Carried) → AllByRecursion (Claimed board lane) (reply_to outcome item)
reply_claimed board lane outcome None = tt
reply_claimed board lane outcome (Some (Post op)) = (tt, tt)
reply_claimed board lane outcome (Some (Ask op slot)) = (tt, tt)
reply_claimed board lane outcome (Some (Done op slot given)) = tt
reply_claimed board lane outcome (Some Room) = tt
reply_claimed board lane outcome (Some (Gone slot)) = tt

effect_keeps : (board : Board) (effect : Effect) (item : Carried) (lane : BridgeLane) (x : Both) → Claimed board lane item → Pair (AllClaimed board) lane x → Pair (AllClaimed board) lane (takes_effect effect item x)
effect_keeps board Stands item lane x one old = ((old.0.0, Each-push (Claimed board lane) x.here.standing item old.0.1 one), old.1)
effect_keeps board Credits item lane x one old = old
effect_keeps board (Frees slot) item lane x one old = old
effect_keeps board (Drops slot) item lane x one old = (old.0, (Each-push (Claimed board (lane_back lane)) x.back.flight (Gone slot) old.1.0 tt, old.1.1))

first_keeps : (board : Board) (mark : Mark) (flight : List Carried) (lane : BridgeLane) (x : Both) → x.here.flight ≡ flight → Pair (AllClaimed board) lane x → Pair (AllClaimed board) lane (arrives_first mark flight x)
first_keeps board mark [] lane x is old = old
first_keeps board mark (item ∷ rest) lane x is old =
    let all = subst (AllByRecursion (Claimed board lane)) is old.0.0 in
    effect_keeps board (effect_of mark item) item lane (record x { here = came_off item rest x.here }) all.0 ((all.1, old.0.1), old.1)

module _ (board : Board) (fit : IsFit board) where
  accept_keeps : (h : List Event) (on : ℕ) (by : By) (o : OpId) (lane : BridgeLane) → Run board h → AtLane board h on by o Accept lane
      → Pair (AllClaimed board) lane (both (world_of board h) lane) → Pair (AllClaimed board) lane (post_enters o (both (world_of board h) lane))
  accept_keeps h on by o lane run at old =
      let of_op = request_is_of board o on at.request at.is_request in
      let posted : is_posted_op board o ≡ true = op_is_posted board on o at.request true at.is_request at.gives.0 in
      let rest : claim board on (without (through h o) (request_on of_op.op on)) ≡ Lane lane = subst (λ (r : Request). claim board on (without (through h o) r) ≡ Lane lane) of_op.is_request at.claims in
      let one : ClaimedBy board lane o = record { on = on; op = of_op.op; is_op = of_op.is_op; claims = sym (rest_claimed board h o of_op.op on fit.one of_op.is_op posted run) ∙ rest } in
      ((Each-push (Claimed board lane) (world_of board h lane).flight (Post o) old.0.0 one, old.0.1), old.1)

  latch_keeps : (h : List Event) (on : ℕ) (by : By) (o : OpId) (lane : BridgeLane) → Run board h → AtLane board h on by o Latch lane
      → Pair (AllClaimed board) lane (both (world_of board h) lane) → Pair (AllClaimed board) lane (ask_enters by o (both (world_of board h) lane))
  latch_keeps h on by o lane run at old =
      let of_op = request_is_of board o on at.request at.is_request in
      let none = delayed-not_parted board h o on at.request fit.single run at.is_request at.gives.0 in
      let whole : claim board on (request_on of_op.op on) ≡ Lane lane = subst (λ (r : Request). claim board on r ≡ Lane lane) of_op.is_request (claim_whole board on at.request (through h o) (Lane lane) none at.claims) in
      let one : ClaimedBy board lane o = record { on = on; op = of_op.op; is_op = of_op.is_op; claims = whole } in
      ((Each-push (Claimed board lane) (world_of board h lane).flight (Ask o (lowest_free (world_of board h lane).held)) old.0.0 one, old.0.1), old.1)

  AllClaimed-kept : Kept board (AllClaimed board)
  AllClaimed-kept =
      record {
        empty = λ lane. (tt, tt);
        accepts = λ h on by o lane run _ at old. accept_keeps h on by o lane run at old;
        latches = λ h on by o lane run _ at old. latch_keeps h on by o lane run at old;
        takes = λ lane number op slot outcome x _ old. (old.0, (old.1.0, Each-less (Claimed board (lane_back lane)) (is_done_for number) x.back.standing old.1.1));
        ends = λ lane o outcome x old. (
          (old.0.0, Each-less (Claimed board lane) (is_of o) x.here.standing old.0.1),
          (Each-append (Claimed board (lane_back lane)) x.back.flight (reply_to outcome (find (is_of o) x.here.standing)) old.1.0 (reply_claimed board (lane_back lane) outcome (find (is_of o) x.here.standing)), old.1.1),
        );
        comes = λ lane mark x old. first_keeps board mark x.here.flight lane x refl old;
      }

-- what stands of an operation that is presented was claimed
item_claimed : (board : Board) (on : ℕ) (lane : BridgeLane) (o : OpId) (older : List Carried) (item : Option Carried)
    → ((found : Carried) → item ≡ Some found → (is_of o found ≡ true) × Claimed board lane found) → presents_item board on older item ≡ true → ClaimedBy board lane o
item_claimed board on lane o older None known presented = cc
item_claimed board on lane o older (Some (Post op)) known presented = let k = known (Post op) refl in subst (ClaimedBy board lane) (sym (same_op_true o op k.0)) k.1
item_claimed board on lane o older (Some (Ask op slot)) known presented = let k = known (Ask op slot) refl in subst (ClaimedBy board lane) (sym (same_op_true o op k.0)) k.1
item_claimed board on lane o older (Some (Done op slot outcome)) known presented = let k = known (Done op slot outcome) refl in let fails = k.0 in cc
item_claimed board on lane o older (Some Room) known presented = let k = known Room refl in let fails = k.0 in cc
item_claimed board on lane o older (Some (Gone slot)) known presented = let k = known (Gone slot) refl in let fails = k.0 in cc

presented_claimed : (board : Board) (on : ℕ) (lane : BridgeLane) (o : OpId) (standing : List Carried) → AllByRecursion (Claimed board lane) standing → presents board on o standing ≡ true → ClaimedBy board lane o
presented_claimed board on lane o standing all shows =
    item_claimed board on lane o (before (is_of o) standing) (find (is_of o) standing)
    (λ found some. (find_passes (is_of o) standing found some, Each-find (Claimed board lane) (is_of o) standing found all some)) shows

-- of one bus fewer data phases go through than of all
fewer_through : (board : Board) (bus : ℕ) (o : OpId) (h : List Event) → through (events_on board bus h) o ≤ through h o
fewer_through board bus o [] = omega arith
fewer_through board bus o (e ∷ h) =
    let old = fewer_through board bus o h in
    let P : Bool → Type 0 = λ b. through (cond b (e ∷ events_on board bus h) (events_on board bus h)) o ≤ parted_by o e + through h o in
    elim (eqb (bus_of board e) bus) as P [ true ↦ omega (arith, old) | false ↦ omega (arith, old) ]

-- what is left of a request is claimed as the whole, by what the bus knows of how far it went
known_rest : (board : Board) (fit : IsFit board) (h : List Event) (bus k : ℕ) (o : OpId) (op : Op) → Run board h → op_of board o ≡ Some op → k ≤ through h o
    → claim board bus (without k (request_on op bus)) ≡ claim board bus (request_on op bus)
known_rest board fit h bus k o op run is_op fewer =
    let request : Request = request_on op bus in
    let there : request_of board o bus ≡ Some request = rw is_op refl in
    let P : Bool → Type 0 = λ b. is_posted request ≡ b → claim board bus (without k request) ≡ claim board bus request in
    (elim (is_posted request) as P [
      | true ↦ λ write.
          let posted : is_posted_op board o ≡ true = op_is_posted board bus o request true there write in
          let all = Short-run board h o op is_op posted run in
          let short : Short k (length request.phases) = λ some. omega (arith, fewer, all (omega (arith, fewer, some))) in
          claims_from board o bus request k fit.one there write short
      | false ↦ λ delayed.
          let none = delayed-not_parted board h o bus request fit.single run there delayed in
          sym (claim_whole board bus request k (claim board bus (without k request)) (omega (arith, none, fewer)) refl)
    ]) refl

pub nothing_back : (board : Board) (sent : BridgeLane → List Carried) (h : List Event) → IsValid board → JointRun board sent h → NothingTurnsBack board sent h
nothing_back board sent h valid joint lane o request wanted is_request turns =
    let fit = IsFit-valid board valid in
    let bus : ℕ = end_of board lane in
    let k : ℕ = through (events_on board bus h) o in
    let standing : List Carried = (world_of board h lane).standing in
    let shown = wants_local board sent h bus joint.joint joint.run (ByLane lane) o ∙ wanted in
    let shows : presents board bus o standing ≡ true = (and_parts (end_of board lane == bus) (presents board bus o standing) shown).1 in
    let one = presented_claimed board bus lane o standing (runs_keep board (AllClaimed board) (AllClaimed-kept board fit) h joint.run lane).1 shows in
    let of_op = request_is_of board o bus request is_request in
    let same : of_op.op ≡ one.op = cc in
    let rest : claim board bus (without k (request_on one.op bus)) ≡ Lane (lane_back lane) =
    subst (λ (op : Op). claim board bus (without k (request_on op bus)) ≡ Lane (lane_back lane)) same (subst (λ (r : Request). claim board bus (without k r) ≡ Lane (lane_back lane)) of_op.is_request turns) in
    no_turn board one.op one.on lane (WellFormed-parts board valid.well_formed).numbered_apart one.claims
    (sym (known_rest board fit h bus k o one.op joint.run one.is_op (fewer_through board bus o h)) ∙ rest)
