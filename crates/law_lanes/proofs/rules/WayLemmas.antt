-- A delayed operation that a lane presents has the lane on its way, under either rule.
use Rattle.std.proofs.Common.{◌≡◌, ℕ, Bool, true, false, ◌||◌, ◌==◌, List, [], ◌∷◌, Option, Some, None, refl, sym, ap, subst, ◌∙◌, slice_get, eqb-true}
use Rattle.std.specs.List.{find, list_any, AllByRecursion}
use Rattle.std.proofs.lemmas.Bool.{and_parts}
use Rattle.list_facts.specs.Lists.{before}
use Rattle.list_facts.proofs.EachLemmas.{Each-push, Each-append, Each-less, Each-find}
use Rattle.list_facts.proofs.FindLemmas.{find_passes}
use Rattle.pci_command.specs.declared.command.Command.TheVariants.{MemWrite}
use Rattle.pci_command.specs.declared.op_id.OpId.{OpId}
use Rattle.pci_command.specs.declared.op_id.Outcome.{Outcome}
use Rattle.pci_command.specs.Same.{same_command}
use Rattle.board_model.specs.declared.agents.Master.{Master as MasterAgent}
use Rattle.board_model.specs.declared.bridge.Lane.{Lane as BridgeLane}
use Rattle.board_model.specs.declared.bridge.Place.{Place}
use Rattle.board_model.specs.declared.bridge.Place.TheVariants.{Target, Header, Lane, Nobody}
use Rattle.board_model.specs.declared.op.Op.{Op}
use Rattle.board_model.specs.declared.board.Board.{Board}
use Rattle.board_model.specs.Requests.{command_of, op_of, request_on, is_posted}
use Rattle.board_model.specs.Claims.{claim}
use Rattle.board_model.specs.Ways.{end_of, lane_back, way}
use Rattle.board_model.specs.Valid.{IsValid}
use Rattle.board_model.specs.form_laws.Trees.{IsTree}
use Rattle.board_model.proofs.form_laws.Laws.{IsTree-valid}
use Rattle.history_model.specs.declared.event.By.{By}
use Rattle.history_model.specs.declared.event.By.TheVariants.{Master, Lane as ByLane}
use Rattle.history_model.specs.declared.event.Mark.{Mark}
use Rattle.history_model.specs.declared.event.Step.{Step}
use Rattle.history_model.specs.declared.event.Step.TheVariants.{Land, Part, Read, Accept, Latch, Take, Stall, MasterAbort, TargetAbort}
use Rattle.history_model.specs.declared.event.Event.{Event}
use Rattle.history_model.specs.declared.event.Event.TheVariants.{Act, Arrive}
use Rattle.history_model.specs.declared.item.Carried.{Carried}
use Rattle.history_model.specs.declared.item.Carried.TheVariants.{Post, Ask, Done, Room, Gone}
use Rattle.history_model.specs.declared.item.Slot.{Slot}
use Rattle.history_model.specs.declared.item.Answer.TheVariants.{Gives}
use Rattle.history_model.specs.declared.rule.Rule.{Rule}
use Rattle.history_model.specs.Lanes.{Both, lowest_free, is_of, is_done_for, reply_to, item_ends, arrives, Effect, Stands, Credits, Frees, Drops, effect_of, takes_effect, came_off, arrives_first}
use Rattle.history_model.specs.World.{World, both, moved, same_lane, noted, slot_found, is_own, enters, at_place, lane_outcome, leaves, at_initiator, world_by}
use Rattle.history_model.specs.Program.{turn_of}
use Rattle.history_model.specs.Words.{through}
use Rattle.history_model.specs.Answers.{is_on, is_turn, presents_item_by, presents_by, wants_by, answer_by_rule}
use Rattle.history_model.specs.Runs.{AllowedBy, RunBy}
use Rattle.history_model.proofs.facts.AnswerLemmas.{AtLaneIn, answered_in}
use Rattle.history_model.proofs.facts.BridgeLemmas.{flip, both_back, moved_keeps, same_lane_true, same_lane_self}
use Rattle.history_model.proofs.facts.PathLemmas.{way_goes, way_cons}
use Rattle.history_model.proofs.facts.RequestLemmas.{same_op_true, request_is_of, claim_whole}
use Rattle.law_lanes.specs.Kinds.{NamesOp}
use Rattle.law_lanes.proofs.Laws.{WellFormed-single}
use Rattle.law_lanes.specs.rules.AskedWay.{AskedWay}
use Rattle.law_lanes.proofs.rules.PartLemmas.{delayed-not_parted_by}

-- Ways.

-- the lane that claims on a bus is the first of the way from there
first_on_way : (board : Board) (op : Op) (on : ℕ) (lane : BridgeLane) → IsTree board → claim board on (request_on op on) ≡ Lane lane → list_any (same_lane lane) (way board op on) ≡ true
first_on_way board op on lane tree claims =
    let goes = way_goes board op on lane tree claims in
    let self = same_lane_self lane in
    rw goes (rw self refl)

any_later : (test : BridgeLane → Bool) (first : BridgeLane) (lanes : List BridgeLane) → list_any test lanes ≡ true → list_any test (first ∷ lanes) ≡ true
any_later test first lanes later =
    let P : Bool → Type 0 = λ b. (b || list_any test lanes) ≡ true in
    elim (test first) as P [ true ↦ refl | false ↦ later ]

-- where a lane is of a way, the lane that claims at its end is of it too
next_on_way : (board : Board) (op : Op) (tree : IsTree board) (k lane : BridgeLane) (lanes : List BridgeLane) (on : ℕ) → lanes ≡ way board op on → list_any (same_lane k) lanes ≡ true
    → claim board (end_of board k) (request_on op (end_of board k)) ≡ Lane lane → list_any (same_lane lane) lanes ≡ true
next_on_way board op tree k lane [] on is any claims = cc
next_on_way board op tree k lane (first ∷ lanes) on is any claims =
    let goes = way_cons board op on first lanes tree is in
    let P : Bool → Type 0 = λ b. same_lane k first ≡ b → (b || list_any (same_lane k) lanes) ≡ true → list_any (same_lane lane) (first ∷ lanes) ≡ true in
    (elim (same_lane k first) as P [
      | true ↦ λ same _.
          let one : k ≡ first = same_lane_true k first same in
          let later : lanes ≡ way board op (end_of board k) = goes.later ∙ ap (λ (l : BridgeLane). way board op (end_of board l)) (sym one) in
          any_later (same_lane lane) first lanes (ap (list_any (same_lane lane)) later ∙ first_on_way board op (end_of board k) lane tree claims)
      | false ↦ λ _ later. any_later (same_lane lane) first lanes (next_on_way board op tree k lane lanes (end_of board first) goes.later later claims)
    ]) refl any

-- Items.

-- a posted write names one, and a delayed request an operation that has the lane on its way
abbrev Placed : Board → BridgeLane → Carried → Type 0
Placed board lane (Post o) = NamesOp board true o
Placed board lane (Ask o slot) = AskedWay board lane o
Placed board lane (Done o slot outcome) = Unit {0}
Placed board lane Room = Unit {0}
Placed board lane (Gone slot) = Unit {0}

abbrev AllPlaced : Board → BridgeLane → Both → Type 0
AllPlaced board lane x = AllByRecursion (Placed board lane) x.here.flight × AllByRecursion (Placed board lane) x.here.standing

module _ (rule : Rule) (board : Board) (valid : IsValid board) where
  tree : IsTree board
  tree = IsTree-valid board valid

  -- what a lane presents of a delayed operation is its delayed request
  item_asked : (o : OpId) (op : Op) (k : BridgeLane) (item : Carried) → op_of board o ≡ Some op → same_command (command_of op) MemWrite ≡ false
      → is_of o item ≡ true → Placed board k item → AskedWay board k o
  item_asked o op k (Post q) is_op delayed is placed =
      let one : o ≡ q = same_op_true o q is in
      let other : op_of board o ≡ Some placed.op = rw one placed.is_op in
      let same : op ≡ placed.op = cc in
      let posted : same_command (command_of op) MemWrite ≡ true = rw same placed.is_posted in
      absurd (cc)
  item_asked o op k (Ask q slot) is_op delayed is placed = subst (AskedWay board k) (sym (same_op_true o q is)) placed
  item_asked o op k (Done q slot outcome) is_op delayed is placed = cc
  item_asked o op k Room is_op delayed is placed = cc
  item_asked o op k (Gone slot) is_op delayed is placed = cc

  presented_asked : (on : ℕ) (o : OpId) (op : Op) (k : BridgeLane) (standing : List Carried) → op_of board o ≡ Some op → same_command (command_of op) MemWrite ≡ false
      → AllByRecursion (Placed board k) standing → presents_by rule board on o standing ≡ true → AskedWay board k o
  presented_asked on o op k standing is_op delayed placed presented =
      let P : Option Carried → Type 0 = λ found. find (is_of o) standing ≡ found → presents_item_by rule board on (before (is_of o) standing) found ≡ true → AskedWay board k o in
      (elim (find (is_of o) standing) as P [
        | None ↦ λ _ never. cc
        | Some item ↦ λ found _. item_asked o op k item is_op delayed (find_passes (is_of o) standing item found) (Each-find (Placed board k) (is_of o) standing item placed found)
      ]) refl presented

  -- Latching.

  from_master : (on : ℕ) (o : OpId) (op : Op) (lane : BridgeLane) (found : Option MasterAgent) → op_of board o ≡ Some op → same_command (command_of op) MemWrite ≡ false
      → claim board on (request_on op on) ≡ Lane lane → slice_get board.masters o.master ≡ found → is_on on found ≡ true → AskedWay board lane o
  from_master on o op lane None is_op delayed claims is there = cc
  from_master on o op lane (Some master) is_op delayed claims is there =
      let bus : on ≡ master.bus = sym (eqb-true master.bus on there) in
      let claims_there : claim board master.bus (request_on op master.bus) ≡ Lane lane = subst (λ n. claim board n (request_on op n) ≡ Lane lane) bus claims in
      record { op = op; is_op = is_op; delayed = delayed; master = master; is_master = is; on_way = first_on_way board op master.bus lane tree claims_there }

  from_lane : (on : ℕ) (o : OpId) (op : Op) (k lane : BridgeLane) → op_of board o ≡ Some op → claim board on (request_on op on) ≡ Lane lane → end_of board k ≡ on → AskedWay board k o → AskedWay board lane o
  from_lane on o op k lane is_op claims ends old =
      let is_too = old.is_op in
      let same : op ≡ old.op = cc in
      let claims_op : claim board on (request_on old.op on) ≡ Lane lane = subst (λ p. claim board on (request_on p on) ≡ Lane lane) same claims in
      let claims_there : claim board (end_of board k) (request_on old.op (end_of board k)) ≡ Lane lane = subst (λ n. claim board n (request_on old.op n) ≡ Lane lane) (sym ends) claims_op in
      record {
        op = old.op;
        is_op = old.is_op;
        delayed = old.delayed;
        master = old.master;
        is_master = old.is_master;
        on_way = next_on_way board old.op tree k lane (way board old.op old.master.bus) old.master.bus refl old.on_way claims_there;
      }

  latched_by : (h : List Event) (on : ℕ) (by : By) (o : OpId) (op : Op) (lane : BridgeLane) → op_of board o ≡ Some op → same_command (command_of op) MemWrite ≡ false
      → claim board on (request_on op on) ≡ Lane lane → ((l : BridgeLane) → AllPlaced board l (both (world_by rule board h) l)) → wants_by rule board h on by o ≡ true → AskedWay board lane o
  latched_by h on Master o op lane is_op delayed claims placed wanted =
      from_master on o op lane (slice_get board.masters o.master) is_op delayed claims refl
      (and_parts (is_on on (slice_get board.masters o.master)) (is_turn o (turn_of board h o.master)) wanted).0
  latched_by h on (ByLane k) o op lane is_op delayed claims placed wanted =
      let st : List Carried = (world_by rule board h k).standing in
      let parts = and_parts (end_of board k == on) (presents_by rule board on o st) wanted in
      from_lane on o op k lane is_op claims (eqb-true (end_of board k) on parts.0) (presented_asked on o op k st is_op delayed (placed k).1 parts.1)

  -- A move of a lane.

  abbrev PairPlaced : BridgeLane → Both → Type 0
  PairPlaced lane x = AllPlaced board lane x × AllPlaced board (lane_back lane) (flip x)

  slot_placed : (lane : BridgeLane) (own : Option Slot) (x : Both) → PairPlaced lane x → PairPlaced lane (slot_found own x)
  slot_placed lane None x old = old
  slot_placed lane (Some slot) x old = (old.0, (old.1.0, Each-less (Placed board (lane_back lane)) (is_done_for slot.number) x.back.standing old.1.1))

  enters_placed : (on : ℕ) (by : By) (o : OpId) (step : Step) (lane : BridgeLane) (x : Both) → (step ≡ Accept → NamesOp board true o) → (step ≡ Latch → AskedWay board lane o)
      → PairPlaced lane x → PairPlaced lane (enters board on by o step x)
  enters_placed on by o Land lane x posts asks old = old
  enters_placed on by o (Part phases) lane x posts asks old = old
  enters_placed on by o (Read value) lane x posts asks old = old
  enters_placed on by o Accept lane x posts asks old = ((Each-push (Placed board lane) x.here.flight (Post o) old.0.0 (posts refl), old.0.1), old.1)
  enters_placed on by o Latch lane x posts asks old = ((Each-push (Placed board lane) x.here.flight (Ask o (lowest_free x.here.held)) old.0.0 (asks refl), old.0.1), old.1)
  enters_placed on by o (Take outcome) lane x posts asks old = slot_placed lane (find (is_own board on by o) x.here.held) x old
  enters_placed on by o Stall lane x posts asks old = old
  enters_placed on by o MasterAbort lane x posts asks old = old
  enters_placed on by o TargetAbort lane x posts asks old = old

  reply_placed : (lane : BridgeLane) (outcome : Outcome) (item : Option Carried) → AllByRecursion (Placed board lane) (reply_to outcome item)
  reply_placed lane outcome None = tt
  reply_placed lane outcome (Some (Post op)) = (tt, tt)
  reply_placed lane outcome (Some (Ask op slot)) = (tt, tt)
  reply_placed lane outcome (Some (Done op slot given)) = tt
  reply_placed lane outcome (Some Room) = tt
  reply_placed lane outcome (Some (Gone slot)) = tt

  ends_placed : (lane : BridgeLane) (o : OpId) (outcome : Outcome) (x : Both) → PairPlaced lane x → PairPlaced lane (item_ends o outcome x)
  ends_placed lane o outcome x old =
      let item : Option Carried = find (is_of o) x.here.standing in (
        (old.0.0, Each-less (Placed board lane) (is_of o) x.here.standing old.0.1),
        (Each-append (Placed board (lane_back lane)) x.back.flight (reply_to outcome item) old.1.0 (reply_placed (lane_back lane) outcome item), old.1.1),
      )

  effect_placed : (lane : BridgeLane) (effect : Effect) (item : Carried) (x : Both) → Placed board lane item → PairPlaced lane x → PairPlaced lane (takes_effect effect item x)
  effect_placed lane Stands item x placed old = ((old.0.0, Each-push (Placed board lane) x.here.standing item old.0.1 placed), old.1)
  effect_placed lane Credits item x placed old = old
  effect_placed lane (Frees slot) item x placed old = old
  effect_placed lane (Drops slot) item x placed old = (old.0, (Each-push (Placed board (lane_back lane)) x.back.flight (Gone slot) old.1.0 tt, old.1.1))

  first_placed : (lane : BridgeLane) (mark : Mark) (flight : List Carried) (x : Both) → AllByRecursion (Placed board lane) flight → PairPlaced lane x → PairPlaced lane (arrives_first mark flight x)
  first_placed lane mark [] x flying old = old
  first_placed lane mark (item ∷ rest) x flying old =
      effect_placed lane (effect_of mark item) item (record x { here = came_off item rest x.here }) flying.0 ((flying.1, old.0.1), old.1)

  -- One more event.

  abbrev WorldPlaced : World → Type 0
  WorldPlaced world = (l : BridgeLane) → AllPlaced board l (both world l)

  pair_at : (world : World) (lane : BridgeLane) → WorldPlaced world → PairPlaced lane (both world lane)
  pair_at world lane placed = (placed lane, subst (AllPlaced board (lane_back lane)) (both_back world lane) (placed (lane_back lane)))

  moved_placed : (move : Both → Both) (lane : BridgeLane) (world : World) → WorldPlaced world → (PairPlaced lane (both world lane) → PairPlaced lane (move (both world lane))) → WorldPlaced (moved move lane world)
  moved_placed move lane world old keeps =
      let new : PairPlaced lane (move (both world lane)) = keeps (pair_at world lane old) in
      moved_keeps (AllPlaced board) move lane world old new.0 new.1

  -- what is accepted is a write in memory
  accepted : (h : List Event) (on : ℕ) (by : By) (o : OpId) (lane : BridgeLane) → AtLaneIn board (world_by rule board h) h on by o Accept lane → NamesOp board true o
  accepted h on by o lane at =
      let of_op = request_is_of board o on at.request at.is_request in
      record { op = of_op.op; is_op = of_op.is_op; is_posted = sym (ap is_posted of_op.is_request) ∙ at.gives.0 }

  -- and what is latched is claimed by the lane as a whole
  latched : (h : List Event) (on : ℕ) (by : By) (o : OpId) (lane : BridgeLane) → RunBy rule board h → WorldPlaced (world_by rule board h) → wants_by rule board h on by o ≡ true
      → AtLaneIn board (world_by rule board h) h on (noted rule by) o Latch lane → AskedWay board lane o
  latched h on by o lane run old wanted at =
      let of_op = request_is_of board o on at.request at.is_request in
      let delayed : is_posted (request_on of_op.op on) ≡ false = sym (ap is_posted of_op.is_request) ∙ at.gives.0 in
      let none : through h o ≡ 0 = delayed-not_parted_by rule board h o on at.request (WellFormed-single board valid.well_formed) run at.is_request at.gives.0 in
      let claims : claim board on at.request ≡ Lane lane = claim_whole board on at.request (through h o) (Lane lane) none at.claims in
      latched_by h on by o of_op.op lane of_op.is_op delayed (ap (claim board on) (sym of_op.is_request) ∙ claims) old wanted

  lane_placed : (h : List Event) (on : ℕ) (by : By) (o : OpId) (step : Step) (lane : BridgeLane) → RunBy rule board h → WorldPlaced (world_by rule board h) → wants_by rule board h on by o ≡ true
      → AtLaneIn board (world_by rule board h) h on (noted rule by) o step lane → WorldPlaced (moved (enters board on (noted rule by) o step) lane (world_by rule board h))
  lane_placed h on by o step lane run old wanted at =
      let At : Step → Type 0 = λ s. AtLaneIn board (world_by rule board h) h on (noted rule by) o s lane in
      moved_placed (enters board on (noted rule by) o step) lane (world_by rule board h) old
      (enters_placed on (noted rule by) o step lane (both (world_by rule board h) lane)
      (λ is. accepted h on (noted rule by) o lane (subst At is at)) (λ is. latched h on by o lane run old wanted (subst At is at)))

  place_placed : (h : List Event) (on : ℕ) (by : By) (o : OpId) (step : Step) (place : Place) → RunBy rule board h → WorldPlaced (world_by rule board h) → wants_by rule board h on by o ≡ true
      → answer_by_rule rule board h on by o ≡ Gives step place → WorldPlaced (at_place board on (noted rule by) o step place (world_by rule board h))
  place_placed h on by o step (Target target) run old wanted gives = old
  place_placed h on by o step (Header bus) run old wanted gives = old
  place_placed h on by o step (Lane lane) run old wanted gives =
      lane_placed h on by o step lane run old wanted (answered_in board (world_by rule board h) h on (noted rule by) o step lane gives)
  place_placed h on by o step Nobody run old wanted gives = old

  leaves_placed : (lane : BridgeLane) (o : OpId) (outcome : Option Outcome) (world : World) → WorldPlaced world → WorldPlaced (leaves lane o outcome world)
  leaves_placed lane o None world old = old
  leaves_placed lane o (Some outcome) world old = moved_placed (item_ends o outcome) lane world old (ends_placed lane o outcome (both world lane))

  initiator_placed : (by : By) (o : OpId) (step : Step) (world : World) → WorldPlaced world → WorldPlaced (at_initiator board by o step world)
  initiator_placed Master o step world old = old
  initiator_placed (ByLane lane) o step world old = leaves_placed lane o (lane_outcome board lane o step) world old

  event_placed : (h : List Event) (e : Event) → RunBy rule board h → AllowedBy rule board h e → WorldPlaced (world_by rule board h) → WorldPlaced (world_by rule board (e ∷ h))
  event_placed h (Act on by o step place) run allowed old =
      initiator_placed by o step (at_place board on (noted rule by) o step place (world_by rule board h)) (place_placed h on by o step place run old allowed.0 allowed.1)
  event_placed h (Arrive lane mark) run allowed old =
      let world : World = world_by rule board h in
      moved_placed (arrives mark) lane world old (λ pair. first_placed lane mark (world lane).flight (both world lane) pair.0.0 pair)

  run_placed : (h : List Event) → RunBy rule board h → WorldPlaced (world_by rule board h)
  run_placed [] run l = (tt, tt)
  run_placed (e ∷ h) run l = event_placed h e run.1 run.0 (run_placed h run.1) l

-- in every run
pub asked_way : (rule : Rule) (board : Board) (h : List Event) (on : ℕ) (lane : BridgeLane) (o : OpId) (op : Op) → IsValid board → RunBy rule board h → op_of board o ≡ Some op → is_posted (request_on op on) ≡ false
    → wants_by rule board h on (ByLane lane) o ≡ true → AskedWay board lane o
asked_way rule board h on lane o op valid run is_op delayed wanted =
    let st : List Carried = (world_by rule board h lane).standing in
    presented_asked rule board valid on o op lane st is_op delayed (run_placed rule board valid h run lane).1 (and_parts (end_of board lane == on) (presents_by rule board on o st) wanted).1
