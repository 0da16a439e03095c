-- From a held slot back to the master of its operation, in every run.
use Rattle.std.proofs.Common.{◌≡◌, ℕ, zero, suc, ◌+◌, ◌≤◌, Bool, true, false, cond, List, [], ◌∷◌, ◌++◌, length, Option, Some, None, refl, sym, ap, subst, ◌∙◌, arith, slice_get, option_map, append_assoc, eqb-true}
use Rattle.std.specs.List.{find, list_any, AllByRecursion, IsDistinct}
use Rattle.list_facts.specs.Lists.{before, total}
use Rattle.list_facts.proofs.EachLemmas.{Each-push, Each-find, Each-within, Each-weaker, Each-both}
use Rattle.pci_command.specs.declared.command.Command.TheVariants.{MemWrite}
use Rattle.pci_command.specs.declared.op_id.OpId.{OpId}
use Rattle.pci_command.specs.Same.{same_command, same_op}
use Rattle.board_model.specs.declared.agents.Master.{Master as MasterAgent}
use Rattle.board_model.specs.declared.bridge.Lane.{Lane as BridgeLane}
use Rattle.board_model.specs.declared.bridge.Place.TheVariants.{Lane}
use Rattle.board_model.specs.declared.op.Op.{Op}
use Rattle.board_model.specs.declared.board.Board.{Board}
use Rattle.board_model.specs.Requests.{command_of, op_of, request_on, same_requests}
use Rattle.board_model.specs.Claims.{claim}
use Rattle.board_model.specs.Ways.{end_of, start_of, way}
use Rattle.board_model.specs.form_laws.Trees.{IsTree}
use Rattle.board_model.specs.form_laws.WayEnds.{same_bridge}
use Rattle.board_model.proofs.form_laws.Laws.{WayEnds-tree}
use Rattle.history_model.specs.declared.event.By.{By}
use Rattle.history_model.specs.declared.event.By.TheVariants.{Master, Lane as ByLane}
use Rattle.history_model.specs.declared.event.Event.{Event}
use Rattle.history_model.specs.declared.item.Carried.{Carried}
use Rattle.history_model.specs.declared.item.Carried.TheVariants.{Ask}
use Rattle.history_model.specs.declared.item.Slot.{Slot}
use Rattle.history_model.specs.Lanes.{has_number}
use Rattle.history_model.specs.World.{same_lane, same_initiator, is_own, world_of}
use Rattle.history_model.specs.Program.{turn_of}
use Rattle.history_model.specs.Answers.{is_on}
use Rattle.history_model.specs.Runs.{Run}
use Rattle.history_model.specs.Local.{is_ask_of}
use Rattle.history_model.specs.Left.{is_slot_of}
use Rattle.law_lanes.specs.Slots.{hit, ask_weight, AskNamed, IsHeldFor}
use Rattle.law_lanes.specs.Depths.{DifferentNumbers}
use Rattle.law_lanes.specs.Phases.{DelayedAreSingle}
use Rattle.law_lanes.specs.Latched.{IsAt, Latched}
use Rattle.law_lanes.specs.Owners.{is_equal_ask, Waits, own_count}
use Rattle.law_lanes.proofs.Laws.{hit-same, Slots-run, Latched-run, Owners-run, ask_found}
use Rattle.history_model.proofs.facts.RequestLemmas.{request_is_of, same_op_true, same_op_self}
use Rattle.history_model.proofs.facts.EqualLemmas.{same_requests-self, same_initiator-self}
use Rattle.law_bound.specs.reach.Reach.{last_of, presenter, Passed, slots_of, Reaches}
use Rattle.history_model.proofs.facts.PathLemmas.{Follows, way_goes, follows_few, before_lane, any_lane}
use Rattle.list_facts.proofs.AnyLemmas.{total_each}

-- the way back from a slot on a lane, latched by this initiator for this operation
pub record Traced (board : Board) (h : List Event) (lane : BridgeLane) (by : By) (o : OpId) (op : Op) : Type 0 where
  pub master : MasterAgent
  pub is_master : slice_get board.masters o.master ≡ Some master
  pub is_turn : turn_of board h o.master ≡ Some o
  pub earlier : List BridgeLane
  pub is_way : way board op master.bus ≡ earlier ++ lane ∷ way board op (end_of board lane)
  pub passed : AllByRecursion (Passed (world_of board h) o) earlier
  pub latched_by : by ≡ presenter (last_of earlier)

-- the last of some lanes and one more
last_push : (lanes : List BridgeLane) (lane : BridgeLane) → last_of (lanes ++ lane ∷ []) ≡ Some lane
last_push [] lane = refl
last_push (first ∷ lanes) lane = let later = last_push lanes lane in rw later refl

-- what is found is one
one_of : {X : Type 0} (found : Option X) (a b : X) → found ≡ Some a → found ≡ Some b → a ≡ b
one_of found a b p q = cc

-- two slots of one number are for one operation
one_held : (held : List Slot) (number : ℕ) (o p : OpId) → IsHeldFor held number o → IsHeldFor held number p → o ≡ p
one_held held number o p a b = let same : a.slot ≡ b.slot = cc in let ops = ap (λ (s : Slot). s.op) same in cc

-- a request that stands is the first of its number
pub ask_stands_first : (held : List Slot) (standing : List Carried) (test : Carried → Bool) (number : ℕ) (o : OpId) → AllByRecursion (AskNamed held) standing
    → find test standing ≡ Some (Ask o number) → IsHeldFor held number o × (find (is_ask_of number) standing ≡ Some (Ask o number))
ask_stands_first held standing test number o named some =
    let W : Carried → Type 0 = λ item. (weight : Carried → ℕ) → weight item ≤ total weight standing in
    let weighs : 1 ≤ total (ask_weight (hit number)) standing = omega (arith, Each-find W test standing (Ask o number) (Each-within standing) some (ask_weight (hit number)), hit-same number) in
    let at = ask_found number standing weighs in
    let here : IsHeldFor held number o = Each-find (AskNamed held) test standing (Ask o number) named some in
    let there : IsHeldFor held number at.0 = Each-find (AskNamed held) (is_ask_of number) standing (Ask at.0 number) named at.1 in
    (here, at.1 ∙ ap (λ p. Some (Ask p number)) (one_held held number at.0 o there here))

module _ (board : Board) (tree : IsTree board) (distinct : DifferentNumbers board) (single : DelayedAreSingle board) (h : List Event) (run : Run board h) where
  -- what is known of a slot on a lane for the operation, by its initiator
  pub record Known (lane : BridgeLane) (by : By) (o : OpId) (op : Op) : Type 0 where
    pub claims : claim board (start_of board lane) (request_on op (start_of board lane)) ≡ Lane lane
    pub at : IsAt board (start_of board lane) by o
    pub waits : Waits board (turn_of board h) (world_of board h) (start_of board lane) by o
    pub delayed : same_command (command_of op) MemWrite ≡ false

  -- by what the slot was latched for
  known : (lane : BridgeLane) (slot : Slot) (op : Op) → op_of board slot.op ≡ Some op → Latched board lane slot → Waits board (turn_of board h) (world_of board h) (start_of board lane) slot.by slot.op → Known lane slot.by slot.op op
  known lane slot op is_op latched waits =
      let on : ℕ = start_of board lane in
      let of_op = request_is_of board slot.op on latched.request latched.is_request in
      let same : of_op.op ≡ op = one_of (op_of board slot.op) of_op.op op of_op.is_op is_op in
      let request : latched.request ≡ request_on op on = of_op.is_request ∙ ap (λ p. request_on p on) same in
      record {
        claims = subst (λ r. claim board on r ≡ Lane lane) request latched.claims;
        at = latched.initiator;
        waits = waits;
        delayed = subst (λ r. same_command r.command MemWrite ≡ false) request latched.delayed;
      }

  -- all that is known of the slots on a lane
  abbrev Facts : BridgeLane → Slot → Type 0
  Facts lane slot = Latched board lane slot × Waits board (turn_of board h) (world_of board h) (start_of board lane) slot.by slot.op

  -- of each slot
  facts : (lane : BridgeLane) → AllByRecursion (Facts lane) (world_of board h lane).held
  facts lane =
      let owners = Owners-run board distinct single h run in
      Each-both (Latched board lane) (λ (slot : Slot). Waits board (turn_of board h) (world_of board h) (start_of board lane) slot.by slot.op) (world_of board h lane).held
      (Latched-run board h lane distinct single run) (owners.waits lane)

  -- of the slot that an item names
  known_by_number : (lane : BridgeLane) (number : ℕ) (o : OpId) (op : Op) → op_of board o ≡ Some op → IsHeldFor (world_of board h lane).held number o → (by : By) × Known lane by o op
  known_by_number lane number o op is_op held =
      let both_facts = Each-find (Facts lane) (has_number number) (world_of board h lane).held held.slot (facts lane) held.is_held in
      let is : op_of board held.slot.op ≡ Some op = rw held.is_for is_op in
      (held.slot.by, subst (λ p. Known lane held.slot.by p op) held.is_for (known lane held.slot op is both_facts.0 both_facts.1))

  -- the first lane of a way is claimed by the master of the operation
  from_master : (lane : BridgeLane) (o : OpId) (op : Op) (found : Option MasterAgent) → slice_get board.masters o.master ≡ found → is_on (start_of board lane) found ≡ true
      → claim board (start_of board lane) (request_on op (start_of board lane)) ≡ Lane lane → turn_of board h o.master ≡ Some o → Traced board h lane Master o op
  from_master lane o op None is there claims turn = cc
  from_master lane o op (Some master) is there claims turn =
      let bus : start_of board lane ≡ master.bus = sym (eqb-true master.bus (start_of board lane) there) in
      let claims_there : claim board master.bus (request_on op master.bus) ≡ Lane lane = subst (λ n. claim board n (request_on op n) ≡ Lane lane) bus claims in
      record { master = master; is_master = is; is_turn = turn; earlier = []; is_way = way_goes board op master.bus lane tree claims_there; passed = tt; latched_by = refl }

  -- a lane is behind the one that presents the operation on the bus where it begins
  from_lane : (k lane : BridgeLane) (by : By) (o : OpId) (op : Op) → end_of board k ≡ start_of board lane → claim board (start_of board lane) (request_on op (start_of board lane)) ≡ Lane lane
      → Passed (world_of board h) o k → Traced board h k by o op → Traced board h lane (ByLane k) o op
  from_lane k lane by o op ends claims passed old =
      let claims_there : claim board (end_of board k) (request_on op (end_of board k)) ≡ Lane lane = subst (λ n. claim board n (request_on op n) ≡ Lane lane) (sym ends) claims in
      let further : List BridgeLane = way board op (end_of board lane) in
      let goes : way board op (end_of board k) ≡ lane ∷ further = way_goes board op (end_of board k) lane tree claims_there in
      record {
        master = old.master;
        is_master = old.is_master;
        is_turn = old.is_turn;
        earlier = old.earlier ++ k ∷ [];
        is_way = old.is_way ∙ ap (λ ls. old.earlier ++ k ∷ ls) goes ∙ sym (append_assoc old.earlier (k ∷ []) (lane ∷ further));
        passed = Each-push (Passed (world_of board h) o) old.earlier k old.passed passed;
        latched_by = ap presenter (sym (last_push old.earlier k));
      }

  -- back to the master: a path of claims ends, so this does
  back : (n : ℕ) (lane : BridgeLane) (by : By) (o : OpId) (op : Op) (later : List BridgeLane) → op_of board o ≡ Some op → Known lane by o op
      → Follows board op (end_of board lane) later → length board.bridges ≤ n + length later → Traced board h lane by o op
  back zero lane by o op later is_op known follows enough =
      let few = follows_few board op (start_of board lane) (lane ∷ later) tree (known.claims, follows) in
      absurd (omega arith)
  back (suc n) lane Master o op later is_op known follows enough = from_master lane o op (slice_get board.masters o.master) refl known.at known.claims known.waits
  back (suc n) lane (ByLane k) o op later is_op known follows enough =
      let number : ℕ = known.waits.number in
      let slots = Slots-run board h k run in
      let first = ask_stands_first (world_of board h k).held (world_of board h k).standing (is_equal_ask board (start_of board lane) o) number o slots.asks_standing known.waits.first in
      let there = known_by_number k number o op is_op first.0 in
      let path : Follows board op (end_of board k) (lane ∷ later) = (subst (λ n. claim board n (request_on op n) ≡ Lane lane) (sym known.at) known.claims, follows) in
      from_lane k lane there.0 o op known.at known.claims (record { number = number; held = first.0; stands = first.1 })
      (back n k there.0 o op (lane ∷ later) is_op there.1 path (omega arith))

  -- the lanes before one on the way of an operation, from where its slot was traced
  pub record Placed (lane : BridgeLane) (by : By) (o : OpId) (op : Op) (master : MasterAgent) : Type 0 where
    pub on_way : list_any (same_lane lane) (way board op master.bus) ≡ true
    pub passed : AllByRecursion (Passed (world_of board h) o) (before (same_lane lane) (way board op master.bus))
    pub latched_by : by ≡ presenter (last_of (before (same_lane lane) (way board op master.bus)))

  -- they are those that were traced
  pub placed : (lane : BridgeLane) (by : By) (o : OpId) (op : Op) (traced : Traced board h lane by o op) → Placed lane by o op traced.master
  placed lane by o op traced =
      let on : ℕ = traced.master.bus in
      let later : List BridgeLane = way board op (end_of board lane) in
      let ends = WayEnds-tree board op tree on in
      let apart : IsDistinct same_bridge (traced.earlier ++ lane ∷ later) = subst (IsDistinct same_bridge) traced.is_way ends.no_bridge_twice in
      let first : before (same_lane lane) (way board op on) ≡ traced.earlier = ap (before (same_lane lane)) traced.is_way ∙ before_lane traced.earlier lane later apart in
      record {
        on_way = ap (list_any (same_lane lane)) traced.is_way ∙ any_lane traced.earlier lane later;
        passed = subst (AllByRecursion (Passed (world_of board h) o)) (sym first) traced.passed;
        latched_by = traced.latched_by ∙ ap (λ lanes. presenter (last_of lanes)) (sym first);
      }

  -- each slot is traced to its master
  pub trace : (lane : BridgeLane) (by : By) (o : OpId) (op : Op) → op_of board o ≡ Some op → Known lane by o op → Traced board h lane by o op
  trace lane by o op is_op known = back (length board.bridges) lane by o op [] is_op known tt (omega arith)

  -- two slots of one operation on one lane have one initiator
  pub one_initiator : (lane : BridgeLane) (a b : By) (o : OpId) (op : Op) → op_of board o ≡ Some op → Known lane a o op → Known lane b o op → a ≡ b
  one_initiator lane a b o op is_op known_a known_b =
      let traced_a = trace lane a o op is_op known_a in
      let traced_b = trace lane b o op is_op known_b in
      let placed_a = placed lane a o op traced_a in
      let placed_b = placed lane b o op traced_b in
      let masters : traced_a.master ≡ traced_b.master = one_of (slice_get board.masters o.master) traced_a.master traced_b.master traced_a.is_master traced_b.is_master in
      let F : MasterAgent → By = λ master. presenter (last_of (before (same_lane lane) (way board op master.bus))) in
      placed_a.latched_by ∙ ap F masters ∙ sym placed_b.latched_by

  -- each slot of the operation is the own one of its initiator
  own_one : (lane : BridgeLane) (by : By) (o : OpId) (op : Op) (other : Slot) → op_of board o ≡ Some op → Known lane by o op → Facts lane other → slots_of o other ≤ own_count board (start_of board lane) by o other
  own_one lane by o op other is_op known_by both_facts =
      let on : ℕ = start_of board lane in
      let P : Bool → Type 0 = λ b. is_slot_of o other ≡ b → cond b 1 0 ≤ own_count board on by o other in
      (elim (is_slot_of o other) as P [
        | true ↦ λ same.
            let of_o : other.op ≡ o = same_op_true other.op o same in
            let is : op_of board other.op ≡ Some op = rw of_o is_op in
            let known_other : Known lane other.by o op = subst (λ p. Known lane other.by p op) of_o (known lane other op is both_facts.0 both_facts.1) in
            let initiator : other.by ≡ by = one_initiator lane other.by by o op is_op known_other known_by in
            let requests : same_requests board on o o ≡ true = same_requests-self board on o (request_on op on) (ap (option_map (λ p. request_on p on)) is_op) in
            let self : same_initiator by o by o ≡ true = same_initiator-self by o in
            let own : is_own board on by o other ≡ true = rw (of_o, initiator, self, requests) refl in
            rw own (omega arith)
        | false ↦ λ _. omega arith
      ]) refl

  -- so each slot tells how its operation got there
  reaches : (lane : BridgeLane) (slot : Slot) → Facts lane slot → ((weight : Slot → ℕ) → weight slot ≤ total weight (world_of board h lane).held) → Reaches board h lane slot
  reaches lane slot both_facts within =
      let on : ℕ = start_of board lane in
      let held : List Slot = (world_of board h lane).held in
      let of_op = request_is_of board slot.op on both_facts.0.request both_facts.0.is_request in
      let known_slot = known lane slot of_op.op of_op.is_op both_facts.0 both_facts.1 in
      let traced = trace lane slot.by slot.op of_op.op of_op.is_op known_slot in
      let placed_slot = placed lane slot.by slot.op of_op.op traced in
      let owners = Owners-run board distinct single h run in
      let F : Slot → Type 0 = λ other. slots_of slot.op other ≤ own_count board on slot.by slot.op other in
      let each : AllByRecursion F held = Each-weaker (Facts lane) F (λ other. own_one lane slot.by slot.op of_op.op other of_op.is_op known_slot) held (facts lane) in
      let self : same_op slot.op slot.op ≡ true = same_op_self slot.op in
      let one : slots_of slot.op slot ≡ 1 = rw self refl in
      record {
        op = of_op.op;
        is_op = of_op.is_op;
        delayed = known_slot.delayed;
        master = traced.master;
        is_master = traced.is_master;
        is_turn = traced.is_turn;
        on_way = placed_slot.on_way;
        passed = placed_slot.passed;
        latched_by = placed_slot.latched_by;
        only = omega (arith, one, within (slots_of slot.op), total_each (slots_of slot.op) (own_count board on slot.by slot.op) held each, owners.one_own lane slot.by slot.op);
      }

  -- in every run
  pub Reaches-run : (lane : BridgeLane) → AllByRecursion (Reaches board h lane) (world_of board h lane).held
  Reaches-run lane =
      let held : List Slot = (world_of board h lane).held in
      let W : Slot → Type 0 = λ slot. (weight : Slot → ℕ) → weight slot ≤ total weight held in
      Each-weaker (λ (slot : Slot). Facts lane slot × W slot) (Reaches board h lane) (λ slot both. reaches lane slot both.0 both.1) held (Each-both (Facts lane) W held (facts lane) (Each-within held))
