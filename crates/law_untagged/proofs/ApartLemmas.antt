-- On a board on which masters are apart no two operations ask for one slot, and no delayed request waits for an equal
-- one.
use Rattle.std.proofs.Common.{◌≡◌, ℕ, ◌+◌, ◌*◌, Bool, true, false, ◌&&◌, ◌==◌, eqb, eqb-true, cond, List, [], ◌∷◌, Option, Some, None, refl, sym, ap, subst, ◌∙◌, arith, slice_get, option_map}
use Rattle.std.specs.List.{find, list_any, AllByRecursion}
use Rattle.list_facts.specs.Lists.{before}
use Rattle.list_facts.proofs.EachLemmas.{Each-find, Each-weaker, Each-both}
use Rattle.list_facts.proofs.FindLemmas.{find_passes}
use Rattle.pci_command.specs.declared.request.Request.{Request}
use Rattle.pci_command.specs.declared.op_id.OpId.{OpId}
use Rattle.pci_command.specs.declared.command.Command.TheVariants.{MemWrite}
use Rattle.pci_command.specs.Command.{space_of}
use Rattle.pci_command.specs.Same.{same_command, same_op}
use Rattle.board_model.specs.declared.agents.Master.{Master as MasterAgent}
use Rattle.board_model.specs.declared.bridge.Lane.{Lane as BridgeLane}
use Rattle.board_model.specs.declared.bridge.Place.{Place}
use Rattle.board_model.specs.declared.bridge.Place.TheVariants.{Lane}
use Rattle.board_model.specs.declared.op.Op.{Op}
use Rattle.board_model.specs.declared.board.Board.{Board}
use Rattle.board_model.specs.Requests.{command_of, op_of, request_on, request_of, is_posted, same_requests}
use Rattle.board_model.specs.Claims.{claim, claim_in_space}
use Rattle.board_model.specs.Ways.{end_of, start_of, way}
use Rattle.board_model.specs.WellFormed.{is_well_formed_op}
use Rattle.board_model.specs.form_laws.Trees.{IsTree}
use Rattle.history_model.specs.declared.event.By.{By}
use Rattle.history_model.specs.declared.event.By.TheVariants.{Master, Lane as ByLane}
use Rattle.history_model.specs.declared.event.Event.{Event}
use Rattle.history_model.specs.declared.item.Carried.{Carried}
use Rattle.history_model.specs.declared.item.Carried.TheVariants.{Post, Ask, Done, Room, Gone}
use Rattle.history_model.specs.declared.item.Slot.{Slot}
use Rattle.history_model.specs.Lanes.{is_of, has_number}
use Rattle.history_model.specs.World.{anyone, World, same_lane, same_initiator, is_own, world_of}
use Rattle.history_model.specs.Program.{turn_of}
use Rattle.history_model.specs.Words.{through, without}
use Rattle.history_model.specs.Answers.{asked, asks_same, presents, is_on, is_turn, wants}
use Rattle.history_model.specs.Runs.{Run}
use Rattle.law_lanes.specs.Slots.{AskNamed, IsHeldFor}
use Rattle.law_lanes.specs.Depths.{DifferentNumbers}
use Rattle.law_lanes.specs.Phases.{DelayedAreSingle}
use Rattle.law_lanes.specs.Kinds.{RightKind}
use Rattle.law_lanes.specs.Latched.{IsAt}
use Rattle.law_lanes.specs.Owners.{Waits}
use Rattle.law_lanes.proofs.ClaimLemmas.{claim_starts}
use Rattle.history_model.proofs.facts.EqualLemmas.{same_initiator-self}
use Rattle.law_lanes.proofs.KindLemmas.{RightKind-run}
use Rattle.law_lanes.proofs.OwnersLatchLemmas.{wants-waits}
use Rattle.law_lanes.proofs.PartLemmas.{delayed-not_parted}
use Rattle.history_model.proofs.facts.RequestLemmas.{request_is_of, same_op_self, same_op_true}
use Rattle.law_lanes.proofs.SlotsRunLemmas.{Slots-run}
use Rattle.law_bound.specs.reach.Reach.{last_of, presenter, Reaches}
use Rattle.law_bound.proofs.reach.ReachLemmas.{Known, placed, trace, Reaches-run}
use Rattle.law_untagged.specs.Apart.{TakesLane, Apart}
use Rattle.law_untagged.specs.Forgets.{unnamed}
use Rattle.law_untagged.proofs.ForgetLemmas.{Alike}
use Rattle.law_untagged.proofs.SameLemmas.{same_everywhere}
use Rattle.law_untagged.proofs.StepLemmas.{AlikeAt, Differs, NoneSame}

-- what stands before the first that passes does not pass
Each-before : {X : Type 0} (P : X → Type 0) (test : X → Bool) (xs : List X) → AllByRecursion P xs → AllByRecursion (λ x. P x × (test x ≡ false)) (before test xs)
Each-before P test [] each = tt
Each-before P test (x ∷ xs) each =
    let Q : Bool → Type 0 = λ b. test x ≡ b → AllByRecursion (λ y. P y × (test y ≡ false)) (cond b [] (x ∷ before test xs)) in
    (elim (test x) as Q [ true ↦ λ _. tt | false ↦ λ fails. ((each.0, fails), Each-before P test xs each.1) ]) refl

-- the initiator that presents is on the bus
wants-at : (board : Board) (h : List Event) (on : ℕ) (by : By) (o : OpId) → wants board h on by o ≡ true → IsAt board on by o
wants-at board h on Master o wanted =
    let P : Bool → Type 0 = λ b. is_on on (slice_get board.masters o.master) ≡ b → (b && is_turn o (turn_of board h o.master)) ≡ true → is_on on (slice_get board.masters o.master) ≡ true in
    (elim (is_on on (slice_get board.masters o.master)) as P [ true ↦ λ is _. is | false ↦ λ _ e. cc ]) refl wanted
wants-at board h on (ByLane lane) o wanted =
    let P : Bool → Type 0 = λ b. eqb (end_of board lane) on ≡ b → (b && presents board on o (world_of board h lane).standing) ≡ true → end_of board lane ≡ on in
    (elim (eqb (end_of board lane) on) as P [ true ↦ λ is _. eqb-true (end_of board lane) on is | false ↦ λ _ e. cc ]) refl wanted

claim_whole : (board : Board) (on : ℕ) (request : Request) (k : ℕ) (place : Place) → k ≡ 0 → claim board on (without k request) ≡ place → claim board on request ≡ place
claim_whole board on request k place none claims =
    let whole : request.address ≡ request.address + 4 * k = omega arith in
    ap (claim_in_space board on (space_of request.command)) whole ∙ claims

-- of one turn
one_turn : (turn : ℕ → Option OpId) (p q : OpId) → p.master ≡ q.master → turn p.master ≡ Some p → turn q.master ≡ Some q → p ≡ q
one_turn turn p q masters first second = let there : turn p.master ≡ turn q.master = ap turn masters in cc

-- who comes behind the lanes before one on a way is one
same_presenter : (board : Board) (lane : BridgeLane) (a b : By) (p q : Op) (m n : MasterAgent)
    → a ≡ presenter (last_of (before (same_lane lane) (way board p m.bus))) → b ≡ presenter (last_of (before (same_lane lane) (way board q n.bus))) → p ≡ q → m ≡ n → a ≡ b
same_presenter board lane a b p q m n first second ops masters =
    let F : Op → MasterAgent → By = λ op master. presenter (last_of (before (same_lane lane) (way board op master.bus))) in
    first ∙ ap (λ op. F op m) ops ∙ ap (F q) masters ∙ sym second

module _ (board : Board) (tree : IsTree board) (distinct : DifferentNumbers board) (single : DelayedAreSingle board)
    (well : (q : OpId) (op : Op) → op_of board q ≡ Some op → is_well_formed_op op ≡ true) (apart : Apart board) (h : List Event) (run : Run board h) where
  -- an operation that takes the lane, and is its master's turn
  record Waiting (lane : BridgeLane) (o : OpId) : Type 0 where
    takes : TakesLane board lane o
    turn : turn_of board h o.master ≡ Some o

  -- one that a slot is held for
  slot_waiting : (lane : BridgeLane) (slot : Slot) → Reaches board h lane slot → Waiting lane slot.op
  slot_waiting lane slot reach = record {
    takes = record { op = reach.op; is_op = reach.is_op; delayed = reach.delayed; master = reach.master; is_master = reach.is_master; on_way = reach.on_way };
    turn = reach.is_turn;
  }

  number_waiting : (lane : BridgeLane) (number : ℕ) (o : OpId) → IsHeldFor (world_of board h lane).held number o → Waiting lane o
  number_waiting lane number o held =
      let reach = Each-find (Reaches board h lane) (has_number number) (world_of board h lane).held held.slot (Reaches-run board tree distinct single h run lane) held.is_held in
      subst (Waiting lane) held.is_for (slot_waiting lane held.slot reach)

  -- two of them with one request on the bus where the lane begins are one
  one_waiting : (lane : BridgeLane) (p o : OpId) → Waiting lane p → Waiting lane o → same_requests board (start_of board lane) p o ≡ true → p ≡ o
  one_waiting lane p o first second same = one_turn (turn_of board h) p o (apart lane p o first.takes second.takes same) first.turn second.turn

  -- Own slots.

  own_alike : (on : ℕ) (by : By) (o : OpId) (op : Op) (lane : BridgeLane) → start_of board lane ≡ on → op_of board o ≡ Some op → (Waiting lane o)
      → ((slot : Slot) → slot.op ≡ o → Reaches board h lane slot → slot.by ≡ by) → (slot : Slot) → Reaches board h lane slot → is_own board on anyone o (unnamed slot) ≡ is_own board on by o slot
  own_alike on by o op lane starts is_op waiting initiator slot reach =
      let P : Bool → Type 0 = λ b. same_requests board on slot.op o ≡ b → b ≡ (same_initiator slot.by slot.op by o && b) in
      (elim (same_requests board on slot.op o) as P [
        | true ↦ λ same.
            let there : same_requests board (start_of board lane) slot.op o ≡ true = subst (λ n. same_requests board n slot.op o ≡ true) (sym starts) same in
            let one : slot.op ≡ o = one_waiting lane slot.op o (slot_waiting lane slot reach) waiting there in
            let who : slot.by ≡ by = initiator slot one reach in
            let self : same_initiator by o by o ≡ true = same_initiator-self by o in
            let here : same_initiator slot.by slot.op by o ≡ true = subst (λ p. same_initiator slot.by p by o ≡ true) (sym one) (subst (λ b. same_initiator b o by o ≡ true) (sym who) self) in
            rw here refl
        | false ↦ λ _. let Q : Bool → Type 0 = λ b. false ≡ (b && false) in elim (same_initiator slot.by slot.op by o) as Q [ true ↦ refl | false ↦ refl ]
      ]) refl

  -- what is presented and claimed by a lane takes that lane, and a slot for it was latched by its presenter
  pub presented_alike : (on : ℕ) (by : By) (o : OpId) → wants board h on by o ≡ true → AlikeAt board (world_of board h) h on by o
  presented_alike on by o wanted request is_request delayed lane claims =
      let none = delayed-not_parted board h o on request single run is_request delayed in
      let whole : claim board on request ≡ Lane lane = claim_whole board on request (through h o) (Lane lane) none claims in
      let starts : start_of board lane ≡ on = claim_starts board on request lane distinct whole in
      let of_op = request_is_of board o on request is_request in
      let op : Op = of_op.op in
      let right : (l : BridgeLane) → AllByRecursion (RightKind board) (world_of board h l).standing = λ l. (RightKind-run board h l run).1 in
      let waits = wants-waits board h on by o request right is_request delayed wanted in
      let claims_op : claim board on (request_on op on) ≡ Lane lane = subst (λ r. claim board on r ≡ Lane lane) of_op.is_request whole in
      let knows : Known board tree distinct single h run lane by o op = record {
        claims = subst (λ n. claim board n (request_on op n) ≡ Lane lane) (sym starts) claims_op;
        at = subst (λ n. IsAt board n by o) (sym starts) (wants-at board h on by o wanted);
        waits = subst (λ n. Waits board (turn_of board h) (world_of board h) n by o) (sym starts) waits;
        delayed = subst (λ r. same_command r.command MemWrite ≡ false) of_op.is_request delayed;
      } in
      let traced = trace board tree distinct single h run lane by o op of_op.is_op knows in
      let place = placed board tree distinct single h run lane by o op traced in
      let waiting : Waiting lane o = record {
        takes = record { op = op; is_op = of_op.is_op; delayed = knows.delayed; master = traced.master; is_master = traced.is_master; on_way = place.on_way };
        turn = traced.is_turn;
      } in
      let initiator : (slot : Slot) → slot.op ≡ o → Reaches board h lane slot → slot.by ≡ by = λ slot one reach.
      (let masters : reach.master ≡ traced.master = (let m = reach.is_master in let n = traced.is_master in let e : slice_get board.masters slot.op.master ≡ slice_get board.masters o.master = ap (λ (p : OpId). slice_get board.masters p.master) one in cc) in
      let ops : reach.op ≡ op = (let m = reach.is_op in let n = of_op.is_op in let e : op_of board slot.op ≡ op_of board o = ap (op_of board) one in cc) in
      same_presenter board lane slot.by by reach.op op reach.master traced.master reach.latched_by place.latched_by ops masters) in
      Each-weaker (Reaches board h lane) (λ (slot : Slot). is_own board on anyone o (unnamed slot) ≡ is_own board on by o slot)
      (own_alike on by o op lane starts of_op.is_op waiting initiator) (world_of board h lane).held (Reaches-run board tree distinct single h run lane)

  -- Equal requests.

  older_differs : (on : ℕ) (lane : BridgeLane) (o : OpId) (number : ℕ) (older : Carried) → IsHeldFor (world_of board h lane).held number o
      → AskNamed (world_of board h lane).held older → is_of o older ≡ false → Differs board on (Ask o number) older
  older_differs on lane o number (Post p) held named other = refl
  older_differs on lane o number (Ask p slot) held named other =
      let P : Bool → Type 0 = λ b. same_requests board on o p ≡ b → b ≡ false in
      (elim (same_requests board on o p) as P [
        | true ↦ λ same.
            let there : same_requests board (start_of board lane) o p ≡ true = same_everywhere board o p on (start_of board lane) well same in
            let one : o ≡ p = one_waiting lane o p (number_waiting lane number o held) (number_waiting lane slot p named) there in
            let self : same_op o p ≡ true = subst (λ q. same_op o q ≡ true) one (same_op_self o) in
            cc
        | false ↦ λ _. refl
      ]) refl
  older_differs on lane o number (Done p slot outcome) held named other = refl
  older_differs on lane o number Room held named other = refl
  older_differs on lane o number (Gone slot) held named other = refl

  all_differ : (on : ℕ) (item : Carried) → asked item ≡ None → (older : List Carried) → AllByRecursion (Differs board on item) older
  all_differ on item none [] = tt
  all_differ on item none (other ∷ older) = (let D : Option OpId → Type 0 = λ found. asks_same board on found (asked other) ≡ false in subst D (sym none) refl, all_differ on item none older)

  pub none_same : (on : ℕ) (o : OpId) (lane : BridgeLane) → NoneSame board on o (world_of board h lane).standing
  none_same on o lane (Post p) found = all_differ on (Post p) refl (before (is_of o) (world_of board h lane).standing)
  none_same on o lane (Ask p number) found =
      let held : List Slot = (world_of board h lane).held in
      let standing : List Carried = (world_of board h lane).standing in
      let slots = Slots-run board h lane run in
      let same : o ≡ p = same_op_true o p (find_passes (is_of o) standing (Ask p number) found) in
      let named : IsHeldFor held number p = Each-find (AskNamed held) (is_of o) standing (Ask p number) slots.asks_standing found in
      Each-weaker (λ older. AskNamed held older × (is_of o older ≡ false)) (Differs board on (Ask p number))
      (λ older both. older_differs on lane p number older named both.0 (subst (λ q. is_of q older ≡ false) same both.1))
      (before (is_of o) standing) (Each-before (AskNamed held) (is_of o) standing slots.asks_standing)
  none_same on o lane (Done p slot outcome) found = all_differ on (Done p slot outcome) refl (before (is_of o) (world_of board h lane).standing)
  none_same on o lane Room found = all_differ on Room refl (before (is_of o) (world_of board h lane).standing)
  none_same on o lane (Gone slot) found = all_differ on (Gone slot) refl (before (is_of o) (world_of board h lane).standing)
