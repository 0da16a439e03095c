-- Where the way of a delayed request ends, no completion of it is about.
use Rattle.std.proofs.Common.{◌≡◌, ℕ, ◌+◌, ◌≤◌, Bool, true, false, ◌||◌, cond, eqb, List, [], ◌∷◌, Some, refl, sym, ap, subst, ◌∙◌, arith, slice_get, ◌⊎◌, inl, inr, ⊎_elim}
use Rattle.std.specs.List.{find, list_any, AllByRecursion}
use Rattle.std.proofs.lemmas.Bool.{eqb-true, and_parts}
use Rattle.list_facts.specs.Lists.{before, total}
use Rattle.list_facts.proofs.EachLemmas.{Each-find, Each-within, Each-weaker, Each-both}
use Rattle.list_facts.proofs.FindLemmas.{find_passes}
use Rattle.pci_command.specs.declared.command.Command.TheVariants.{MemWrite}
use Rattle.pci_command.specs.declared.op_id.OpId.{OpId}
use Rattle.pci_command.specs.Same.{same_command, same_op}
use Rattle.board_model.specs.declared.agents.Master.{Master as MasterAgent}
use Rattle.board_model.specs.declared.bridge.Lane.{Lane as BridgeLane}
use Rattle.board_model.specs.declared.bridge.Place.TheVariants.{Lane}
use Rattle.board_model.specs.declared.op.Op.{Op}
use Rattle.board_model.specs.declared.board.Board.{Board}
use Rattle.board_model.specs.Requests.{command_of, op_of, request_on}
use Rattle.board_model.specs.Claims.{claim}
use Rattle.board_model.specs.Ways.{end_of, way, is_lane, lane_back}
use Rattle.board_model.specs.Valid.{IsValid}
use Rattle.board_model.specs.form_laws.Trees.{IsTree}
use Rattle.board_model.proofs.form_laws.Laws.{IsTree-valid}
use Rattle.history_model.specs.declared.event.By.{By}
use Rattle.history_model.specs.declared.event.By.TheVariants.{Master, Lane as ByLane}
use Rattle.history_model.specs.declared.event.Event.{Event}
use Rattle.history_model.specs.declared.item.Carried.{Carried}
use Rattle.history_model.specs.declared.item.Carried.TheVariants.{Post, Ask, Done, Room, Gone}
use Rattle.history_model.specs.declared.item.Slot.{Slot}
use Rattle.history_model.specs.Lanes.{has_number}
use Rattle.history_model.specs.World.{same_lane, world_of}
use Rattle.history_model.specs.Answers.{is_on, is_turn, wants, presents}
use Rattle.history_model.specs.Program.{turn_of}
use Rattle.history_model.specs.Runs.{Run}
use Rattle.history_model.specs.Local.{is_ask_of, is_done_of}
use Rattle.law_lanes.specs.Slots.{hit, ask_weight, done_weight, DoneNamed, IsHeldFor}
use Rattle.history_model.proofs.facts.BridgeLemmas.{same_lane_true, lane_back_back}
use Rattle.law_lanes.proofs.Laws.{hit-same, Slots-run}
use Rattle.history_model.proofs.facts.RequestLemmas.{same_op_true}
use Rattle.law_bound.specs.reach.Reach.{Passed}
use Rattle.law_bound.proofs.reach.Laws.{own_by, stands_of, asked_at, passed_at}
use Rattle.history_model.proofs.facts.PathLemmas.{way_cons}

-- what holds of each lane holds of one of them
each_lane : (P : BridgeLane → Type 0) (lane : BridgeLane) (lanes : List BridgeLane) → AllByRecursion P lanes → list_any (same_lane lane) lanes ≡ true → P lane
each_lane P lane [] each any = cc
each_lane P lane (first ∷ lanes) each any =
    let Q : Bool → Type 0 = λ b. same_lane lane first ≡ b → (b || list_any (same_lane lane) lanes) ≡ true → P lane in
    (elim (same_lane lane first) as Q [
      | true ↦ λ same _. subst P (sym (same_lane_true lane first same)) each.0
      | false ↦ λ _ later. each_lane P lane lanes each.1 later
    ]) refl any

-- where no lane claims, the way is empty
no_way : (board : Board) (op : Op) (on : ℕ) (lanes : List BridgeLane) → IsTree board → is_lane (claim board on (request_on op on)) ≡ false → lanes ≡ way board op on → lanes ≡ []
no_way board op on [] tree none is = refl
no_way board op on (first ∷ lanes) tree none is =
    let goes = way_cons board op on first lanes tree is in
    let claims : is_lane (Lane first) ≡ false = subst (λ p. is_lane p ≡ false) goes.claims none in
    cc

-- where no lane claims at the end of a lane of a way, each lane of the way is that one or stands before it
last_lane : (board : Board) (op : Op) (tree : IsTree board) (k lane : BridgeLane) (lanes : List BridgeLane) (on : ℕ) → lanes ≡ way board op on
    → is_lane (claim board (end_of board k) (request_on op (end_of board k))) ≡ false → list_any (same_lane k) lanes ≡ true → list_any (same_lane lane) lanes ≡ true
    → (lane ≡ k) ⊎ (list_any (same_lane lane) (before (same_lane k) lanes) ≡ true)
last_lane board op tree k lane [] on is none there other = cc
last_lane board op tree k lane (first ∷ lanes) on is none there other =
    let goes = way_cons board op on first lanes tree is in
    let P : Bool → Type 0 = λ b. same_lane k first ≡ b → (b || list_any (same_lane k) lanes) ≡ true → (lane ≡ k) ⊎ (list_any (same_lane lane) (cond b [] (first ∷ before (same_lane k) lanes)) ≡ true) in
    let Q : Bool → Type 0 = λ b. same_lane lane first ≡ b → (b || list_any (same_lane lane) lanes) ≡ true → list_any (same_lane k) lanes ≡ true
    → (lane ≡ k) ⊎ ((b || list_any (same_lane lane) (before (same_lane k) lanes)) ≡ true) in
    let R : Bool → Type 0 = λ b. same_lane lane first ≡ b → (b || list_any (same_lane lane) lanes) ≡ true → lanes ≡ [] → first ≡ k → (lane ≡ k) ⊎ (list_any (same_lane lane) [] ≡ true) in
    (elim (same_lane k first) as P [
      | true ↦ λ same _.
          let one : k ≡ first = same_lane_true k first same in
          let ends : lanes ≡ way board op (end_of board k) = goes.later ∙ ap (λ (l : BridgeLane). way board op (end_of board l)) (sym one) in
          let empty : lanes ≡ [] = no_way board op (end_of board k) lanes tree none ends in
          (elim (same_lane lane first) as R [
            | true ↦ λ same_too _ _ is_k. inl (same_lane_true lane first same_too ∙ is_k)
            | false ↦ λ _ later gone _. let F : List BridgeLane → Type 0 = λ ls. list_any (same_lane lane) ls ≡ true in let none_there : F [] = subst F gone later in cc
          ]) refl other empty (sym one)
      | false ↦ λ _ later. (elim (same_lane lane first) as Q [
        | true ↦ λ _ _ _. inr refl
        | false ↦ λ _ other_later there_later. last_lane board op tree k lane lanes (end_of board first) goes.later none there_later other_later
      ]) refl other later
    ]) refl there

-- the item is no completion of the operation
abbrev pub NotDone : OpId → Carried → Type 0
NotDone o item = is_done_of o item ≡ false

module _ (board : Board) (valid : IsValid board) (h : List Event) (run : Run board h) (o : OpId) (op : Op) (is_op : op_of board o ≡ Some op) where
  -- a lane that the operation passed has its request standing, by the number of its slot
  asks_there : (lane : BridgeLane) (number : ℕ) → IsHeldFor (world_of board h lane).held number o → Passed (world_of board h) o lane → find (is_ask_of number) (world_of board h lane).standing ≡ Some (Ask o number)
  asks_there lane number held_for passed =
      let held : List Slot = (world_of board h lane).held in
      let a = own_by board valid h run lane o (has_number number) held_for.slot held_for.is_held held_for.is_for in
      let b = own_by board valid h run lane o (has_number passed.number) passed.held.slot passed.held.is_held passed.held.is_for in
      let found_a = a.found in
      let found_b = b.found in
      let one : held_for.slot ≡ passed.held.slot = cc in
      let number_a : held_for.slot.number ≡ number = eqb-true held_for.slot.number number (find_passes (has_number number) held held_for.slot held_for.is_held) in
      let number_b : passed.held.slot.number ≡ passed.number = eqb-true passed.held.slot.number passed.number (find_passes (has_number passed.number) held passed.held.slot passed.held.is_held) in
      let numbers : passed.number ≡ number = sym number_b ∙ ap (λ (s : Slot). s.number) (sym one) ∙ number_a in
      subst (λ n. find (is_ask_of n) (world_of board h lane).standing ≡ Some (Ask o n)) numbers passed.stands

  -- where its way ends, it passed every lane that holds a slot for it
  passed_all : (on : ℕ) (by : By) (lane : BridgeLane) (number : ℕ) → same_command (command_of op) MemWrite ≡ false → wants board h on by o ≡ true → is_lane (claim board on (request_on op on)) ≡ false
      → IsHeldFor (world_of board h lane).held number o → Passed (world_of board h) o lane
  passed_all on Master lane number delayed wanted none held_for =
      let own = own_by board valid h run lane o (has_number number) held_for.slot held_for.is_held held_for.is_for in
      let there = stands_of board valid h run lane o op held_for.slot is_op own in
      let on_master : is_on on (slice_get board.masters o.master) ≡ true = (and_parts (is_on on (slice_get board.masters o.master)) (is_turn o (turn_of board h o.master)) wanted).0 in
      let bus_there : is_on on (Some there.master) ≡ true = subst (λ found. is_on on found ≡ true) there.is_master on_master in
      let bus : there.master.bus ≡ on = eqb-true there.master.bus on bus_there in
      let none_there : is_lane (claim board there.master.bus (request_on op there.master.bus)) ≡ false = subst (λ n. is_lane (claim board n (request_on op n)) ≡ false) (sym bus) none in
      let empty : way board op there.master.bus ≡ [] = no_way board op there.master.bus (way board op there.master.bus) (IsTree-valid board valid) none_there refl in
      let F : List BridgeLane → Type 0 = λ lanes. list_any (same_lane lane) lanes ≡ true in
      let nowhere : F [] = subst F empty there.on_way in
      cc
  passed_all on (ByLane k) lane number delayed wanted none held_for =
      let tree = IsTree-valid board valid in
      let ends : end_of board k ≡ on = eqb-true (end_of board k) on (and_parts (eqb (end_of board k) on) (presents board on o (world_of board h k).standing) wanted).0 in
      let none_there : is_lane (claim board (end_of board k) (request_on op (end_of board k))) ≡ false = subst (λ n. is_lane (claim board n (request_on op n)) ≡ false) (sym ends) none in
      let asked = asked_at board h on k o op run is_op delayed wanted in
      let here : Passed (world_of board h) o k = passed_at board h k o asked.0 run asked.1 in
      let own_k = own_by board valid h run k o (has_number here.number) here.held.slot here.held.is_held here.held.is_for in
      let own_lane = own_by board valid h run lane o (has_number number) held_for.slot held_for.is_held held_for.is_for in
      let at_k = stands_of board valid h run k o op here.held.slot is_op own_k in
      let at_lane = stands_of board valid h run lane o op held_for.slot is_op own_lane in
      let master_k = at_k.is_master in
      let master_lane = at_lane.is_master in
      let masters : at_lane.master ≡ at_k.master = cc in
      let on_way : list_any (same_lane lane) (way board op at_k.master.bus) ≡ true = subst (λ (m : MasterAgent). list_any (same_lane lane) (way board op m.bus) ≡ true) masters at_lane.on_way in
      let is_op_k : op_of board o ≡ Some own_k.reach.op = subst (λ p. op_of board p ≡ Some own_k.reach.op) own_k.is_for own_k.reach.is_op in
      let ops : own_k.reach.op ≡ op = cc in
      let reach_master : slice_get board.masters o.master ≡ Some own_k.reach.master = subst (λ p. slice_get board.masters p.master ≡ Some own_k.reach.master) own_k.is_for own_k.reach.is_master in
      let reach_masters : own_k.reach.master ≡ at_k.master = cc in
      let G : OpId → Op → MasterAgent → Type 0 = λ p q m. AllByRecursion (Passed (world_of board h) p) (before (same_lane k) (way board q m.bus)) in
      let first : G o own_k.reach.op own_k.reach.master = subst (λ p. G p own_k.reach.op own_k.reach.master) own_k.is_for own_k.reach.passed in
      let second : G o op own_k.reach.master = subst (λ q. G o q own_k.reach.master) ops first in
      let third : G o op at_k.master = subst (λ m. G o op m) reach_masters second in
      ⊎_elim {C = Passed (world_of board h) o lane}
      (λ (same : lane ≡ k). subst (Passed (world_of board h) o) (sym same) here)
      (λ (earlier : list_any (same_lane lane) (before (same_lane k) (way board op at_k.master.bus)) ≡ true). each_lane (Passed (world_of board h) o) lane (before (same_lane k) (way board op at_k.master.bus)) third earlier)
      (last_lane board op tree k lane (way board op at_k.master.bus) at_k.master.bus refl none_there at_k.on_way on_way)

  module _ (on : ℕ) (by : By) (delayed : same_command (command_of op) MemWrite ≡ false) (wanted : wants board h on by o ≡ true) (none : is_lane (claim board on (request_on op on)) ≡ false) where
    -- where its way ends, no item of the lane back of a lane that weighs among its completions is one of it
    item_not_done : (lane : BridgeLane) (item : Carried) → DoneNamed (world_of board h lane).held item
        → ((number : ℕ) → done_weight (hit number) item ≤ total (done_weight (hit number)) (world_of board h (lane_back lane)).flight + total (done_weight (hit number)) (world_of board h (lane_back lane)).standing) → NotDone o item
    item_not_done lane (Post p) named within = refl
    item_not_done lane (Ask p number) named within = refl
    item_not_done lane (Done p number outcome) named within =
        let P : Bool → Type 0 = λ b. same_op p o ≡ b → b ≡ false in
        (elim (same_op p o) as P [
          | true ↦ λ same.
              let held : List Slot = (world_of board h lane).held in
              let standing : List Carried = (world_of board h lane).standing in
              let slots = Slots-run board h lane run in
              let held_for : IsHeldFor held number o = subst (IsHeldFor held number) (same_op_true p o same) named in
              let asks = asks_there lane number held_for (passed_all on by lane number delayed wanted none held_for) in
              let W : Carried → Type 0 = λ item. (weight : Carried → ℕ) → weight item ≤ total weight standing in
              let w : ℕ → ℕ = hit number in
              let asked : w number ≤ total (ask_weight w) standing = Each-find W (is_ask_of number) standing (Ask o number) (Each-within standing) asks (ask_weight w) in
              let done : w number ≤ total (done_weight w) (world_of board h (lane_back lane)).flight + total (done_weight w) (world_of board h (lane_back lane)).standing = within number in
              let one : w number ≡ 1 = hit-same number in
              absurd (omega (arith, slots.one_place w, slots.once number, asked, done, one))
          | false ↦ λ _. refl
        ]) refl
    item_not_done lane Room named within = refl
    item_not_done lane (Gone number) named within = refl

    -- so none in flight or standing on the lane back is
    back_not_done : (lane : BridgeLane) → AllByRecursion (NotDone o) (world_of board h (lane_back lane)).flight × AllByRecursion (NotDone o) (world_of board h (lane_back lane)).standing
    back_not_done lane =
        let held : List Slot = (world_of board h lane).held in
        let flight : List Carried = (world_of board h (lane_back lane)).flight in
        let standing : List Carried = (world_of board h (lane_back lane)).standing in
        let slots = Slots-run board h lane run in
        let Within : List Carried → Carried → Type 0 = λ items item. (weight : Carried → ℕ) → weight item ≤ total weight items in
        let flies : (item : Carried) → DoneNamed held item × Within flight item → NotDone o item =
        λ item known. item_not_done lane item known.0 (λ number. omega (arith, known.1 (done_weight (hit number)))) in
        let stands : (item : Carried) → DoneNamed held item × Within standing item → NotDone o item =
        λ item known. item_not_done lane item known.0 (λ number. omega (arith, known.1 (done_weight (hit number)))) in (
          Each-weaker (λ item. DoneNamed held item × Within flight item) (NotDone o) flies flight (Each-both (DoneNamed held) (Within flight) flight slots.dones_flying (Each-within flight)),
          Each-weaker (λ item. DoneNamed held item × Within standing item) (NotDone o) stands standing (Each-both (DoneNamed held) (Within standing) standing slots.dones_standing (Each-within standing)),
        )

    -- so no completion of it is about
    pub none_about : (lane : BridgeLane) → AllByRecursion (NotDone o) (world_of board h lane).flight × AllByRecursion (NotDone o) (world_of board h lane).standing
    none_about lane =
        let F : BridgeLane → Type 0 = λ l. AllByRecursion (NotDone o) (world_of board h l).flight × AllByRecursion (NotDone o) (world_of board h l).standing in
        subst F (lane_back_back lane) (back_not_done (lane_back lane))
