-- What is left of an operation and how far the lanes of its way brought it make up one number, in every run.
use Rattle.std.proofs.Common.{◌≡◌, ℕ, ◌+◌, ◌*◌, ◌≤◌, Bool, true, false, cond, List, [], ◌∷◌, length, Option, Some, None, refl, sym, ap, subst, ◌∙◌, arith, slice_get, eqb-true}
use Rattle.std.specs.List.{find, list_any, AllByRecursion, IsDistinct}
use Rattle.std.proofs.lemmas.Map.Keys.{IsDistinct-tail, IsDistinct-head}
use Rattle.list_facts.specs.Lists.{before, total}
use Rattle.list_facts.proofs.EachLemmas.{Each-weaker, Each-both, Each-all}
use Rattle.list_facts.proofs.FindLemmas.{find_passes}
use Rattle.list_facts.proofs.TotalLemmas.{found}
use Rattle.pci_command.specs.declared.op_id.OpId.{OpId}
use Rattle.board_model.specs.declared.agents.Master.{Master as MasterAgent}
use Rattle.board_model.specs.declared.bridge.Lane.{Lane as BridgeLane}
use Rattle.board_model.specs.declared.op.Op.{Op}
use Rattle.board_model.specs.declared.board.Board.{Board}
use Rattle.board_model.specs.Requests.{op_of}
use Rattle.board_model.specs.Ways.{end_of, way, lane_back}
use Rattle.board_model.specs.Valid.{IsValid}
use Rattle.board_model.specs.form_laws.Trees.{IsTree}
use Rattle.board_model.specs.form_laws.WayEnds.{same_bridge}
use Rattle.board_model.proofs.form_laws.Laws.{WayEnds-tree, IsTree-valid}
use Rattle.history_model.specs.declared.event.Event.{Event}
use Rattle.history_model.specs.declared.item.Carried.TheVariants.{Ask}
use Rattle.history_model.specs.declared.item.Slot.{Slot}
use Rattle.history_model.specs.Lanes.{Both, has_number, is_done_for}
use Rattle.history_model.specs.World.{World, same_lane, both, world_of}
use Rattle.history_model.specs.Runs.{Run}
use Rattle.history_model.specs.Local.{is_ask_of, is_gone_of}
use Rattle.history_model.specs.Left.{is_slot_of, lane_or, Reach, reach_of, slot_left, reach_left, delayed_left}
use Rattle.law_bound.specs.reach.Reach.{Passed}
use Rattle.history_model.proofs.facts.PathLemmas.{other_bridge, way_cons}
use Rattle.law_bound.proofs.reach.Laws.{own_by, own_of}
use Rattle.list_facts.proofs.AnyLemmas.{any_some, any_none, find_any}
use Rattle.law_bound.specs.stages.Stages.{stage, stage_at}
use Rattle.law_bound.proofs.stages.StageLemmas.{chain, some_one, somewhere, stage_ask_stands}

-- what is known of the first lanes of a list that hold a slot
abbrev Count : World → OpId → ℕ → ℕ → ℕ → ℕ → ℕ → Option BridgeLane → Type 0
Count world o long far sum size lanes None = (lanes ≡ 0) × (sum ≡ size)
Count world o long far sum size lanes (Some last) = reach_left world o long (far + lanes) (Some last) + sum + 2 * far ≡ 4 * long + 1 + size

module _ (board : Board) (valid : IsValid board) (h : List Event) (run : Run board h) where
  -- a lane that an operation passed has brought it so far
  pub passed_holds : (lane : BridgeLane) (o : OpId) → Passed (world_of board h) o lane → list_any (is_slot_of o) (world_of board h lane).held ≡ true
  passed_holds lane o passed =
      let own = own_by board valid h run lane o (has_number passed.number) passed.held.slot passed.held.is_held passed.held.is_for in
      find_any (is_slot_of o) (world_of board h lane).held passed.held.slot own.found

  module _ (o : OpId) (op : Op) where
    -- that far is three
    pub passed_stage : (lane : BridgeLane) → Passed (world_of board h) o lane → stage_at board op o (world_of board h) lane ≡ 3
    passed_stage lane passed =
        let slot : Slot = passed.held.slot in
        let held : List Slot = (world_of board h lane).held in
        let own = own_by board valid h run lane o (has_number passed.number) slot passed.held.is_held passed.held.is_for in
        let number : slot.number ≡ passed.number = eqb-true slot.number passed.number (find_passes (has_number passed.number) held slot passed.held.is_held) in
        let there : list_any (is_ask_of passed.number) (world_of board h lane).standing ≡ true = find_any (is_ask_of passed.number) (world_of board h lane).standing (Ask o passed.number) passed.stands in
        let stands : list_any (is_ask_of slot.number) (world_of board h lane).standing ≡ true = subst (λ n. list_any (is_ask_of n) (world_of board h lane).standing ≡ true) (sym number) there in
        let long : ℕ = length (way board op (end_of board lane)) in
        ap (stage long (world_of board h lane) (world_of board h (lane_back lane))) own.found ∙ stage_ask_stands (both (world_of board h) lane) slot own.item long stands

    -- where no slot is held
    pub stage_none : (lane : BridgeLane) → list_any (is_slot_of o) (world_of board h lane).held ≡ false → stage_at board op o (world_of board h) lane ≡ 1
    stage_none lane none = let gone = any_none (is_slot_of o) (world_of board h lane).held none in rw gone refl

    -- the lane holds a slot for the operation
    abbrev Holds : BridgeLane → Type 0
    Holds lane = list_any (is_slot_of o) (world_of board h lane).held ≡ true

    -- where none is held each lane counts one
    total_none : (lanes : List BridgeLane) → AllByRecursion (λ (l : BridgeLane). list_any (is_slot_of o) (world_of board h l).held ≡ false) lanes → total (stage_at board op o (world_of board h)) lanes ≡ length lanes
    total_none [] none = refl
    total_none (lane ∷ lanes) none = omega (arith, stage_none lane none.0, total_none lanes none.1)

    -- each lane that holds a slot has the operation passed those before it
    abbrev Behind : List BridgeLane → Type 0
    Behind lanes = AllByRecursion (λ (l : BridgeLane). Holds l → AllByRecursion (Passed (world_of board h) o) (before (same_lane l) lanes)) lanes

    -- behind the first lane it is so for the others, and each that holds a slot has the operation passed the first
    behind_parts : (lane : BridgeLane) (lanes : List BridgeLane) → IsDistinct same_bridge (lane ∷ lanes) → Behind (lane ∷ lanes)
        → Behind lanes × AllByRecursion (λ (l : BridgeLane). Holds l → Passed (world_of board h) o lane) lanes
    behind_parts lane lanes distinct behind =
        let Apart : BridgeLane → Type 0 = λ l. same_bridge lane l ≡ false in
        let P : BridgeLane → Type 0 = λ l. Holds l → AllByRecursion (Passed (world_of board h) o) (before (same_lane l) (lane ∷ lanes)) in
        let Q : BridgeLane → Type 0 = λ l. Holds l → AllByRecursion (Passed (world_of board h) o) (before (same_lane l) lanes) in
        let R : BridgeLane → Type 0 = λ l. Holds l → Passed (world_of board h) o lane in
        let joined : AllByRecursion (λ l. Apart l × P l) lanes = Each-both Apart P lanes (IsDistinct-head same_bridge lane lanes distinct) behind.1 in
        let both_of : (l : BridgeLane) → Apart l × P l → Holds l → AllByRecursion (Passed (world_of board h) o) (lane ∷ before (same_lane l) lanes) =
        λ l known holds.
        let other : same_lane l lane ≡ false = other_bridge lane l known.0 in
        let F : Bool → Type 0 = λ b. AllByRecursion (Passed (world_of board h) o) (cond b [] (lane ∷ before (same_lane l) lanes)) in
        subst F other (known.1 holds) in
        (Each-weaker (λ l. Apart l × P l) Q (λ l known holds. (both_of l known holds).1) lanes joined, Each-weaker (λ l. Apart l × P l) R (λ l known holds. (both_of l known holds).0) lanes joined)

    -- behind a lane that holds none, none holds one
    none_behind : (lane : BridgeLane) (lanes : List BridgeLane) → list_any (is_slot_of o) (world_of board h lane).held ≡ false → AllByRecursion (λ (l : BridgeLane). Holds l → Passed (world_of board h) o lane) lanes
        → AllByRecursion (λ (l : BridgeLane). list_any (is_slot_of o) (world_of board h l).held ≡ false) lanes
    none_behind lane lanes none each =
        let P : BridgeLane → Type 0 = λ l. Holds l → Passed (world_of board h) o lane in
        let Q : BridgeLane → Type 0 = λ l. list_any (is_slot_of o) (world_of board h l).held ≡ false in
        let F : (l : BridgeLane) → P l → Q l =
        λ l passes.
        let G : Bool → Type 0 = λ b. list_any (is_slot_of o) (world_of board h l).held ≡ b → b ≡ false in
        (elim (list_any (is_slot_of o) (world_of board h l).held) as G [
          | true ↦ λ holds. let held = passed_holds lane o (passes holds) in cc
          | false ↦ λ _. refl
        ]) refl in
        Each-weaker P Q F lanes each

    -- where the lanes behind reach further, the lane is passed
    passed_if : (lane : BridgeLane) (lanes : List BridgeLane) (last : BridgeLane) → AllByRecursion (λ (l : BridgeLane). Holds l → Passed (world_of board h) o lane) lanes → (reach_of (world_of board h) o lanes).last ≡ Some last → Passed (world_of board h) o lane
    passed_if lane [] last each is = cc
    passed_if lane (first ∷ lanes) last each is =
        let R : Reach = reach_of (world_of board h) o lanes in
        let reach : Reach = record { lanes = R.lanes + 1; last = Some (lane_or R.last first) } in
        let none : Reach = record { lanes = 0; last = None } in
        let G : Bool → Type 0 = λ b. list_any (is_slot_of o) (world_of board h first).held ≡ b → (cond b reach none).last ≡ Some last → Passed (world_of board h) o lane in
        (elim (list_any (is_slot_of o) (world_of board h first).held) as G [ true ↦ λ holds _. each.0 holds | false ↦ λ _ e. cc ]) refl is

    -- a valid board is a tree
    tree : IsTree board
    tree = IsTree-valid board valid

    -- what is left by the furthest slot, and how far its lane brought the operation
    furthest : (lane : BridgeLane) (slot : Slot) (long far rest : ℕ) → find (is_slot_of o) (world_of board h lane).held ≡ Some slot → far + rest ≡ long → 1 ≤ far
        → slot_left long far (world_of board h lane) (world_of board h (lane_back lane)) (find (is_slot_of o) (world_of board h lane).held)
        + stage rest (world_of board h lane) (world_of board h (lane_back lane)) (find (is_slot_of o) (world_of board h lane).held) + 2 * far ≡ 4 * long + 4
    furthest lane slot long far rest found sum some =
        let own = own_of board valid h run lane o slot found in
        let x : Both = both (world_of board h) lane in
        let a : Bool = list_any (is_ask_of slot.number) x.here.flight in
        let b : Bool = list_any (is_ask_of slot.number) x.here.standing in
        let c : Bool = list_any (is_done_for slot.number) x.back.flight in
        let d : Bool = list_any (is_done_for slot.number) x.back.standing in
        let e : Bool = list_any (is_gone_of slot.number) x.back.flight in
        let F : Option Slot → Type 0 = λ one. slot_left long far x.here x.back one + stage rest x.here x.back one + 2 * far ≡ 4 * long + 4 in
        let there : F (Some slot) = chain long far rest a b c d e sum some (some_one a b c d e (somewhere x slot own.item.somewhere)) in
        subst F (sym found) there

    -- what is left by the furthest slot, and how far each lane brought the operation, make up one number
    counted : (lanes : List BridgeLane) (on long far : ℕ) → lanes ≡ way board op on → IsDistinct same_bridge lanes → Behind lanes → far + length lanes ≡ long
        → Count (world_of board h) o long far (total (stage_at board op o (world_of board h)) lanes) (length lanes) (reach_of (world_of board h) o lanes).lanes (reach_of (world_of board h) o lanes).last
    counted [] on long far is distinct behind size = (refl, refl)
    counted (lane ∷ lanes) on long far is distinct behind size =
        let world : World = world_of board h in
        let parts = behind_parts lane lanes distinct behind in
        let goes = way_cons board op on lane lanes tree is in
        let later = counted lanes (end_of board lane) long (far + 1) goes.later (IsDistinct-tail same_bridge lane lanes distinct) parts.0 (omega arith) in
        let R : Reach = reach_of world o lanes in
        let reach : Reach = record { lanes = R.lanes + 1; last = Some (lane_or R.last lane) } in
        let none : Reach = record { lanes = 0; last = None } in
        let here : ℕ = stage_at board op o world lane in
        let sum : ℕ = total (stage_at board op o world) lanes in
        let rest : ℕ = length (way board op (end_of board lane)) in
        let rest_is : rest ≡ length lanes = sym (ap length goes.later) in
        let G : Bool → Type 0 = λ b. list_any (is_slot_of o) (world lane).held ≡ b → Count world o long far (here + sum) (length (lane ∷ lanes)) (cond b reach none).lanes (cond b reach none).last in
        let Q : Option BridgeLane → Type 0 = λ last. R.last ≡ last → Count world o long (far + 1) sum (length lanes) R.lanes last → Count world o long far (here + sum) (length (lane ∷ lanes)) (R.lanes + 1) (Some (lane_or last lane)) in
        (elim (list_any (is_slot_of o) (world lane).held) as G [
          | true ↦ λ holds.
              let at = any_some (is_slot_of o) (world lane).held holds in
              let slot : Slot = at.0 in
              (elim R.last as Q [
                | None ↦ λ _ old.
                    let at_last : ℕ = far + (R.lanes + 1) in
                    omega (arith, furthest lane slot long at_last rest at.1 (omega arith) (omega arith))
                | Some last ↦ λ is_last old.
                    let three : here ≡ 3 = passed_stage lane (passed_if lane lanes last parts.1 is_last) in
                    let far_is : far + 1 + R.lanes ≡ far + (R.lanes + 1) = omega arith in
                    let moved : reach_left world o long (far + (R.lanes + 1)) (Some last) + sum + 2 * (far + 1) ≡ 4 * long + 1 + length lanes =
                    subst (λ n. reach_left world o long n (Some last) + sum + 2 * (far + 1) ≡ 4 * long + 1 + length lanes) far_is old in
                    omega arith
              ]) refl later
          | false ↦ λ holds_none. (refl, omega (arith, stage_none lane holds_none, total_none lanes (none_behind lane lanes holds_none parts.1)))
        ]) refl

    -- what is left of the operation and the stages of its way make up one number
    pub delayed_sum : (master : MasterAgent) → op_of board o ≡ Some op → slice_get board.masters o.master ≡ Some master
        → delayed_left (world_of board h) o (way board op master.bus) + total (stage_at board op o (world_of board h)) (way board op master.bus) ≡ 5 * length (way board op master.bus) + 1
    delayed_sum master is_op is_master =
        let world : World = world_of board h in
        let lanes : List BridgeLane = way board op master.bus in
        let ends = WayEnds-tree board op tree master.bus in
        let B : BridgeLane → Type 0 = λ l. Holds l → AllByRecursion (Passed world o) (before (same_lane l) lanes) in
        let behind : (l : BridgeLane) → B l =
        λ l holds.
        let at = any_some (is_slot_of o) (world l).held holds in
        let own = own_of board valid h run l o at.0 at.1 in
        let is_op_too : op_of board o ≡ Some own.reach.op = subst (λ p. op_of board p ≡ Some own.reach.op) own.is_for own.reach.is_op in
        let is_master_too : slice_get board.masters o.master ≡ Some own.reach.master = subst (λ p. slice_get board.masters p.master ≡ Some own.reach.master) own.is_for own.reach.is_master in
        let ops : own.reach.op ≡ op = cc in
        let masters : own.reach.master ≡ master = cc in
        let one : AllByRecursion (Passed world o) (before (same_lane l) (way board own.reach.op own.reach.master.bus)) = subst (λ p. AllByRecursion (Passed world p) (before (same_lane l) (way board own.reach.op own.reach.master.bus))) own.is_for own.reach.passed in
        let two : AllByRecursion (Passed world o) (before (same_lane l) (way board op own.reach.master.bus)) = subst (λ p. AllByRecursion (Passed world o) (before (same_lane l) (way board p own.reach.master.bus))) ops one in
        subst (λ (m : MasterAgent). AllByRecursion (Passed world o) (before (same_lane l) (way board op m.bus))) masters two in
        let count = counted lanes master.bus (length lanes) 0 refl ends.no_bridge_twice (Each-all B behind lanes) (omega arith) in
        let R : Reach = reach_of world o lanes in
        let sum : ℕ = total (stage_at board op o world) lanes in
        let Q : Option BridgeLane → Type 0 = λ last. Count world o (length lanes) 0 sum (length lanes) R.lanes last → reach_left world o (length lanes) R.lanes last + sum ≡ 5 * length lanes + 1 in
        (elim R.last as Q [
          | None ↦ λ at. omega (arith, at.1)
          | Some last ↦ λ at.
              let start : 0 + R.lanes ≡ R.lanes = omega arith in
              let moved : reach_left world o (length lanes) R.lanes (Some last) + sum + 2 * 0 ≡ 4 * length lanes + 1 + length lanes = subst (λ n. reach_left world o (length lanes) n (Some last) + sum + 2 * 0 ≡ 4 * length lanes + 1 + length lanes) start at in
              omega arith
        ]) count
