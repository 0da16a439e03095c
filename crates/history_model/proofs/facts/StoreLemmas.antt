-- What the board has in store, and what is on its lanes, after an event that takes no part of a write.
use Rattle.std.proofs.Common.{◌≡◌, ℕ, zero, suc, ◌+◌, ◌*◌, ◌-◌, ◌≤◌, ◌<◌, Bool, true, false, cond, eqb, nat_lt, List, [], ◌∷◌, length, Option, Some, None, refl, sym, ap, subst, arith, slice_get}
use Rattle.std.specs.List.{list_any}
use Rattle.std.proofs.lemmas.Bool.{and_parts}
use Rattle.std.proofs.lemmas.Bool.Decides.{nat_tests}
use Rattle.list_facts.specs.Lists.{total}
use Rattle.list_facts.proofs.TotalLemmas.{total-le}
use Rattle.pci_command.specs.declared.op_id.OpId.{OpId}
use Rattle.board_model.specs.declared.agents.Master.{Master as MasterAgent}
use Rattle.board_model.specs.declared.agents.Target.{Target as TargetAgent}
use Rattle.board_model.specs.declared.bridge.Bridge.{Bridge}
use Rattle.board_model.specs.declared.bridge.Lane.{Lane as BridgeLane}
use Rattle.board_model.specs.declared.op.Op.{Op}
use Rattle.board_model.specs.declared.board.Board.{Board}
use Rattle.board_model.specs.declared.board.Planned.{Planned}
use Rattle.board_model.specs.Requests.{op_of, phases_of}
use Rattle.board_model.specs.Ways.{way, end_of, pieces_of, longest_way}
use Rattle.history_model.specs.declared.event.Event.{Event}
use Rattle.history_model.specs.declared.item.Carried.{Carried}
use Rattle.history_model.specs.declared.item.Carried.TheVariants.{Post, Ask, Done, Room, Gone}
use Rattle.history_model.specs.Lanes.{LaneState}
use Rattle.history_model.specs.World.{World, world_of, same_lane}
use Rattle.history_model.specs.Program.{turn_of}
use Rattle.history_model.specs.Words.{parted_by, through}
use Rattle.history_model.specs.Answers.{stalls_by}
use Rattle.history_model.specs.Runs.{names}
use Rattle.history_model.specs.Left.{post_left, flying_left, standing_left, lane_left, bridge_left, program_left, programs_left, stalls_left, discard_left, drop_left}
use Rattle.history_model.proofs.facts.BridgeLemmas.{same_lane_true}
use Rattle.list_facts.proofs.AnyLemmas.{total_same, total_falls}

-- no stall token is used
pub stalls_same : (h : List Event) (e : Event) → ((target : ℕ) → stalls_by target e ≡ 0) → (index : ℕ) (targets : List TargetAgent) → stalls_left (e ∷ h) index targets ≡ stalls_left h index targets
stalls_same h e none index [] = refl
stalls_same h e none index (target ∷ targets) = omega (arith, none index, stalls_same h e none (index + 1) targets)

-- more came by
fewer : (before now count n : ℕ) → before ≤ now → cond (nat_lt now count) n 0 ≤ cond (nat_lt before count) n 0
fewer before now count n more =
    let P : Bool → Type 0 = λ b. nat_lt now count ≡ b → cond b n 0 ≤ cond (nat_lt before count) n 0 in
    let Q : Bool → Type 0 = λ b. nat_lt before count ≡ b → now < count → n ≤ cond b n 0 in
    (elim (nat_lt now count) as P [
      | true ↦ λ is. (elim (nat_lt before count) as Q [ true ↦ λ _ _. omega arith | false ↦ λ fails below. absurd (let above : count ≤ before = grind (arith, nat_tests) in omega arith) ]) refl (grind (arith, nat_tests))
      | false ↦ λ _. omega arith
    ]) refl

-- the one that is named came by
came : (before now count n : ℕ) → now ≡ before + 1 → count ≡ now → cond (nat_lt now count) n 0 + n ≤ cond (nat_lt before count) n 0
came before now count n one is =
    let not_yet : nat_lt before count ≡ true = grind (arith, nat_tests) in
    let gone : nat_lt now count ≡ false = grind (arith, nat_tests) in
    rw (not_yet, gone) (omega arith)

-- as many came by, or more, on each lane
pub record Grown (old new : World) : Type 0 where
  pub asks : (lane : BridgeLane) → (old lane).asks ≤ (new lane).asks
  pub dones : (lane : BridgeLane) → (old lane).dones ≤ (new lane).dones

-- the lane that a line of the board names
abbrev at_line : Planned → BridgeLane
at_line planned = record { bus = planned.bus; up = planned.up }

module _ (board : Board) (old new : World) (grown : Grown old new) where
  -- a line that names a completion has no more in store
  discard_le : (planned : Planned) → discard_left board new planned ≤ discard_left board old planned
  discard_le planned = fewer (old (at_line planned)).dones (new (at_line planned)).dones planned.count (4 * longest_way board) (grown.dones (at_line planned))

  -- nor has one that names a request
  drop_le : (planned : Planned) → drop_left new planned ≤ drop_left old planned
  drop_le planned = fewer (old (at_line planned)).asks (new (at_line planned)).asks planned.count 3 (grown.asks (at_line planned))

  -- nor have all lines that name completions
  pub discards_le : total (discard_left board new) board.discards ≤ total (discard_left board old) board.discards
  discards_le = total-le (discard_left board new) (discard_left board old) discard_le board.discards

  -- nor have all that name requests
  pub drops_le : total (drop_left new) board.drops ≤ total (drop_left old) board.drops
  drops_le = total-le (drop_left new) (drop_left old) drop_le board.drops

  -- a line names what came by
  pub discards_fall : (lane : BridgeLane) → (new lane).dones ≡ (old lane).dones + 1 → list_any (names lane ((old lane).dones + 1)) board.discards ≡ true
      → total (discard_left board new) board.discards + 4 * longest_way board ≤ total (discard_left board old) board.discards
  discards_fall lane one is =
      let named : (planned : Planned) → names lane ((old lane).dones + 1) planned ≡ true → discard_left board new planned + 4 * longest_way board ≤ discard_left board old planned =
      λ planned names_it.
      let parts = and_parts (same_lane (at_line planned) lane) (eqb planned.count ((old lane).dones + 1)) names_it in
      let same : at_line planned ≡ lane = same_lane_true (at_line planned) lane parts.0 in
      let count : planned.count ≡ (new lane).dones = grind (arith, nat_tests) in
      let F : BridgeLane → Type 0 = λ l. cond (nat_lt (new l).dones planned.count) (4 * longest_way board) 0 + 4 * longest_way board ≤ cond (nat_lt (old l).dones planned.count) (4 * longest_way board) 0 in
      let there : F lane = came (old lane).dones (new lane).dones planned.count (4 * longest_way board) one count in
      subst F (sym same) there in
      total_falls (discard_left board new) (discard_left board old) (names lane ((old lane).dones + 1)) (4 * longest_way board) discard_le named board.discards is

  -- the same of a request
  pub drops_fall : (lane : BridgeLane) → (new lane).asks ≡ (old lane).asks + 1 → list_any (names lane ((old lane).asks + 1)) board.drops ≡ true
      → total (drop_left new) board.drops + 3 ≤ total (drop_left old) board.drops
  drops_fall lane one is =
      let named : (planned : Planned) → names lane ((old lane).asks + 1) planned ≡ true → drop_left new planned + 3 ≤ drop_left old planned =
      λ planned names_it.
      let parts = and_parts (same_lane (at_line planned) lane) (eqb planned.count ((old lane).asks + 1)) names_it in
      let same : at_line planned ≡ lane = same_lane_true (at_line planned) lane parts.0 in
      let count : planned.count ≡ (new lane).asks = grind (arith, nat_tests) in
      let F : BridgeLane → Type 0 = λ l. cond (nat_lt (new l).asks planned.count) 3 0 + 3 ≤ cond (nat_lt (old l).asks planned.count) 3 0 in
      let there : F lane = came (old lane).asks (new lane).asks planned.count 3 one count in
      subst F (sym same) there in
      total_falls (drop_left new) (drop_left old) (names lane ((old lane).asks + 1)) 3 drop_le named board.drops is

module _ (board : Board) (h : List Event) (e : Event) (parts : (o : OpId) → parted_by o e ≡ 0) where
  -- what is left of posted writes stays as it was
  pub through_same : (o : OpId) → through (e ∷ h) o ≡ through h o
  through_same o = omega (arith, parts o)

  -- of a posted write on a lane
  post_same : (lane : BridgeLane) (o : OpId) (op : Option Op) → post_left board (e ∷ h) lane o op ≡ post_left board h lane o op
  post_same lane o None = refl
  post_same lane o (Some op) =
      let on : ℕ = end_of board lane in
      ap (λ n. 3 * length (way board op on) + pieces_of board op on (length (phases_of op) - n)) (through_same o)

  -- of what is in flight
  flying_same : (lane : BridgeLane) (item : Carried) → flying_left board (e ∷ h) lane item ≡ flying_left board h lane item
  flying_same lane (Post op) = ap (λ n. n + 2) (post_same lane op (op_of board op))
  flying_same lane (Ask op slot) = refl
  flying_same lane (Done op slot outcome) = refl
  flying_same lane Room = refl
  flying_same lane (Gone slot) = refl

  -- and of what stands
  standing_same : (lane : BridgeLane) (item : Carried) → standing_left board (e ∷ h) lane item ≡ standing_left board h lane item
  standing_same lane (Post op) = ap (λ n. n + 1) (post_same lane op (op_of board op))
  standing_same lane (Ask op slot) = refl
  standing_same lane (Done op slot outcome) = refl
  standing_same lane Room = refl
  standing_same lane (Gone slot) = refl

  -- the posted writes and credits on a lane weigh no more than before
  abbrev pub Lighter : BridgeLane → LaneState → LaneState → Type 0
  Lighter lane old new =
      total (flying_left board h lane) new.flight + total (standing_left board h lane) new.standing ≤ total (flying_left board h lane) old.flight + total (standing_left board h lane) old.standing

  -- so nothing more is left on the bridges
  pub bridges_le : ((lane : BridgeLane) → Lighter lane (world_of board h lane) (world_of board (e ∷ h) lane)) → (bridges : List Bridge) → total (bridge_left board (e ∷ h)) bridges ≤ total (bridge_left board h) bridges
  bridges_le lighter bridges =
      let one : (lane : BridgeLane) → lane_left board (e ∷ h) lane ≤ lane_left board h lane =
      λ lane.
      let new : LaneState = world_of board (e ∷ h) lane in
      omega (
        arith,
        lighter lane,
        total_same (flying_left board (e ∷ h) lane) (flying_left board h lane) (flying_same lane) new.flight,
        total_same (standing_left board (e ∷ h) lane) (standing_left board h lane) (standing_same lane) new.standing,
      ) in
      let each : (bridge : Bridge) → bridge_left board (e ∷ h) bridge ≤ bridge_left board h bridge =
      λ bridge. omega (arith, one (record { bus = bridge.bus; up = false }), one (record { bus = bridge.bus; up = true })) in
      total-le (bridge_left board (e ∷ h)) (bridge_left board h) each bridges

-- sums over the masters, where one of them changes by more
module _ (board : Board) (new old : List Event) where
  -- what is left of a master's program
  abbrev pub left_by : List Event → MasterAgent → ℕ → ℕ
  left_by h master index = program_left board h master (turn_of board h index)

  -- where no program has more left
  programs_le : (index : ℕ) (masters : List MasterAgent) → ((i : ℕ) (m : MasterAgent) → slice_get masters i ≡ Some m → left_by new m (index + i) ≤ left_by old m (index + i)) → programs_left board new index masters ≤ programs_left board old index masters
  programs_le index [] each = omega arith
  programs_le index (master ∷ masters) each =
      let start : index + 0 ≡ index = omega arith in
      let here : left_by new master index ≤ left_by old master index = subst (λ n. left_by new master n ≤ left_by old master n) start (each 0 master refl) in
      let next : (i : ℕ) → index + suc i ≡ index + 1 + i = λ i. omega arith in
      let later : (i : ℕ) (m : MasterAgent) → slice_get masters i ≡ Some m → left_by new m (index + 1 + i) ≤ left_by old m (index + 1 + i) =
      λ i m is. subst (λ n. left_by new m n ≤ left_by old m n) (next i) (each (suc i) m is) in
      omega (arith, here, programs_le (index + 1) masters later)

  -- where one program changes by so much, and no other has more left
  pub programs_fall : (a b index place : ℕ) (masters : List MasterAgent) (master : MasterAgent) → slice_get masters place ≡ Some master → left_by new master (index + place) + a ≤ left_by old master (index + place) + b
      → ((i : ℕ) (m : MasterAgent) → slice_get masters i ≡ Some m → (i ≡ place → ⊥) → left_by new m (index + i) ≤ left_by old m (index + i)) → programs_left board new index masters + a ≤ programs_left board old index masters + b
  programs_fall a b index place [] master is falls each = cc
  programs_fall a b index zero (first ∷ masters) master is falls each =
      let same : first ≡ master = cc in
      let start : index + 0 ≡ index = omega arith in
      let there : left_by new first (index + 0) + a ≤ left_by old first (index + 0) + b = subst (λ m. left_by new m (index + 0) + a ≤ left_by old m (index + 0) + b) (sym same) falls in
      let here : left_by new first index + a ≤ left_by old first index + b = subst (λ n. left_by new first n + a ≤ left_by old first n + b) start there in
      let next : (i : ℕ) → index + suc i ≡ index + 1 + i = λ i. omega arith in
      let later : (i : ℕ) (m : MasterAgent) → slice_get masters i ≡ Some m → left_by new m (index + 1 + i) ≤ left_by old m (index + 1 + i) =
      λ i m found. subst (λ n. left_by new m n ≤ left_by old m n) (next i) (each (suc i) m found (λ (e : suc i ≡ 0). absurd (omega (arith, e)))) in
      omega (arith, here, programs_le (index + 1) masters later)
  programs_fall a b index (suc place) (first ∷ masters) master is falls each =
      let start : index + 0 ≡ index = omega arith in
      let here : left_by new first index ≤ left_by old first index = subst (λ n. left_by new first n ≤ left_by old first n) start (each 0 first refl (λ (e : 0 ≡ suc place). absurd (omega (arith, e)))) in
      let next : (i : ℕ) → index + suc i ≡ index + 1 + i = λ i. omega arith in
      let falls_later : left_by new master (index + 1 + place) + a ≤ left_by old master (index + 1 + place) + b = subst (λ n. left_by new master n + a ≤ left_by old master n + b) (next place) falls in
      let later : (i : ℕ) (m : MasterAgent) → slice_get masters i ≡ Some m → (i ≡ place → ⊥) → left_by new m (index + 1 + i) ≤ left_by old m (index + 1 + i) =
      λ i m found other. subst (λ n. left_by new m n ≤ left_by old m n) (next i) (each (suc i) m found (λ (e : suc i ≡ suc place). other (omega (arith, e)))) in
      omega (arith, here, programs_fall a b (index + 1) place masters master is falls_later later)
