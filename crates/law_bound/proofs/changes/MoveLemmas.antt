-- Moves of a bridge: what is on its lanes afterwards, and sums of stages over a way.
use Rattle.std.proofs.Common.{◌≡◌, ℕ, ◌+◌, ◌≤◌, Bool, true, false, List, [], ◌∷◌, ◌++◌, length, Option, Some, refl, sym, ap, subst, ◌∙◌, arith}
use Rattle.std.specs.List.{find, list_any, IsDistinct}
use Rattle.std.proofs.lemmas.Map.Keys.{IsDistinct-tail, IsDistinct-head}
use Rattle.list_facts.specs.Lists.{less, total}
use Rattle.list_facts.proofs.EachLemmas.{Each-weaker}
use Rattle.list_facts.proofs.TotalLemmas.{total-push, total-less}
use Rattle.pci_command.specs.declared.op_id.OpId.{OpId}
use Rattle.pci_command.specs.declared.op_id.Outcome.{Outcome}
use Rattle.board_model.specs.declared.bridge.Lane.{Lane as BridgeLane}
use Rattle.board_model.specs.declared.op.Op.{Op}
use Rattle.board_model.specs.declared.board.Board.{Board}
use Rattle.board_model.specs.Ways.{end_of, way, lane_back}
use Rattle.board_model.specs.form_laws.WayEnds.{same_bridge}
use Rattle.history_model.specs.declared.event.By.{By}
use Rattle.history_model.specs.declared.event.Event.{Event}
use Rattle.history_model.specs.declared.item.Carried.{Carried}
use Rattle.history_model.specs.declared.item.Carried.TheVariants.{Ask, Done, Gone}
use Rattle.history_model.specs.Lanes.{LaneState, Both, is_of, is_done_for, lowest_free, ask_enters, reply_to, item_ends, slot_taken, Stands, Frees, Drops, takes_effect, came_off}
use Rattle.history_model.specs.World.{World, same_lane, both, moved}
use Rattle.history_model.specs.Left.{flying_left, standing_left}
use Rattle.history_model.proofs.facts.BridgeLemmas.{flip, both_back, same_lane_true, same_lane_self, same_lane_back, same_lane_symm, moved_gives, moved_keeps}
use Rattle.history_model.proofs.facts.PathLemmas.{other_bridge}
use Rattle.list_facts.proofs.AnyLemmas.{total_same, total_each, total_falls}
use Rattle.law_bound.specs.stages.Stages.{stage_at}
use Rattle.law_bound.proofs.stages.Laws.{Same}
use Rattle.history_model.proofs.facts.StoreLemmas.{Grown}

-- what a move puts on its lane
pub moved_here : (move : Both → Both) (lane : BridgeLane) (world : World) → both (moved move lane world) lane ≡ move (both world lane)
moved_here move lane world =
    let P : BridgeLane → Both → Type 0 = λ k y. same_lane k lane ≡ true → y ≡ move (both world lane) in
    moved_gives P move lane world (λ k other is. cc) (λ _. refl) (λ is. let back = same_lane_back lane in cc) lane (same_lane_self lane)

-- and on the lane back
pub moved_there : (move : Both → Both) (lane : BridgeLane) (world : World) → both (moved move lane world) (lane_back lane) ≡ flip (move (both world lane))
moved_there move lane world = both_back (moved move lane world) lane ∙ ap flip (moved_here move lane world)

-- sums of stages over lanes
module _ (board : Board) (op : Op) (o : OpId) (old new : World) where
  -- a lane that is as it was
  stage_same : (lane : BridgeLane) → Same o (both old lane) (both new lane) → stage_at board op o new lane ≡ stage_at board op o old lane
  stage_same lane same = same (length (way board op (end_of board lane)))

  -- where each lane is as it was
  pub sum_same : ((lane : BridgeLane) → Same o (both old lane) (both new lane)) → (lanes : List BridgeLane) → total (stage_at board op o new) lanes ≡ total (stage_at board op o old) lanes
  sum_same same lanes = total_same (stage_at board op o new) (stage_at board op o old) (λ lane. stage_same lane (same lane)) lanes

  -- one lane brings it further
  pub sum_up : (at : BridgeLane) (d : ℕ) → ((lane : BridgeLane) → same_lane at lane ≡ false → Same o (both old lane) (both new lane)) → stage_at board op o old at + d ≤ stage_at board op o new at
      → (lanes : List BridgeLane) → list_any (same_lane at) lanes ≡ true → total (stage_at board op o old) lanes + d ≤ total (stage_at board op o new) lanes
  sum_up at d same up lanes is =
      let F : BridgeLane → ℕ = stage_at board op o old in
      let G : BridgeLane → ℕ = stage_at board op o new in
      let one : (lane : BridgeLane) → same_lane at lane ≡ true → F lane + d ≤ G lane = λ lane is_it. subst (λ l. F l + d ≤ G l) (same_lane_true at lane is_it) up in
      let each : (lane : BridgeLane) → F lane ≤ G lane =
      λ lane.
      let P : Bool → Type 0 = λ b. same_lane at lane ≡ b → F lane ≤ G lane in
      (elim (same_lane at lane) as P [ true ↦ λ is_it. omega (arith, one lane is_it) | false ↦ λ other. omega (arith, stage_same lane (same lane other)) ]) refl in
      total_falls F G (same_lane at) d each one lanes is

  -- one lane brings it less far
  pub sum_down : (at : BridgeLane) (d : ℕ) → ((lane : BridgeLane) → same_lane at lane ≡ false → Same o (both old lane) (both new lane)) → stage_at board op o old at ≤ stage_at board op o new at + d
      → (lanes : List BridgeLane) → IsDistinct same_bridge lanes → total (stage_at board op o old) lanes ≤ total (stage_at board op o new) lanes + d
  sum_down at d same down [] distinct = omega arith
  sum_down at d same down (lane ∷ lanes) distinct =
      let F : BridgeLane → ℕ = stage_at board op o old in
      let G : BridgeLane → ℕ = stage_at board op o new in
      let P : Bool → Type 0 = λ b. same_lane at lane ≡ b → F lane + total F lanes ≤ G lane + total G lanes + d in
      (elim (same_lane at lane) as P [
        | true ↦ λ is_it.
            let one : at ≡ lane = same_lane_true at lane is_it in
            let here : F lane ≤ G lane + d = subst (λ l. F l ≤ G l + d) one down in
            let Apart : BridgeLane → Type 0 = λ l. same_bridge lane l ≡ false in
            let Q : BridgeLane → Type 0 = λ l. F l ≤ G l in
            let later : (l : BridgeLane) → Apart l → Q l =
            λ l apart.
            let other : same_lane at l ≡ false = ap (λ k. same_lane k l) one ∙ same_lane_symm lane l ∙ other_bridge lane l apart in
            omega (arith, stage_same l (same l other)) in
            omega (arith, here, total_each F G lanes (Each-weaker Apart Q later lanes (IsDistinct-head same_bridge lane lanes distinct)))
        | false ↦ λ other. omega (arith, stage_same lane (same lane other), sum_down at d same down lanes (IsDistinct-tail same_bridge lane lanes distinct))
      ]) refl

-- as many delayed requests and completions came by, and posted writes and credits weigh no more
module _ (board : Board) (h : List Event) where
  -- of one lane
  pub record Still (lane : BridgeLane) (old new : LaneState) : Type 0 where
    pub asks : old.asks ≤ new.asks
    pub dones : old.dones ≤ new.dones
    pub lighter : total (flying_left board h lane) new.flight + total (standing_left board h lane) new.standing ≤ total (flying_left board h lane) old.flight + total (standing_left board h lane) old.standing

  -- of a lane and the lane back
  abbrev pub StillBoth : BridgeLane → Both → Both → Type 0
  StillBoth lane x y = Still lane x.here y.here × Still (lane_back lane) x.back y.back

  -- where nothing changes
  pub still_self : (lane : BridgeLane) (state : LaneState) → Still lane state state
  still_self lane state = record { asks = omega arith; dones = omega arith; lighter = omega arith }

  -- an item that is no posted write and no credit weighs nothing
  abbrev Weightless : Carried → Type 0
  Weightless item = (lane : BridgeLane) → (flying_left board h lane item ≡ 0) × (standing_left board h lane item ≡ 0)

  -- one more that weighs nothing is in flight
  still_sent : (lane : BridgeLane) (state : LaneState) (item : Carried) → Weightless item → Still lane state (record state { flight = state.flight ++ item ∷ [] })
  still_sent lane state item none =
      record { asks = omega arith; dones = omega arith; lighter = omega (arith, total-push (flying_left board h lane) state.flight item, (none lane).0) }

  -- one fewer stands
  still_less : (lane : BridgeLane) (state : LaneState) (test : Carried → Bool) → Still lane state (record state { standing = less test state.standing })
  still_less lane state test =
      record { asks = omega arith; dones = omega arith; lighter = omega (arith, total-less (standing_left board h lane) test state.standing) }

  -- a latch
  pub latch_still : (lane : BridgeLane) (by : By) (o : OpId) (x : Both) → StillBoth lane x (ask_enters by o x)
  latch_still lane by o x =
      let item : Carried = Ask o (lowest_free x.here.held) in
      (record { asks = omega arith; dones = omega arith; lighter = omega (arith, total-push (flying_left board h lane) x.here.flight item) }, still_self (lane_back lane) x.back)

  -- a completion is taken
  pub taken_still : (lane : BridgeLane) (number : ℕ) (x : Both) → StillBoth lane x (slot_taken number x)
  taken_still lane number x =
      (record { asks = omega arith; dones = omega arith; lighter = omega arith }, still_less (lane_back lane) x.back (is_done_for number))

  -- a delayed request ends
  pub ends_still : (lane : BridgeLane) (o : OpId) (outcome : Outcome) (number : ℕ) (x : Both) → find (is_of o) x.here.standing ≡ Some (Ask o number) → StillBoth lane x (item_ends o outcome x)
  ends_still lane o outcome number x stands =
      let F : Option Carried → Type 0 = λ found. Still (lane_back lane) x.back (record (x.back) { flight = x.back.flight ++ reply_to outcome found }) in
      let there : F (Some (Ask o number)) = still_sent (lane_back lane) x.back (Done o number outcome) (λ l. (refl, refl)) in
      (still_less lane x.here (is_of o), subst F (sym stands) there)

  -- an item that weighs nothing comes off the lane
  module _ (lane : BridgeLane) (x : Both) (item : Carried) (rest : List Carried) (is : x.here.flight ≡ item ∷ rest) (none : Weightless item) where
    -- what is in flight weighs no more
    off_lighter : total (flying_left board h lane) rest ≤ total (flying_left board h lane) x.here.flight
    off_lighter = rw is (omega (arith, (none lane).0))

    -- one more came by
    off_still : Still lane x.here (came_off item rest x.here)
    off_still = record { asks = omega arith; dones = omega arith; lighter = omega (arith, off_lighter) }

    -- it comes to stand
    pub stands_still : StillBoth lane x (takes_effect Stands item (record x { here = came_off item rest x.here }))
    stands_still =
        (record { asks = omega arith; dones = omega arith; lighter = omega (arith, off_lighter, total-push (standing_left board h lane) x.here.standing item, (none lane).1) }, still_self (lane_back lane) x.back)

    -- it frees a slot
    pub frees_still : (number : ℕ) → StillBoth lane x (takes_effect (Frees number) item (record x { here = came_off item rest x.here }))
    frees_still number = (off_still, record { asks = omega arith; dones = omega arith; lighter = omega arith })

    -- it is dropped
    pub drops_still : (number : ℕ) → StillBoth lane x (takes_effect (Drops number) item (record x { here = came_off item rest x.here }))
    drops_still number = (off_still, still_sent (lane_back lane) x.back (Gone number) (λ l. (refl, refl)))

  -- a still move leaves each lane so
  pub moved_still : (move : Both → Both) (lane : BridgeLane) (world : World) → StillBoth lane (both world lane) (move (both world lane)) → (l : BridgeLane) → Still l (world l) (moved move lane world l)
  moved_still move lane world still =
      let P : BridgeLane → Both → Type 0 = λ k y. Still k (world k) y.here in
      moved_keeps P move lane world (λ k. still_self k (world k)) still.0 still.1

  -- two moves
  pub still_both : (lane : BridgeLane) (a b c : LaneState) → Still lane a b → Still lane b c → Still lane a c
  still_both lane a b c first second =
      record { asks = omega (arith, first.asks, second.asks); dones = omega (arith, first.dones, second.dones); lighter = omega (arith, first.lighter, second.lighter) }

  -- no fewer came by on any lane
  pub grown_still : (old new : World) → ((l : BridgeLane) → Still l (old l) (new l)) → Grown old new
  grown_still old new still = record { asks = λ lane. (still lane).asks; dones = λ lane. (still lane).dones }
