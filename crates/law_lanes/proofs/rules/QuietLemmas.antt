-- Nothing is on the lanes of no bridge, and the depths of a bridge bound what is on its lanes, under either rule.
use Rattle.std.proofs.Common.{◌≡◌, ℕ, ◌≤◌, ◌<◌, List, Option, Some, None, refl, sym, ap, subst, ◌∙◌, arith, ◌==◌}
use Rattle.list_facts.proofs.EachLemmas.{Each-weaker, Each-find}
use Rattle.board_model.specs.Limits.{most_posted, most_delayed}
use Rattle.board_model.specs.declared.bridge.Bridge.{Bridge}
use Rattle.board_model.specs.declared.bridge.Lane.{Lane as BridgeLane}
use Rattle.board_model.specs.declared.board.Board.{Board}
use Rattle.history_model.specs.declared.event.Event.{Event}
use Rattle.history_model.specs.declared.item.Slot.{Slot}
use Rattle.history_model.specs.declared.rule.Rule.{Rule}
use Rattle.history_model.specs.Lanes.{Both, LaneState, empty_lane, slot_taken, item_ends, arrives}
use Rattle.history_model.specs.World.{world_by}
use Rattle.history_model.specs.Answers.{bridge_to}
use Rattle.history_model.specs.Runs.{RunBy}
use Rattle.history_model.proofs.facts.BridgeLemmas.{flip}
use Rattle.history_model.proofs.facts.KeptLemmas.{Pair, KeptBy, runs_keep_by}
use Rattle.law_lanes.specs.Depths.{Within, DepthsInLimits}
use Rattle.law_lanes.proofs.DepthsLemmas.{Within-run_by, within_more, within_empty}

nothing : Both
nothing = record { here = empty_lane; back = empty_lane }

-- both lanes of no bridge are empty
abbrev IsQuiet : Board → BridgeLane → Both → Type 0
IsQuiet board lane x = bridge_to board lane.bus ≡ None → x ≡ nothing

-- a move that makes nothing of nothing
stays : (board : Board) (move : Both → Both) (lane : BridgeLane) (x : Both) → move nothing ≡ nothing → Pair (IsQuiet board) lane x → Pair (IsQuiet board) lane (move x)
unfolding nothing
stays board move lane x same old = (λ none. ap move (old.0 none) ∙ same, λ none. ap (λ y. flip (move y)) (old.0 none) ∙ ap flip same)

-- and one of a bridge that is there
has_bridge : (board : Board) (lane : BridgeLane) (bridge : Bridge) (x : Both) → bridge_to board lane.bus ≡ Some bridge → Pair (IsQuiet board) lane x
has_bridge board lane bridge x is = (λ none. cc, λ none. cc)

IsQuiet-kept : (rule : Rule) (board : Board) → KeptBy rule board (IsQuiet board)
unfolding nothing
IsQuiet-kept rule board =
    record {
      empty = λ lane none. refl;
      accepts = λ h on by o lane _ _ at old. has_bridge board lane at.bridge _ at.is_bridge;
      latches = λ h on by o lane _ _ at old. has_bridge board lane at.bridge _ at.is_bridge;
      takes = λ lane number op slot outcome x _ old. stays board (slot_taken number) lane x refl old;
      ends = λ lane o outcome x old. stays board (item_ends o outcome) lane x refl old;
      comes = λ lane mark x old. stays board (arrives mark) lane x refl old;
    }

pub Quiet-run_by : (rule : Rule) (board : Board) (h : List Event) (lane : BridgeLane) → bridge_to board lane.bus ≡ None → RunBy rule board h → world_by rule board h lane ≡ empty_lane
unfolding nothing
Quiet-run_by rule board h lane none run =
    ap (λ (x : Both). x.here) (runs_keep_by rule board (IsQuiet board) (IsQuiet-kept rule board) h run lane none)

pub Within-limits_by : (rule : Rule) (board : Board) (h : List Event) (lane : BridgeLane) → DepthsInLimits board → RunBy rule board h → Within most_posted most_delayed (world_by rule board h lane)
Within-limits_by rule board h lane eight run =
    let D : Bridge → Type 0 = λ bridge. (bridge.posted ≤ most_posted) × (bridge.delayed ≤ most_delayed) in
    let P : Option Bridge → Type 0 = λ found. bridge_to board lane.bus ≡ found → Within most_posted most_delayed (world_by rule board h lane) in
    (elim (bridge_to board lane.bus) as P [
      | None ↦ λ none. subst (Within most_posted most_delayed) (sym (Quiet-run_by rule board h lane none run)) (within_empty most_posted most_delayed)
      | Some bridge ↦ λ is.
          let depths = Each-find D (λ (bridge : Bridge). bridge.bus == lane.bus) board.bridges bridge eight is in
          within_more bridge.posted bridge.delayed most_posted most_delayed (world_by rule board h lane) depths.0 depths.1 (Within-run_by rule board h lane bridge is run)
    ]) refl
