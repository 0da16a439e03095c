-- What is known where a statement was added: that no test refused it, and the draft that came of it.
use Rattle.std.proofs.Common.{subst, ◌≡◌, ℕ, Bool, false, [], ◌∷◌, ◌++◌, length, Option, Some, None, Result, Ok, Err, refl}
use Rattle.std.specs.Prelude.{◌||◌, not, nat_le, nat_lt, ◌+◌, ◌==◌, ◌%◌}
use Rattle.std.specs.List.{list_any}
use Rattle.list_facts.specs.Lists.{total}
use Rattle.board_model.specs.Limits.{most_bridges, most_children, most_ops, most_tries, most_openings, most_plans}
use Rattle.board_model.specs.declared.bridge.Bridge.{Bridge}
use Rattle.board_model.specs.declared.agents.Range.{Range}
use Rattle.board_model.specs.declared.agents.Opening.{Opening}
use Rattle.board_model.specs.declared.agents.Target.{Target}
use Rattle.board_model.specs.declared.agents.Master.{Master}
use Rattle.board_model.specs.declared.op.Op.{Op}
use Rattle.board_model.specs.declared.board.Board.{Board}
use Rattle.board_model.specs.declared.board.Planned.{Planned}
use Rattle.board_model.specs.Requests.{tries_of}
use Rattle.board_model.specs.WellFormed.{has_bus, children_on, registers_of}
use Rattle.board_headers.specs.declared.windows.Windows.{Windows}
use Rattle.board_headers.specs.declared.fault.HeaderFault.{HeaderFault}
use Rattle.text_faults.specs.declared.board_line.LineFault.{LineFault}
use Rattle.board_parser.specs.declared.draft.draft.Draft.{Draft}
use Rattle.board_parser.specs.declared.draft.draft.AgentPlace.{AgentPlace}
use Rattle.board_parser.specs.declared.draft.draft.AgentPlace.TheVariants.{Nobody, OfTarget, OfMaster}
use Rattle.board_parser.specs.draft.Steps.{◌>>=◌}
use Rattle.board_parser.specs.draft.Drafts.{draft_of}
use Rattle.board_parser.specs.draft.Bridges.{are_windows_whole, are_windows_ordered, put_bridge, add_bridge, bridge_of, put_header}
use Rattle.board_parser.specs.draft.Targets.{unless, target_in, on_target, unit_of, end_of, is_in_units, fits, put_range, put_abort, add_range, add_abort, add_opening}
use Rattle.board_parser.specs.draft.Masters.{master_in, on_master, is_aligned, passes_block, add_op}
use Rattle.board_parser.specs.draft.Plans.{add_discard, add_drop}
use Rattle.board_parser.proofs.draft.StepLemmas.{if-ok, step-ok}

pub record BridgePut (wide : Bool) (board : Board) (bridge : Bridge) (added : Draft) : Type 0 where
  pub apart : list_any (has_bus bridge.bus) board.bridges ≡ false
  pub few : (nat_le most_bridges (length board.bridges) || nat_le most_children (children_on board bridge.parent)) ≡ false
  pub is : added ≡ draft_of wide (record board { bridges = board.bridges ++ bridge ∷ [] })

pub put_bridge-ok : (wide : Bool) (board : Board) (bridge : Bridge) (added : Draft) → put_bridge wide board bridge ≡ Ok added → BridgePut wide board bridge added
put_bridge-ok wide board bridge added h =
    let first = if-ok _ _ _ _ h in
    let second = if-ok _ _ _ _ first.1 in
    record { apart = first.0; few = second.0; is = cc }

pub record BridgeAdded (wide : Bool) (board : Board) (bridge : Bridge) (added : Draft) : Type 0 where
  pub whole : not (are_windows_whole bridge) ≡ false
  pub ordered : not (are_windows_ordered bridge) ≡ false
  pub put : BridgePut wide board bridge added

pub add_bridge-ok : (wide : Bool) (board : Board) (bridge : Bridge) (added : Draft) → add_bridge wide board bridge ≡ Ok added → BridgeAdded wide board bridge added
add_bridge-ok wide board bridge added h =
    let first = if-ok _ _ _ _ h in
    let second = if-ok _ _ _ _ first.1 in
    record { whole = first.0; ordered = second.0; put = put_bridge-ok wide board bridge added second.1 }

pub put_header-ok : (wide : Bool) (board : Board) (device posted delayed : ℕ) (reading : Result Windows HeaderFault) (added : Draft) → put_header wide board device posted delayed reading ≡ Ok added → (windows : Windows) × ((reading ≡ Ok windows) × BridgePut wide board (bridge_of windows device posted delayed) added)
put_header-ok wide board device posted delayed (Ok windows) added h =
    let wide_enough = if-ok _ _ _ _ h in
    (windows, (refl, put_bridge-ok wide board (bridge_of windows device posted delayed) added wide_enough.1))
put_header-ok wide board device posted delayed (Err fault) added h = absurd (cc)

pub unless-ok : (fault : Option LineFault) (draft added : Draft) → unless fault draft ≡ Ok added → (fault ≡ None) × (added ≡ draft)
unless-ok None draft added h = (refl, cc)
unless-ok (Some fault) draft added h = absurd (cc)

pub target_in-ok : (owner : AgentPlace) (target : Target) → target_in owner ≡ Ok target → owner ≡ OfTarget target
target_in-ok Nobody target h = absurd (cc)
target_in-ok (OfTarget found) target h = cc
target_in-ok (OfMaster found) target h = absurd (cc)

pub master_in-ok : (owner : AgentPlace) (master : Master) → master_in owner ≡ Ok master → owner ≡ OfMaster master
master_in-ok Nobody master h = absurd (cc)
master_in-ok (OfTarget found) master h = absurd (cc)
master_in-ok (OfMaster found) master h = cc

pub record TargetChanged (draft : Draft) (change : Target → Result Target LineFault) (added : Draft) : Type 0 where
  pub target : Target
  pub changed : Target
  pub was : draft.owner ≡ OfTarget target
  pub did : change target ≡ Ok changed
  pub is : added ≡ record draft { owner = OfTarget changed }

pub on_target-ok : (draft : Draft) (change : Target → Result Target LineFault) (added : Draft) → on_target draft change ≡ Ok added → TargetChanged draft change added
on_target-ok draft change added h =
    let found = step-ok (target_in draft.owner) (λ target. change target >>= (λ changed. Ok (record draft { owner = OfTarget changed }))) added h in
    let did = step-ok (change found.0) (λ changed. Ok (record draft { owner = OfTarget changed })) added found.1.1 in
    record { target = found.0; changed = did.0; was = target_in-ok draft.owner found.0 found.1.0; did = did.1.0; is = cc }

pub record MasterChanged (draft : Draft) (change : Master → Result Master LineFault) (added : Draft) : Type 0 where
  pub master : Master
  pub changed : Master
  pub was : draft.owner ≡ OfMaster master
  pub did : change master ≡ Ok changed
  pub is : added ≡ record draft { owner = OfMaster changed }

pub on_master-ok : (draft : Draft) (change : Master → Result Master LineFault) (added : Draft) → on_master draft change ≡ Ok added → MasterChanged draft change added
on_master-ok draft change added h =
    let found = step-ok (master_in draft.owner) (λ master. change master >>= (λ changed. Ok (record draft { owner = OfMaster changed }))) added h in
    let did = step-ok (change found.0) (λ changed. Ok (record draft { owner = OfMaster changed })) added found.1.1 in
    record { master = found.0; changed = did.0; was = master_in-ok draft.owner found.0 found.1.0; did = did.1.0; is = cc }

pub record RangeFits (wide : Bool) (range : Range) : Type 0 where
  pub units : not (is_in_units (unit_of range.space) range) ≡ false
  pub within : nat_lt (end_of wide range.space) (range.base + range.size) ≡ false

pub fits-ok : (wide : Bool) (range fitting : Range) → fits wide range ≡ Ok fitting → RangeFits wide range × (fitting ≡ range)
fits-ok wide range fitting h =
    let first = if-ok _ _ _ _ h in
    let second = if-ok _ _ _ _ first.1 in
    (record { units = first.0; within = second.0 }, cc)

pub record RangeAdded (wide : Bool) (range : Range) (target changed : Target) : Type 0 where
  pub fits : RangeFits wide range
  pub few : nat_lt 6 (total registers_of target.ranges + registers_of range) ≡ false
  pub is : changed ≡ record target { ranges = target.ranges ++ range ∷ [] }

pub add_range-ok : (wide : Bool) (range : Range) (target changed : Target) → add_range wide range target ≡ Ok changed → RangeAdded wide range target changed
add_range-ok wide range target changed h =
    let found = step-ok (fits wide range) (put_range target) changed h in
    let fitting = fits-ok wide range found.0 found.1.0 in
    let P : Range → Type 0 = λ r. put_range target r ≡ Ok changed in
    let room = if-ok _ _ _ _ (subst P fitting.1 found.1.1) in
    record { fits = fitting.0; few = room.0; is = cc }

pub record AbortAdded (wide : Bool) (range : Range) (target changed : Target) : Type 0 where
  pub fits : RangeFits wide range
  pub few : nat_le 6 (length target.aborts) ≡ false
  pub is : changed ≡ record target { aborts = target.aborts ++ range ∷ [] }

pub add_abort-ok : (wide : Bool) (range : Range) (target changed : Target) → add_abort wide range target ≡ Ok changed → AbortAdded wide range target changed
add_abort-ok wide range target changed h =
    let found = step-ok (fits wide range) (put_abort target) changed h in
    let fitting = fits-ok wide range found.0 found.1.0 in
    let P : Range → Type 0 = λ r. put_abort target r ≡ Ok changed in
    let room = if-ok _ _ _ _ (subst P fitting.1 found.1.1) in
    record { fits = fitting.0; few = room.0; is = cc }

pub record OpeningAdded (opening : Opening) (target changed : Target) : Type 0 where
  pub aligned : not (opening.address % 4 == 0) ≡ false
  pub few : nat_le most_openings (length target.openings) ≡ false
  pub is : changed ≡ record target { openings = target.openings ++ opening ∷ [] }

pub add_opening-ok : (opening : Opening) (target changed : Target) → add_opening opening target ≡ Ok changed → OpeningAdded opening target changed
add_opening-ok opening target changed h =
    let first = if-ok _ _ _ _ h in
    let second = if-ok _ _ _ _ first.1 in
    record { aligned = first.0; few = second.0; is = cc }

pub record OpAdded (before : ℕ) (op : Op) (too_many : Bool) (master changed : Master) : Type 0 where
  pub aligned : not (is_aligned op) ≡ false
  pub within : (too_many || passes_block op) ≡ false
  pub few : (nat_le most_ops (length master.ops) || nat_lt most_tries (before + tries_of op)) ≡ false
  pub is : changed ≡ record master { ops = master.ops ++ op ∷ [] }

pub add_op-ok : (before : ℕ) (op : Op) (too_many : Bool) (master changed : Master) → add_op before op too_many master ≡ Ok changed → OpAdded before op too_many master changed
add_op-ok before op too_many master changed h =
    let first = if-ok _ _ _ _ h in
    let second = if-ok _ _ _ _ first.1 in
    let third = if-ok _ _ _ _ second.1 in
    record { aligned = first.0; within = second.0; few = third.0; is = cc }

pub add_discard-ok : (wide : Bool) (board : Board) (planned : Planned) (added : Draft) → add_discard wide board planned ≡ Ok added
    → (nat_le most_plans (length board.discards) ≡ false) × (added ≡ draft_of wide (record board { discards = board.discards ++ planned ∷ [] }))
add_discard-ok wide board planned added h = let room = if-ok _ _ _ _ h in (room.0, cc)

pub add_drop-ok : (wide : Bool) (board : Board) (planned : Planned) (added : Draft) → add_drop wide board planned ≡ Ok added
    → (nat_le most_plans (length board.drops) ≡ false) × (added ≡ draft_of wide (record board { drops = board.drops ++ planned ∷ [] }))
add_drop-ok wide board planned added h = let room = if-ok _ _ _ _ h in (room.0, cc)
