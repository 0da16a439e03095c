-- What all segments did up to a time between two phases is a run, no longer than runs of the board are.
use Rattle.std.proofs.Common.{◌≡◌, ℕ, suc, ◌+◌, ◌≤◌, nat_lt, false, List, [], ◌∷◌, ◌++◌, length, map, Some, refl, sym, ap, ◌∙◌, arith, slice_get}
use Rattle.std.proofs.lemmas.Bool.Decides.{nat_tests}
use Rattle.list_facts.specs.Lists.{total}
use Rattle.board_model.specs.declared.bridge.Lane.{Lane as BridgeLane}
use Rattle.board_model.specs.declared.board.Board.{Board}
use Rattle.board_model.specs.Valid.{IsValid}
use Rattle.board_model.specs.Ways.{bound_of}
use Rattle.history_model.specs.declared.event.Event.{Event}
use Rattle.history_model.specs.declared.event.Stamped.{Stamped}
use Rattle.history_model.specs.Runs.{Run}
use Rattle.law_local.specs.Stamps.{events_of, IsMerged}
use Rattle.lane_items.specs.declared.item.Item.{Item}
use Rattle.bus_face.specs.Arrivals.{carried}
use Rattle.bus_core.specs.Calls.{stamp_of}
use Rattle.bus_segment.specs.Stands.{WorkerView}
use Rattle.law_local.specs.phases.Engine.{Engine, ending_on}
use Rattle.law_local.proofs.phases.Laws.{engine_run}
use Rattle.engine_phases.specs.Workers.{back_at_ports, AreBetween}
use Rattle.engine_phases.specs.Phase.{AreApart, count_all}
use Rattle.engine_phases.proofs.PortLemmas.{own_past}
use Rattle.engine_phases.proofs.MergeLemmas.{all_own, all_of, all_counted, all_merged, parts_of_all}
use Rattle.engine_phases.proofs.WorkerLemmas.{engine_of}

-- runs of valid boards are no longer than the board's bound
pub record RunsEnd : Type 0 where
  pub bounded : (board : Board) (h : List Event) → IsValid board → Run board h → length h ≤ bound_of board

module _ {End : Type 0} (had sent got : End → List Item) (kept : End → ℕ) (paired : End → End → Type 0) (board : Board) (valid : IsValid board) (workers : List (WorkerView End)) (received hand : BridgeLane → List Item)
    (part : ℕ → List Stamped) (between : AreBetween had sent got kept paired board workers received hand part) (apart : AreApart board workers) where
  pub merged_between : IsMerged board part (all_of workers)
  merged_between =
      all_merged board workers part between.are_workers apart between.no_other (λ k w here.
      let bus : ℕ = w.segment.bus.bus in
      let past = own_past board w (λ n lane at. between.are_workers.ends_there k w n lane here at) received (part bus) (back_at_ports w (λ lane. received lane ++ hand lane)) between.received_there (between.stands k w here) in
      record {
        same = between.recorded k w here;
        never_fall = past.never_fall;
        own = all_own board bus (λ lane. map carried (ending_on board bus received lane)) (part bus) past.run;
      })

  pub engine_between : Engine carried stamp_of board received hand part
  engine_between = engine_of had sent got kept paired board workers received hand part between

  pub run_between : Run board (events_of (all_of workers))
  run_between = (engine_run carried stamp_of board received hand part engine_between valid (all_of workers) merged_between).joint.run

  pub bound_between : RunsEnd → length (events_of (all_of workers)) ≤ bound_of board
  bound_between ends = ends.bounded board (events_of (all_of workers)) valid run_between

  -- so they recorded at most 500,000 events
  pub count_between : RunsEnd → count_all workers ≤ 500000
  count_between ends =
      let counted = all_counted workers in
      let bound = bound_between ends in
      let few : bound_of board ≤ 500000 = let test : nat_lt 500000 (bound_of board) ≡ false = valid.bound in grind (arith, nat_tests) in
      omega (arith, counted, bound, few)

-- of workers that recorded the same
pub parts_same : {End : Type 0} (old new : List (WorkerView End)) → length new ≡ length old → ((k : ℕ) (w : WorkerView End) → slice_get old k ≡ Some w → (v : WorkerView End) × (slice_get new k ≡ Some v) × (v.events ≡ w.events))
    → parts_of_all new ≡ parts_of_all old
parts_same [] [] many each = refl
parts_same [] (v ∷ new) many each = absurd (omega (arith, many))
parts_same (w ∷ old) [] many each = absurd (omega (arith, many))
parts_same {End} (w ∷ old) (v ∷ new) many each =
    let first = each 0 w refl in
    let there : Some v ≡ Some first.0 = first.1 in
    let one : v ≡ first.0 = cc in
    let same : v.events ≡ w.events = ap (λ (x : WorkerView End). x.events) one ∙ first.2 in
    let F : List Stamped → List (List Stamped) → List (List Stamped) = λ x l. x ∷ l in
    ap (λ (x : List Stamped). F x (parts_of_all new)) same ∙ ap (F w.events) (parts_same old new (omega (arith, many)) (λ k x here. each (suc k) x here))

pub count_same : {End : Type 0} (old new : List (WorkerView End)) → parts_of_all new ≡ parts_of_all old → count_all new ≡ count_all old
count_same {End} old new same =
    let counts : (workers : List (WorkerView End)) → count_all workers ≡ total (λ (l : List Stamped). length l) (parts_of_all workers) = counted in
    counts new ∙ (ap (total (λ (l : List Stamped). length l)) same ∙ sym (counts old))
  where
    counted : (workers : List (WorkerView End)) → count_all workers ≡ total (λ (l : List Stamped). length l) (parts_of_all workers)
    counted [] = refl
    counted (w ∷ workers) = ap (λ n. length w.events + n) (counted workers)
