-- What all workers recorded, as one history.
use Rattle.std.proofs.Common.{◌≡◌, ◌≢◌, ℕ, zero, suc, ◌+◌, nat_le, ◌==◌, Bool, true, false, cond, List, [], ◌∷◌, ◌++◌, length, map, reverse, Some, refl, sym, ap, subst, ◌∙◌, arith, slice_get}
use Rattle.std.specs.List.{AllByRecursion}
use Rattle.std.proofs.lemmas.Bool.{eqb-true, eq-eqb}
use Rattle.std.proofs.lemmas.List.{length-append, length-reverse, reverse-append}
use Rattle.board_model.specs.declared.bridge.Lane.{Lane as BridgeLane}
use Rattle.board_model.specs.declared.board.Board.{Board}
use Rattle.board_model.specs.Valid.{is_bus}
use Rattle.history_model.specs.declared.event.Stamped.{Stamped}
use Rattle.history_model.specs.declared.item.Carried.{Carried}
use Rattle.history_model.specs.Local.{bus_of, LocalRun}
use Rattle.law_local.specs.Stamps.{events_of, NeverFall, IsMerged}
use Rattle.bus_segment.specs.Stands.{WorkerView}
use Rattle.engine_phases.specs.merging.Merged.{put_event, in_order, all_events, merged, AreOwnParts, part_of}
use Rattle.engine_phases.proofs.merging.OwnLemmas.{own_merged}
use Rattle.engine_phases.specs.Workers.{AreWorkers}
use Rattle.engine_phases.specs.Phase.{AreApart, count_all}

-- what a bus recorded is its part, in the order of its stamps
pub record Recorded (board : Board) (bus : ℕ) (part : List Stamped) (events : List Stamped) : Type 0 where
  pub same : part ≡ reverse events
  pub never_fall : NeverFall part
  pub own : AllByRecursion (λ (s : Stamped). bus_of board s.event ≡ bus) part

-- the events of a local run are on its bus
pub all_own : (board : Board) (bus : ℕ) (came : BridgeLane → List Carried) (p : List Stamped) → LocalRun board bus came (events_of p) → AllByRecursion (λ (s : Stamped). bus_of board s.event ≡ bus) p
all_own board bus came [] run = tt
all_own board bus came (s ∷ p) run = (run.0, all_own board bus came p run.2)

turned_cons : {X : Type 0} (x : X) (xs : List X) → reverse (x ∷ xs) ≡ reverse xs ++ x ∷ []
turned_cons x xs = reverse-append (x ∷ []) xs

each_front : {X : Type 0} (P : X → Type 0) (xs ys : List X) → AllByRecursion P (xs ++ ys) → AllByRecursion P xs × AllByRecursion P ys
each_front P [] ys each = (tt, each)
each_front P (x ∷ xs) ys each = let rest = each_front P xs ys each.1 in ((each.0, rest.0), rest.1)

each_turned : {X : Type 0} (P : X → Type 0) (xs : List X) → AllByRecursion P (reverse xs) → AllByRecursion P xs
each_turned P [] each = tt
each_turned P (x ∷ xs) each =
    let parts = each_front P (reverse xs) (x ∷ []) (subst (AllByRecursion P) (turned_cons x xs) each) in
    (parts.1.0, each_turned P xs parts.0)

-- the buses of workers, and their parts
abbrev pub buses_of_all : {End : Type 0} → List (WorkerView End) → List ℕ
buses_of_all {End} workers = map (λ (w : WorkerView End). w.segment.bus.bus) workers

abbrev pub parts_of_all : {End : Type 0} → List (WorkerView End) → List (List Stamped)
parts_of_all {End} workers = map (λ (w : WorkerView End). w.events) workers

-- no later worker is of the bus of the first
all_other : {End : Type 0} (bus : ℕ) (workers : List (WorkerView End)) → ((k : ℕ) (w : WorkerView End) → slice_get workers k ≡ Some w → w.segment.bus.bus ≢ bus)
    → AllByRecursion (λ (other : ℕ). other ≢ bus) (buses_of_all workers)
all_other bus [] none = tt
all_other bus (w ∷ workers) none = (none 0 w refl, all_other bus workers (λ k v here. none (suc k) v here))

are_own : {End : Type 0} (board : Board) (part : ℕ → List Stamped) (workers : List (WorkerView End))
    → ((k m : ℕ) (w v : WorkerView End) → slice_get workers k ≡ Some w → slice_get workers m ≡ Some v → w.segment.bus.bus ≡ v.segment.bus.bus → k ≡ m)
    → ((k : ℕ) (w : WorkerView End) → slice_get workers k ≡ Some w → Recorded board w.segment.bus.bus (part w.segment.bus.bus) w.events) → AreOwnParts board (buses_of_all workers) (parts_of_all workers)
are_own board part [] apart each = tt
are_own board part (w ∷ workers) apart each =
    let first = each 0 w refl in
    let own = subst (AllByRecursion (λ (s : Stamped). bus_of board s.event ≡ w.segment.bus.bus)) first.same first.own in
    let others = all_other w.segment.bus.bus workers (λ k v here same. let wrong : suc k ≡ 0 = apart (suc k) 0 v w here refl same in absurd (omega (arith, wrong))) in
    let rest = are_own board part workers (λ k m v u one other same. let e : suc k ≡ suc m = apart (suc k) (suc m) v u one other same in omega (arith, e)) (λ k v here. each (suc k) v here) in
    (each_turned (λ (s : Stamped). bus_of board s.event ≡ w.segment.bus.bus) w.events own, subst NeverFall first.same first.never_fall, others, rest)

-- the part of a worker's bus
part_at : {End : Type 0} (board : Board) (part : ℕ → List Stamped) (workers : List (WorkerView End)) (bus : ℕ) (k : ℕ) (w : WorkerView End)
    → ((j : ℕ) (v : WorkerView End) → slice_get workers j ≡ Some v → Recorded board v.segment.bus.bus (part v.segment.bus.bus) v.events)
    → slice_get workers k ≡ Some w → w.segment.bus.bus ≡ bus → part_of (buses_of_all workers) (parts_of_all workers) bus ≡ part bus
part_at board part [] bus k w each here same = cc
part_at {End} board part (v ∷ workers) bus zero w each here same =
    let one : v ≡ w = cc in
    let own : v.segment.bus.bus ≡ bus = ap (λ (x : WorkerView End). x.segment.bus.bus) one ∙ same in
    let is : (v.segment.bus.bus == bus) ≡ true = eq-eqb v.segment.bus.bus bus own in
    ap (λ (b : Bool). cond b (reverse v.events) (part_of (buses_of_all workers) (parts_of_all workers) bus)) is ∙ (sym (each 0 v refl).same ∙ ap part own)
part_at board part (v ∷ workers) bus (suc k) w each here same =
    let P : Bool → Type 0 = λ b. (v.segment.bus.bus == bus) ≡ b → cond b (reverse v.events) (part_of (buses_of_all workers) (parts_of_all workers) bus) ≡ part bus in
    (elim (v.segment.bus.bus == bus) as P [
      | true ↦ λ is. sym (each 0 v refl).same ∙ ap part (eqb-true v.segment.bus.bus bus is)
      | false ↦ λ _. part_at board part workers bus k w (λ i u there. each (suc i) u there) here same
    ]) refl

-- a bus without a worker has none
part_nowhere : {End : Type 0} (workers : List (WorkerView End)) (bus : ℕ) → ((k : ℕ) (w : WorkerView End) → slice_get workers k ≡ Some w → w.segment.bus.bus ≢ bus) → part_of (buses_of_all workers) (parts_of_all workers) bus ≡ []
part_nowhere [] bus none = refl
part_nowhere (w ∷ workers) bus none =
    let P : Bool → Type 0 = λ b. (w.segment.bus.bus == bus) ≡ b → cond b (reverse w.events) (part_of (buses_of_all workers) (parts_of_all workers) bus) ≡ [] in
    (elim (w.segment.bus.bus == bus) as P [
      | true ↦ λ is. absurd (none 0 w refl (eqb-true w.segment.bus.bus bus is))
      | false ↦ λ _. part_nowhere workers bus (λ k v here. none (suc k) v here)
    ]) refl

-- how long the merge is
put_counted : (e : Stamped) (es : List Stamped) → length (put_event e es) ≡ suc (length es)
put_counted e [] = refl
put_counted e (f ∷ es) =
    let P : Bool → Type 0 = λ b. length (cond b (e ∷ f ∷ es) (f ∷ put_event e es)) ≡ suc (suc (length es)) in
    elim (nat_le e.stamp f.stamp) as P [ true ↦ refl | false ↦ ap suc (put_counted e es) ]

order_counted : (es : List Stamped) → length (in_order es) ≡ length es
order_counted [] = refl
order_counted (e ∷ es) = put_counted e (in_order es) ∙ ap suc (order_counted es)

parts_counted : {End : Type 0} (workers : List (WorkerView End)) → length (all_events (parts_of_all workers)) ≡ count_all workers
parts_counted [] = refl
parts_counted (w ∷ workers) = length-append w.events (all_events (parts_of_all workers)) ∙ ap (λ n. length w.events + n) (parts_counted workers)

events_counted : (es : List Stamped) → length (events_of es) ≡ length es
events_counted [] = refl
events_counted (e ∷ es) = ap suc (events_counted es)

-- all that was recorded, newest first
abbrev pub all_of : {End : Type 0} → List (WorkerView End) → List Stamped
all_of workers = reverse (merged (parts_of_all workers))

pub all_counted : {End : Type 0} (workers : List (WorkerView End)) → length (events_of (all_of workers)) ≡ count_all workers
all_counted workers =
    events_counted (all_of workers) ∙ (length-reverse (merged (parts_of_all workers)) ∙ (order_counted (all_events (parts_of_all workers)) ∙ parts_counted workers))

pub all_merged : {End : Type 0} (board : Board) (workers : List (WorkerView End)) (part : ℕ → List Stamped) → AreWorkers board workers → AreApart board workers
    → ((bus : ℕ) → is_bus board bus ≡ false → part bus ≡ []) → ((k : ℕ) (w : WorkerView End) → slice_get workers k ≡ Some w → Recorded board w.segment.bus.bus (part w.segment.bus.bus) w.events)
    → IsMerged board part (all_of workers)
all_merged {End} board workers part are apart no_other each =
    let whole = own_merged board (buses_of_all workers) (parts_of_all workers) (are_own board part workers apart.apart each) in
    let is_part : (bus : ℕ) → part_of (buses_of_all workers) (parts_of_all workers) bus ≡ part bus = λ bus.
    let P : Bool → Type 0 = λ b. is_bus board bus ≡ b → part_of (buses_of_all workers) (parts_of_all workers) bus ≡ part bus in
    (elim (is_bus board bus) as P [
      | true ↦ λ there. let found = are.each_bus bus there in part_at board part workers bus found.0 found.1 each found.2 found.3
      | false ↦ λ lacks.
          part_nowhere workers bus (λ k w here same. let wrong : true ≡ false = sym (apart.there k w here) ∙ (ap (is_bus board) same ∙ lacks) in cc)
          ∙ sym (no_other bus lacks)
    ]) refl in
    record { never_fall = whole.never_fall; has_part = λ bus. whole.has_part bus ∙ is_part bus }
