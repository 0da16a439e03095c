-- One bridge is settled, or one worker does its turn, in a list of workers.
use Rattle.std.proofs.Common.{◌≡◌, ◌≢◌, ℕ, zero, suc, ◌+◌, ◌<◌, Bool, List, [], ◌∷◌, ◌++◌, length, get_or, take, drop, set, Some, refl, sym, ap, subst, ◌∙◌, arith, slice_get}
use Rattle.std.proofs.lemmas.List.{get_or-take, get_or-drop, length-set, length-map, map-set}
use Rattle.std.proofs.lemmas.Option.{slice_get_within, slice_get-get_or, get_or_from_slice_get}
use Rattle.lane_items.specs.declared.item.Item.{Item}
use Rattle.bus_core.specs.Bus.{BusView}
use Rattle.bus_core.proofs.Laws.{get_map, map_get}
use Rattle.bus_segment.specs.Segment.{SegmentView}
use Rattle.bus_segment.specs.Settle.{MaySettle, SettlesAt}
use Rattle.bus_segment.specs.Stands.{WorkerView}
use Rattle.bus_segment.specs.declared.turns.worker.Worker.{Worker}
use Rattle.engine_phases.specs.Phase.{OnlyEnds}
use Rattle.engine_runs.specs.declared.settling.Above.{Above}
use Rattle.engine_runs.specs.Loop.{seen, all_seen}
use Rattle.engine_runs.specs.Settling.{CanMeet, SettlesOne}

-- an element is replaced
pub set_here : {X : Type 0} (xs : List X) (i : ℕ) (x : X) → i < length xs → slice_get (set xs i x) i ≡ Some x
set_here [] i x within = absurd (omega (arith, within))
set_here (y ∷ xs) zero x within = refl
set_here (y ∷ xs) (suc i) x within = set_here xs i x (omega (arith, within))

pub set_other : {X : Type 0} (xs : List X) (i j : ℕ) (x : X) → j ≢ i → slice_get (set xs i x) j ≡ slice_get xs j
set_other [] i j x apart = refl
set_other (y ∷ xs) zero zero x apart = absurd (apart refl)
set_other (y ∷ xs) zero (suc j) x apart = refl
set_other (y ∷ xs) (suc i) zero x apart = refl
set_other (y ∷ xs) (suc i) (suc j) x apart = set_other xs i j x (λ same. apart (ap suc same))

-- in two halves
set_later : {X : Type 0} (xs : List X) (p : ℕ) (x : X) → p < length xs → take p xs ++ set (drop p xs) 0 x ≡ set xs p x
set_later [] p x within = absurd (omega (arith, within))
set_later (y ∷ xs) zero x within = refl
set_later {X} (y ∷ xs) (suc p) x within = let F : List X → List X = λ l. y ∷ l in ap F (set_later xs p x (omega (arith, within)))

pub set_halves : {X : Type 0} (xs : List X) (k p : ℕ) (x y : X) → k < p → p < length xs → set (take p xs) k x ++ set (drop p xs) 0 y ≡ set (set xs k x) p y
set_halves [] k p x y before within = absurd (omega (arith, within))
set_halves (z ∷ xs) k zero x y before within = absurd (omega (arith, before))
set_halves {X} (z ∷ xs) zero (suc p) x y before within = let F : List X → List X = λ l. x ∷ l in ap F (set_later xs p y (omega (arith, within)))
set_halves {X} (z ∷ xs) (suc k) (suc p) x y before within = let F : List X → List X = λ l. z ∷ l in ap F (set_halves xs k p x y (omega (arith, before)) (omega (arith, within)))

-- the worker at a place, as it is seen
pub seen_at : {End : Type 0} (workers : List (Worker End)) (k : ℕ) (w : WorkerView End) (d : Worker End) → slice_get (all_seen workers) k ≡ Some w → seen (get_or workers k d) ≡ w
seen_at {End} workers k w d here =
    let found = map_get (λ (x : Worker End). seen x) workers k w here in
    ap (λ (x : Worker End). seen x) (get_or_from_slice_get workers k found.0 d found.1.0) ∙ found.1.1

pub seen_earlier : {End : Type 0} (workers front : List (Worker End)) (place k : ℕ) (w : WorkerView End) (d : Worker End) → front ≡ take place workers → k < place → slice_get (all_seen workers) k ≡ Some w → seen (get_or front k d) ≡ w
seen_earlier {End} workers front place k w d is before here =
    ap (λ (l : List (Worker End)). seen (get_or l k d)) is ∙ (ap (λ (x : Worker End). seen x) (get_or-take place workers k d before) ∙ seen_at workers k w d here)

pub seen_later : {End : Type 0} (workers back : List (Worker End)) (place : ℕ) (w : WorkerView End) (d : Worker End) → back ≡ drop place workers → slice_get (all_seen workers) place ≡ Some w → seen (get_or back 0 d) ≡ w
seen_later {End} workers back place w d is here =
    let same : place + 0 ≡ place = omega arith in
    ap (λ (l : List (Worker End)). seen (get_or l 0 d)) is
    ∙ (ap (λ (x : Worker End). seen x) (get_or-drop place workers 0 d ∙ ap (λ n. get_or workers n d) same) ∙ seen_at workers place w d here)

-- nothing changed but the ends
pub record SameRest {End : Type 0} (old new : Worker End) : Type 0 where
  pub bus : new.segment.bus ≡ old.segment.bus
  pub stamp : new.segment.stamp ≡ old.segment.stamp
  pub stopped : new.segment.stopped ≡ old.segment.stopped
  pub events : new.segment.events.items ≡ old.segment.events.items

only_ends : {End : Type 0} (old new : Worker End) (w : WorkerView End) → seen old ≡ w → SameRest old new → length new.segment.ends.items ≡ length old.segment.ends.items → OnlyEnds w (seen new)
only_ends {End} old new w is same many =
    let S : BusView → ℕ → Bool → SegmentView = λ b s t. record { bus = b; stamp = s; stopped = t } in
    let segment : S new.segment.bus new.segment.stamp new.segment.stopped ≡ S old.segment.bus old.segment.stamp old.segment.stopped =
    ap (λ b. S b new.segment.stamp new.segment.stopped) same.bus ∙ (ap (λ s. S old.segment.bus s new.segment.stopped) same.stamp ∙ ap (S old.segment.bus old.segment.stamp) same.stopped) in
    subst (λ (x : WorkerView End). OnlyEnds x (seen new)) is (record { segment = segment; events = same.events; many = many })

module _ {End : Type 0} (had sent got : End → List Item) (kept : End → ℕ) (paired : End → End → Type 0) (workers : List (Worker End)) (above : Above) (place : ℕ) (can : CanMeet had sent got kept paired (all_seen workers) above place)
    (front back : List (Worker End)) (front_is : front ≡ take place workers) (back_is : back ≡ drop place workers) (one other : Worker End) where
  abbrev Upper : Worker End
  Upper = get_or front above.worker one

  abbrev Lower : Worker End
  Lower = get_or back 0 other

  upper_seen : seen Upper ≡ can.upper
  upper_seen = seen_earlier workers front place above.worker can.upper one front_is can.earlier can.upper_is

  lower_seen : seen Lower ≡ can.lower
  lower_seen = seen_later workers back place can.lower other back_is can.lower_is

  pub lower_port : 0 < length Lower.segment.ends.items
  lower_port = subst (λ (w : WorkerView End). 0 < length w.ends) (sym lower_seen) can.lower_port

  pub upper_port : above.port < length Upper.segment.ends.items
  upper_port = subst (λ (w : WorkerView End). above.port < length w.ends) (sym upper_seen) can.upper_port

  pub may_meet : MaySettle had sent got kept paired Upper.segment.ends.items above.port Lower.segment.ends.items 0
  may_meet =
      let P : WorkerView End → WorkerView End → Type 0 = λ w v. MaySettle had sent got kept paired w.ends above.port v.ends 0 in
      subst (λ (w : WorkerView End). P w (seen Lower)) (sym upper_seen) (subst (P can.upper) (sym lower_seen) can.may)

  pub one_settled : (upper lower : Worker End) → SettlesAt had sent got kept paired Upper.segment.ends.items above.port Lower.segment.ends.items 0 upper.segment.ends.items lower.segment.ends.items
      → SameRest Upper upper → SameRest Lower lower → SettlesOne had sent got kept paired (all_seen workers) above place (all_seen (set front above.worker upper ++ set back 0 lower))
  one_settled upper lower settles upper_rest lower_rest =
      let V : List (WorkerView End) = all_seen workers in
      let earlier = can.earlier in
      let later_within : place < length V = slice_get_within V place can.lower can.lower_is in
      let many : length V ≡ length workers = length-map workers (λ (w : Worker End). seen w) in
      let first_within : above.worker < length V = omega (arith, earlier, later_within) in
      let whole : set front above.worker upper ++ set back 0 lower ≡ set (set workers above.worker upper) place lower =
      ap (λ (l : List (Worker End)). set l above.worker upper ++ set back 0 lower) front_is
      ∙ (ap (λ (l : List (Worker End)). set (take place workers) above.worker upper ++ set l 0 lower) back_is
      ∙ set_halves workers above.worker place upper lower earlier (omega (arith, later_within, many))) in
      let all : all_seen (set front above.worker upper ++ set back 0 lower) ≡ set (set V above.worker (seen upper)) place (seen lower) =
      ap (λ (l : List (Worker End)). all_seen l) whole
      ∙ (map-set (λ (w : Worker End). seen w) (set workers above.worker upper) place lower
      ∙ ap (λ (l : List (WorkerView End)). set l place (seen lower)) (map-set (λ (w : Worker End). seen w) workers above.worker upper)) in
      let Mid : List (WorkerView End) = set V above.worker (seen upper) in
      let mid_many : length Mid ≡ length V = length-set V above.worker (seen upper) in
      let S : WorkerView End → WorkerView End → Type 0 = λ w v. SettlesAt had sent got kept paired w.ends above.port v.ends 0 upper.segment.ends.items lower.segment.ends.items in
      subst (λ (l : List (WorkerView End)). SettlesOne had sent got kept paired V above place l) (sym all) (record {
        many = length-set Mid place (seen lower) ∙ mid_many;
        others = λ k no_upper no_lower. set_other Mid place k (seen lower) no_lower ∙ set_other V above.worker k (seen upper) no_upper;
        upper = can.upper;
        upper_after = seen upper;
        lower = can.lower;
        lower_after = seen lower;
        upper_was = can.upper_is;
        upper_is = set_other Mid place above.worker (seen lower) (λ same. omega (arith, same, earlier)) ∙ set_here V above.worker (seen upper) first_within;
        lower_was = can.lower_is;
        lower_is = set_here Mid place (seen lower) (omega (arith, mid_many, later_within));
        upper_only = only_ends Upper upper can.upper upper_seen upper_rest settles.here_many;
        lower_only = only_ends Lower lower can.lower lower_seen lower_rest settles.there_many;
        settles = subst (λ (w : WorkerView End). S w can.lower) upper_seen (subst (S (seen Upper)) lower_seen settles);
      })

-- what stands at a place, as it is seen
pub seen_there : {End : Type 0} (workers : List (Worker End)) (k : ℕ) (d : Worker End) → k < length workers → slice_get (all_seen workers) k ≡ Some (seen (get_or workers k d))
seen_there {End} workers k d within = get_map (λ (w : Worker End). seen w) workers k (get_or workers k d) (slice_get-get_or workers k d within)

-- a list without length is none
pub nothing_left : {X : Type 0} (xs : List X) → length xs ≡ 0 → xs ≡ []
nothing_left [] none = refl
nothing_left (x ∷ xs) none = absurd (omega (arith, none))
