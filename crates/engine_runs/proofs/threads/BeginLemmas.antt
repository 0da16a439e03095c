-- A phase begins, worker after worker.
use Rattle.std.proofs.Common.{◌≡◌, ◌≢◌, ℕ, ◌+◌, ◌<◌, ◌≤◌, ◌==◌, Bool, true, false, List, [], ◌∷◌, length, get_or, take, max, set, Some, refl, sym, ap, subst, ◌∙◌, arith, slice_get}
use Rattle.std.proofs.lemmas.Bool.{eqb-true, eqb-false}
use Rattle.std.proofs.lemmas.List.{take_more, map-append, length-set, get_or_default, get_or-set_same, get_or-set_other}
use Rattle.std.proofs.lemmas.Option.{slice_get_within}
use Rattle.list_facts.proofs.TotalLemmas.{total-push}
use Rattle.bus_core.specs.Bus.{BusView}
use Rattle.bus_segment.specs.Stands.{WorkerView}
use Rattle.bus_segment.specs.declared.turns.worker.Worker.{Worker}
use Rattle.history_model.specs.declared.event.Stamped.{Stamped}
use Rattle.engine_phases.specs.Phase.{begun, count_all}
use Rattle.engine_phases.proofs.Laws.{same_there}
use Rattle.engine_runs.specs.Loop.{seen, all_seen}
use Rattle.engine_runs.specs.threads.Rounds.{StampsUpTo, IsNextStamp, HasBegun, EachBegun}

-- above the stamps of the first so many, and no greater than it has to be
pub record NextSoFar {End : Type 0} (workers : List (WorkerView End)) (many next : ℕ) : Type 0 where
  pub above : (k : ℕ) (w : WorkerView End) → k < many → slice_get workers k ≡ Some w → w.segment.stamp < next
  pub least : (most : ℕ) → StampsUpTo most workers → next ≤ most + 1

pub next_none : {End : Type 0} (workers : List (WorkerView End)) → NextSoFar workers 0 0
next_none workers = record {
  above = λ k w few here. absurd (omega (arith, few));
  least = λ most upto. omega arith;
}

pub next_more : {End : Type 0} (workers : List (WorkerView End)) (i next now stamp : ℕ) (w : WorkerView End) → slice_get workers i ≡ Some w → stamp ≡ w.segment.stamp → now ≡ max next (stamp + 1) → NextSoFar workers i next → NextSoFar workers (i + 1) now
next_more {End} workers i next now stamp w here own_is is so_far = record {
  above = λ k u few there.
      let P : Bool → Type 0 = λ t. (k == i) ≡ t → u.segment.stamp < now in
      (elim (k == i) as P [
        | true ↦ λ same_is.
            let same : k ≡ i = eqb-true k i same_is in
            let one : w ≡ u = same_there workers i w u here (ap (slice_get workers) (sym same) ∙ there) in
            let stamps : w.segment.stamp ≡ u.segment.stamp = ap (λ (x : WorkerView End). x.segment.stamp) one in
            omega (arith, stamps, own_is, is)
        | false ↦ λ differ.
            let apart : k ≢ i = eqb-false k i differ in
            let before = so_far.above k u (omega (arith, few, apart)) there in
            omega (arith, before, is)
      ]) refl;
  least = λ most upto.
      let before = so_far.least most upto in
      let own = upto.up_to i w here in
      omega (arith, before, own, own_is, is);
}

pub next_all : {End : Type 0} (workers : List (WorkerView End)) (many next : ℕ) → length workers ≤ many → NextSoFar workers many next → IsNextStamp workers next
next_all workers many next all so_far = record {
  above = λ k w here. let within = slice_get_within workers k w here in so_far.above k w (omega (arith, within, all)) here;
  least = so_far.least;
}

-- the events of one worker more
pub count_more : {End : Type 0} (workers : List (Worker End)) (i : ℕ) (d : Worker End) → i < length workers
    → count_all (all_seen (take (i + 1) workers)) ≡ count_all (all_seen (take i workers)) + length (get_or workers i d).segment.events.items
count_more {End} workers i d within =
    let x : Worker End = get_or workers i d in
    ap (λ (l : List (Worker End)). count_all (all_seen l)) (take_more workers i d within)
    ∙ (ap (λ (l : List (WorkerView End)). count_all l) (map-append (λ (w : Worker End). seen w) (take i workers) (x ∷ []))
    ∙ total-push (λ (w : WorkerView End). length w.events) (all_seen (take i workers)) (seen x))

-- the first so many workers began, and the others not yet
pub record BegunSoFar {End : Type 0} (from many : ℕ) (old new : List (Worker End)) : Type 0 where
  pub same_many : length new ≡ length old
  pub each : (k : ℕ) (d : Worker End) → k < many → k < length old → HasBegun from (get_or old k d) (get_or new k d)
  pub rest : (k : ℕ) (d : Worker End) → many ≤ k → get_or new k d ≡ get_or old k d

pub begun_none : {End : Type 0} (from : ℕ) (old : List (Worker End)) → BegunSoFar from 0 old old
begun_none from old = record {
  same_many = refl;
  each = λ k d few within. absurd (omega (arith, few));
  rest = λ k d later. refl;
}

pub begun_more : {End : Type 0} (from i : ℕ) (old mid : List (Worker End)) (d v : Worker End) → i < length mid → HasBegun from (get_or mid i d) v → BegunSoFar from i old mid → BegunSoFar from (i + 1) old (set mid i v)
begun_more {End} from i old mid d v within one so_far = record {
  same_many = length-set mid i v ∙ so_far.same_many;
  each = λ k e few there.
      let P : Bool → Type 0 = λ t. (k == i) ≡ t → HasBegun from (get_or old k e) (get_or (set mid i v) k e) in
      (elim (k == i) as P [
        | true ↦ λ same_is.
            let same : i ≡ k = sym (eqb-true k i same_is) in
            let Q : Worker End → Worker End → Type 0 = λ w u. HasBegun from w u in
            let was : get_or mid i d ≡ get_or old i e = get_or_default mid i d e within ∙ so_far.rest i e (omega arith) in
            let is : v ≡ get_or (set mid i v) i e = sym (get_or-set_same mid i v e within) in
            subst (λ (n : ℕ). Q (get_or old n e) (get_or (set mid i v) n e)) same (subst (Q (get_or old i e)) is (subst (λ (w : Worker End). Q w v) was one))
        | false ↦ λ differ.
            let apart : k ≢ i = eqb-false k i differ in
            let before = so_far.each k e (omega (arith, few, apart)) there in
            subst (λ (u : Worker End). HasBegun from (get_or old k e) u) (sym (get_or-set_other mid i k v e apart)) before
      ]) refl;
  rest = λ k e later. get_or-set_other mid i k v e (λ same. omega (arith, same, later)) ∙ so_far.rest k e (omega (arith, later));
}

pub begun_all : {End : Type 0} (from many : ℕ) (old new : List (Worker End)) → length old ≤ many → BegunSoFar from many old new → EachBegun from old new
begun_all from many old new all so_far = record {
  many = so_far.same_many;
  each = λ k d within. so_far.each k d (omega (arith, within, all)) within;
}

-- what a worker is that began
pub begun_as : {End : Type 0} (from : ℕ) (old new : Worker End) → HasBegun from old new → seen new ≡ begun from (seen old)
begun_as {End} from old new began =
    let V : BusView → ℕ → Bool → List End → List Stamped → WorkerView End = λ b s t e h. record { segment = record { bus = b; stamp = s; stopped = t }; ends = e; events = h } in
    ap (λ b. V b new.segment.stamp new.segment.stopped new.segment.ends.items new.segment.events.items) began.bus
    ∙ (ap (λ s. V old.segment.bus s new.segment.stopped new.segment.ends.items new.segment.events.items) began.stamp
    ∙ (ap (λ t. V old.segment.bus (max old.segment.stamp from) t new.segment.ends.items new.segment.events.items) began.stopped
    ∙ (ap (λ e. V old.segment.bus (max old.segment.stamp from) old.segment.stopped e new.segment.events.items) began.ends
    ∙ ap (λ h. V old.segment.bus (max old.segment.stamp from) old.segment.stopped old.segment.ends.items h) began.events)))
