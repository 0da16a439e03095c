-- One worker after another does its turn.
use Rattle.std.proofs.Common.{◌≡◌, ◌≢◌, ℕ, zero, suc, ◌+◌, ◌<◌, ◌≤◌, ◌==◌, ◌⊎◌, inl, inr, Bool, true, false, List, [], ◌∷◌, length, set, Some, refl, sym, ap, subst, ◌∙◌, arith, slice_get}
use Rattle.std.proofs.lemmas.Bool.{eqb-true, eqb-false}
use Rattle.std.proofs.lemmas.List.{length-set}
use Rattle.std.proofs.lemmas.Option.{slice_get_within}
use Rattle.board_model.specs.declared.board.Board.{Board}
use Rattle.lane_items.specs.declared.item.Item.{Item}
use Rattle.bus_segment.specs.Stands.{WorkerView}
use Rattle.bus_segment.specs.Steps.{ArrivedUpTo}
use Rattle.bus_segment.proofs.Laws.{there_at}
use Rattle.engine_phases.specs.Phase.{Turned, begun, count_all}
use Rattle.engine_phases.proofs.Laws.{same_there}
use Rattle.engine_runs.specs.Loop.{Worked, AllWorked}
use Rattle.engine_runs.proofs.OneLemmas.{set_here, set_other}

-- what a worker did in its turn; if the phase was not busy so far, it made no event
pub record DidTurn {End : Type 0} (had sent got : End → List Item) (kept : End → ℕ) (paired : End → End → Type 0) (board : Board) (phase : ℕ) (w v : WorkerView End) (busy : Bool) : Type 0 where
  pub count : ℕ
  pub turned : Turned had sent got kept paired board (begun phase w) v count
  pub idle : busy ≡ false → count ≡ 0
  pub counts : v.segment.stopped ≡ false → ArrivedUpTo (length v.events) v.segment.bus

-- the first so many workers did their turns, and the others not yet
pub record WorkedSoFar {End : Type 0} (had sent got : End → List Item) (kept : End → ℕ) (paired : End → End → Type 0) (board : Board) (phase many : ℕ) (old new : List (WorkerView End)) (busy : Bool) : Type 0 where
  pub same_many : length new ≡ length old
  pub each : (k : ℕ) (w : WorkerView End) → k < many → slice_get old k ≡ Some w → (v : WorkerView End) × (slice_get new k ≡ Some v) × DidTurn had sent got kept paired board phase w v busy
  pub rest : (k : ℕ) → many ≤ k → slice_get new k ≡ slice_get old k
  pub not_less : count_all old ≤ count_all new
  pub grows : busy ≡ true → count_all old < count_all new

-- the events of all, when one worker has others
count_set : {End : Type 0} (workers : List (WorkerView End)) (k : ℕ) (w v : WorkerView End) → slice_get workers k ≡ Some w → count_all (set workers k v) + length w.events ≡ count_all workers + length v.events
count_set [] k w v here = cc
count_set {End} (x ∷ workers) zero w v here =
    let same : x ≡ w = cc in
    let events = ap (λ (y : WorkerView End). length y.events) same in
    omega (arith, events)
count_set (x ∷ workers) (suc k) w v here = let rest = count_set workers k w v here in omega (arith, rest)

module _ {End : Type 0} (had sent got : End → List Item) (kept : End → ℕ) (paired : End → End → Type 0) (board : Board) (phase : ℕ) (old : List (WorkerView End)) where
  pub worked_none : WorkedSoFar had sent got kept paired board phase 0 old old false
  worked_none = record {
    same_many = refl;
    each = λ k w few here. absurd (omega (arith, few));
    rest = λ k later. refl;
    not_less = omega arith;
    grows = λ wrong. cc;
  }

  pub worked_more : (i : ℕ) (mid : List (WorkerView End)) (busy one now : Bool) (w v : WorkerView End) → WorkedSoFar had sent got kept paired board phase i old mid busy → slice_get mid i ≡ Some w
      → Worked had sent got kept paired board phase w v one → (now ≡ false → (busy ≡ false) × (one ≡ false)) → (now ≡ true → (busy ≡ true) ⊎ (one ≡ true))
      → WorkedSoFar had sent got kept paired board phase (i + 1) old (set mid i v) now
  worked_more i mid busy one now w v so_far here worked none some =
      let within = slice_get_within mid i w here in
      let count = count_set mid i w v here in
      let was : slice_get old i ≡ Some w = sym (so_far.rest i (omega arith)) ∙ here in
      let grown : length w.events ≤ length v.events = let many = worked.turned.many in omega (arith, many) in
      let less = so_far.not_less in
      record {
        same_many = length-set mid i v ∙ so_far.same_many;
        each = λ k u few there.
            let Goal : Type 0 = (x : WorkerView End) × (slice_get (set mid i v) k ≡ Some x) × DidTurn had sent got kept paired board phase u x now in
            let Q : Bool → Type 0 = λ t. (k == i) ≡ t → Goal in
            (elim (k == i) as Q [
              | true ↦ λ is.
                  let same : k ≡ i = eqb-true k i is in
                  let one_worker : w ≡ u = same_there old i w u was (ap (slice_get old) (sym same) ∙ there) in
                  let done : DidTurn had sent got kept paired board phase w v now = record {
                    count = worked.count;
                    turned = worked.turned;
                    idle = λ off. worked.idle (none off).1;
                    counts = worked.counts;
                  } in
                  (v, ap (slice_get (set mid i v)) same ∙ set_here mid i v within, subst (λ (y : WorkerView End). DidTurn had sent got kept paired board phase y v now) one_worker done)
              | false ↦ λ differ.
                  let apart : k ≢ i = eqb-false k i differ in
                  let found = so_far.each k u (omega (arith, few, apart)) there in
                  (found.0, set_other mid i k v apart ∙ found.1, record { count = found.2.count; turned = found.2.turned; idle = λ off. found.2.idle (none off).0; counts = found.2.counts })
            ]) refl;
        rest = λ k later. set_other mid i k v (λ same. omega (arith, same, later)) ∙ so_far.rest k (omega (arith, later));
        not_less = omega (arith, count, grown, less);
        grows = λ on.
            elim (some on) [
              | inl before ↦ let grows = so_far.grows before in omega (arith, count, grown, grows)
              | inr after ↦ let grows = worked.grows after in omega (arith, count, grows, less)
            ];
      }

  pub worked_all : (many : ℕ) (new : List (WorkerView End)) (busy : Bool) → length old ≤ many → WorkedSoFar had sent got kept paired board phase many old new busy → AllWorked had sent got kept paired board phase old new busy
  worked_all many new busy all so_far =
      record {
        turned = record {
          each = λ k w here.
              let within = slice_get_within old k w here in
              let found = so_far.each k w (omega (arith, within, all)) here in
              (found.0, found.2.count, found.1, found.2.turned, found.2.idle);
          many = so_far.same_many;
          grows = so_far.grows;
        };
        counts = λ k v there.
            let within = slice_get_within new k v there in
            let same = so_far.same_many in
            let was = there_at old k (omega (arith, within, same)) in
            let found = so_far.each k was.0 (omega (arith, within, same, all)) was.1 in
            let one : found.0 ≡ v = same_there new k found.0 v found.1 there in
            subst (λ (y : WorkerView End). y.segment.stopped ≡ false → ArrivedUpTo (length y.events) y.segment.bus) one found.2.counts;
      }
