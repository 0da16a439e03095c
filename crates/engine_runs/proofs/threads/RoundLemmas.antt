-- One phase: from the workers before it to the workers when all ends are settled.
use Rattle.std.proofs.Common.{◌≡◌, ℕ, zero, suc, ◌+◌, ◌-◌, ◌^◌, ◌<◌, ◌≤◌, min, nat_lt, true, false, List, [], ◌∷◌, length, get_or, Some, refl, sym, ap, subst, ◌∙◌, arith, slice_get}
use Rattle.std.proofs.lemmas.Bool.{ltb-true, lt-ltb}
use Rattle.std.proofs.lemmas.Bool.Decides.{nat_tests}
use Rattle.std.proofs.lemmas.List.{length-map}
use Rattle.std.proofs.lemmas.Option.{slice_get_within}
use Rattle.board_model.specs.declared.board.Board.{Board}
use Rattle.board_model.specs.Valid.{IsValid}
use Rattle.lane_items.specs.declared.item.Item.{Item}
use Rattle.bus_core.proofs.Laws.{map_get}
use Rattle.bus_segment.specs.Stands.{WorkerView}
use Rattle.bus_segment.specs.Steps.{ArrivedUpTo}
use Rattle.bus_segment.specs.declared.turns.worker.Worker.{Worker}
use Rattle.engine_phases.specs.Phase.{NoneStopped, AllSettled, begun, count_all}
use Rattle.engine_phases.proofs.Laws.{same_there}
use Rattle.engine_phases.specs.ring.Rounds.{AfterRounds, AllRan}
use Rattle.engine_runs.specs.declared.settling.Above.{Above}
use Rattle.engine_runs.specs.Loop.{seen, all_seen, IsReady}
use Rattle.engine_runs.specs.Settling.{AreAbove, AreLaidOut}
use Rattle.engine_runs.specs.Steady.{SameLay}
use Rattle.engine_runs.proofs.Laws.{then, are_still, apart_still, hang_still, above_still, ready_still, lay_settled, ready_settled, seen_at, seen_there}
use Rattle.engine_runs.specs.threads.Turns.{HasRoom, Ran, EachRan}
use Rattle.engine_runs.specs.threads.Rounds.{IsInRounds, StampsUpTo, IsNextStamp, EachBegun}
use Rattle.engine_runs.proofs.threads.BeginLemmas.{begun_as}

-- Counts.

-- each of all recorded at least as much
record Grows {End : Type 0} (old new : List (WorkerView End)) : Type 0 where
  many : length new ≡ length old
  each : (k : ℕ) (w v : WorkerView End) → slice_get old k ≡ Some w → slice_get new k ≡ Some v → length w.events ≤ length v.events

grows_behind : {End : Type 0} (w v : WorkerView End) (old new : List (WorkerView End)) → Grows (w ∷ old) (v ∷ new) → Grows old new
grows_behind w v old new grows = record {
  many = let many = grows.many in omega (arith, many);
  each = λ k x y here there. grows.each (suc k) x y here there;
}

count_upto : {End : Type 0} (old new : List (WorkerView End)) → Grows old new → count_all old ≤ count_all new
count_upto [] new grows = omega arith
count_upto (w ∷ old) [] grows = let many = grows.many in absurd (omega (arith, many))
count_upto (w ∷ old) (v ∷ new) grows = let one = grows.each 0 w v refl refl in let rest = count_upto old new (grows_behind w v old new grows) in omega (arith, one, rest)

-- where all together recorded no more, none did
none_grew : {End : Type 0} (old new : List (WorkerView End)) → Grows old new → count_all new ≤ count_all old → (k : ℕ) (w v : WorkerView End) → slice_get old k ≡ Some w → slice_get new k ≡ Some v → length v.events ≤ length w.events
none_grew [] new grows upto k w v here there = cc
none_grew (x ∷ old) [] grows upto k w v here there = cc
none_grew {End} (x ∷ old) (y ∷ new) grows upto zero w v here there =
    let first : x ≡ w = cc in
    let second : y ≡ v = cc in
    let one = ap (λ (z : WorkerView End). length z.events) first in
    let other = ap (λ (z : WorkerView End). length z.events) second in
    let rest = count_upto old new (grows_behind x y old new grows) in
    omega (arith, one, other, rest, upto)
none_grew (x ∷ old) (y ∷ new) grows upto (suc k) w v here there =
    let one = grows.each 0 x y refl refl in
    none_grew old new (grows_behind x y old new grows) (omega (arith, one, upto)) k w v here there

-- as the sums tell that are counted up to the greatest number
more_counted : (before after old new : ℕ) → before ≡ min old (2 ^ 64 - 1) → after ≡ min new (2 ^ 64 - 1) → nat_lt 0 (after - before) ≡ true → old < new
more_counted before after old new one other on = let more = ltb-true 0 (after - before) on in omega (arith, one, other, more)

no_more_counted : (before after old new : ℕ) → before ≡ min old (2 ^ 64 - 1) → after ≡ min new (2 ^ 64 - 1) → old ≤ 500000 → nat_lt 0 (after - before) ≡ false → new ≤ old
no_more_counted before after old new one other few off = let upto : after - before ≤ 0 = grind (arith, nat_tests) in omega (arith, one, other, few, upto)

-- how many were made between the two counts
pub some_made : (before after made : ℕ) → made ≡ after - before → 0 < made → nat_lt 0 (after - before) ≡ true
some_made before after made is some = lt-ltb 0 (after - before) (omega (arith, is, some))

pub none_made : (before after made : ℕ) → made ≡ after - before → made ≡ 0 → nat_lt 0 (after - before) ≡ false
none_made before after made is none = let zero_is : after - before ≡ 0 = sym is ∙ none in ap (nat_lt 0) zero_is

-- Stamps.

-- they are small
pub stamps_fit : {End : Type 0} (had sent got : End → List Item) (kept : End → ℕ) (paired : End → End → Type 0) (board : Board) (workers : List (WorkerView End)) (phases : ℕ)
    → AfterRounds had sent got kept paired board workers phases → phases ≤ 500000 → count_all workers ≤ 500000 → StampsUpTo (2 ^ 31) workers
stamps_fit had sent got kept paired board workers phases after few events = record { up_to = λ k w here. let upto = after.stamps k w here in omega (arith, upto, few, events) }

module _ {End : Type 0} (had sent got : End → List Item) (kept : End → ℕ) (paired : End → End → Type 0) (board : Board) (workers mid new : List (Worker End)) (above : List Above) (phases from : ℕ)
    (rounds : IsInRounds had sent got kept paired board (all_seen workers) above phases) (began : EachBegun from workers mid) where
  abbrev Old : List (WorkerView End)
  Old = all_seen workers

  old_many : length Old ≡ length workers
  old_many = length-map workers (λ (w : Worker End). seen w)

  -- each worker may do turns of the phase
  pub all_room : IsValid board → (k : ℕ) (d : Worker End) → k < length mid → HasRoom board (get_or mid k d)
  all_room valid k d within =
      let many = began.many in
      let there : k < length workers = omega (arith, within, many) in
      let was = began.each k d there in
      let ready = rounds.ready.each k (seen (get_or workers k d)) (seen_there workers k d there) in
      let as_begun : IsReady (begun from (seen (get_or workers k d))) = record {
        going = ready.going;
        one_a_port = ready.one_a_port;
        few_ports = ready.few_ports;
        few_masters = ready.few_masters;
        counts = ready.counts;
      } in
      record {
        valid = valid;
        ready = subst IsReady (sym (begun_as from (get_or workers k d) (get_or mid k d) was)) as_begun;
        room = was.room;
      }

  module _ (ran : EachRan had sent got kept paired board mid new) where
    abbrev New : List (WorkerView End)
    New = all_seen new

    new_many : length New ≡ length Old
    new_many = length-map new (λ (w : Worker End). seen w) ∙ (ran.many ∙ (began.many ∙ sym old_many))

    -- what each did from its beginning
    did : (k : ℕ) (w : WorkerView End) → slice_get Old k ≡ Some w → (v : WorkerView End) × (slice_get New k ≡ Some v) × Ran had sent got kept paired board (begun from w) v
    did k w here =
        let found = map_get (λ (x : Worker End). seen x) workers k w here in
        let d : Worker End = found.0 in
        let within : k < length workers = slice_get_within workers k d found.1.0 in
        let began_many = began.many in
        let ran_many = ran.many in
        let began_within : k < length mid = omega (arith, within, began_many) in
        let one = began.each k d within in
        let is : seen (get_or mid k d) ≡ begun from w = begun_as from (get_or workers k d) (get_or mid k d) one ∙ ap (λ (x : WorkerView End). begun from x) (seen_at workers k w d here) in (
          seen (get_or new k d),
          seen_there new k d (omega (arith, began_within, ran_many)),
          subst (λ (x : WorkerView End). Ran had sent got kept paired board x (seen (get_or new k d))) is (ran.each k d began_within),
        )

    grown : Grows Old New
    grown = record {
      many = new_many;
      each = λ k w v here there.
          let found = did k w here in
          let one : found.0 ≡ v = same_there New k found.0 v found.1 there in
          let length_is = ap (λ (x : WorkerView End). length x.events) one in
          let many = found.2.turned.many in
          omega (arith, many, length_is);
    }

    -- so what the laws suppose of a phase
    pub ran_all : (before after : ℕ) → IsNextStamp Old from → before ≡ min (count_all Old) (2 ^ 64 - 1) → after ≡ min (count_all New) (2 ^ 64 - 1) → count_all Old ≤ 500000
        → AllRan had sent got kept paired board phases Old New (nat_lt 0 (after - before))
    ran_all before after next one other few = record {
      from = from;
      low = next.least (phases + count_all Old) (record { up_to = rounds.after.stamps });
      turned = record {
        each = λ k w here.
            let found = did k w here in (
              found.0,
              found.2.count,
              found.1,
              found.2.turned,
              λ idle.
                  let upto = none_grew Old New grown (no_more_counted before after (count_all Old) (count_all New) one other few idle) k w found.0 here found.1 in
                  let many = found.2.turned.many in
                  omega (arith, upto, many),
            );
        many = new_many;
        grows = more_counted before after (count_all Old) (count_all New) one other;
      };
    }

    -- The lanes end where they did.

    lay_ran : SameLay Old New
    lay_ran = record {
      many = new_many;
      each = λ k w here. let found = did k w here in (found.0, found.1, found.2.turned.shape, found.2.turned.does.many);
    }

    pub laid_ran : AreLaidOut New
    laid_ran = record {
      board = board;
      are = are_still Old New lay_ran board rounds.after.between.are_workers;
      apart = apart_still Old New lay_ran board rounds.after.apart;
      hang = hang_still Old New lay_ran rounds.hang;
    }

    pub above_ran : AreAbove New above
    above_ran = above_still Old New lay_ran above rounds.linked

    counts_ran : (k : ℕ) (v : WorkerView End) → slice_get New k ≡ Some v → v.segment.stopped ≡ false → ArrivedUpTo (length v.events) v.segment.bus
    counts_ran k v there =
        let was = then Old New lay_ran k v there in
        let found = did k was.0 was.1 in
        let one : found.0 ≡ v = same_there New k found.0 v found.1 there in
        subst (λ (x : WorkerView End). x.segment.stopped ≡ false → ArrivedUpTo (length x.events) x.segment.bus) one found.2.counts

    pub rounds_settled : (settled : List (WorkerView End)) → NoneStopped New → AllSettled had sent got kept paired New settled → AfterRounds had sent got kept paired board settled (phases + 1)
        → IsInRounds had sent got kept paired board settled above (phases + 1)
    rounds_settled settled none settles after =
        let lay = lay_settled had sent got kept paired New settled settles in
        record {
          after = after;
          ready = ready_settled had sent got kept paired New settled settles (ready_still Old New lay_ran rounds.ready counts_ran none);
          hang = hang_still New settled lay laid_ran.hang;
          linked = above_still New settled lay above above_ran;
        }
