-- A read is found as it ends, and it ends once.
use Rattle.std.proofs.Common.{◌≡◌, ℕ, zero, suc, ◌+◌, ◌≤◌, Bool, true, false, ◌||◌, cond, List, [], ◌∷◌, ◌++◌, length, map, Option, Some, None, is_some, refl, sym, ap, subst, ◌∙◌, arith, slice_get, ◌⊎◌, inl, inr, ⊎_elim}
use Rattle.std.specs.List.{AllByRecursion}
use Rattle.std.proofs.lemmas.Bool.{or_left, or_right}
use Rattle.std.proofs.lemmas.List.{map-append, append-nil}
use Rattle.list_facts.proofs.EachLemmas.{Each-append, Each-weaker, Each-slice_get}
use Rattle.pci_command.specs.declared.op_id.OpId.{OpId}
use Rattle.pci_command.specs.declared.op_id.Outcome.{Outcome}
use Rattle.pci_command.specs.declared.op_id.Outcome.TheVariants.{Value, Written, Aborted, Nobody}
use Rattle.board_model.specs.declared.board.Board.{Board}
use Rattle.history_model.specs.declared.event.Event.{Event}
use Rattle.history_model.specs.declared.rule.Rule.TheVariants.{Tagged}
use Rattle.history_model.specs.Program.{Ending, ended, turn_of}
use Rattle.history_model.specs.Knowledge.{Reading, ends_as, has_ended, got}
use Rattle.history_model.specs.Runs.{Run}
use Rattle.law_lanes.specs.order.One.{times, ends_at_master}
use Rattle.law_lanes.proofs.order.Laws.{turn_not_ended}
use Rattle.law_fresh.proofs.Laws.{ends_turn}
use Rattle.law_audit.specs.Audit.{Finding, last_known, finding_of, findings_by, findings_as, findings_in, findings}
use Rattle.law_audit.specs.Sound.{reads_found, AreOnce}
use Rattle.law_audit.proofs.FirstLemmas.{ends_it}

-- the read of a finding
abbrev pub read_of : Finding → OpId
read_of found = found.read

-- the reads that are found as an event ends one
abbrev pub reads_in : Board → List Event → Event → List OpId
reads_in board h e = map read_of (findings_in board (e ∷ h) (ended e))

pub reads_more : (board : Board) (e : Event) (h : List Event) → reads_found board (e ∷ h) ≡ reads_found board h ++ reads_in board h e
reads_more board e h = map-append read_of (findings board h) (findings_in board (e ∷ h) (ended e))

-- what holds of no reads, and of the one that an event ends, holds of those that it finds
module _ (board : Board) (h : List Event) (P : List OpId → Type 0) (none : P []) where
  by_write : (r : OpId) (reading : Reading) (found : Option OpId) → P (r ∷ []) → P (map read_of (finding_of board h r reading found))
  by_write r reading None one = none
  by_write r reading (Some w) one = one

  by_reading : (r : OpId) (found : Option Reading) → P (r ∷ []) → P (map read_of (findings_by board h r found))
  by_reading r None one = none
  by_reading r (Some reading) one = by_write r reading (last_known board h r reading) one

  by_outcome : (r : OpId) (outcome : Outcome) → P (r ∷ []) → P (map read_of (findings_as board h r outcome))
  by_outcome r (Value value) one = by_reading r (got board h r) one
  by_outcome r Written one = none
  by_outcome r Aborted one = none
  by_outcome r Nobody one = none

  by_ending : (found : Option Ending) → ((ending : Ending) → found ≡ Some ending → P (ending.op ∷ [])) → P (map read_of (findings_in board h found))
  by_ending None one = none
  by_ending (Some ending) one = by_outcome ending.op ending.outcome (one ending refl)

-- each read that is found ended
found_ended : (board : Board) (h : List Event) → AllByRecursion (λ r. has_ended h r ≡ true) (reads_found board h)
found_ended board [] = tt
found_ended board (e ∷ h) =
    let Ended : List Event → OpId → Type 0 = λ k r. has_ended k r ≡ true in
    let old = Each-weaker (Ended h) (Ended (e ∷ h)) (λ r is. or_right (is_some (ends_as r e)) (has_ended h r) is) (reads_found board h) (found_ended board h) in
    let new = by_ending board (e ∷ h) (AllByRecursion (Ended (e ∷ h))) tt (ended e) (λ ending is. (or_left (is_some (ends_as ending.op e)) (has_ended h ending.op) (ends_it e ending is), tt)) in
    subst (AllByRecursion (Ended (e ∷ h))) (sym (reads_more board e h)) (Each-append (Ended (e ∷ h)) (reads_found board h) (reads_in board h e) old new)

ended_counts : (r : OpId) (h : List Event) → has_ended h r ≡ true → 1 ≤ times (ends_at_master r) h
ended_counts r [] is = cc
ended_counts r (e ∷ h) is =
    let P : Bool → Type 0 = λ b. (b || has_ended h r) ≡ true → 1 ≤ cond b 1 0 + times (ends_at_master r) h in
    (elim (is_some (ends_as r e)) as P [ true ↦ λ _. omega arith | false ↦ λ older. omega (arith, ended_counts r h older) ]) is

-- No element stands at two places.

abbrev Once : List OpId → Type 0
Once xs = (i j : ℕ) (r : OpId) → slice_get xs i ≡ Some r → slice_get xs j ≡ Some r → i ≡ j

push_cases : (xs : List OpId) (x : OpId) (i : ℕ) (r : OpId) → slice_get (xs ++ x ∷ []) i ≡ Some r → (slice_get xs i ≡ Some r) ⊎ ((i ≡ length xs) × (x ≡ r))
push_cases [] x zero r is = let same : x ≡ r = cc in inr (refl, same)
push_cases [] x (suc i) r is = cc
push_cases (y ∷ xs) x zero r is = inl is
push_cases (y ∷ xs) x (suc i) r is =
    ⊎_elim {C = (slice_get xs i ≡ Some r) ⊎ ((suc i ≡ suc (length xs)) × (x ≡ r))}
    (λ (old : slice_get xs i ≡ Some r). inl old)
    (λ (new : (i ≡ length xs) × (x ≡ r)). inr (ap suc new.0, new.1))
    (push_cases xs x i r is)

once_push : (xs : List OpId) (x : OpId) → AllByRecursion (λ y. x ≡ y → ⊥) xs → Once xs → Once (xs ++ x ∷ [])
once_push xs x apart old i j r first second =
    let Cases : ℕ → Type 0 = λ n. (slice_get xs n ≡ Some r) ⊎ ((n ≡ length xs) × (x ≡ r)) in
    let here : (n : ℕ) → slice_get xs n ≡ Some r → x ≡ r → ⊥ = λ n there same. Each-slice_get (λ y. x ≡ y → ⊥) xs n r apart there same in
    ⊎_elim {C = i ≡ j}
    (λ (a : slice_get xs i ≡ Some r).
    ⊎_elim {C = i ≡ j} (λ (b : slice_get xs j ≡ Some r). old i j r a b) (λ (b : (j ≡ length xs) × (x ≡ r)). absurd (here i a b.1)) (push_cases xs x j r second))
    (λ (a : (i ≡ length xs) × (x ≡ r)).
    ⊎_elim {C = i ≡ j} (λ (b : slice_get xs j ≡ Some r). absurd (here j b a.1)) (λ (b : (j ≡ length xs) × (x ≡ r)). a.0 ∙ sym b.0) (push_cases xs x j r second))
    (push_cases xs x i r first)

-- so it is with the reads of an audit
pub found_once : (board : Board) (h : List Event) → Run board h → AreOnce board h
found_once board [] run = λ i j r first second. cc
found_once board (e ∷ h) run =
    let xs : List OpId = reads_found board h in
    let old : Once xs = found_once board h run.1 in
    let P : List OpId → Type 0 = λ new. Once (xs ++ new) in
    let none : P [] = subst Once (sym (append-nil xs)) old in
    let one : (ending : Ending) → ended e ≡ Some ending → P (ending.op ∷ []) = λ ending is.
    let turn : turn_of board h ending.op.master ≡ Some ending.op = ends_turn Tagged board e h ending run is in
    let count = turn_not_ended board h ending.op run.1 turn in
    let apart : (y : OpId) → has_ended h y ≡ true → ending.op ≡ y → ⊥ = λ y ended_it same.
    let counts = ended_counts ending.op h (subst (λ o. has_ended h o ≡ true) (sym same) ended_it) in
    let clash : 1 ≤ 0 = subst (λ n. 1 ≤ n) count counts in
    omega (arith, clash) in
    once_push xs ending.op (Each-weaker (λ y. has_ended h y ≡ true) (λ y. ending.op ≡ y → ⊥) apart xs (found_ended board h)) old in
    subst Once (sym (reads_more board e h)) (by_ending board (e ∷ h) P none (ended e) one)
