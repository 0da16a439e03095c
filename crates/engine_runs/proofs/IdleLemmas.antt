-- The buses that are marked idle.
use Rattle.std.proofs.Common.{◌≡◌, ◌≢◌, ℕ, zero, suc, ◌+◌, ◌<◌, ◌==◌, ◌-◌, ◌≤◌, not, Bool, true, false, List, [], ◌∷◌, length, max, set, replicate, Some, vec_len, refl, sym, ap, subst, ◌∙◌, arith, slice_get}
use Rattle.std.specs.Vec.{vec_capacity}
use Rattle.std.proofs.lemmas.Bool.{eqb-true, eqb-false}
use Rattle.std.proofs.lemmas.List.{length-set}
use Rattle.std.proofs.lemmas.Option.{slice_get_within}
use Rattle.board_model.specs.Limits.{room_of_a_turn}
use Rattle.board_model.specs.declared.board.Board.{Board}
use Rattle.board_model.specs.Valid.{IsValid}
use Rattle.history_model.specs.declared.event.Stamped.{Stamped}
use Rattle.lane_items.specs.declared.item.Item.{Item}
use Rattle.bus_core.specs.Bus.{BusView}
use Rattle.bus_segment.specs.Segment.{SegmentView}
use Rattle.bus_segment.specs.Stands.{WorkerView}
use Rattle.bus_segment.specs.declared.turns.worker.Worker.{Worker}
use Rattle.bus_segment.specs.turns.Works.{GivesOnlyRetries}
use Rattle.bus_segment.specs.Steps.{ArrivedUpTo}
use Rattle.bus_segment.specs.turns.Again.{MayTurn, DoesTurn}
use Rattle.bus_segment.proofs.Laws.{there_at}
use Rattle.engine_phases.specs.Phase.{Turned, AllSettled, begun}
use Rattle.engine_phases.proofs.Laws.{same_there}
use Rattle.engine_runs.specs.Loop.{seen, IsReady, AreMarkedIdle, Worked}
use Rattle.engine_runs.proofs.OneLemmas.{set_here, set_other}

-- At first none is.
none_marked : (many k : ℕ) → slice_get (replicate many false) k ≡ Some true → ⊥
none_marked zero k is = cc
none_marked (suc many) zero is = cc
none_marked (suc many) (suc k) is = none_marked many k is

pub idle_first : {End : Type 0} (board : Board) (workers : List (WorkerView End)) (idle : List Bool) (many : ℕ) → idle ≡ replicate many false → length idle ≡ length workers → AreMarkedIdle board workers idle
idle_first board workers idle many is same =
    record { many = same; retried = λ k w here on. absurd (none_marked many k (ap (λ l. slice_get l k) (sym is) ∙ on)) }

-- One worker did its turn.
pub idle_one : {End : Type 0} (board : Board) (workers : List (WorkerView End)) (idle : List Bool) (i : ℕ) (v : WorkerView End) (mark : Bool) → i < length workers → AreMarkedIdle board workers idle
    → (mark ≡ true → GivesOnlyRetries board v.segment.bus) → AreMarkedIdle board (set workers i v) (set idle i mark)
idle_one {End} board workers idle i v mark within marked own =
    let many = marked.many in
    record {
      many = length-set idle i mark ∙ (many ∙ sym (length-set workers i v));
      retried = λ k w here on.
          let Q : Bool → Type 0 = λ t. (k == i) ≡ t → GivesOnlyRetries board w.segment.bus in
          (elim (k == i) as Q [
            | true ↦ λ is.
                let same : k ≡ i = eqb-true k i is in
                let at : slice_get (set workers i v) i ≡ Some w = subst (λ n. slice_get (set workers i v) n ≡ Some w) same here in
                let one : v ≡ w = same_there (set workers i v) i v w (set_here workers i v within) at in
                let marked_at : slice_get (set idle i mark) i ≡ Some true = subst (λ n. slice_get (set idle i mark) n ≡ Some true) same on in
                let both = sym (set_here idle i mark (omega (arith, within, many))) ∙ marked_at in
                let is_on : mark ≡ true = cc in
                subst (λ (x : WorkerView End). GivesOnlyRetries board x.segment.bus) one (own is_on)
            | false ↦ λ differ.
                let apart : k ≢ i = eqb-false k i differ in
                marked.retried k w (sym (set_other workers i k v apart) ∙ here) (sym (set_other idle i k mark apart) ∙ on)
          ]) refl;
    }

-- What the marks say stays so when all ends are settled.
pub idle_settled : {End : Type 0} (had sent got : End → List Item) (kept : End → ℕ) (paired : End → End → Type 0) (board : Board) (new settled : List (WorkerView End)) (idle : List Bool) → AllSettled had sent got kept paired new settled
    → AreMarkedIdle board new idle → AreMarkedIdle board settled idle
idle_settled {End} had sent got kept paired board new settled idle settles marked =
    record {
      many = marked.many ∙ sym settles.many;
      retried = λ k u here on.
          let within = slice_get_within settled k u here in
          let many = settles.many in
          let was = there_at new k (omega (arith, within, many)) in
          let found = settles.each k was.0 was.1 in
          let one : found.0 ≡ u = same_there settled k found.0 u found.1 here in
          let bus : found.0.segment.bus ≡ was.0.segment.bus = ap (λ (s : SegmentView). s.bus) found.2.segment in
          subst (λ (x : WorkerView End). GivesOnlyRetries board x.segment.bus) one (subst (GivesOnlyRetries board) (sym bus) (marked.retried k was.0 was.1 on));
    }

-- A worker that took memory and began a phase may do a turn, and has worked then.
pub not_true : (b : Bool) → not b ≡ true → b ≡ false
not_true true is = cc
not_true false is = refl

pub room_left : {End : Type 0} (old mid : Worker End) → vec_capacity mid.segment.events ≡ vec_capacity old.segment.events → mid.segment.events.items ≡ old.segment.events.items → 8192 ≤ vec_capacity old.segment.events - vec_len old.segment.events
    → room_of_a_turn ≤ vec_capacity mid.segment.events - vec_len mid.segment.events
room_left old mid capacity items room =
    let mine : vec_len mid.segment.events ≡ length mid.segment.events.items = mid.segment.events.ok.0 in
    let other : vec_len old.segment.events ≡ length old.segment.events.items = old.segment.events.ok.0 in
    let same = ap length items in
    omega (arith, mine, other, same, capacity, room)

module _ {End : Type 0} (had sent got : End → List Item) (kept : End → ℕ) (paired : End → End → Type 0) (board : Board) (phase : ℕ) (old mid new : Worker End) (bus : mid.segment.bus ≡ old.segment.bus) (stamp : mid.segment.stamp ≡ max old.segment.stamp phase)
    (stopped : mid.segment.stopped ≡ old.segment.stopped) (ends : mid.segment.ends.items ≡ old.segment.ends.items) (events : mid.segment.events.items ≡ old.segment.events.items) where
  is_begun : seen mid ≡ begun phase (seen old)
  is_begun =
      let W : BusView → ℕ → Bool → List End → List Stamped → WorkerView End = λ b s t e l. record { segment = record { bus = b; stamp = s; stopped = t }; ends = e; events = l } in
      ap (λ b. W b mid.segment.stamp mid.segment.stopped mid.segment.ends.items mid.segment.events.items) bus
      ∙ (ap (λ s. W old.segment.bus s mid.segment.stopped mid.segment.ends.items mid.segment.events.items) stamp
      ∙ (ap (λ t. W old.segment.bus (max old.segment.stamp phase) t mid.segment.ends.items mid.segment.events.items) stopped
      ∙ (ap (λ e. W old.segment.bus (max old.segment.stamp phase) old.segment.stopped e mid.segment.events.items) ends
      ∙ ap (λ l. W old.segment.bus (max old.segment.stamp phase) old.segment.stopped old.segment.ends.items l) events)))

  pub begun_may : IsValid board → IsReady (seen old) → room_of_a_turn ≤ vec_capacity mid.segment.events - vec_len mid.segment.events → MayTurn board mid
  begun_may valid ready room =
      let ports : length mid.segment.bus.ports ≡ length old.segment.bus.ports = ap (λ (s : BusView). length s.ports) bus in
      let masters : length mid.segment.bus.masters ≡ length old.segment.bus.masters = ap (λ (s : BusView). length s.masters) bus in
      let few_ports = ready.few_ports in
      let few_masters = ready.few_masters in
      let up : ArrivedUpTo (length mid.segment.events.items) old.segment.bus = subst (λ (n : ℕ). ArrivedUpTo n old.segment.bus) (sym (ap length events)) ready.counts in
      record {
        valid = valid;
        going = stopped ∙ ready.going;
        ends = ap length ends ∙ (ready.one_a_port ∙ sym ports);
        few_ports = omega (arith, ports, few_ports);
        few_masters = omega (arith, masters, few_masters);
        counts = subst (λ (s : BusView). ArrivedUpTo (length mid.segment.events.items) s) (sym bus) up;
        spare = room;
      }

  pub has_worked : (count : ℕ) (busy : Bool) → DoesTurn had sent got kept paired board mid new count → (busy ≡ false → count ≡ 0) → (busy ≡ true → 0 < count) → Worked had sent got kept paired board phase (seen old) (seen new) busy
  has_worked count busy turn idle some =
      let turned : Turned had sent got kept paired board (seen mid) (seen new) count = record { shape = turn.shape; does = turn.does; many = turn.many; quiet = turn.quiet; stamps = turn.stamps } in
      let begins : Turned had sent got kept paired board (begun phase (seen old)) (seen new) count = subst (λ (w : WorkerView End). Turned had sent got kept paired board w (seen new) count) is_begun turned in
      record {
        count = count;
        turned = begins;
        idle = idle;
        grows = λ on. let more = some on in let many = begins.many in omega (arith, more, many);
        counts = turn.counts;
      }
