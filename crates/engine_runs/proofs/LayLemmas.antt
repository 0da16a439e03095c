-- Where lanes end stays as long as the buses of the workers are the same, and so each may do its next turn.
use Rattle.std.proofs.Common.{◌≡◌, ℕ, ◌+◌, false, List, length, Some, sym, ap, subst, ◌∙◌, arith, slice_get}
use Rattle.std.proofs.lemmas.List.{length-map}
use Rattle.std.proofs.lemmas.Option.{slice_get_within}
use Rattle.board_model.specs.declared.bridge.Lane.{Lane as BridgeLane}
use Rattle.board_model.specs.declared.board.Board.{Board}
use Rattle.board_model.specs.Valid.{is_bus}
use Rattle.bus_core.specs.port.Port.{PortView}
use Rattle.bus_core.specs.Bus.{Shape, shape_of, IsOf}
use Rattle.lane_items.specs.declared.item.Item.{Item}
use Rattle.bus_segment.specs.Segment.{SegmentView}
use Rattle.bus_segment.specs.Stands.{WorkerView}
use Rattle.bus_segment.specs.Steps.{ArrivedUpTo}
use Rattle.bus_segment.proofs.Laws.{there_at}
use Rattle.bus_agents.specs.Turns.{MasterView}
use Rattle.engine_phases.specs.Workers.{AreWorkers}
use Rattle.engine_phases.specs.Phase.{AreApart, NoneStopped, AllSettled}
use Rattle.engine_phases.proofs.Laws.{same_there}
use Rattle.engine_runs.specs.declared.settling.Above.{Above}
use Rattle.engine_segments.specs.First.{down_to, up_from}
use Rattle.engine_runs.specs.Loop.{IsReady, AreReady}
use Rattle.engine_runs.specs.Settling.{AreAbove, HangBelow}
use Rattle.engine_runs.specs.Steady.{SameLay}

module _ {End : Type 0} (old new : List (WorkerView End)) (same : SameLay old new) where
  -- what a worker was
  pub then : (k : ℕ) (v : WorkerView End) → slice_get new k ≡ Some v → (w : WorkerView End) × (slice_get old k ≡ Some w) × (shape_of v.segment.bus ≡ shape_of w.segment.bus) × (length v.ends ≡ length w.ends)
  then k v here =
      let within = slice_get_within new k v here in
      let many = same.many in
      let was = there_at old k (omega (arith, within, many)) in
      let found = same.each k was.0 was.1 in
      let one : found.0 ≡ v = same_there new k found.0 v found.1 here in
      let P : WorkerView End → Type 0 = λ u. (shape_of u.segment.bus ≡ shape_of was.0.segment.bus) × (length u.ends ≡ length was.0.ends) in
      let alike : P v = subst P one (found.2, found.3) in
      (was.0, was.1, alike.0, alike.1)

  lane_then : (v w : WorkerView End) → shape_of v.segment.bus ≡ shape_of w.segment.bus → (n : ℕ) (lane : BridgeLane) → slice_get (shape_of v.segment.bus).lanes n ≡ Some lane → slice_get (shape_of w.segment.bus).lanes n ≡ Some lane
  lane_then v w shape n lane here = ap (λ (x : Shape). slice_get x.lanes n) (sym shape) ∙ here

  bus_then : (v w : WorkerView End) → shape_of v.segment.bus ≡ shape_of w.segment.bus → v.segment.bus.bus ≡ w.segment.bus.bus
  bus_then v w shape = ap (λ (x : Shape). x.bus) shape

  pub are_still : (board : Board) → AreWorkers board old → AreWorkers board new
  are_still board are = record {
    of_board = λ k v here. let was = then k v here in subst (IsOf board) (sym was.2) (are.of_board k was.0 was.1);
    ends_there = λ k v n lane here at. let was = then k v here in are.ends_there k was.0 n lane was.1 (lane_then v was.0 was.2 n lane at) ∙ sym (bus_then v was.0 was.2);
    each_bus = λ bus there.
        let found = are.each_bus bus there in
        let now = same.each found.0 found.1 found.2 in
        (found.0, now.0, now.1, bus_then now.0 found.1 now.2 ∙ found.3);
  }

  pub apart_still : (board : Board) → AreApart board old → AreApart board new
  apart_still board apart = record {
    apart = λ k m v u here there alike.
        let was = then k v here in
        let were = then m u there in
        apart.apart k m was.0 were.0 was.1 were.1 (sym (bus_then v was.0 was.2) ∙ (alike ∙ bus_then u were.0 were.2));
    there = λ k v here. let was = then k v here in ap (is_bus board) (bus_then v was.0 was.2) ∙ apart.there k was.0 was.1;
    bridges = λ k v n lane here at. let was = then k v here in apart.bridges k was.0 n lane was.1 (lane_then v was.0 was.2 n lane at);
    one_a_port = λ k v here. let was = then k v here in was.3 ∙ (apart.one_a_port k was.0 was.1 ∙ ap (λ (x : Shape). length x.lanes) (sym was.2));
  }

  pub hang_still : HangBelow old → HangBelow new
  hang_still hang = record {
    below = λ k v n lane here at.
        let was = then k v here in
        let found = hang.below k was.0 n lane was.1 (lane_then v was.0 was.2 n lane at) in
        let now = same.each (found.0 + 1) found.1 found.2 in
        (found.0, now.0, now.1, found.3 ∙ sym (bus_then now.0 found.1 now.2));
  }

  pub above_still : (above : List Above) → AreAbove old above → AreAbove new above
  above_still above are = record {
    each = λ k up here.
        let was = are.each k up here in
        let upper = same.each up.worker was.upper was.upper_is in
        let lower = same.each (k + 1) was.lower was.lower_is in
        let bus : was.lower.segment.bus.bus ≡ lower.0.segment.bus.bus = sym (bus_then lower.0 was.lower lower.2) in
        record {
          earlier = was.earlier;
          upper = upper.0;
          lower = lower.0;
          upper_is = upper.1;
          lower_is = lower.1;
          up = ap (λ (x : Shape). slice_get x.lanes up.port) upper.2 ∙ (was.up ∙ ap (λ b. Some (up_from b)) bus);
          down = ap (λ (x : Shape). slice_get x.lanes 0) lower.2 ∙ (was.down ∙ ap (λ b. Some (down_to b)) bus);
        };
    many = same.many ∙ are.many;
  }

-- ports and masters, by the shape
pub ports_same : {End : Type 0} (v w : WorkerView End) → shape_of v.segment.bus ≡ shape_of w.segment.bus → length v.segment.bus.ports ≡ length w.segment.bus.ports
ports_same v w shape =
    let mine : length (shape_of v.segment.bus).lanes ≡ length v.segment.bus.ports = length-map v.segment.bus.ports (λ (p : PortView). p.lane) in
    let other : length (shape_of w.segment.bus).lanes ≡ length w.segment.bus.ports = length-map w.segment.bus.ports (λ (p : PortView). p.lane) in
    sym mine ∙ (ap (λ (x : Shape). length x.lanes) shape ∙ other)

pub masters_same : {End : Type 0} (v w : WorkerView End) → shape_of v.segment.bus ≡ shape_of w.segment.bus → length v.segment.bus.masters ≡ length w.segment.bus.masters
masters_same v w shape =
    let mine : length (shape_of v.segment.bus).masters ≡ length v.segment.bus.masters = length-map v.segment.bus.masters (λ (m : MasterView). m.master) in
    let other : length (shape_of w.segment.bus).masters ≡ length w.segment.bus.masters = length-map w.segment.bus.masters (λ (m : MasterView). m.master) in
    sym mine ∙ (ap (λ (x : Shape). length x.masters) shape ∙ other)

-- each may do its next turn, where none stopped
pub ready_still : {End : Type 0} (old new : List (WorkerView End)) → SameLay old new → AreReady old
    → ((k : ℕ) (v : WorkerView End) → slice_get new k ≡ Some v → v.segment.stopped ≡ false → ArrivedUpTo (length v.events) v.segment.bus) → NoneStopped new → AreReady new
ready_still old new same ready counts none = record {
  each = λ k v here.
      let was = then old new same k v here in
      let is = ready.each k was.0 was.1 in
      let ports = ports_same v was.0 was.2 in
      let masters = masters_same v was.0 was.2 in
      let few_ports = is.few_ports in
      let few_masters = is.few_masters in
      let going = none.going k v here in
      record {
        going = going;
        one_a_port = was.3 ∙ (is.one_a_port ∙ sym ports);
        few_ports = omega (arith, ports, few_ports);
        few_masters = omega (arith, masters, few_masters);
        counts = counts k v here going;
      };
}

-- When all ends are settled, nothing else changed.
module _ {End : Type 0} (had sent got : End → List Item) (kept : End → ℕ) (paired : End → End → Type 0) (new settled : List (WorkerView End)) (settles : AllSettled had sent got kept paired new settled) where
  pub lay_settled : SameLay new settled
  lay_settled = record {
    many = settles.many;
    each = λ k w here.
        let found = settles.each k w here in
        (found.0, found.1, ap (λ (s : SegmentView). shape_of s.bus) found.2.segment, found.2.many);
  }

  pub ready_settled : AreReady new → AreReady settled
  ready_settled ready = record {
    each = λ k u here.
        let was = then new settled lay_settled k u here in
        let found = settles.each k was.0 was.1 in
        let is = ready.each k was.0 was.1 in
        let one : found.0 ≡ u = same_there settled k found.0 u found.1 here in
        let segment = found.2.segment in
        let many = found.2.many in
        let events = found.2.events in
        subst IsReady one (record {
          going = ap (λ (s : SegmentView). s.stopped) segment ∙ is.going;
          one_a_port = many ∙ (is.one_a_port ∙ sym (ap (λ (s : SegmentView). length s.bus.ports) segment));
          few_ports = let same = ap (λ (s : SegmentView). length s.bus.ports) segment in let few = is.few_ports in omega (arith, same, few);
          few_masters = let same = ap (λ (s : SegmentView). length s.bus.masters) segment in let few = is.few_masters in omega (arith, same, few);
          counts = subst (λ (s : SegmentView). ArrivedUpTo (length found.0.events) s.bus) (sym segment) (subst (λ (n : ℕ). ArrivedUpTo n was.0.segment.bus) (sym (ap length events)) is.counts);
        });
  }
