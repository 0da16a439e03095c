-- What a segment stands for is told by what it received and sent at its ports.
use Rattle.std.proofs.Common.{◌≡◌, ◌≢◌, ℕ, ◌≤◌, ◌==◌, Bool, true, false, cond, List, [], ◌++◌, Some, None, max, refl, sym, ap, subst, ◌∙◌, append-nil, eq-eqb, arith, slice_get}
use Rattle.std.proofs.lemmas.Bool.{eqb-true}
use Rattle.list_facts.proofs.EachLemmas.{Each-weaker}
use Rattle.board_model.specs.declared.bridge.Lane.{Lane as BridgeLane}
use Rattle.board_model.specs.declared.board.Board.{Board}
use Rattle.board_model.specs.Ways.{end_of}
use Rattle.history_model.specs.declared.event.Stamped.{Stamped}
use Rattle.history_model.specs.Answers.{bridge_to}
use Rattle.lane_items.specs.declared.item.Item.{Item}
use Rattle.bus_core.specs.Bus.{Shape, shape_of}
use Rattle.bus_segment.specs.Segment.{SegmentView, PortPast, SegmentPast, SegmentGoes}
use Rattle.bus_segment.specs.Stands.{WorkerView, ComesBehind, SegmentStands}
use Rattle.law_local.specs.phases.Engine.{NoneElsewhere, ending_on}
use Rattle.engine_phases.specs.Workers.{at_port, at_ports}

-- where a lane ends on the bus, and where it does not
pub ends_here : (board : Board) (bus : ℕ) (items : BridgeLane → List Item) (lane : BridgeLane) → end_of board lane ≡ bus → ending_on board bus items lane ≡ items lane
ends_here board bus items lane ends = let same = eq-eqb (end_of board lane) bus ends in ap (λ (b : Bool). cond b (items lane) []) same

pub ends_elsewhere : (board : Board) (bus : ℕ) (items : BridgeLane → List Item) (lane : BridgeLane) → end_of board lane ≢ bus → ending_on board bus items lane ≡ []
ends_elsewhere board bus items lane apart =
    let P : Bool → Type 0 = λ b. (end_of board lane == bus) ≡ b → cond b (items lane) [] ≡ [] in
    (elim (end_of board lane == bus) as P [ true ↦ λ same. absurd (apart (eqb-true (end_of board lane) bus same)) | false ↦ λ _. refl ]) refl

pub ends_with_nothing : (board : Board) (bus : ℕ) (items : BridgeLane → List Item) (lane : BridgeLane) → items lane ≡ [] → ending_on board bus items lane ≡ []
ends_with_nothing board bus items lane none =
    let P : Bool → Type 0 = λ b. cond b (items lane) [] ≡ [] in elim (end_of board lane == bus) as P [ true ↦ none | false ↦ refl ]

-- the same at each port
abbrev pub SameAtPorts : SegmentView → (ℕ → List Item) → (ℕ → List Item) → Type 0
SameAtPorts s some others = (n : ℕ) (lane : BridgeLane) → slice_get (shape_of s.bus).lanes n ≡ Some lane → some n ≡ others n

pub past_at_ports : (board : Board) (came : BridgeLane → List Item) (p : List Stamped) (s : SegmentView) (rest left sent put : ℕ → List Item)
    → SameAtPorts s rest left → SameAtPorts s sent put → SegmentPast board came p s rest sent → SegmentPast board came p s left put
past_at_ports board came p s rest left sent put same_rest same_sent past =
    record {
      run = past.run;
      bridges = past.bridges;
      never_fall = past.never_fall;
      up_to = past.up_to;
      in_time = past.in_time;
      ports = λ n lane is.
          let L : List Item → Type 0 = λ r. PortPast board came p lane r (put n) in
          let S : List Item → Type 0 = λ l. PortPast board came p lane (rest n) l in
          subst L (same_rest n lane is) (subst S (same_sent n lane is) (past.ports n lane is));
      keeps = past.keeps;
    }

-- a turn by what was received and put at the ports
pub goes_at_ports : (board : Board) (old new : SegmentView) (later : List Stamped) (received taken puts others : ℕ → List Item) → shape_of new.bus ≡ shape_of old.bus
    → SameAtPorts old received taken → SameAtPorts old puts others → SegmentGoes board old new later received puts → SegmentGoes board old new later taken others
goes_at_ports board old new later received taken puts others shape same_received same_puts goes =
    record {
      goes = λ came p rest sent past.
          let back : (n : ℕ) (lane : BridgeLane) → slice_get (shape_of new.bus).lanes n ≡ Some lane → slice_get (shape_of old.bus).lanes n ≡ Some lane =
          λ n lane is. ap (λ (x : Shape). slice_get x.lanes n) (sym shape) ∙ is in
          let before = past_at_ports board came p old (λ n. taken n ++ rest n) (λ n. received n ++ rest n) sent sent
          (λ n lane is. ap (λ (l : List Item). l ++ rest n) (sym (same_received n lane is))) (λ n lane is. refl) past in
          past_at_ports board came (later ++ p) new rest rest (λ n. sent n ++ puts n) (λ n. sent n ++ others n) (λ n lane is. refl)
          (λ n lane is. ap (λ (l : List Item). sent n ++ l) (same_puts n lane (back n lane is))) (goes.goes came p rest sent before);
    }

-- a segment by what it received and sent at the ports
pub stands_at_ports : (board : Board) (s : SegmentView) (p : List Stamped) (received taken sent put : ℕ → List Item) → SameAtPorts s received taken → SameAtPorts s sent put
    → SegmentStands board s p received sent → SegmentStands board s p taken put
stands_at_ports board s p received taken sent put same_received same_sent stands =
    record {
      past = λ came rest behind.
          let before : ComesBehind board s received rest came = record {
            at_ports = λ n lane is. behind.at_ports n lane is ∙ ap (λ (l : List Item). l ++ rest n) (sym (same_received n lane is));
            nothing_else = behind.nothing_else;
            bridges_alone = behind.bridges_alone;
          } in
          past_at_ports board came p s rest rest sent put (λ n lane is. refl) same_sent (stands.past came rest before);
    }

-- with a later stamp it stands for the same
pub stands_later : (board : Board) (s : SegmentView) (p : List Stamped) (received sent : ℕ → List Item) (phase : ℕ) → SegmentStands board s p received sent
    → SegmentStands board (record { bus = s.bus; stamp = max s.stamp phase; stopped = s.stopped }) p received sent
stands_later board s p received sent phase stands =
    record {
      past = λ came rest behind.
          let before : ComesBehind board s received rest came = record { at_ports = behind.at_ports; nothing_else = behind.nothing_else; bridges_alone = behind.bridges_alone } in
          let past = stands.past came rest before in
          record {
            run = past.run;
            bridges = past.bridges;
            never_fall = past.never_fall;
            up_to = Each-weaker (λ (e : Stamped). e.stamp ≤ s.stamp) (λ (e : Stamped). e.stamp ≤ max s.stamp phase) (λ e below. omega (arith, below)) p past.up_to;
            in_time = past.in_time;
            ports = past.ports;
            keeps = past.keeps;
          };
    }

-- what comes to the bus is just this, at its ports what was received and the rest
module _ {End : Type 0} (board : Board) (w : WorkerView End) (ends : (n : ℕ) (lane : BridgeLane) → slice_get (shape_of w.segment.bus).lanes n ≡ Some lane → end_of board lane ≡ w.segment.bus.bus) where
  pub comes_behind : (received items : BridgeLane → List Item) (rest : ℕ → List Item) → ((lane : BridgeLane) → bridge_to board lane.bus ≡ None → items lane ≡ [])
      → ((n : ℕ) (lane : BridgeLane) → slice_get (shape_of w.segment.bus).lanes n ≡ Some lane → items lane ≡ received lane ++ rest n)
      → ComesBehind board w.segment (at_ports w received) rest (ending_on board w.segment.bus.bus items)
  comes_behind received items rest none same =
      record {
        at_ports = λ n lane is.
            ends_here board w.segment.bus.bus items lane (ends n lane is)
            ∙ (same n lane is ∙ ap (λ (l : List Item). l ++ rest n) (sym (ap (at_port received) is)));
        nothing_else = ends_elsewhere board w.segment.bus.bus items;
        bridges_alone = λ lane missing. ends_with_nothing board w.segment.bus.bus items lane (none lane missing);
      }

  -- what it did, where just what was received comes
  pub own_past : (received : BridgeLane → List Item) (p : List Stamped) (sent : ℕ → List Item) → NoneElsewhere board received → SegmentStands board w.segment p (at_ports w received) sent
      → SegmentPast board (ending_on board w.segment.bus.bus received) p w.segment (λ n. []) sent
  own_past received p sent none stands =
      stands.past (ending_on board w.segment.bus.bus received) (λ n. []) (comes_behind received received (λ n. []) none (λ n lane is. sym (append-nil (received lane))))
