-- A bus whose parts are as they are before the first event is a segment that stands for nothing received, done or sent.
use Rattle.std.proofs.Common.{◌≡◌, ◌≢◌, ◌==◌, ℕ, ◌≤◌, Bool, true, false, List, [], ◌∷◌, length, map, Some, refl, sym, ap, subst, ◌∙◌, arith, slice_get}
use Rattle.std.specs.List.{AllByRecursion}
use Rattle.std.proofs.lemmas.List.{length-map}
use Rattle.list_facts.proofs.AnyLemmas.{any_some}
use Rattle.list_facts.proofs.EachLemmas.{Each-weaker, Each-slice_get}
use Rattle.board_model.specs.Limits.{most_agents, most_ports}
use Rattle.board_model.specs.declared.bridge.Bridge.{Bridge}
use Rattle.board_model.specs.declared.bridge.Lane.{Lane as BridgeLane}
use Rattle.board_model.specs.declared.board.Board.{Board}
use Rattle.board_model.specs.Valid.{IsValid, has_bridge_to}
use Rattle.board_model.specs.Ways.{start_of, end_of, lane_back}
use Rattle.board_model.proofs.form_laws.Laws.{IsTree-valid}
use Rattle.history_model.specs.declared.event.Stamped.{Stamped}
use Rattle.law_local.proofs.Laws.{end_back, lane_apart}
use Rattle.lane_items.specs.declared.item.Item.{Item}
use Rattle.bus_face.specs.Arrivals.{carried}
use Rattle.bus_core.specs.port.Port.{PortView}
use Rattle.bus_core.specs.port.Calls.{PortStandsAtFirst}
use Rattle.bus_agents.specs.Turns.{MasterView, MasterStands}
use Rattle.bus_targets.specs.Stands.{TargetStands}
use Rattle.bus_core.specs.Bus.{BusView, Shape, shape_of, arrivals_at, IsOf, AreLines}
use Rattle.bus_core.proofs.ListLemmas.{get_map}
use Rattle.bus_core.proofs.LineLemmas.{line_of, shape_lines}
use Rattle.bus_segment.specs.Segment.{SegmentPast, all_carried}
use Rattle.bus_segment.specs.Stands.{ComesBehind}
use Rattle.engine_segments.specs.First.{lanes_to, shape_on, IsAtFirst}
use Rattle.board_model.specs.Fits.{BridgeFits}
use Rattle.engine_segments.specs.Parts.{PortAtFirst, BusAtFirst}
use Rattle.engine_segments.proofs.LaneLemmas.{of_bridge_at, ends_at, shape_is_of}
use Rattle.engine_segments.proofs.FewLemmas.{few_lanes, few_masters}

each_map : {X Y : Type 0} (P : Y → Type 0) (f : X → Y) (xs : List X) → AllByRecursion (λ x. P (f x)) xs → AllByRecursion P (map f xs)
each_map P f [] all = tt
each_map P f (x ∷ xs) all = (all.0, each_map P f xs all.1)

module _ (board : Board) (valid : IsValid board) (fit : AllByRecursion BridgeFits board.bridges) (bus : ℕ) (s : BusView) (first : BusAtFirst board bus s) where
  shape_is : shape_of s ≡ shape_on board bus
  shape_is =
      let F : ℕ → List BridgeLane → List ℕ → List ℕ → Shape = λ b l m t. record { bus = b; lanes = l; masters = m; targets = t } in
      let here = shape_of s in
      let there = shape_on board bus in
      ap (λ b. F b here.lanes here.masters here.targets) first.number
      ∙ (ap (λ l. F bus l here.masters here.targets) first.ports.lanes_are
      ∙ (ap (λ m. F bus there.lanes m here.targets) first.masters.masters_are ∙ ap (F bus there.lanes there.masters) first.targets.targets_are))

  is_of : IsOf board (shape_of s)
  is_of = subst (IsOf board) (sym shape_is) (shape_is_of board bus (IsTree-valid board valid) fit)

  lane_there : (n : ℕ) (lane : BridgeLane) → slice_get (shape_of s).lanes n ≡ Some lane → slice_get (lanes_to board bus) n ≡ Some lane
  lane_there n lane at = ap (λ (l : List BridgeLane). slice_get l n) (sym first.ports.lanes_are) ∙ at

  ends_there : (n : ℕ) (lane : BridgeLane) → slice_get (shape_of s).lanes n ≡ Some lane → end_of board lane ≡ s.bus
  ends_there n lane at = ends_at board bus n lane (lane_there n lane at) ∙ sym first.number

  many_ports : length s.ports ≡ length (lanes_to board bus)
  many_ports = sym (length-map s.ports (λ (port : PortView). port.lane)) ∙ ap length first.ports.lanes_are

  few_ports : length s.ports ≤ most_ports
  few_ports = omega (arith, many_ports, few_lanes board bus valid.well_formed)

  few_on : length s.masters ≤ most_agents
  few_on =
      let many = sym (length-map s.masters (λ (m : MasterView). m.master)) ∙ ap length first.masters.masters_are in
      omega (arith, many, few_masters board bus valid.well_formed)

  none_arrived : AllByRecursion (λ (count : ℕ). count ≡ 0) (arrivals_at s)
  none_arrived =
      each_map (λ (count : ℕ). count ≡ 0) (λ (port : PortView). port.face.arrivals) s.ports
      (Each-weaker (PortAtFirst board) (λ (port : PortView). port.face.arrivals ≡ 0) (λ port at. at.none) s.ports first.ports.each)

  lines : AreLines board (line_of (shape_of s)) (shape_of s)
  lines =
      let lanes : length (shape_of s).lanes ≤ most_ports = omega (arith, few_ports, length-map s.ports (λ (port : PortView). port.lane)) in
      let masters : length (shape_of s).masters ≤ most_agents = omega (arith, few_on, length-map s.masters (λ (m : MasterView). m.master)) in
      shape_lines board (shape_of s) is_of lanes masters

  port_at : (n : ℕ) (port : PortView) → slice_get s.ports n ≡ Some port → PortStandsAtFirst board s.bus port
  port_at n port at =
      let here = Each-slice_get (PortAtFirst board) s.ports n port first.ports.each at in
      let ends = ends_there n port.lane (get_map (λ (p : PortView). p.lane) s.ports n port at) in
      subst (λ on. PortStandsAtFirst board on port) ends here.first

  -- nothing comes on a lane that begins on the bus
  none_back : (n : ℕ) (lane : BridgeLane) → slice_get (shape_of s).lanes n ≡ Some lane → end_of board (lane_back lane) ≢ s.bus
  none_back n lane at ends =
      let there : has_bridge_to board lane.bus ≡ true = of_bridge_at board bus n lane (lane_there n lane at) in
      let found = any_some (λ (b : Bridge). b.bus == lane.bus) board.bridges there in
      let starts : start_of board lane ≡ s.bus = sym (end_back board lane) ∙ ends in
      lane_apart board lane found.0 (IsTree-valid board valid) found.1 (ends_there n lane at ∙ sym starts)

  past : (stamp : ℕ) (stopped : Bool) (came : BridgeLane → List Item) (rest : ℕ → List Item)
      → ComesBehind board (record { bus = s; stamp = stamp; stopped = stopped }) (λ n. []) rest came
      → SegmentPast board came [] (record { bus = s; stamp = stamp; stopped = stopped }) rest (λ n. [])
  past stamp stopped came rest behind = record {
    run = tt;
    bridges = behind.bridges_alone;
    never_fall = tt;
    up_to = tt;
    in_time = tt;
    ports = λ n lane at. record {
      arrived = [];
      comes = behind.at_ports n lane at;
      counted = refl;
      left = ap (map carried) (behind.at_ports n lane at);
      put = ap (map carried) (behind.nothing_else (lane_back lane) (none_back n lane at));
      stamps = refl;
    };
    keeps = λ _. record {
      tags = line_of (shape_of s);
      stands = first.first.first board (line_of (shape_of s)) (all_carried came) is_of lines port_at
          (λ n m at. Each-slice_get (MasterStands board []) s.masters n m first.masters.each at)
          (λ n t at. Each-slice_get (TargetStands board []) s.targets n t first.targets.each at)
          first.through;
    };
  }

  pub at_first : {End : Type 0} (ends : List End) → length ends ≡ length (lanes_to board bus)
      → IsAtFirst board (record { segment = record { bus = s; stamp = 0; stopped = false }; ends = ends; events = [] })
  at_first ends many = record {
    shape = subst (λ n. shape_of s ≡ shape_on board n) (sym first.number) shape_is;
    is_of = is_of;
    ends_there = ends_there;
    one_a_port = many ∙ sym many_ports;
    few_ports = few_ports;
    few_masters = few_on;
    no_arrivals = none_arrived;
    no_events = refl;
    stamp = refl;
    going = refl;
    stands = record { past = past 0 false };
  }

  -- so is what has the same parts
  pub made_first : {End : Type 0} (given : List End) → length given ≡ length (lanes_to board bus) → (made : BusView) (stamp : ℕ) (stopped : Bool) (ends : List End) (events : List Stamped)
      → made ≡ s → stamp ≡ 0 → stopped ≡ false → ends ≡ given → events ≡ []
      → IsAtFirst board (record { segment = record { bus = made; stamp = stamp; stopped = stopped }; ends = ends; events = events })
  made_first {End} given many made stamp stopped ends events bus_is stamp_is goes ends_are none =
      let F : BusView → ℕ → Bool → List End → List Stamped → Type 0 = λ b n f l e. IsAtFirst board (record { segment = record { bus = b; stamp = n; stopped = f }; ends = l; events = e }) in
      subst (λ b. F b stamp stopped ends events) (sym bus_is)
      (subst (λ n. F s n stopped ends events) (sym stamp_is)
      (subst (λ f. F s 0 f ends events) (sym goes)
      (subst (λ l. F s 0 false l events) (sym ends_are)
      (subst (λ e. F s 0 false given e) (sym none) (at_first given many)))))
