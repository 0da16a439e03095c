-- Request lines that tell the initiators of a bus apart, by their places; and a bus before its first event.
use Rattle.std.proofs.Common.{◌≡◌, ◌≢◌, ℕ, ◌+◌, ◌<◌, ◌≤◌, Bool, true, false, ◌==◌, List, length, Option, Some, None, inl, refl, sym, ap, subst, ◌∙◌, arith, slice_get}
use Rattle.std.specs.List.{position, list_any}
use Rattle.std.proofs.lemmas.Bool.{eqb-true, eq-eqb}
use Rattle.std.proofs.lemmas.Option.{slice_get_within}
use Rattle.pci_command.specs.declared.op_id.OpId.{OpId}
use Rattle.board_model.specs.Limits.{most_agents, most_ports}
use Rattle.board_model.specs.declared.bridge.Lane.{Lane as BridgeLane}
use Rattle.board_model.specs.declared.board.Board.{Board}
use Rattle.history_model.specs.declared.event.By.{By}
use Rattle.history_model.specs.declared.event.By.TheVariants.{Master, Lane as ByLane}
use Rattle.history_model.specs.World.{same_lane, same_initiator}
use Rattle.history_model.specs.Answers.{wants_in}
use Rattle.history_model.proofs.facts.BridgeLemmas.{same_lane_true, same_lane_self, same_lane_symm}
use Rattle.bus_face.specs.declared.offer.Offer.{Offer}
use Rattle.bus_face.specs.Offers.{offers_of, is_offer_of}
use Rattle.bus_face.proofs.EndLemmas.{offers_on_lanes}
use Rattle.bus_core.specs.port.Port.{PortView}
use Rattle.bus_core.proofs.port.ReplyLemmas.{port_offers}
use Rattle.bus_core.specs.Bus.{BusView, Shape, IsOf, AreLines, StandsAtFirst}
use Rattle.bus_core.specs.Serves.{BusOffers}
use Rattle.bus_core.proofs.ListLemmas.{found_at, none_at, map_get}

-- a place, or one that is no place
abbrev pub place_in : Option ℕ → ℕ
place_in None = 300
place_in (Some place) = place

abbrev pub line_of : Shape → By → OpId → ℕ
line_of shape Master o = most_ports + place_in (position (λ master. master == o.master) shape.masters)
line_of shape (ByLane lane) o = place_in (position (λ other. same_lane other lane) shape.lanes)

-- the one that passes is at its place
place_found : {X : Type 0} (test : X → Bool) (xs : List X) (n : ℕ) (x : X) → slice_get xs n ≡ Some x → test x ≡ true → ((m : ℕ) (y : X) → slice_get xs m ≡ Some y → test y ≡ true → m ≡ n) → position test xs ≡ Some n
place_found {X} test xs n x there passes one =
    let P : Option ℕ → Type 0 = λ found. position test xs ≡ found → found ≡ Some n in
    (elim (position test xs) as P [
      | None ↦ λ is. let fails = none_at test xs is n x there in let wrong : true ≡ false = sym passes ∙ fails in cc
      | Some k ↦ λ is. let found = found_at test xs k is in ap Some (one k found.0 found.1.0 found.1.1)
    ]) refl

-- a place that is found is where one passes, or none is found
place_passes : {X : Type 0} (test : X → Bool) (xs : List X) (n : ℕ) (x : X) → n < 300 → slice_get xs n ≡ Some x → place_in (position test xs) ≡ n → test x ≡ true
place_passes {X} test xs n x small there is =
    let P : Option ℕ → Type 0 = λ found. position test xs ≡ found → place_in found ≡ n → test x ≡ true in
    (elim (position test xs) as P [
      | None ↦ λ _ far. absurd (omega (arith, far, small))
      | Some k ↦ λ at same.
          let found = found_at test xs k at in
          let here : slice_get xs n ≡ Some found.0 = ap (slice_get xs) (sym same) ∙ found.1.0 in
          let both = sym here ∙ there in
          let one : found.0 ≡ x = cc in
          ap test (sym one) ∙ found.1.1
    ]) refl is

-- tests that say the same
same_tests : (a b : Bool) → (a ≡ true → b ≡ true) → (b ≡ true → a ≡ true) → a ≡ b
same_tests true true one other = refl
same_tests true false one other = sym (one refl)
same_tests false true one other = other refl
same_tests false false one other = refl

apart_test : (m n : ℕ) → m ≢ n → false ≡ (m == n)
apart_test m n differ =
    let P : Bool → Type 0 = λ b. (m == n) ≡ b → false ≡ b in
    (elim (m == n) as P [ true ↦ λ same. absurd (differ (eqb-true m n same)) | false ↦ λ _. refl ]) refl

module _ (board : Board) (shape : Shape) (is_of : IsOf board shape) (few_lanes : length shape.lanes ≤ most_ports) (few_masters : length shape.masters ≤ most_agents) where
  lane_at : (n : ℕ) (lane : BridgeLane) → slice_get shape.lanes n ≡ Some lane → position (λ other. same_lane other lane) shape.lanes ≡ Some n
  lane_at n lane there =
      place_found (λ other. same_lane other lane) shape.lanes n lane there (same_lane_self lane) (λ m other at same.
      let one : other ≡ lane = same_lane_true other lane same in
      let P : Bool → Type 0 = λ b. (m == n) ≡ b → m ≡ n in
      (elim (m == n) as P [
        | true ↦ λ is. eqb-true m n is
        | false ↦ λ differ. absurd (is_of.lanes_apart m n other lane at there (λ is. let yes = eq-eqb m n is in let wrong : true ≡ false = sym yes ∙ differ in cc) (ap (λ (k : BridgeLane). k.bus) one))
      ]) refl)

  master_at : (n master : ℕ) → slice_get shape.masters n ≡ Some master → position (λ other. other == master) shape.masters ≡ Some n
  master_at n master there =
      place_found (λ other. other == master) shape.masters n master there (eq-eqb master master refl) (λ m other at same.
      is_of.masters_apart m n master (at ∙ ap Some (eqb-true other master same)) there)

  within_lanes : (n : ℕ) (lane : BridgeLane) → slice_get shape.lanes n ≡ Some lane → n < most_ports
  within_lanes n lane there = omega (arith, slice_get_within shape.lanes n lane there, few_lanes)

  within_masters : (n master : ℕ) → slice_get shape.masters n ≡ Some master → n < most_agents
  within_masters n master there = omega (arith, slice_get_within shape.masters n master there, few_masters)

  -- the line of a lane is no master's
  lane_small : (found : Option ℕ) (n : ℕ) → n < most_agents → ((k : ℕ) → found ≡ Some k → k < most_ports) → place_in found ≢ most_ports + n
  lane_small None n small within = λ same. absurd (omega (arith, same, small))
  lane_small (Some k) n small within = λ same. let below : k < most_ports = within k refl in absurd (omega (arith, same, below))

  pub shape_lines : AreLines board (line_of shape) shape
  shape_lines =
      record {
        lanes = λ n lane o there.
            let at = lane_at n lane there in
            let small : n < most_ports = within_lanes n lane there in (
              ap place_in at,
              λ other p is_at.
                  let P : By → Type 0 = λ b. same_initiator b p (ByLane lane) o ≡ (line_of shape b p == n) in
                  elim other as P [
                    | Master ↦ apart_test (most_ports + place_in (position (λ master. master == p.master) shape.masters)) n (λ same. absurd (omega (arith, same, small)))
                    | ByLane l ↦ same_tests (same_lane l lane) (place_in (position (λ k. same_lane k l) shape.lanes) == n)
                        (λ same. eq-eqb (place_in (position (λ k. same_lane k l) shape.lanes)) n (ap (λ m. place_in (position (λ k. same_lane k m) shape.lanes)) (same_lane_true l lane same) ∙ ap place_in at))
                        (λ same. same_lane_symm l lane ∙ place_passes (λ k. same_lane k l) shape.lanes n lane (omega arith) there (eqb-true (place_in (position (λ k. same_lane k l) shape.lanes)) n same))
                  ],
            );
        masters = λ n o there.
            let at = master_at n o.master there in
            let small : n < most_agents = within_masters n o.master there in (
              ap (λ found. most_ports + place_in found) at,
              λ other p is_at.
                  let P : By → Type 0 = λ b. same_initiator b p Master o ≡ (line_of shape b p == most_ports + n) in
                  elim other as P [
                    | Master ↦ same_tests (p.master == o.master) (most_ports + place_in (position (λ master. master == p.master) shape.masters) == most_ports + n)
                        (λ same. eq-eqb (most_ports + place_in (position (λ master. master == p.master) shape.masters)) (most_ports + n) (ap (λ m. most_ports + place_in (position (λ master. master == m) shape.masters)) (eqb-true p.master o.master same) ∙ ap (λ found. most_ports + place_in found) at))
                        (λ same.
                        let is : most_ports + place_in (position (λ master. master == p.master) shape.masters) ≡ most_ports + n = eqb-true (most_ports + place_in (position (λ master. master == p.master) shape.masters)) (most_ports + n) same in
                        let place : place_in (position (λ master. master == p.master) shape.masters) ≡ n = omega (arith, is) in
                        let passes : (o.master == p.master) ≡ true = place_passes (λ master. master == p.master) shape.masters n o.master (omega arith) there place in
                        eq-eqb p.master o.master (sym (eqb-true o.master p.master passes)))
                    | ByLane l ↦ apart_test (place_in (position (λ k. same_lane k l) shape.lanes)) (most_ports + n)
                        (lane_small (position (λ k. same_lane k l) shape.lanes) n small (λ k is. let found = found_at (λ m. same_lane m l) shape.lanes k is in within_lanes k found.0 found.1.0))
                  ],
            );
      }

-- a bus before its first event
pub stands_first : (s : BusView) → StandsAtFirst s
stands_first s =
    record {
      first = λ board tags came is_of lines ports masters targets through. record {
        is_of = is_of;
        lines = lines;
        ports = λ n port there. (ports n port there).stands tags came;
        masters = masters;
        targets = targets;
        through = through;
        parts = λ o request is. inl refl;
      };
    }

-- what a port offers is what its lane presents on the bus
pub bus_offers : (place : ℕ) (s : BusView) (offers : List Offer) (port : PortView) → slice_get s.ports place ≡ Some port → offers ≡ offers_of port.face → BusOffers place s offers
bus_offers place s offers port there is =
    record {
      wanted = λ board tags world p lane o at stands.
          let one = map_get (λ (x : PortView). x.lane) s.ports place lane at in
          let both = sym one.1.0 ∙ there in
          let same : one.0 ≡ port = cc in
          let own : port.lane ≡ lane = sym (ap (λ (x : PortView). x.lane) same) ∙ one.1.1 in
          subst (λ l. wants_in board world p s.bus (ByLane l) o ≡ list_any (is_offer_of o) offers) own
          ((port_offers port offers (offers_on_lanes port.face offers is)).wanted board s.bus tags world p o (stands.ports place port there));
    }
