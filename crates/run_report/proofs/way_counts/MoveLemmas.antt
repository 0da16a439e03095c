-- What each move changes of what is still to be counted, and of what was counted for held slots.
use Rattle.std.proofs.Common.{◌≡◌, ℕ, ◌+◌, Bool, true, false, List, [], ◌∷◌, ◌++◌, Some, refl, sym, ap, subst, ◌∙◌, arith}
use Rattle.std.specs.List.{find}
use Rattle.list_facts.specs.Lists.{less, total}
use Rattle.list_facts.proofs.TotalLemmas.{found, total-push, total-less}
use Rattle.pci_command.specs.declared.op_id.OpId.{OpId}
use Rattle.pci_command.specs.declared.op_id.Outcome.{Outcome}
use Rattle.board_model.specs.declared.bridge.Bridge.{Bridge}
use Rattle.board_model.specs.declared.bridge.Lane.{Lane as BridgeLane}
use Rattle.board_model.specs.declared.board.Board.{Board}
use Rattle.board_model.specs.Ways.{lane_back, start_of, end_of}
use Rattle.history_model.specs.declared.event.By.{By}
use Rattle.history_model.specs.declared.event.Mark.TheVariants.{Plain}
use Rattle.history_model.specs.declared.item.Carried.{Carried}
use Rattle.history_model.specs.declared.item.Carried.TheVariants.{Post, Ask, Done, Room, Gone}
use Rattle.history_model.specs.declared.item.Slot.{Slot}
use Rattle.history_model.specs.Lanes.{is_of, is_done_for, has_number, lowest_free, post_enters, ask_enters, reply_to, item_ends, slot_taken, arrives_first, arrives}
use Rattle.history_model.specs.World.{World, both, moved}
use Rattle.history_model.specs.Answers.{bridge_to}
use Rattle.law_lanes.specs.Depths.{DifferentNumbers}
use Rattle.run_report.specs.declared.tallies.CountedKind.TheVariants.{Latch, Arrive}
use Rattle.run_report.specs.way_counts.WayCounts.{Weight}
use Rattle.run_report.proofs.way_counts.Weights.{behind, flying, standing, holding, lane_items, lane_slots, items, slots}
use Rattle.run_report.proofs.way_counts.SumLemmas.{over-move}

-- the word that a request was dropped
abbrev pub is_gone : Carried → Bool
is_gone (Post op) = false
is_gone (Ask op slot) = false
is_gone (Done op slot outcome) = false
is_gone Room = false
is_gone (Gone slot) = true

module _ (board : Board) (distinct : DifferentNumbers board) (weight : Weight) (lane : BridgeLane) (world : World) (bridge : Bridge) (is_bridge : bridge_to board lane.bus ≡ Some bridge) where
  -- a posted write enters
  pub post_items : (o : OpId) → items board weight (moved (post_enters o) lane world) ≡ items board weight world + (weight (end_of board lane) Arrive + behind board weight lane o)
  post_items o =
      omega (arith, over-move board distinct (lane_items board weight) (post_enters o) lane world bridge is_bridge, total-push (flying board weight lane) (world lane).flight (Post o))

  pub post_slots : (o : OpId) → slots board weight (moved (post_enters o) lane world) ≡ slots board weight world
  post_slots o = omega (arith, over-move board distinct (lane_slots board weight) (post_enters o) lane world bridge is_bridge)

  -- a delayed request enters, and holds a slot
  pub ask_items : (by : By) (o : OpId) → items board weight (moved (ask_enters by o) lane world) ≡ items board weight world + (weight (end_of board lane) Arrive + behind board weight lane o)
  ask_items by o =
      omega (arith, over-move board distinct (lane_items board weight) (ask_enters by o) lane world bridge is_bridge, total-push (flying board weight lane) (world lane).flight (Ask o (lowest_free (world lane).held)))

  pub ask_slots : (by : By) (o : OpId) → slots board weight (moved (ask_enters by o) lane world) ≡ slots board weight world + (weight (start_of board lane) Latch + (weight (end_of board lane) Arrive + behind board weight lane o))
  ask_slots by o =
      omega (
        arith,
        over-move board distinct (lane_slots board weight) (ask_enters by o) lane world bridge is_bridge,
        total-push (holding board weight lane) (world lane).held (record { number = lowest_free (world lane).held; by = by; op = o }),
      )

  -- an item ends, and its answer goes back
  pub ends_items : (o : OpId) (outcome : Outcome) (item reply : Carried) → find (is_of o) (world lane).standing ≡ Some item → reply_to outcome (Some item) ≡ reply ∷ []
      → items board weight (moved (item_ends o outcome) lane world) + standing board weight lane item ≡ items board weight world + flying board weight (lane_back lane) reply
  ends_items o outcome item reply stands replies =
      let here : List Carried = (world lane).standing in
      let flight : List Carried = (world (lane_back lane)).flight in
      let W : Carried → ℕ = standing board weight lane in
      let V : Carried → ℕ = flying board weight (lane_back lane) in
      let replied : total V (flight ++ reply_to outcome (find (is_of o) here)) ≡ total V (flight ++ reply ∷ []) =
      ap (λ x. total V (flight ++ reply_to outcome x)) stands ∙ ap (λ x. total V (flight ++ x)) replies in
      let took : total W (less (is_of o) here) + W item ≡ total W here =
      ap (λ x. total W (less (is_of o) here) + found W x) (sym stands) ∙ total-less W (is_of o) here in
      omega (arith, over-move board distinct (lane_items board weight) (item_ends o outcome) lane world bridge is_bridge, replied, took, total-push V flight reply)

  pub ends_slots : (o : OpId) (outcome : Outcome) → slots board weight (moved (item_ends o outcome) lane world) ≡ slots board weight world
  ends_slots o outcome = omega (arith, over-move board distinct (lane_slots board weight) (item_ends o outcome) lane world bridge is_bridge)

  -- a completion is taken, and its slot is free
  pub taken_items : (number : ℕ) (op : OpId) (other : ℕ) (outcome : Outcome) → find (is_done_for number) (world (lane_back lane)).standing ≡ Some (Done op other outcome)
      → items board weight (moved (slot_taken number) lane world) ≡ items board weight world
  taken_items number op other outcome stands =
      let there : List Carried = (world (lane_back lane)).standing in
      let W : Carried → ℕ = standing board weight (lane_back lane) in
      let took : total W (less (is_done_for number) there) + 0 ≡ total W there =
      ap (λ x. total W (less (is_done_for number) there) + found W x) (sym stands) ∙ total-less W (is_done_for number) there in
      omega (arith, over-move board distinct (lane_items board weight) (slot_taken number) lane world bridge is_bridge, took)

  pub taken_slots : (number : ℕ) (slot : Slot) → find (has_number number) (world lane).held ≡ Some slot
      → slots board weight (moved (slot_taken number) lane world) + holding board weight lane slot ≡ slots board weight world
  taken_slots number slot held =
      let W : Slot → ℕ = holding board weight lane in
      let took : total W (less (has_number number) (world lane).held) + W slot ≡ total W (world lane).held =
      ap (λ x. total W (less (has_number number) (world lane).held) + found W x) (sym held) ∙ total-less W (has_number number) (world lane).held in
      omega (arith, over-move board distinct (lane_slots board weight) (slot_taken number) lane world bridge is_bridge, took)

  -- an item that is no word of a dropped request arrives
  abbrev Comes : List Carried → Type 0
  Comes flight =
      lane_items board weight lane (arrives_first Plain flight (both world lane)).here + lane_items board weight (lane_back lane) (arrives_first Plain flight (both world lane)).back + weight (end_of board lane) Arrive
      ≡ total (flying board weight lane) flight + total (standing board weight lane) (world lane).standing + lane_items board weight (lane_back lane) (world (lane_back lane))

  comes : (item : Carried) (rest : List Carried) → is_gone item ≡ false → Comes (item ∷ rest)
  comes (Post op) rest other = omega (arith, total-push (standing board weight lane) (world lane).standing (Post op))
  comes (Ask op slot) rest other = omega (arith, total-push (standing board weight lane) (world lane).standing (Ask op slot))
  comes (Done op slot outcome) rest other = omega (arith, total-push (standing board weight lane) (world lane).standing (Done op slot outcome))
  comes Room rest other = omega arith
  comes (Gone slot) rest other = cc

  pub comes_items : (item : Carried) (rest : List Carried) → (world lane).flight ≡ item ∷ rest → is_gone item ≡ false
      → items board weight (moved (arrives Plain) lane world) + weight (end_of board lane) Arrive ≡ items board weight world
  comes_items item rest flies other =
      let came : Comes (world lane).flight = subst Comes (sym flies) (comes item rest other) in
      omega (arith, over-move board distinct (lane_items board weight) (arrives Plain) lane world bridge is_bridge, came)

  abbrev Same : List Carried → Type 0
  Same flight =
      lane_slots board weight lane (arrives_first Plain flight (both world lane)).here + lane_slots board weight (lane_back lane) (arrives_first Plain flight (both world lane)).back
      ≡ lane_slots board weight lane (world lane) + lane_slots board weight (lane_back lane) (world (lane_back lane))

  same : (item : Carried) (rest : List Carried) → is_gone item ≡ false → Same (item ∷ rest)
  same (Post op) rest other = refl
  same (Ask op slot) rest other = refl
  same (Done op slot outcome) rest other = refl
  same Room rest other = refl
  same (Gone slot) rest other = cc

  pub comes_slots : (item : Carried) (rest : List Carried) → (world lane).flight ≡ item ∷ rest → is_gone item ≡ false
      → slots board weight (moved (arrives Plain) lane world) ≡ slots board weight world
  comes_slots item rest flies other =
      let stays : Same (world lane).flight = subst Same (sym flies) (same item rest other) in
      omega (arith, over-move board distinct (lane_slots board weight) (arrives Plain) lane world bridge is_bridge, stays)
