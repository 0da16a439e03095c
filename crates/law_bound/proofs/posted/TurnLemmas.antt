-- A slot is held only for an operation that is its master's turn: each lane that holds a slot got the request from
-- its master, or from a lane that holds a slot for it too, and so on back to the master.
use Rattle.std.proofs.Common.{◌≡◌, ℕ, zero, suc, ◌+◌, ◌*◌, ◌-◌, ◌<◌, ◌≤◌, Bool, true, false, cond, List, [], ◌∷◌, Option, Some, None, refl, sym, ap, subst, ◌∙◌, arith}
use Rattle.std.specs.List.{AllByRecursion}
use Rattle.list_facts.proofs.EachLemmas.{Each-weaker, Each-both, Each-find}
use Rattle.list_facts.specs.Lists.{greatest}
use Rattle.pci_command.specs.declared.op_id.OpId.{OpId}
use Rattle.board_model.specs.declared.bridge.Bridge.{Bridge}
use Rattle.board_model.specs.declared.bridge.Lane.{Lane as BridgeLane}
use Rattle.board_model.specs.declared.bridge.Place.TheVariants.{Lane}
use Rattle.board_model.specs.declared.op.Op.{Op}
use Rattle.board_model.specs.declared.board.Board.{Board}
use Rattle.board_model.specs.Requests.{op_of, request_on}
use Rattle.board_model.specs.Claims.{claim}
use Rattle.board_model.specs.Ways.{end_of, start_of}
use Rattle.board_model.specs.WellFormed.{has_bus}
use Rattle.board_model.specs.Valid.{IsValid}
use Rattle.board_model.specs.form_laws.Trees.{IsTree}
use Rattle.board_model.specs.form_laws.WayEnds.{last_bus, rank, GoesOn}
use Rattle.board_model.proofs.form_laws.Laws.{rank-falls, IsTree-valid, number_of}
use Rattle.history_model.specs.declared.event.By.{By}
use Rattle.history_model.specs.declared.event.By.TheVariants.{Master, Lane as ByLane}
use Rattle.history_model.specs.declared.event.Event.{Event}
use Rattle.history_model.specs.declared.item.Carried.TheVariants.{Ask}
use Rattle.history_model.specs.declared.item.Slot.{Slot}
use Rattle.history_model.specs.Lanes.{LaneState, empty_lane, has_number}
use Rattle.history_model.specs.World.{World, world_of}
use Rattle.history_model.specs.Program.{turn_of}
use Rattle.history_model.specs.Answers.{bridge_to}
use Rattle.history_model.specs.Runs.{Run}
use Rattle.law_lanes.specs.Depths.{DifferentNumbers}
use Rattle.law_lanes.specs.Phases.{DelayedAreSingle}
use Rattle.law_lanes.specs.Slots.{IsHeldFor, AskNamed}
use Rattle.law_lanes.specs.Latched.{IsAt, Latched}
use Rattle.law_lanes.specs.Owners.{is_equal_ask, Waits}
use Rattle.law_lanes.proofs.Laws.{Latched-run, Owners-run, Quiet-empty, run_no_bridge, Slots-run, WellFormed-numbers, WellFormed-single}
use Rattle.history_model.proofs.facts.RequestLemmas.{request_is_of}

-- no bridge has a greater number than the last bus
at_most : (bridges : List Bridge) (most : ℕ) → greatest (λ (bridge : Bridge). bridge.bus) bridges ≤ most → AllByRecursion (λ (bridge : Bridge). bridge.bus ≤ most) bridges
at_most [] most below = tt
at_most (bridge ∷ bridges) most below = (omega (arith, below), at_most bridges most (omega (arith, below)))

-- so no lane of a bridge has a rank above twice that
rank_most : (board : Board) (lane : BridgeLane) (bridge : Bridge) → bridge_to board lane.bus ≡ Some bridge → rank board lane ≤ 2 * last_bus board
rank_most board lane bridge is =
    let last : ℕ = last_bus board in
    let most : bridge.bus ≤ last = Each-find (λ (b : Bridge). b.bus ≤ last) (has_bus lane.bus) board.bridges bridge (at_most board.bridges last (omega arith)) is in
    let number : bridge.bus ≡ lane.bus = number_of board lane.bus bridge is in
    let P : Bool → Type 0 = λ b. cond b (last + lane.bus) (last - lane.bus) ≤ 2 * last in
    elim lane.up as P [ true ↦ omega (arith, most, number) | false ↦ omega arith ]

module _ (board : Board) (tree : IsTree board) (distinct : DifferentNumbers board) (single : DelayedAreSingle board) (h : List Event) (run : Run board h) where
  -- what is on the lanes
  abbrev world : World
  world = world_of board h

  -- the slot is held for its master's turn
  abbrev ForTurn : Slot → Type 0
  ForTurn slot = turn_of board h slot.op.master ≡ Some slot.op

  -- where a lane gave the request, it holds a slot for the operation too, and its rank is greater
  record Behind (lane k : BridgeLane) (o : OpId) : Type 0 where
    number : ℕ
    held : IsHeldFor (world k).held number o
    above : rank board lane < rank board k

  -- since its request stands on that lane
  goes_behind : (lane k : BridgeLane) (slot : Slot) → Latched board lane slot → end_of board k ≡ start_of board lane → Waits board (turn_of board h) world (start_of board lane) (ByLane k) slot.op → Behind lane k slot.op
  goes_behind lane k slot latched ends waits =
      let o : OpId = slot.op in
      let named : IsHeldFor (world k).held waits.number o =
      Each-find (AskNamed (world k).held) (is_equal_ask board (start_of board lane) o) (world k).standing (Ask o waits.number) (Slots-run board h k run).asks_standing waits.first in
      let before : Latched board k named.slot = Each-find (Latched board k) (has_number waits.number) (world k).held named.slot (Latched-run board h k distinct single run) named.is_held in
      let of_op = request_is_of board o (start_of board lane) latched.request latched.is_request in
      let op : Op = of_op.op in
      let of_before = request_is_of board named.slot.op (start_of board k) before.request before.is_request in
      let same_op : op_of board o ≡ Some of_before.op = ap (op_of board) (sym named.is_for) ∙ of_before.is_op in
      let ops : of_before.op ≡ op = let somes : Some of_before.op ≡ Some op = sym same_op ∙ of_op.is_op in cc in
      let first : claim board (start_of board k) (request_on op (start_of board k)) ≡ Lane k =
      subst (λ p. claim board (start_of board k) (request_on p (start_of board k)) ≡ Lane k) ops (subst (λ r. claim board (start_of board k) r ≡ Lane k) of_before.is_request before.claims) in
      let here : claim board (start_of board lane) (request_on op (start_of board lane)) ≡ Lane lane = subst (λ r. claim board (start_of board lane) r ≡ Lane lane) of_op.is_request latched.claims in
      let second : claim board (end_of board k) (request_on op (end_of board k)) ≡ Lane lane = subst (λ n. claim board n (request_on op n) ≡ Lane lane) (sym ends) here in
      let goes : GoesOn board op (start_of board k) k lane = record { first = first; second = second } in
      record { number = waits.number; held = named; above = rank-falls board op (start_of board k) k lane tree goes }

  -- what is known of each held slot
  abbrev Known : BridgeLane → Slot → Type 0
  Known lane slot = Latched board lane slot × Waits board (turn_of board h) world (start_of board lane) slot.by slot.op

  -- all that is known of all slots of a lane
  known : (lane : BridgeLane) → AllByRecursion (Known lane) (world lane).held
  known lane =
      Each-both (Latched board lane) (λ (slot : Slot). Waits board (turn_of board h) world (start_of board lane) slot.by slot.op) (world lane).held
      (Latched-run board h lane distinct single run) ((Owners-run board distinct single h run).waits lane)

  -- a slot latched by a master, and one latched by a lane of a greater rank where all slots are for turns
  slot_turn : (lane : BridgeLane) → ((k : BridgeLane) → rank board lane < rank board k → AllByRecursion ForTurn (world k).held) → (slot : Slot) → Known lane slot → ForTurn slot
  slot_turn lane above slot is =
      let P : By → Type 0 = λ by. IsAt board (start_of board lane) by slot.op → Waits board (turn_of board h) world (start_of board lane) by slot.op → ForTurn slot in
      (elim slot.by as P [
        | Master ↦ λ _ waits. waits
        | ByLane k ↦ λ ends waits.
            let behind = goes_behind lane k slot is.0 ends waits in
            let there : ForTurn behind.held.slot = Each-find ForTurn (has_number behind.number) (world k).held behind.held.slot (above k behind.above) behind.held.is_held in
            subst (λ o. turn_of board h o.master ≡ Some o) behind.held.is_for there
      ]) is.0.initiator is.1

  -- nothing is held on a lane of no bridge, nor is there one of a greater rank than the greatest
  turns_from : (n : ℕ) (lane : BridgeLane) → 2 * last_bus board < rank board lane + n → AllByRecursion ForTurn (world lane).held
  turns_from zero lane beyond =
      let P : Option Bridge → Type 0 = λ found. bridge_to board lane.bus ≡ found → AllByRecursion ForTurn (world lane).held in
      (elim (bridge_to board lane.bus) as P [
        | None ↦ λ none.
            let empty : world lane ≡ empty_lane = Quiet-empty board h lane (run_no_bridge board lane.bus h none run) in
            subst (λ (s : LaneState). AllByRecursion ForTurn s.held) (sym empty) tt
        | Some bridge ↦ λ is. absurd (omega (arith, rank_most board lane bridge is, beyond))
      ]) refl
  turns_from (suc n) lane beyond =
      Each-weaker (Known lane) ForTurn (slot_turn lane (λ k above. turns_from n k (omega (arith, beyond, above)))) (world lane).held (known lane)

  -- so on each lane
  turns_of : (lane : BridgeLane) → AllByRecursion ForTurn (world lane).held
  turns_of lane = turns_from (2 * last_bus board + 1) lane (omega arith)

-- in every run of a valid board
pub slots_turn : (board : Board) (h : List Event) (lane : BridgeLane) → IsValid board → Run board h → AllByRecursion (λ (slot : Slot). turn_of board h slot.op.master ≡ Some slot.op) (world_of board h lane).held
slots_turn board h lane valid run =
    turns_of board (IsTree-valid board valid) (WellFormed-numbers board valid.well_formed) (WellFormed-single board valid.well_formed) h run lane
