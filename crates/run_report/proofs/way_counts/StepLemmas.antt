-- Each event counts what it takes from what is still to be counted.
use Rattle.std.proofs.Common.{◌≡◌, ℕ, ◌+◌, true, false, [], ◌∷◌, Option, Some, None, refl, sym, ap, subst, ◌∙◌, arith}
use Rattle.std.specs.List.{find}
use Rattle.list_facts.proofs.FindLemmas.{find-less_other}
use Rattle.pci_command.specs.declared.op_id.OpId.{OpId}
use Rattle.pci_command.specs.declared.op_id.Outcome.{Outcome}
use Rattle.pci_command.specs.declared.op_id.Outcome.TheVariants.{Written}
use Rattle.board_model.specs.declared.bridge.Bridge.{Bridge}
use Rattle.board_model.specs.declared.bridge.Lane.{Lane as BridgeLane}
use Rattle.board_model.specs.declared.bridge.Place.{Place}
use Rattle.board_model.specs.declared.bridge.Place.TheVariants.{Target, Header, Lane, Nobody}
use Rattle.board_model.specs.declared.op.Op.{Op}
use Rattle.board_model.specs.declared.board.Board.{Board}
use Rattle.board_model.specs.Requests.{op_of, request_on, is_posted}
use Rattle.board_model.specs.Claims.{claim}
use Rattle.board_model.specs.Ways.{lane_back, start_of, end_of, is_lane}
use Rattle.history_model.specs.declared.event.By.{By}
use Rattle.history_model.specs.declared.event.By.TheVariants.{Master, Lane as ByLane}
use Rattle.history_model.specs.declared.event.Step.{Step}
use Rattle.history_model.specs.declared.event.Step.TheVariants as steps
use Rattle.history_model.specs.declared.item.Carried.{Carried}
use Rattle.history_model.specs.declared.item.Carried.TheVariants.{Post, Ask, Done, Room, Gone}
use Rattle.history_model.specs.Lanes.{is_of, is_done_for, post_enters, ask_enters, reply_to, item_ends, slot_taken}
use Rattle.history_model.specs.World.{World, at_place, lane_outcome, leaves, at_initiator, moved}
use Rattle.history_model.specs.Program.{master_outcome}
use Rattle.history_model.specs.Answers.{bridge_to}
use Rattle.history_model.proofs.facts.MovedLemmas.{moved_each}
use Rattle.history_model.proofs.facts.RequestLemmas.{same_op_true}
use Rattle.law_lanes.specs.Slots.{IsHeldFor}
use Rattle.law_lanes.specs.Depths.{DifferentNumbers}
use Rattle.board_model.specs.form_laws.Trees.{IsTree}
use Rattle.run_report.specs.declared.tallies.CountedKind.{CountedKind}
use Rattle.run_report.specs.declared.tallies.CountedKind.TheVariants.{Accept, Latch, Take, Arrive}
use Rattle.run_report.specs.Counts.{kind_of_step}
use Rattle.run_report.specs.way_counts.WayCounts.{Weight, lane_weight, last_kind, way_weight}
use Rattle.run_report.proofs.way_counts.Weights.{from_bus, behind, flying, standing, items, slots}
use Rattle.run_report.proofs.way_counts.SumLemmas.{end_back}
use Rattle.run_report.proofs.way_counts.MoveLemmas.{post_items, post_slots, ask_items, ask_slots, ends_items, ends_slots, taken_items, taken_slots}
use Rattle.run_report.proofs.way_counts.ClaimLemmas.{over_lane, at_end}
use Rattle.run_report.proofs.way_counts.AnswerLemmas.{IsLast, Last}

-- what the end of an operation at its master counts: all of its way
abbrev pub as_ended : Board → Weight → ℕ → OpId → Option Outcome → ℕ
as_ended board weight on o None = 0
as_ended board weight on o (Some outcome) = from_bus board weight on o

abbrev pub ended_by : Board → Weight → ℕ → By → OpId → Step → ℕ
ended_by board weight on Master o step = as_ended board weight on o (master_outcome step)
ended_by board weight on (ByLane lane) o step = 0

-- an act counts what it takes away
abbrev pub Counts : Board → Weight → World → ℕ → By → OpId → Step → World → Type 0
Counts board weight world on by o step next =
    weight on (kind_of_step step) + (items board weight next + slots board weight world) ≡ items board weight world + (ended_by board weight on by o step + slots board weight next)

-- a last step ends the operation at its master, and the item of a lane
last_master : (step : Step) → IsLast step → (outcome : Outcome) × (master_outcome step ≡ Some outcome)
last_master steps.Land last = (_, refl)
last_master (steps.Part phases) last = absurd last
last_master (steps.Read value) last = (_, refl)
last_master steps.Accept last = absurd last
last_master steps.Latch last = absurd last
last_master (steps.Take outcome) last = absurd last
last_master steps.Stall last = absurd last
last_master steps.MasterAbort last = (_, refl)
last_master steps.TargetAbort last = (_, refl)

last_lane : (board : Board) (k : BridgeLane) (o : OpId) (step : Step) → IsLast step → (outcome : Outcome) × (lane_outcome board k o step ≡ Some outcome)
last_lane board k o steps.Land last = (_, refl)
last_lane board k o (steps.Part phases) last = absurd last
last_lane board k o (steps.Read value) last = (_, refl)
last_lane board k o steps.Accept last = absurd last
last_lane board k o steps.Latch last = absurd last
last_lane board k o (steps.Take outcome) last = absurd last
last_lane board k o steps.Stall last = absurd last
last_lane board k o steps.MasterAbort last = (_, refl)
last_lane board k o steps.TargetAbort last = (_, refl)

-- where no lane claims, nothing enters one
stays : (board : Board) (on : ℕ) (by : By) (o : OpId) (step : Step) (place : Place) (world : World) → is_lane place ≡ false → at_place board on by o step place world ≡ world
stays board on by o step (Target target) world none = refl
stays board on by o step (Header bus) world none = refl
stays board on by o step (Lane lane) world none = cc
stays board on by o step Nobody world none = refl

-- the item of an operation that a lane presents, and what goes back for it
pub record Presented (board : Board) (weight : Weight) (world : World) (k : BridgeLane) (o : OpId) : Type 0 where
  pub item : Carried
  pub stands : find (is_of o) (world k).standing ≡ Some item
  pub bridge : Bridge
  pub is_bridge : bridge_to board k.bus ≡ Some bridge

-- what it counts there, and what goes back for it
of_item : (board : Board) (weight : Weight) (k : BridgeLane) (o : OpId) (outcome : Outcome) (item : Carried) → is_of o item ≡ true
    → (standing board weight k item ≡ behind board weight k o) × ((reply : Carried) × (reply_to outcome (Some item) ≡ reply ∷ []) × (flying board weight (lane_back k) reply ≡ weight (start_of board k) Arrive))
of_item board weight k o outcome (Post op) passes =
    (ap (behind board weight k) (sym (same_op_true o op passes)), (Room, refl, ap (λ n. weight n Arrive) (end_back board k)))
of_item board weight k o outcome (Ask op slot) passes =
    (ap (behind board weight k) (sym (same_op_true o op passes)), (Done op slot outcome, refl, ap (λ n. weight n Arrive) (end_back board k)))
of_item board weight k o outcome (Done op slot given) passes = cc
of_item board weight k o outcome Room passes = cc
of_item board weight k o outcome (Gone slot) passes = cc

module _ (board : Board) (distinct : DifferentNumbers board) (tree : IsTree board) (weight : Weight) (o : OpId) (op : Op) (is_op : op_of board o ≡ Some op) where
  of_op : (bus : ℕ) → from_bus board weight bus o ≡ way_weight board weight bus op
  of_op bus = rw is_op refl

  -- the item of a lane ends: what was behind the lane is taken away, but for the arrival of the answer
  item_ended : (world : World) (k : BridgeLane) (outcome : Outcome) (item : Carried) (bridge : Bridge) → bridge_to board k.bus ≡ Some bridge → find (is_of o) (world k).standing ≡ Some item → is_of o item ≡ true
      → (items board weight (moved (item_ends o outcome) k world) + from_bus board weight (end_of board k) o ≡ items board weight world) × (slots board weight (moved (item_ends o outcome) k world) ≡ slots board weight world)
  item_ended world k outcome item bridge is_bridge stands passes =
      let of = of_item board weight k o outcome item passes in (
        omega (arith, ends_items board distinct weight k world bridge is_bridge o outcome item of.1.0 stands of.1.1, of.0, of.1.2),
        ends_slots board distinct weight k world bridge is_bridge o outcome,
      )

  -- the last step of a way, as a master presents it
  pub master_last : (world : World) (on : ℕ) (step : Step) (place : Place) → is_lane (claim board on (request_on op on)) ≡ false → Last step place (last_kind board (request_on op on) (claim board on (request_on op on)))
      → Counts board weight world on Master o step (at_initiator board Master o step (at_place board on Master o step place world))
  master_last world on step place none last =
      let whole = at_end board weight op on (claim board on (request_on op on)) tree refl none in
      let ended = last_master step last.is_last in
      let counted : ended_by board weight on Master o step ≡ from_bus board weight on o = ap (as_ended board weight on o) ended.1 in
      subst (Counts board weight world on Master o step) (sym (stays board on Master o step place world last.no_lane))
      (omega (arith, counted, of_op on, whole, ap (weight on) last.is_kind))

  -- and as a lane does
  pub lane_last : (world : World) (on : ℕ) (k : BridgeLane) (step : Step) (place : Place) (item : Carried) (bridge : Bridge) → bridge_to board k.bus ≡ Some bridge → find (is_of o) (world k).standing ≡ Some item → is_of o item ≡ true → end_of board k ≡ on
      → is_lane (claim board on (request_on op on)) ≡ false → Last step place (last_kind board (request_on op on) (claim board on (request_on op on)))
      → Counts board weight world on (ByLane k) o step (at_initiator board (ByLane k) o step (at_place board on (ByLane k) o step place world))
  lane_last world on k step place item bridge is_bridge stands passes ends none last =
      let whole = at_end board weight op on (claim board on (request_on op on)) tree refl none in
      let left = last_lane board k o step last.is_last in
      let gone = item_ended world k left.0 item bridge is_bridge stands passes in
      let here : from_bus board weight (end_of board k) o ≡ from_bus board weight on o = ap (λ n. from_bus board weight n o) ends in
      let there : Counts board weight world on (ByLane k) o step (leaves k o (lane_outcome board k o step) world) =
      subst (λ some. Counts board weight world on (ByLane k) o step (leaves k o some world)) (sym left.1)
      (omega (arith, gone.0, gone.1, here, of_op on, whole, ap (weight on) last.is_kind)) in
      subst (λ w. Counts board weight world on (ByLane k) o step (leaves k o (lane_outcome board k o step) w)) (sym (stays board on (ByLane k) o step place world last.no_lane)) there

  module _ (world : World) (on : ℕ) (lane : BridgeLane) (there : Bridge) (is_there : bridge_to board lane.bus ≡ Some there) (starts : start_of board lane ≡ on) (claims : claim board on (request_on op on) ≡ Lane lane) where
    -- what the operation counts from here on: over the lane, and from its end on
    goes : from_bus board weight on o ≡ lane_weight board weight (is_posted (request_on op on)) lane + from_bus board weight (end_of board lane) o
    goes = of_op on ∙ over_lane board weight op on lane tree claims ∙ ap (λ n. lane_weight board weight (is_posted (request_on op on)) lane + n) (sym (of_op (end_of board lane)))

    at_start : (kind : CountedKind) → weight (start_of board lane) kind ≡ weight on kind
    at_start kind = ap (λ n. weight n kind) starts

    posted_goes : is_posted (request_on op on) ≡ true → from_bus board weight on o ≡ weight on Accept + (weight (end_of board lane) Arrive + behind board weight lane o)
    posted_goes posted =
        let this : lane_weight board weight (is_posted (request_on op on)) lane ≡ lane_weight board weight true lane = ap (λ b. lane_weight board weight b lane) posted in
        omega (arith, goes, this, at_start Accept)

    delayed_goes : is_posted (request_on op on) ≡ false → from_bus board weight on o ≡ weight on Latch + weight on Take + (weight (end_of board lane) Arrive + behind board weight lane o)
    delayed_goes delayed =
        let this : lane_weight board weight (is_posted (request_on op on)) lane ≡ lane_weight board weight false lane = ap (λ b. lane_weight board weight b lane) delayed in
        omega (arith, goes, this, at_start Latch, at_start Take)

    -- a bridge accepts a posted write from its master
    pub master_accept : is_posted (request_on op on) ≡ true → Counts board weight world on Master o steps.Accept (moved (post_enters o) lane world)
    master_accept posted =
        omega (arith, posted_goes posted, post_items board distinct weight lane world there is_there o, post_slots board distinct weight lane world there is_there o)

    -- and from a lane
    pub lane_accept : (k : BridgeLane) (item : Carried) (bridge : Bridge) → bridge_to board k.bus ≡ Some bridge → find (is_of o) (world k).standing ≡ Some item → is_of o item ≡ true → end_of board k ≡ on
        → is_posted (request_on op on) ≡ true → Counts board weight world on (ByLane k) o steps.Accept (moved (item_ends o Written) k (moved (post_enters o) lane world))
    lane_accept k item bridge is_bridge stands passes ends posted =
        let middle : World = moved (post_enters o) lane world in
        let stays_there : (middle k).standing ≡ (world k).standing = moved_each (λ l s. s.standing ≡ (world l).standing) (post_enters o) lane world (λ l _ _. refl) refl refl k in
        let stands_too : find (is_of o) (middle k).standing ≡ Some item = ap (find (is_of o)) stays_there ∙ stands in
        let gone = item_ended middle k Written item bridge is_bridge stands_too passes in
        let here : from_bus board weight (end_of board k) o ≡ from_bus board weight on o = ap (λ n. from_bus board weight n o) ends in
        omega (arith, gone.0, gone.1, here, posted_goes posted, post_items board distinct weight lane world there is_there o, post_slots board distinct weight lane world there is_there o)

    -- a bridge latches a delayed request: nothing has ended yet
    pub latches : (by : By) → Counts board weight world on by o steps.Latch (moved (ask_enters by o) lane world)
    latches Master =
        omega (arith, at_start Latch, ask_items board distinct weight lane world there is_there Master o, ask_slots board distinct weight lane world there is_there Master o)
    latches (ByLane k) =
        omega (arith, at_start Latch, ask_items board distinct weight lane world there is_there (ByLane k) o, ask_slots board distinct weight lane world there is_there (ByLane k) o)

    module _ (number : ℕ) (outcome : Outcome) (held : IsHeldFor (world lane).held number o) (done : find (is_done_for number) (world (lane_back lane)).standing ≡ Some (Done o number outcome)) (delayed : is_posted (request_on op on) ≡ false) where
      freed : slots board weight (moved (slot_taken number) lane world) + (weight on Latch + (weight (end_of board lane) Arrive + behind board weight lane o)) ≡ slots board weight world
      freed =
          omega (arith, taken_slots board distinct weight lane world there is_there number held.slot held.is_held, ap (behind board weight lane) held.is_for, at_start Latch)

      kept : items board weight (moved (slot_taken number) lane world) ≡ items board weight world
      kept = taken_items board distinct weight lane world there is_there number o number outcome done

      -- a master takes a completion
      pub master_takes : Counts board weight world on Master o (steps.Take outcome) (moved (slot_taken number) lane world)
      master_takes = omega (arith, freed, kept, delayed_goes delayed)

      -- what a completion leaves of the request of a lane
      no_done : (item : Carried) → is_done_for number item ≡ true → is_of o item ≡ false
      no_done (Post p) is = cc
      no_done (Ask p slot) is = cc
      no_done (Done p slot given) is = refl
      no_done Room is = cc
      no_done (Gone slot) is = cc

      -- so does a lane, whose request ends
      pub lane_takes : (k : BridgeLane) (item : Carried) (bridge : Bridge) → bridge_to board k.bus ≡ Some bridge → find (is_of o) (world k).standing ≡ Some item → is_of o item ≡ true → end_of board k ≡ on
          → Counts board weight world on (ByLane k) o (steps.Take outcome) (moved (item_ends o outcome) k (moved (slot_taken number) lane world))
      lane_takes k item bridge is_bridge stands passes ends =
          let middle : World = moved (slot_taken number) lane world in
          let found_there : find (is_of o) (middle k).standing ≡ find (is_of o) (world k).standing =
          moved_each (λ l s. find (is_of o) s.standing ≡ find (is_of o) (world l).standing) (slot_taken number) lane world (λ l _ _. refl) refl (find-less_other (is_done_for number) (is_of o) no_done (world (lane_back lane)).standing) k in
          let gone = item_ended middle k outcome item bridge is_bridge (found_there ∙ stands) passes in
          let here : from_bus board weight (end_of board k) o ≡ from_bus board weight on o = ap (λ n. from_bus board weight n o) ends in
          omega (arith, gone.0, gone.1, here, freed, kept, delayed_goes delayed)
