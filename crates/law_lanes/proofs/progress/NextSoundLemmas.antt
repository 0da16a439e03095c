-- The next event is allowed.
use Rattle.std.proofs.Common.{◌≡◌, ℕ, zero, suc, Bool, true, false, cond, List, [], ◌∷◌, length, Option, Some, None, refl}
use Rattle.std.specs.Prelude.{IfSome}
use Rattle.std.specs.Option.{option_or}
use Rattle.pci_command.specs.declared.op_id.OpId.{OpId}
use Rattle.board_model.specs.declared.bridge.Lane.{Lane as BridgeLane}
use Rattle.board_model.specs.declared.board.Board.{Board}
use Rattle.history_model.specs.declared.event.By.{By}
use Rattle.history_model.specs.declared.event.By.TheVariants.{Master, Lane as ByLane}
use Rattle.history_model.specs.declared.event.Mark.{Mark}
use Rattle.history_model.specs.declared.event.Event.{Event}
use Rattle.history_model.specs.declared.item.Carried.{Carried}
use Rattle.history_model.specs.declared.item.Carried.TheVariants.{Post, Ask, Done, Room, Gone}
use Rattle.history_model.specs.declared.item.Answer.{Answer}
use Rattle.history_model.specs.declared.item.Answer.TheVariants.{Gives, Retry}
use Rattle.history_model.specs.World.{world_of}
use Rattle.history_model.specs.Program.{turn_of}
use Rattle.history_model.specs.Answers.{wants, answer}
use Rattle.history_model.specs.Runs.{next_mark, Allowed}
use Rattle.history_model.specs.Next.{first_in, first_below, first_bus, down_to, up_from, ends_on, given_on, first_lane, arrival_of, arrival_at, first_arrival, act_given, act_of, act_of_item, act_of_lane, act_of_turn, act_of_masters, act_on, first_act, next_of}

-- what holds of each of two holds of the first that is there
or_holds : {Y : Type 0} (P : Y → Type 0) (a b : Option Y) → IfSome a P → IfSome b P → IfSome (option_or a b) P
or_holds P None b here there = there
or_holds P (Some y) b here there = here

-- of a list
in_holds : {X Y : Type 0} (P : Y → Type 0) (gives : X → Option Y) → ((x : X) → IfSome (gives x) P) → (xs : List X) → IfSome (first_in gives xs) P
in_holds P gives each [] = tt
in_holds P gives each (x ∷ xs) = or_holds P (gives x) (first_in gives xs) (each x) (in_holds P gives each xs)

-- of the numbers below a bound
below_holds : {Y : Type 0} (P : Y → Type 0) (gives : ℕ → Option Y) → ((k : ℕ) → IfSome (gives k) P) → (n : ℕ) → IfSome (first_below n gives) P
below_holds P gives each zero = tt
below_holds P gives each (suc n) = or_holds P (first_below n gives) (gives n) (below_holds P gives each n) (each n)

-- of the buses
bus_holds : {Y : Type 0} (P : Y → Type 0) (gives : ℕ → Option Y) → ((k : ℕ) → IfSome (gives k) P) → IfSome (first_bus gives) P
unfolding first_bus
bus_holds P gives each = below_holds P gives each 256

-- of a lane, where it ends on the bus
given_holds : {Y : Type 0} (P : Y → Type 0) (board : Board) (bus : ℕ) (gives : BridgeLane → Option Y) → ((lane : BridgeLane) → IfSome (gives lane) P) → (lane : BridgeLane) → IfSome (given_on board bus gives lane) P
given_holds P board bus gives each lane =
    let Q : Bool → Type 0 = λ b. IfSome (cond b (gives lane) None) P in
    elim (ends_on board bus lane) as Q [ true ↦ each lane | false ↦ tt ]

-- of the lanes that end on the bus
lane_holds : {Y : Type 0} (P : Y → Type 0) (board : Board) (bus : ℕ) (gives : BridgeLane → Option Y) → ((lane : BridgeLane) → IfSome (gives lane) P) → IfSome (first_lane board bus gives) P
lane_holds {Y} P board bus gives each =
    let below : ℕ → Option Y = λ child. given_on board bus gives (up_from child) in
    or_holds P (given_on board bus gives (down_to bus)) (first_bus below) (given_holds P board bus gives each (down_to bus))
    (bus_holds P below (λ child. given_holds P board bus gives each (up_from child)))

module _ (board : Board) (h : List Event) where
  -- what is to hold of it
  abbrev Good : Event → Type 0
  Good = Allowed board h

  -- an arrival with the mark that is next
  mark_allowed : (lane : BridgeLane) (mark : Option Mark) → next_mark board h lane ≡ mark → IfSome (arrival_of lane mark) Good
  mark_allowed lane None is = tt
  mark_allowed lane (Some mark) is = is

  -- so the first arrival is allowed
  arrivals_allowed : IfSome (first_arrival board h) Good
  arrivals_allowed =
      bus_holds Good (λ bus. first_lane board bus (arrival_at board h))
      (λ bus. lane_holds Good board bus (arrival_at board h) (λ lane. mark_allowed lane (next_mark board h lane) refl))

  -- an act that is presented, with its answer
  given_allowed : (on : ℕ) (by : By) (o : OpId) (wanted : Bool) (given : Answer) → wants board h on by o ≡ wanted → answer board h on by o ≡ given
      → IfSome (cond wanted (act_given on by o given) None) Good
  given_allowed on by o true (Gives step place) is gives = (is, gives)
  given_allowed on by o true (Retry cause) is gives = tt
  given_allowed on by o false given is gives = tt

  -- so it is allowed
  act_allowed : (on : ℕ) (by : By) (o : OpId) → IfSome (act_of board h on by o) Good
  act_allowed on by o = given_allowed on by o (wants board h on by o) (answer board h on by o) refl refl

  -- of what stands on a lane
  item_allowed : (on : ℕ) (lane : BridgeLane) (item : Carried) → IfSome (act_of_item board h on lane item) Good
  item_allowed on lane (Post o) = act_allowed on (ByLane lane) o
  item_allowed on lane (Ask o slot) = act_allowed on (ByLane lane) o
  item_allowed on lane (Done o slot outcome) = tt
  item_allowed on lane Room = tt
  item_allowed on lane (Gone slot) = tt

  -- of a master
  turn_allowed : (on : ℕ) (turn : Option OpId) → IfSome (act_of_turn board h on turn) Good
  turn_allowed on None = tt
  turn_allowed on (Some o) = act_allowed on Master o

  -- of a bus
  bus_allowed : (bus : ℕ) → IfSome (act_on board h bus) Good
  bus_allowed bus =
      or_holds Good (first_lane board bus (act_of_lane board h bus)) (act_of_masters board h bus)
      (lane_holds Good board bus (act_of_lane board h bus) (λ lane. in_holds Good (act_of_item board h bus lane) (item_allowed bus lane) (world_of board h lane).standing))
      (below_holds Good (λ master. act_of_turn board h bus (turn_of board h master)) (λ master. turn_allowed bus (turn_of board h master)) (length board.masters))

  -- the next event is allowed
  pub next_allowed : IfSome (next_of board h) Good
  next_allowed = or_holds Good (first_arrival board h) (first_act board h) arrivals_allowed (bus_holds Good (act_on board h) bus_allowed)
