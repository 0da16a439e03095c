-- What is kept at a moment.
use Rattle.std.proofs.Common.{◌≡◌, ℕ, ◌<◌, Bool, true, false, eqb, List, [], ◌∷◌, length, replicate, Option, Some, None, refl, sym, ap, subst, ◌∙◌, arith, eqb-true, slice_get, inl, inr, zero, suc}
use Rattle.std.specs.Option.{option_map_or}
use Rattle.std.proofs.Math.ListN.{set}
use Rattle.std.proofs.lemmas.Bool.{cases_lt}
use Rattle.std.proofs.lemmas.Bool.Decides.{nat_tests}
use Rattle.std.proofs.lemmas.List.{length-set, length-replicate}
use Rattle.std.proofs.lemmas.Option.{slice_get_past}
use Rattle.pci_command.specs.declared.op_id.OpId.{OpId}
use Rattle.board_model.specs.declared.board.Board.{Board}
use Rattle.board_model.specs.declared.bridge.Lane.{Lane as BridgeLane}
use Rattle.history_model.specs.declared.event.By.TheVariants.{Master, Lane as ByLane}
use Rattle.history_model.specs.declared.event.Event.{Event}
use Rattle.history_model.specs.declared.event.Event.TheVariants.{Act, Arrive}
use Rattle.history_model.specs.Lanes.{LaneState}
use Rattle.history_model.specs.declared.item.Moved.{Moved}
use Rattle.history_model.specs.declared.rule.Rule.TheVariants.{Tagged}
use Rattle.history_model.specs.World.{world_of}
use Rattle.history_model.specs.Moves.{moved_by}
use Rattle.history_model.specs.Program.{turn_of}
use Rattle.history_model.specs.Answers.{is_turn}
use Rattle.history_model.specs.Runs.{Allowed}
use Rattle.judge_state.specs.State.{KeptState, flat, turn_in, lane_in}
use Rattle.judge_state.specs.Stands.{StandsFor}
use Rattle.judge_state.proofs.LookLemmas.{lane_now}
use Rattle.run_waves.specs.declared.scene.Scene.{Scene}
use Rattle.run_waves.specs.declared.reading.SignalReading.TheVariants as readings
use Rattle.run_waves.specs.declared.signal.LaneCount.{LaneCount}
use Rattle.run_waves.specs.declared.signal.Signal.{Signal}
use Rattle.run_waves.specs.declared.signal.Signal.TheVariants.{Lane, Waits}
use Rattle.run_waves.specs.Shown.{Moment, past, beginning, next, item_by, count_on, waits, Level, Number}
use Rattle.run_waves.specs.Scenes.{IsAt, Reads, came_in, waits_next}
use Rattle.run_waves.proofs.WaitLemmas.{own_waits, other_waits, lane_waits}

-- an element that is replaced
pub set_here : {X : Type 0} (xs : List X) (i : ℕ) (y : X) → i < length xs → slice_get (set xs i y) i ≡ Some y
set_here [] i y within = absurd (omega arith)
set_here (x ∷ xs) zero y within = refl
set_here (x ∷ xs) (suc i) y within = set_here xs i y (omega arith)

-- and any other
pub set_other : {X : Type 0} (xs : List X) (i k : ℕ) (y : X) → eqb i k ≡ false → slice_get (set xs i y) k ≡ slice_get xs k
set_other [] i k y differ = refl
set_other (x ∷ xs) zero zero y differ = cc
set_other (x ∷ xs) zero (suc k) y differ = refl
set_other (x ∷ xs) (suc i) zero y differ = refl
set_other (x ∷ xs) (suc i) (suc k) y differ = set_other xs i k y (grind (arith, nat_tests))

no_event : (turn : Option OpId) → false ≡ waits [] turn
no_event None = refl
no_event (Some o) = refl

replicate_at : (n k : ℕ) → k < n → slice_get (replicate n false) k ≡ Some false
replicate_at zero k within = absurd (omega arith)
replicate_at (suc n) zero within = refl
replicate_at (suc n) (suc k) within = replicate_at n k (omega arith)

-- before the first event
pub at_first : (board : Board) (kept : KeptState) (waiting : List Bool) (scene : Option Scene) → StandsFor board [] kept → waiting ≡ replicate (length board.masters) false → scene ≡ None
    → IsAt board beginning kept waiting scene
at_first board kept waiting scene stands waiting_are none =
    record {
      stands = stands;
      masters = ap (λ (l : List Bool). length l) waiting_are ∙ length-replicate (length board.masters) false;
      waiting_is = λ master within.
          ap (λ (l : List Bool). slice_get l master) waiting_are ∙ replicate_at (length board.masters) master within ∙ ap Some (no_event (turn_of board [] master));
      scene_is = none;
    }

-- who waits after an event
waiting_after : (board : Board) (h : List Event) (e : Event) (k : KeptState) (waiting : List Bool) → StandsFor board h k → Allowed board h e → (after : KeptState) → StandsFor board (e ∷ h) after
    → length waiting ≡ length board.masters → ((master : ℕ) → master < length board.masters → slice_get waiting master ≡ Some (waits h (turn_of board h master)))
    → (master : ℕ) → master < length board.masters → slice_get (waits_next after.turns e waiting) master ≡ Some (waits (e ∷ h) (turn_of board (e ∷ h) master))
waiting_after board h (Act on Master o step place) k waiting stands allowed after goes_on many were master within =
    let e : Event = Act on Master o step place in
    let still : Bool = is_turn o (turn_in after.turns o.master) in
    let P : Bool → Type 0 = λ b. eqb o.master master ≡ b → slice_get (set waiting o.master still) master ≡ Some (waits (e ∷ h) (turn_of board (e ∷ h) master)) in
    (elim (eqb o.master master) as P [
      | true ↦ λ same.
          let one : o.master ≡ master = eqb-true o.master master same in
          let room : o.master < length waiting = omega (arith, one, many, within) in
          let here : slice_get (set waiting o.master still) o.master ≡ Some (waits (e ∷ h) (turn_of board (e ∷ h) o.master)) =
          set_here waiting o.master still room ∙ ap Some (ap (is_turn o) (goes_on.turns o.master) ∙ own_waits board on o step place h allowed stands.run) in
          subst (λ (m : ℕ). slice_get (set waiting o.master still) m ≡ Some (waits (e ∷ h) (turn_of board (e ∷ h) m))) one here
      | false ↦ λ differ. set_other waiting o.master master still differ ∙ were master within ∙ ap Some (other_waits board on o step place h master differ)
    ]) refl
waiting_after board h (Act on (ByLane lane) o step place) k waiting stands allowed after goes_on many were master within =
    were master within ∙ ap Some (lane_waits h (Act on (ByLane lane) o step place) (turn_of board h master) (λ p. refl))
waiting_after board h (Arrive lane mark) k waiting stands allowed after goes_on many were master within =
    were master within ∙ ap Some (lane_waits h (Arrive lane mark) (turn_of board h master) (λ p. refl))

length_next : (turns : List (Option OpId)) (e : Event) (waiting : List Bool) → length (waits_next turns e waiting) ≡ length waiting
length_next turns (Act on Master o step place) waiting = length-set waiting o.master (is_turn o (turn_in turns o.master))
length_next turns (Act on (ByLane lane) o step place) waiting = refl
length_next turns (Arrive lane mark) waiting = refl

-- what arrives by an event is what it found in flight
pub came_is : (board : Board) (h : List Event) (e : Event) (found : Moved) → found ≡ moved_by Tagged board (world_of board h) e → came_in e found ≡ item_by board h e
came_is board h (Act on by o step place) found is = refl
came_is board h (Arrive lane mark) found is = ap (λ (it : Moved). it.item) is

-- after an event
pub at_next : (board : Board) (m : Moment) (e : Event) (kept after : KeptState) (waiting later : List Bool) (scene now : Option Scene) → IsAt board m kept waiting scene → Allowed board (past m) e
    → StandsFor board (e ∷ past m) after → later ≡ waits_next after.turns e waiting → now ≡ Some (record { event = e; item = item_by board (past m) e })
    → IsAt board (next m e) after later now
at_next board m e kept after waiting later scene now at allowed stands later_is now_is =
    record {
      stands = stands;
      masters = ap (λ (l : List Bool). length l) later_is ∙ length_next after.turns e waiting ∙ at.masters;
      waiting_is = λ master within. ap (λ (l : List Bool). slice_get l master) later_is ∙ waiting_after board (past m) e kept waiting at.stands allowed after stands at.masters at.waiting_is master within;
      scene_is = now_is;
    }

-- what is read of a lane
pub reads_lane : (board : Board) (m : Moment) (kept : KeptState) (waiting : List Bool) (scene : Option Scene) (signal : Signal) (lane : BridgeLane) (count : LaneCount) (n : ℕ) → IsAt board m kept waiting scene
    → signal ≡ Lane lane count → n ≡ count_on count (lane_in board kept.lanes lane) → Reads board m signal (readings.Number n)
reads_lane board m kept waiting scene signal lane count n at is counted =
    let P : Signal → Type 0 = λ s. Reads board m s (readings.Number n) in
    subst P (sym is) (ap Number (counted ∙ ap (λ (l : LaneState). count_on count l) (lane_now board (past m) kept lane at.stands)))

-- whether a master waits
pub reads_waits : (board : Board) (m : Moment) (kept : KeptState) (waiting : List Bool) (scene : Option Scene) (signal : Signal) (master : ℕ) (b : Bool) → IsAt board m kept waiting scene
    → signal ≡ Waits master → b ≡ option_map_or (λ (w : Bool). w) (slice_get waiting master) false → Reads board m signal (readings.Level b)
reads_waits board m kept waiting scene signal master b at is found =
    let P : Signal → Type 0 = λ s. Reads board m s (readings.Level b) in
    let h : List Event = past m in
    let G : Type 0 = b ≡ waits h (turn_of board h master) in
    let here : G = elim (cases_lt master (length board.masters)) as (λ _. G) [
      | inl within ↦ found ∙ ap (λ (w : Option Bool). option_map_or (λ (x : Bool). x) w false) (at.waiting_is master within)
      | inr beyond ↦
          let none : slice_get waiting master ≡ None = slice_get_past waiting master (omega (arith, at.masters, beyond)) in
          let no_turn : slice_get kept.turns master ≡ None = slice_get_past kept.turns master (omega (arith, at.stands.masters, beyond)) in
          let ended : turn_of board h master ≡ None = sym (at.stands.turns master) ∙ ap flat no_turn in
          found ∙ ap (λ (w : Option Bool). option_map_or (λ (x : Bool). x) w false) none ∙ sym (ap (waits h) ended)
    ] in
    subst P (sym is) (ap Level here)
