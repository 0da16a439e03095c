-- Each reading that a read got is a Read event at a target, which stands in the run.
use Rattle.std.proofs.Common.{◌≡◌, ℕ, Bool, true, false, ◌&&◌, cond, List, [], ◌∷◌, Option, Some, None, refl, sym, subst, ◌∙◌}
use Rattle.std.specs.List.{find}
use Rattle.pci_command.specs.declared.op_id.OpId.{OpId}
use Rattle.pci_command.specs.Same.{same_op}
use Rattle.board_model.specs.declared.bridge.Lane.{Lane as BridgeLane}
use Rattle.board_model.specs.declared.bridge.Place.{Place}
use Rattle.board_model.specs.declared.bridge.Place.TheVariants.{Target, Header, Lane, Nobody}
use Rattle.board_model.specs.declared.board.Board.{Board}
use Rattle.board_model.specs.Requests.{reads}
use Rattle.history_model.specs.declared.event.By.{By}
use Rattle.history_model.specs.declared.event.By.TheVariants.{Master, Lane as ByLane}
use Rattle.history_model.specs.declared.event.Step.{Step}
use Rattle.history_model.specs.declared.event.Step.TheVariants.{Land, Part, Read, Accept, Latch, Take, Stall, MasterAbort, TargetAbort}
use Rattle.history_model.specs.declared.event.Event.{Event}
use Rattle.history_model.specs.declared.event.Event.TheVariants.{Act, Arrive}
use Rattle.history_model.specs.declared.item.Slot.{Slot}
use Rattle.history_model.specs.declared.rule.Rule.TheVariants.{Untagged}
use Rattle.history_model.specs.World.{anyone, World, same_lane, is_own, world_by}
use Rattle.history_model.specs.Knowledge.{Reading, reading_by, reading_in, reading_or}
use Rattle.history_model.proofs.facts.RequestLemmas.{same_op_self}
use Rattle.law_fresh.proofs.Laws.{before_in, Front, front_self, front_more}
use Rattle.law_untagged.specs.Origins.{Origins, origin_in, taken_from, taken_in, source_of, answers, origins_of, ending_reading}
use Rattle.law_untagged.specs.clocks.Clocks.{reads_at}

-- an event of the run read it
pub record IsRead (board : Board) (h : List Event) (reading : Reading) : Type 0 where
  pub event : Event
  pub front : Front (event ∷ reading.before) h
  pub reads_it : reads_at board reading.before event ≡ Some reading

pub read_more : (board : Board) (e : Event) (h : List Event) (reading : Reading) → IsRead board h reading → IsRead board (e ∷ h) reading
read_more board e h reading it = record { event = it.event; front = front_more (it.event ∷ reading.before) h e it.front; reads_it = it.reads_it }

-- a read at a target, now
read_now : (board : Board) (h : List Event) (on : ℕ) (by : By) (o : OpId) (step : Step) (place : Place) (reading : Reading) → reading_by board h on o step place ≡ Some reading → IsRead board (Act on by o step place ∷ h) reading
read_now board h on by o step place reading is =
    let e : Event = Act on by o step place in
    let self : same_op o o ≡ true = same_op_self o in
    let found : reading_in board h o e ≡ Some reading = rw self is in
    let before : reading.before ≡ h = before_in board h o e reading found in
    record {
      event = e;
      front = subst (λ g. Front (e ∷ g) (e ∷ h)) (sym before) (front_self (e ∷ h));
      reads_it = subst (λ g. reading_by board g on o step place ≡ Some reading) (sym before) is;
    }

-- so are all readings that made completions
abbrev AreReads : Board → List Event → Origins → Type 0
AreReads board h origins = (lane : BridgeLane) (number : ℕ) (reading : Reading) → origins lane number ≡ Some reading → IsRead board h reading

module _ (board : Board) (h : List Event) (world : World) (origins : Origins) (are : AreReads board h origins) where
  slot_read : (lane : BridgeLane) (own : Option Slot) (reading : Reading) → origin_in origins lane own ≡ Some reading → IsRead board h reading
  slot_read lane None reading is = cc
  slot_read lane (Some slot) reading is = are lane slot.number reading is

  from_read : (on : ℕ) (o : OpId) (place : Place) (reading : Reading) → taken_from board world origins on o place ≡ Some reading → IsRead board h reading
  from_read on o (Target target) reading is = cc
  from_read on o (Header bus) reading is = cc
  from_read on o (Lane lane) reading is = slot_read lane (find (is_own board on anyone o) (world lane).held) reading is
  from_read on o Nobody reading is = cc

  taken_read : (on : ℕ) (o : OpId) (step : Step) (place : Place) (reading : Reading) → taken_in board world origins on o step place ≡ Some reading → IsRead board h reading
  taken_read on o Land place reading is = cc
  taken_read on o (Part phases) place reading is = cc
  taken_read on o (Read value) place reading is = cc
  taken_read on o Accept place reading is = cc
  taken_read on o Latch place reading is = cc
  taken_read on o (Take outcome) place reading is = from_read on o place reading is
  taken_read on o Stall place reading is = cc
  taken_read on o MasterAbort place reading is = cc
  taken_read on o TargetAbort place reading is = cc

  source_read : (on : ℕ) (by : By) (o : OpId) (step : Step) (place : Place) (reading : Reading) → source_of board h world origins on o step place ≡ Some reading → IsRead board (Act on by o step place ∷ h) reading
  source_read on by o step place reading is =
      let P : Option Reading → Type 0 = λ here. reading_by board h on o step place ≡ here → reading_or here (taken_in board world origins on o step place) ≡ Some reading → IsRead board (Act on by o step place ∷ h) reading in
      (elim (reading_by board h on o step place) as P [
        | None ↦ λ _ f. read_more board (Act on by o step place) h reading (taken_read on o step place reading f)
        | Some here ↦ λ some f. read_now board h on by o step place reading (some ∙ f)
      ]) refl is

origins_after : (board : Board) (e : Event) (h : List Event) → AreReads board h (origins_of board h) → AreReads board (e ∷ h) (origins_of board (e ∷ h))
origins_after board (Act on Master o step place) h old lane number reading is = read_more board (Act on Master o step place) h reading (old lane number reading is)
origins_after board (Act on (ByLane k) o step place) h old lane number reading is =
    let e : Event = Act on (ByLane k) o step place in
    let world : World = world_by Untagged board h in
    let origins : Origins = origins_of board h in
    let P : Bool → Type 0 = λ b. cond b (source_of board h world origins on o step place) (origins lane number) ≡ Some reading → IsRead board (e ∷ h) reading in
    (elim (same_lane k lane && answers board world k o step number) as P [
      | true ↦ λ f. source_read board h world origins old on (ByLane k) o step place reading f
      | false ↦ λ f. read_more board e h reading (old lane number reading f)
    ]) is
origins_after board (Arrive k mark) h old lane number reading is = read_more board (Arrive k mark) h reading (old lane number reading is)

origins_read : (board : Board) (h : List Event) → AreReads board h (origins_of board h)
origins_read board [] = λ lane number reading is. cc
origins_read board (e ∷ h) = origins_after board e h (origins_read board h)

-- what a read got that an event ends
pub ending_read : (board : Board) (h : List Event) (e : Event) (reading : Reading) → ending_reading board h e ≡ Some reading → IsRead board (e ∷ h) reading
ending_read board h (Act on Master o step place) reading is =
    let world : World = world_by Untagged board h in
    let origins : Origins = origins_of board h in
    let P : Bool → Type 0 = λ b. cond b (source_of board h world origins on o step place) None ≡ Some reading → IsRead board (Act on Master o step place ∷ h) reading in
    (elim (reads board o) as P [ true ↦ λ f. source_read board h world origins (origins_read board h) on Master o step place reading f | false ↦ λ f. cc ]) is
ending_read board h (Act on (ByLane lane) o step place) reading is = cc
ending_read board h (Arrive lane mark) reading is = cc
