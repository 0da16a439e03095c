-- For whom slots are held, in every run.
use Rattle.std.proofs.Common.{◌≡◌, ℕ, Bool, true, false, ◌&&◌, eqb, List, [], ◌∷◌, refl, sym, subst, slice_get}
use Rattle.std.specs.List.{AllByRecursion}
use Rattle.std.proofs.lemmas.Bool.{eqb-true}
use Rattle.list_facts.proofs.EachLemmas.{Each-push, Each-less, Each-weaker}
use Rattle.pci_command.specs.declared.op_id.OpId.{OpId}
use Rattle.board_model.specs.declared.bridge.Lane.{Lane as BridgeLane}
use Rattle.board_model.specs.declared.bridge.Place.TheVariants.{Lane}
use Rattle.board_model.specs.declared.board.Board.{Board}
use Rattle.board_model.specs.Ways.{end_of, lane_back}
use Rattle.history_model.specs.declared.event.By.{By}
use Rattle.history_model.specs.declared.event.By.TheVariants.{Master, Lane as ByLane}
use Rattle.history_model.specs.declared.event.Mark.{Mark}
use Rattle.history_model.specs.declared.event.Step.TheVariants.{Latch}
use Rattle.history_model.specs.declared.event.Event.{Event}
use Rattle.history_model.specs.declared.item.Carried.{Carried}
use Rattle.history_model.specs.declared.item.Slot.{Slot}
use Rattle.history_model.specs.Lanes.{Both, has_number, lowest_free, ask_enters, Effect, Stands, Credits, Frees, Drops, effect_of, takes_effect, came_off, arrives_first}
use Rattle.history_model.specs.World.{both, world_of}
use Rattle.history_model.specs.Program.{turn_of}
use Rattle.history_model.specs.Words.{through}
use Rattle.history_model.specs.Answers.{is_on, is_turn, presents, wants}
use Rattle.history_model.specs.Runs.{Run}
use Rattle.law_lanes.specs.Depths.{DifferentNumbers}
use Rattle.law_lanes.specs.Phases.{DelayedAreSingle}
use Rattle.law_lanes.specs.Latched.{IsAt, LatchedOn, Latched}
use Rattle.history_model.proofs.facts.KeptLemmas.{Pair, Kept, runs_keep}
use Rattle.history_model.proofs.facts.AnswerLemmas.{AtLane}
use Rattle.law_lanes.proofs.PartLemmas.{delayed-not_parted}
use Rattle.law_lanes.proofs.ClaimLemmas.{claim_starts}
use Rattle.history_model.proofs.facts.RequestLemmas.{claim_whole}

-- who presents an operation is there
pub wants-at : (board : Board) (h : List Event) (on : ℕ) (by : By) (o : OpId) → wants board h on by o ≡ true → IsAt board on by o
wants-at board h on Master o wanted =
    let P : Bool → Type 0 = λ b. is_on on (slice_get board.masters o.master) ≡ b → (b && is_turn o (turn_of board h o.master)) ≡ true → is_on on (slice_get board.masters o.master) ≡ true in
    (elim (is_on on (slice_get board.masters o.master)) as P [ true ↦ λ is _. is | false ↦ λ _ e. cc ]) refl wanted
wants-at board h on (ByLane lane) o wanted =
    let P : Bool → Type 0 = λ b. eqb (end_of board lane) on ≡ b → (b && presents board on o (world_of board h lane).standing) ≡ true → end_of board lane ≡ on in
    (elim (eqb (end_of board lane) on) as P [ true ↦ λ is _. eqb-true (end_of board lane) on is | false ↦ λ _ e. cc ]) refl wanted

-- the slot was latched on some bus
record Somewhere (board : Board) (lane : BridgeLane) (slot : Slot) : Type 0 where
  on : ℕ
  latched : LatchedOn board on lane slot

abbrev AllLatched : Board → BridgeLane → Both → Type 0
AllLatched board lane x = AllByRecursion (Somewhere board lane) x.here.held

latch-keeps : (board : Board) → DelayedAreSingle board → (h : List Event) (on : ℕ) (by : By) (o : OpId) (lane : BridgeLane)
    → Run board h → wants board h on by o ≡ true → AtLane board h on by o Latch lane
    → Pair (AllLatched board) lane (both (world_of board h) lane) → Pair (AllLatched board) lane (ask_enters by o (both (world_of board h) lane))
latch-keeps board single h on by o lane run wanted at old =
    let held : List Slot = (world_of board h lane).held in
    let slot : Slot = record { number = lowest_free held; by = by; op = o } in
    let delayed = at.gives.0 in
    let none = delayed-not_parted board h o on at.request single run at.is_request delayed in
    let latched : LatchedOn board on lane slot = record {
      request = at.request;
      is_request = at.is_request;
      delayed = delayed;
      claims = claim_whole board on at.request (through h o) (Lane lane) none at.claims;
      initiator = wants-at board h on by o wanted;
    } in
    (Each-push (Somewhere board lane) held slot old.0 record { on = on; latched = latched }, old.1)

effect-keeps : (board : Board) (effect : Effect) (item : Carried) (lane : BridgeLane) (x : Both) → Pair (AllLatched board) lane x → Pair (AllLatched board) lane (takes_effect effect item x)
effect-keeps board Stands item lane x old = old
effect-keeps board Credits item lane x old = old
effect-keeps board (Frees slot) item lane x old = (old.0, Each-less (Somewhere board (lane_back lane)) (has_number slot) x.back.held old.1)
effect-keeps board (Drops slot) item lane x old = old

arrives_first-keeps : (board : Board) (mark : Mark) (flight : List Carried) (lane : BridgeLane) (x : Both) → Pair (AllLatched board) lane x → Pair (AllLatched board) lane (arrives_first mark flight x)
arrives_first-keeps board mark [] lane x old = old
arrives_first-keeps board mark (item ∷ rest) lane x old = effect-keeps board (effect_of mark item) item lane (record x { here = came_off item rest x.here }) old

AllLatched-kept : (board : Board) → DelayedAreSingle board → Kept board (AllLatched board)
AllLatched-kept board single =
    record {
      empty = λ lane. tt;
      accepts = λ h on by o lane _ _ _ old. old;
      latches = latch-keeps board single;
      takes = λ lane number op slot outcome x _ old. (Each-less (Somewhere board lane) (has_number number) x.here.held old.0, old.1);
      ends = λ lane o outcome x old. old;
      comes = λ lane mark x old. arrives_first-keeps board mark x.here.flight lane x old;
    }

pub Latched-run : (board : Board) (h : List Event) (lane : BridgeLane) → DifferentNumbers board → DelayedAreSingle board → Run board h → AllByRecursion (Latched board lane) (world_of board h lane).held
Latched-run board h lane distinct single run =
    let begins : (slot : Slot) → Somewhere board lane slot → Latched board lane slot =
    λ slot at.
    let F : ℕ → Type 0 = λ on. LatchedOn board on lane slot in
    subst F (sym (claim_starts board at.on at.latched.request lane distinct at.latched.claims)) at.latched in
    Each-weaker (Somewhere board lane) (Latched board lane) begins (world_of board h lane).held (runs_keep board (AllLatched board) (AllLatched-kept board single) h run lane)
