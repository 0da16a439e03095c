-- Who waits for slots, where a move changes one bridge.
use Rattle.std.proofs.Common.{◌≡◌, ℕ, ◌≤◌, Bool, List, [], ◌∷◌, ◌++◌, Option, Some, refl, arith}
use Rattle.std.specs.List.{find, AllByRecursion}
use Rattle.list_facts.specs.Lists.{less, total}
use Rattle.list_facts.proofs.TotalLemmas.{total-less}
use Rattle.list_facts.proofs.FindLemmas.{find-append_found}
use Rattle.list_facts.proofs.EachLemmas.{Each-less, Each-weaker}
use Rattle.pci_command.specs.declared.op_id.OpId.{OpId}
use Rattle.board_model.specs.declared.bridge.Lane.{Lane as BridgeLane}
use Rattle.board_model.specs.declared.board.Board.{Board}
use Rattle.board_model.specs.Ways.{start_of, lane_back}
use Rattle.history_model.specs.declared.event.By.{By}
use Rattle.history_model.specs.declared.event.By.TheVariants.{Master, Lane as ByLane}
use Rattle.history_model.specs.declared.item.Carried.{Carried}
use Rattle.history_model.specs.declared.item.Carried.TheVariants.{Ask}
use Rattle.history_model.specs.declared.item.Slot.{Slot}
use Rattle.history_model.specs.Lanes.{LaneState, Both, has_number, is_done_for}
use Rattle.history_model.specs.World.{World, both, moved}
use Rattle.law_lanes.specs.Owners.{is_equal_ask, Waits, own_count, Owners}
use Rattle.history_model.proofs.facts.BridgeLemmas.{moved_keeps}
use Rattle.list_facts.proofs.FoundLemmas.{find-less_kept}

-- a delayed request that is the first by some test stays the first
abbrev pub KeepsAsks : LaneState → LaneState → Type 0
KeepsAsks old new = (test : Carried → Bool) (o : OpId) (number : ℕ) → find test old.standing ≡ Some (Ask o number) → find test new.standing ≡ Some (Ask o number)

pub KeepsAsks-push : (state : LaneState) (item : Carried) → KeepsAsks state (record state { standing = state.standing ++ item ∷ [] })
KeepsAsks-push state item test o number some = find-append_found test state.standing (item ∷ []) (Ask o number) some

pub KeepsAsks-done : (state : LaneState) (number : ℕ) → KeepsAsks state (record state { standing = less (is_done_for number) state.standing })
KeepsAsks-done state number test o slot some = find-less_kept test (is_done_for number) state.standing (Ask o slot) some refl

-- each that waited waits
pub Waits-kept : (board : Board) (turn : ℕ → Option OpId) (old new : World) (on : ℕ) (by : By) (o : OpId) → ((lane : BridgeLane) → KeepsAsks (old lane) (new lane)) → Waits board turn old on by o → Waits board turn new on by o
Waits-kept board turn old new on Master o keeps waits = waits
Waits-kept board turn old new on (ByLane lane) o keeps waits = record { number = waits.number; first = keeps lane (is_equal_ask board on o) o waits.number waits.first }

-- what is to hold of the slots of a lane
pub record LaneOwners (board : Board) (turn : ℕ → Option OpId) (world : World) (lane : BridgeLane) (held : List Slot) : Type 0 where
  pub waits : AllByRecursion (λ (slot : Slot). Waits board turn world (start_of board lane) slot.by slot.op) held
  pub one_own : (by : By) (o : OpId) → total (own_count board (start_of board lane) by o) held ≤ 1

pub lane_owners : (board : Board) (turn : ℕ → Option OpId) (world : World) → Owners board turn world → (lane : BridgeLane) → LaneOwners board turn world lane (world lane).held
lane_owners board turn world owners lane = record { waits = owners.waits lane; one_own = owners.one_own lane }

pub owners_of : (board : Board) (turn : ℕ → Option OpId) (world : World) → ((lane : BridgeLane) → LaneOwners board turn world lane (world lane).held) → Owners board turn world
owners_of board turn world each = record { waits = λ lane. (each lane).waits; one_own = λ lane. (each lane).one_own }

-- the same in a world where each that waited waits
pub LaneOwners-kept : (board : Board) (turn : ℕ → Option OpId) (old new : World) (lane : BridgeLane) (held : List Slot) → ((l : BridgeLane) → KeepsAsks (old l) (new l)) → LaneOwners board turn old lane held → LaneOwners board turn new lane held
LaneOwners-kept board turn old new lane held keeps owners =
    let P : Slot → Type 0 = λ slot. Waits board turn old (start_of board lane) slot.by slot.op in
    let Q : Slot → Type 0 = λ slot. Waits board turn new (start_of board lane) slot.by slot.op in
    record { waits = Each-weaker P Q (λ slot. Waits-kept board turn old new (start_of board lane) slot.by slot.op keeps) held owners.waits; one_own = owners.one_own }

-- fewer slots have their owners too
pub LaneOwners-less : (board : Board) (turn : ℕ → Option OpId) (world : World) (lane : BridgeLane) (held : List Slot) (number : ℕ) → LaneOwners board turn world lane held → LaneOwners board turn world lane (less (has_number number) held)
LaneOwners-less board turn world lane held number owners =
    let P : Slot → Type 0 = λ slot. Waits board turn world (start_of board lane) slot.by slot.op in
    record {
      waits = Each-less P (has_number number) held owners.waits;
      one_own = λ by o. omega (arith, owners.one_own by o, total-less (own_count board (start_of board lane) by o) (has_number number) held);
    }

-- a move that keeps the delayed requests that stand first
pub moved_keeps_asks : (move : Both → Both) (lane : BridgeLane) (world : World) → KeepsAsks (world lane) (move (both world lane)).here → KeepsAsks (world (lane_back lane)) (move (both world lane)).back
    → (l : BridgeLane) → KeepsAsks (world l) (moved move lane world l)
moved_keeps_asks move lane world here back =
    let P : BridgeLane → Both → Type 0 = λ l x. KeepsAsks (world l) x.here in
    moved_keeps P move lane world (λ l test o number some. some) here back

pub Owners-moved : (board : Board) (turn : ℕ → Option OpId) (move : Both → Both) (lane : BridgeLane) (world : World)
    → KeepsAsks (world lane) (move (both world lane)).here → KeepsAsks (world (lane_back lane)) (move (both world lane)).back
    → (LaneOwners board turn (moved move lane world) lane (world lane).held → LaneOwners board turn (moved move lane world) lane (move (both world lane)).here.held)
    → (LaneOwners board turn (moved move lane world) (lane_back lane) (world (lane_back lane)).held → LaneOwners board turn (moved move lane world) (lane_back lane) (move (both world lane)).back.held)
    → Owners board turn world → Owners board turn (moved move lane world)
Owners-moved board turn move lane world asks asks_back here back old =
    let new : World = moved move lane world in
    let keeps = moved_keeps_asks move lane world asks asks_back in
    let P : BridgeLane → Both → Type 0 = λ l x. LaneOwners board turn new l x.here.held in
    let each : (l : BridgeLane) → LaneOwners board turn new l (world l).held = λ l. LaneOwners-kept board turn world new l (world l).held keeps (lane_owners board turn world old l) in
    owners_of board turn new (moved_keeps P move lane world each (here (each lane)) (back (each (lane_back lane))))
