-- Depths bound what is owed, held, in flight and standing, in every run.
use Rattle.std.proofs.Common.{◌≡◌, ℕ, ◌+◌, ◌<◌, ◌≤◌, Bool, List, [], ◌∷◌, length, Option, Some, None, refl, sym, ap, subst, arith, ◌==◌, length-append}
use Rattle.std.specs.List.{AllByRecursion}
use Rattle.list_facts.specs.Lists.{less, total}
use Rattle.list_facts.proofs.EachLemmas.{Each-push, Each-less, Each-weaker, Each-find}
use Rattle.pci_command.specs.declared.op_id.OpId.{OpId}
use Rattle.history_model.specs.declared.event.By.{By}
use Rattle.history_model.specs.declared.event.Mark.{Mark}
use Rattle.history_model.specs.declared.item.Carried.{Carried}
use Rattle.history_model.specs.declared.item.Carried.TheVariants.{Post, Ask, Done, Room, Gone}
use Rattle.history_model.specs.declared.item.Slot.{Slot}
use Rattle.list_facts.proofs.TotalLemmas.{total-alike}
use Rattle.list_facts.proofs.FindLemmas.{length-less}
use Rattle.board_model.specs.Limits.{most_posted, most_delayed}
use Rattle.board_model.specs.declared.bridge.Bridge.{Bridge}
use Rattle.board_model.specs.declared.bridge.Lane.{Lane as BridgeLane}
use Rattle.board_model.specs.declared.board.Board.{Board}
use Rattle.history_model.specs.declared.event.Event.{Event}
use Rattle.history_model.specs.declared.rule.Rule.{Rule}
use Rattle.history_model.specs.declared.rule.Rule.TheVariants.{Tagged}
use Rattle.history_model.specs.World.{World, both, world_of, noted, world_by}
use Rattle.board_model.specs.Ways.{lane_back}
use Rattle.history_model.specs.Answers.{bridge_to}
use Rattle.history_model.specs.Runs.{RunBy, Run}
use Rattle.history_model.specs.Lanes.{LaneState, Both, empty_lane, has_number, lowest_free, post_enters, ask_enters, Effect, Stands, Credits as CreditsBack, Frees, Drops, effect_of, takes_effect, came_off, arrives_first}
use Rattle.law_lanes.specs.Slots.{slot_weight, ask_weight, done_weight, gone_weight, Slots}
use Rattle.law_lanes.specs.Credits.{post_count, room_count, Credits}
use Rattle.law_lanes.specs.Standing.{CanStand}
use Rattle.law_lanes.specs.Depths.{Within, DifferentNumbers, DepthsInLimits}
use Rattle.law_lanes.proofs.NumberLemmas.{bridge_found}
use Rattle.history_model.proofs.facts.BridgeLemmas.{flip, both_back}
use Rattle.law_lanes.proofs.LowestFreeLemmas.{lowest_free-le}
use Rattle.history_model.proofs.facts.KeptLemmas.{Pair, KeptBy, runs_keep_by}
use Rattle.law_lanes.proofs.SlotsRunLemmas.{Slots-run_by}
use Rattle.law_lanes.proofs.CreditsLemmas.{Credits-run_by}
use Rattle.law_lanes.proofs.StandingLemmas.{CanStand-run_by}
use Rattle.law_lanes.proofs.QuietLemmas.{Quiet-empty, run_no_bridge}

-- what the answers of a bridge keep of one of its lanes
record Kept_within (bridge : Bridge) (lane : LaneState) : Type 0 where
  owed : lane.owed ≤ bridge.posted
  held : length lane.held ≤ bridge.delayed
  numbers : AllByRecursion (λ (slot : Slot). slot.number < bridge.delayed) lane.held

abbrev InDepth : Board → BridgeLane → Both → Type 0
InDepth board lane x = (bridge : Bridge) → bridge_to board lane.bus ≡ Some bridge → Kept_within bridge x.here

-- a bridge that is found is one
one_bridge : (board : Board) (bus : ℕ) (a b : Bridge) → bridge_to board bus ≡ Some a → bridge_to board bus ≡ Some b → a ≡ b
one_bridge board bus a b p q = cc

-- fewer slots are within a depth too
within-less : (bridge : Bridge) (lane : LaneState) (number : ℕ) → Kept_within bridge lane → Kept_within bridge (record lane { held = less (has_number number) lane.held })
within-less bridge lane number old =
    record {
      owed = old.owed;
      held = omega (arith, length-less (has_number number) lane.held, old.held);
      numbers = Each-less (λ (slot : Slot). slot.number < bridge.delayed) (has_number number) lane.held old.numbers;
    }

post-keeps : (board : Board) (lane : BridgeLane) (o : OpId) (bridge : Bridge) (x : Both) → bridge_to board lane.bus ≡ Some bridge → x.here.owed < bridge.posted
    → Pair (InDepth board) lane x → Pair (InDepth board) lane (post_enters o x)
post-keeps board lane o bridge x is below old = (
  λ other is_other.
      let same : bridge ≡ other = one_bridge board lane.bus bridge other is is_other in
      let posted : bridge.posted ≡ other.posted = ap (λ b. b.posted) same in
      let w = old.0 other is_other in
      record { owed = omega arith; held = w.held; numbers = w.numbers },
  old.1,
)

latch-keeps : (board : Board) (lane : BridgeLane) (by : By) (o : OpId) (bridge : Bridge) (x : Both) → bridge_to board lane.bus ≡ Some bridge → length x.here.held < bridge.delayed
    → Pair (InDepth board) lane x → Pair (InDepth board) lane (ask_enters by o x)
latch-keeps board lane by o bridge x is below old = (
  λ other is_other.
      let same : bridge ≡ other = one_bridge board lane.bus bridge other is is_other in
      let delayed : bridge.delayed ≡ other.delayed = ap (λ b. b.delayed) same in
      let w = old.0 other is_other in
      let number : ℕ = lowest_free x.here.held in
      let slot : Slot = record { number = number; by = by; op = o } in
      let low : number < other.delayed = omega (arith, lowest_free-le x.here.held) in
      record {
        owed = w.owed;
        held = omega (arith, length-append x.here.held (slot ∷ []));
        numbers = Each-push (λ (slot : Slot). slot.number < other.delayed) x.here.held slot w.numbers low;
      },
  old.1,
)

effect-keeps : (board : Board) (effect : Effect) (item : Carried) (lane : BridgeLane) (x : Both) → Pair (InDepth board) lane x → Pair (InDepth board) lane (takes_effect effect item x)
effect-keeps board Stands item lane x old = (λ bridge is. let w = old.0 bridge is in record { owed = w.owed; held = w.held; numbers = w.numbers }, old.1)
effect-keeps board CreditsBack item lane x old =
    (old.0, λ bridge is. let w = old.1 bridge is in let owed : x.back.owed ≤ bridge.posted = w.owed in record { owed = omega arith; held = w.held; numbers = w.numbers })
effect-keeps board (Frees slot) item lane x old = (old.0, λ bridge is. within-less bridge x.back slot (old.1 bridge is))
effect-keeps board (Drops slot) item lane x old = (old.0, λ bridge is. let w = old.1 bridge is in record { owed = w.owed; held = w.held; numbers = w.numbers })

arrives_first-keeps : (board : Board) (mark : Mark) (flight : List Carried) (lane : BridgeLane) (x : Both) → Pair (InDepth board) lane x → Pair (InDepth board) lane (arrives_first mark flight x)
arrives_first-keeps board mark [] lane x old = old
arrives_first-keeps board mark (item ∷ rest) lane x old =
    effect-keeps board (effect_of mark item) item lane (record x { here = came_off item rest x.here })
    (λ bridge is. let w = old.0 bridge is in record { owed = w.owed; held = w.held; numbers = w.numbers }, old.1)

InDepth-kept : (rule : Rule) (board : Board) → KeptBy rule board (InDepth board)
InDepth-kept rule board =
    record {
      empty = λ lane bridge is. record { owed = omega arith; held = omega arith; numbers = tt };
      accepts = λ h on by o lane _ _ at old. post-keeps board lane o at.bridge (both (world_by rule board h) lane) at.is_bridge at.gives.1 old;
      latches = λ h on by o lane _ _ at old. latch-keeps board lane (noted rule by) o at.bridge (both (world_by rule board h) lane) at.is_bridge at.gives.2 old;
      takes = λ lane number op slot outcome x _ old. (λ bridge is. within-less bridge x.here number (old.0 bridge is), λ bridge is. let w = old.1 bridge is in record { owed = w.owed; held = w.held; numbers = w.numbers });
      ends = λ lane o outcome x old. (λ bridge is. let w = old.0 bridge is in record { owed = w.owed; held = w.held; numbers = w.numbers }, λ bridge is. let w = old.1 bridge is in record { owed = w.owed; held = w.held; numbers = w.numbers });
      comes = λ lane mark x old. arrives_first-keeps board mark x.here.flight lane x old;
    }

-- how many there are of each kind
abbrev one : ℕ → ℕ
one number = 1

length-by_kind : (items : List Carried) → length items ≡ total post_count items + total room_count items + total (ask_weight one) items + total (done_weight one) items + total (gone_weight one) items
length-by_kind [] = refl
length-by_kind (Post op ∷ items) = omega (arith, length-by_kind items)
length-by_kind (Ask op slot ∷ items) = omega (arith, length-by_kind items)
length-by_kind (Done op slot outcome ∷ items) = omega (arith, length-by_kind items)
length-by_kind (Room ∷ items) = omega (arith, length-by_kind items)
length-by_kind (Gone slot ∷ items) = omega (arith, length-by_kind items)

none_stand : (items : List Carried) → AllByRecursion CanStand items → (total room_count items ≡ 0) × (total (gone_weight one) items ≡ 0)
none_stand [] each = (refl, refl)
none_stand (Post op ∷ items) each = let rest = none_stand items each.1 in (omega arith, omega arith)
none_stand (Ask op slot ∷ items) each = let rest = none_stand items each.1 in (omega arith, omega arith)
none_stand (Done op slot outcome ∷ items) each = let rest = none_stand items each.1 in (omega arith, omega arith)
none_stand (Room ∷ items) each = absurd each.0
none_stand (Gone slot ∷ items) each = absurd each.0

within_of : (bridge : Bridge) (x : Both) → Slots x → Slots (flip x) → Credits x → Credits (flip x) → AllByRecursion CanStand x.here.standing
    → Kept_within bridge x.here → Kept_within bridge x.back → Within bridge.posted bridge.delayed x.here
within_of bridge x slots slots_back credits credits_back stand kept kept_back =
    let slots_here = total-alike (slot_weight one) 1 (λ slot. refl) x.here.held in
    let slots_there = total-alike (slot_weight one) 1 (λ slot. refl) x.back.held in
    let none = none_stand x.here.standing stand in
    record {
      owed = kept.owed;
      held = kept.held;
      numbers = kept.numbers;
      flight = omega (arith, length-by_kind x.here.flight, slots.one_place one, slots_back.one_place one, credits.owed, credits_back.owed, kept.held, kept_back.held, kept.owed, kept_back.owed);
      standing = omega (arith, length-by_kind x.here.standing, slots.one_place one, slots_back.one_place one, credits.owed, kept.held, kept_back.held, kept.owed);
    }

InDepth-run : (rule : Rule) (board : Board) (h : List Event) (lane : BridgeLane) → RunBy rule board h → InDepth board lane (both (world_by rule board h) lane)
InDepth-run rule board h lane run = runs_keep_by rule board (InDepth board) (InDepth-kept rule board) h run lane

pub Within-run_by : (rule : Rule) (board : Board) (h : List Event) (lane : BridgeLane) (bridge : Bridge) → bridge_to board lane.bus ≡ Some bridge → RunBy rule board h → Within bridge.posted bridge.delayed (world_by rule board h lane)
Within-run_by rule board h lane bridge is run =
    let world : World = world_by rule board h in
    let x : Both = both world lane in
    let turned : both world (lane_back lane) ≡ flip x = both_back world lane in
    within_of bridge x (Slots-run_by rule board h lane run) (subst Slots turned (Slots-run_by rule board h (lane_back lane) run))
    (Credits-run_by rule board h lane run) (subst Credits turned (Credits-run_by rule board h (lane_back lane) run)) (CanStand-run_by rule board h lane run)
    (InDepth-run rule board h lane run bridge is) (InDepth-run rule board h (lane_back lane) run bridge is)

pub Within-run : (board : Board) (h : List Event) (lane : BridgeLane) (bridge : Bridge) → bridge_to board lane.bus ≡ Some bridge → Run board h → Within bridge.posted bridge.delayed (world_of board h lane)
Within-run board h lane bridge is run = Within-run_by Tagged board h lane bridge is run

pub Within-each : (board : Board) (h : List Event) → DifferentNumbers board → Run board h
    → AllByRecursion (λ (bridge : Bridge). (up : Bool) → Within bridge.posted bridge.delayed (world_of board h (record { bus = bridge.bus; up = up }))) board.bridges
Within-each board h distinct run =
    let P : Bridge → Type 0 = λ b. bridge_to board b.bus ≡ Some b in
    let Q : Bridge → Type 0 = λ b. (up : Bool) → Within b.posted b.delayed (world_of board h (record { bus = b.bus; up = up })) in
    Each-weaker P Q (λ b is up. Within-run board h (record { bus = b.bus; up = up }) b is run) board.bridges (bridge_found board.bridges distinct)

-- greater depths allow more
pub within_more : (posted delayed p d : ℕ) (lane : LaneState) → posted ≤ p → delayed ≤ d → Within posted delayed lane → Within p d lane
within_more posted delayed p d lane more_posted more_delayed w =
    let P : Slot → Type 0 = λ slot. slot.number < delayed in
    let Q : Slot → Type 0 = λ slot. slot.number < d in
    record {
      owed = omega (arith, w.owed);
      held = omega (arith, w.held);
      numbers = Each-weaker P Q (λ slot low. omega arith) lane.held w.numbers;
      flight = omega (arith, w.flight);
      standing = omega (arith, w.standing);
    }

pub within_empty : (posted delayed : ℕ) → Within posted delayed empty_lane
within_empty posted delayed = record { owed = omega arith; held = omega arith; numbers = tt; flight = omega arith; standing = omega arith }

pub Within-limits : (board : Board) (h : List Event) (lane : BridgeLane) → DepthsInLimits board → Run board h → Within most_posted most_delayed (world_of board h lane)
Within-limits board h lane eight run =
    let D : Bridge → Type 0 = λ bridge. (bridge.posted ≤ most_posted) × (bridge.delayed ≤ most_delayed) in
    let P : Option Bridge → Type 0 = λ found. bridge_to board lane.bus ≡ found → Within most_posted most_delayed (world_of board h lane) in
    (elim (bridge_to board lane.bus) as P [
      | None ↦ λ none. subst (Within most_posted most_delayed) (sym (Quiet-empty board h lane (run_no_bridge board lane.bus h none run))) (within_empty most_posted most_delayed)
      | Some bridge ↦ λ is.
          let depths = Each-find D (λ (bridge : Bridge). bridge.bus == lane.bus) board.bridges bridge eight is in
          within_more bridge.posted bridge.delayed most_posted most_delayed (world_of board h lane) depths.0 depths.1 (Within-run board h lane bridge is run)
    ]) refl
