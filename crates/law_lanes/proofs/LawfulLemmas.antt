-- What is in flight can be received, in every run.
use Rattle.std.proofs.Common.{◌≡◌, ℕ, ◌+◌, ◌<◌, ◌≤◌, Bool, true, false, ◌||◌, nat_lt, cond, eqb, List, [], ◌∷◌, Option, Some, None, is_some, refl, sym, ap, subst, ◌∙◌, count_by, arith}
use Rattle.std.specs.List.{find, list_any, AllByRecursion}
use Rattle.std.proofs.lemmas.List.Recursion.{is_count_by}
use Rattle.std.proofs.lemmas.Bool.{eqb-true}
use Rattle.std.proofs.lemmas.Bool.Decides.{nat_tests}
use Rattle.list_facts.specs.Lists.{total}
use Rattle.pci_command.specs.declared.op_id.OpId.{OpId}
use Rattle.pci_command.specs.Same.{same_op}
use Rattle.list_facts.proofs.TotalLemmas.{total-alike}
use Rattle.list_facts.proofs.FindLemmas.{find_passes, find-none_any}
use Rattle.list_facts.proofs.EachLemmas.{Each-weaker, Each-both, Each-find, Each-within}
use Rattle.board_model.specs.declared.bridge.Bridge.{Bridge}
use Rattle.board_model.specs.declared.bridge.Lane.{Lane as BridgeLane}
use Rattle.board_model.specs.declared.board.Board.{Board}
use Rattle.history_model.specs.declared.event.Event.{Event}
use Rattle.history_model.specs.declared.item.Carried.{Carried}
use Rattle.history_model.specs.declared.item.Carried.TheVariants.{Post, Ask, Done, Room, Gone}
use Rattle.history_model.specs.declared.item.Slot.{Slot}
use Rattle.history_model.specs.Lanes.{LaneState, Both, empty_lane, has_number, is_done_for, is_post}
use Rattle.history_model.specs.Local.{is_ask, is_ask_of, is_held_for, is_lawful, is_lawful_at, is_lawful_on}
use Rattle.history_model.specs.World.{World, both, world_of}
use Rattle.board_model.specs.Ways.{lane_back}
use Rattle.history_model.specs.Answers.{bridge_to}
use Rattle.history_model.specs.Runs.{Run}
use Rattle.law_lanes.specs.Slots.{hit, slot_weight, ask_weight, done_weight, gone_weight, AskNamed, DoneNamed, Slots}
use Rattle.law_lanes.specs.Credits.{post_count, room_count, Credits}
use Rattle.law_lanes.specs.Depths.{Within}
use Rattle.history_model.proofs.facts.BridgeLemmas.{flip, both_back}
use Rattle.law_lanes.proofs.HeldLemmas.{hit-same}
use Rattle.history_model.proofs.facts.RequestLemmas.{same_op_self}
use Rattle.law_lanes.proofs.QuietLemmas.{Quiet-empty, run_no_bridge}
use Rattle.law_lanes.proofs.OneItemLemmas.{some_held}
use Rattle.law_lanes.proofs.SlotsRunLemmas.{Slots-run}
use Rattle.law_lanes.proofs.CreditsLemmas.{Credits-run}
use Rattle.law_lanes.proofs.DepthsLemmas.{Within-run}
use Rattle.list_facts.proofs.AnyLemmas.{found_any}

-- where nothing weighs by a number, nothing is found by it
ask_none : (number : ℕ) (items : List Carried) → total (ask_weight (hit number)) items ≡ 0 → find (is_ask_of number) items ≡ None
ask_none number [] none = refl
ask_none number (Post op ∷ items) none = ask_none number items (omega arith)
ask_none number (Ask op slot ∷ items) none =
    let P : Bool → Type 0 = λ b. cond b 1 0 + total (ask_weight (hit number)) items ≡ 0 → cond b (Some (Ask op slot)) (find (is_ask_of number) items) ≡ None in
    (elim (eqb slot number) as P [ true ↦ λ e. absurd (omega arith) | false ↦ λ e. ask_none number items (omega arith) ]) none
ask_none number (Done op slot outcome ∷ items) none = ask_none number items (omega arith)
ask_none number (Room ∷ items) none = ask_none number items (omega arith)
ask_none number (Gone slot ∷ items) none = ask_none number items (omega arith)

done_none : (number : ℕ) (items : List Carried) → total (done_weight (hit number)) items ≡ 0 → find (is_done_for number) items ≡ None
done_none number [] none = refl
done_none number (Post op ∷ items) none = done_none number items (omega arith)
done_none number (Ask op slot ∷ items) none = done_none number items (omega arith)
done_none number (Done op slot outcome ∷ items) none =
    let P : Bool → Type 0 = λ b. cond b 1 0 + total (done_weight (hit number)) items ≡ 0 → cond b (Some (Done op slot outcome)) (find (is_done_for number) items) ≡ None in
    (elim (eqb slot number) as P [ true ↦ λ e. absurd (omega arith) | false ↦ λ e. done_none number items (omega arith) ]) none
done_none number (Room ∷ items) none = done_none number items (omega arith)
done_none number (Gone slot ∷ items) none = done_none number items (omega arith)

-- the same sums as counts
posts-count : (items : List Carried) → total post_count items ≡ count_by is_post items
posts-count items = is_count_by (total post_count) is_post refl counts items
  where
    counts : (item : Carried) (items : List Carried) → post_count item + total post_count items ≡ cond (is_post item) (1 + total post_count items) (total post_count items)
    counts (Post op) items = refl
    counts (Ask op slot) items = omega arith
    counts (Done op slot outcome) items = omega arith
    counts Room items = omega arith
    counts (Gone slot) items = omega arith

one : ℕ → ℕ
one number = 1

asks-count : (items : List Carried) → total (ask_weight one) items ≡ count_by is_ask items
unfolding one
asks-count items = is_count_by (total (ask_weight one)) is_ask refl counts items
  where
    counts : (item : Carried) (items : List Carried) → ask_weight one item + total (ask_weight one) items ≡ cond (is_ask item) (1 + total (ask_weight one) items) (total (ask_weight one) items)
    counts (Post op) items = omega arith
    counts (Ask op slot) items = refl
    counts (Done op slot outcome) items = omega arith
    counts Room items = omega arith
    counts (Gone slot) items = omega arith

any_some : {X : Type 0} (test : X → Bool) (xs : List X) → is_some (find test xs) ≡ true → list_any test xs ≡ true
any_some test [] some = cc
any_some test (x ∷ xs) some =
    let P : Bool → Type 0 = λ b. is_some (cond b (Some x) (find test xs)) ≡ true → (b || list_any test xs) ≡ true in
    (elim (test x) as P [ true ↦ λ _. refl | false ↦ λ e. any_some test xs e ]) some

-- what is known of an item in flight: it is named both ways, and it is one of those that are summed
record Flying (x : Both) (item : Carried) : Type 0 where
  named : AskNamed x.here.held item
  named_back : DoneNamed x.back.held item
  within : (weight : Carried → ℕ) → weight item ≤ total weight x.here.flight

ask_lawful : (bridge : Bridge) (x : Both) → Slots x → Within bridge.posted bridge.delayed x.here → (op : OpId) (number : ℕ) → Flying x (Ask op number)
    → is_lawful bridge.posted bridge.delayed x.here.standing x.back.held x.back.owed (Ask op number) ≡ true
unfolding one
ask_lawful bridge x slots depths op number flying =
    let L : Slot → Type 0 = λ slot. slot.number < bridge.delayed in
    let named = flying.named in
    let same : named.slot.number ≡ number = eqb-true named.slot.number number (find_passes (has_number number) x.here.held named.slot named.is_held) in
    let slot_low : named.slot.number < bridge.delayed = Each-find L (has_number number) x.here.held named.slot depths.numbers named.is_held in
    let low : number < bridge.delayed = omega arith in
    let few : count_by is_ask x.here.standing < bridge.delayed =
    omega (arith, flying.within (ask_weight one), slots.one_place one, total-alike (slot_weight one) 1 (λ slot. refl) x.here.held, depths.held, asks-count x.here.standing) in
    let none : total (ask_weight (hit number)) x.here.standing ≡ 0 =
    omega (arith, flying.within (ask_weight (hit number)), hit-same number, slots.one_place (hit number), slots.once number) in
    let free = find-none_any (is_ask_of number) x.here.standing (ask_none number x.here.standing none) in
    let first : nat_lt number bridge.delayed ≡ true = grind (arith, nat_tests) in
    let second : nat_lt (count_by is_ask x.here.standing) bridge.delayed ≡ true = grind (arith, nat_tests) in
    rw (first, second, free) refl

lawful_item : (bridge : Bridge) (x : Both) → Slots x → Slots (flip x) → Credits x → Credits (flip x) → Within bridge.posted bridge.delayed x.here → (item : Carried) → Flying x item
    → is_lawful bridge.posted bridge.delayed x.here.standing x.back.held x.back.owed item ≡ true
lawful_item bridge x slots slots_back credits credits_back depths (Post op) flying =
    let few : count_by is_post x.here.standing < bridge.posted = omega (arith, flying.within post_count, credits.owed, depths.owed, posts-count x.here.standing) in
    grind (arith, nat_tests)
lawful_item bridge x slots slots_back credits credits_back depths (Ask op number) flying = ask_lawful bridge x slots depths op number flying
lawful_item bridge x slots slots_back credits credits_back depths (Done op number outcome) flying =
    let none : total (done_weight (hit number)) x.here.standing ≡ 0 =
    omega (arith, flying.within (done_weight (hit number)), hit-same number, slots_back.one_place (hit number), slots_back.once number) in
    let named = flying.named_back in
    let same : same_op named.slot.op op ≡ true = let F : OpId → Type 0 = λ p. same_op named.slot.op p ≡ true in subst F named.is_for (same_op_self named.slot.op) in
    let has : has_number number named.slot ≡ true = find_passes (has_number number) x.back.held named.slot named.is_held in
    let passes : is_held_for number op named.slot ≡ true = rw has same in
    let some = found_any (has_number number) (is_held_for number op) x.back.held named.slot named.is_held passes in
    let free = find-none_any (is_done_for number) x.here.standing (done_none number x.here.standing none) in
    rw (some, free) refl
lawful_item bridge x slots slots_back credits credits_back depths Room flying =
    let owed : 0 < x.back.owed = omega (arith, flying.within room_count, credits_back.owed) in
    grind (arith, nat_tests)
lawful_item bridge x slots slots_back credits credits_back depths (Gone number) flying =
    let here = flying.within (gone_weight (hit number)) in
    let held : 1 ≤ total (slot_weight (hit number)) x.back.held = omega (arith, hit-same number, slots_back.one_place (hit number)) in
    let none : total (done_weight (hit number)) x.here.standing ≡ 0 = omega (arith, hit-same number, slots_back.one_place (hit number), slots_back.once number) in
    let some = any_some (has_number number) x.back.held (some_held number x.back.held held) in
    let free = find-none_any (is_done_for number) x.here.standing (done_none number x.here.standing none) in
    rw (some, free) refl

lawful_on : (board : Board) (h : List Event) (lane : BridgeLane) (bridge : Bridge) → bridge_to board lane.bus ≡ Some bridge → Run board h
    → AllByRecursion (λ (item : Carried). is_lawful_on board (world_of board h) lane item ≡ true) (world_of board h lane).flight
lawful_on board h lane bridge is run =
    let world : World = world_of board h in
    let x : Both = both world lane in
    let turned : both world (lane_back lane) ≡ flip x = both_back world lane in
    let slots : Slots x = Slots-run board h lane run in
    let slots_back : Slots (flip x) = subst Slots turned (Slots-run board h (lane_back lane) run) in
    let credits : Credits x = Credits-run board h lane run in
    let credits_back : Credits (flip x) = subst Credits turned (Credits-run board h (lane_back lane) run) in
    let A : Carried → Type 0 = AskNamed x.here.held in
    let B : Carried → Type 0 = DoneNamed x.back.held in
    let C : Carried → Type 0 = λ item. (weight : Carried → ℕ) → weight item ≤ total weight x.here.flight in
    let BC : Carried → Type 0 = λ item. B item × C item in
    let L : Carried → Type 0 = λ item. is_lawful_on board world lane item ≡ true in
    let each : (item : Carried) → A item × BC item → L item =
    λ item all.
    let here : is_lawful bridge.posted bridge.delayed x.here.standing x.back.held x.back.owed item ≡ true =
    lawful_item bridge x slots slots_back credits credits_back (Within-run board h lane bridge is run) item
    record { named = all.0; named_back = all.1.0; within = all.1.1 } in
    ap (is_lawful_at (world lane) (world (lane_back lane)) item) is ∙ here in
    Each-weaker (λ (item : Carried). A item × BC item) L each x.here.flight
    (Each-both A BC x.here.flight slots.asks_flying (Each-both B C x.here.flight slots_back.dones_flying (Each-within x.here.flight)))

pub Lawful-run : (board : Board) (h : List Event) (lane : BridgeLane) → Run board h
    → AllByRecursion (λ (item : Carried). is_lawful_on board (world_of board h) lane item ≡ true) (world_of board h lane).flight
Lawful-run board h lane run =
    let L : Carried → Type 0 = λ item. is_lawful_on board (world_of board h) lane item ≡ true in
    let P : Option Bridge → Type 0 = λ found. bridge_to board lane.bus ≡ found → AllByRecursion L (world_of board h lane).flight in
    (elim (bridge_to board lane.bus) as P [
      | None ↦ λ none.
          let empty : world_of board h lane ≡ empty_lane = Quiet-empty board h lane (run_no_bridge board lane.bus h none run) in
          let F : LaneState → Type 0 = λ state. AllByRecursion L state.flight in
          subst F (sym empty) tt
      | Some bridge ↦ λ is. lawful_on board h lane bridge is run
    ]) refl
