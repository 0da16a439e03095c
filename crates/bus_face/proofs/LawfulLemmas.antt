-- An item is taken by the tables where the bridge can receive it.
use Rattle.std.proofs.Common.{◌≡◌, ℕ, ◌+◌, Bool, true, false, cond, not, ◌&&◌, ◌||◌, ◌==◌, nat_lt, List, [], ◌∷◌, length, map, count_by, Option, Some, None, is_some, refl, sym, ap, subst, ◌∙◌, arith}
use Rattle.std.specs.List.{find, list_any}
use Rattle.std.specs.Option.{option_map}
use Rattle.std.proofs.lemmas.List.{length-map}
use Rattle.std.proofs.lemmas.List.Recursion.{is_count_by}
use Rattle.std.proofs.lemmas.Bool.{eqb-true}
use Rattle.pci_command.specs.declared.op_id.OpId.{OpId}
use Rattle.pci_command.specs.Same.{same_op}
use Rattle.board_model.specs.declared.bridge.Bridge.{Bridge}
use Rattle.board_model.specs.declared.board.Board.{Board}
use Rattle.history_model.specs.declared.event.By.{By}
use Rattle.history_model.specs.declared.item.Carried.{Carried}
use Rattle.history_model.specs.declared.item.Carried.TheVariants.{Post, Ask, Done, Room, Gone}
use Rattle.history_model.specs.declared.item.Slot.{Slot as HeldSlot}
use Rattle.history_model.specs.Lanes.{Both, has_number, is_done_for, is_post}
use Rattle.history_model.specs.Local.{is_ask, is_ask_of, is_held_for, is_lawful}
use Rattle.lane_items.specs.declared.requests.ask_table.Ask.{Ask as AskEntry}
use Rattle.lane_items.specs.declared.requests.slot_table.SlotEntry.{SlotEntry}
use Rattle.lane_items.specs.requests.Slots.{slot_at, IsOneForEachNumber}
use Rattle.lane_items.specs.completions.Completions.{done_at}
use Rattle.bus_face.specs.State.{FaceState}
use Rattle.bus_face.specs.Arrivals.{is_for, has_slot, is_taken}
use Rattle.bus_face.specs.Stands.{Arrived, AskKey, ask_key, post_entries, ask_entries, done_entries, AreEntries, Stands}
use Rattle.bus_face.specs.OnLanes.{IsLawfulOnLanes}
use Rattle.bus_face.proofs.StandsLemmas.{item_of, done_of, done_found, any_alike}

abbrev counts : {X : Type 0} → (X → Bool) → List X → ℕ
counts test [] = 0
counts test (x ∷ xs) = cond (test x) (1 + counts test xs) (counts test xs)

counts_is : {X : Type 0} (test : X → Bool) (xs : List X) → counts test xs ≡ count_by test xs
counts_is test xs = is_count_by (counts test) test refl (λ x xs. refl) xs

posts_step : (item : Carried) (arrival : ℕ) (later : List Arrived) → counts is_post (map item_of later) ≡ length (post_entries later)
    → counts is_post (item ∷ map item_of later) ≡ length (post_entries (record { item = item; arrival = arrival } ∷ later))
posts_step (Post op) arrival later rest = omega (arith, rest)
posts_step (Ask op slot) arrival later rest = rest
posts_step (Done op slot outcome) arrival later rest = rest
posts_step Room arrival later rest = rest
posts_step (Gone slot) arrival later rest = rest

posts_counted : (line : List Arrived) → counts is_post (map item_of line) ≡ length (post_entries line)
posts_counted [] = refl
posts_counted (one ∷ later) = posts_step one.item one.arrival later (posts_counted later)

asks_step : (item : Carried) (arrival : ℕ) (later : List Arrived) → counts is_ask (map item_of later) ≡ length (ask_entries later)
    → counts is_ask (item ∷ map item_of later) ≡ length (ask_entries (record { item = item; arrival = arrival } ∷ later))
asks_step (Post op) arrival later rest = rest
asks_step (Ask op slot) arrival later rest = omega (arith, rest)
asks_step (Done op slot outcome) arrival later rest = rest
asks_step Room arrival later rest = rest
asks_step (Gone slot) arrival later rest = rest

asks_counted : (line : List Arrived) → counts is_ask (map item_of line) ≡ length (ask_entries line)
asks_counted [] = refl
asks_counted (one ∷ later) = asks_step one.item one.arrival later (asks_counted later)

-- a slot is held by a delayed request that stands
abbrev key_has : ℕ → AskKey → Bool
key_has slot key = key.slot == slot

keys_step : (n : ℕ) (item : Carried) (arrival : ℕ) (later : List Arrived) → list_any (is_ask_of n) (map item_of later) ≡ list_any (key_has n) (ask_entries later)
    → list_any (is_ask_of n) (item ∷ map item_of later) ≡ list_any (key_has n) (ask_entries (record { item = item; arrival = arrival } ∷ later))
keys_step n (Post op) arrival later rest = rest
keys_step n (Ask op slot) arrival later rest = ap (λ b. (slot == n) || b) rest
keys_step n (Done op slot outcome) arrival later rest = rest
keys_step n Room arrival later rest = rest
keys_step n (Gone slot) arrival later rest = rest

keys_any : (n : ℕ) (line : List Arrived) → list_any (is_ask_of n) (map item_of line) ≡ list_any (key_has n) (ask_entries line)
keys_any n [] = refl
keys_any n (one ∷ later) = keys_step n one.item one.arrival later (keys_any n later)

entries_any : (n : ℕ) (asks : List AskEntry) → list_any (key_has n) (map ask_key asks) ≡ list_any (has_slot n) asks
entries_any n [] = refl
entries_any n (ask ∷ asks) = ap (λ b. (ask.slot == n) || b) (entries_any n asks)

-- one that passes is found, where one passes
any_found : {X : Type 0} (test : X → Bool) (xs : List X) → list_any test xs ≡ is_some (find test xs)
any_found test [] = refl
any_found test (x ∷ xs) =
    let P : Bool → Type 0 = λ b. (b || list_any test xs) ≡ is_some (cond b (Some x) (find test xs)) in
    elim (test x) as P [ true ↦ refl | false ↦ any_found test xs ]

some_map : {X : Type 0} {Y : Type 0} (f : X → Y) (found : Option X) → is_some (option_map f found) ≡ is_some found
some_map f None = refl
some_map f (Some x) = refl

dones_any : (n : ℕ) (line : List Arrived) → list_any (is_done_for n) (map item_of line) ≡ is_some (done_at n (done_entries line))
dones_any n line = any_found (is_done_for n) (map item_of line) ∙ (ap is_some (done_found n line) ∙ some_map done_of (done_at n (done_entries line)))

-- of slots of different numbers, that of a number is for the operation, or none is
no_number : (n : ℕ) (op : OpId) (entries : List SlotEntry) → slot_at n entries ≡ None → list_any (λ (entry : SlotEntry). (entry.number == n) && same_op entry.op op) entries ≡ false
no_number n op [] none = refl
no_number n op (entry ∷ entries) none =
    let P : Bool → Type 0 = λ b. cond b (Some entry) (slot_at n entries) ≡ None → ((b && same_op entry.op op) || list_any (λ (other : SlotEntry). (other.number == n) && same_op other.op op) entries) ≡ false in
    (elim (entry.number == n) as P [ true ↦ λ e. cc | false ↦ λ e. no_number n op entries e ]) none

or_false : (b : Bool) → (b || false) ≡ b
or_false true = refl
or_false false = refl

for_entries : (n : ℕ) (op : OpId) (entries : List SlotEntry) → IsOneForEachNumber entries → list_any (λ (entry : SlotEntry). (entry.number == n) && same_op entry.op op) entries ≡ is_for op (slot_at n entries)
for_entries n op [] one = refl
for_entries n op (entry ∷ entries) one =
    let P : Bool → Type 0 = λ b. (entry.number == n) ≡ b
    → ((b && same_op entry.op op) || list_any (λ (other : SlotEntry). (other.number == n) && same_op other.op op) entries) ≡ is_for op (cond b (Some entry) (slot_at n entries)) in
    (elim (entry.number == n) as P [
      | true ↦ λ same.
          let number : entry.number ≡ n = eqb-true entry.number n same in
          let none = no_number n op entries (subst (λ m. slot_at m entries ≡ None) number one.0) in
          rw none (or_false (same_op entry.op op))
      | false ↦ λ _. for_entries n op entries one.1
    ]) refl

module _ (board : Board) (bus : ℕ) (tags : By → OpId → ℕ) where
  held_alike : (n : ℕ) (op : OpId) (held : List HeldSlot) (entries : List SlotEntry) → AreEntries board bus tags held entries
      → list_any (is_held_for n op) held ≡ list_any (λ (entry : SlotEntry). (entry.number == n) && same_op entry.op op) entries
  held_alike n op [] [] are = refl
  held_alike n op [] (entry ∷ entries) are = absurd are
  held_alike n op (slot ∷ held) [] are = absurd are
  held_alike n op (slot ∷ held) (entry ∷ entries) are =
      let rest = held_alike n op held entries are.1 in
      let number = are.0.number in
      let ops = are.0.op in
      let here : is_held_for n op slot ≡ ((entry.number == n) && same_op entry.op op) = ap (λ m. (m == n) && same_op slot.op op) number ∙ ap (λ o. (entry.number == n) && same_op o op) ops in
      rw (here, rest) refl

  -- the same of each kind of item
  lawful_item : (bridge : Bridge) (face : FaceState) (x : Both) (item : Carried) → IsOneForEachNumber face.slots.slots → Stands board bridge bus tags face x
      → is_taken face item ≡ is_lawful bridge.posted bridge.delayed x.back.standing x.here.held x.here.owed item
  lawful_item bridge face x (Post op) one stands =
      let count : count_by is_post x.back.standing ≡ length face.posts.posts =
      ap (count_by is_post) stands.items ∙ (sym (counts_is is_post (map item_of stands.line)) ∙ (posts_counted stands.line ∙ ap length stands.posts)) in
      ap (λ d. nat_lt (length face.posts.posts) d) stands.depths.posts ∙ ap (λ n. nat_lt n bridge.posted) (sym count)
  lawful_item bridge face x (Ask op slot) one stands =
      let count : count_by is_ask x.back.standing ≡ length face.asks.asks =
      ap (count_by is_ask) stands.items ∙ (sym (counts_is is_ask (map item_of stands.line)) ∙ (asks_counted stands.line ∙ (ap length stands.asks ∙ length-map face.asks.asks ask_key))) in
      let any : list_any (is_ask_of slot) x.back.standing ≡ list_any (has_slot slot) face.asks.asks =
      ap (list_any (is_ask_of slot)) stands.items ∙ (keys_any slot stands.line ∙ (ap (list_any (key_has slot)) stands.asks ∙ entries_any slot face.asks.asks)) in
      let depth = stands.depths.asks in
      ap (λ d. nat_lt slot d && nat_lt (length face.asks.asks) d && not (list_any (has_slot slot) face.asks.asks)) depth
      ∙ (ap (λ n. nat_lt slot bridge.delayed && nat_lt n bridge.delayed && not (list_any (has_slot slot) face.asks.asks)) (sym count)
      ∙ ap (λ b. nat_lt slot bridge.delayed && nat_lt (count_by is_ask x.back.standing) bridge.delayed && not b) (sym any))
  lawful_item bridge face x (Done op slot outcome) one stands =
      let held : list_any (is_held_for slot op) x.here.held ≡ is_for op (slot_at slot face.slots.slots) = held_alike slot op x.here.held face.slots.slots stands.slots ∙ for_entries slot op face.slots.slots one in
      let done : list_any (is_done_for slot) x.back.standing ≡ is_some (done_at slot face.dones.dones) = ap (list_any (is_done_for slot)) stands.items ∙ (dones_any slot stands.line ∙ ap (λ d. is_some (done_at slot d)) stands.dones) in
      ap (λ b. b && not (is_some (done_at slot face.dones.dones))) (sym held) ∙ ap (λ b. list_any (is_held_for slot op) x.here.held && not b) (sym done)
  lawful_item bridge face x Room one stands = ap (λ n. nat_lt 0 n) (sym stands.owed)
  lawful_item bridge face x (Gone slot) one stands =
      let held : list_any (has_number slot) x.here.held ≡ is_some (slot_at slot face.slots.slots) = any_alike board bus tags slot x.here.held face.slots.slots stands.slots in
      let done : list_any (is_done_for slot) x.back.standing ≡ is_some (done_at slot face.dones.dones) = ap (list_any (is_done_for slot)) stands.items ∙ (dones_any slot stands.line ∙ ap (λ d. is_some (done_at slot d)) stands.dones) in
      ap (λ b. b && not (is_some (done_at slot face.dones.dones))) (sym held) ∙ ap (λ b. list_any (has_number slot) x.here.held && not b) (sym done)

pub lawful_on_lanes : (face : FaceState) (item : Carried) (taken : Bool) → IsOneForEachNumber face.slots.slots → taken ≡ is_taken face item → IsLawfulOnLanes face item taken
lawful_on_lanes face item taken one is = record { lawful = λ board bridge bus tags x stands. is ∙ lawful_item board bus tags bridge face x item one stands }
