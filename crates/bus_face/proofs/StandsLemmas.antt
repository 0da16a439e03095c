-- The tables of half a bridge, and what they stand for.
use Rattle.std.proofs.Common.{◌≡◌, ◌≢◌, ℕ, ◌+◌, ◌<◌, ◌≤◌, zero, suc, Bool, true, false, cond, ◌&&◌, ◌==◌, nat_lt, List, [], ◌∷◌, ◌++◌, length, map, Option, Some, None, is_some, refl, sym, ap, subst, ◌∙◌, arith}
use Rattle.std.specs.List.{find, list_any}
use Rattle.std.specs.Option.{option_map}
use Rattle.std.proofs.lemmas.Bool.Decides.{nat_tests}
use Rattle.list_facts.specs.Lists.{less, before}
use Rattle.pci_command.specs.declared.request.Request.{Request}
use Rattle.pci_command.specs.declared.op_id.OpId.{OpId}
use Rattle.pci_command.specs.Same.{same_request}
use Rattle.board_model.specs.declared.board.Board.{Board}
use Rattle.board_model.specs.Requests.{request_of, both_same, same_requests}
use Rattle.history_model.specs.declared.event.By.{By}
use Rattle.history_model.specs.declared.item.Carried.{Carried}
use Rattle.history_model.specs.declared.item.Carried.TheVariants.{Post, Ask, Done, Room, Gone}
use Rattle.history_model.specs.declared.item.Slot.{Slot as HeldSlot}
use Rattle.history_model.specs.Lanes.{has_number, is_done_for, is_post, lowest_free, lowest_free_from}
use Rattle.history_model.specs.World.{same_initiator, is_own}
use Rattle.lane_items.specs.declared.requests.slot_table.SlotEntry.{SlotEntry}
use Rattle.lane_items.specs.requests.Slots.{slot_at, IsLowestFree, without as without_slot}
use Rattle.lane_items.proofs.requests.LowestFreeLemmas.{all_below_held}
use Rattle.lane_items.specs.declared.completions.done_table.Done.{Done as DoneEntry}
use Rattle.lane_items.specs.completions.Completions.{done_at, without as without_done}
use Rattle.bus_face.specs.Replies.{is_behind, is_own_entry}
use Rattle.bus_face.specs.Stands.{Arrived, post_entry, done_entry, post_entries, ask_entries, done_entries, Rising, IsEntry, AreEntries, IsTag}

abbrev pub item_of : Arrived → Carried
item_of one = one.item

-- the completion that an entry stands for
abbrev pub done_of : DoneEntry → Carried
done_of done = Done done.op done.slot done.outcome

-- a completion is found among the entries as among the items
done_step : (n : ℕ) (item : Carried) (arrival : ℕ) (later : List Arrived) → find (is_done_for n) (map item_of later) ≡ option_map done_of (done_at n (done_entries later))
    → find (is_done_for n) (item ∷ map item_of later) ≡ option_map done_of (done_at n (done_entry item arrival ++ done_entries later))
done_step n (Post op) arrival later rest = rest
done_step n (Ask op slot) arrival later rest = rest
done_step n (Done op slot outcome) arrival later rest =
    let P : Bool → Type 0 = λ b. cond b (Some (Done op slot outcome)) (find (is_done_for n) (map item_of later))
    ≡ option_map done_of (cond b (Some (record { slot = slot; op = op; outcome = outcome; arrival = arrival })) (done_at n (done_entries later))) in
    elim (slot == n) as P [ true ↦ refl | false ↦ rest ]
done_step n Room arrival later rest = rest
done_step n (Gone slot) arrival later rest = rest

pub done_found : (n : ℕ) (line : List Arrived) → find (is_done_for n) (map item_of line) ≡ option_map done_of (done_at n (done_entries line))
done_found n [] = refl
done_found n (one ∷ later) = done_step n one.item one.arrival later (done_found n later)

-- numbers that rise from a least one on rise from any lower one
pub rising_lower : (lower least last : ℕ) (line : List Arrived) → lower ≤ least → Rising least last line → Rising lower last line
rising_lower lower least last [] below rising = omega arith
rising_lower lower least last (one ∷ later) below rising = (omega (arith, rising.0), rising.1)

-- an entry of a completion is of an item that came at the least number or later
done_after_step : (n least last : ℕ) (item : Carried) (arrival : ℕ) (later : List Arrived) (done : DoneEntry) → least ≤ arrival
    → (done_at n (done_entries later) ≡ Some done → least ≤ done.arrival)
    → done_at n (done_entry item arrival ++ done_entries later) ≡ Some done → least ≤ done.arrival
done_after_step n least last (Post op) arrival later done from rest found = rest found
done_after_step n least last (Ask op slot) arrival later done from rest found = rest found
done_after_step n least last (Done op slot outcome) arrival later done from rest found =
    let entry : DoneEntry = record { slot = slot; op = op; outcome = outcome; arrival = arrival } in
    let P : Bool → Type 0 = λ b. cond b (Some entry) (done_at n (done_entries later)) ≡ Some done → least ≤ done.arrival in
    (elim (slot == n) as P [ true ↦ λ is. let one : entry ≡ done = cc in subst (λ (d : DoneEntry). least ≤ d.arrival) one from | false ↦ rest ]) found
done_after_step n least last Room arrival later done from rest found = rest found
done_after_step n least last (Gone slot) arrival later done from rest found = rest found

done_after : (n least last : ℕ) (line : List Arrived) (done : DoneEntry) → Rising least last line → done_at n (done_entries line) ≡ Some done → least ≤ done.arrival
done_after n least last [] done rising found = cc
done_after n least last (one ∷ later) done rising found =
    done_after_step n least last one.item one.arrival later done rising.0
    (λ rest. done_after n least last later done (rising_lower least (one.arrival + 1) last later (omega (arith, rising.0)) rising.1) rest) found

-- no posted write among later items came before
not_behind_step : (arrival least : ℕ) (item : Carried) (at : ℕ) (later : List Arrived) → arrival < least → least ≤ at
    → is_behind arrival (post_entries later) ≡ false → is_behind arrival (post_entry item at ++ post_entries later) ≡ false
not_behind_step arrival least (Post op) at later below from rest = grind (arith, nat_tests)
not_behind_step arrival least (Ask op slot) at later below from rest = rest
not_behind_step arrival least (Done op slot outcome) at later below from rest = rest
not_behind_step arrival least Room at later below from rest = rest
not_behind_step arrival least (Gone slot) at later below from rest = rest

not_behind : (arrival least last : ℕ) (line : List Arrived) → arrival < least → Rising least last line → is_behind arrival (post_entries line) ≡ false
not_behind arrival least last [] below rising = refl
not_behind arrival least last (one ∷ later) below rising =
    not_behind_step arrival least one.item one.arrival later below rising.0
    (not_behind arrival least last later below (rising_lower least (one.arrival + 1) last later (omega (arith, rising.0)) rising.1))

-- a posted write stands before a completion where its arrival has a lower number
behind_step : (n least last : ℕ) (item : Carried) (at : ℕ) (later : List Arrived) (done : DoneEntry) → Rising (at + 1) last later
    → (done_at n (done_entries later) ≡ Some done → list_any is_post (before (is_done_for n) (map item_of later)) ≡ is_behind done.arrival (post_entries later))
    → done_at n (done_entry item at ++ done_entries later) ≡ Some done
    → list_any is_post (before (is_done_for n) (item ∷ map item_of later)) ≡ is_behind done.arrival (post_entry item at ++ post_entries later)
behind_step n least last (Post op) at later done rising rest found =
    let after = done_after n (at + 1) last later done rising found in
    let lower : nat_lt at done.arrival ≡ true = grind (arith, nat_tests) in
    sym lower
behind_step n least last (Ask op slot) at later done rising rest found = rest found
behind_step n least last (Done op slot outcome) at later done rising rest found =
    let entry : DoneEntry = record { slot = slot; op = op; outcome = outcome; arrival = at } in
    let tail : List Carried = before (is_done_for n) (map item_of later) in
    let P : Bool → Type 0 = λ b. cond b (Some entry) (done_at n (done_entries later)) ≡ Some done
    → list_any is_post (cond b [] (Done op slot outcome ∷ tail)) ≡ is_behind done.arrival (post_entries later) in
    (elim (slot == n) as P [
      | true ↦ λ is.
          let one : at ≡ done.arrival = let same : entry ≡ done = cc in ap (λ (d : DoneEntry). d.arrival) same in
          sym (not_behind done.arrival (at + 1) last later (omega (arith, one)) rising)
      | false ↦ λ is. rest is
    ]) found
behind_step n least last Room at later done rising rest found = rest found
behind_step n least last (Gone slot) at later done rising rest found = rest found

pub behind : (n least last : ℕ) (line : List Arrived) (done : DoneEntry) → Rising least last line → done_at n (done_entries line) ≡ Some done
    → list_any is_post (before (is_done_for n) (map item_of line)) ≡ is_behind done.arrival (post_entries line)
behind n least last [] done rising found = cc
behind n least last (one ∷ later) done rising found =
    behind_step n least last one.item one.arrival later done rising.1 (λ is. behind n (one.arrival + 1) last later done rising.1 is) found

-- the completion of a slot leaves the items as it leaves the entries
abbrev pub without_line : ℕ → List Arrived → List Arrived
without_line n line = less (λ (one : Arrived). is_done_for n one.item) line

pub record LeftLine (n least last : ℕ) (line : List Arrived) : Type 0 where
  pub items : less (is_done_for n) (map item_of line) ≡ map item_of (without_line n line)
  pub posts : post_entries (without_line n line) ≡ post_entries line
  pub asks : ask_entries (without_line n line) ≡ ask_entries line
  pub dones : done_entries (without_line n line) ≡ without_done n (done_entries line)
  pub rising : Rising least last (without_line n line)

left_kept : (n least last : ℕ) (one : Arrived) (later : List Arrived) → is_done_for n one.item ≡ false → done_entry one.item one.arrival ≡ [] → least ≤ one.arrival
    → LeftLine n (one.arrival + 1) last later → LeftLine n least last (one ∷ later)
left_kept n least last one later apart none from rest =
    record {
      items = rw (apart, rest.items) refl;
      posts = rw (apart, rest.posts) refl;
      asks = rw (apart, rest.asks) refl;
      dones = rw (apart, none, rest.dones) refl;
      rising = rw apart (from, rest.rising);
    }

left_step : (n least last : ℕ) (item : Carried) (at : ℕ) (later : List Arrived) → least ≤ at → Rising (at + 1) last later → LeftLine n (at + 1) last later
    → LeftLine n least last (record { item = item; arrival = at } ∷ later)
left_step n least last (Post op) at later from rising rest = left_kept n least last (record { item = Post op; arrival = at }) later refl refl from rest
left_step n least last (Ask op slot) at later from rising rest = left_kept n least last (record { item = Ask op slot; arrival = at }) later refl refl from rest
left_step n least last (Done op slot outcome) at later from rising rest =
    let one : Arrived = record { item = Done op slot outcome; arrival = at } in
    let entry : DoneEntry = record { slot = slot; op = op; outcome = outcome; arrival = at } in
    let P : Bool → Type 0 = λ b. (slot == n) ≡ b → LeftLine n least last (one ∷ later) in
    (elim (slot == n) as P [
      | true ↦ λ is. record {
        items = rw is refl;
        posts = rw is refl;
        asks = rw is refl;
        dones = rw is refl;
        rising = rw is (rising_lower least (at + 1) last later (omega arith) rising);
      }
      | false ↦ λ is. record {
        items = rw (is, rest.items) refl;
        posts = rw (is, rest.posts) refl;
        asks = rw (is, rest.asks) refl;
        dones = rw (is, rest.dones) refl;
        rising = rw is (from, rest.rising);
      }
    ]) refl
left_step n least last Room at later from rising rest = left_kept n least last (record { item = Room; arrival = at }) later refl refl from rest
left_step n least last (Gone slot) at later from rising rest = left_kept n least last (record { item = Gone slot; arrival = at }) later refl refl from rest

pub left_line : (n least last : ℕ) (line : List Arrived) → Rising least last line → LeftLine n least last line
left_line n least last [] rising = record { items = refl; posts = refl; asks = refl; dones = refl; rising = rising }
left_line n least last (one ∷ later) rising = left_step n least last one.item one.arrival later rising.0 rising.1 (left_line n (one.arrival + 1) last later rising.1)

module _ (board : Board) (bus : ℕ) (tags : By → OpId → ℕ) where
  -- the slot that is freed
  pub slots_without : (n : ℕ) (held : List HeldSlot) (entries : List SlotEntry) → AreEntries board bus tags held entries → AreEntries board bus tags (less (has_number n) held) (without_slot n entries)
  slots_without n [] [] are = are
  slots_without n [] (entry ∷ entries) are = absurd are
  slots_without n (slot ∷ held) [] are = absurd are
  slots_without n (slot ∷ held) (entry ∷ entries) are =
      let same : (slot.number == n) ≡ (entry.number == n) = ap (λ m. m == n) are.0.number in
      let P : Bool → Type 0 = λ b. (entry.number == n) ≡ b → AreEntries board bus tags (less (has_number n) (slot ∷ held)) (without_slot n (entry ∷ entries)) in
      (elim (entry.number == n) as P [
        | true ↦ λ is. let here = same ∙ is in rw (here, is) are.1
        | false ↦ λ is. let here = same ∙ is in rw (here, is) (are.0, slots_without n held entries are.1)
      ]) refl

  pub slots_push : (held : List HeldSlot) (entries : List SlotEntry) (slot : HeldSlot) (entry : SlotEntry) → AreEntries board bus tags held entries → IsEntry board bus tags slot entry
      → AreEntries board bus tags (held ++ slot ∷ []) (entries ++ entry ∷ [])
  slots_push [] [] slot entry are is = (is, tt)
  slots_push [] (first ∷ entries) slot entry are is = absurd are
  slots_push (one ∷ held) [] slot entry are is = absurd are
  slots_push (one ∷ held) (first ∷ entries) slot entry are is = (are.0, slots_push held entries slot entry are.1 is)

  pub slots_length : (held : List HeldSlot) (entries : List SlotEntry) → AreEntries board bus tags held entries → length held ≡ length entries
  slots_length [] [] are = refl
  slots_length [] (entry ∷ entries) are = absurd are
  slots_length (slot ∷ held) [] are = absurd are
  slots_length (slot ∷ held) (entry ∷ entries) are = ap suc (slots_length held entries are.1)

  -- the own slot is found among the entries by tag and request
  abbrev pub OwnAlike : Option HeldSlot → Option SlotEntry → Type 0
  OwnAlike None None = Unit {0}
  OwnAlike None (Some entry) = ⊥
  OwnAlike (Some slot) None = ⊥
  OwnAlike (Some slot) (Some entry) = IsEntry board bus tags slot entry

  -- a held slot and its entry pass alike
  own_same : (by : By) (o : OpId) (tag : ℕ) (request : Request) (slot : HeldSlot) (entry : SlotEntry) → request_of board o bus ≡ Some request → IsTag board bus tags by o tag → IsEntry board bus tags slot entry
      → is_own board bus by o slot ≡ is_own_entry tag request entry
  own_same by o tag request slot entry is_request is_tag is =
      let first : same_initiator slot.by slot.op by o ≡ (entry.tag == tag) = is_tag slot.by slot.op is.initiator ∙ ap (λ t. t == tag) is.tag in
      let second : same_requests board bus slot.op o ≡ same_request entry.request request = ap (λ r. both_same r (request_of board o bus)) is.request ∙ ap (both_same (Some entry.request)) is_request in
      ap (λ b. b && same_requests board bus slot.op o) first ∙ ap (λ b. (entry.tag == tag) && b) second

  pub own_alike : (by : By) (o : OpId) (tag : ℕ) (request : Request) (held : List HeldSlot) (entries : List SlotEntry) → request_of board o bus ≡ Some request → IsTag board bus tags by o tag
      → AreEntries board bus tags held entries → OwnAlike (find (is_own board bus by o) held) (find (is_own_entry tag request) entries)
  own_alike by o tag request [] [] is_request is_tag are = tt
  own_alike by o tag request [] (entry ∷ entries) is_request is_tag are = absurd are
  own_alike by o tag request (slot ∷ held) [] is_request is_tag are = absurd are
  own_alike by o tag request (slot ∷ held) (entry ∷ entries) is_request is_tag are =
      let same : is_own board bus by o slot ≡ is_own_entry tag request entry = own_same by o tag request slot entry is_request is_tag are.0 in
      let P : Bool → Type 0 = λ b. is_own_entry tag request entry ≡ b → OwnAlike (find (is_own board bus by o) (slot ∷ held)) (find (is_own_entry tag request) (entry ∷ entries)) in
      (elim (is_own_entry tag request entry) as P [
        | true ↦ λ is. let here = same ∙ is in rw (here, is) are.0
        | false ↦ λ is. let here = same ∙ is in rw (here, is) (own_alike by o tag request held entries is_request is_tag are.1)
      ]) refl

  -- a number is held, or is not, among the entries as among the slots
  pub any_alike : (n : ℕ) (held : List HeldSlot) (entries : List SlotEntry) → AreEntries board bus tags held entries → list_any (has_number n) held ≡ is_some (slot_at n entries)
  any_alike n [] [] are = refl
  any_alike n [] (entry ∷ entries) are = absurd are
  any_alike n (slot ∷ held) [] are = absurd are
  any_alike n (slot ∷ held) (entry ∷ entries) are =
      let same : (slot.number == n) ≡ (entry.number == n) = ap (λ m. m == n) are.0.number in
      let P : Bool → Type 0 = λ b. (entry.number == n) ≡ b → list_any (has_number n) (slot ∷ held) ≡ is_some (slot_at n (entry ∷ entries)) in
      (elim (entry.number == n) as P [
        | true ↦ λ is. let here = same ∙ is in rw (here, is) refl
        | false ↦ λ is. let here = same ∙ is in rw (here, is) (any_alike n held entries are.1)
      ]) refl

  lowest_from : (more k n : ℕ) (held : List HeldSlot) → k ≤ n → n ≤ k + more → list_any (has_number n) held ≡ false → ((l : ℕ) → l < n → list_any (has_number l) held ≡ true) → lowest_free_from more k held ≡ n
  lowest_from zero k n held above below free lower = omega arith
  lowest_from (suc more) k n held above below free lower =
      let P : Bool → Type 0 = λ b. list_any (has_number k) held ≡ b → cond b (lowest_free_from more (k + 1) held) k ≡ n in
      (elim (list_any (has_number k) held) as P [
        | true ↦ λ is.
            let apart : k ≢ n = λ same. let there : list_any (has_number n) held ≡ true = subst (λ m. list_any (has_number m) held ≡ true) same is in cc in
            lowest_from more (k + 1) n held (omega (arith, apart)) (omega arith) free lower
        | false ↦ λ is.
            let Q : Bool → Type 0 = λ b. nat_lt k n ≡ b → k ≡ n in
            (elim (nat_lt k n) as Q [
              | true ↦ λ less_is. let held_is : list_any (has_number k) held ≡ true = lower k (grind (arith, nat_tests)) in cc
              | false ↦ λ not_less. grind (arith, nat_tests)
            ]) refl
      ]) refl

  pub lowest_alike : (n : ℕ) (held : List HeldSlot) (entries : List SlotEntry) → AreEntries board bus tags held entries → IsLowestFree n entries → lowest_free held ≡ n
  lowest_alike n held entries are lowest =
      let many : n ≤ length entries = all_below_held n entries lowest.lowest in
      let lengths = slots_length held entries are in
      let free : list_any (has_number n) held ≡ false =
      let P : Bool → Type 0 = λ b. is_some (slot_at n entries) ≡ b → b ≡ false in
      any_alike n held entries are ∙ (elim (is_some (slot_at n entries)) as P [ true ↦ λ is. absurd (lowest.free is) | false ↦ λ _. refl ]) refl in
      lowest_from (length held) 0 n held (omega arith) (omega (arith, many, lengths)) free (λ l below. any_alike l held entries are ∙ lowest.lowest l below)
