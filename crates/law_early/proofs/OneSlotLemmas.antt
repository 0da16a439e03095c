-- Where each operation has one slot of a lane, a slot is found by its operation in place of its number.
use Rattle.std.proofs.Common.{◌≡◌, ℕ, ◌+◌, ◌≤◌, Bool, true, false, eqb, ◌||◌, cond, List, [], ◌∷◌, ◌++◌, Some, refl, sym, ap, subst, ◌∙◌, arith, eqb-true}
use Rattle.std.specs.List.{find, list_any, AllByRecursion}
use Rattle.std.proofs.lemmas.Cmp.{nat_eq_equiv}
use Rattle.list_facts.specs.Lists.{less, before, total}
use Rattle.list_facts.proofs.FindLemmas.{find_passes}
use Rattle.list_facts.proofs.EachLemmas.{Each-find, Each-weaker}
use Rattle.list_facts.proofs.AnyLemmas.{any_some}
use Rattle.list_facts.proofs.TotalLemmas.{found, found-le}
use Rattle.pci_command.specs.declared.op_id.OpId.{OpId}
use Rattle.pci_command.specs.declared.op_id.Outcome.{Outcome}
use Rattle.pci_command.specs.Same.{same_op}
use Rattle.board_model.specs.declared.bridge.Lane.{Lane as BridgeLane}
use Rattle.board_model.specs.declared.board.Board.{Board}
use Rattle.board_model.specs.Ways.{lane_back}
use Rattle.history_model.specs.declared.event.By.{By}
use Rattle.history_model.specs.declared.event.Event.{Event}
use Rattle.history_model.specs.Left.{is_slot_of}
use Rattle.history_model.specs.declared.item.Carried.{Carried}
use Rattle.history_model.specs.declared.item.Carried.TheVariants.{Post, Ask, Done, Room, Gone}
use Rattle.history_model.specs.declared.item.Slot.{Slot}
use Rattle.history_model.specs.Lanes.{LaneState, Both, asks_in, dones_in, is_done_for, has_number}
use Rattle.history_model.specs.World.{World, both, is_own}
use Rattle.history_model.specs.Runs.{names}
use Rattle.history_model.proofs.facts.RequestLemmas.{same_op_true, same_op_self}
use Rattle.law_lanes.specs.Slots.{Slots, IsHeldFor, AskNamed, DoneNamed}
use Rattle.law_lanes.proofs.Laws.{Each-found_itself}
use Rattle.history_model.proofs.facts.AnswerLemmas.{answered_in}
use Rattle.history_model.specs.Answers.{answer_in}
use Rattle.history_model.specs.declared.item.Answer.TheVariants.{Gives}
use Rattle.history_model.specs.declared.event.Step.TheVariants.{Take}
use Rattle.board_model.specs.declared.bridge.Place.TheVariants.{Lane}
use Rattle.law_early.proofs.CargoLemmas.{bares, NoNumber, is_done_of, stays, stay, cargo}
use Rattle.law_early.proofs.CargoMoveLemmas.{TakesFirst}

-- Tests that agree on each element of a list.

pub agree_find : {X : Type 0} (f g : X → Bool) (xs : List X) → AllByRecursion (λ x. f x ≡ g x) xs → find f xs ≡ find g xs
agree_find f g [] each = refl
agree_find f g (x ∷ xs) each = let here = each.0 in let later = agree_find f g xs each.1 in cc

agree_less : {X : Type 0} (f g : X → Bool) (xs : List X) → AllByRecursion (λ x. f x ≡ g x) xs → less f xs ≡ less g xs
agree_less f g [] each = refl
agree_less f g (x ∷ xs) each = let here = each.0 in let later = agree_less f g xs each.1 in cc

pub agree_before : {X : Type 0} (f g : X → Bool) (xs : List X) → AllByRecursion (λ x. f x ≡ g x) xs → before f xs ≡ before g xs
agree_before f g [] each = refl
agree_before f g (x ∷ xs) each = let here = each.0 in let later = agree_before f g xs each.1 in cc

-- where at most one passes, a test of one that passes finds it
pub only_found : {X : Type 0} (one test : X → Bool) (xs : List X) (x : X) → total (λ y. cond (one y) 1 0) xs ≤ 1 → find test xs ≡ Some x → one x ≡ true → find one xs ≡ Some x
only_found one test [] x once some is = cc
only_found {X} one test (other ∷ xs) x once some is =
    let W : X → ℕ = λ y. cond (one y) 1 0 in
    let P : Bool → Type 0 = λ b. cond b (Some other) (find test xs) ≡ Some x → cond (one other) (Some other) (find one xs) ≡ Some x in
    let Q : Bool → Type 0 = λ b. one other ≡ b → cond b 1 0 + total W xs ≤ 1 → find test xs ≡ Some x → cond b (Some other) (find one xs) ≡ Some x in
    (elim (test other) as P [
      | true ↦ λ e. let same : other ≡ x = cc in let here : one other ≡ true = cc in rw here e
      | false ↦ λ e. (elim (one other) as Q [
        | true ↦ λ _ twice f.
            let weighs : found W (find test xs) ≡ 1 = rw f (rw is refl) in
            absurd (omega (arith, weighs, found-le W test xs))
        | false ↦ λ _ later f. only_found one test xs x (omega arith) f is
      ]) refl once e
    ]) some

any-append : {X : Type 0} (t : X → Bool) (xs ys : List X) → list_any t (xs ++ ys) ≡ (list_any t xs || list_any t ys)
any-append t [] ys = refl
any-append t (x ∷ xs) ys =
    let later = any-append t xs ys in
    let P : Bool → Type 0 = λ b. (b || list_any t (xs ++ ys)) ≡ ((b || list_any t xs) || list_any t ys) in
    elim (t x) as P [ true ↦ refl | false ↦ later ]

-- What a lane carries, stands or is in flight.

any-bares : (t : Carried → Bool) → NoNumber t → (xs : List Carried) → list_any t (bares xs) ≡ list_any t xs
any-bares t none [] = refl
any-bares t none (x ∷ xs) = let here = none x in let later = any-bares t none xs in cc

or_left : (a b : Bool) → a ≡ true → (a || b) ≡ true
or_left a b is = rw is refl

or_right : (a b : Bool) → b ≡ true → (a || b) ≡ true
or_right true b is = refl
or_right false b is = is

-- what stays of an item is itself
stays_any : (board : Board) (lane : BridgeLane) (asks dones : ℕ) (t : Carried → Bool) → NoNumber t → (item : Carried) → list_any t (stays board lane asks dones item) ≡ true → t item ≡ true
stays_any board lane asks dones t none (Post op) is =
    let P : Bool → Type 0 = λ b. (b || false) ≡ true → b ≡ true in
    (elim (t (Post op)) as P [ true ↦ λ e. e | false ↦ λ e. e ]) is
stays_any board lane asks dones t none (Ask op slot) is =
    let P : Bool → Type 0 = λ b. list_any t (cond b [] (Ask op 0 ∷ [])) ≡ true → t (Ask op 0) ≡ true in
    let Q : Bool → Type 0 = λ b. (b || false) ≡ true → b ≡ true in
    let there : t (Ask op 0) ≡ true = (elim (list_any (names lane (asks + 1)) board.drops) as P [ true ↦ λ e. cc | false ↦ elim (t (Ask op 0)) as Q [ true ↦ λ e. e | false ↦ λ e. e ] ]) is in
    sym (none (Ask op slot)) ∙ there
stays_any board lane asks dones t none (Done op slot outcome) is =
    let P : Bool → Type 0 = λ b. list_any t (cond b [] (Done op 0 outcome ∷ [])) ≡ true → t (Done op 0 outcome) ≡ true in
    let Q : Bool → Type 0 = λ b. (b || false) ≡ true → b ≡ true in
    let there : t (Done op 0 outcome) ≡ true = (elim (list_any (names lane (dones + 1)) board.discards) as P [ true ↦ λ e. cc | false ↦ elim (t (Done op 0 outcome)) as Q [ true ↦ λ e. e | false ↦ λ e. e ] ]) is in
    sym (none (Done op slot outcome)) ∙ there
stays_any board lane asks dones t none Room is = cc
stays_any board lane asks dones t none (Gone slot) is = cc

stay_any : (board : Board) (lane : BridgeLane) (t : Carried → Bool) → NoNumber t → (xs : List Carried) (asks dones : ℕ) → list_any t (stay board lane asks dones xs) ≡ true → list_any t xs ≡ true
stay_any board lane t none [] asks dones is = cc
stay_any board lane t none (item ∷ rest) asks dones is =
    let mine : List Carried = stays board lane asks dones item in
    let others : List Carried = stay board lane (asks + asks_in item) (dones + dones_in item) rest in
    let P : Bool → Type 0 = λ b. list_any t mine ≡ b → (b || list_any t others) ≡ true → (t item || list_any t rest) ≡ true in
    (elim (list_any t mine) as P [
      | true ↦ λ here _. or_left (t item) (list_any t rest) (stays_any board lane asks dones t none item here)
      | false ↦ λ _ later. or_right (t item) (list_any t rest) (stay_any board lane t none rest (asks + asks_in item) (dones + dones_in item) later)
    ]) refl (sym (any-append t mine others) ∙ is)

pub cargo_any : (board : Board) (lane : BridgeLane) (t : Carried → Bool) → NoNumber t → (s : LaneState) → list_any t (cargo board lane s) ≡ true → (list_any t s.standing || list_any t s.flight) ≡ true
cargo_any board lane t none s is =
    let later : Bool = list_any t (stay board lane s.asks s.dones s.flight) in
    let P : Bool → Type 0 = λ b. list_any t s.standing ≡ b → (b || later) ≡ true → (b || list_any t s.flight) ≡ true in
    let whole : (list_any t s.standing || later) ≡ true = ap (λ b. b || later) (sym (any-bares t none s.standing)) ∙ (sym (any-append t (bares s.standing) (stay board lane s.asks s.dones s.flight)) ∙ is) in
    (elim (list_any t s.standing) as P [ true ↦ λ _ _. refl | false ↦ λ _ e. stay_any board lane t none s.flight s.asks s.dones e ]) refl whole

pub cargo_stands : (board : Board) (lane : BridgeLane) (t : Carried → Bool) → NoNumber t → (s : LaneState) → list_any t s.standing ≡ true → list_any t (cargo board lane s) ≡ true
cargo_stands board lane t none s is =
    any-append t (bares s.standing) (stay board lane s.asks s.dones s.flight) ∙ or_left (list_any t (bares s.standing)) (list_any t (stay board lane s.asks s.dones s.flight)) (any-bares t none s.standing ∙ is)

-- the delayed request of an operation
abbrev pub is_ask_for : OpId → Carried → Bool
is_ask_for o (Post op) = false
is_ask_for o (Ask op slot) = same_op o op
is_ask_for o (Done op slot outcome) = false
is_ask_for o Room = false
is_ask_for o (Gone slot) = false

pub is_ask_for-bare : (o : OpId) → NoNumber (is_ask_for o)
is_ask_for-bare o (Post op) = refl
is_ask_for-bare o (Ask op slot) = refl
is_ask_for-bare o (Done op slot outcome) = refl
is_ask_for-bare o Room = refl
is_ask_for-bare o (Gone slot) = refl

-- a slot of that number is held for the operation
pub record HeldFor (held : List Slot) (o : OpId) : Type 0 where
  pub number : ℕ
  pub is : IsHeldFor held number o

pub ask_held : (held : List Slot) (o : OpId) (item : Carried) → AskNamed held item → is_ask_for o item ≡ true → HeldFor held o
ask_held held o (Post op) named is = cc
ask_held held o (Ask op slot) named is =
    let same : o ≡ op = same_op_true o op is in
    record { number = slot; is = subst (λ p. IsHeldFor held slot p) (sym same) named }
ask_held held o (Done op slot outcome) named is = cc
ask_held held o Room named is = cc
ask_held held o (Gone slot) named is = cc

pub done_held : (held : List Slot) (o : OpId) (item : Carried) → DoneNamed held item → is_done_of o item ≡ true → HeldFor held o
done_held held o (Post op) named is = cc
done_held held o (Ask op slot) named is = cc
done_held held o (Done op slot outcome) named is =
    let same : o ≡ op = same_op_true o op is in
    record { number = slot; is = subst (λ p. IsHeldFor held slot p) (sym same) named }
done_held held o Room named is = cc
done_held held o (Gone slot) named is = cc

pub any_held : (held : List Slot) (o : OpId) (N : Carried → Type 0) (t : Carried → Bool) → ((item : Carried) → N item → t item ≡ true → HeldFor held o)
    → (standing flight : List Carried) → AllByRecursion N standing → AllByRecursion N flight → (list_any t standing || list_any t flight) ≡ true → HeldFor held o
any_held held o N t held_by standing flight ns nf is =
    let of_list : (xs : List Carried) → AllByRecursion N xs → list_any t xs ≡ true → HeldFor held o =
    λ xs each any. let at = any_some t xs any in held_by at.0 (Each-find N t xs at.0 each at.1) (find_passes t xs at.0 at.1) in
    let P : Bool → Type 0 = λ b. list_any t standing ≡ b → (b || list_any t flight) ≡ true → HeldFor held o in
    (elim (list_any t standing) as P [ true ↦ λ here _. of_list standing ns here | false ↦ λ _ later. of_list flight nf later ]) refl is

-- whatever finds a slot, its operation finds it
abbrev pub FindsOwn : List Slot → Type 0
FindsOwn held = (test : Slot → Bool) (slot : Slot) → find test held ≡ Some slot → find (is_slot_of slot.op) held ≡ Some slot

-- the slot of an operation
pub record Mine (held : List Slot) (o : OpId) (slot : Slot) : Type 0 where
  pub found : find (is_slot_of o) held ≡ Some slot
  pub is_for : slot.op ≡ o

-- and of an item of it
pub record Named (held : List Slot) (o : OpId) (number : ℕ) : Type 0 where
  pub slot : Slot
  pub own : Mine held o slot
  pub is_number : slot.number ≡ number

-- a completion is taken: that of the own slot
pub record TakesSlot (board : Board) (world : World) (on : ℕ) (by : By) (o : OpId) (outcome : Outcome) (lane : BridgeLane) : Type 0 where
  pub slot : Slot
  pub is_own_slot : find (is_own board on by o) (world lane).held ≡ Some slot
  pub stands : find (is_done_for slot.number) (world (lane_back lane)).standing ≡ Some (Done slot.op slot.number outcome)

-- On the two lanes of a bridge.
module _ (x : Both) (slots : Slots x) (single : FindsOwn x.here.held) where
  pub mine_by : (o : OpId) (test : Slot → Bool) (slot : Slot) → find test x.here.held ≡ Some slot → slot.op ≡ o → Mine x.here.held o slot
  mine_by o test slot some is_for = record { found = subst (λ p. find (is_slot_of p) x.here.held ≡ Some slot) is_for (single test slot some); is_for = is_for }

  -- a slot is found by its number
  by_number : (test : Slot → Bool) (slot : Slot) → find test x.here.held ≡ Some slot → find (has_number slot.number) x.here.held ≡ Some slot
  by_number test slot is =
      let N : Slot → Type 0 = λ s. find (has_number s.number) x.here.held ≡ Some s in
      Each-find N test x.here.held slot (Each-found_itself x.here.held slots.once) is

  pub named : (o : OpId) (number : ℕ) → IsHeldFor x.here.held number o → Named x.here.held o number
  named o number is =
      record {
        slot = is.slot;
        own = mine_by o (has_number number) is.slot is.is_held is.is_for;
        is_number = eqb-true is.slot.number number (find_passes (has_number number) x.here.held is.slot is.is_held);
      }

  -- the completion for a slot is that of its operation
  done_agrees : (o : OpId) (slot : Slot) → Mine x.here.held o slot → (item : Carried) → DoneNamed x.here.held item → is_done_for slot.number item ≡ is_done_of o item
  done_agrees o slot own (Post op) is = refl
  done_agrees o slot own (Ask op number) is = refl
  done_agrees o slot own (Done op number outcome) is =
      let P : Bool → Type 0 = λ b. eqb number slot.number ≡ b → b ≡ same_op o op in
      let Q : Bool → Type 0 = λ b. same_op o op ≡ b → eqb number slot.number ≡ false → false ≡ b in
      (elim (eqb number slot.number) as P [
        | true ↦ λ e.
            let numbers : number ≡ slot.number = eqb-true number slot.number e in
            let there : find (has_number number) x.here.held ≡ Some slot = subst (λ n. find (has_number n) x.here.held ≡ Some slot) (sym numbers) (by_number (is_slot_of o) slot own.found) in
            let first = is.is_held in
            let one : is.slot ≡ slot = cc in
            let ops : op ≡ o = sym is.is_for ∙ (ap (λ (s : Slot). s.op) one ∙ own.is_for) in
            let self : same_op o o ≡ true = same_op_self o in
            sym (subst (λ p. same_op o p ≡ true) (sym ops) self)
        | false ↦ λ apart. (elim (same_op o op) as Q [
          | true ↦ λ same no.
              let ops : o ≡ op = same_op_true o op same in
              let mine = named o number (subst (λ p. IsHeldFor x.here.held number p) (sym ops) is) in
              let first = mine.own.found in
              let other = own.found in
              let one : mine.slot ≡ slot = cc in
              let numbers : number ≡ slot.number = sym mine.is_number ∙ ap (λ (s : Slot). s.number) one in
              let yes : eqb slot.number slot.number ≡ true = nat_eq_equiv.refl slot.number in
              let yes_too : eqb number slot.number ≡ true = subst (λ n. eqb n slot.number ≡ true) (sym numbers) yes in
              cc
          | false ↦ λ _ _. refl
        ]) refl apart
      ]) refl
  done_agrees o slot own Room is = refl
  done_agrees o slot own (Gone number) is = refl

  pub dones_agree : (o : OpId) (slot : Slot) → Mine x.here.held o slot → AllByRecursion (λ item. is_done_for slot.number item ≡ is_done_of o item) x.back.standing
  dones_agree o slot own =
      Each-weaker (DoneNamed x.here.held) (λ item. is_done_for slot.number item ≡ is_done_of o item) (done_agrees o slot own) x.back.standing slots.dones_standing

  -- the completion for a slot was made for its operation
  pub done_for : (test : Slot → Bool) (slot : Slot) (op : OpId) (number : ℕ) (outcome : Outcome) → find test x.here.held ≡ Some slot → find (is_done_for slot.number) x.back.standing ≡ Some (Done op number outcome)
      → Done op number outcome ≡ Done slot.op slot.number outcome
  done_for test slot op number outcome is stands =
      let numbers : number ≡ slot.number = eqb-true number slot.number (find_passes (is_done_for slot.number) x.back.standing (Done op number outcome) stands) in
      let is_for : IsHeldFor x.here.held number op = Each-find (DoneNamed x.here.held) (is_done_for slot.number) x.back.standing (Done op number outcome) slots.dones_standing stands in
      let there : find (has_number number) x.here.held ≡ Some slot = subst (λ n. find (has_number n) x.here.held ≡ Some slot) (sym numbers) (by_number test slot is) in
      let first = is_for.is_held in
      let one : is_for.slot ≡ slot = cc in
      let ops : op ≡ slot.op = sym is_for.is_for ∙ ap (λ (s : Slot). s.op) one in
      ap (λ p. Done p number outcome) ops ∙ ap (λ n. Done slot.op n outcome) numbers

-- a completion that is taken is the first of its operation
pub takes_first : (board : Board) (world : World) (on : ℕ) (by : By) (o : OpId) (outcome : Outcome) (lane : BridgeLane) → Slots (both world lane) → FindsOwn (world lane).held
    → (taken : TakesSlot board world on by o outcome lane) → TakesFirst board world on by o lane taken.slot.op
takes_first board world on by o outcome lane slots single taken =
    let X : Both = both world lane in
    let agree = dones_agree X slots single taken.slot.op taken.slot (mine_by X slots single taken.slot.op (is_own board on by o) taken.slot taken.is_own_slot refl) in
    let coming : List Carried = (world (lane_back lane)).standing in
    let test : Carried → Bool = is_done_for taken.slot.number in
    record {
      slot = taken.slot;
      is_own_slot = taken.is_own_slot;
      stands = record { item = Done taken.slot.op taken.slot.number outcome; is = sym (agree_find test (is_done_of taken.slot.op) coming agree) ∙ taken.stands };
      first = agree_less test (is_done_of taken.slot.op) coming agree;
    }

-- an act that takes one does
pub takes_slot : (board : Board) (world : World) (h : List Event) (on : ℕ) (by : By) (o : OpId) (outcome : Outcome) (lane : BridgeLane) → Slots (both world lane) → FindsOwn (world lane).held
    → answer_in board world h on by o ≡ Gives (Take outcome) (Lane lane) → TakesSlot board world on by o outcome lane
takes_slot board world h on by o outcome lane slots single gives =
    let at = answered_in board world h on by o (Take outcome) lane gives in
    let taken = at.gives.1 in
    let done = done_for (both world lane) slots single (is_own board on by o) taken.slot taken.op taken.number outcome taken.is_own_slot taken.stands in
    record { slot = taken.slot; is_own_slot = taken.is_own_slot; stands = taken.stands ∙ ap (λ i. Some i) done }
