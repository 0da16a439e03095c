-- One operation more was gone through.
use Rattle.std.proofs.Common.{◌≡◌, ◌≢◌, ℕ, zero, suc, ◌+◌, ◌<◌, ◌≤◌, Bool, true, false, not, ◌&&◌, ◌||◌, ◌==◌, cond, eqb, eqb-true, nat_lt, List, [], ◌∷◌, ◌++◌, length, Option, Some, None, refl, sym, ap, subst, ◌∙◌, arith, slice_get, append-nil}
use Rattle.std.specs.List.{list_any, list_all}
use Rattle.std.proofs.lemmas.Bool.{and_parts}
use Rattle.std.proofs.lemmas.Bool.Decides.{nat_tests}
use Rattle.pci_command.specs.declared.command.Command.TheVariants.{MemWrite}
use Rattle.pci_command.specs.Same.{same_command, same_request}
use Rattle.board_model.specs.declared.agents.Master.{Master}
use Rattle.board_model.specs.declared.op.Op.{Op}
use Rattle.board_model.specs.declared.board.Board.{Board}
use Rattle.board_model.specs.Requests.{command_of, address_on, request_on}
use Rattle.board_model.specs.WellFormed.{is_well_formed}
use Rattle.machine_steps.proofs.SameLemmas.{request_decides}
use Rattle.law_untagged.specs.ApartTest.{ops_meet, masters_meet, is_apart}
use Rattle.untagged_apart.specs.declared.kept.Spot.{Spot}
use Rattle.untagged_apart.specs.Kept.{kept_at, Keeps, At, same_in, same_at, represents, meets_in, meets_at, meets_earlier, is_before, Gone}
use Rattle.untagged_apart.proofs.KeptLemmas.{Alike, found_all, found_none, any_more, all_more, all_weaker, or_left, first_alike, second_alike, posted_first, posted_second, alike, far}

-- What stands at a place is one operation.

one_op : (board : Board) (s t : Spot) (on other_on : ℕ) (a b : Op) → s.master ≡ t.master → s.index ≡ t.index → At board s on a → At board t other_on b → a ≡ b
one_op board s t on other_on a b masters indices at other =
    let is_master = at.is_master in
    let other_master = other.is_master in
    let same_place : slice_get board.masters s.master ≡ slice_get board.masters t.master = ap (slice_get board.masters) masters in
    let master : at.master ≡ other.master = cc in
    let is_op = at.is_op in
    let other_op = other.is_op in
    let same_op : slice_get at.master.ops s.index ≡ slice_get other.master.ops t.index = ap (λ (m : Master). slice_get m.ops s.index) master ∙ ap (slice_get other.master.ops) indices in
    let op : Some a ≡ Some b = sym is_op ∙ same_op ∙ other_op in
    cc

one_bus : (board : Board) (s t : Spot) (on other_on : ℕ) (a b : Op) → s.master ≡ t.master → At board s on a → At board t other_on b → on ≡ other_on
one_bus board s t on other_on a b masters at other =
    let is_master = at.is_master in
    let other_master = other.is_master in
    let same_place : slice_get board.masters s.master ≡ slice_get board.masters t.master = ap (slice_get board.masters) masters in
    let master : at.master ≡ other.master = cc in
    sym at.is_bus ∙ ap (λ (m : Master). m.bus) master ∙ other.is_bus

-- What the tests say of what is kept.

record Same (board : Board) (t : Spot) (op : Op) : Type 0 where
  on : ℕ
  first : Op
  at : At board t on first
  same : same_request (request_on first 0) (request_on op 0) ≡ true

same_stands : (board : Board) (t : Spot) (op : Op) → same_at op t.index (slice_get board.masters t.master) ≡ true → Same board t op
same_stands board t op is =
    let P : Option Master → Type 0 = λ found. slice_get board.masters t.master ≡ found → same_at op t.index found ≡ true → Same board t op in
    (elim (slice_get board.masters t.master) as P [
      | None ↦ λ _ e. cc
      | Some master ↦ λ is_master e.
          let Q : Option Op → Type 0 = λ found. slice_get master.ops t.index ≡ found → same_in op found ≡ true → Same board t op in
          (elim (slice_get master.ops t.index) as Q [
            | None ↦ λ _ f. cc
            | Some first ↦ λ is_op f. record { on = master.bus; first = first; at = record { master = master; is_master = is_master; is_bus = refl; is_op = is_op }; same = f }
          ]) refl e
    ]) refl is

-- what stands there asks for the same as itself
self_same : (board : Board) (s : Spot) (on : ℕ) (op : Op) → At board s on op → same_at op s.index (slice_get board.masters s.master) ≡ true
self_same board s on op at =
    let is_master = at.is_master in
    let is_op = at.is_op in
    let self : same_request (request_on op 0) (request_on op 0) ≡ true = (request_decides (request_on op 0) (request_on op 0)).1 refl in
    rw (is_master, is_op) self

meets_is : (board : Board) (on : ℕ) (op : Op) (t : Spot) (first_on : ℕ) (first : Op) → At board t first_on first → meets_at board on op t.index (slice_get board.masters t.master) ≡ ops_meet board first_on first on op
meets_is board on op t first_on first at =
    let is_master = at.is_master in
    let is_op = at.is_op in
    let unfolded : meets_at board on op t.index (slice_get board.masters t.master) ≡ ops_meet board at.master.bus first on op = rw (is_master, is_op) refl in
    unfolded ∙ ap (λ bus. ops_meet board bus first on op) at.is_bus

-- What stands before the next place.

before_later : (m i : ℕ) (t : Spot) → is_before m i t ≡ true → is_before m (i + 1) t ≡ true
before_later m i t is = grind (arith, nat_tests)

before_next : (m i : ℕ) (t : Spot) → is_before m (i + 1) t ≡ true → is_before m i t ≡ false → (t.master ≡ m) × (t.index ≡ i)
before_next m i t is not_before = (grind (arith, nat_tests), grind (arith, nat_tests))

before_self : (spot : Spot) → is_before spot.master (spot.index + 1) spot ≡ true
before_self spot = grind (arith, nat_tests)

module _ (board : Board) (formed : is_well_formed board ≡ true) (entries : List (ℕ × List Spot)) (spot : Spot) (on : ℕ) (op : Op)
    (at : At board spot on op) (gone : Gone board entries spot.master spot.index) where
  -- what stands before the next place stands before this one, or is this one
  stands : (t : Spot) (other_on : ℕ) (other : Op) → At board t other_on other → is_before spot.master (spot.index + 1) t ≡ true
      → (X : Type 0) → (is_before spot.master spot.index t ≡ true → X) → (t.master ≡ spot.master → op ≡ other → on ≡ other_on → X) → X
  stands t other_on other other_at before X earlier this =
      let P : Bool → Type 0 = λ b. is_before spot.master spot.index t ≡ b → X in
      (elim (is_before spot.master spot.index t) as P [
        | true ↦ earlier
        | false ↦ λ not_before.
            let one = before_next spot.master spot.index t before not_before in
            this one.0 (one_op board spot t on other_on op other (sym one.0) (sym one.1) at other_at) (one_bus board spot t on other_on op other (sym one.0) at other_at)
      ]) refl

  later_all : (address : ℕ) → list_all (is_before spot.master (spot.index + 1)) (kept_at address entries) ≡ true
  later_all address = all_weaker (is_before spot.master spot.index) (is_before spot.master (spot.index + 1)) (kept_at address entries) (before_later spot.master spot.index) (gone.before address)

  -- a posted one
  pub gone_posted : same_command (command_of op) MemWrite ≡ true → Gone board entries spot.master (spot.index + 1)
  gone_posted posted =
      record {
        kept = λ s s_on a s_at before delayed.
            stands s s_on a s_at before (list_any (represents board s.master a) (kept_at (address_on a 0) entries) ≡ true)
            (λ earlier. gone.kept s s_on a s_at earlier delayed)
            (λ _ same _. absurd (no_both (subst (λ (o : Op). same_command (command_of o) MemWrite ≡ true) same posted) delayed));
        before = later_all;
        none = λ s t s_on t_on a b s_at t_at before less.
            stands t t_on b t_at before (ops_meet board s_on a t_on b ≡ false)
            (λ earlier. gone.none s t s_on t_on a b s_at t_at earlier less)
            (λ _ same _. posted_second board b t_on s_on a (subst (λ (o : Op). same_command (command_of o) MemWrite ≡ true) same posted));
      }
    where
      no_both : {b : Bool} → b ≡ true → b ≡ false → ⊥
      no_both is is_not = cc

  -- one that another of its master asks for
  pub gone_same : list_any (represents board spot.master op) (kept_at (address_on op 0) entries) ≡ true → Gone board entries spot.master (spot.index + 1)
  gone_same represented =
      let found = found_all (represents board spot.master op) (is_before spot.master spot.index) (kept_at (address_on op 0) entries) represented (gone.before (address_on op 0)) in
      let t : Spot = found.element in
      let parts = and_parts (t.master == spot.master) (same_at op t.index (slice_get board.masters t.master)) found.first in
      let masters : t.master ≡ spot.master = eqb-true t.master spot.master parts.0 in
      let stood = same_stands board t op parts.1 in
      let same : Alike stood.first op = alike board formed t spot stood.on on stood.first op stood.at at stood.same in
      record {
        kept = λ s s_on a s_at before delayed.
            stands s s_on a s_at before (list_any (represents board s.master a) (kept_at (address_on a 0) entries) ≡ true)
            (λ earlier. gone.kept s s_on a s_at earlier delayed)
            (λ master one _. subst (λ n. list_any (represents board n a) (kept_at (address_on a 0) entries) ≡ true) (sym master)
            (subst (λ (o : Op). list_any (represents board spot.master o) (kept_at (address_on o 0) entries) ≡ true) one represented));
        before = later_all;
        none = λ s u s_on u_on a b s_at u_at before less.
            stands u u_on b u_at before (ops_meet board s_on a u_on b ≡ false)
            (λ earlier. gone.none s u s_on u_on a b s_at u_at earlier less)
            (λ master one bus.
            let below : s.master < t.master = omega (arith, less, master, masters) in
            let met : ops_meet board s_on a stood.on stood.first ≡ false = gone.none s t s_on stood.on a stood.first s_at stood.at found.second below in
            let buses : stood.on ≡ u_on = one_bus board t u stood.on u_on stood.first b (masters ∙ sym master) stood.at u_at in
            let here : ops_meet board s_on a u_on stood.first ≡ false = subst (λ n. ops_meet board s_on a n stood.first ≡ false) buses met in
            subst (λ (o : Op). ops_meet board s_on a u_on o ≡ false) one (sym (second_alike board stood.first op u_on s_on a same) ∙ here));
      }

  -- one that meets none
  pub gone_new : (next : List (ℕ × List Spot)) → Keeps (address_on op 0) spot entries next → list_any (meets_earlier board spot.master on op) (kept_at (address_on op 0) entries) ≡ false
      → Gone board next spot.master (spot.index + 1)
  gone_new next keeps unmet =
      record {
        kept = λ s s_on a s_at before delayed.
            stands s s_on a s_at before (list_any (represents board s.master a) (kept_at (address_on a 0) next) ≡ true)
            (λ earlier. still s.master a (gone.kept s s_on a s_at earlier delayed))
            (λ master one _. subst (λ n. list_any (represents board n a) (kept_at (address_on a 0) next) ≡ true) (sym master)
            (subst (λ (o : Op). list_any (represents board spot.master o) (kept_at (address_on o 0) next) ≡ true) one itself));
        before = λ address. subst (λ spots. list_all (is_before spot.master (spot.index + 1)) spots ≡ true) (sym (keeps.each address))
            (all_more (is_before spot.master (spot.index + 1)) (kept_at address entries) (cond (address_on op 0 == address) (spot ∷ []) []) (later_all address) (one_before (address_on op 0 == address)));
        none = λ s t s_on t_on a b s_at t_at before less.
            stands t t_on b t_at before (ops_meet board s_on a t_on b ≡ false)
            (λ earlier. gone.none s t s_on t_on a b s_at t_at earlier less)
            (λ master one bus.
            let below : s.master < spot.master = omega (arith, less, master) in
            subst (λ (o : Op). ops_meet board s_on a t_on o ≡ false) one (subst (λ n. ops_meet board s_on a n op ≡ false) bus (apart s s_on a s_at below)));
      }
    where
      one_before : (b : Bool) → list_all (is_before spot.master (spot.index + 1)) (cond b (spot ∷ []) []) ≡ true
      one_before true = let here : is_before spot.master (spot.index + 1) spot ≡ true = before_self spot in rw here refl
      one_before false = refl

      still : (master : ℕ) (a : Op) → list_any (represents board master a) (kept_at (address_on a 0) entries) ≡ true → list_any (represents board master a) (kept_at (address_on a 0) next) ≡ true
      still master a was =
          ap (list_any (represents board master a)) (keeps.each (address_on a 0))
          ∙ any_more (represents board master a) (kept_at (address_on a 0) entries) (cond (address_on op 0 == address_on a 0) (spot ∷ []) [])
          ∙ or_left (list_any (represents board master a) (kept_at (address_on a 0) entries)) _ was

      itself : list_any (represents board spot.master op) (kept_at (address_on op 0) next) ≡ true
      itself =
          let own : (address_on op 0 == address_on op 0) ≡ true = grind (arith, nat_tests) in
          let master : (spot.master == spot.master) ≡ true = grind (arith, nat_tests) in
          let same : same_at op spot.index (slice_get board.masters spot.master) ≡ true = self_same board spot on op at in
          let last : list_any (represents board spot.master op) (spot ∷ []) ≡ true = rw (master, same) refl in
          let P : Bool → Type 0 = λ b. (b || true) ≡ true in
          ap (list_any (represents board spot.master op)) (keeps.each (address_on op 0))
          ∙ any_more (represents board spot.master op) (kept_at (address_on op 0) entries) (cond (address_on op 0 == address_on op 0) (spot ∷ []) [])
          ∙ ap (λ b. list_any (represents board spot.master op) (kept_at (address_on op 0) entries) || list_any (represents board spot.master op) (cond b (spot ∷ []) [])) own
          ∙ ap (λ b. list_any (represents board spot.master op) (kept_at (address_on op 0) entries) || b) last
          ∙ (elim (list_any (represents board spot.master op) (kept_at (address_on op 0) entries)) as P [ true ↦ refl | false ↦ refl ])

      -- with the same address
      near : (s : Spot) (s_on : ℕ) (a : Op) → At board s s_on a → s.master < spot.master → same_command (command_of a) MemWrite ≡ false → address_on op 0 ≡ address_on a 0 → ops_meet board s_on a on op ≡ false
      near s s_on a s_at below delayed address =
          let earlier : is_before spot.master spot.index s ≡ true = grind (arith, nat_tests) in
          let kept : list_any (represents board s.master a) (kept_at (address_on op 0) entries) ≡ true = subst (λ n. list_any (represents board s.master a) (kept_at n entries) ≡ true) (sym address) (gone.kept s s_on a s_at earlier delayed) in
          let found = found_none (represents board s.master a) (meets_earlier board spot.master on op) (kept_at (address_on op 0) entries) kept unmet in
          let t : Spot = found.element in
          let parts = and_parts (t.master == s.master) (same_at a t.index (slice_get board.masters t.master)) found.first in
          let masters : t.master ≡ s.master = eqb-true t.master s.master parts.0 in
          let stood = same_stands board t a parts.1 in
          let same : Alike stood.first a = alike board formed t s stood.on s_on stood.first a stood.at s_at stood.same in
          let lower : nat_lt t.master spot.master ≡ true = (let l : t.master < spot.master = omega (arith, below, masters) in grind (arith, nat_tests)) in
          let second = found.second in
          let none : meets_at board on op t.index (slice_get board.masters t.master) ≡ false = rw lower at second in
          let met : ops_meet board stood.on stood.first on op ≡ false = sym (meets_is board on op t stood.on stood.first stood.at) ∙ none in
          let buses : stood.on ≡ s_on = one_bus board t s stood.on s_on stood.first a masters stood.at s_at in
          let here : ops_meet board s_on stood.first on op ≡ false = subst (λ n. ops_meet board n stood.first on op ≡ false) buses met in
          sym (first_alike board stood.first a s_on on op same) ∙ here

      apart : (s : Spot) (s_on : ℕ) (a : Op) → At board s s_on a → s.master < spot.master → ops_meet board s_on a on op ≡ false
      apart s s_on a s_at below =
          let P : Bool → Type 0 = λ b. same_command (command_of a) MemWrite ≡ b → ops_meet board s_on a on op ≡ false in
          (elim (same_command (command_of a) MemWrite) as P [
            | true ↦ posted_first board a s_on on op
            | false ↦ λ delayed.
                let Q : Bool → Type 0 = λ b. (address_on op 0 == address_on a 0) ≡ b → ops_meet board s_on a on op ≡ false in
                (elim (address_on op 0 == address_on a 0) as Q [
                  | true ↦ λ same. near s s_on a s_at below delayed (eqb-true (address_on op 0) (address_on a 0) same)
                  | false ↦ λ other.
                      let differ : address_on a 0 ≢ address_on op 0 = λ same. (let e : (address_on op 0 == address_on a 0) ≡ true = grind (arith, nat_tests) in cc) in
                      far board formed s spot s_on on a op s_at at differ
                ]) refl
          ]) refl

-- The ends.

pub gone_none : (board : Board) (entries : List (ℕ × List Spot)) → entries ≡ [] → Gone board entries 0 0
gone_none board entries is =
    record {
      kept = λ s on a at before delayed. absurd (nothing s before);
      before = λ address. ap (λ es. list_all (is_before 0 0) (kept_at address es)) is;
      none = λ s t on other_on a b at other_at before less. absurd (nothing t before);
    }
  where
    nothing : (s : Spot) → is_before 0 0 s ≡ true → ⊥
    nothing s is = grind (arith, nat_tests)

-- a whole program was gone through
pub gone_master : (board : Board) (entries : List (ℕ × List Spot)) (m i : ℕ) (master : Master) → slice_get board.masters m ≡ Some master → length master.ops ≤ i → Gone board entries m i → Gone board entries (m + 1) 0
gone_master board entries m i master is_master all gone =
    record {
      kept = λ s on a at before delayed. gone.kept s on a at (earlier s on a at before) delayed;
      before = λ address. all_weaker (is_before m i) (is_before (m + 1) 0) (kept_at address entries) (λ s is. grind (arith, nat_tests)) (gone.before address);
      none = λ s t on other_on a b at other_at before less. gone.none s t on other_on a b at other_at (earlier t other_on b other_at before) less;
    }
  where
    below_length : {X : Type 0} (xs : List X) (n : ℕ) (x : X) → slice_get xs n ≡ Some x → n < length xs
    below_length [] n x is = cc
    below_length (y ∷ xs) zero x is = omega arith
    below_length (y ∷ xs) (suc n) x is = let rest = below_length xs n x is in omega (arith, rest)

    inside : (s : Spot) (on : ℕ) (a : Op) → At board s on a → s.master ≡ m → s.index < i
    inside s on a at is =
        let there = at.is_master in
        let place : slice_get board.masters s.master ≡ slice_get board.masters m = ap (slice_get board.masters) is in
        let one : at.master ≡ master = cc in
        let within = below_length at.master.ops s.index a at.is_op in
        omega (arith, within, all, ap (λ (k : Master). length k.ops) one)

    earlier : (s : Spot) (on : ℕ) (a : Op) → At board s on a → is_before (m + 1) 0 s ≡ true → is_before m i s ≡ true
    earlier s on a at before =
        let P : Bool → Type 0 = λ b. (s.master == m) ≡ b → is_before m i s ≡ true in
        (elim (s.master == m) as P [
          | true ↦ λ same. let within = inside s on a at (eqb-true s.master m same) in grind (arith, nat_tests)
          | false ↦ λ other. grind (arith, nat_tests)
        ]) refl
