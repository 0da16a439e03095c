-- What stands on a lane: a posted write, a completion, or delayed requests alone.
use Rattle.std.proofs.Common.{◌≡◌, ℕ, ◌≤◌, Bool, true, false, ◌&&◌, cond, eqb, List, [], ◌∷◌, Some, refl, ◌⊎◌, inl, inr, ⊎_elim, arith}
use Rattle.std.specs.List.{find, list_all, AllByRecursion}
use Rattle.std.proofs.lemmas.Bool.Decides.{nat_tests}
use Rattle.list_facts.specs.Lists.{before, total}
use Rattle.pci_command.specs.declared.op_id.OpId.{OpId}
use Rattle.pci_command.specs.declared.op_id.Outcome.{Outcome}
use Rattle.order_table.specs.Order.{may_pass}
use Rattle.board_model.specs.declared.board.Board.{Board}
use Rattle.board_model.specs.Requests.{reads}
use Rattle.history_model.specs.declared.item.Carried.{Carried}
use Rattle.history_model.specs.declared.item.Carried.TheVariants.{Post, Ask, Done, Room, Gone}
use Rattle.history_model.specs.Lanes.{is_done_for}
use Rattle.history_model.specs.Answers.{request_kind, completion_kind, kind_of, completion_passes}
use Rattle.law_lanes.specs.Credits.{post_count}
use Rattle.law_lanes.specs.Standing.{CanStand}
use Rattle.law_lanes.specs.order.Order.{posts}

-- a posted write is among the items
pub record SomePost (xs : List Carried) : Type 0 where
  pub op : OpId
  pub later : List OpId
  pub is : posts xs ≡ op ∷ later

-- where posted writes are counted, there is one
pub some_post : (xs : List Carried) → 1 ≤ total post_count xs → SomePost xs
some_post [] some = absurd (omega arith)
some_post (Post op ∷ xs) some = record { op = op; later = posts xs; is = refl }
some_post (Ask op slot ∷ xs) some = let rest = some_post xs (omega arith) in record { op = rest.op; later = rest.later; is = rest.is }
some_post (Done op slot outcome ∷ xs) some = let rest = some_post xs (omega arith) in record { op = rest.op; later = rest.later; is = rest.is }
some_post (Room ∷ xs) some = let rest = some_post xs (omega arith) in record { op = rest.op; later = rest.later; is = rest.is }
some_post (Gone slot ∷ xs) some = let rest = some_post xs (omega arith) in record { op = rest.op; later = rest.later; is = rest.is }

-- there is one, or none
pub post_or_none : (xs : List Carried) → SomePost xs ⊎ (posts xs ≡ [])
post_or_none xs =
    let P : List OpId → Type 0 = λ found. posts xs ≡ found → SomePost xs ⊎ (posts xs ≡ []) in
    (elim (posts xs) as P [ [] ↦ λ none. inr none | op ∷ later ↦ λ is. inl (record { op = op; later = later; is = is }) ]) refl

-- a completion may pass every delayed request
passes_request : (read asks : Bool) → may_pass (completion_kind read) (request_kind asks) ≡ true
passes_request false false = refl
passes_request false true = refl
passes_request true false = refl
passes_request true true = refl

-- and every completion
passes_completion : (read gave : Bool) → may_pass (completion_kind read) (completion_kind gave) ≡ true
passes_completion false false = refl
passes_completion false true = refl
passes_completion true false = refl
passes_completion true true = refl

module _ (board : Board) (read : Bool) where
  -- where no posted write stands, a completion may pass the first item, and no posted write is behind it
  none_of : (x : Carried) (xs : List Carried) → posts (x ∷ xs) ≡ [] → CanStand x → (completion_passes board read x ≡ true) × (posts xs ≡ [])
  none_of (Post op) xs none stands = cc
  none_of (Ask op slot) xs none stands = (passes_request read (reads board op), none)
  none_of (Done op slot outcome) xs none stands = (passes_completion read (reads board op), none)
  none_of Room xs none stands = absurd stands
  none_of (Gone slot) xs none stands = absurd stands

  -- and all that stands before any item
  pub none_before : (test : Carried → Bool) (xs : List Carried) → posts xs ≡ [] → AllByRecursion CanStand xs → list_all (completion_passes board read) (before test xs) ≡ true
  none_before test [] none stands = refl
  none_before test (x ∷ xs) none stands =
      let parts = none_of x xs none stands.0 in
      let P : Bool → Type 0 = λ b. list_all (completion_passes board read) (cond b [] (x ∷ before test xs)) ≡ true in
      let rest = none_before test xs parts.1 stands.1 in
      let behind : (completion_passes board read x && list_all (completion_passes board read) (before test xs)) ≡ true = rw parts.0 rest in
      elim (test x) as P [ true ↦ refl | false ↦ behind ]

-- an item is no completion
abbrev pub NotDone : Carried → Type 0
NotDone (Post op) = Unit {0}
NotDone (Ask op slot) = Unit {0}
NotDone (Done op slot outcome) = ⊥
NotDone Room = Unit {0}
NotDone (Gone slot) = Unit {0}

-- a completion is among the items, the first for its slot
pub record SomeDone (xs : List Carried) : Type 0 where
  pub op : OpId
  pub number : ℕ
  pub outcome : Outcome
  pub is : find (is_done_for number) xs ≡ Some (Done op number outcome)

-- one more item that is no completion changes nothing
further : (x : Carried) (xs : List Carried) → ((number : ℕ) → is_done_for number x ≡ false) → NotDone x → SomeDone xs ⊎ AllByRecursion NotDone xs → SomeDone (x ∷ xs) ⊎ AllByRecursion NotDone (x ∷ xs)
further x xs fails here =
    let Result : Type 0 = SomeDone (x ∷ xs) ⊎ AllByRecursion NotDone (x ∷ xs) in
    ⊎_elim {C = Result}
    (λ (some : SomeDone xs). inl (record { op = some.op; number = some.number; outcome = some.outcome; is = rw (fails some.number) some.is }))
    (λ (none : AllByRecursion NotDone xs). inr (here, none))

-- there is one, or none
pub done_or_none : (xs : List Carried) → SomeDone xs ⊎ AllByRecursion NotDone xs
done_or_none [] = inr tt
done_or_none (Post op ∷ xs) = further (Post op) xs (λ _. refl) tt (done_or_none xs)
done_or_none (Ask op slot ∷ xs) = further (Ask op slot) xs (λ _. refl) tt (done_or_none xs)
done_or_none (Done op slot outcome ∷ xs) =
    let self : eqb slot slot ≡ true = grind (arith, nat_tests) in
    inl (record { op = op; number = slot; outcome = outcome; is = rw self refl })
done_or_none (Room ∷ xs) = further Room xs (λ _. refl) tt (done_or_none xs)
done_or_none (Gone slot ∷ xs) = further (Gone slot) xs (λ _. refl) tt (done_or_none xs)

-- a delayed request stands as the oldest
pub record FirstAsk (xs : List Carried) : Type 0 where
  pub op : OpId
  pub number : ℕ
  pub rest : List Carried
  pub is : xs ≡ Ask op number ∷ rest

-- where neither posted writes nor completions stand, a delayed request is the oldest, or nothing stands
pub ask_or_none : (xs : List Carried) → posts xs ≡ [] → AllByRecursion NotDone xs → AllByRecursion CanStand xs → FirstAsk xs ⊎ (xs ≡ [])
ask_or_none [] none no_done stands = inr refl
ask_or_none (Post op ∷ xs) none no_done stands = cc
ask_or_none (Ask op slot ∷ xs) none no_done stands = inl (record { op = op; number = slot; rest = xs; is = refl })
ask_or_none (Done op slot outcome ∷ xs) none no_done stands = absurd no_done.0
ask_or_none (Room ∷ xs) none no_done stands = absurd stands.0
ask_or_none (Gone slot ∷ xs) none no_done stands = absurd stands.0
