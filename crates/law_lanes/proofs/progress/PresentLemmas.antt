-- What a lane presents: its oldest posted write, and where no posted write stands the first delayed request of its kind.
use Rattle.std.proofs.Common.{◌≡◌, ℕ, Bool, true, false, not, ◌&&◌, cond, List, [], ◌∷◌, Option, Some, refl, sym, subst}
use Rattle.std.specs.List.{find, list_all, AllByRecursion}
use Rattle.list_facts.specs.Lists.{before}
use Rattle.pci_command.specs.declared.op_id.OpId.{OpId}
use Rattle.pci_command.specs.declared.op_id.Outcome.{Outcome}
use Rattle.pci_command.specs.Same.{same_op}
use Rattle.board_model.specs.declared.board.Board.{Board}
use Rattle.board_model.specs.Requests.{reads, same_requests}
use Rattle.order_table.specs.Order.{may_pass}
use Rattle.pci_command.specs.declared.command.Kind.TheVariants.{Pmw}
use Rattle.history_model.specs.declared.item.Carried.{Carried}
use Rattle.history_model.specs.declared.item.Carried.TheVariants.{Post, Ask, Done, Room, Gone}
use Rattle.history_model.specs.Lanes.{is_of}
use Rattle.history_model.specs.Answers.{request_kind, completion_kind, goes_before, presents_item, presents}
use Rattle.law_lanes.specs.Kinds.{RightKind}
use Rattle.law_lanes.specs.Owners.{is_equal_ask}
use Rattle.law_lanes.specs.Standing.{CanStand}
use Rattle.history_model.proofs.facts.RequestLemmas.{same_op_true, same_op_self}
use Rattle.law_lanes.specs.order.Order.{posts, is_posted_op}
use Rattle.law_lanes.proofs.order.Laws.{post_of}

-- a posted write may go before a delayed request
post_before_ask : (board : Board) (on : ℕ) (o op : OpId) (slot : ℕ) → goes_before board on (Post o) (Ask op slot) ≡ true
post_before_ask board on o op slot =
    let P : Bool → Type 0 = λ b. (may_pass Pmw (request_kind b) && true) ≡ true in
    elim (reads board op) as P [ true ↦ refl | false ↦ refl ]

-- and before a completion
post_before_done : (board : Board) (on : ℕ) (o op : OpId) (slot : ℕ) (outcome : Outcome) → goes_before board on (Post o) (Done op slot outcome) ≡ true
post_before_done board on o op slot outcome =
    let P : Bool → Type 0 = λ b. (may_pass Pmw (completion_kind b) && true) ≡ true in
    elim (reads board op) as P [ true ↦ refl | false ↦ refl ]

-- what is first of a list and what comes before it, where the head does not pass
abbrev IsFirst : (Carried → Bool) → (Carried → Bool) → Carried → List Carried → Type 0
IsFirst test goes item xs = (find test xs ≡ Some item) × (list_all goes (before test xs) ≡ true)

-- the first of a list is the head, where that passes
first_head : (test goes : Carried → Bool) (item : Carried) (xs : List Carried) → test item ≡ true → IsFirst test goes item (item ∷ xs)
first_head test goes item xs passes =
    let P : Bool → Type 0 = λ b. (cond b (Some item) (find test xs) ≡ Some item) × (list_all goes (cond b [] (item ∷ before test xs)) ≡ true) in
    subst P (sym passes) (refl, refl)

-- or it is that of the rest
first_rest : (test goes : Carried → Bool) (item head : Carried) (xs : List Carried) → test head ≡ false → goes head ≡ true → IsFirst test goes item xs → IsFirst test goes item (head ∷ xs)
first_rest test goes item head xs fails passes first =
    let P : Bool → Type 0 = λ b. (cond b (Some head) (find test xs) ≡ Some item) × (list_all goes (cond b [] (head ∷ before test xs)) ≡ true) in
    let here : (goes head && list_all goes (before test xs)) ≡ true = rw passes first.1 in
    subst P (sym fails) (first.0, here)

-- what may go before all that is older is presented
first_presents : (board : Board) (on : ℕ) (o : OpId) (item : Carried) (xs : List Carried) → IsFirst (is_of o) (goes_before board on item) item xs → presents board on o xs ≡ true
first_presents board on o item xs first =
    let P : Option Carried → Type 0 = λ found. presents_item board on (before (is_of o) xs) found ≡ true in
    subst P (sym first.0) first.1

-- an item of a write in memory is its posted write and no delayed request
not_of : (board : Board) (o op : OpId) (slot : ℕ) → is_posted_op board o ≡ true → RightKind board (Ask op slot) → same_op o op ≡ false
not_of board o op slot posted right =
    let P : Bool → Type 0 = λ b. same_op o op ≡ b → b ≡ false in
    (elim (same_op o op) as P [ true ↦ λ passes. let same : Ask op slot ≡ Post o = post_of board o posted (Ask op slot) right passes in cc | false ↦ λ _. refl ]) refl

-- the oldest posted write that stands may go before all that is older
first_post : (board : Board) (on : ℕ) (o : OpId) (later : List OpId) (xs : List Carried) → is_posted_op board o ≡ true → AllByRecursion (RightKind board) xs → AllByRecursion CanStand xs
    → posts xs ≡ o ∷ later → IsFirst (is_of o) (goes_before board on (Post o)) (Post o) xs
first_post board on o later [] posted right stands is = cc
first_post board on o later (Post op ∷ xs) posted right stands is =
    let same : op ≡ o = cc in
    subst (λ p. IsFirst (is_of o) (goes_before board on (Post o)) (Post o) (Post p ∷ xs)) (sym same) (first_head (is_of o) (goes_before board on (Post o)) (Post o) xs (same_op_self o))
first_post board on o later (Ask op slot ∷ xs) posted right stands is =
    first_rest (is_of o) (goes_before board on (Post o)) (Post o) (Ask op slot) xs (not_of board o op slot posted right.0) (post_before_ask board on o op slot)
    (first_post board on o later xs posted right.1 stands.1 is)
first_post board on o later (Done op slot outcome ∷ xs) posted right stands is =
    first_rest (is_of o) (goes_before board on (Post o)) (Post o) (Done op slot outcome) xs refl (post_before_done board on o op slot outcome)
    (first_post board on o later xs posted right.1 stands.1 is)
first_post board on o later (Room ∷ xs) posted right stands is = absurd stands.0
first_post board on o later (Gone slot ∷ xs) posted right stands is = absurd stands.0

-- so it is presented
pub post_presented : (board : Board) (on : ℕ) (o : OpId) (later : List OpId) (xs : List Carried) → is_posted_op board o ≡ true → AllByRecursion (RightKind board) xs → AllByRecursion CanStand xs
    → posts xs ≡ o ∷ later → presents board on o xs ≡ true
post_presented board on o later xs posted right stands is = first_presents board on o (Post o) xs (first_post board on o later xs posted right stands is)

-- a delayed request may go before one that is not the same
requests_pass : (a b same : Bool) → same ≡ false → (may_pass (request_kind a) (request_kind b) && not same) ≡ true
requests_pass true true same differs = rw differs refl
requests_pass true false same differs = rw differs refl
requests_pass false true same differs = rw differs refl
requests_pass false false same differs = rw differs refl

-- and before a completion
request_before_done : (a b : Bool) → (may_pass (request_kind a) (completion_kind b) && true) ≡ true
request_before_done true true = refl
request_before_done true false = refl
request_before_done false true = refl
request_before_done false false = refl

-- an operation that has a request has not that of one with another request
differs : (board : Board) (on : ℕ) (o p : OpId) → same_requests board on o o ≡ true → same_requests board on o p ≡ false → same_op o p ≡ false
differs board on o p self other =
    let P : Bool → Type 0 = λ b. same_op o p ≡ b → b ≡ false in
    (elim (same_op o p) as P [
      | true ↦ λ passes. let same : same_requests board on o p ≡ true = subst (λ q. same_requests board on o q ≡ true) (same_op_true o p passes) self in cc
      | false ↦ λ _. refl
    ]) refl

-- where no posted write stands, the first delayed request of its kind may go before all that is older
first_ask : (board : Board) (on : ℕ) (o : OpId) (number : ℕ) (xs : List Carried) → same_requests board on o o ≡ true → posts xs ≡ [] → AllByRecursion CanStand xs
    → find (is_equal_ask board on o) xs ≡ Some (Ask o number) → IsFirst (is_of o) (goes_before board on (Ask o number)) (Ask o number) xs
first_ask board on o number [] self none stands is = cc
first_ask board on o number (Post op ∷ xs) self none stands is = cc
first_ask board on o number (Ask p slot ∷ xs) self none stands is =
    let Goal : Type 0 = IsFirst (is_of o) (goes_before board on (Ask o number)) (Ask o number) (Ask p slot ∷ xs) in
    let P : Bool → Type 0 = λ b. same_requests board on o p ≡ b → cond b (Some (Ask p slot)) (find (is_equal_ask board on o) xs) ≡ Some (Ask o number) → Goal in
    (elim (same_requests board on o p) as P [
      | true ↦ λ _ e.
          let same : Ask p slot ≡ Ask o number = cc in
          subst (λ head. IsFirst (is_of o) (goes_before board on (Ask o number)) (Ask o number) (head ∷ xs)) (sym same)
          (first_head (is_of o) (goes_before board on (Ask o number)) (Ask o number) xs (same_op_self o))
      | false ↦ λ other e.
          first_rest (is_of o) (goes_before board on (Ask o number)) (Ask o number) (Ask p slot) xs (differs board on o p self other)
          (requests_pass (reads board o) (reads board p) (same_requests board on o p) other) (first_ask board on o number xs self none stands.1 e)
    ]) refl is
first_ask board on o number (Done op slot outcome ∷ xs) self none stands is =
    first_rest (is_of o) (goes_before board on (Ask o number)) (Ask o number) (Done op slot outcome) xs refl (request_before_done (reads board o) (reads board op))
    (first_ask board on o number xs self none stands.1 is)
first_ask board on o number (Room ∷ xs) self none stands is = absurd stands.0
first_ask board on o number (Gone slot ∷ xs) self none stands is = absurd stands.0

-- so it is presented
pub ask_presented : (board : Board) (on : ℕ) (o : OpId) (number : ℕ) (xs : List Carried) → same_requests board on o o ≡ true → posts xs ≡ [] → AllByRecursion CanStand xs
    → find (is_equal_ask board on o) xs ≡ Some (Ask o number) → presents board on o xs ≡ true
ask_presented board on o number xs self none stands is = first_presents board on o (Ask o number) xs (first_ask board on o number xs self none stands is)

-- what stands as the oldest is presented
pub oldest_presented : (board : Board) (on : ℕ) (o : OpId) (number : ℕ) (xs : List Carried) → presents board on o (Ask o number ∷ xs) ≡ true
oldest_presented board on o number xs = first_presents board on o (Ask o number) (Ask o number ∷ xs) (first_head (is_of o) (goes_before board on (Ask o number)) (Ask o number) xs (same_op_self o))
