-- The posted writes among the items of a lane.
use Rattle.std.proofs.Common.{◌≡◌, ℕ, Bool, true, false, cond, List, [], ◌∷◌, ◌++◌, Option, Some, None, refl, sym, ap, subst, ◌∙◌, append_assoc}
use Rattle.std.specs.List.{find, list_all, AllByRecursion}
use Rattle.list_facts.specs.Lists.{less, before}
use Rattle.list_facts.proofs.EachLemmas.{Each-all, Each-weaker, Each-find}
use Rattle.list_facts.proofs.FindLemmas.{find_passes}
use Rattle.pci_command.specs.declared.op_id.OpId.{OpId}
use Rattle.pci_command.specs.declared.op_id.Outcome.{Outcome}
use Rattle.pci_command.specs.declared.request.Request.{Request}
use Rattle.board_model.specs.Requests.{request_of, is_posted}
use Rattle.board_model.specs.declared.board.Board.{Board}
use Rattle.history_model.specs.declared.item.Carried.{Carried}
use Rattle.history_model.specs.declared.item.Carried.TheVariants.{Post, Ask, Done, Room, Gone}
use Rattle.history_model.specs.Lanes.{is_of, is_done_for, reply_to}
use Rattle.history_model.specs.Answers.{goes_before, presents_item, presents}
use Rattle.law_lanes.specs.Kinds.{NamesOp, RightKind}
use Rattle.history_model.proofs.facts.RequestLemmas.{same_op_true, request_is_of}
use Rattle.law_lanes.specs.order.Order.{post_in, posts, is_posted_in, is_posted_op}
use Rattle.std.proofs.lemmas.Bool.{and_parts}

pub posts-append : (xs ys : List Carried) → posts (xs ++ ys) ≡ posts xs ++ posts ys
posts-append [] ys = refl
posts-append (x ∷ xs) ys = ap (λ zs. post_in x ++ zs) (posts-append xs ys) ∙ sym (append_assoc (post_in x) (posts xs) (posts ys))

pub posts-reply : (outcome : Outcome) (item : Option Carried) → posts (reply_to outcome item) ≡ []
posts-reply outcome None = refl
posts-reply outcome (Some (Post op)) = refl
posts-reply outcome (Some (Ask op slot)) = refl
posts-reply outcome (Some (Done op slot given)) = refl
posts-reply outcome (Some Room) = refl
posts-reply outcome (Some (Gone slot)) = refl

-- where what passes is no posted write, the first that passes takes none away
posts-less : (test : Carried → Bool) (xs : List Carried) → AllByRecursion (λ x. test x ≡ true → post_in x ≡ []) xs → posts (less test xs) ≡ posts xs
posts-less test [] no_post = refl
posts-less test (x ∷ xs) no_post =
    let P : Bool → Type 0 = λ b. test x ≡ b → posts (cond b xs (x ∷ less test xs)) ≡ post_in x ++ posts xs in
    (elim (test x) as P [
      | true ↦ λ passes. let none = no_post.0 passes in rw none refl
      | false ↦ λ _. ap (λ ys. post_in x ++ ys) (posts-less test xs no_post.1)
    ]) refl

-- the completion for a slot is no posted write
done_no_post : (number : ℕ) (item : Carried) → is_done_for number item ≡ true → post_in item ≡ []
done_no_post number (Post op) passes = cc
done_no_post number (Ask op slot) passes = refl
done_no_post number (Done op slot outcome) passes = refl
done_no_post number Room passes = refl
done_no_post number (Gone slot) passes = refl

pub posts-less_done : (number : ℕ) (xs : List Carried) → posts (less (is_done_for number) xs) ≡ posts xs
posts-less_done number xs = posts-less (is_done_for number) xs (Each-all (λ x. is_done_for number x ≡ true → post_in x ≡ []) (done_no_post number) xs)

-- what names a write in memory, or none, says whether the operation is one
kind_is : (board : Board) (posted : Bool) (o : OpId) → NamesOp board posted o → is_posted_op board o ≡ posted
kind_is board posted o named = ap is_posted_in named.is_op ∙ named.is_posted

-- an item of an operation that is no write in memory is no posted write
pub other_no_post : (board : Board) (o : OpId) → is_posted_op board o ≡ false → (item : Carried) → RightKind board item → is_of o item ≡ true → post_in item ≡ []
other_no_post board o other (Post op) right passes =
    let same : o ≡ op = same_op_true o op passes in
    let posted : is_posted_op board op ≡ true = kind_is board true op right in
    let not_posted : is_posted_op board op ≡ false = subst (λ p. is_posted_op board p ≡ false) same other in
    let impossible : true ≡ false = sym posted ∙ not_posted in
    cc
other_no_post board o other (Ask op slot) right passes = refl
other_no_post board o other (Done op slot outcome) right passes = refl
other_no_post board o other Room right passes = refl
other_no_post board o other (Gone slot) right passes = refl

pub posts-less_other : (board : Board) (o : OpId) (xs : List Carried) → is_posted_op board o ≡ false → AllByRecursion (RightKind board) xs → posts (less (is_of o) xs) ≡ posts xs
posts-less_other board o xs other right =
    posts-less (is_of o) xs (Each-weaker (RightKind board) (λ x. is_of o x ≡ true → post_in x ≡ []) (other_no_post board o other) xs right)

-- the item of a write in memory is its posted write
pub post_of : (board : Board) (o : OpId) → is_posted_op board o ≡ true → (item : Carried) → RightKind board item → is_of o item ≡ true → item ≡ Post o
post_of board o posted (Post op) right passes = ap Post (sym (same_op_true o op passes))
post_of board o posted (Ask op slot) right passes =
    let same : o ≡ op = same_op_true o op passes in
    let other : is_posted_op board op ≡ false = kind_is board false op right in
    let is : is_posted_op board op ≡ true = subst (λ p. is_posted_op board p ≡ true) same posted in
    let impossible : true ≡ false = sym is ∙ other in
    cc
post_of board o posted (Done op slot outcome) right passes = cc
post_of board o posted Room right passes = cc
post_of board o posted (Gone slot) right passes = cc

-- a posted write may not go before a posted write
behind_no_post : (board : Board) (on : ℕ) (o : OpId) (older : Carried) → goes_before board on (Post o) older ≡ true → post_in older ≡ []
behind_no_post board on o (Post op) goes = cc
behind_no_post board on o (Ask op slot) goes = refl
behind_no_post board on o (Done op slot outcome) goes = refl
behind_no_post board on o Room goes = cc
behind_no_post board on o (Gone slot) goes = refl

-- so the first posted write of an operation that goes before all older items is the oldest
oldest_post : (board : Board) (on : ℕ) (o : OpId) (xs : List Carried) → find (is_of o) xs ≡ Some (Post o)
    → list_all (goes_before board on (Post o)) (before (is_of o) xs) ≡ true → posts xs ≡ o ∷ posts (less (is_of o) xs)
oldest_post board on o [] some goes = cc
oldest_post board on o (x ∷ xs) some goes =
    let G : Carried → Bool = goes_before board on (Post o) in
    let P : Bool → Type 0 = λ b. cond b (Some x) (find (is_of o) xs) ≡ Some (Post o) → list_all G (cond b [] (x ∷ before (is_of o) xs)) ≡ true
    → post_in x ++ posts xs ≡ o ∷ posts (cond b xs (x ∷ less (is_of o) xs)) in
    (elim (is_of o x) as P [
      | true ↦ λ e _. let same : x ≡ Post o = cc in ap (λ y. post_in y ++ posts xs) same
      | false ↦ λ e g.
          let parts = and_parts (G x) (list_all G (before (is_of o) xs)) g in
          let none : post_in x ≡ [] = behind_no_post board on o x parts.0 in
          let later : posts xs ≡ o ∷ posts (less (is_of o) xs) = oldest_post board on o xs e parts.1 in
          rw none later
    ]) some goes

presented_post : (board : Board) (on : ℕ) (o : OpId) (xs : List Carried) (item : Option Carried) → is_posted_op board o ≡ true → AllByRecursion (RightKind board) xs
    → find (is_of o) xs ≡ item → presents_item board on (before (is_of o) xs) item ≡ true → posts xs ≡ o ∷ posts (less (is_of o) xs)
presented_post board on o xs None posted right some presented = cc
presented_post board on o xs (Some item) posted right some presented =
    let same : item ≡ Post o = post_of board o posted item (Each-find (RightKind board) (is_of o) xs item right some) (find_passes (is_of o) xs item some) in
    let F : Carried → Type 0 = λ y. list_all (goes_before board on y) (before (is_of o) xs) ≡ true in
    oldest_post board on o xs (some ∙ ap Some same) (subst F same presented)

-- a write in memory that a lane presents is its oldest posted write
pub posts-less_first : (board : Board) (on : ℕ) (o : OpId) (xs : List Carried) → is_posted_op board o ≡ true → AllByRecursion (RightKind board) xs
    → presents board on o xs ≡ true → posts xs ≡ o ∷ posts (less (is_of o) xs)
posts-less_first board on o xs posted right presented = presented_post board on o xs (find (is_of o) xs) posted right refl presented

-- the request of an operation says whether it is a write in memory
pub op_is_posted : (board : Board) (on : ℕ) (o : OpId) (request : Request) (posted : Bool) → request_of board o on ≡ Some request → is_posted request ≡ posted → is_posted_op board o ≡ posted
op_is_posted board on o request posted is_request posts =
    let of_op = request_is_of board o on request is_request in
    ap is_posted_in of_op.is_op ∙ (sym (ap is_posted of_op.is_request) ∙ posts)
