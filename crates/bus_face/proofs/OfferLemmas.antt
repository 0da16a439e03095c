-- What half a bridge offers by its tables is what the lane presents of what stands.
use Rattle.std.proofs.Common.{◌≡◌, ℕ, Bool, true, false, cond, not, ◌&&◌, ◌||◌, List, [], ◌∷◌, ◌++◌, Option, Some, None, refl, sym, ap, subst, ◌∙◌}
use Rattle.std.specs.List.{find, list_all, list_any, AllByRecursion}
use Rattle.std.proofs.lemmas.List.{append_assoc, append-nil}
use Rattle.list_facts.specs.Lists.{before}
use Rattle.list_facts.proofs.EachLemmas.{Each-push, Each-weaker}
use Rattle.pci_command.specs.declared.request.Request.{Request}
use Rattle.pci_command.specs.declared.op_id.OpId.{OpId}
use Rattle.pci_command.specs.Same.{same_op, same_command}
use Rattle.pci_command.specs.declared.command.Command.TheVariants.{MemWrite}
use Rattle.pci_command.specs.declared.command.Kind.{Kind}
use Rattle.pci_command.specs.declared.command.Kind.TheVariants.{Pmw}
use Rattle.order_table.specs.Order.{may_pass}
use Rattle.order_table.proofs.Laws.{others_pass}
use Rattle.board_model.specs.declared.board.Board.{Board}
use Rattle.board_model.specs.Requests.{request_of, reads, same_requests, command_of}
use Rattle.history_model.specs.declared.item.Carried.{Carried}
use Rattle.history_model.specs.declared.item.Carried.TheVariants.{Post, Ask, Done, Room, Gone}
use Rattle.history_model.specs.Lanes.{is_of}
use Rattle.history_model.specs.Answers.{request_kind, completion_kind, asked, asks_same, goes_before, presents_item}
use Rattle.law_lanes.specs.Kinds.{NamesOp}
use Rattle.history_model.proofs.facts.RequestLemmas.{same_op_true, same_op_self}
use Rattle.history_model.proofs.facts.EqualLemmas.{same_requests-self}
use Rattle.bus_face.specs.declared.offer.Offer.{Offer}
use Rattle.bus_face.specs.Offers.{offer_where, offered_item, is_offer_of}
use Rattle.bus_face.specs.Stands.{CanStandThere}

-- an older item is the same delayed request on the bus
abbrev pub has_same : Board → ℕ → OpId → List Carried → Bool
has_same board bus o items = list_any (λ item. asks_same board bus (Some o) (asked item)) items

abbrev pub posted : OpId → Offer
posted op = record { op = op; ask = false; slot = 0 }

abbrev pub delayed : OpId → ℕ → Offer
delayed op slot = record { op = op; ask = true; slot = slot }

-- what a lane presents, read off what stands behind these older items
abbrev pub line_offers : Board → ℕ → List Carried → List Carried → List Offer
line_offers board bus older [] = []
line_offers board bus older (Post op ∷ later) = posted op ∷ []
line_offers board bus older (Ask op slot ∷ later) = offer_where (not (has_same board bus op older)) (delayed op slot) ++ line_offers board bus (older ++ Ask op slot ∷ []) later
line_offers board bus older (Done op slot outcome ∷ later) = line_offers board bus (older ++ Done op slot outcome ∷ []) later
line_offers board bus older (Room ∷ later) = line_offers board bus (older ++ Room ∷ []) later
line_offers board bus older (Gone slot ∷ later) = line_offers board bus (older ++ Gone slot ∷ []) later

-- all but posted writes that can stand
abbrev pub IsPassed : Carried → Type 0
IsPassed (Post op) = ⊥
IsPassed (Ask op slot) = Unit {0}
IsPassed (Done op slot outcome) = Unit {0}
IsPassed Room = ⊥
IsPassed (Gone slot) = ⊥

-- a delayed request that has a request on the bus
abbrev pub HasOne : Board → ℕ → Carried → Type 0
HasOne board bus (Post op) = Unit {0}
HasOne board bus (Ask op slot) = (request : Request) × (request_of board op bus ≡ Some request)
HasOne board bus (Done op slot outcome) = Unit {0}
HasOne board bus Room = Unit {0}
HasOne board bus (Gone slot) = Unit {0}

-- posted writes alone are in the way: not a delayed request, nor a completion
passes_ask : (row : Kind) (b : Bool) → may_pass row (request_kind b) ≡ true
passes_ask row true = others_pass row (request_kind true) tt
passes_ask row false = others_pass row (request_kind false) tt

passes_done : (row : Kind) (b : Bool) → may_pass row (completion_kind b) ≡ true
passes_done row true = others_pass row (completion_kind true) tt
passes_done row false = others_pass row (completion_kind false) tt

-- no delayed request passes a posted write
ask_post : (b : Bool) → may_pass (request_kind b) Pmw ≡ false
ask_post true = refl
ask_post false = refl

not_or : (a b : Bool) → (not a && not b) ≡ not (a || b)
not_or true b = refl
not_or false b = refl

or_true : (b : Bool) → (b || true) ≡ true
or_true true = refl
or_true false = refl

or_false : (b : Bool) → (b || false) ≡ b
or_false true = refl
or_false false = refl

left_false : (a b : Bool) → (a || b) ≡ false → (a ≡ false) × (b ≡ false)
left_false true b e = cc
left_false false b e = (refl, e)

pub any_push : {X : Type 0} (test : X → Bool) (xs : List X) (x : X) → list_any test (xs ++ x ∷ []) ≡ (list_any test xs || test x)
any_push test [] x = or_false (test x)
any_push test (first ∷ xs) x =
    let P : Bool → Type 0 = λ b. (b || list_any test (xs ++ x ∷ [])) ≡ (b || list_any test xs || test x) in
    elim (test first) as P [ true ↦ refl | false ↦ any_push test xs x ]

any_append : {X : Type 0} (test : X → Bool) (xs ys : List X) → list_any test (xs ++ ys) ≡ (list_any test xs || list_any test ys)
any_append test [] ys = refl
any_append test (first ∷ xs) ys =
    let P : Bool → Type 0 = λ b. (b || list_any test (xs ++ ys)) ≡ (b || list_any test xs || list_any test ys) in
    elim (test first) as P [ true ↦ refl | false ↦ any_append test xs ys ]

module _ (board : Board) (bus : ℕ) where
  -- what goes before all older items, none of them posted
  ask_goes : (op : OpId) (slot : ℕ) (older : List Carried) → AllByRecursion IsPassed older → list_all (goes_before board bus (Ask op slot)) older ≡ not (has_same board bus op older)
  ask_goes op slot [] passed = refl
  ask_goes op slot (Post q ∷ older) passed = absurd passed.0
  ask_goes op slot (Ask q other ∷ older) passed =
      let may = passes_ask (request_kind (reads board op)) (reads board q) in
      let rest = ask_goes op slot older passed.1 in
      rw (may, rest) (not_or (same_requests board bus op q) (has_same board bus op older))
  ask_goes op slot (Done q other outcome ∷ older) passed =
      let may = passes_done (request_kind (reads board op)) (reads board q) in
      let rest = ask_goes op slot older passed.1 in
      rw (may, rest) refl
  ask_goes op slot (Room ∷ older) passed = absurd passed.0
  ask_goes op slot (Gone other ∷ older) passed = absurd passed.0

  post_goes : (op : OpId) (older : List Carried) → AllByRecursion IsPassed older → list_all (goes_before board bus (Post op)) older ≡ true
  post_goes op [] passed = refl
  post_goes op (Post q ∷ older) passed = absurd passed.0
  post_goes op (Ask q other ∷ older) passed = let may = passes_ask Pmw (reads board q) in let rest = post_goes op older passed.1 in rw (may, rest) refl
  post_goes op (Done q other outcome ∷ older) passed = let may = passes_done Pmw (reads board q) in let rest = post_goes op older passed.1 in rw (may, rest) refl
  post_goes op (Room ∷ older) passed = absurd passed.0
  post_goes op (Gone other ∷ older) passed = absurd passed.0

  -- nothing goes before a posted write
  none_goes : (o op : OpId) (item : Carried) → is_of o item ≡ true → goes_before board bus item (Post op) ≡ false
  none_goes o op (Post q) of_op = refl
  none_goes o op (Ask q slot) of_op = let no = ask_post (reads board q) in rw no refl
  none_goes o op (Done q slot outcome) of_op = cc
  none_goes o op Room of_op = cc
  none_goes o op (Gone slot) of_op = cc

  not_all : (test : Carried → Bool) (older later : List Carried) (item : Carried) → test item ≡ false → list_all test (older ++ item ∷ later) ≡ false
  not_all test [] later item fails = rw fails refl
  not_all test (first ∷ older) later item fails =
      let rest = not_all test older later item fails in
      let P : Bool → Type 0 = λ b. (b && list_all test (older ++ item ∷ later)) ≡ false in
      elim (test first) as P [ true ↦ rest | false ↦ refl ]

  found_of : (o : OpId) (items : List Carried) (item : Carried) → find (is_of o) items ≡ Some item → is_of o item ≡ true
  found_of o [] item found = cc
  found_of o (first ∷ items) item found =
      let P : Bool → Type 0 = λ b. is_of o first ≡ b → cond b (Some first) (find (is_of o) items) ≡ Some item → is_of o item ≡ true in
      (elim (is_of o first) as P [
        | true ↦ λ is e. let same : first ≡ item = cc in subst (λ (i : Carried). is_of o i ≡ true) same is
        | false ↦ λ _ e. found_of o items item e
      ]) refl found

  behind_post : (o op : OpId) (older later items : List Carried) → presents_item board bus (older ++ Post op ∷ later) (find (is_of o) items) ≡ false
  behind_post o op older later items =
      let P : Option Carried → Type 0 = λ found. find (is_of o) items ≡ found → presents_item board bus (older ++ Post op ∷ later) found ≡ false in
      (elim (find (is_of o) items) as P [
        | None ↦ λ _. refl
        | Some item ↦ λ found. not_all (goes_before board bus item) older later (Post op) (none_goes o op item (found_of o items item found))
      ]) refl

  -- a write in memory is no other operation
  apart : (p o : OpId) → NamesOp board true p → NamesOp board false o → same_op o p ≡ false
  apart p o posted_is delayed_is =
      let P : Bool → Type 0 = λ b. same_op o p ≡ b → b ≡ false in
      (elim (same_op o p) as P [
        | true ↦ λ same.
            let one : o ≡ p = same_op_true o p same in
            let both : NamesOp board true o = subst (NamesOp board true) (sym one) posted_is in
            let ops : both.op ≡ delayed_is.op = let e : Some both.op ≡ Some delayed_is.op = sym both.is_op ∙ delayed_is.is_op in cc in
            let wrong : true ≡ false = sym both.is_posted ∙ (ap (λ op. same_command (command_of op) MemWrite) ops ∙ delayed_is.is_posted) in cc
        | false ↦ λ _. refl
      ]) refl

  has_more : (o : OpId) (older : List Carried) (item : Carried) → has_same board bus o older ≡ true → has_same board bus o (older ++ item ∷ []) ≡ true
  has_more o older item has = any_push (λ i. asks_same board bus (Some o) (asked i)) older item ∙ (let P : Bool → Type 0 = λ b. (b || asks_same board bus (Some o) (asked item)) ≡ true in subst P (sym has) refl)

  -- behind an equal one no delayed request is offered, nor is the operation otherwise
  met : (o : OpId) (older items : List Carried) → has_same board bus o older ≡ true → NamesOp board false o → AllByRecursion (CanStandThere board) items
      → list_any (is_offer_of o) (line_offers board bus older items) ≡ false
  met o older [] has named kinds = refl
  met o older (Post p ∷ items) has named kinds = let other = apart p o kinds.0.1 named in rw other refl
  met o older (Ask p slot ∷ items) has named kinds =
      let rest = met o (older ++ Ask p slot ∷ []) items (has_more o older (Ask p slot) has) named kinds.1 in
      let later : List Offer = line_offers board bus (older ++ Ask p slot ∷ []) items in
      let P : Bool → Type 0 = λ b. same_op o p ≡ b → list_any (is_offer_of o) (offer_where (not (has_same board bus p older)) (delayed p slot) ++ later) ≡ false in
      (elim (same_op o p) as P [
        | true ↦ λ same.
            let one : o ≡ p = same_op_true o p same in
            let here : has_same board bus p older ≡ true = subst (λ q. has_same board bus q older ≡ true) one has in
            rw here rest
        | false ↦ λ other.
            let Q : Bool → Type 0 = λ b. list_any (is_offer_of o) (offer_where b (delayed p slot) ++ later) ≡ false in
            elim (not (has_same board bus p older)) as Q [ true ↦ rw other rest | false ↦ rest ]
      ]) refl
  met o older (Done p slot outcome ∷ items) has named kinds = met o (older ++ Done p slot outcome ∷ []) items (has_more o older (Done p slot outcome) has) named kinds.1
  met o older (Room ∷ items) has named kinds = absurd kinds.0.0
  met o older (Gone slot ∷ items) has named kinds = absurd kinds.0.0

  -- an operation is presented exactly where it is offered
  pub presented_of : (o : OpId) (older items : List Carried) → AllByRecursion IsPassed older → AllByRecursion (CanStandThere board) items → AllByRecursion (HasOne board bus) items
      → presents_item board bus (older ++ before (is_of o) items) (find (is_of o) items) ≡ list_any (is_offer_of o) (line_offers board bus older items)
  presented_of o older [] passed kinds ones = refl
  presented_of o older (Post p ∷ items) passed kinds ones =
      let P : Bool → Type 0 = λ b. same_op o p ≡ b
      → presents_item board bus (older ++ cond b [] (Post p ∷ before (is_of o) items)) (cond b (Some (Post p)) (find (is_of o) items)) ≡ (b || false) in
      (elim (same_op o p) as P [
        | true ↦ λ _. ap (list_all (goes_before board bus (Post p))) (append-nil older) ∙ post_goes p older passed
        | false ↦ λ _. behind_post o p older (before (is_of o) items) items
      ]) refl
  presented_of o older (Ask p slot ∷ items) passed kinds ones =
      let item : Carried = Ask p slot in
      let next : List Carried = older ++ item ∷ [] in
      let later : List Offer = line_offers board bus next items in
      let P : Bool → Type 0 = λ b. same_op o p ≡ b
      → presents_item board bus (older ++ cond b [] (item ∷ before (is_of o) items)) (cond b (Some item) (find (is_of o) items)) ≡ list_any (is_offer_of o) (offer_where (not (has_same board bus p older)) (delayed p slot) ++ later) in
      (elim (same_op o p) as P [
        | true ↦ λ same.
            let one : o ≡ p = same_op_true o p same in
            let goes = ap (list_all (goes_before board bus item)) (append-nil older) ∙ ask_goes p slot older passed in
            let self = same_requests-self board bus p ones.0.0 ones.0.1 in
            let has : has_same board bus p next ≡ true =
            any_push (λ i. asks_same board bus (Some p) (asked i)) older item ∙ (ap (λ b. has_same board bus p older || b) self ∙ or_true (has_same board bus p older)) in
            let none = met o next items (subst (λ q. has_same board bus q next ≡ true) (sym one) has) (subst (NamesOp board false) (sym one) kinds.0.1) kinds.1 in
            let Q : Bool → Type 0 = λ b. b ≡ list_any (is_offer_of o) (offer_where b (delayed p slot) ++ later) in
            goes ∙ (elim (not (has_same board bus p older)) as Q [ true ↦ rw same refl | false ↦ sym none ])
        | false ↦ λ other.
            let rest = presented_of o next items (Each-push IsPassed older item passed tt) kinds.1 ones.1 in
            let moved : next ++ before (is_of o) items ≡ older ++ item ∷ before (is_of o) items = append_assoc older (item ∷ []) (before (is_of o) items) in
            let here = subst (λ l. presents_item board bus l (find (is_of o) items) ≡ list_any (is_offer_of o) later) moved rest in
            let Q : Bool → Type 0 = λ b. presents_item board bus (older ++ item ∷ before (is_of o) items) (find (is_of o) items) ≡ list_any (is_offer_of o) (offer_where b (delayed p slot) ++ later) in
            elim (not (has_same board bus p older)) as Q [ true ↦ rw other here | false ↦ here ]
      ]) refl
  presented_of o older (Done p slot outcome ∷ items) passed kinds ones =
      let item : Carried = Done p slot outcome in
      let rest = presented_of o (older ++ item ∷ []) items (Each-push IsPassed older item passed tt) kinds.1 ones.1 in
      let moved : (older ++ item ∷ []) ++ before (is_of o) items ≡ older ++ item ∷ before (is_of o) items = append_assoc older (item ∷ []) (before (is_of o) items) in
      subst (λ l. presents_item board bus l (find (is_of o) items) ≡ list_any (is_offer_of o) (line_offers board bus (older ++ item ∷ []) items)) moved rest
  presented_of o older (Room ∷ items) passed kinds ones = absurd kinds.0.0
  presented_of o older (Gone slot ∷ items) passed kinds ones = absurd kinds.0.0

  -- no older item is of an operation that is offered
  ask_not_older : (op : OpId) (request : Request) (older : List Carried) → request_of board op bus ≡ Some request → AllByRecursion IsPassed older → has_same board bus op older ≡ false → list_any (is_of op) older ≡ false
  ask_not_older op request [] is passed none = refl
  ask_not_older op request (Post q ∷ older) is passed none = absurd passed.0
  ask_not_older op request (Ask q slot ∷ older) is passed none =
      let parts = left_false (same_requests board bus op q) (has_same board bus op older) none in
      let rest = ask_not_older op request older is passed.1 parts.1 in
      let P : Bool → Type 0 = λ b. same_op op q ≡ b → (b || list_any (is_of op) older) ≡ false in
      (elim (same_op op q) as P [
        | true ↦ λ same.
            let one : op ≡ q = same_op_true op q same in
            let self = same_requests-self board bus op request is in
            let other : same_requests board bus op op ≡ false = subst (λ p. same_requests board bus op p ≡ false) (sym one) parts.0 in
            let wrong : true ≡ false = sym self ∙ other in cc
        | false ↦ λ _. rest
      ]) refl
  ask_not_older op request (Done q slot outcome ∷ older) is passed none = ask_not_older op request older is passed.1 none
  ask_not_older op request (Room ∷ older) is passed none = absurd passed.0
  ask_not_older op request (Gone slot ∷ older) is passed none = absurd passed.0

  post_not_older : (op : OpId) (older : List Carried) → NamesOp board true op → AllByRecursion IsPassed older → AllByRecursion (CanStandThere board) older → list_any (is_of op) older ≡ false
  post_not_older op [] named passed kinds = refl
  post_not_older op (Post q ∷ older) named passed kinds = absurd passed.0
  post_not_older op (Ask q slot ∷ older) named passed kinds =
      let other = apart op q named kinds.0.1 in
      let P : Bool → Type 0 = λ b. same_op op q ≡ b → b ≡ false in
      let same : same_op op q ≡ false = (elim (same_op op q) as P [
        | true ↦ λ e.
            let one : op ≡ q = same_op_true op q e in
            let self : same_op q op ≡ true = subst (λ p. same_op p op ≡ true) one (same_op_self op) in
            let wrong : true ≡ false = sym self ∙ other in cc
        | false ↦ λ _. refl
      ]) refl in
      rw same (post_not_older op older named passed.1 kinds.1)
  post_not_older op (Done q slot outcome ∷ older) named passed kinds = post_not_older op older named passed.1 kinds.1
  post_not_older op (Room ∷ older) named passed kinds = absurd passed.0
  post_not_older op (Gone slot ∷ older) named passed kinds = absurd passed.0

  abbrev Oldest : List Carried → List Carried → Offer → Type 0
  Oldest older items offer = (list_any (is_of offer.op) older ≡ false) × (find (is_of offer.op) items ≡ Some (offered_item offer))

  oldest_more : (older items : List Carried) (item : Carried) (offer : Offer) → Oldest (older ++ item ∷ []) items offer → Oldest older (item ∷ items) offer
  oldest_more older items item offer old =
      let parts = left_false (list_any (is_of offer.op) older) (is_of offer.op item) (sym (any_push (is_of offer.op) older item) ∙ old.0) in
      let other : is_of offer.op item ≡ false = parts.1 in
      (parts.0, rw other old.1)

  -- what is offered is the oldest item of its operation that stands
  pub oldest_of : (older items : List Carried) → AllByRecursion IsPassed older → AllByRecursion (CanStandThere board) older → AllByRecursion (CanStandThere board) items → AllByRecursion (HasOne board bus) items
      → AllByRecursion (Oldest older items) (line_offers board bus older items)
  oldest_of older [] passed old kinds ones = tt
  oldest_of older (Post p ∷ items) passed old kinds ones =
      let self = same_op_self p in ((post_not_older p older kinds.0.1 passed old, rw self refl), tt)
  oldest_of older (Ask p slot ∷ items) passed old kinds ones =
      let item : Carried = Ask p slot in
      let next : List Carried = older ++ item ∷ [] in
      let rest = oldest_of next items (Each-push IsPassed older item passed tt) (Each-push (CanStandThere board) older item old kinds.0) kinds.1 ones.1 in
      let later = Each-weaker (Oldest next items) (Oldest older (item ∷ items)) (λ offer o. oldest_more older items item offer o) (line_offers board bus next items) rest in
      let P : Bool → Type 0 = λ b. not (has_same board bus p older) ≡ b → AllByRecursion (Oldest older (item ∷ items)) (offer_where b (delayed p slot) ++ line_offers board bus next items) in
      (elim (not (has_same board bus p older)) as P [
        | true ↦ λ yes.
            let Q : Bool → Type 0 = λ b. not b ≡ true → b ≡ false in
            let none : has_same board bus p older ≡ false = (elim (has_same board bus p older) as Q [ true ↦ λ e. cc | false ↦ λ _. refl ]) yes in
            let self = same_op_self p in
            ((ask_not_older p ones.0.0 older ones.0.1 passed none, rw self refl), later)
        | false ↦ λ _. later
      ]) refl
  oldest_of older (Done p slot outcome ∷ items) passed old kinds ones =
      let item : Carried = Done p slot outcome in
      let next : List Carried = older ++ item ∷ [] in
      let rest = oldest_of next items (Each-push IsPassed older item passed tt) (Each-push (CanStandThere board) older item old kinds.0) kinds.1 ones.1 in
      Each-weaker (Oldest next items) (Oldest older (item ∷ items)) (λ offer o. oldest_more older items item offer o) (line_offers board bus next items) rest
  oldest_of older (Room ∷ items) passed old kinds ones = absurd kinds.0.0
  oldest_of older (Gone slot ∷ items) passed old kinds ones = absurd kinds.0.0
