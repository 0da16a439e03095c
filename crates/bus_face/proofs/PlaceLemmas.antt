-- A list up to a place, and what is found there.
use Rattle.std.proofs.Common.{◌≡◌, ℕ, zero, suc, ◌<◌, ◌≤◌, Bool, true, false, cond, not, ◌&&◌, ◌||◌, IsTrue, ◌↔◌, List, [], ◌∷◌, ◌++◌, length, take, Option, Some, None, refl, sym, ap, subst, ◌∙◌, arith}
use Rattle.std.specs.List.{list_any, slice_get, remove, Contains, AllByRecursion}
use Rattle.std.specs.Option.{option_map}
use Rattle.std.proofs.lemmas.List.{append_assoc, append-nil}
use Rattle.list_facts.specs.Lists.{less}
use Rattle.pci_command.specs.declared.request.Request.{Request}
use Rattle.pci_command.specs.declared.op_id.OpId.{OpId}
use Rattle.pci_command.specs.Same.{same_op, same_request}
use Rattle.lane_items.specs.declared.posts.posted_table.Post.{Post}
use Rattle.lane_items.specs.declared.requests.ask_table.Ask.{Ask}
use Rattle.lane_items.specs.requests.Asks.{request_at, HasOlderEqual}
use Rattle.bus_face.specs.declared.offer.Offer.{Offer}
use Rattle.bus_face.specs.Offers.{has_equal, is_offered, ask_offer, offer_where, ask_offers, came_before, is_ask_for}
use Rattle.machine_steps.proofs.SameLemmas.{request_decides}

pub take_one_more : {X : Type 0} (xs : List X) (place : ℕ) (x : X) → slice_get xs place ≡ Some x → take (suc place) xs ≡ take place xs ++ x ∷ []
take_one_more [] place x at = cc
take_one_more (first ∷ xs) zero x at = let same : first ≡ x = cc in cc
take_one_more {X = X} (first ∷ xs) (suc place) x at = ap (λ (l : List X). first ∷ l) (take_one_more xs place x at)

-- what holds of each holds of one that is contained
pub Each-contained : {X : Type 0} (P : X → Type 0) (xs : List X) (x : X) → AllByRecursion P xs → Contains xs x → P x
Each-contained P [] x each (k, below, is) = absurd (omega arith)
Each-contained P (first ∷ xs) x each (zero, below, is) = subst P is each.0
Each-contained P (first ∷ xs) x each (suc k, below, is) = Each-contained P xs x each.1 (k, omega arith, is)

-- the first that passes stands at a place before which none passes
pub less_at : {X : Type 0} (test : X → Bool) (xs : List X) (place : ℕ) (x : X) → list_any test (take place xs) ≡ false → slice_get xs place ≡ Some x → test x ≡ true → less test xs ≡ remove xs place
less_at test [] place x none at passes = cc
less_at test (first ∷ xs) zero x none at passes =
    let same : first ≡ x = cc in
    let here : test first ≡ true = ap test same ∙ passes in
    rw here refl
less_at {X = X} test (first ∷ xs) (suc place) x none at passes =
    let P : Bool → Type 0 = λ b. (b || list_any test (take place xs)) ≡ false → cond b xs (first ∷ less test xs) ≡ first ∷ remove xs place in
    (elim (test first) as P [
      | true ↦ λ e. cc
      | false ↦ λ e. ap (λ (l : List X). first ∷ l) (less_at test xs place x e at passes)
    ]) none

pub less_none : {X : Type 0} (test : X → Bool) (xs : List X) → list_any test xs ≡ false → less test xs ≡ xs
less_none test [] none = refl
less_none {X = X} test (first ∷ xs) none =
    let P : Bool → Type 0 = λ b. (b || list_any test xs) ≡ false → cond b xs (first ∷ less test xs) ≡ first ∷ xs in
    (elim (test first) as P [ true ↦ λ e. cc | false ↦ λ e. ap (λ (l : List X). first ∷ l) (less_none test xs e) ]) none

any_push : {X : Type 0} (test : X → Bool) (xs : List X) (x : X) → list_any test (xs ++ x ∷ []) ≡ (list_any test xs || test x)
any_push test [] x = let P : Bool → Type 0 = λ b. (b || false) ≡ b in elim (test x) as P [ true ↦ refl | false ↦ refl ]
any_push test (first ∷ xs) x =
    let P : Bool → Type 0 = λ b. (b || list_any test (xs ++ x ∷ [])) ≡ (b || list_any test xs || test x) in
    elim (test first) as P [ true ↦ refl | false ↦ any_push test xs x ]

-- none passes up to a place, nor at it
pub none_more : {X : Type 0} (test : X → Bool) (xs : List X) (place : ℕ) (x : X) → list_any test (take place xs) ≡ false → slice_get xs place ≡ Some x → test x ≡ false → list_any test (take (suc place) xs) ≡ false
none_more test xs place x none at fails =
    let more = take_one_more xs place x at in
    let pushed = any_push test (take place xs) x in
    let both : (list_any test (take place xs) || test x) ≡ false = rw (none, fails) refl in
    subst (λ l. list_any test l ≡ false) (sym more) (pushed ∙ both)

-- an older equal request is one that tests the same
any_at : (request : Request) (asks : List Ask) (place older : ℕ) → older < place → request_at asks older ≡ Some request → has_equal request (take place asks) ≡ true
any_at request [] place older below at = cc
any_at request (ask ∷ asks) zero older below at = absurd (omega arith)
any_at request (ask ∷ asks) (suc place) zero below at =
    let same : request ≡ ask.request = cc in
    let tests : same_request request ask.request ≡ true = (request_decides request ask.request).1 same in
    rw tests refl
any_at request (ask ∷ asks) (suc place) (suc older) below at =
    let rest = any_at request asks place older (omega arith) at in
    let P : Bool → Type 0 = λ b. (b || has_equal request (take place asks)) ≡ true in
    elim (same_request request ask.request) as P [ true ↦ refl | false ↦ rest ]

at_any : (request : Request) (asks : List Ask) (place : ℕ) → has_equal request (take place asks) ≡ true → (older : ℕ) × (older < place) × (request_at asks older ≡ Some request)
at_any request [] zero any = cc
at_any request [] (suc place) any = cc
at_any request (ask ∷ asks) zero any = cc
at_any request (ask ∷ asks) (suc place) any =
    let P : Bool → Type 0 = λ b. same_request request ask.request ≡ b → (b || has_equal request (take place asks)) ≡ true → (older : ℕ) × (older < suc place) × (request_at (ask ∷ asks) older ≡ Some request) in
    (elim (same_request request ask.request) as P [
      | true ↦ λ tests e. let same : request ≡ ask.request = (request_decides request ask.request).0 tests in (0, omega arith, ap Some (sym same))
      | false ↦ λ _ e. let rest = at_any request asks place e in (suc rest.0, omega (arith, rest.1), rest.2)
    ]) refl any

-- what is read of a delayed request at a place tells whether it is offered
pub offered_is : (posts : List Post) (asks : List Ask) (place : ℕ) (got : OpId × ℕ × ℕ) (before equal result : Bool) → Some got ≡ option_map (λ ask. (ask.op, ask.slot, ask.arrival)) (slice_get asks place)
    → before ≡ came_before got.2 posts → (IsTrue equal ↔ HasOlderEqual asks place) → result ≡ (before && not equal)
    → Some result ≡ option_map (λ ask. is_offered posts (take place asks) ask) (slice_get asks place)
offered_is posts asks place got before equal result got_is before_is equal_is result_is =
    let P : Option Ask → Type 0 = λ found. slice_get asks place ≡ found → Some got ≡ option_map (λ ask. (ask.op, ask.slot, ask.arrival)) found
    → Some result ≡ option_map (λ ask. is_offered posts (take place asks) ask) found in
    (elim (slice_get asks place) as P [
      | None ↦ λ _ e. cc
      | Some ask ↦ λ at e.
          let arrival : got.2 ≡ ask.arrival = let pair : got ≡ (ask.op, ask.slot, ask.arrival) = cc in ap (λ p. p.2) pair in
          let here : request_at asks place ≡ Some ask.request = ap (option_map (λ (a : Ask). a.request)) at in
          let Q : Bool → Type 0 = λ b. has_equal ask.request (take place asks) ≡ b → equal ≡ b in
          let same : equal ≡ has_equal ask.request (take place asks) = (elim (has_equal ask.request (take place asks)) as Q [
            | true ↦ λ any. let older = at_any ask.request asks place any in equal_is.1 (older.0, older.1, older.2 ∙ sym here)
            | false ↦ λ none.
                let R : Bool → Type 0 = λ b. equal ≡ b → b ≡ false in
                (elim equal as R [
                  | true ↦ λ yes.
                      let older = equal_is.0 yes in
                      let any = any_at ask.request asks place older.0 older.1 (older.2 ∙ here) in
                      let wrong : true ≡ false = sym any ∙ none in cc
                  | false ↦ λ _. refl
                ]) refl
          ]) refl in
          ap Some (result_is ∙ (ap (λ b. b && not equal) (before_is ∙ ap (λ n. came_before n posts) arrival) ∙ ap (λ b. came_before ask.arrival posts && not b) same))
    ]) refl got_is

pub ask_offers-push : (posts : List Post) (older asks : List Ask) (ask : Ask)
    → ask_offers posts older (asks ++ ask ∷ []) ≡ ask_offers posts older asks ++ offer_where (is_offered posts (older ++ asks) ask) (ask_offer ask)
ask_offers-push posts older [] ask = rw (append-nil older) (append-nil (offer_where (is_offered posts older ask) (ask_offer ask)))
ask_offers-push posts older (first ∷ asks) ask =
    let rest = ask_offers-push posts (older ++ first ∷ []) asks ask in
    let one : List Offer = offer_where (is_offered posts older first) (ask_offer first) in
    let same : (older ++ first ∷ []) ++ asks ≡ older ++ first ∷ asks = append_assoc older (first ∷ []) asks in
    ap (λ (l : List Offer). one ++ l) rest
    ∙ (sym (append_assoc one (ask_offers posts (older ++ first ∷ []) asks) (offer_where (is_offered posts ((older ++ first ∷ []) ++ asks) ask) (ask_offer ask)))
    ∙ ap (λ (l : List Ask). (one ++ ask_offers posts (older ++ first ∷ []) asks) ++ offer_where (is_offered posts l ask) (ask_offer ask)) same)

-- one more place was looked at
offers_one : (posts : List Post) (asks : List Ask) (place : ℕ) (ask : Ask) → slice_get asks place ≡ Some ask
    → ask_offers posts [] (take (suc place) asks) ≡ ask_offers posts [] (take place asks) ++ offer_where (is_offered posts (take place asks) ask) (ask_offer ask)
offers_one posts asks place ask at = ap (ask_offers posts []) (take_one_more asks place ask at) ∙ ask_offers-push posts [] (take place asks) ask

pub offers_yes : (posts : List Post) (asks : List Ask) (place : ℕ) (got : OpId × ℕ × ℕ) (items : List Offer) → items ≡ ask_offers posts [] (take place asks)
    → Some true ≡ option_map (λ ask. is_offered posts (take place asks) ask) (slice_get asks place) → Some got ≡ option_map (λ ask. (ask.op, ask.slot, ask.arrival)) (slice_get asks place)
    → items ++ record { op = got.0; ask = true; slot = got.1 } ∷ [] ≡ ask_offers posts [] (take (suc place) asks)
offers_yes posts asks place got items items_is is got_is =
    let P : Option Ask → Type 0 = λ found. slice_get asks place ≡ found → Some true ≡ option_map (λ ask. is_offered posts (take place asks) ask) found → Some got ≡ option_map (λ ask. (ask.op, ask.slot, ask.arrival)) found
    → items ++ record { op = got.0; ask = true; slot = got.1 } ∷ [] ≡ ask_offers posts [] (take (suc place) asks) in
    (elim (slice_get asks place) as P [
      | None ↦ λ _ e _. cc
      | Some ask ↦ λ at e f.
          let yes : true ≡ is_offered posts (take place asks) ask = cc in
          let pair : got ≡ (ask.op, ask.slot, ask.arrival) = cc in
          let one : List Offer → List Offer = λ l. items ++ l in
          let offer : ask_offer ask ∷ [] ≡ offer_where (is_offered posts (take place asks) ask) (ask_offer ask) = ap (λ b. offer_where b (ask_offer ask)) yes in
          let same : items ++ record { op = got.0; ask = true; slot = got.1 } ∷ [] ≡ items ++ ask_offer ask ∷ [] = ap (λ (p : OpId × ℕ × ℕ). items ++ record { op = p.0; ask = true; slot = p.1 } ∷ []) pair in
          same ∙ (ap one offer ∙ (ap (λ l. l ++ offer_where (is_offered posts (take place asks) ask) (ask_offer ask)) items_is ∙ sym (offers_one posts asks place ask at)))
    ]) refl is got_is

pub offers_no : (posts : List Post) (asks : List Ask) (place : ℕ) (items : List Offer) → items ≡ ask_offers posts [] (take place asks)
    → Some false ≡ option_map (λ ask. is_offered posts (take place asks) ask) (slice_get asks place) → items ≡ ask_offers posts [] (take (suc place) asks)
offers_no posts asks place items items_is is =
    let P : Option Ask → Type 0 = λ found. slice_get asks place ≡ found → Some false ≡ option_map (λ ask. is_offered posts (take place asks) ask) found → items ≡ ask_offers posts [] (take (suc place) asks) in
    (elim (slice_get asks place) as P [
      | None ↦ λ _ e. cc
      | Some ask ↦ λ at e.
          let no : false ≡ is_offered posts (take place asks) ask = cc in
          let offer : [] ≡ offer_where (is_offered posts (take place asks) ask) (ask_offer ask) = ap (λ b. offer_where b (ask_offer ask)) no in
          sym (append-nil items) ∙ (ap (λ l. items ++ l) offer ∙ (ap (λ l. l ++ offer_where (is_offered posts (take place asks) ask) (ask_offer ask)) items_is ∙ sym (offers_one posts asks place ask at)))
    ]) refl is

-- one of the operation stands at a place before which none does, or none does there either
pub found_here : (op : OpId) (asks : List Ask) (place : ℕ) (got : OpId × ℕ × ℕ) → list_any (is_ask_for op) (take place asks) ≡ false → Some got ≡ option_map (λ ask. (ask.op, ask.slot, ask.arrival)) (slice_get asks place)
    → same_op op got.0 ≡ true → less (is_ask_for op) asks ≡ remove asks place
found_here op asks place got none got_is same =
    let P : Option Ask → Type 0 = λ found. slice_get asks place ≡ found → Some got ≡ option_map (λ ask. (ask.op, ask.slot, ask.arrival)) found → less (is_ask_for op) asks ≡ remove asks place in
    (elim (slice_get asks place) as P [
      | None ↦ λ _ e. cc
      | Some ask ↦ λ at e.
          let ops : got.0 ≡ ask.op = let pair : got ≡ (ask.op, ask.slot, ask.arrival) = cc in ap (λ p. p.0) pair in
          less_at (is_ask_for op) asks place ask none at (subst (λ o. same_op op o ≡ true) ops same)
    ]) refl got_is

pub none_here : (op : OpId) (asks : List Ask) (place : ℕ) (got : OpId × ℕ × ℕ) → list_any (is_ask_for op) (take place asks) ≡ false → Some got ≡ option_map (λ ask. (ask.op, ask.slot, ask.arrival)) (slice_get asks place)
    → same_op op got.0 ≡ false → list_any (is_ask_for op) (take (suc place) asks) ≡ false
none_here op asks place got none got_is other =
    let P : Option Ask → Type 0 = λ found. slice_get asks place ≡ found → Some got ≡ option_map (λ ask. (ask.op, ask.slot, ask.arrival)) found → list_any (is_ask_for op) (take (suc place) asks) ≡ false in
    (elim (slice_get asks place) as P [
      | None ↦ λ _ e. cc
      | Some ask ↦ λ at e.
          let ops : got.0 ≡ ask.op = let pair : got ≡ (ask.op, ask.slot, ask.arrival) = cc in ap (λ p. p.0) pair in
          none_more (is_ask_for op) asks place ask none at (subst (λ o. same_op op o ≡ false) ops other)
    ]) refl got_is

pub take_all : {X : Type 0} (place : ℕ) (xs : List X) → length xs ≤ place → take place xs ≡ xs
take_all zero [] within = refl
take_all (suc place) [] within = refl
take_all zero (x ∷ xs) within = absurd (omega arith)
take_all {X = X} (suc place) (x ∷ xs) within = ap (λ (l : List X). x ∷ l) (take_all place xs (omega arith))
