-- The slots that were seen so far: two are equal in the order that is derived for slots just where they are the same.
use Rattle.std.proofs.Common.{◌≡◌, ℕ, suc, ◌+◌, ◌<◌, Bool, true, false, ◌&&◌, ◌||◌, ◌==◌, nat_lt, not, cond, List, [], ◌∷◌, ◌++◌, length, take, drop, get_or, Some, refl, ap, sym, ◌∙◌, add-one, arith}
use Rattle.std.proofs.Math.Seq.{drop-cons}
use Rattle.std.proofs.lemmas.Bool.Decides.{nat_tests}
use Rattle.std.proofs.lemmas.List.{take_more}
use Rattle.std.proofs.lemmas.List.Folds.{list_any-append}
use Rattle.std.specs.declared.cmp.Ordering.{Ordering}
use Rattle.std.specs.declared.cmp.Ordering.TheVariants.{Less, Equal, Greater}
use Rattle.std.specs.Ordering.{nat_cmp, ordering_then, is_eq}
use Rattle.std.specs.List.{list_any}
use Rattle.import_text.specs.declared.slot.DeviceAddress.{DeviceAddress}
use Rattle.import_text.specs.declared.function.Function.{Function}
use Rattle.import_text.specs.Functions.{is_same_slot, has_slot, repeated_after}

abbrev pub order : DeviceAddress → DeviceAddress → Ordering
order a b = ordering_then (nat_cmp a.domain b.domain) (ordering_then (nat_cmp a.bus b.bus) (ordering_then (nat_cmp a.device b.device) (nat_cmp a.function b.function)))

same_flip : (m n : ℕ) → (m == n) ≡ (n == m)
same_flip m n =
    let P : Bool → Type 0 = λ b. (n == m) ≡ b → (m == n) ≡ b in
    (elim (n == m) as P [ true ↦ λ same. grind (arith, nat_tests) | false ↦ λ differ. grind (arith, nat_tests) ]) refl

-- the first number decides, unless they are equal
then_same : (m n : ℕ) (rest : Ordering) → is_eq (ordering_then (nat_cmp m n) rest) ≡ ((n == m) && is_eq rest)
then_same m n rest =
    let P : Bool → Type 0 = λ b. nat_lt m n ≡ b → is_eq (ordering_then (cond b Less (cond (m == n) Equal Greater)) rest) ≡ ((n == m) && is_eq rest) in
    let Q : Bool → Type 0 = λ b. is_eq (ordering_then (cond b Equal Greater) rest) ≡ (b && is_eq rest) in
    (elim (nat_lt m n) as P [
      | true ↦ λ less. let differ : (n == m) ≡ false = grind (arith, nat_tests) in rw differ refl
      | false ↦ λ more. rw (← same_flip m n) (elim (m == n) as Q [ true ↦ refl | false ↦ refl ])
    ]) refl

last_same : (m n : ℕ) → is_eq (nat_cmp m n) ≡ (n == m)
last_same m n =
    let P : Bool → Type 0 = λ b. nat_lt m n ≡ b → is_eq (cond b Less (cond (m == n) Equal Greater)) ≡ (n == m) in
    let Q : Bool → Type 0 = λ b. is_eq (cond b Equal Greater) ≡ b in
    (elim (nat_lt m n) as P [
      | true ↦ λ less. let differ : (n == m) ≡ false = grind (arith, nat_tests) in rw differ refl
      | false ↦ λ more. rw (← same_flip m n) (elim (m == n) as Q [ true ↦ refl | false ↦ refl ])
    ]) refl

order_same : (a b : DeviceAddress) → is_eq (order a b) ≡ is_same_slot b a
order_same a b =
    then_same a.domain b.domain _
    ∙ ap (λ t. (b.domain == a.domain) && t) (then_same a.bus b.bus _
    ∙ ap (λ t. (b.bus == a.bus) && t) (then_same a.device b.device _
    ∙ ap (λ t. (b.device == a.device) && t) (last_same a.function b.function)))

-- what is added was not there
pub was_there : (there added : Bool) → added ≡ not there → added ≡ false → there ≡ true
was_there true added is not_added = refl
was_there false added is not_added = cc

pub was_new : (there added : Bool) → added ≡ not there → added ≡ true → there ≡ false
was_new true added is was_added = cc
was_new false added is was_added = refl

any_more : (b c : Bool) → cond c true b ≡ (b || (c || false))
any_more true true = refl
any_more true false = refl
any_more false true = refl
any_more false false = refl

-- one slot more is seen
pub seen_more : (slot : DeviceAddress) (functions : List Function) (i : ℕ) (function : Function) (old new : Bool) → i < length functions → function ≡ get_or functions i function
    → old ≡ list_any (has_slot slot) (take i functions) → new ≡ cond (is_eq (order function.slot slot)) true old → new ≡ list_any (has_slot slot) (take (i + 1) functions)
seen_more slot functions i function old new inside is was now =
    let item : take (i + 1) functions ≡ take i functions ++ function ∷ [] = take_more functions i function inside ∙ ap (λ (f : Function). take i functions ++ f ∷ []) (sym is) in
    now ∙ ap (λ (b : Bool). cond b true old) (order_same function.slot slot) ∙ ap (λ (b : Bool). cond (has_slot slot function) true b) was
    ∙ any_more (list_any (has_slot slot) (take i functions)) (has_slot slot function)
    ∙ sym (list_any-append (has_slot slot) (take i functions) (function ∷ []))
    ∙ ap (λ (xs : List Function). list_any (has_slot slot) xs) (sym item)

next_function : (functions : List Function) (i : ℕ) (function : Function) → i < length functions → function ≡ get_or functions i function → drop i functions ≡ function ∷ drop (i + 1) functions
next_function functions i function inside is = rw (add-one, drop-cons functions i function inside) (ap (λ (f : Function). f ∷ drop (suc i) functions) (sym is))

-- the next has the slot of one before
pub repeats : (functions : List Function) (i : ℕ) (function : Function) → i < length functions → function ≡ get_or functions i function → list_any (has_slot function.slot) (take i functions) ≡ true
    → repeated_after (take i functions) (drop i functions) ≡ Some function.line
repeats functions i function inside is seen = rw (next_function functions i function inside is, seen) refl

-- it has not
pub repeats_behind : (functions : List Function) (i : ℕ) (function : Function) → i < length functions → function ≡ get_or functions i function → list_any (has_slot function.slot) (take i functions) ≡ false
    → repeated_after (take i functions) (drop i functions) ≡ repeated_after (take (i + 1) functions) (drop (i + 1) functions)
repeats_behind functions i function inside is new =
    let item : take (i + 1) functions ≡ take i functions ++ function ∷ [] = take_more functions i function inside ∙ ap (λ (f : Function). take i functions ++ f ∷ []) (sym is) in
    rw (next_function functions i function inside is, new) (ap (λ (xs : List Function). repeated_after xs (drop (i + 1) functions)) (sym item))
