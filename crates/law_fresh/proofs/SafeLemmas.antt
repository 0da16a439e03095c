-- Lists of items in which nothing that carries knowledge of a write stands before that write as it was posted.
use Rattle.std.proofs.Common.{◌≡◌, Bool, true, false, ◌||◌, cond, List, [], ◌∷◌, ◌++◌, Some, refl, sym, subst, ◌∙◌}
use Rattle.std.specs.List.{find, list_any, AllByRecursion}
use Rattle.std.proofs.lemmas.Bool.{or_parts}
use Rattle.std.proofs.Math.Bool.{or_assoc, or-false}
use Rattle.list_facts.specs.Lists.{less, before}
use Rattle.pci_command.specs.declared.op_id.OpId.{OpId}
use Rattle.history_model.specs.declared.item.Carried.{Carried}
use Rattle.history_model.specs.declared.item.Carried.TheVariants.{Post, Ask, Done, Room, Gone}
use Rattle.history_model.specs.Lanes.{is_post}
use Rattle.law_fresh.specs.Cover.{is_post_of, Safe}
use Rattle.law_fresh.proofs.ListLemmas.{or_weaker}

module _ (w : OpId) where
  -- where the bus is covered nothing is asked
  pub Safe-sure : (test : Carried → Bool) (xs : List Carried) → Safe test w true xs
  Safe-sure test [] = tt
  Safe-sure test (x ∷ xs) = (λ _. refl, Safe-sure test xs)

  -- less is asked where fewer carry knowledge, and where the bus is covered
  pub Safe-weaker : (test other : Carried → Bool) (a b : Bool) → (a ≡ true → b ≡ true) → (xs : List Carried) → AllByRecursion (λ x. other x ≡ true → test x ≡ true) xs → Safe test w a xs → Safe other w b xs
  Safe-weaker test other a b surer [] each old = tt
  Safe-weaker test other a b surer (x ∷ xs) each old =
      (λ is. surer (old.0 (each.0 is)), Safe-weaker test other (a || is_post_of w x) (b || is_post_of w x) (or_weaker a b (is_post_of w x) surer) xs each.1 old.1)

  module _ (test : Carried → Bool) where
    -- an item behind the others
    pub Safe-push : (sure : Bool) (xs : List Carried) (x : Carried) → Safe test w sure xs → (test x ≡ true → (sure || list_any (is_post_of w) xs) ≡ true) → Safe test w sure (xs ++ x ∷ [])
    Safe-push sure [] x old new = (λ is. sym (or-false sure) ∙ new is, tt)
    Safe-push sure (y ∷ xs) x old new =
        (old.0, Safe-push (sure || is_post_of w y) xs x old.1 (λ is. or_assoc sure (is_post_of w y) (list_any (is_post_of w) xs) ∙ new is))

    -- it is asked as before where an item that is not the write is gone
    without_it : (sure : Bool) (x : Carried) (xs : List Carried) → is_post_of w x ≡ false → Safe test w (sure || is_post_of w x) xs → Safe test w sure xs
    without_it sure x xs other old =
        let same : (sure || is_post_of w x) ≡ sure = rw other (or-false sure) in
        subst (λ b. Safe test w b xs) same old

    pub Safe-drop : (sure : Bool) (xs : List Carried) (x : Carried) (ys : List Carried) → is_post_of w x ≡ false → Safe test w sure (xs ++ x ∷ ys) → Safe test w sure (xs ++ ys)
    Safe-drop sure [] x ys other old = without_it sure x ys other old.1
    Safe-drop sure (y ∷ xs) x ys other old = (old.0, Safe-drop (sure || is_post_of w y) xs x ys other old.1)

    pub Safe-less : (sure : Bool) (gone : Carried → Bool) (xs ys : List Carried) → ((x : Carried) → gone x ≡ true → is_post_of w x ≡ false) → Safe test w sure (xs ++ ys) → Safe test w sure (less gone xs ++ ys)
    Safe-less sure gone [] ys other old = old
    Safe-less sure gone (x ∷ xs) ys other old =
        let P : Bool → Type 0 = λ b. gone x ≡ b → Safe test w sure (cond b xs (x ∷ less gone xs) ++ ys) in
        (elim (gone x) as P [
          | true ↦ λ is. without_it sure x (xs ++ ys) (other x is) old.1
          | false ↦ λ _. (old.0, Safe-less (sure || is_post_of w x) gone xs ys other old.1)
        ]) refl

    -- what carries knowledge, and before which no posted write stands, is covered
    no_post : (x : Carried) → is_post x ≡ false → is_post_of w x ≡ false
    no_post (Post q) none = cc
    no_post (Ask q slot) none = refl
    no_post (Done q slot outcome) none = refl
    no_post Room none = refl
    no_post (Gone slot) none = refl

    pub Safe-find : (sure : Bool) (found : Carried → Bool) (xs ys : List Carried) (x : Carried) → Safe test w sure (xs ++ ys) → find found xs ≡ Some x → test x ≡ true → list_any is_post (before found xs) ≡ false → sure ≡ true
    Safe-find sure found [] ys x old some carries none = cc
    Safe-find sure found (y ∷ xs) ys x old some carries none =
        let P : Bool → Type 0 = λ b. cond b (Some y) (find found xs) ≡ Some x → list_any is_post (cond b [] (y ∷ before found xs)) ≡ false → sure ≡ true in
        (elim (found y) as P [
          | true ↦ λ e _. let same : y ≡ x = cc in old.0 (subst (λ z. test z ≡ true) (sym same) carries)
          | false ↦ λ e n.
              let parts = or_parts (is_post y) (list_any is_post (before found xs)) n in
              let later : (sure || is_post_of w y) ≡ true = Safe-find (sure || is_post_of w y) found xs ys x old.1 e carries parts.1 in
              let other : is_post_of w y ≡ false = no_post y parts.0 in
              let same : (sure || is_post_of w y) ≡ sure = rw other (or-false sure) in
              sym same ∙ later
        ]) some none
