-- A chain that grows by one operation, and how many masters know of a write.
use Rattle.std.proofs.Common.{◌≡◌, ℕ, zero, suc, ◌+◌, ◌<◌, ◌≤◌, Bool, true, false, ◌||◌, ◌==◌, cond, eqb, List, [], ◌∷◌, ◌++◌, Option, is_some, refl, sym, subst, arith}
use Rattle.std.proofs.lemmas.Bool.Decides.{nat_tests}
use Rattle.pci_command.specs.declared.op_id.OpId.{OpId}
use Rattle.pci_command.specs.Same.{same_op}
use Rattle.board_model.specs.declared.board.Board.{Board}
use Rattle.history_model.specs.declared.event.Event.{Event}
use Rattle.history_model.specs.Knowledge.{tells}
use Rattle.history_model.proofs.facts.RequestLemmas.{same_op_true}
use Rattle.law_audit.specs.Chains.{joined}
use Rattle.law_audit.specs.Links.{Leads, IsChain}

leads_push : (board : Board) (h : List Event) (p : OpId) (rest : List OpId) (r q : OpId) → Leads board h p rest r → tells board h r q ≡ true → Leads board h p (rest ++ q ∷ []) q
leads_push board h p [] r q leads is = let F : OpId → Type 0 = λ o. tells board h o q ≡ true in (subst F (sym leads) is, refl)
leads_push board h p (next ∷ rest) r q leads is = (leads.0, leads_push board h next rest r q leads.1 is)

-- one that the last tells
pub chain_push : (board : Board) (h : List Event) (w : OpId) (chain : List OpId) (r q : OpId) → IsChain board h w r chain → tells board h r q ≡ true → IsChain board h w q (chain ++ q ∷ [])
chain_push board h w [] r q is tells_it = absurd is
chain_push board h w (first ∷ rest) r q is tells_it = (is.0, leads_push board h first rest r q is.1 tells_it)

-- unless it is the last itself
pub chain_joined : (board : Board) (h : List Event) (w : OpId) (chain : List OpId) (r q : OpId) → IsChain board h w r chain → (same_op r q ≡ false → tells board h r q ≡ true) → IsChain board h w q (joined chain r q)
chain_joined board h w chain r q is tells_it =
    let P : Bool → Type 0 = λ b. same_op r q ≡ b → IsChain board h w q (cond b chain (chain ++ q ∷ [])) in
    (elim (same_op r q) as P [
      | true ↦ λ same. subst (λ o. IsChain board h w o chain) (same_op_true r q same) is
      | false ↦ λ other. chain_push board h w chain r q is (tells_it other)
    ]) refl

-- How many masters know, that of the write counted always.

one_if : Bool → ℕ
one_if b = cond b 1 0

pub knows_or_is : ℕ → (ℕ → Option OpId) → ℕ → Bool
knows_or_is own since m = (m == own) || is_some (since m)

pub knowers : ℕ → (ℕ → Option OpId) → ℕ → ℕ
knowers own since zero = 0
knowers own since (suc n) = cond (knows_or_is own since n) 1 0 + knowers own since n

pub knowers_most : (own : ℕ) (since : ℕ → Option OpId) (n : ℕ) → knowers own since n ≤ n
unfolding knowers
knowers_most own since zero = omega arith
knowers_most own since (suc n) =
    let P : Bool → Type 0 = λ b. cond b 1 0 + knowers own since n ≤ suc n in
    let rest = knowers_most own since n in
    elim (knows_or_is own since n) as P [ true ↦ omega (arith, rest) | false ↦ omega (arith, rest) ]

or_more : (a b c : Bool) → (b ≡ true → c ≡ true) → cond (a || b) 1 0 ≤ cond (a || c) 1 0
or_more true b c more = omega arith
or_more false true c more = rw (more refl) (omega arith)
or_more false false true more = omega arith
or_more false false false more = omega arith

pub knowers_more : (own : ℕ) (since next : ℕ → Option OpId) → ((m : ℕ) → is_some (since m) ≡ true → is_some (next m) ≡ true) → (n : ℕ) → knowers own since n ≤ knowers own next n
unfolding knowers knows_or_is
knowers_more own since next more zero = omega arith
knowers_more own since next more (suc n) = omega (arith, or_more (n == own) (is_some (since n)) (is_some (next n)) (more n), knowers_more own since next more n)

-- one that knew nothing knows
pub knowers_rise : (own : ℕ) (since next : ℕ → Option OpId) → ((m : ℕ) → is_some (since m) ≡ true → is_some (next m) ≡ true)
    → (new : ℕ) → eqb new own ≡ false → is_some (since new) ≡ false → is_some (next new) ≡ true → (n : ℕ) → new < n → knowers own since n + 1 ≤ knowers own next n
unfolding knowers knows_or_is
knowers_rise own since next more new other none some zero below = absurd (omega (arith, below))
knowers_rise own since next more new other none some (suc n) below =
    let here = or_more (n == own) (is_some (since n)) (is_some (next n)) (more n) in
    let P : Bool → Type 0 = λ b. eqb n new ≡ b → cond (knows_or_is own since n) 1 0 + knowers own since n + 1 ≤ cond (knows_or_is own next n) 1 0 + knowers own next n in
    (elim (eqb n new) as P [
      | true ↦ λ same.
          let is : n ≡ new = grind (arith, nat_tests) in
          let F : ℕ → Type 0 = λ m. cond ((m == own) || is_some (since m)) 1 0 + 1 ≤ cond ((m == own) || is_some (next m)) 1 0 in
          let at_new : F new = rw (other, none, some) (omega arith) in
          let at_n : F n = subst F (sym is) at_new in
          omega (arith, at_n, knowers_more own since next more n)
      | false ↦ λ apart.
          let before : new < n = grind (arith, nat_tests) in
          omega (arith, here, knowers_rise own since next more new other none some n before)
    ]) refl

-- the master of the write counts
pub knowers_some : (own : ℕ) (since : ℕ → Option OpId) (n : ℕ) → own < n → 1 ≤ knowers own since n
unfolding knowers knows_or_is
knowers_some own since zero below = absurd (omega (arith, below))
knowers_some own since (suc n) below =
    let P : Bool → Type 0 = λ b. eqb n own ≡ b → 1 ≤ cond (b || is_some (since n)) 1 0 + knowers own since n in
    (elim (eqb n own) as P [
      | true ↦ λ _. omega arith
      | false ↦ λ apart.
          let before : own < n = grind (arith, nat_tests) in
          omega (arith, knowers_some own since n before)
    ]) refl
