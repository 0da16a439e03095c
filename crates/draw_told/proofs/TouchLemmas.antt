-- Data phases of a write, one by one.
use Rattle.std.proofs.Common.{◌≡◌, ℕ, suc, ◌+◌, ◌*◌, Bool, true, false, cond, List, [], ◌∷◌, ◌++◌, refl, sym, ap, ◌∙◌, arith, append-nil, append_assoc, Some}
use Rattle.history_model.proofs.facts.RequestLemmas.{same_op_true}
use Rattle.audit_clocks.specs.Tables.{value_of, list_in, Puts}
use Rattle.pci_command.specs.declared.command.Space.{Space}
use Rattle.pci_command.specs.declared.op_id.OpId.{OpId}
use Rattle.pci_command.specs.Same.{same_op}
use Rattle.draw_told.specs.declared.touches.Touch.{Touch}
use Rattle.draw_told.specs.Kept.{touches_in, touches_from, Adds}

no_touch : List Touch
no_touch = []

nothing : (b : Bool) → cond b no_touch no_touch ≡ no_touch
nothing true = refl
nothing false = refl

pub adds_none : (n target : ℕ) (space : Space) (at : ℕ) (op : OpId) (old : List (OpId × List Touch)) → Adds old old (λ o. cond (same_op op o) (touches_from n target space at 0) [])
unfolding no_touch
adds_none n target space at op old = record {
  each = λ o. sym (append-nil (touches_in o old)) ∙ ap (λ (l : List Touch). touches_in o old ++ l) (sym (nothing (same_op op o)));
}

-- the operation's list with one more
pub adds_put : (op : OpId) (touch : Touch) (list : List Touch) (old new : List (OpId × List Touch)) → list ≡ touches_in op old ++ touch ∷ [] → Puts op list old new → Adds old new (λ o. cond (same_op op o) (touch ∷ []) [])
adds_put op touch list old new is puts = record {
  each = λ o.
      let P : Bool → Type 0 = λ b. same_op op o ≡ b → list_in (cond b (Some list) (value_of o old)) ≡ touches_in o old ++ cond b (touch ∷ []) [] in
      ap (λ x. list_in x) (puts.each o)
      ∙ (elim (same_op op o) as P [
        | true ↦ λ same. is ∙ ap (λ p. touches_in p old ++ touch ∷ []) (same_op_true op o same)
        | false ↦ λ other. sym (append-nil (touches_in o old))
      ]) refl;
}

more_by : (b : Bool) (old xs : List Touch) (x : Touch) → (old ++ cond b xs []) ++ cond b (x ∷ []) [] ≡ old ++ cond b (xs ++ x ∷ []) []
more_by true old xs x = append_assoc old xs (x ∷ [])
more_by false old xs x = append-nil (old ++ [])

pub adds_more : (n target : ℕ) (space : Space) (at k address : ℕ) (op : OpId) (old now next : List (OpId × List Touch)) → address ≡ at + 4 * k
    → Adds old now (λ o. cond (same_op op o) (touches_from n target space at k) [])
    → Adds now next (λ o. cond (same_op op o) (record { word = record { target = target; space = space; address = address }; event = n } ∷ []) [])
    → Adds old next (λ o. cond (same_op op o) (touches_from n target space at (k + 1)) [])
adds_more n target space at k address op old now next is so more = record {
  each = λ o.
      let touch : ℕ → Touch = λ a. record { word = record { target = target; space = space; address = a }; event = n } in
      let all : suc k ≡ k + 1 = omega arith in
      more.each o
      ∙ ap (λ (l : List Touch). l ++ cond (same_op op o) (touch address ∷ []) []) (so.each o)
      ∙ more_by (same_op op o) (touches_in o old) (touches_from n target space at k) (touch address)
      ∙ ap (λ a. touches_in o old ++ cond (same_op op o) (touches_from n target space at k ++ touch a ∷ []) []) is
      ∙ ap (λ c. touches_in o old ++ cond (same_op op o) (touches_from n target space at c) []) all;
}
