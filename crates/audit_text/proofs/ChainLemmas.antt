-- A chain, by how it ends.
use Rattle.std.proofs.Common.{◌≡◌, ℕ, zero, suc, ◌-◌, ◌<◌, Bool, true, false, cond, List, [], ◌∷◌, ◌++◌, Some, None, refl, ◌∙◌, append_assoc, arith}
use Rattle.pci_command.specs.declared.op_id.OpId.{OpId}
use Rattle.pci_command.specs.Same.{same_op}
use Rattle.law_audit.specs.Chains.{joined, to_reader}
use Rattle.audit_text.specs.Notes.{Notes}
use Rattle.audit_text.specs.Found.{since_of, shown_to, chain_to}

chain_step : (n : ℕ) (notes : Notes) (w q : OpId) → 0 < n
    → chain_to n notes w q ≡ cond (same_op q w) (w ∷ []) (to_reader (λ p. chain_to (n - 1) notes w p) (λ master. since_of notes w master) q (shown_to notes w q))
chain_step zero notes w q above = absurd (omega (arith, above))
chain_step (suc n) notes w q above = let e : suc n - 1 ≡ n = omega arith in rw e refl

pub chain_end : (n : ℕ) (notes : Notes) (w q : OpId) → 0 < n → same_op q w ≡ true → chain_to n notes w q ≡ w ∷ []
chain_end n notes w q above same = chain_step n notes w q above ∙ rw same refl

pub chain_none : (n : ℕ) (notes : Notes) (w q : OpId) → 0 < n → same_op q w ≡ false → shown_to notes w q ≡ None → chain_to n notes w q ≡ q ∷ []
chain_none n notes w q above other none = chain_step n notes w q above ∙ rw (other, none) refl

pub chain_seen : (n : ℕ) (notes : Notes) (w q v : OpId) → 0 < n → same_op q w ≡ false → shown_to notes w q ≡ Some v → since_of notes w v.master ≡ None → chain_to n notes w q ≡ v ∷ q ∷ []
chain_seen n notes w q v above other seen none = chain_step n notes w q above ∙ rw (other, seen, none) refl

pub chain_told : (n : ℕ) (notes : Notes) (w q v p : OpId) → 0 < n → same_op q w ≡ false → shown_to notes w q ≡ Some v → since_of notes w v.master ≡ Some p
    → chain_to n notes w q ≡ joined (chain_to (n - 1) notes w p) p v ++ q ∷ []
chain_told n notes w q v p above other seen some = chain_step n notes w q above ∙ rw (other, seen, some) refl

pub joined-append : (xs ys : List OpId) (p v : OpId) → joined (xs ++ ys) p v ≡ xs ++ joined ys p v
joined-append xs ys p v =
    let P : Bool → Type 0 = λ b. cond b (xs ++ ys) ((xs ++ ys) ++ v ∷ []) ≡ xs ++ cond b ys (ys ++ v ∷ []) in
    elim (same_op p v) as P [ true ↦ refl | false ↦ append_assoc xs ys (v ∷ []) ]

-- a chain behind others, and what is joined to it
pub chain_push : (old chain next all : List OpId) (p v q : OpId) (before : List OpId) → next ≡ old ++ before → chain ≡ joined next p v → all ≡ chain ++ q ∷ [] → all ≡ old ++ (joined before p v ++ q ∷ [])
chain_push old chain next all p v q before first second third =
    third ∙ rw (second, first, joined-append old before p v) (append_assoc old (joined before p v) (q ∷ []))
