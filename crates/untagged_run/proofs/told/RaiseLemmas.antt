-- The master of an operation that ended learns.
use Rattle.std.proofs.Common.{◌≡◌, ◌≢◌, ℕ, ◌<◌, ◌≤◌, max, List, [], ◌∷◌, ◌++◌, length, get_or, replicate, ◌+◌, refl, ap, ◌∙◌, arith}
use Rattle.std.proofs.Math.ListN.{set}
use Rattle.std.proofs.lemmas.Bool.Decides.{nat_tests}
use Rattle.std.proofs.lemmas.List.{get_or-set_same, get_or-set_other, length-set, replicate-append-replicate}
use Rattle.pci_command.specs.declared.op_id.OpId.{OpId}
use Rattle.audit_clocks.specs.Rows.{number, own, Raises}
use Rattle.untagged_run.specs.told.Knowers.{known_at, Learns}

pub learns_inside : (o : OpId) (told : List ℕ) (old new : List (List ℕ)) (next : List ℕ) → o.master < length old → new ≡ set old o.master next
    → Raises (get_or old o.master []) next (λ author. max (number told author) (own o author)) → Learns o told old new
learns_inside o told old new next within is raises =
    let there : known_at new o.master ≡ next = ap (λ xs. known_at xs o.master) is ∙ get_or-set_same old o.master next [] within in
    record {
      masters = ap (λ xs. length xs) is ∙ length-set old o.master next;
      others = λ master other.
          let apart : master ≢ o.master = grind (arith, nat_tests) in
          ap (λ xs. known_at xs master) is ∙ get_or-set_other old o.master master next [] apart;
      mine = λ inside. record { authors = ap (λ xs. length xs) there ∙ raises.authors; each = λ author below. ap (λ xs. number xs author) there ∙ raises.each author below };
    }

pub learns_outside : (o : OpId) (told : List ℕ) (old : List (List ℕ)) → length old ≤ o.master → Learns o told old old
learns_outside o told old beyond = record { masters = refl; others = λ master other. refl; mine = λ inside. absurd (omega (arith, inside, beyond)) }

pub replicate_more : {X : Type 0} (n : ℕ) (x : X) (xs ys : List X) → xs ≡ replicate n x → ys ≡ xs ++ x ∷ [] → ys ≡ replicate (n + 1) x
replicate_more n x xs ys are is = is ∙ ap (λ zs. zs ++ x ∷ []) are ∙ replicate-append-replicate n 1 x
