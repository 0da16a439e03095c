-- The table of dwords, after a write was put.
use Rattle.std.proofs.Common.{◌≡◌, ℕ, Bool, true, false, ◌==◌, cond, List, [], ◌∷◌, Option, None, Some, refl, sym, ap, ◌∙◌, arith}
use Rattle.std.proofs.lemmas.Bool.Decides.{nat_tests}
use Rattle.pci_command.specs.declared.command.Space.{Space}
use Rattle.pci_command.specs.declared.command.Space.TheVariants.{Mem, Io, Cfg}
use Rattle.pci_command.specs.Same.{same_space}
use Rattle.audit_clocks.specs.Tables.{list_in, same_word, found_in, TakesWord, PutsWord, dword}
use Rattle.audit_clocks.proofs.TableLemmas.{same_word_true}
use Rattle.board_model.specs.declared.word.Word.{Word}
use Rattle.untagged_check.specs.declared.index.entry.Write.{Write}
use Rattle.untagged_check.specs.index.Entries.{Listing, pushed}
use Rattle.untagged_check.specs.index.Kept.{Writes}

spaces_back : (a b : Space) → same_space a b ≡ same_space b a
spaces_back Mem Mem = refl
spaces_back Mem Io = refl
spaces_back Mem Cfg = refl
spaces_back Io Mem = refl
spaces_back Io Io = refl
spaces_back Io Cfg = refl
spaces_back Cfg Mem = refl
spaces_back Cfg Io = refl
spaces_back Cfg Cfg = refl

numbers_back : (a b : ℕ) → (a == b) ≡ (b == a)
numbers_back a b = grind (arith, nat_tests)

same_back : (a b : Word) → same_word a b ≡ same_word b a
same_back a b = rw (numbers_back a.target b.target, spaces_back a.space b.space, numbers_back a.address b.address) refl

-- a list that was taken out, and put back with one write more
pub put_back : (word : Word) (write : Write) (old mid new : List (Word × List Listing)) (found : Option (List Listing)) (list more : List Listing)
    → found ≡ found_in word old → list ≡ list_in found → more ≡ pushed write list → TakesWord word old mid → PutsWord word more mid new → Writes write (dword word ∷ []) old new
put_back word write old mid new found list more found_is list_is more_is out back =
    record {
      each = λ q.
          let was : Option (List Listing) = found_in q old in
          let both : found_in q new ≡ cond (same_word q word) (Some more) (cond (same_word q word) None was) =
          back.each q ∙ ap (λ f. cond (same_word word q) (Some more) f) (out.each q) ∙ ap (λ b. cond b (Some more) (cond b None was)) (same_back word q) in
          let P : Bool → Type 0 = λ b. same_word q word ≡ b → list_in (cond b (Some more) (cond b None was)) ≡ cond b (pushed write (list_in was)) (list_in was) in
          ap list_in both
          ∙ (elim (same_word q word) as P [
            | true ↦ λ same.
                let one : word ≡ q = sym (same_word_true q word same) in
                let found_q : found ≡ was = found_is ∙ ap (λ w. found_in w old) one in
                more_is ∙ ap (pushed write) (list_is ∙ ap list_in found_q)
            | false ↦ λ _. refl
          ]) refl;
    }
