-- A request has a word at a target exactly where it has a data phase and is not aborted.
use Rattle.std.proofs.Common.{◌≡◌, ℕ, Bool, true, false, not, ◌&&◌, nat_lt, cond, List, [], ◌∷◌, length, Option, Some, None, refl, sym, ◌∙◌, ◌+◌, arith}
use Rattle.std.proofs.lemmas.Bool.Decides.{nat_tests}
use Rattle.pci_command.specs.declared.command.Space.{Space}
use Rattle.pci_command.specs.declared.phases.Phase.{Phase}
use Rattle.pci_command.specs.declared.request.Request.{Request}
use Rattle.board_model.specs.declared.agents.Target.{Target as TargetAgent}
use Rattle.board_model.specs.Ways.{aborts_at, dwords_from, dwords_of, words_at}
use Rattle.judge_adverse.specs.Operation.{has_word_in}

-- a list with a member is not empty
filled : {X : Type 0} (x : X) (xs : List X) → nat_lt 0 (length (x ∷ xs)) ≡ true
filled x xs = grind (arith, nat_tests)

some_words : (target : ℕ) (space : Space) (address : ℕ) (phases : List Phase) → nat_lt 0 (length phases) ≡ nat_lt 0 (length (dwords_from target space address phases))
some_words target space address [] = refl
some_words target space address (phase ∷ phases) = filled phase phases ∙ sym (filled (record { target = target; space = space; address = address }) (dwords_from target space (address + 4) phases))

pub words_in : (place : ℕ) (request : Request) (found : Option TargetAgent) → has_word_in request found ≡ nat_lt 0 (length (words_at place request found))
words_in place request None = refl
words_in place request (Some target) =
    let P : Bool → Type 0 = λ b. (not b && nat_lt 0 (length request.phases)) ≡ nat_lt 0 (length (cond b [] (dwords_of place request))) in
    elim (aborts_at target request) as P [ true ↦ refl | false ↦ some_words place _ _ request.phases ]
