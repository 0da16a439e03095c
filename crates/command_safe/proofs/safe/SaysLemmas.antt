-- What is written is what the largest table says.
use Rattle.std.proofs.Common.{◌≡◌, ◌↔◌, Bool, true, false, Result, Ok, Err, IfOk, refl}
use Rattle.std.proofs.lemmas.Bool.{false≢true}
use Rattle.program_status.specs.declared.status.Status.{Status}
use Rattle.program_status.specs.declared.answered.Answered.{Answered}

-- two tests of one fact
pub same_test : (a b : Bool) (P : Type 0) → ((a ≡ true) ↔ P) → ((b ≡ true) ↔ P) → a ≡ b
same_test true true P one two = refl
same_test true false P one two = absurd (false≢true (two.1 (one.0 refl)))
same_test false true P one two = absurd (false≢true (one.1 (two.0 refl)))
same_test false false P one two = refl

-- where there is a text, two facts of it give a third
pub of_both : (result : Result Answered Status) (A B C : Answered → Type 0) → IfOk result A → IfOk result B → ((answer : Answered) → A answer → B answer → C answer)
    → IfOk result C
of_both (Ok answer) A B C a b c = c answer a b
of_both (Err status) A B C a b c = tt
