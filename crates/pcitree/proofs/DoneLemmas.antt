-- What a text answers whose call ends with `Done`, or refuses it.
use Rattle.std.proofs.Common.{◌≡◌, ℕ, true, List, Result, Ok, Err, IfOk, IfErr, refl, subst}
use Rattle.std.specs.Prelude.{Vec}
use Rattle.std.specs.declared.alloc.Global.{Global}
use Rattle.program_status.specs.declared.status.Status.{Status}
use Rattle.program_status.specs.declared.status.Status.TheVariants.{Done}
use Rattle.program_status.specs.declared.answered.Answered.{Answered}
use Rattle.program_words.specs.declared.Form.{Form}
use Rattle.program_words.specs.declared.Form.TheVariants as forms
use Rattle.program_words.specs.Shapes.{lets_go}

pub done_answers : (P : List ℕ → Type 0) (text : Result (Vec ℕ Global) Status) (made : Result Answered Status) → IfOk made (λ answer. (text ≡ Ok answer.text) × (answer.ending ≡ Done)) → IfOk text (λ bytes. P bytes.items)
    → IfOk made (λ answer. P answer.text.items × (answer.ending ≡ Done))
done_answers P text (Err status) is answers = tt
done_answers P text (Ok answer) is answers = (subst (λ t. IfOk t (λ bytes. P bytes.items)) is.0 answers, is.1)

pub done_refuses : (R : Status → Type 0) (text : Result (Vec ℕ Global) Status) (made : Result Answered Status) → IfErr made (λ status. text ≡ Err status) → IfErr text R → IfErr made R
done_refuses R text (Ok answer) is refuses = tt
done_refuses R text (Err status) is refuses = subst (λ t. IfErr t R) is refuses

-- no other form lets its input go
pub only_observe : (form : Form) → lets_go form ≡ true → form ≡ forms.Observe
only_observe forms.Observe is = refl
only_observe _ is = absurd cc
