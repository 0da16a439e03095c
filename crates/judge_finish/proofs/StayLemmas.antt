-- A complete run does not go on, and from a run there is one way on to its end.
use Rattle.std.proofs.Common.{◌≡◌, ◌≤◌, List, [], ◌∷◌, ◌++◌, length, append_assoc, append-nil, Some, refl, sym, ap, subst, ◌∙◌, arith}
use Rattle.board_model.specs.declared.board.Board.{Board}
use Rattle.history_model.specs.declared.event.Event.{Event}
use Rattle.history_model.specs.Runs.{history_of}
use Rattle.history_model.specs.Next.{next_of}
use Rattle.law_lanes.proofs.progress.Laws.{complete_none}
use Rattle.judge_check.specs.Verdicts.{CompleteRun}
use Rattle.judge_finish.specs.Finishing.{GoesOn, Finishes}

-- nothing comes next after a complete run
no_more : (board : Board) (whole : List Event) (e : Event) → CompleteRun board whole → next_of board (history_of whole) ≡ Some e → ⊥
no_more board whole e runs next = let none = complete_none board (history_of whole) runs.run runs.complete in absurd cc

-- two ways on to the end are one
one_way : (board : Board) (before more other : List Event) → GoesOn board before more → GoesOn board before other → CompleteRun board (before ++ more) → CompleteRun board (before ++ other) → more ≡ other
one_way board before [] [] goes_on other_goes_on runs other_runs = refl
one_way board before [] (y ∷ ys) goes_on other_goes_on runs other_runs = absurd (no_more board before y (subst (CompleteRun board) (append-nil before) runs) other_goes_on.0)
one_way board before (x ∷ xs) [] goes_on other_goes_on runs other_runs = absurd (no_more board before x (subst (CompleteRun board) (append-nil before) other_runs) goes_on.0)
one_way board before (x ∷ xs) (y ∷ ys) goes_on other_goes_on runs other_runs =
    let same : x ≡ y = cc in
    let further : List Event → List Event = λ more. (before ++ x ∷ []) ++ more in
    let ys_go_on : GoesOn board (before ++ x ∷ []) ys = subst (λ (e : Event). GoesOn board (before ++ e ∷ []) ys) (sym same) other_goes_on.1 in
    let xs_run : CompleteRun board (further xs) = subst (CompleteRun board) (sym (append_assoc before (x ∷ []) xs)) runs in
    let ys_run : CompleteRun board (further ys) =
    subst (CompleteRun board) (ap (λ (e : Event). before ++ e ∷ ys) (sym same) ∙ sym (append_assoc before (x ∷ []) ys)) other_runs in
    let rest : xs ≡ ys = one_way board (before ++ x ∷ []) xs ys goes_on.1 ys_go_on xs_run ys_run in
    cc

-- behind the first part of a way on goes the rest of it
goes_further : (board : Board) (before first more : List Event) → GoesOn board before (first ++ more) → GoesOn board (before ++ first) more
goes_further board before [] more goes_on = subst (λ (l : List Event). GoesOn board l more) (sym (append-nil before)) goes_on
goes_further board before (e ∷ first) more goes_on =
    subst (λ (l : List Event). GoesOn board l more) (append_assoc before (e ∷ []) first) (goes_further board (before ++ e ∷ []) first more goes_on.1)

-- of two fronts of a list the longer begins with the shorter
longer_front : (short more long behind : List Event) → short ++ more ≡ long ++ behind → length short ≤ length long → (between : List Event) × (long ≡ short ++ between) × (more ≡ between ++ behind)
longer_front [] more long behind same shorter = (long, refl, same)
longer_front (e ∷ short) more [] behind same shorter = absurd (omega arith)
longer_front (e ∷ short) more (d ∷ long) behind same shorter =
    let first : e ≡ d = cc in
    let others : short ++ more ≡ long ++ behind = cc in
    let rest = longer_front short more long behind others (omega arith) in
    (rest.0, ap (λ (x : Event). x ∷ long) (sym first) ∙ ap (λ (l : List Event). e ∷ l) rest.1, rest.2)

pub again_stays : (board : Board) (whole again : List Event) → CompleteRun board whole → Finishes board whole again → again ≡ whole
again_stays board whole again runs finishes =
    let none : finishes.more ≡ [] =
    one_way board whole finishes.more [] finishes.goes_on tt (subst (CompleteRun board) finishes.whole_is finishes.runs) (subst (CompleteRun board) (sym (append-nil whole)) runs) in
    finishes.whole_is ∙ (ap (λ (l : List Event). whole ++ l) none ∙ append-nil whole)

pub fronts_stay : (board : Board) (events whole front behind other : List Event) → Finishes board events whole → whole ≡ front ++ behind → length events ≤ length front → Finishes board front other → other ≡ whole
fronts_stay board events whole front behind other finishes cut read other_finishes =
    let nested = longer_front events finishes.more front behind (sym finishes.whole_is ∙ cut) read in
    let on : GoesOn board (events ++ nested.0) behind = goes_further board events nested.0 behind (subst (GoesOn board events) nested.2 finishes.goes_on) in
    let goes_on : GoesOn board front behind = subst (λ (l : List Event). GoesOn board l behind) (sym nested.1) on in
    let same : behind ≡ other_finishes.more =
    one_way board front behind other_finishes.more goes_on other_finishes.goes_on (subst (CompleteRun board) cut finishes.runs) (subst (CompleteRun board) other_finishes.whole_is other_finishes.runs) in
    other_finishes.whole_is ∙ (ap (λ (l : List Event). front ++ l) (sym same) ∙ sym cut)
