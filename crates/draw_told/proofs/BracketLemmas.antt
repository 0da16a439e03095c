-- Bracket by bracket.
use Rattle.std.proofs.Common.{◌≡◌, ℕ, ◌+◌, ◌<◌, ◌≤◌, suc, List, [], length, drop, get_or, sym, ap, ◌∙◌, arith}
use Rattle.std.proofs.lemmas.List.{drop_all}
use Rattle.std.proofs.Math.Seq.{drop-cons}
use Rattle.draw_told.specs.declared.told.Span.{Span}
use Rattle.draw_told.specs.Brackets.{Standing, with_bracket, with_brackets, brackets_of}

pub brackets_more : (spans : List Span) (i : ℕ) (d : Span) (standing next whole : Standing) → i < length spans → with_brackets (drop i spans) standing ≡ whole → next ≡ with_bracket (get_or spans i d) standing
    → with_brackets (drop (i + 1) spans) next ≡ whole
brackets_more spans i d standing next whole within so is =
    let e : suc i ≡ i + 1 = omega arith in
    ap (λ (s : Standing). with_brackets (drop (i + 1) spans) s) is
    ∙ ap (λ (k : ℕ). with_brackets (drop k spans) (with_bracket (get_or spans i d) standing)) (sym e)
    ∙ ap (λ (l : List Span). with_brackets l standing) (sym (drop-cons spans i d within))
    ∙ so

pub brackets_all : (spans : List Span) (i : ℕ) (standing first : Standing) → length spans ≤ i → with_brackets (drop i spans) standing ≡ with_brackets spans first → first ≡ record { tracks = []; ends = [] } → standing ≡ brackets_of spans
unfolding brackets_of
brackets_all spans i standing first past so none =
    ap (λ (l : List Span). with_brackets l standing) (sym (drop_all i spans past)) ∙ so ∙ ap (λ (s : Standing). with_brackets spans s) none
