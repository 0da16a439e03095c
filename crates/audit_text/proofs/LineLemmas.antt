-- The words of a line, part by part.
use Rattle.std.proofs.Common.{◌≡◌, ℕ, List, [], ◌∷◌, ◌++◌, sym, ap, ◌∙◌, append_assoc}
use Rattle.board_printer.specs.Lines.{Line, spaced, line_text}
use Rattle.board_printer.proofs.LineLemmas.{spaced-rest, spaced-append}

spaced-then : (xs ys : Line) (rest : List ℕ) → spaced (xs ++ ys) rest ≡ spaced xs [] ++ spaced ys rest
spaced-then xs ys rest = spaced-rest (xs ++ ys) rest ∙ ap (λ (l : List ℕ). l ++ rest) (spaced-append xs ys) ∙ append_assoc (spaced xs []) (spaced ys []) rest ∙ ap (λ (l : List ℕ). spaced xs [] ++ l) (sym (spaced-rest ys rest))

-- a first word, two parts, one word more, and the last part
pub line_parts : (word by : List ℕ) (xs ys zs : Line) (old t1 t2 t3 t4 t5 : List ℕ) → t1 ≡ old ++ word → t2 ≡ t1 ++ spaced xs [] → t3 ≡ t2 ++ spaced ys [] → t4 ≡ t3 ++ 32 ∷ by → t5 ≡ t4 ++ spaced zs []
    → t5 ≡ old ++ (word ++ spaced (xs ++ (ys ++ by ∷ zs)) [])
line_parts word by xs ys zs old t1 t2 t3 t4 t5 e1 e2 e3 e4 e5 =
    let last : List ℕ = spaced (by ∷ zs) [] in
    let words : spaced (xs ++ (ys ++ by ∷ zs)) [] ≡ spaced xs [] ++ (spaced ys [] ++ last) = spaced-then xs (ys ++ by ∷ zs) [] ∙ ap (λ (l : List ℕ). spaced xs [] ++ l) (spaced-then ys (by ∷ zs) []) in
    let first : t5 ≡ t3 ++ last = e5 ∙ ap (λ (l : List ℕ). l ++ spaced zs []) e4 ∙ append_assoc t3 (32 ∷ by) (spaced zs []) in
    first
    ∙ ap (λ (l : List ℕ). l ++ last) e3 ∙ append_assoc t2 (spaced ys []) last
    ∙ ap (λ (l : List ℕ). l ++ (spaced ys [] ++ last)) e2 ∙ append_assoc t1 (spaced xs []) (spaced ys [] ++ last)
    ∙ ap (λ (l : List ℕ). l ++ (spaced xs [] ++ (spaced ys [] ++ last))) e1 ∙ append_assoc old word (spaced xs [] ++ (spaced ys [] ++ last))
    ∙ ap (λ (l : List ℕ). old ++ (word ++ l)) (sym words)

-- a line is its words and a newline
pub line_ends : (word : List ℕ) (words : Line) → (word ++ spaced words []) ++ 10 ∷ [] ≡ line_text (word ∷ words)
line_ends word words = append_assoc word (spaced words []) (10 ∷ []) ∙ ap (λ (l : List ℕ). word ++ l) (sym (spaced-rest words (10 ∷ [])))

pub line_done : (word : List ℕ) (words : Line) (old now next : List ℕ) → now ≡ old ++ (word ++ spaced words []) → next ≡ now ++ 10 ∷ [] → next ≡ old ++ line_text (word ∷ words)
line_done word words old now next is ended =
    ended ∙ ap (λ (l : List ℕ). l ++ 10 ∷ []) is ∙ append_assoc old (word ++ spaced words []) (10 ∷ []) ∙ ap (λ (l : List ℕ). old ++ l) (line_ends word words)
