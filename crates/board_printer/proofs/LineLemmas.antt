-- Lines and words that are written one after another.
use Rattle.std.proofs.Common.{◌≡◌, ℕ, ◌+◌, ◌<◌, List, [], ◌∷◌, ◌++◌, length, get_or, take, map, refl, sym, ap, ◌∙◌, append_assoc, append-nil}
use Rattle.std.proofs.lemmas.List.{take_more, map-append}
use Rattle.std.proofs.lemmas.List.Concat.{flat_map-append}
use Rattle.board_printer.specs.Lines.{Line, spaced, line_text, text_of}

-- what follows the words stands behind them
pub spaced-rest : (words : Line) (rest : List ℕ) → spaced words rest ≡ spaced words [] ++ rest
spaced-rest [] rest = refl
spaced-rest (word ∷ words) rest = ap (λ (l : List ℕ). 32 ∷ (word ++ l)) (spaced-rest words rest) ∙ ap (λ (l : List ℕ). 32 ∷ l) (sym (append_assoc word (spaced words []) rest))

pub spaced-append : (xs ys : Line) → spaced (xs ++ ys) [] ≡ spaced xs [] ++ spaced ys []
spaced-append [] ys = refl
spaced-append (word ∷ xs) ys = ap (λ (l : List ℕ). 32 ∷ (word ++ l)) (spaced-append xs ys) ∙ ap (λ (l : List ℕ). 32 ∷ l) (sym (append_assoc word (spaced xs []) (spaced ys [])))

pub text_of-append : (xs ys : List Line) → text_of (xs ++ ys) ≡ text_of xs ++ text_of ys
text_of-append xs ys = flat_map-append line_text xs ys

-- one more word behind those that were written
pub spaced-more : {X : Type 0} (word : X → List ℕ) (old now next : List ℕ) (xs : List X) (i : ℕ) (d : X)
    → i < length xs → now ≡ old ++ spaced (map word (take i xs)) [] → next ≡ now ++ 32 ∷ word (get_or xs i d)
    → next ≡ old ++ spaced (map word (take (i + 1) xs)) []
spaced-more word old now next xs i d within before after =
    rw (take_more xs i d within, map-append, spaced-append, ← append_assoc old, ← before, append-nil) after
