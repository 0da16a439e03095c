-- Lines of one word or two.
use Rattle.std.proofs.Common.{◌≡◌, ℕ, Bool, true, false, ◌&&◌, ◌==◌, eqb, List, [], ◌∷◌, length, refl, sym, ap, ◌∙◌, arith}
use Rattle.std.proofs.lemmas.Bool.Decides.{nat_tests}
use Rattle.std.specs.Str.{bytes_eq}
use Rattle.dma_agents.specs.Made.{same_words}

one_word : (word : List ℕ) (rest : List (List ℕ)) (expected : List ℕ) → same_words (word ∷ rest) (expected ∷ []) ≡ (bytes_eq word expected && length rest == 0)
one_word word [] expected = refl
one_word word (next ∷ rest) expected =
    let none : eqb (length (next ∷ rest)) 0 ≡ false = grind (arith, nat_tests) in
    ap (λ b. bytes_eq word expected && b) (sym none)

pub says_word : (words : List (List ℕ)) (word expected : List ℕ) (rest : List (List ℕ)) (done : Bool) → words ≡ word ∷ rest → bytes_eq word expected ≡ true → done ≡ (length rest == 0) → done ≡ same_words words (expected ∷ [])
says_word words word expected rest done is same is_done =
    is_done ∙ sym (ap (λ ws. same_words ws (expected ∷ [])) is ∙ one_word word rest expected ∙ ap (λ b. b && length rest == 0) same)

two_words : (first : List ℕ) (words : List (List ℕ)) (a b : List ℕ) → same_words (first ∷ words) (a ∷ b ∷ []) ≡ (bytes_eq first a && same_words words (b ∷ []))
two_words first words a b = refl

pub says_words : (words : List (List ℕ)) (first second : List ℕ) (a b : List ℕ) (rest : List (List ℕ)) (done : Bool) → words ≡ first ∷ second ∷ rest → bytes_eq first a ≡ true → bytes_eq second b ≡ true → done ≡ (length rest == 0) → done ≡ same_words words (a ∷ b ∷ [])
says_words words first second a b rest done is same also is_done =
    is_done
    ∙ sym (ap (λ ws. same_words ws (a ∷ b ∷ [])) is
    ∙ ap (λ t. t && same_words (second ∷ rest) (b ∷ [])) same
    ∙ one_word second rest b
    ∙ ap (λ t. t && length rest == 0) also)

pub one_alone : (words : List (List ℕ)) (first a b : List ℕ) → words ≡ first ∷ [] → false ≡ same_words words (a ∷ b ∷ [])
one_alone words first a b is =
    let P : Bool → Type 0 = λ t. false ≡ (t && false) in
    let none : P (bytes_eq first a) = elim (bytes_eq first a) as P [ true ↦ refl | false ↦ refl ] in
    none ∙ sym (ap (λ ws. same_words ws (a ∷ b ∷ [])) is)
