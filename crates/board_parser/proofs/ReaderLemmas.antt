-- What holds of the values that readers of words give.
use Rattle.std.proofs.Common.{subst, ap, ◌≡◌, ℕ, Bool, true, false, cond, List, [], ◌∷◌, length, refl}
use Rattle.std.specs.Prelude.{Result, Ok, Err, ◌==◌}
use Rattle.text_faults.specs.declared.board_line.LineFault.{LineFault}
use Rattle.board_statements.specs.Words.{Reader, read_on, ◌>>=◌, ◌>>◌, give, with_rest, one_word, begins_with, behind_first, choice, optional, whole}

-- each value that the reader gives has the property
pub record Yields {A : Type 0} (reader : Reader A) (P : A → Type 0) : Type 0 where
  pub at : (words : List (List ℕ)) (read : A × List (List ℕ)) → reader words ≡ Ok read → P (read.0)

pub on-ok : {A B : Type 0} (step : Result (A × List (List ℕ)) LineFault) (next : A → Reader B) (read : B × List (List ℕ)) → read_on step next ≡ Ok read → (first : A × List (List ℕ)) × ((step ≡ Ok first) × (next (first.0) (first.1) ≡ Ok read))
on-ok (Ok first) next read h = (first, (refl, h))
on-ok (Err fault) next read h = absurd (cc)

pub yields-bind : {A B : Type 0} (reader : Reader A) (next : A → Reader B) (P : A → Type 0) (Q : B → Type 0) → Yields reader P → ((value : A) → P value → Yields (next value) Q) → Yields (reader >>= next) Q
yields-bind reader next P Q first then = record {
  at = λ words read h.
      let step = on-ok (reader words) next read h in
      (then (step.0.0) (first.at words step.0 step.1.0)).at (step.0.1) read step.1.1;
}

pub yields-next : {A B : Type 0} (reader : Reader A) (next : Reader B) (Q : B → Type 0) → Yields next Q → Yields (reader >> next) Q
yields-next reader next Q then = record {
  at = λ words read h.
      let step = on-ok (reader words) (λ _. next) read h in
      then.at (step.0.1) read step.1.1;
}

pub yields-give : {A : Type 0} (value : A) (P : A → Type 0) → P value → Yields (give value) P
yields-give value P is = record {
  at = λ words read h. let same : value ≡ read.0 = cc in subst P same is;
}

pub rest-ok : {A : Type 0} (kind : Result A LineFault) (words : List (List ℕ)) (read : A × List (List ℕ)) → with_rest kind words ≡ Ok read → kind ≡ Ok (read.0)
rest-ok (Ok value) words read h = let same : value ≡ read.0 = cc in ap (λ v. Ok v) same
rest-ok (Err fault) words read h = absurd (cc)

pub word-ok : {A : Type 0} (kind : List ℕ → Result A LineFault) (P : A → Type 0) → ((word : List ℕ) (value : A) → kind word ≡ Ok value → P value) → (words : List (List ℕ)) (read : A × List (List ℕ)) → one_word kind words ≡ Ok read → P (read.0)
word-ok kind P each [] read h = absurd (cc)
word-ok kind P each (word ∷ words) read h = each word (read.0) (rest-ok (kind word) words read h)

pub yields-word : {A : Type 0} (kind : List ℕ → Result A LineFault) (P : A → Type 0) → ((word : List ℕ) (value : A) → kind word ≡ Ok value → P value) → Yields (one_word kind) P
yields-word kind P each = record { at = word-ok kind P each }

pub yields-any : {A : Type 0} (reader : Reader A) → Yields reader (λ _. Unit {0})
yields-any reader = record { at = λ words read h. tt }

choice-ok : {A : Type 0} (test : Bool) (behind here : Result (A × List (List ℕ)) LineFault) (P : A → Type 0) (read : A × List (List ℕ)) → (behind ≡ Ok read → P (read.0)) → (here ≡ Ok read → P (read.0)) → cond test behind here ≡ Ok read → P (read.0)
choice-ok true behind here P read one other h = one h
choice-ok false behind here P read one other h = other h

pub yields-choice : {A : Type 0} (expected : List ℕ) (behind here : Reader A) (P : A → Type 0) → Yields behind P → Yields here P → Yields (choice expected behind here) P
yields-choice expected behind here P one other = record {
  at = λ words read h.
      choice-ok (begins_with expected words) (behind (behind_first words)) (here words) P read (one.at (behind_first words) read) (other.at words read) h;
}

pub yields-optional : {A : Type 0} (expected : List ℕ) (default : A) (behind : Reader A) (P : A → Type 0) → P default → Yields behind P → Yields (optional expected default behind) P
yields-optional expected default behind P is one = yields-choice expected behind (give default) P one (yields-give default P is)

whole-ok : {A : Type 0} (test : Bool) (value given : A) (fault : LineFault) → cond test (Ok value) (Err fault) ≡ Ok given → value ≡ given
whole-ok true value given fault h = cc
whole-ok false value given fault h = absurd (cc)

pub yields-whole : {A : Type 0} (reading : Result (A × List (List ℕ)) LineFault) (P : A → Type 0) → ((read : A × List (List ℕ)) → reading ≡ Ok read → P (read.0)) → (value : A) → whole reading ≡ Ok value → P value
yields-whole (Ok read) P each value h = subst P (whole-ok (length (read.1) == 0) (read.0) value _ h) (each read refl)
yields-whole (Err fault) P each value h = absurd (cc)

pub give-ok : {A : Type 0} (value : A) (words : List (List ℕ)) (read : A × List (List ℕ)) → give value words ≡ Ok read → value ≡ read.0
give-ok value words read h = cc
