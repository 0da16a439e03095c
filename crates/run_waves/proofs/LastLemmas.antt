-- The last line that gives a signal its value, among lines that go signal by signal.
use Rattle.std.proofs.Common.{◌≡◌, ℕ, zero, suc, ◌+◌, ◌^◌, ◌<◌, ◌≤◌, Bool, cond, List, [], ◌∷◌, ◌++◌, length, reverse, Option, Some, None, slice_get, refl, ap, ◌∙◌, arith}
use Rattle.std.specs.List.{find}
use Rattle.std.specs.Option.{option_or}
use Rattle.std.proofs.lemmas.List.{reverse-append}
use Rattle.std.proofs.lemmas.List.Folds.{find-append}
use Rattle.board_printer.specs.Lines.{Line}
use Rattle.run_waves.specs.Shown.{Shown}
use Rattle.run_waves.specs.Dump.{code_of, value_line}
use Rattle.run_waves.specs.Told.{gives}
use Rattle.run_waves.proofs.CodeLemmas.{gives_own, gives_other}

-- of two lists, in the second, and else in the first
pub last_append : {X : Type 0} (test : X → Bool) (xs ys : List X) → find test (reverse (xs ++ ys)) ≡ option_or (find test (reverse ys)) (find test (reverse xs))
last_append test xs ys = ap (find test) (reverse-append xs ys) ∙ find-append test (reverse ys) (reverse xs)

pub or_none : {X : Type 0} (found : Option X) → option_or found None ≡ found
or_none None = refl
or_none (Some x) = refl

-- the lines of signals with numbers from k on
abbrev pub pieces : {X : Type 0} → (ℕ → X → List Line) → ℕ → List X → List Line
pieces f k [] = []
pieces f k (x ∷ xs) = f k x ++ pieces f (k + 1) xs

-- none of a signal gives a value to another
abbrev pub AreOwn : {X : Type 0} → (ℕ → X → List Line) → Type 0
AreOwn {X} f = (k j : ℕ) (x : X) → k < 94 ^ 3 → j < 94 ^ 3 → (j ≡ k → ⊥) → find (gives (code_of k)) (reverse (f j x)) ≡ None

none_behind : {X : Type 0} (f : ℕ → X → List Line) → AreOwn f → (k j : ℕ) (xs : List X) → k < j → j + length xs ≤ 94 ^ 3
    → find (gives (code_of k)) (reverse (pieces f j xs)) ≡ None
none_behind f own k j [] less within = refl
none_behind f own k j (x ∷ xs) less within =
    let test : Line → Bool = gives (code_of k) in
    let here : Option Line = find test (reverse (f j x)) in
    last_append test (f j x) (pieces f (j + 1) xs)
    ∙ ap (λ (found : Option Line). option_or found here) (none_behind f own k (j + 1) xs (omega arith) (omega arith))
    ∙ own k j x (omega arith) (omega arith) (λ same. omega arith)

-- what is given last is what is given of the signal itself
pub last_piece : {X : Type 0} (f : ℕ → X → List Line) → AreOwn f → (k j i : ℕ) (xs : List X) (x : X) → slice_get xs i ≡ Some x → j + i ≡ k → k < 94 ^ 3 → j + length xs ≤ 94 ^ 3
    → find (gives (code_of k)) (reverse (pieces f j xs)) ≡ find (gives (code_of k)) (reverse (f k x))
last_piece f own k j i [] x is at named within = cc
last_piece {X} f own k j zero (y ∷ xs) x is at named within =
    let test : Line → Bool = gives (code_of k) in
    let here : Option Line = find test (reverse (f j y)) in
    let number : j ≡ k = omega arith in
    let signal : y ≡ x = cc in
    last_append test (f j y) (pieces f (j + 1) xs)
    ∙ ap (λ (found : Option Line). option_or found here) (none_behind f own k (j + 1) xs (omega arith) (omega arith))
    ∙ ap (λ (n : ℕ). find test (reverse (f n y))) number ∙ ap (λ (z : X). find test (reverse (f k z))) signal
last_piece f own k j (suc i) (y ∷ xs) x is at named within =
    let test : Line → Bool = gives (code_of k) in
    let there : Option Line = find test (reverse (f k x)) in
    let none : find test (reverse (f j y)) ≡ None = own k j y (omega arith) (omega arith) (λ same. omega arith) in
    last_append test (f j y) (pieces f (j + 1) xs)
    ∙ ap (λ (found : Option Line). option_or found (find test (reverse (f j y)))) (last_piece f own k (j + 1) i xs x is (omega arith) named (omega arith))
    ∙ ap (λ (found : Option Line). option_or there found) none
    ∙ or_none there

-- a value of each
pub last_value : (k : ℕ) (what : Shown) → find (gives (code_of k)) (reverse (value_line k what ∷ [])) ≡ Some (value_line k what)
last_value k what = ap (λ (b : Bool). cond b (Some (value_line k what)) None) (gives_own k what)

pub no_value : (k j : ℕ) (what : Shown) → k < 94 ^ 3 → j < 94 ^ 3 → (j ≡ k → ⊥) → find (gives (code_of k)) (reverse (value_line j what ∷ [])) ≡ None
no_value k j what within also differ = ap (λ (b : Bool). cond b (Some (value_line j what)) None) (gives_other k j what within also differ)
