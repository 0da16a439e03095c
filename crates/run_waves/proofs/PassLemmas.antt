-- What is gathered of the numbers that pass, one after the other.
use Rattle.std.proofs.Common.{◌≡◌, ℕ, ◌+◌, zero, suc, Bool, true, false, cond, ◌==◌, List, [], ◌∷◌, ◌++◌, Some, sym, ap, ◌∙◌, arith, append_assoc, append-nil, slice_get}
use Rattle.std.specs.List.{filter, flat_map, range_with_len}
use Rattle.std.proofs.lemmas.List.Elements.{filter-append}
use Rattle.std.proofs.lemmas.Grind.{flat_map-append}
use Rattle.board_model.specs.declared.agents.Master.{Master}
use Rattle.board_model.specs.declared.agents.Target.{Target}
use Rattle.history_model.specs.Answers.{is_on}
use Rattle.run_waves.specs.Signals.{is_target_on}

range_more : (a n : ℕ) → range_with_len a (n + 1) ≡ range_with_len a n ++ (a + n) ∷ []
range_more a zero =
    let one : zero + 1 ≡ suc zero = omega arith in
    ap (range_with_len a) one ∙ ap (λ (m : ℕ). m ∷ []) (omega arith)
range_more a (suc n) =
    let more : suc n + 1 ≡ suc (n + 1) = omega arith in
    ap (range_with_len a) more ∙ ap (λ (l : List ℕ). a ∷ l) (range_more (a + 1) n ∙ ap (λ (m : ℕ). range_with_len (a + 1) n ++ m ∷ []) (omega arith))

filter_more : (test : ℕ → Bool) (n : ℕ) → filter test (range_with_len 0 (n + 1)) ≡ filter test (range_with_len 0 n) ++ cond (test n) (n ∷ []) []
filter_more test n =
    ap (filter test) (range_more 0 n ∙ ap (λ (m : ℕ). range_with_len 0 n ++ m ∷ []) (omega arith)) ∙ filter-append test (range_with_len 0 n) (n ∷ [])

-- a number that passes
pub passing_one : (test : ℕ → Bool) (n : ℕ) → test n ≡ true → filter test (range_with_len 0 (n + 1)) ≡ filter test (range_with_len 0 n) ++ n ∷ []
passing_one test n passes = filter_more test n ∙ ap (λ (b : Bool). filter test (range_with_len 0 n) ++ cond b (n ∷ []) []) passes

-- and one that does not
pub passing_none : (test : ℕ → Bool) (n : ℕ) → test n ≡ false → filter test (range_with_len 0 (n + 1)) ≡ filter test (range_with_len 0 n)
passing_none test n fails = filter_more test n ∙ ap (λ (b : Bool). filter test (range_with_len 0 n) ++ cond b (n ∷ []) []) fails ∙ append-nil (filter test (range_with_len 0 n))

-- what is gathered then
pub flat_one : {X : Type 0} (f : ℕ → List X) (test : ℕ → Bool) (n : ℕ) (old now next : List X) → test n ≡ true
    → now ≡ old ++ flat_map f (filter test (range_with_len 0 n)) → next ≡ now ++ f n → next ≡ old ++ flat_map f (filter test (range_with_len 0 (n + 1)))
flat_one {X} f test n old now next passes so is =
    let front : List ℕ = filter test (range_with_len 0 n) in
    let all : flat_map f (filter test (range_with_len 0 (n + 1))) ≡ flat_map f front ++ f n =
    ap (flat_map f) (passing_one test n passes) ∙ flat_map-append f front (n ∷ []) ∙ ap (λ (l : List X). flat_map f front ++ l) (append-nil (f n)) in
    is ∙ ap (λ (l : List X). l ++ f n) so ∙ append_assoc old (flat_map f front) (f n) ∙ ap (λ (l : List X). old ++ l) (sym all)

pub flat_none : {X : Type 0} (f : ℕ → List X) (test : ℕ → Bool) (n : ℕ) (old now : List X) → test n ≡ false
    → now ≡ old ++ flat_map f (filter test (range_with_len 0 n)) → now ≡ old ++ flat_map f (filter test (range_with_len 0 (n + 1)))
flat_none {X} f test n old now fails so =
    so ∙ ap (λ (l : List X). old ++ l) (sym (ap (flat_map f) (passing_none test n fails)))

-- whether an agent at a place is on the bus
pub master_on : (bus n on : ℕ) (masters : List Master) (agent : Master) (b : Bool) → slice_get masters n ≡ Some agent → on ≡ agent.bus → (on == bus) ≡ b → is_on bus (slice_get masters n) ≡ b
master_on bus n on masters agent b there is test = ap (is_on bus) there ∙ ap (λ (m : ℕ). m == bus) (sym is) ∙ test

pub target_on : (bus n on : ℕ) (targets : List Target) (agent : Target) (b : Bool) → slice_get targets n ≡ Some agent → on ≡ agent.bus → (on == bus) ≡ b → is_target_on bus (slice_get targets n) ≡ b
target_on bus n on targets agent b there is test = ap (is_target_on bus) there ∙ ap (λ (m : ℕ). m == bus) (sym is) ∙ test
