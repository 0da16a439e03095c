-- Which events are keys.
use Rattle.std.proofs.Common.{◌≡◌, ◌<◌, ◌+◌, ℕ, Bool, true, false, ◌||◌, List, length, take, get_or, refl, sym, ap, ◌∙◌, arith}
use Rattle.std.proofs.lemmas.List.Folds.{list_any_more}
use Rattle.std.specs.List.{list_any}
use Rattle.draw_told.specs.Kept.{key_at, Marks}

or_assoc : (a b c : Bool) → ((a || b) || c) ≡ (a || (b || c))
or_assoc true b c = refl
or_assoc false b c = refl

pub marks_then : (a b c : List Bool) (t u : ℕ → Bool) → Marks a b t → Marks b c u → Marks a c (λ n. t n || u n)
marks_then a b c t u first second = record {
  all = second.all ∙ first.all;
  each = λ n above within.
      second.each n above (omega (arith, within, first.all)) ∙ ap (λ x. x || u n) (first.each n above within) ∙ or_assoc (key_at a n) (t n) (u n);
}

-- one element more of a list, each of which marks by its test
pub marks_more : {X : Type 0} (test : ℕ → X → Bool) (xs : List X) (i : ℕ) (d : X) (a b c : List Bool) → i < length xs
    → Marks a b (λ n. list_any (test n) (take i xs)) → Marks b c (λ n. test n (get_or xs i d)) → Marks a c (λ n. list_any (test n) (take (i + 1) xs))
marks_more test xs i d a b c inside first second =
    let both = marks_then a b c (λ n. list_any (test n) (take i xs)) (λ n. test n (get_or xs i d)) first second in
    record {
      all = both.all;
      each = λ n above within. both.each n above within ∙ ap (λ x. key_at a n || x) (sym (list_any_more (test n) xs i d inside));
    }
