use Rattle.std.proofs.Common.{ℕ, ◌==◌, sym, ◌∙◌}
use Rattle.std.proofs.lemmas.List.Sorted.{IsNonDecreasingBy-from_sort, list_any-IsPermutation}
use Rattle.bus_agents.proofs.marks.lane_marks.numbers_on.Goals as goal

pub returns-clause-rise : goal.returns-clause-rise
returns-clause-rise c = IsNonDecreasingBy-from_sort (λ (number : ℕ). number) c.sort_unstable.new.self.items c.sort_unstable.ensures.sorted

pub returns-clause-named : goal.returns-clause-named
returns-clause-named c =
    record {
      each = λ n. sym (list_any-IsPermutation (λ (number : ℕ). number == n) c.in_ok-numbers.numbers.items c.sort_unstable.new.self.items c.sort_unstable.ensures.permutation) ∙ c.in_ok-numbers.ensures.each n;
    }
