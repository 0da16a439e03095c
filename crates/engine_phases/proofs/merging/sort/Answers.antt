use Rattle.std.proofs.Common.{rules, ◌≡◌, ℕ, List, sym, ◌∙◌}
use Rattle.std.specs.List.{filter}
use Rattle.std.proofs.lemmas.Fn.{always_returns_same}
use Rattle.std.proofs.lemmas.List.Sorted.{IsNonDecreasingBy-from_sort_by_key}
use Rattle.history_model.specs.declared.event.Stamped.{Stamped}
use Rattle.engine_phases.specs.merging.Merged.{in_order}
use Rattle.engine_phases.proofs.merging.OrderLemmas.{rises_from, in_order_rises, in_order_stable, one_order}
use Rattle.engine_phases.proofs.merging.TieLemmas.{same_stamp, same_tests}
use Rattle.engine_phases.proofs.merging.sort.Goals as goal

pub returns : goal.returns
returns c =
    let key : Stamped → ℕ = λ e. e.stamp in
    let old : List Stamped = c.args.all.items in
    let new : List Stamped = c.sort_by_key.new.self.items in
    let up = IsNonDecreasingBy-from_sort_by_key key new c.in_ok-sort_by_key.ensures.sorted (λ a r q k. search rules) in
    let stable : (x : Stamped) → filter (same_stamp x) new ≡ filter (same_stamp x) old = c.sort_by_key.ensures.stable key (always_returns_same _ (λ a r. r ≡ a.0.now.stamp) _ (λ a r q k. search rules)) in
    one_order same_stamp same_tests new (in_order old) (rises_from new up) (in_order_rises old) (λ x. stable x ∙ sym (in_order_stable same_stamp same_tests x old))
