use Rattle.std.proofs.Common.{◌≡◌, ℕ, ◌+◌, List, [], ◌∷◌, ◌++◌, Bool, true, false, map, sym, ap, subst, ◌∙◌, arith, slice_get, get_or, length, ◌<◌}
use Rattle.std.specs.List.{AllByRecursion, filter, range_with_len}
use Rattle.std.proofs.lemmas.List.{map-append}
use Rattle.list_facts.proofs.EachLemmas.{Each-push}
use Rattle.board_model.specs.declared.agents.Target.{Target}
use Rattle.bus_targets.specs.State.{TargetView}
use Rattle.bus_targets.specs.Stands.{TargetStands}
use Rattle.board_model.proofs.FewLemmas.{target_more}
use Rattle.engine_segments.specs.First.{has_target}
use Rattle.engine_segments.proofs.NumberLemmas.{passing_more, passing_skipped}
use Rattle.engine_segments.proofs.agents.targets_on.Goals as goal
use Rattle.engine_segments.proofs.agents.targets_on.Goals.{then-has_target+in_ok-new+in_ok-push, else-has_target}

pub loop-place-preserved : goal.loop-place-preserved
loop-place-preserved c =
    let n : ℕ = c.loop-place.place in
    let before : List TargetView = c.loop-place.targets.items in
    let on : ℕ → Bool = λ target. has_target c.args.bus (slice_get c.args.board.now.targets target) in
    let number : TargetView → ℕ = λ m. m.target in
    let push : List ℕ → List ℕ = λ l. l ++ n ∷ [] in
    let numbers : List TargetView → Type 0 = λ l. map number l ≡ filter on (range_with_len 0 (n + 1)) in
    let all : List TargetView → Type 0 = AllByRecursion (TargetStands c.args.board.now []) in
    let same : c.as_slice-target-items.result.now ≡ c.args.board.now.targets = c.as_slice-target-items.ensures in
    let agent : Target = c.target-item.result in
    let wide : agent.bus < 256 = omega arith in
    let there : agent ≡ get_or c.args.board.now.targets n agent = subst (λ (l : List Target). agent ≡ get_or l n agent) same c.target-item.is in
    let within : n < length c.args.board.now.targets = subst (λ (l : List Target). n < length l) same c.loop-place-test.true in
    let fits = target_more c.args.board.now.targets n agent within c.loop-place.invariant.2 (subst (λ (a : Target). a.bus < 256) there wide) in
    elim c.if-has_target.branch [
      | then-has_target+in_ok-new+in_ok-push w ↦
          let made : TargetView = w.in_ok-new.field-0 in
          let passes : on n ≡ true = sym c.has_target.ensures ∙ w.if-has_target.true in
          let longer : c.if-has_target.targets.items ≡ before ++ made ∷ [] = ap (λ v. v.items) w.targets-is ∙ w.in_ok-push.ensures.items in
          let is : number made ≡ n = w.in_ok-new.ensures.is in
          let stands : TargetStands c.args.board.now [] made = w.in_ok-new.ensures.stands in (
            subst numbers (sym longer) (map-append number before (made ∷ []) ∙ (ap (λ (k : ℕ). map number before ++ k ∷ []) is ∙ (ap push c.loop-place.invariant.0 ∙ sym (passing_more on n passes)))),
            subst all (sym longer) (Each-push (TargetStands c.args.board.now []) before made c.loop-place.invariant.1 stands),
            fits,
          )
      | else-has_target w ↦
          let fails : on n ≡ false = sym c.has_target.ensures ∙ w.if-has_target.false in
          let same : c.if-has_target.targets.items ≡ before = ap (λ v. v.items) w.targets-is in (
            subst numbers (sym same) (c.loop-place.invariant.0 ∙ sym (passing_skipped on n fails)),
            subst all (sym same) c.loop-place.invariant.1,
            fits,
          )
    ]
