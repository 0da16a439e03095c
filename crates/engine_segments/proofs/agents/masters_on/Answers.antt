use Rattle.std.proofs.Common.{◌≡◌, ℕ, ◌+◌, List, [], ◌∷◌, ◌++◌, Bool, true, false, map, sym, ap, subst, ◌∙◌, arith, slice_get, get_or, length, ◌<◌}
use Rattle.std.specs.List.{AllByRecursion, filter, range_with_len}
use Rattle.std.proofs.lemmas.List.{map-append}
use Rattle.list_facts.proofs.EachLemmas.{Each-push}
use Rattle.board_model.specs.declared.agents.Master.{Master}
use Rattle.history_model.specs.Answers.{is_on}
use Rattle.bus_agents.specs.Turns.{MasterView, MasterStands}
use Rattle.board_model.proofs.FewLemmas.{master_more}
use Rattle.engine_segments.proofs.NumberLemmas.{passing_more, passing_skipped}
use Rattle.engine_segments.proofs.agents.masters_on.Goals as goal
use Rattle.engine_segments.proofs.agents.masters_on.Goals.{then-is_on+in_ok-push, else-is_on}

pub loop-place-preserved : goal.loop-place-preserved
loop-place-preserved c =
    let n : ℕ = c.loop-place.place in
    let before : List MasterView = c.loop-place.masters.items in
    let on : ℕ → Bool = λ master. is_on c.args.bus (slice_get c.args.board.now.masters master) in
    let number : MasterView → ℕ = λ m. m.master in
    let push : List ℕ → List ℕ = λ l. l ++ n ∷ [] in
    let numbers : List MasterView → Type 0 = λ l. map number l ≡ filter on (range_with_len 0 (n + 1)) in
    let all : List MasterView → Type 0 = AllByRecursion (MasterStands c.args.board.now []) in
    let same : c.as_slice-master-items.result.now ≡ c.args.board.now.masters = c.as_slice-master-items.ensures in
    let agent : Master = c.master-item.result in
    let wide : agent.bus < 256 = omega arith in
    let there : agent ≡ get_or c.args.board.now.masters n agent = subst (λ (l : List Master). agent ≡ get_or l n agent) same c.master-item.is in
    let within : n < length c.args.board.now.masters = subst (λ (l : List Master). n < length l) same c.loop-place-test.true in
    let fits = master_more c.args.board.now.masters n agent within c.loop-place.invariant.2 (subst (λ (a : Master). a.bus < 256) there wide) in
    elim c.if-is_on.branch [
      | then-is_on+in_ok-push w ↦
          let made : MasterView = w.new.result in
          let passes : on n ≡ true = sym c.is_on.ensures ∙ w.if-is_on.true in
          let longer : c.if-is_on.masters.items ≡ before ++ made ∷ [] = ap (λ v. v.items) w.masters-is ∙ w.in_ok-push.ensures.items in
          let is : number made ≡ n = ap number w.new.ensures.kept in
          let stands : MasterStands c.args.board.now [] made = w.new.ensures.stands in (
            subst numbers (sym longer) (map-append number before (made ∷ []) ∙ (ap (λ (k : ℕ). map number before ++ k ∷ []) is ∙ (ap push c.loop-place.invariant.0 ∙ sym (passing_more on n passes)))),
            subst all (sym longer) (Each-push (MasterStands c.args.board.now []) before made c.loop-place.invariant.1 stands),
            fits,
          )
      | else-is_on w ↦
          let fails : on n ≡ false = sym c.is_on.ensures ∙ w.if-is_on.false in
          let same : c.if-is_on.masters.items ≡ before = ap (λ v. v.items) w.masters-is in (
            subst numbers (sym same) (c.loop-place.invariant.0 ∙ sym (passing_skipped on n fails)),
            subst all (sym same) c.loop-place.invariant.1,
            fits,
          )
    ]
