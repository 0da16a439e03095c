use Rattle.std.proofs.Common.{◌≡◌, ℕ, List, [], ◌∷◌, ◌++◌, Bool, true, false, map, sym, ap, ◌∙◌, arith, append_assoc, refl}
use Rattle.std.specs.List.{filter, range_with_len}
use Rattle.std.proofs.lemmas.List.{map-append}
use Rattle.board_model.specs.declared.bridge.Lane.{Lane as BridgeLane}
use Rattle.engine_segments.specs.First.{is_below, own_lane, up_from}
use Rattle.engine_segments.proofs.NumberLemmas.{passing_more, passing_skipped, all_children}
use Rattle.engine_segments.proofs.order.lanes_to.Goals as goal
use Rattle.engine_segments.proofs.order.lanes_to.Goals.{then-is_below+in_ok-push-2, else-is_below}

pub loop-child-preserved : goal.loop-child-preserved
loop-child-preserved c =
    let child : ℕ = c.loop-child.child in
    let below : ℕ → Bool = is_below c.args.board.now c.args.bus in
    let own : List BridgeLane = own_lane c.args.board.now c.args.bus in
    let so_far : List ℕ = filter below (range_with_len 0 child) in
    let push : List BridgeLane → List BridgeLane = λ l. l ++ up_from child ∷ [] in
    elim c.if-is_below.branch [
      | then-is_below+in_ok-push-2 w ↦
          let passes : below child ≡ true = sym c.is_below.ensures ∙ w.if-is_below.true in
          let longer = ap (map up_from) (passing_more below child passes) ∙ map-append up_from so_far (child ∷ []) in
          ap (λ v. v.items) w.lanes-is ∙ (w.in_ok-push-2.ensures.items ∙ (ap push c.loop-child.invariant ∙ (append_assoc own (map up_from so_far) (up_from child ∷ []) ∙ sym (ap (λ (l : List BridgeLane). own ++ l) longer))))
      | else-is_below w ↦
          let fails : below child ≡ false = sym c.is_below.ensures ∙ w.if-is_below.false in
          ap (λ v. v.items) w.lanes-is ∙ (c.loop-child.invariant ∙ sym (ap (λ (l : List ℕ). own ++ map up_from l) (passing_skipped below child fails)))
    ]

pub returns : goal.returns
returns c =
    let own : List BridgeLane = own_lane c.args.board.now c.args.bus in
    let below : ℕ → Bool = is_below c.args.board.now c.args.bus in
    let all = all_children c.args.board.now c.args.bus c.loop-child.child (filter below (range_with_len 0 c.loop-child.child)) (omega arith) refl in
    c.loop-child.invariant ∙ ap (λ (l : List ℕ). own ++ map up_from l) all
