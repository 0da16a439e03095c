use Rattle.std.proofs.Common.{◌≡◌, ℕ, List, [], ◌∷◌, ◌++◌, true, false, sym, ap, ◌∙◌, arith}
use Rattle.board_model.specs.Valid.{is_bus}
use Rattle.engine_segments.proofs.NumberLemmas.{passing_more, passing_skipped, all_buses}
use Rattle.engine_segments.proofs.order.buses.Goals as goal
use Rattle.engine_segments.proofs.order.buses.Goals.{then-is_bus+in_ok-push, else-is_bus}

pub loop-bus-preserved : goal.loop-bus-preserved
loop-bus-preserved c =
    let bus : ℕ = c.loop-bus.bus in
    let push : List ℕ → List ℕ = λ l. l ++ bus ∷ [] in
    elim c.if-is_bus.branch [
      | then-is_bus+in_ok-push w ↦
          let passes : is_bus c.args.board.now bus ≡ true = sym c.is_bus.ensures ∙ w.if-is_bus.true in
          ap (λ v. v.items) w.buses-is ∙ (w.in_ok-push.ensures.items ∙ (ap push c.loop-bus.invariant ∙ sym (passing_more (is_bus c.args.board.now) bus passes)))
      | else-is_bus w ↦
          let fails : is_bus c.args.board.now bus ≡ false = sym c.is_bus.ensures ∙ w.if-is_bus.false in
          ap (λ v. v.items) w.buses-is ∙ (c.loop-bus.invariant ∙ sym (passing_skipped (is_bus c.args.board.now) bus fails))
    ]

pub returns : goal.returns
returns c = all_buses c.args.board.now c.loop-bus.bus c.loop-bus.buses.items (omega arith) c.loop-bus.invariant
