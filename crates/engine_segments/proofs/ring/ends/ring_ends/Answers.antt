use Rattle.std.proofs.Common.{◌≡◌, ℕ, ◌+◌, List, Vec, Global, false, map, sym, ap, subst, ◌∙◌, arith}
use Rattle.board_model.specs.declared.board.Board.{Board}
use Rattle.board_model.specs.Valid.{has_bridge_to}
use Rattle.lane_ends.specs.declared.ring.ring_end.RingEnd.{RingEnd}
use Rattle.engine_segments.specs.ring.Making.{RingsSoFar}
use Rattle.engine_segments.proofs.ring.RingLemmas.{rings_skipped, rings_fit, rings_pairs}
use Rattle.engine_segments.proofs.ring.ends.ring_ends.Goals as goal
use Rattle.engine_segments.proofs.ring.ends.ring_ends.Goals.{then-has_bridge_to+in_ok-add_pair, else-has_bridge_to}

pub loop-bus-preserved : goal.loop-bus-preserved
loop-bus-preserved c =
    let bus : ℕ = c.loop-bus.bus in
    let tree : Board = c.args.tree.now in
    let items : Vec RingEnd Global → List RingEnd = λ at. at.items in
    let Then : Vec (Vec RingEnd Global) Global → Type 0 = λ v. RingsSoFar tree (bus + 1) (map items v.items) in
    elim c.if-has_bridge_to.branch [
      | then-has_bridge_to+in_ok-add_pair w ↦
          let is : Then w.add_pair.new.ends = subst (λ (b : Board). RingsSoFar b (bus + 1) (map items w.add_pair.new.ends.items)) c.board-board.ensures.value w.in_ok-add_pair.ensures in
          subst Then (sym w.ends-is) is
      | else-has_bridge_to w ↦
          let lacks : has_bridge_to tree bus ≡ false = ap (λ (b : Board). has_bridge_to b bus) (sym c.board-board.ensures.value) ∙ (sym c.has_bridge_to.ensures ∙ w.if-has_bridge_to.false) in
          subst Then (sym w.ends-is) (rings_skipped tree bus (map items c.loop-bus.ends.items) c.loop-bus.invariant lacks)
    ]

pub returns-clause-fit : goal.returns-clause-fit
returns-clause-fit c =
    let items : Vec RingEnd Global → List RingEnd = λ at. at.items in
    rings_fit c.args.tree.now c.loop-bus.bus (map items c.loop-bus.ends.items) (omega arith) c.loop-bus.invariant

pub returns-clause-pairs : goal.returns-clause-pairs
returns-clause-pairs c =
    let items : Vec RingEnd Global → List RingEnd = λ at. at.items in
    rings_pairs c.args.tree.now c.loop-bus.bus (map items c.loop-bus.ends.items) (omega arith) c.loop-bus.invariant
