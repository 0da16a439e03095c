use Rattle.std.proofs.Common.{◌≡◌, ℕ, None, List, length, replicate, false, ap, refl, ◌∙◌, arith}
use Rattle.board_model.specs.declared.agents.Master.{Master}
use Rattle.board_model.specs.declared.board.Board.{Board}
use Rattle.run_waves.proofs.WatchLemmas.{at_first}
use Rattle.run_waves.proofs.watch.Watch.new.Goals as goal

pub returns : goal.returns
returns c =
    let masters = ap (λ (l : List Master). length l) c.as_slice-master-items.ensures in
    let board = ap (λ (b : Board). length b.masters) c.board.ensures.value in
    let all : c.loop-master._master-index ≡ length c.args.tree.now.masters = omega (arith, masters, board) in
    at_first c.args.tree.now c.in_ok-new.field-0 c.loop-master.waits.items None c.in_ok-new.ensures (c.loop-master.invariant ∙ ap (λ (n : ℕ). replicate n false) all) refl
