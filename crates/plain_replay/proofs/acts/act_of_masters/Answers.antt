use Rattle.std.proofs.Common.{◌≡◌, ℕ, length, Option, Some, sym, ap, arith}
use Rattle.board_model.specs.declared.board.Board.{Board}
use Rattle.history_model.specs.declared.event.Event.{Event}
use Rattle.history_model.specs.Program.{turn_of}
use Rattle.history_model.specs.Runs.{history_of}
use Rattle.history_model.specs.Next.{act_of_turn}
use Rattle.law_lanes.proofs.progress.NextFirstLemmas.{below_found}
use Rattle.plain_replay.proofs.acts.act_of_masters.Goals as goal

pub returns-in-Some : goal.returns-in-Some
returns-in-Some c =
    let board : Board = c.args.board.now in
    let h = history_of c.args.before.now in
    let gives : ℕ → Option Event = λ master. act_of_turn board h c.args.bus (turn_of board h master) in
    let here : gives c.loop-index.index ≡ Some c.in-Some.event = cc in
    sym (below_found gives c.loop-index.index c.in-Some.event c.loop-index.invariant.0 here (length board.masters) (omega (arith, ap length c.as_slice-master-items.ensures)))
