use Rattle.std.proofs.Common.{◌≡◌, Bool, true, subst}
use Rattle.engine_runs.specs.Loop.{seen}
use Rattle.engine_runs.specs.threads.Turns.{HasTurned}
use Rattle.engine_runs.proofs.threads.TurnLemmas.{turned_more}
use Rattle.engine_runs.proofs.threads.phase.work.Goals as goal

pub loop-preserved : goal.loop-preserved
loop-preserved g c =
    let E = g.L.LaneEnd in
    let T : Bool → Type 0 = λ b. HasTurned {End = g.row.L.Denot} E.had E.sent E.got E.kept E.paired c.args.board.now (seen c.args.worker.now) c.loop.worker b in
    let on : c.loop.goes_on ≡ true = c.if-not-goes_on.false in
    turned_more E.had E.sent E.got E.kept E.paired c.args.board.now c.steps_go_on.ensures.further (seen c.args.worker.now) c.loop.worker c.turn-goes_on-in-loop.new.worker c.turn-goes_on-in-loop.result
    c.requires.ready.going (subst T on c.loop.invariant) c.turn-goes_on-in-loop.ensures.turned
