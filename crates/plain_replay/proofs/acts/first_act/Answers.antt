use Rattle.std.proofs.Common.{◌≡◌, ℕ, Option, Some, arith}
use Rattle.board_model.specs.declared.board.Board.{Board}
use Rattle.history_model.specs.declared.event.Event.{Event}
use Rattle.history_model.specs.Runs.{history_of}
use Rattle.history_model.specs.Next.{act_on}
use Rattle.law_lanes.proofs.progress.NextFirstLemmas.{bus_found, bus_none}
use Rattle.plain_replay.proofs.acts.first_act.Goals as goal

pub returns-in-Some : goal.returns-in-Some
returns-in-Some c =
    let board : Board = c.args.board.now in
    let h = history_of c.args.before.now in
    let gives : ℕ → Option Event = act_on board h in
    let here : gives c.loop-bus.bus ≡ Some c.in-Some.event = cc in
    bus_found gives c.loop-bus.bus c.in-Some.event c.loop-bus.invariant here (omega arith)

pub returns : goal.returns
returns c =
    let board : Board = c.args.board.now in
    let h = history_of c.args.before.now in
    let gives : ℕ → Option Event = act_on board h in
    bus_none gives c.loop-bus.bus c.loop-bus.invariant (omega arith)
